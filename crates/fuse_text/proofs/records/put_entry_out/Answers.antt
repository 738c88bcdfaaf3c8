use Rattle.std.proofs.Common.{append_assoc, rules}
use Rattle.fuse_wire.specs.Attributes.{entry_out}
use Rattle.fuse_text.specs.RecordText.{entry_out_text, attr_rec_text}
use Rattle.fuse_text.proofs.records.put_entry_out.Goals as goal

pub returns-clause-text : goal.returns-clause-text
unfolding entry_out_text attr_rec_text entry_out
returns-clause-text c = rw (c.in_ok-put_attr_rec.ensures.text, c.in_ok-put_pairs.ensures.text) (search (rules, append_assoc) depth 40)
