use Rattle.std.proofs.Common.{append_assoc, rules}
use Rattle.fuse_wire.specs.Inits.{init_in}
use Rattle.fuse_text.specs.RecordText.{init_in_text}
use Rattle.fuse_text.proofs.records.put_init_in.Goals as goal

pub returns-in_ok-put_field-clause-text : goal.returns-in_ok-put_field-clause-text
unfolding init_in_text init_in
returns-in_ok-put_field-clause-text c = rw (c.in_ok-put_field.ensures.text, c.in_ok-put_pairs.ensures.text, c.in-Some.is) (search (rules, append_assoc) depth 40)
