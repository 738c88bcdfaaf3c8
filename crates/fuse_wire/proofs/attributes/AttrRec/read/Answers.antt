use Rattle.std.proofs.Common.{rules, arith}
use Rattle.fuse_wire.specs.Attributes.{attr_rec_of}
use Rattle.fuse_wire.proofs.AttributeLaws.{attr_rec_law}
use Rattle.fuse_wire.proofs.attributes.AttrRec.read.Goals as goal

pub returns-clause-found : goal.returns-clause-found
unfolding attr_rec_of
returns-clause-found c = attr_rec_law.found c.args.bytes.now _ (λ i. omega (arith, c.type_inv.bytes i)) (search rules)

pub returns-clause-only : goal.returns-clause-only
unfolding attr_rec_of
returns-clause-only c = λ r h. let p = attr_rec_law.again r c.args.bytes.now h in search (rules, p)
