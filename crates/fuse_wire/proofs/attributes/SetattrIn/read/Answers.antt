use Rattle.std.proofs.Common.{rules, arith}
use Rattle.fuse_wire.specs.Attributes.{setattr_in_of}
use Rattle.fuse_wire.proofs.AttributeLaws.{setattr_in_law}
use Rattle.fuse_wire.proofs.attributes.SetattrIn.read.Goals as goal

pub returns-clause-found : goal.returns-clause-found
unfolding setattr_in_of
returns-clause-found c = setattr_in_law.found c.args.bytes.now _ (λ i. omega (arith, c.type_inv.bytes i)) (search rules)

pub returns-clause-only : goal.returns-clause-only
unfolding setattr_in_of
returns-clause-only c = λ r h. let p = setattr_in_law.again r c.args.bytes.now h in search (rules, p)
