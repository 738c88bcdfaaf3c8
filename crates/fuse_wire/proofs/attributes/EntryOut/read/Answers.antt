use Rattle.std.proofs.Common.{rules, arith}
use Rattle.fuse_wire.specs.Attributes.{entry_out_of}
use Rattle.fuse_wire.proofs.AttributeLaws.{entry_out_law}
use Rattle.fuse_wire.proofs.attributes.EntryOut.read.Goals as goal

pub returns-clause-found : goal.returns-clause-found
unfolding entry_out_of
returns-clause-found c = entry_out_law.found c.args.bytes.now _ (λ i. omega (arith, c.type_inv.bytes i)) (search rules)

pub returns-clause-only : goal.returns-clause-only
unfolding entry_out_of
returns-clause-only c = λ r h. let p = entry_out_law.again r c.args.bytes.now h in search (rules, p)
