use Rattle.std.proofs.Common.{rules, arith}
use Rattle.fuse_wire.specs.Inits.{init_out_of}
use Rattle.fuse_wire.proofs.InitLaws.{init_out_law}
use Rattle.fuse_wire.proofs.inits.InitOut.read.Goals as goal

pub returns-clause-found : goal.returns-clause-found
unfolding init_out_of
returns-clause-found c = init_out_law.found c.args.bytes.now _ (λ i. omega (arith, c.type_inv.bytes i)) (search rules)

pub returns-clause-only : goal.returns-clause-only
unfolding init_out_of
returns-clause-only c = λ r h. let p = init_out_law.again r c.args.bytes.now h in search (rules, p)
