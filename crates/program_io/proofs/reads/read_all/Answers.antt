use Rattle.std.proofs.Common.{◌++◌, take, arith}
use Rattle.std.proofs.lemmas.Grind.{common_steps}
use Rattle.std.proofs.KnownBytes.{Consumes-trans}
use Rattle.program_io.proofs.reads.read_all.Goals as goal

pub returns-then-n-limit-clause-most : goal.returns-then-n-limit-clause-most
returns-then-n-limit-clause-most g c = (
  c.loop-bytes.bytes.items ++ take c.in-Ok.n c.read.new.buf,
  Consumes-trans (g.S.Source.left c.args.source.now) (g.S.Source.left c.loop-bytes.source) (g.S.Source.left c.read.new.self) _ _ c.loop-bytes.invariant.consumed c.in-Ok.ensures.bytes.0,
  grind (arith, common_steps),
)

pub returns-then-is_err-clause-most : goal.returns-then-is_err-clause-most
returns-then-is_err-clause-most g c = (
  c.loop-bytes.bytes.items ++ take c.in-Ok.n c.read.new.buf,
  Consumes-trans (g.S.Source.left c.args.source.now) (g.S.Source.left c.loop-bytes.source) (g.S.Source.left c.read.new.self) _ _ c.loop-bytes.invariant.consumed c.in-Ok.ensures.bytes.0,
  grind (arith, common_steps),
)
