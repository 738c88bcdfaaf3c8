use Rattle.std.proofs.Common.{◌≡◌, ◌<◌}
use Rattle.range_share.specs.Turns.{IsSame}
use Rattle.range_share.proofs.tests.take_any.Given as goal

abbrev pub invariant-loop : goal.invariant-loop
invariant-loop g l = (l.range < 2) × IsSame (g.B.MapBoard.map l.fn.board) (g.B.MapBoard.map l.board) × ((g.B.MapBoard.map l.board).hands ≡ (g.B.MapBoard.map l.fn.board).hands)
