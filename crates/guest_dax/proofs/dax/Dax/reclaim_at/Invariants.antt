use Rattle.std.proofs.Common.{◌≡◌, ◌+◌}
use Rattle.guest_dax.specs.Stands.{stand}
use Rattle.guest_dax.specs.Reclaims.{Walks, OthersLooks}
use Rattle.guest_dax.proofs.dax.Dax.reclaim_at.Given as goal

abbrev pub invariant-loop : goal.invariant-loop
invariant-loop g l = Walks (stand (g.W.Wire.wire l.fn.self.driver.wire) (g.F.FileBoard.board l.fn.self.files) (g.R.MapBoard.map l.fn.self.ranges)) (stand (g.W.Wire.wire l.self.driver.wire) (g.F.FileBoard.board l.self.files) (g.R.MapBoard.map l.self.ranges))
    × ((g.R.MapBoard.map l.self.ranges).hands ≡ (g.R.MapBoard.map l.fn.self.ranges).hands)
    × OthersLooks (g.R.MapBoard.map l.fn.self.ranges) l.range (l.range + 1) (g.R.MapBoard.map l.self.ranges)
    × (l.self.refs ≡ l.fn.self.refs)
    × (l.self.driver ≡ l.fn.self.driver)
