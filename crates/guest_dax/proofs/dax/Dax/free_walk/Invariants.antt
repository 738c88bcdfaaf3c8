use Rattle.std.proofs.Common.{◌≡◌, ◌<◌, ◌≤◌, ℕ}
use Rattle.guest_dax.specs.Stands.{stand}
use Rattle.guest_dax.specs.Freeing.{IsPassed}
use Rattle.guest_dax.specs.Reclaims.{Walks, OthersLooks}
use Rattle.guest_dax.proofs.dax.Dax.free_walk.Given as goal

abbrev pub invariant-loop-range : goal.invariant-loop-range
invariant-loop-range g l = Walks (stand (g.W.Wire.wire l.fn.self.driver.wire) (g.F.FileBoard.board l.fn.self.files) (g.R.MapBoard.map l.fn.self.ranges)) (stand (g.W.Wire.wire l.self.driver.wire) (g.F.FileBoard.board l.self.files) (g.R.MapBoard.map l.self.ranges))
    × ((g.R.MapBoard.map l.self.ranges).hands ≡ (g.R.MapBoard.map l.fn.self.ranges).hands)
    × OthersLooks (g.R.MapBoard.map l.fn.self.ranges) l.from l.range (g.R.MapBoard.map l.self.ranges)
    × ((r : ℕ) → l.from ≤ r → r < l.range → IsPassed (g.R.MapBoard.map l.fn.self.ranges) (g.R.MapBoard.map l.self.ranges) r)
    × (l.self.refs ≡ l.fn.self.refs)
    × (l.self.driver ≡ l.fn.self.driver)
