use Rattle.std.proofs.Common.{◌≡◌, ◌<◌, ℕ, None}
use Rattle.guest_dax.specs.Stands.{stand}
use Rattle.guest_dax.specs.Looks.{NoLooks}
use Rattle.guest_io.specs.Requests.{IsHome}
use Rattle.guest_io.specs.Going.{KeepsRefusals}
use Rattle.guest_io.specs.Holds.{granted_at, HasHolds, LeavesRest, SameEntries}
use Rattle.guest_io.proofs.guest.Guest.release_all.Given as goal

abbrev pub invariant-loop-hold : goal.invariant-loop-hold
invariant-loop-hold g l =
    IsHome (stand (g.W.Wire.wire l.self.dax.driver.wire) (g.F.FileBoard.board l.self.dax.files) (g.R.MapBoard.map l.self.dax.ranges)) l.self.dax.refs
    × HasHolds (stand (g.W.Wire.wire l.self.dax.driver.wire) (g.F.FileBoard.board l.self.dax.files) (g.R.MapBoard.map l.self.dax.ranges)) l.self.holds
    × LeavesRest (stand (g.W.Wire.wire l.fn.self.dax.driver.wire) (g.F.FileBoard.board l.fn.self.dax.files) (g.R.MapBoard.map l.fn.self.dax.ranges)) (stand (g.W.Wire.wire l.self.dax.driver.wire) (g.F.FileBoard.board l.self.dax.files) (g.R.MapBoard.map l.self.dax.ranges))
    × SameEntries (g.F.FileBoard.board l.fn.self.dax.files) (g.F.FileBoard.board l.self.dax.files)
    × (NoLooks (g.R.MapBoard.map l.fn.self.dax.ranges) → NoLooks (g.R.MapBoard.map l.self.dax.ranges))
    × ((g.R.MapBoard.map l.self.dax.ranges).ranges.logs ≡ (g.R.MapBoard.map l.fn.self.dax.ranges).ranges.logs)
    × (l.self.dax.driver ≡ l.fn.self.dax.driver)
    × (l.self.dax.refs ≡ l.fn.self.dax.refs)
    × ((n : ℕ) → n < l.hold → granted_at l.self.holds n ≡ None)
    × ((g.R.MapBoard.map l.self.dax.ranges).ranges.rounds ≡ (g.R.MapBoard.map l.fn.self.dax.ranges).ranges.rounds)
    × ((g.R.MapBoard.map l.self.dax.ranges).ranges.sweeps ≡ (g.R.MapBoard.map l.fn.self.dax.ranges).ranges.sweeps)
    × KeepsRefusals (g.F.FileBoard.board l.fn.self.dax.files) (g.F.FileBoard.board l.self.dax.files)
