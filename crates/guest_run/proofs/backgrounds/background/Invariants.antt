use Rattle.std.proofs.Common.{◌≡◌, ◌+◌, ◌-◌, ◌^◌, ◌≤◌, min}
use Rattle.guest_dax.specs.Stands.{stand}
use Rattle.guest_io.specs.Holds.{LeavesRest}
use Rattle.guest_run.specs.Working.{IsIdle}
use Rattle.guest_run.proofs.backgrounds.background.Given as goal

abbrev pub invariant-loop-time : goal.invariant-loop-time
invariant-loop-time g l = record {
  idle : IsIdle (stand (g.W.Wire.wire l.guest.dax.driver.wire) (g.F.FileBoard.board l.guest.dax.files) (g.R.MapBoard.map l.guest.dax.ranges)) l.guest.dax.refs l.guest.holds;
  rest : LeavesRest (stand (g.W.Wire.wire l.fn.guest.dax.driver.wire) (g.F.FileBoard.board l.fn.guest.dax.files) (g.R.MapBoard.map l.fn.guest.dax.ranges)) (stand (g.W.Wire.wire l.guest.dax.driver.wire) (g.F.FileBoard.board l.guest.dax.files) (g.R.MapBoard.map l.guest.dax.ranges));
  files : g.F.FileBoard.board l.guest.dax.files ≡ g.F.FileBoard.board l.fn.guest.dax.files;
  sweeps : min ((g.R.MapBoard.map l.fn.guest.dax.ranges).ranges.sweeps + l._time) (2 ^ 64 - 1) ≤ (g.R.MapBoard.map l.guest.dax.ranges).ranges.sweeps;
  refs : l.guest.dax.refs ≡ l.fn.guest.dax.refs;
}
