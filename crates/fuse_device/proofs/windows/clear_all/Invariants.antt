use Rattle.std.proofs.Common.{◌≡◌, length}
use Rattle.fuse_device.specs.State.{all_cleared}
use Rattle.fuse_device.proofs.Clears.{AreClearable}
use Rattle.fuse_device.proofs.windows.clear_all.Given as goal

abbrev pub invariant-loop-one : goal.invariant-loop-one
invariant-loop-one g l = record {
  cleared : all_cleared (g.M.MapBoard.map l.map) l.rest ≡ all_cleared (g.M.MapBoard.map l.fn.map) l.ones;
  pages : length (g.M.MapBoard.map l.map).table ≡ length (g.M.MapBoard.map l.fn.map).table;
  clearable : AreClearable (g.M.MapBoard.map l.map) l.rest;
}

abbrev pub decreases-loop-one : goal.decreases-loop-one
decreases-loop-one g l = length l.rest
