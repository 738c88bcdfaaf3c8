use Rattle.std.proofs.Common.{◌≡◌, ◌≤◌, ◌-◌, length, take}
use Rattle.window_access.specs.Access.{loaded}
use Rattle.window_access.proofs.loads.load.Given as goal

abbrev pub invariant-loop-done : goal.invariant-loop-done
invariant-loop-done g l = record {
  within : l.done ≤ length l.fn.out;
  long : length l.out ≡ length l.fn.out;
  bytes : take l.done l.out ≡ loaded (g.F.FileBoard.board l.files) l.map l.moffset l.done;
}

abbrev pub decreases-loop-done : goal.decreases-loop-done
decreases-loop-done g l = length l.fn.out - l.done
