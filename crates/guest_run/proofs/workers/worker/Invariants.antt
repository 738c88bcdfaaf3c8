use Rattle.std.proofs.Common.{◌≡◌, length}
use Rattle.std.specs.List.{AllByRecursion}
use Rattle.page_map.specs.Board.{log_at}
use Rattle.range_tree.specs.Ranges.{range_count}
use Rattle.transcript_text.specs.TranscriptReading.{IsPrintableNumbered}
use Rattle.guest_dax.specs.Stands.{stand}
use Rattle.guest_io.specs.Holds.{LeavesRest}
use Rattle.guest_run.specs.Runs.{IsRunFrom}
use Rattle.guest_run.specs.Working.{IsIdle, TakesAlone, LeasesAlone, AreBarred, AreHeldUp, HasCounted, first_at, history_at, notes_at}
use Rattle.guest_run.proofs.Following.{IsFollowed}
use Rattle.guest_run.proofs.workers.worker.Given as goal

-- the lines so far are those of the first calls of the guest's run, and its holds are what they granted and didn't give back
abbrev pub invariant-loop-call : goal.invariant-loop-call
invariant-loop-call g l = record {
  number : l.made ≡ l.call-index;
  count : length l.lines ≡ l.call-index;
  idle : IsIdle (stand (g.W.Wire.wire l.guest.dax.driver.wire) (g.F.FileBoard.board l.guest.dax.files) (g.R.MapBoard.map l.guest.dax.ranges)) l.guest.dax.refs l.guest.holds;
  rest : LeavesRest (stand (g.W.Wire.wire l.fn.guest.dax.driver.wire) (g.F.FileBoard.board l.fn.guest.dax.files) (g.R.MapBoard.map l.fn.guest.dax.ranges)) (stand (g.W.Wire.wire l.guest.dax.driver.wire) (g.F.FileBoard.board l.guest.dax.files) (g.R.MapBoard.map l.guest.dax.ranges));
  refs : l.guest.dax.refs ≡ l.fn.guest.dax.refs;
  followed : IsFollowed l.calls l.lines l.guest.holds;
  run : IsRunFrom (g.F.FileBoard.board l.fn.guest.dax.files).guest (range_count (g.R.MapBoard.map l.fn.guest.dax.ranges)) (first_at (g.F.FileBoard.board l.fn.guest.dax.files)) (λ f. length (history_at (g.F.FileBoard.board l.fn.guest.dax.files) f))
      (history_at (g.F.FileBoard.board l.guest.dax.files)) (log_at (g.R.MapBoard.map l.guest.dax.ranges)) (notes_at (g.F.FileBoard.board l.guest.dax.files)) l.calls l.lines;
  barred : LeasesAlone (stand (g.W.Wire.wire l.fn.guest.dax.driver.wire) (g.F.FileBoard.board l.fn.guest.dax.files) (g.R.MapBoard.map l.fn.guest.dax.ranges)) → AreBarred l.calls l.lines;
  held_up : TakesAlone (stand (g.W.Wire.wire l.fn.guest.dax.driver.wire) (g.F.FileBoard.board l.fn.guest.dax.files) (g.R.MapBoard.map l.fn.guest.dax.ranges)) → AreHeldUp (range_count (g.R.MapBoard.map l.fn.guest.dax.ranges)) (log_at (g.R.MapBoard.map l.guest.dax.ranges)) l.calls l.lines;
  counts : HasCounted (stand (g.W.Wire.wire l.fn.guest.dax.driver.wire) (g.F.FileBoard.board l.fn.guest.dax.files) (g.R.MapBoard.map l.fn.guest.dax.ranges)) (stand (g.W.Wire.wire l.guest.dax.driver.wire) (g.F.FileBoard.board l.guest.dax.files) (g.R.MapBoard.map l.guest.dax.ranges)) l.calls l.lines;
  printable : AllByRecursion IsPrintableNumbered l.lines;
}
