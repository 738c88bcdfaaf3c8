use Rattle.std.proofs.Common.{◌≡◌, ◌+◌, ◌-◌}
use Rattle.window_access.specs.Access.{IsBelow, first_failing}
use Rattle.window_access.specs.declared.refusals.Cause.TheVariants as causes
use Rattle.window_access.proofs.checks.first_failing.Given as goal

abbrev pub invariant-loop-left : goal.invariant-loop-left
invariant-loop-left g l =
    let board = g.F.FileBoard.board in
    record {
      same : board l.files ≡ board l.fn.files;
      place : l.at + l.left ≡ l.fn.moffset + l.fn.len;
      below : l.cause ≡ causes.PastEnd → IsBelow l.map l.fn.moffset (l.at - l.fn.moffset);
      rest : first_failing (board l.fn.files) l.map l.cause l.fn.moffset l.fn.len ≡ first_failing (board l.fn.files) l.map l.cause l.at l.left;
    }

abbrev pub decreases-loop-left : goal.decreases-loop-left
decreases-loop-left g l = l.left
