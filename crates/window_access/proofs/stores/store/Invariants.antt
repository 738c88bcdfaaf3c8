use Rattle.std.proofs.Common.{◌≡◌, take}
use Rattle.window_access.specs.Access.{CanAccess, all_applied, pieces}
use Rattle.window_access.proofs.stores.store.Given as goal

abbrev pub invariant-loop-k : goal.invariant-loop-k
invariant-loop-k g l = record {
  can : CanAccess (g.F.FileBoard.board l.files) l.map;
  applied : g.F.FileBoard.board l.files ≡ all_applied (g.F.FileBoard.board l.fn.files) (take l.k (pieces l.map l.moffset l.bytes));
}
