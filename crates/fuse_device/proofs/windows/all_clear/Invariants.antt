use Rattle.std.proofs.Common.{◌≡◌, length}
use Rattle.std.specs.List.{list_all}
use Rattle.page_map.specs.Board.{may_clear}
use Rattle.fuse_device.proofs.windows.all_clear.Given as goal

abbrev pub invariant-loop-rest : goal.invariant-loop-rest
invariant-loop-rest g l = list_all (λ one. may_clear (g.M.MapBoard.map l.map) one.moffset one.len) l.rest ≡ list_all (λ one. may_clear (g.M.MapBoard.map l.map) one.moffset one.len) l.ones

abbrev pub decreases-loop-rest : goal.decreases-loop-rest
decreases-loop-rest g l = length l.rest
