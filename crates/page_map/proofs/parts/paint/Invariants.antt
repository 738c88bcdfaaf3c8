use Rattle.std.proofs.Common.{◌≡◌, ◌-◌}
use Rattle.page_map.specs.Board.{replaced}
use Rattle.page_map.specs.Plain.{page_behind}
use Rattle.page_map.proofs.parts.paint.Given as goal

abbrev pub invariant-loop-k : goal.invariant-loop-k
invariant-loop-k l = l.table.items ≡ replaced (λ page. page_behind l.first (page - l.at)) l.fn.table.items l.at l.k
