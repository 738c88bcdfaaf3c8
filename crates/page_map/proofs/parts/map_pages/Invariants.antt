use Rattle.std.proofs.Common.{◌≡◌, ◌-◌, ◌≤◌, length}
use Rattle.page_map.specs.Board.{replaced}
use Rattle.page_map.specs.Plain.{page_behind, pages_of, IsKept}
use Rattle.page_map.proofs.parts.map_pages.Given as goal

abbrev pub invariant-loop-done : goal.invariant-loop-done
invariant-loop-done l = record {
  kept : IsKept l.parts.items l.table.items;
  pages : pages_of l.parts.items l.table.items ≡ replaced (λ page. page_behind l.first (page - l.at)) (pages_of l.fn.parts.items l.fn.table.items) l.at l.done;
  upto : l.done ≤ l.count;
  long : length l.table.items ≡ length l.fn.table.items;
}

abbrev pub decreases-loop-done : goal.decreases-loop-done
decreases-loop-done l = l.count - l.done
