-- What is placed at a log's end is live there.
use Rattle.std.proofs.Common.{◌≡◌, subst, true, ℕ, List, Option, Some}
use Rattle.page_map.specs.declared.ranges.LogEntry.{LogEntry}
use Rattle.page_map.specs.declared.ranges.Placed.{Placed}
use Rattle.page_map.specs.Logs.{placed_at, sound}
use Rattle.range_tree.specs.Logs.{Finds, IsLivePlace}
use Rattle.range_tree.proofs.Living.{finds-placed}

pub placed_lives : (ranges : ℕ) (log : List LogEntry) (c : ℕ) (p : Placed) → sound ranges log ≡ true → placed_at log c ≡ Some p → IsLivePlace log c p
unfolding Finds
placed_lives ranges log c p is here = subst (λ (o : Option Placed). Finds log c o) here (finds-placed ranges log c is)
