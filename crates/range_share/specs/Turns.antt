-- What the steps of the tests leave of a board as it was, and what a guest has in hand.
use Rattle.std.specs.Prelude.{◌≡◌, ℕ, ◌<◌, length, sum, Option}
use Rattle.page_map.specs.Board.{MapView}
use Rattle.range_tree.specs.Ranges.{pins_on}

-- the table, the guest, whether it may take ranges, and the number of files are the same
abbrev pub IsSame : MapView → MapView → Type 0
IsSame v w = (w.over ≡ v.over) × (w.ranges.guest ≡ v.ranges.guest) × (w.ranges.may_take ≡ v.ranges.may_take) × (length w.ranges.logs ≡ length v.ranges.logs)

-- the board has this tree, and so many pins, all of them on this range
pub record Has (v : MapView) (tree : Option ℕ) (range pins : ℕ) : Type 0 where
  pub tree_is : v.hands.tree ≡ tree
  pub count : sum v.hands.pins ≡ pins
  pub there : 0 < pins → pins_on v range ≡ pins
