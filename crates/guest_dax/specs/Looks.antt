-- The looks that are noted of ranges, and what they show.
use Rattle.std.specs.Prelude.{◌≡◌, ◌≢◌, ℕ, ◌+◌, ◌<◌, ◌≤◌, true, false, List, [], ◌∷◌, replicate, Option, Some, None}
use Rattle.page_map.specs.Board.{MapView, Noted}
use Rattle.page_map.specs.declared.ranges.RangeWord.{RangeWord}
use Rattle.page_map.specs.declared.ranges.RangeWord.TheVariants as words
use Rattle.page_map.specs.declared.ranges.Look.{Look}
use Rattle.range_tree.specs.Ranges.{range_count, pins_on, look_at, is_noted_blocked}

-- no look is noted
abbrev pub no_looks : MapView → List (Option Noted)
no_looks v = replicate (range_count v) None

abbrev pub NoLooks : MapView → Type 0
NoLooks v = v.ranges.looks ≡ no_looks v

-- the noted looks in order of ranges, which are counted from this one
unfoldable pub looks_from : ℕ → List (Option Noted) → List Look
looks_from range [] = []
looks_from range (None ∷ rest) = looks_from (range + 1) rest
looks_from range (Some n ∷ rest) = record { range = range; word = n.word } ∷ looks_from (range + 1) rest

-- the look that a noted word is
unfoldable pub look_of : ℕ → Option RangeWord → List Look
look_of range None = []
look_of range (Some word) = record { range = range; word = word } ∷ []

-- A range can't be taken by the board: it is moving by another guest, or pinned. Where no other board pins or moves ranges, the pins are the board's own.
abbrev pub Blocks : MapView → ℕ → RangeWord → Type 0
Blocks v own words.Free = ⊥
Blocks v own (words.Moving guest) = (guest ≢ v.ranges.guest) × (v.ranges.others ≡ true)
Blocks v own (words.Mapped file chunk mode pins) = (0 < pins) × (own ≤ pins) × (v.ranges.others ≡ false → pins ≡ own)

-- a range has a noted look that shows that it couldn't be taken; the pins noted with it are those of the board
pub record IsBlocked (v now : MapView) (range : ℕ) : Type 0 where
  pub noted : Noted
  pub at : look_at now range ≡ Some noted
  pub own : noted.own ≡ pins_on v range
  pub blocks : Blocks v noted.own noted.word

-- one look per range is noted, each of which shows that the range couldn't be taken
abbrev pub AllBlocked : MapView → MapView → Type 0
AllBlocked old new = (range : ℕ) → range < range_count old → IsBlocked old new range

-- some range has no noted look that shows it moving or pinned
abbrev pub SomeUnblocked : MapView → Type 0
SomeUnblocked v = (range : ℕ) × (range < range_count v) × (is_noted_blocked (look_at v range) ≡ false)
