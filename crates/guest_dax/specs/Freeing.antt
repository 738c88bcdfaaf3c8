-- How a mapped range is freed, and what shows that none can be.
use Rattle.std.specs.Prelude.{◌≡◌, ℕ, ◌+◌, ◌<◌, ◌≤◌, Bool, true, false, Option, Some, None, Result, Ok, Err}
use Rattle.page_map.specs.Board.{MapView, Noted, known_files}
use Rattle.page_map.specs.declared.ranges.RangeWord.{RangeWord}
use Rattle.page_map.specs.declared.ranges.RangeWord.TheVariants as words
use Rattle.range_tree.specs.Ranges.{range_count, pins_on, look_at, is_noted_blocked}
use Rattle.guest_dax.specs.Stands.{Stand}
use Rattle.guest_dax.specs.Looks.{Blocks, SomeUnblocked, NoLooks}
use Rattle.guest_dax.specs.Reclaims.{Searches, Attempted, EndsRemoved, OthersLooks, Caused}
use Rattle.guest_dax.specs.declared.attempts.Attempt.{Attempt}
use Rattle.guest_dax.specs.declared.refusals.DaxRefusal.{DaxRefusal}

-- A search for a mapped range passes over a range that is free, and over one that can't be taken.
abbrev pub Passes : MapView → ℕ → RangeWord → Type 0
Passes v own words.Free = Unit {0}
Passes v own (words.Moving guest) = Blocks v own (words.Moving guest)
Passes v own (words.Mapped file chunk mode pins) = Blocks v own (words.Mapped file chunk mode pins)

-- a range has a noted look that shows it free, or that it couldn't be taken; the pins noted with it are those of the board
pub record IsPassed (v now : MapView) (range : ℕ) : Type 0 where
  pub noted : Noted
  pub at : look_at now range ≡ Some noted
  pub own : noted.own ≡ pins_on v range
  pub passes : Passes v noted.own noted.word

-- what one attempt at a mapped range comes to; none is made at one that is seen free
abbrev pub Tried : MapView → ℕ → Option Attempt → MapView → Type 0
Tried old range None new = Searches old range new × (new.hands ≡ old.hands) × IsPassed old new range
Tried old range (Some attempt) new = Attempted old range attempt new

-- a range of a file was freed: what is seen of the file's log ends with its removal
pub record IsFreed (old new : MapView) : Type 0 where
  pub file : ℕ
  pub known : file < known_files old
  pub range : ℕ
  pub removed : EndsRemoved old new file range

-- what a search for a mapped range at one range comes to
abbrev pub FreesAt : Stand → ℕ → Result Bool DaxRefusal → Stand → Type 0
FreesAt old range (Ok true) new = (new.map.hands ≡ old.map.hands) × (is_noted_blocked (look_at new.map range) ≡ false) × IsFreed old.map new.map
FreesAt old range (Ok false) new = (new.map.hands ≡ old.map.hands) × OthersLooks old.map range (range + 1) new.map × IsPassed old.map new.map range
FreesAt old range (Err e) new = (new.map.hands ≡ old.map.hands) × (is_noted_blocked (look_at new.map range) ≡ false) × Caused old e new

-- what going over the ranges from one to below another comes to
abbrev pub FreesIn : Stand → ℕ → ℕ → Result Bool DaxRefusal → Stand → Type 0
FreesIn old from to (Ok true) new = (new.map.hands ≡ old.map.hands) × SomeUnblocked new.map × IsFreed old.map new.map
FreesIn old from to (Ok false) new = (new.map.hands ≡ old.map.hands) × OthersLooks old.map from to new.map × ((r : ℕ) → from ≤ r → r < to → IsPassed old.map new.map r)
FreesIn old from to (Err e) new = (new.map.hands ≡ old.map.hands) × SomeUnblocked new.map × Caused old e new

-- one look per range is noted, each of which shows the range free, or that it couldn't be taken
abbrev pub AllPassed : MapView → MapView → Type 0
AllPassed old new = (range : ℕ) → range < range_count old → IsPassed old new range

-- what a round over all ranges comes to
abbrev pub FreesOne : Stand → Result Bool DaxRefusal → Stand → Type 0
FreesOne old (Ok true) new = (new.map.hands ≡ old.map.hands) × SomeUnblocked new.map × IsFreed old.map new.map
FreesOne old (Ok false) new = (new.map.hands ≡ old.map.hands) × AllPassed old.map new.map
FreesOne old (Err e) new = (new.map.hands ≡ old.map.hands) × SomeUnblocked new.map × Caused old e new

-- What `reclaim_one` answers and leaves: a range was freed; or it shows of each range why not; or it was refused.
abbrev pub Reclaims : Stand → Result Bool DaxRefusal → Stand → Type 0
Reclaims old (Ok true) new = (new.map.hands ≡ old.map.hands) × NoLooks new.map × IsFreed old.map new.map
Reclaims old (Ok false) new = (new.map.hands ≡ old.map.hands) × AllPassed old.map new.map
Reclaims old (Err e) new = (new.map.hands ≡ old.map.hands) × NoLooks new.map × Caused old e new
