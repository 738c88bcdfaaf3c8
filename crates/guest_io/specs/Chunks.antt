-- A chunk that is got for a call, the pins that a call has, and a direct operation through them.
use Rattle.std.specs.Prelude.{◌≡◌, ℕ, ◌+◌, ◌-◌, ◌<◌, ◌≤◌, List, length, take, slice_index_or, slice_set, Option, None, Some, Result, Ok, Err}
use Rattle.plain_file.specs.declared.operations.Op.{Op}
use Rattle.plain_file.specs.declared.operations.Way.{Way}
use Rattle.plain_file.specs.declared.operations.Way.TheVariants as ways
use Rattle.plain_file.specs.declared.refusals.Memory.{Memory}
use Rattle.plain_file.specs.Board.{BoardView}
use Rattle.page_map.specs.declared.pages.Mode.{Mode}
use Rattle.page_map.specs.Board.{MapView, Hands, log_at}
use Rattle.page_map.specs.Logs.{placed_at}
use Rattle.range_tree.specs.Ranges.{range_count, pins_on, pinned_in}
use Rattle.guest_dax.specs.Stands.{Stand}
use Rattle.guest_dax.specs.Looks.{NoLooks, AllBlocked, looks_from}
use Rattle.guest_dax.specs.Reclaims.{Caused}
use Rattle.guest_dax.specs.Pinning.{IsPin, with_one}
use Rattle.guest_dax.specs.declared.pins.Pinned.{Pinned}
use Rattle.guest_dax.specs.declared.refusals.DaxRefusal.{DaxRefusal}
use Rattle.guest_dax.specs.declared.refusals.DaxRefusal.TheVariants as refusals
use Rattle.guest_io.specs.declared.calls.Done.{Done}
use Rattle.guest_io.specs.Calls.{Directs, KeepsFloor}
use Rattle.guest_io.specs.Requests.{IsUndone}

-- An operation without a request: one entry, or none, and then others' entries may be seen.
abbrev pub AppliesDirect : BoardView → ℕ → ℕ → Way → Op → Result Done Memory → BoardView → Type 0
AppliesDirect old file call way op (Ok d) new = Directs old file call way op d new × KeepsFloor old file d new
AppliesDirect old file call way op (Err e) new = IsUndone old file new

-- ---- one chunk

-- the board has no pin on a range that it knows to show this chunk of the file
abbrev pub IsUnpinned : MapView → ℕ → ℕ → Type 0
IsUnpinned v file chunk = (range : ℕ) → 0 < pins_on v range → (pinned_in v range).file ≡ file → (pinned_in v range).chunk ≡ chunk → ⊥

-- The chunk isn't placed in the log as it was seen at some moment in between, and so the board has no pin on it.
abbrev pub IsUnplaced : MapView → ℕ → ℕ → MapView → Type 0
IsUnplaced old file chunk new = (n : ℕ) × (length (log_at old file) ≤ n) × (n ≤ length (log_at new file)) × (placed_at (take n (log_at new file)) chunk ≡ None) × IsUnpinned old file chunk

-- What getting a chunk answers: a pin; or why not. `Busy` shows each range moving or pinned, with the pins that the board had before; then the chunk isn't placed in the log as it was seen in this call.
abbrev pub Gets : Stand → ℕ → ℕ → Mode → Result Pinned DaxRefusal → Stand → Type 0
Gets old file chunk mode (Ok p) new = (new.map.hands ≡ with_one old.map p.range None) × IsPin new.map file chunk mode p × NoLooks new.map
Gets old file chunk mode (Err (refusals.Busy looked)) new = (new.map.hands ≡ old.map.hands) × AllBlocked old.map new.map × (looked ≡ looks_from 0 new.map.ranges.looks) × IsUnplaced old.map file chunk new.map
Gets old file chunk mode (Err e) new = (new.map.hands ≡ old.map.hands) × NoLooks new.map × Caused old e new

-- no count of blocked rounds rises, but after want of memory
abbrev pub StaysRounds : {T : Type 0} → MapView → Result T DaxRefusal → MapView → Type 0
StaysRounds old (Ok p) new = new.ranges.rounds ≡ old.ranges.rounds
StaysRounds old (Err refusals.Memory) new = Unit {0}
StaysRounds old (Err e) new = new.ranges.rounds ≡ old.ranges.rounds

-- ---- one or two pins

-- the way through these pins
abbrev pub way_of : Pinned → Option Pinned → Way
way_of first None = ways.Via first.through None
way_of first (Some second) = ways.Via first.through (Some second.through)

-- numbers of pins with one more on a range, and with one less
abbrev pub more_on : List ℕ → ℕ → List ℕ
more_on pins range = slice_set pins range (slice_index_or pins range 0 + 1)

abbrev pub less_on : List ℕ → ℕ → List ℕ
less_on pins range = slice_set pins range (slice_index_or pins range 0 - 1)

-- what is in hand with these pins, and without them
abbrev pub with_all : Hands → Pinned → Option Pinned → Hands
with_all h first None = record h { moves = None; pins = more_on h.pins first.range }
with_all h first (Some second) = record h { moves = None; pins = more_on (more_on h.pins first.range) second.range }

abbrev pub without_all : Hands → Pinned → Option Pinned → Hands
without_all h first None = record h { pins = less_on h.pins first.range }
without_all h first (Some second) = record h { pins = less_on (less_on h.pins second.range) first.range }

-- they can be given back, the second one first
abbrev pub CanGiveBack : List ℕ → Pinned → Option Pinned → Type 0
CanGiveBack pins first None = 0 < slice_index_or pins first.range 0
CanGiveBack pins first (Some second) = (0 < slice_index_or pins second.range 0) × (0 < slice_index_or (less_on pins second.range) first.range 0)

-- a range is pinned, and known to show this file
pub record IsHeldFor (v : MapView) (file : ℕ) (p : Pinned) : Type 0 where
  pub range : p.range < range_count v
  pub had : 0 < pins_on v p.range
  pub pinned : (pinned_in v p.range).file ≡ file

abbrev pub AreHeld : MapView → ℕ → Pinned → Option Pinned → Type 0
AreHeld v file first None = IsHeldFor v file first
AreHeld v file first (Some second) = IsHeldFor v file first × IsHeldFor v file second × CanGiveBack v.hands.pins first (Some second)

-- the board, but for the targets that it has looked at
abbrev pub IsButTargets : MapView → MapView → Type 0
IsButTargets old new = new ≡ record old { ranges = record old.ranges { targets = new.ranges.targets; targeted = new.ranges.targeted } }

-- the board without the pins
abbrev pub IsGiven : MapView → Pinned → Option Pinned → MapView → Type 0
IsGiven old first second new = new ≡ record old { hands = without_all old.hands first second }

-- what the pinned ranges show was looked at, and the pins were given back
abbrev pub IsGivenBack : MapView → Pinned → Option Pinned → MapView → Type 0
IsGivenBack old first second new = new ≡ record old { hands = without_all old.hands first second; ranges = record old.ranges { targets = new.ranges.targets; targeted = new.ranges.targeted } }
