-- How a range is taken for a guest, and what shows that none can be.
use Rattle.std.specs.Prelude.{◌≡◌, ◌≢◌, ℕ, ◌+◌, ◌<◌, ◌≤◌, Bool, true, false, List, [], ◌∷◌, ◌++◌, length, Some, None, ◌⊎◌, IsSome, Result, Ok, Err, ◌-◌, ◌^◌}
use Rattle.plain_file.specs.Counts.{Rose}
use Rattle.page_map.specs.Board.{MapView, Hands, known_files, log_at}
use Rattle.page_map.specs.declared.ranges.LogEntry.{LogEntry}
use Rattle.page_map.specs.declared.ranges.LogEntry.TheVariants as entries
use Rattle.range_tree.specs.Ranges.{range_count, pins_on, look_at, is_noted_blocked, Leaves}
use Rattle.guest_wire.specs.declared.wires.WireRefusal.{WireRefusal}
use Rattle.guest_wire.specs.declared.wires.WireRefusal.TheVariants as wires
use Rattle.guest_dax.specs.Stands.{Stand, KeepsMap, Keeps}
use Rattle.guest_dax.specs.Looks.{NoLooks, looks_from, IsBlocked, AllBlocked, SomeUnblocked}
use Rattle.guest_dax.specs.declared.refusals.DaxRefusal.{DaxRefusal}
use Rattle.guest_dax.specs.declared.refusals.DaxRefusal.TheVariants as refusals
use Rattle.guest_dax.specs.declared.attempts.Attempt.{Attempt}
use Rattle.guest_dax.specs.declared.attempts.Attempt.TheVariants as attempts

-- what a search leaves of a board, whatever it finds at a range: the looks of other ranges and the counts
pub record Searches (old : MapView) (range : ℕ) (new : MapView) : Type 0 where
  pub keeps : KeepsMap old new
  pub looks : length new.ranges.looks ≡ length old.ranges.looks
  pub other : (r : ℕ) → r ≢ range → look_at new r ≡ look_at old r
  pub sweeps : new.ranges.sweeps ≡ old.ranges.sweeps
  pub rounds : new.ranges.rounds ≡ old.ranges.rounds

abbrev pub moving : MapView → ℕ → Hands
moving v range = record v.hands { moves = Some range }

-- what is seen of a file's log has grown, and ends with the removal of a range
pub record EndsRemoved (old new : MapView) (file range : ℕ) : Type 0 where
  pub more : List LogEntry
  pub grown : log_at new file ≡ log_at old file ++ (more ++ entries.Remove range ∷ [])

-- what is done with a range that was taken under a tree, whose log had so many entries before: the tree is still had, or was given back where the range was free
abbrev pub Parts : ℕ → ℕ → MapView → Attempt → MapView → Type 0
Parts file before old attempts.Took new = Leaves old new
Parts file before old (attempts.Removed f) new = (f ≡ file) × (new ≡ old) × (before < length (log_at old file))
Parts file before old attempts.Blocked new = ⊥
Parts file before old attempts.Again new = ⊥

-- what one attempt at a range comes to
abbrev pub Comes : MapView → ℕ → Attempt → MapView → Type 0
Comes old range attempts.Took new = (new.hands ≡ moving old range) × (pins_on old range ≡ 0) × (is_noted_blocked (look_at new range) ≡ false)
Comes old range (attempts.Removed file) new = (new.hands ≡ record (moving old range) { tree = Some file }) × (file < known_files old) × (pins_on old range ≡ 0) × (is_noted_blocked (look_at new range) ≡ false) × EndsRemoved old new file range
Comes old range attempts.Blocked new = (new.hands ≡ old.hands) × IsBlocked old new range
Comes old range attempts.Again new = (new.hands ≡ old.hands) × IsSome (look_at new range)

abbrev pub Attempted : MapView → ℕ → Attempt → MapView → Type 0
Attempted old range attempt new = Searches old range new × Comes old range attempt new

-- an attempt that takes nothing from a tree
unfoldable pub is_removed : Attempt → Bool
is_removed attempts.Took = false
is_removed (attempts.Removed file) = true
is_removed attempts.Blocked = false
is_removed attempts.Again = false

-- a range is moved that had no pins of the board
abbrev pub TookOne : MapView → MapView → Type 0
TookOne old new = (range : ℕ) × (range < range_count old) × (new.hands ≡ moving old range) × (pins_on old range ≡ 0) × SomeUnblocked new

abbrev pub TookAt : MapView → ℕ → MapView → Type 0
TookAt old range new = (new.hands ≡ moving old range) × (pins_on old range ≡ 0) × (is_noted_blocked (look_at new range) ≡ false)

-- what a round leaves of the board
pub record RoundKeeps (old new : MapView) : Type 0 where
  pub keeps : KeepsMap old new
  pub looks : length new.ranges.looks ≡ length old.ranges.looks
  pub sweeps : new.ranges.sweeps ≡ old.ranges.sweeps
  pub rounds : new.ranges.rounds ≡ old.ranges.rounds

-- why a call was refused: want of memory, or by the wire, and then it isn't honest
abbrev pub Caused : Stand → DaxRefusal → Stand → Type 0
Caused old (refusals.Busy looked) new = ⊥
Caused old (refusals.Errno number) new = old.wire.honest ≡ false
Caused old (refusals.BadReply bytes) new = old.wire.honest ≡ false
Caused old refusals.WireFault new = (old.wire.honest ≡ false) × Rose old.wire.faults new.wire.faults
Caused old refusals.Memory new = Unit {0}

-- the refusal of a request as one of this crate
abbrev pub IsRefusalOf : WireRefusal → DaxRefusal → Type 0
IsRefusalOf (wires.Errno number) e = e ≡ refusals.Errno number
IsRefusalOf (wires.BadReply bytes) e = e ≡ refusals.BadReply bytes
IsRefusalOf wires.WireFault e = e ≡ refusals.WireFault
IsRefusalOf wires.Memory e = e ≡ refusals.Memory

-- after REMOVEMAPPING the tree is left; where it was refused, the range is free
abbrev pub Unmaps : Stand → Result (Unit {0}) DaxRefusal → Stand → Type 0
Unmaps old (Ok u) new = (new.map.hands ≡ record old.map.hands { tree = None }) × (new.map.ranges.looks ≡ old.map.ranges.looks)
Unmaps old (Err e) new = (new.map.hands ≡ record old.map.hands { tree = None; moves = None }) × (new.map.ranges.looks ≡ old.map.ranges.looks) × Caused old e new

-- What a search leaves of wire and boards: looks are noted, and no count of looks changes.
pub record Walks (old new : Stand) : Type 0 where
  pub keeps : Keeps old new
  pub looks : length new.map.ranges.looks ≡ length old.map.ranges.looks
  pub sweeps : new.map.ranges.sweeps ≡ old.map.ranges.sweeps
  pub rounds : new.map.ranges.rounds ≡ old.map.ranges.rounds

-- the looks of ranges outside of an interval stayed
abbrev pub OthersLooks : MapView → ℕ → ℕ → MapView → Type 0
OthersLooks old from to new = (r : ℕ) → (r < from) ⊎ (to ≤ r) → look_at new r ≡ look_at old r

-- what going over the ranges from one to below another comes to
abbrev pub Goes : Stand → ℕ → ℕ → Result Bool DaxRefusal → Stand → Type 0
Goes old from to (Ok true) new = TookOne old.map new.map
Goes old from to (Ok false) new = (new.map.hands ≡ old.map.hands) × OthersLooks old.map from to new.map × ((r : ℕ) → from ≤ r → r < to → IsBlocked old.map new.map r)
Goes old from to (Err e) new = (new.map.hands ≡ old.map.hands) × SomeUnblocked new.map × Caused old e new

-- what a search at one range comes to
abbrev pub ComesAt : Stand → ℕ → Result Bool DaxRefusal → Stand → Type 0
ComesAt old range (Ok true) new = TookAt old.map range new.map
ComesAt old range (Ok false) new = (new.map.hands ≡ old.map.hands) × OthersLooks old.map range (range + 1) new.map × IsBlocked old.map new.map range
ComesAt old range (Err e) new = (new.map.hands ≡ old.map.hands) × (is_noted_blocked (look_at new.map range) ≡ false) × Caused old e new

-- The first round: it moves a range that was free, or each range has a noted look.
abbrev pub FirstRound : MapView → Bool → MapView → Type 0
FirstRound old true new = RoundKeeps old new × TookOne old new
FirstRound old false new = RoundKeeps old new × (new.hands ≡ old.hands) × ((r : ℕ) → r < range_count old → IsSome (look_at new r))

-- The second round: it moves a range, or each range is shown to be moving or pinned.
abbrev pub SecondRound : Stand → Result Bool DaxRefusal → Stand → Type 0
SecondRound old (Ok true) new = TookOne old.map new.map
SecondRound old (Ok false) new = (new.map.hands ≡ old.map.hands) × AllBlocked old.map new.map
SecondRound old (Err e) new = (new.map.hands ≡ old.map.hands) × SomeUnblocked new.map × Caused old e new

-- no look is noted any more, and there was no round
pub record Forgets (old new : MapView) : Type 0 where
  pub keeps : KeepsMap old new
  pub hands : new.hands ≡ old.hands
  pub logs : new.ranges.logs ≡ old.ranges.logs
  pub looks : NoLooks new
  pub rounds : new.ranges.rounds ≡ old.ranges.rounds
  pub later : old.ranges.sweeps ≤ 2 ^ 64 - 1 → old.ranges.sweeps ≤ new.ranges.sweeps

-- the noted looks are answered, and stay noted; or memory was wanted, and none is noted
abbrev pub IsBusy : MapView → DaxRefusal → MapView → Type 0
IsBusy old (refusals.Busy looked) new = (new ≡ old) × (looked ≡ looks_from 0 old.ranges.looks)
IsBusy old refusals.Memory new = (new.hands ≡ old.hands) × NoLooks new
IsBusy old e new = ⊥

-- What `acquire` answers, and what it leaves in hand and of the looks: it moves a range without own pins; or it shows of each range why not; or the wire refused.
abbrev pub Acquires : Stand → Result (Unit {0}) DaxRefusal → Stand → Type 0
Acquires old (Ok u) new = (range : ℕ) × (range < range_count old.map) × (new.map.hands ≡ moving old.map range) × (pins_on old.map range ≡ 0) × NoLooks new.map × (new.map.ranges.rounds ≡ old.map.ranges.rounds)
Acquires old (Err (refusals.Busy looked)) new = (new.map.hands ≡ old.map.hands) × AllBlocked old.map new.map × (looked ≡ looks_from 0 new.map.ranges.looks) × (new.map.ranges.rounds ≡ old.map.ranges.rounds)
Acquires old (Err refusals.Memory) new = (new.map.hands ≡ old.map.hands) × NoLooks new.map
Acquires old (Err e) new = (new.map.hands ≡ old.map.hands) × NoLooks new.map × (new.map.ranges.rounds ≡ old.map.ranges.rounds) × Caused old e new
