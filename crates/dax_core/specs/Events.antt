-- Events: which deeds each of them may be, one step, and lists of steps.
use Rattle.std.specs.Prelude.{◌≡◌, ℕ, ◌+◌, ◌≤◌, List, [], ◌∷◌, length, take, Bool, if◌then◌else◌, MatchBool}
use Rattle.files_core.specs.Files as files
use Rattle.files_core.specs.Files.{FileDeed, file}
use Rattle.window_core.specs.Window as window
use Rattle.window_core.specs.Window.{IsEnter, IsLeave, IsLook, IsTake, IsSetMap, IsSettleMapped, IsSettleFree, IsPin, IsUnpin, IsUpgrade, side}
use Rattle.dax_core.specs.declared.events.Event.{Event}
use Rattle.dax_core.specs.declared.events.Event.TheVariants as events
use Rattle.dax_core.specs.declared.events.GuestEvent.{GuestEvent}
use Rattle.files_core.specs.Laws.{Begins}
use Rattle.dax_core.specs.Core.{CoreState, Deed, on_window, on_files, Allowed, after}

-- the deeds of the window that an event may be
abbrev pub IsWindowDeed : Event → window.Deed → Type 0
IsWindowDeed (events.Enter f) d = IsEnter f d
IsWindowDeed events.Leave d = IsLeave d
IsWindowDeed (events.Look r) d = IsLook r d
IsWindowDeed (events.Take r) d = IsTake r d
IsWindowDeed (events.SetMap r t) d = IsSetMap r t d
IsWindowDeed (events.SettleMapped c m) d = IsSettleMapped c m d
IsWindowDeed events.SettleFree d = IsSettleFree d
IsWindowDeed (events.Pin r) d = IsPin r d
IsWindowDeed (events.Unpin r) d = IsUnpin r d
IsWindowDeed (events.Upgrade r) d = IsUpgrade r d
IsWindowDeed (events.TakeTurn f) d = ⊥
IsWindowDeed (events.SetSize e) d = ⊥
IsWindowDeed events.GiveTurn d = ⊥
IsWindowDeed (events.Lease f) d = ⊥
IsWindowDeed (events.NoteSize f) d = ⊥
IsWindowDeed (events.Unlease f) d = ⊥
IsWindowDeed (events.Bar f) d = ⊥
IsWindowDeed (events.Unbar f) d = ⊥

-- the deeds on the files
abbrev pub IsFileDeed : Event → FileDeed → Type 0
IsFileDeed (events.Enter f) d = ⊥
IsFileDeed events.Leave d = ⊥
IsFileDeed (events.Look r) d = ⊥
IsFileDeed (events.Take r) d = ⊥
IsFileDeed (events.SetMap r t) d = ⊥
IsFileDeed (events.SettleMapped c m) d = ⊥
IsFileDeed events.SettleFree d = ⊥
IsFileDeed (events.Pin r) d = ⊥
IsFileDeed (events.Unpin r) d = ⊥
IsFileDeed (events.Upgrade r) d = ⊥
IsFileDeed (events.TakeTurn f) d = d ≡ files.on f files.take_turn
IsFileDeed (events.SetSize e) d = (f : ℕ) × (d ≡ files.on f (files.set_size e))
IsFileDeed events.GiveTurn d = (f : ℕ) × (d ≡ files.on f files.give_turn)
IsFileDeed (events.Lease f) d = d ≡ files.on f files.lease
IsFileDeed (events.NoteSize f) d = d ≡ files.on f files.note_size
IsFileDeed (events.Unlease f) d = d ≡ files.on f files.unlease
IsFileDeed (events.Bar f) d = d ≡ files.on f files.set_bar
IsFileDeed (events.Unbar f) d = d ≡ files.on f files.clear_bar

abbrev pub IsDeed : Event → Deed → Type 0
IsDeed e (on_window d) = IsWindowDeed e d
IsDeed e (on_files d) = IsFileDeed e d

-- One step: a deed of the event was allowed and done, or none is allowed and nothing has changed.
abbrev pub Stepped : Bool → CoreState → ℕ → Event → CoreState → Type 0
Stepped done c g e new = MatchBool done ((d : Deed) × IsDeed e d × Allowed c g d × (new ≡ after c g d)) (((d : Deed) → IsDeed e d → Allowed c g d → ⊥) × (new ≡ c))

abbrev pub count_of : Bool → ℕ
count_of done = if done then 1 else 0

-- The events were run in their order, and so many of them were allowed.
abbrev pub Ran : CoreState → List GuestEvent → ℕ → CoreState → Type 0
Ran c [] n new = (n ≡ 0) × (new ≡ c)
Ran c (e ∷ es) n new = (done : Bool) × (mid : CoreState) × (k : ℕ) × Stepped done c e.guest e.event mid × Ran mid es k new × (n ≡ count_of done + k)

-- the events of a front of the list were run
abbrev pub RanFront : CoreState → List GuestEvent → CoreState → Type 0
RanFront c es new = (k : ℕ) × (n : ℕ) × (k ≤ length es) × Ran c (take k es) n new

-- Each history and each log begins with what it was, and there are as many guests, ranges and files.
pub record Grows (old new : CoreState) : Type 0 where
  pub histories : (f : ℕ) → Begins (file old.files f).history (file new.files f).history
  pub logs : (f : ℕ) → Begins (side old.window f).log (side new.window f).log
  pub guests : new.guests ≡ old.guests
  pub ranges : length new.window.states ≡ length old.window.states
  pub trees : length new.window.sides ≡ length old.window.sides
  pub files : length new.files ≡ length old.files
