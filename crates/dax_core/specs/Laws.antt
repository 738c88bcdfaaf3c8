-- What holds of the core under every schedule, and of its halves.
use Rattle.std.specs.Prelude.{◌≡◌, ◌↔◌, ℕ, ◌≤◌, List, All}
use Rattle.plain_file.specs.declared.operations.First.{First}
use Rattle.plain_file.specs.File.{max_file}
use Rattle.range_tree.specs.Trees.{max_ranges}
use Rattle.files_core.specs.Files.{FileDeed}
use Rattle.files_core.specs.Good.{GoodFiles}
use Rattle.window_core.specs.Window as window
use Rattle.window_core.specs.Good.{GoodWindow, max_guests}
use Rattle.dax_core.specs.Core.{CoreState, Deed, on_window, on_files, Allowed, after, Good, new_core}
use Rattle.dax_core.specs.declared.events.Event.{Event}
use Rattle.dax_core.specs.Events.{Grows, IsDeed}

-- a core in which nothing was done yet is good
abbrev pub StartIsGood : Type 0
StartIsGood = (ranges guests : ℕ) (firsts : List First) → ranges ≤ max_ranges → guests ≤ max_guests → All (λ first. first.size ≤ max_file) firsts → Good (new_core ranges firsts guests)

-- each deed that is allowed keeps it good, and lets histories and logs grow at most
abbrev pub StaysGood : Type 0
StaysGood = (c : CoreState) (g : ℕ) (d : Deed) → Good c → Allowed c g d → Good (after c g d)

abbrev pub OnlyGrows : Type 0
OnlyGrows = (c : CoreState) (g : ℕ) (d : Deed) → Allowed c g d → Grows c (after c g d)

-- the deeds of an event that a good core allows a guest make the same of it
abbrev pub OneOutcome : Type 0
OneOutcome = (c : CoreState) (g : ℕ) (e : Event) (d d' : Deed) → Good c → IsDeed e d → IsDeed e d' → Allowed c g d → Allowed c g d' → after c g d ≡ after c g d'

-- The law of halves: a core is good exactly where both halves are. A deed is of one half, which alone decides whether it
-- is allowed and what it changes; the other half stays as it is.
abbrev pub GoodByHalves : Type 0
GoodByHalves = (c : CoreState) → c.guests ≤ max_guests → Good c ↔ (GoodWindow c.guests c.window × GoodFiles c.guests c.files)

abbrev pub DecidedByHalves : Type 0
DecidedByHalves = (c c' : CoreState) (g : ℕ) → c.guests ≡ c'.guests
    → ((d : window.Deed) → c.window ≡ c'.window → Allowed c g (on_window d) → Allowed c' g (on_window d) × ((after c g (on_window d)).window ≡ (after c' g (on_window d)).window))
    × ((d : FileDeed) → c.files ≡ c'.files → Allowed c g (on_files d) → Allowed c' g (on_files d) × ((after c g (on_files d)).files ≡ (after c' g (on_files d)).files))

abbrev pub OtherHalfStays : Type 0
OtherHalfStays = (c : CoreState) (g : ℕ) → ((d : window.Deed) → (after c g (on_window d)).files ≡ c.files) × ((d : FileDeed) → (after c g (on_files d)).window ≡ c.window)
