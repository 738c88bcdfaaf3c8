-- A step of one half is a step of the core, and keeps it good.
use Rattle.std.proofs.Common.{◌≡◌, ℕ, ◌<◌, ◌≤◌, arith, List, All, length, Bool, true, false, sym, subst}
use Rattle.std.specs.Prelude.{Result, Ok, Err, MatchResult}
use Rattle.files_core.specs.Files.{FileState}
use Rattle.plain_file.specs.declared.operations.First.{First}
use Rattle.plain_file.specs.File.{max_file}
use Rattle.range_tree.specs.Trees.{max_ranges}
use Rattle.window_core.specs.Good.{max_guests}
use Rattle.files_core.proofs.Starts.{files_start}
use Rattle.window_core.proofs.Starts.{window_start}
use Rattle.files_core.proofs.AllKeep.{files_keep}
use Rattle.window_core.specs.Window as window
use Rattle.window_core.specs.Window.{Window}
use Rattle.window_core.proofs.Deeds.{window_keeps}
use Rattle.dax_core.specs.declared.events.Event.{Event}
use Rattle.dax_core.specs.Core.{CoreState, Deed, on_window, on_files, Allowed, after, Good, new_core}
use Rattle.dax_core.specs.Events.{IsWindowDeed, IsDeed, Stepped}
use Rattle.dax_core.specs.Halves.{DidOnWindow, DidOnFiles}

pub core_keeps : (c : CoreState) (g : ℕ) (d : Deed) → Good c → Allowed c g d → Good (after c g d)
core_keeps c g (on_window d) good a = record { guests_few = good.guests_few; window_good = window_keeps c.guests c.window g a.0 good.window_good d a.1; files_good = good.files_good }
core_keeps c g (on_files d) good a = record { guests_few = good.guests_few; window_good = good.window_good; files_good = files_keep c.guests c.files g a.0 good.files_good d a.1 }

pub start_good : (ranges guests : ℕ) (firsts : List First) → ranges ≤ max_ranges → guests ≤ max_guests → All (λ first. first.size ≤ max_file) firsts → Good (new_core ranges firsts guests)
start_good ranges guests firsts few low all = record { guests_few = low; window_good = window_start ranges (length firsts) guests few; files_good = files_start guests firsts all }

-- a guest that the core doesn't have does nothing
pub no_guest : (c : CoreState) (g : ℕ) → c.guests ≤ g → (d : Deed) → Allowed c g d → ⊥
no_guest c g far (on_window d) a = let l = a.0 in absurd (omega arith)
no_guest c g far (on_files d) a = let l = a.0 in absurd (omega arith)

pub step_keeps : (done : Bool) (c new : CoreState) (g : ℕ) (e : Event) → Good c → Stepped done c g e new → Good new
step_keeps true c new g e good did = subst (λ (x : CoreState). Good x) (sym did.3) (core_keeps c g did.0 good did.2)
step_keeps false c new g e good did = subst (λ (x : CoreState). Good x) (sym did.1) good

module _ (c : CoreState) (g : ℕ) (e : Event) (l : g < c.guests) where
  -- the window did the event
  pub window_stepped : (b : Bool) (h : Window) → b ≡ true → DidOnWindow b c.window g e h → Stepped true c g e (record c { window = h })
  window_stepped true h t did = (on_window did.0, did.1, (l, did.2), (λ i. record c { window = did.3 i }))
  window_stepped false h t did = cc

  -- the window has no such deed, and stays
  pub window_same : (b : Bool) (h : Window) → b ≡ false → DidOnWindow b c.window g e h → h ≡ c.window
  window_same true h t did = cc
  window_same false h t did = did.1

  pub window_none : (b : Bool) (h : Window) → b ≡ false → DidOnWindow b c.window g e h → (d : window.Deed) → IsWindowDeed e d → window.Allowed c.window g d → ⊥
  window_none true h t did = cc
  window_none false h t did = did.0

  module _ (none : (d : window.Deed) → IsWindowDeed e d → window.Allowed c.window g d → ⊥) where
    files_stepped : (b : Bool) (cs : List FileState) → DidOnFiles b c.files g e cs → Stepped b c g e (record c { files = cs })
    files_stepped true cs did = (on_files did.0, did.1, (l, did.2), (λ i. record c { files = did.3 i }))
    files_stepped false cs did = (nothing, (λ i. record c { files = did.1 i }))
      where
        nothing : (d : Deed) → IsDeed e d → Allowed c g d → ⊥
        nothing (on_window d) is a = none d is a.1
        nothing (on_files d) is a = did.0 d is a.1

    pub files_result : {E : Type 0} (r : Result Bool E) (cs : List FileState) → MatchResult r (λ b. DidOnFiles b c.files g e cs) (λ _. cs ≡ c.files) → MatchResult r (λ b. Stepped b c g e (record c { files = cs })) (λ _. record c { files = cs } ≡ c)
    files_result (Ok b) cs did = files_stepped b cs did
    files_result (Err x) cs same = λ i. record c { files = same i }

    pub files_stay_good : {E : Type 0} (r : Result Bool E) (cs : List FileState) → Good c → MatchResult r (λ b. DidOnFiles b c.files g e cs) (λ _. cs ≡ c.files) → Good (record c { files = cs })
    files_stay_good (Ok b) cs good did = step_keeps b c (record c { files = cs }) g e good (files_stepped b cs did)
    files_stay_good (Err x) cs good same = subst (λ (xs : List FileState). Good (record c { files = xs })) (sym same) good
