-- What the reader of a script keeps beside the script so far, so that no line is read against all others.
use Rattle.std.specs.Prelude.{◌≡◌, ℕ, ◌≤◌, List, [], ◌∷◌, length, Option, Some, None, unwrap_or}
use Rattle.std.specs.List.{sum_by}
use Rattle.page_map.specs.declared.pages.Mode.{Mode}
use Rattle.dax_script.specs.declared.scripts.Call.{Call}
use Rattle.dax_script.specs.ScriptWords.{hold_modes}
use Rattle.dax_script.specs.ScriptText.{guests_with, moved, max_calls, max_moved, max_guests}

-- the modes of the holds of the guest at hand, how many calls there are, and how many bytes they move
pub record AreTotals (done : List (List Call)) (calls : Option (List Call)) (held : List Mode) (made bytes : ℕ) : Type 0 where
  pub held_is : held ≡ hold_modes (unwrap_or calls [])
  pub made_is : made ≡ sum_by length (guests_with done calls)
  pub bytes_is : bytes ≡ sum_by moved (guests_with done calls)
  pub few_holds : length held ≤ made
  pub few_calls : made ≤ max_calls
  pub few_bytes : bytes ≤ max_moved
  pub few_guests : length (guests_with done calls) ≤ max_guests

-- the mode that a call adds
abbrev pub modes_of : Option Mode → List Mode
modes_of None = []
modes_of (Some mode) = mode ∷ []
