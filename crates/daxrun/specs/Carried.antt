-- Within which limits a script's run is.
use Rattle.std.specs.Prelude.{◌≡◌, ◌≢◌, ◌⊎◌, ℕ, ◌<◌, ◌≤◌, true, List, length, map, slice_get, Some}
use Rattle.std.specs.List.{AllByRecursion, IsDistinct}
use Rattle.std.specs.Str.{bytes_eq}
use Rattle.plain_file.specs.File.{max_file}
use Rattle.plain_file.specs.Limits.{max_files}
use Rattle.range_tree.specs.Trees.{max_ranges}
use Rattle.dax_script.specs.declared.scripts.Call.{Call}
use Rattle.dax_script.specs.declared.scripts.FileLine.{FileLine}
use Rattle.dax_script.specs.declared.scripts.Script.{Script}
use Rattle.dax_script.specs.ScriptText.{max_guests}
use Rattle.dax_script.specs.ScriptWords.{is_script_name}
use Rattle.guest_run.specs.Working.{AreCalls, max_calls}

abbrev pub names_of : List FileLine → List (List ℕ)
names_of fs = map (λ f. f.name) fs

-- files of a script: at most 16 of different names, none too large
pub record AreFiles (fs : List FileLine) : Type 0 where
  pub few : length fs ≤ max_files
  pub named : AllByRecursion (λ f. is_script_name f.name ≡ true) fs
  pub different : IsDistinct bytes_eq (names_of fs)
  pub small : AllByRecursion (λ f. f.first.size ≤ max_file) fs

-- at most 16 guests, whose calls are within the limits, over so many files and ranges
pub record AreGuests (files ranges : ℕ) (gs : List (List Call)) : Type 0 where
  pub most : length gs ≤ max_guests
  pub few : (g : ℕ) (cs : List Call) → slice_get gs g ≡ Some cs → length cs ≤ max_calls
  pub calls : (g : ℕ) (cs : List Call) → slice_get gs g ≡ Some cs → AreCalls files ranges cs

-- how many ranges a script may have: none, or 2 to 256
pub record AreRanges (ranges : ℕ) : Type 0 where
  pub most : ranges ≤ max_ranges
  pub not_one : ranges ≢ 1

-- a script within its limits; a background has ranges to work on
pub record IsPlayable (s : Script) : Type 0 where
  pub ranges : AreRanges s.ranges
  pub files : AreFiles s.files
  pub guests : AreGuests (length s.files) s.ranges s.guests
  pub background : (s.background ≡ 0) ⊎ (0 < s.ranges)
