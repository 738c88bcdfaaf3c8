-- What an event does to one half.
use Rattle.std.specs.Prelude.{◌≡◌, ℕ, List, Bool, MatchBool}
use Rattle.files_core.specs.Files as files
use Rattle.files_core.specs.Files.{FileState, FileDeed}
use Rattle.window_core.specs.Window.{Window, Did}
use Rattle.dax_core.specs.declared.events.Event.{Event}
use Rattle.dax_core.specs.Events.{IsWindowDeed, IsFileDeed}

abbrev pub DidOnWindow : Bool → Window → ℕ → Event → Window → Type 0
DidOnWindow done h g e new = Did done h g (IsWindowDeed e) new

abbrev pub DidOnFiles : Bool → List FileState → ℕ → Event → List FileState → Type 0
DidOnFiles done cs g e new = MatchBool done ((d : FileDeed) × IsFileDeed e d × files.Allowed cs g d × (new ≡ files.after cs g d)) (((d : FileDeed) → IsFileDeed e d → files.Allowed cs g d → ⊥) × (new ≡ cs))
