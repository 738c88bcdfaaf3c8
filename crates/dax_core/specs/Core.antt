-- The core: its two halves, what a guest may do to it, what that makes of it, and when it is good.
use Rattle.std.specs.Prelude.{ℕ, ◌<◌, ◌≤◌, List, length}
use Rattle.plain_file.specs.declared.operations.First.{First}
use Rattle.files_core.specs.Files as files
use Rattle.files_core.specs.Files.{FileState, FileDeed}
use Rattle.files_core.specs.Good.{GoodFiles}
use Rattle.window_core.specs.Window as window
use Rattle.window_core.specs.Window.{Window}
use Rattle.window_core.specs.Good.{GoodWindow, max_guests}

-- how many guests there are, and the halves
pub record CoreState : Type 0 where
  pub guests : ℕ
  pub window : Window
  pub files : List FileState

-- what a guest does to one half
pub data Deed : Type 0 where
  on_window : window.Deed → Deed
  on_files : FileDeed → Deed

abbrev pub Allowed : CoreState → ℕ → Deed → Type 0
Allowed c g (on_window d) = (g < c.guests) × window.Allowed c.window g d
Allowed c g (on_files d) = (g < c.guests) × files.Allowed c.files g d

abbrev pub after : CoreState → ℕ → Deed → CoreState
after c g (on_window d) = record c { window = window.after c.window g d }
after c g (on_files d) = record c { files = files.after c.files g d }

-- the core is good: both halves are
pub record Good (c : CoreState) : Type 0 where
  pub guests_few : c.guests ≤ max_guests
  pub window_good : GoodWindow c.guests c.window
  pub files_good : GoodFiles c.guests c.files

-- at the start
abbrev pub new_core : ℕ → List First → ℕ → CoreState
new_core ranges firsts guests = record { guests = guests; window = window.new_window ranges (length firsts) guests; files = files.new_files guests firsts }
