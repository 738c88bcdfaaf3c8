-- What a guest is shown of the files' half of the core.
use Rattle.std.specs.Prelude.{◌≡◌, ◌≢◌, ℕ, ◌<◌, ◌==◌, List, map, take, Bool, false, if◌then◌else◌, Option, Some, None}
use Rattle.plain_file.specs.declared.operations.Entry.{Entry}
use Rattle.files_core.specs.declared.rows.Note.{Note}
use Rattle.files_core.specs.Files.{FileState, is_guest, row, FileDeed, Allowed, after}
use Rattle.files_core.specs.Good.{GoodFiles}

-- of one file: what it has seen of the history, whether it has the turn, what it applied in it, its leases, the size that
-- it noted under a lease, whether it has the bar, and what it noted
pub record Shown : Type 0 where
  pub seen : List Entry
  pub turn : Bool
  pub applied : Option Entry
  pub leases : ℕ
  pub noted : Option ℕ
  pub bar : Bool
  pub notes : List Note

abbrev pub shown_of : ℕ → FileState → Shown
shown_of g c = record {
  seen = take (row c g).seen c.history;
  turn = is_guest g c.turn;
  applied = if is_guest g c.turn then c.applied else None;
  leases = (row c g).leases;
  noted = (row c g).noted;
  bar = is_guest g c.bar;
  notes = (row c g).notes;
}

abbrev pub shown : ℕ → List FileState → List Shown
shown g cs = map (shown_of g) cs

-- whatever a guest does, each other is shown the same after it
abbrev pub OthersSeeTheSame : Type 0
OthersSeeTheSame = (guests g other : ℕ) (cs : List FileState) (d : FileDeed) → other ≢ g → other < guests → GoodFiles guests cs → Allowed cs g d → shown other (after cs g d) ≡ shown other cs
