-- A session: its files are found and opened, one after another.
use Rattle.std.specs.Prelude.{◌≡◌, ℕ, ◌+◌, ◌*◌, ◌≤◌, true, false, List, length, map, replicate, slice_get, Some, None}
use Rattle.plain_file.specs.File.{max_file}
use Rattle.plain_file.specs.declared.operations.First.{First}
use Rattle.plain_file.specs.Board.{BoardView, file_at, size_of}
use Rattle.plain_file.specs.Limits.{max_files}
use Rattle.plain_file.specs.Plain.{new_board}
use Rattle.page_map.specs.Plain.{new_map, range_pages}
use Rattle.fuse_device.specs.State.{State, named, is_made}
use Rattle.fuse_device.specs.Checks.{may_open}
use Rattle.fuse_device.specs.OpenFiles.{HasOpenFile}
use Rattle.guest_wire.specs.declared.driver.FileRef.{FileRef}
use Rattle.guest_wire.specs.Wires.{WireView, Boards, boards}
use Rattle.dax_script.specs.declared.scripts.FileLine.{FileLine}
use Rattle.daxrun.specs.Carried.{names_of}
use Rattle.daxrun.specs.Requests.{IsLive}

-- a session over files of these names, of which so many were opened
pub record IsSession (names : List (List ℕ)) (count : ℕ) (s : State) : Type 0 where
  pub started : s.started ≡ true
  pub named : map (λ f. f.name) s.made ≡ map Some names
  pub opened : length s.opened ≡ count
  pub next : s.next_fh ≡ count + 1

-- in a session there is a file of this name and number, and one more handle may be opened
pub record IsThere (name : List ℕ) (file : ℕ) (s : State) : Type 0 where
  pub started : s.started ≡ true
  pub found : named s name ≡ Some file
  pub made : is_made s (file + 2) ≡ true
  pub may : may_open s ≡ true

-- file i is open under handle i
pub record AreOpen (ats : List FileRef) (s : State) : Type 0 where
  pub each : (i : ℕ) (at : FileRef) → slice_get ats i ≡ Some at → (at.node ≡ i + 2) × HasOpenFile s at.node at.fh

-- the files of these names are open under these handles, and any request can be served
pub record IsOpened (names : List (List ℕ)) (ats : List FileRef) (w : WireView) (b : Boards) : Type 0 where
  pub live : IsLive w b
  pub session : IsSession names (length names) w.state
  pub handles : AreOpen ats w.state

-- no file is larger than a file may be
abbrev pub AreSmall : BoardView → Type 0
AreSmall v = (i : ℕ) → size_of (file_at v i) ≤ max_file

-- the empty files over which a session is opened, as many as a directory has at most
abbrev pub empty_firsts : List First
empty_firsts = replicate max_files (record { size = 0; fill = 0 })

-- what the files of a run begin with
abbrev pub firsts_of : List FileLine → List First
firsts_of fs = map (λ f. f.first) fs

-- a wire of a daemon's own, as it is while the daemon is in this state
abbrev pub whole_wire : State → WireView
whole_wire s = record { honest = true; over = None; faults = 0; stays = false; state = s }

-- the boards over which a session is opened and closed: empty files, and a window of so many ranges in which nothing is mapped
abbrev pub opening_boards : ℕ → Boards
opening_boards ranges = boards (new_board 0 empty_firsts) (new_map (range_pages * ranges))

-- a script's files are open at a daemon in this state, under these handles
abbrev pub IsOpenAt : List FileLine → ℕ → List FileRef → State → Type 0
IsOpenAt fs ranges ats s = IsOpened (names_of fs) ats (whole_wire s) (opening_boards ranges)
