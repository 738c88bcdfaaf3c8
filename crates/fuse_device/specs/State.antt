-- What the device holds between two requests, and how it changes.
use Rattle.std.specs.Prelude.{ℕ, ◌+◌, ◌-◌, ◌*◌, ◌^◌, ◌==◌, min, Bool, true, false, ◌&&◌, not, nat_lt, nat_le, List, [], ◌∷◌, ◌++◌, length, map, filter, position, slice_index_or, slice_set, Option, Some, None, if◌then◌else◌}
use Rattle.std.specs.List.{list_any}
use Rattle.std.specs.Str.{bytes_eq}
use Rattle.fuse_wire.specs.declared.mappings.RemoveOne.{RemoveOne}
use Rattle.page_map.specs.Window.{page_size}
use Rattle.page_map.specs.Board.{MapView, wiped}
use Rattle.page_map.specs.Board as window
use Rattle.page_map.specs.declared.pages.Span.{Span}
use Rattle.plain_file.specs.Board.{BoardView}
use Rattle.plain_file.specs.Board as board
use Rattle.plain_file.specs.declared.operations.Op.{Op}
use Rattle.fuse_device.specs.declared.tables.Kind.{Kind}
use Rattle.fuse_device.specs.declared.tables.Kind.TheVariants as kinds
use Rattle.fuse_device.specs.declared.tables.MadeFile.{MadeFile}
use Rattle.fuse_device.specs.declared.tables.Opened.{Opened}

-- what the device holds
pub record State : Type 0 where
  -- how many pages the window of direct access has
  pub pages : ℕ
  -- whether the session is started
  pub started : Bool
  -- the files that were made, the lowest number first
  pub made : List MadeFile
  -- the open handles, the oldest first
  pub opened : List Opened
  -- the number of the next handle
  pub next_fh : ℕ

-- the device with the boards that it works on
pub record World : Type 0 where
  pub state : State
  pub files : BoardView
  pub map : MapView

-- what the boards allow
pub record Grants : Type 0 where
  pub may_apply : ℕ → Op → Bool
  pub may_set : Span → Bool
  pub may_clear : ℕ → ℕ → Bool

-- what boards allow is told by what they mean
abbrev pub grants : World → Grants
grants w = record { may_apply = board.may_apply w.files; may_set = window.may_set w.map; may_clear = window.may_clear w.map }

-- a file that was made under a name, and not looked up yet
abbrev pub new_file : List ℕ → MadeFile
new_file name = record { name = Some name; lookups = 0 }

-- a device on which nothing was done yet, with files of these names
abbrev pub new_state : ℕ → List (List ℕ) → State
new_state pages names = record { pages = pages; started = false; made = map new_file names; opened = []; next_fh = 1 }

-- ---- files: file i has node i + 2, and node 1 is the directory

-- a node that is a made file's
unfoldable pub is_made : State → ℕ → Bool
is_made s node = nat_le 2 node && nat_lt (node - 2) (length s.made)

-- what stands for a file that wasn't made
abbrev pub no_made : MadeFile
no_made = record { name = None; lookups = 0 }

-- the made file of a node
abbrev pub made_at : State → ℕ → MadeFile
made_at s node = slice_index_or s.made (node - 2) no_made

-- a name is the same bytes
abbrev pub is_same_name : List ℕ → Option (List ℕ) → Bool
is_same_name name None = false
is_same_name name (Some other) = bytes_eq name other

-- a file has this name
abbrev pub has_name : List ℕ → MadeFile → Bool
has_name name f = is_same_name name f.name

-- the number of the file of this name
unfoldable pub named : State → List ℕ → Option ℕ
named s name = position (has_name name) s.made

-- the device with this file in place of the one of this number
abbrev pub with_made : State → ℕ → MadeFile → State
with_made s i f = record s { made = slice_set s.made i f }

-- one lookup more; the count stays at its greatest number
abbrev pub counted_up : MadeFile → MadeFile
counted_up f = record f { lookups = min (f.lookups + 1) (2 ^ 64 - 1) }

-- the device after a lookup of a file
abbrev pub looked_up : State → ℕ → State
looked_up s i = with_made s i (counted_up (made_at s (i + 2)))

-- the file without a name
abbrev pub without_name : MadeFile → MadeFile
without_name f = record f { name = None }

-- the device after a file's name was taken away
abbrev pub unnamed : State → ℕ → State
unnamed s i = with_made s i (without_name (made_at s (i + 2)))

-- the device with one more file
abbrev pub with_new_file : State → List ℕ → State
with_new_file s name = record s { made = s.made ++ new_file name ∷ [] }

-- the file after lookups of it were given back
abbrev pub less_looked_up : ℕ → MadeFile → MadeFile
less_looked_up n f = record f { lookups = f.lookups - n }

-- the file after all lookups of it were given back
abbrev pub unlooked : MadeFile → MadeFile
unlooked f = record f { lookups = 0 }

-- ---- open handles

-- a directory's handle
abbrev pub is_dir : Kind → Bool
is_dir kinds.Dir = true
is_dir kinds.File = false

-- what a node is opened as
abbrev pub kind_of : ℕ → Kind
kind_of node = if node == 1 then kinds.Dir else kinds.File

-- a node has an open handle
abbrev pub is_open : State → ℕ → Bool
is_open s node = list_any (λ o. o.node == node) s.opened

-- the handle that is opened next
abbrev pub next_opened : State → ℕ → Opened
next_opened s node = record { fh = s.next_fh; node = node; kind = kind_of node }

-- the device with one more handle of a node
abbrev pub with_open : State → ℕ → State
with_open s node = record s { opened = s.opened ++ next_opened s node ∷ []; next_fh = s.next_fh + 1 }

-- the device without the handle of this number
abbrev pub without_open : State → ℕ → State
without_open s fh = record s { opened = filter (λ o. not (o.fh == fh)) s.opened }

-- ---- sessions

-- a session begins
abbrev pub begun : State → State
begun s = record s { started = true }

-- A session ends: no handle is open, and all lookups are given back. Names, files and the next handle's number stay.
abbrev pub ended : State → State
ended s = record s { started = false; opened = []; made = map unlooked s.made }

-- ---- the window

-- the whole window cleared, where it has pages
abbrev pub cleared_window : ℕ → MapView → MapView
cleared_window pages v = if pages == 0 then v else wiped v 0 (page_size * pages)

-- intervals cleared one after another
abbrev pub all_cleared : MapView → List RemoveOne → MapView
all_cleared v [] = v
all_cleared v (one ∷ ones) = all_cleared (wiped v one.moffset one.len) ones
