-- A file's tree: what is placed, and the log of how it came so.
use Rattle.std.specs.Prelude.{◌≡◌, ℕ, ◌==◌, Bool, false, not, List, map, Option, IsTrue, if◌then◌else◌}
use Rattle.std.specs.List.{find, sum_by}
use Rattle.page_map.specs.declared.pages.Mode.{Mode}
use Rattle.page_map.specs.declared.pages.Mode.TheVariants as modes
use Rattle.page_map.specs.declared.pages.Span.{Span}
use Rattle.page_map.specs.declared.ranges.LogEntry.{LogEntry}
use Rattle.page_map.specs.declared.ranges.LogEntry.TheVariants as entries
use Rattle.page_map.specs.declared.ranges.Placed.{Placed}
use Rattle.page_map.specs.Board.{chunk_in, is_chunk_of}
use Rattle.page_map.specs.Logs.{Slot, slots_of, is_of, is_writable, sound}
use Rattle.range_tree.specs.declared.slots.Spot.{Spot}

-- how many ranges a window has at most
abbrev pub max_ranges : ℕ
max_ranges = 256

abbrev pub slot_of : Spot → Slot
slot_of s = record { chunk = s.chunk; range = s.range; mode = s.mode; entry = s.entry }

-- the slots that a tree has in hand
abbrev pub slots_in : List Spot → List Slot
slots_in spots = map slot_of spots

-- what is placed for a chunk, and in a range
abbrev pub slot_at : List LogEntry → ℕ → Option Slot
slot_at log chunk = find (is_of chunk) (slots_of log)

-- a spot after an upgrade of a range, and whether it stays when the range is removed
abbrev pub raised : ℕ → Spot → Spot
raised range s = record s { mode = if s.range == range then modes.W else s.mode }

abbrev pub is_elsewhere : ℕ → Spot → Bool
is_elsewhere range s = not (s.range == range)

-- a span is the whole of a spot's chunk, of this file, in its range
abbrev pub is_span_of : Span → ℕ → Spot → Bool
is_span_of span file s = is_chunk_of span (chunk_in file (slot_of s))

-- how many entries more a slot may need: its removal, and where it is placed for reading its upgrade
abbrev pub need : Spot → ℕ
need s = if is_writable s.mode then 1 else 2

abbrev pub needed : List Spot → ℕ
needed spots = sum_by need spots

-- What a log and the slots of a tree say of each other: the slots are what is placed at the log's end, and the log
-- is sound for the largest window.
pub record Agrees (slots : List Slot) (log : List LogEntry) : Type 0 where
  pub placed : slots ≡ slots_of log
  pub sound : IsTrue (sound max_ranges log)

-- the log stays sound for a window of so many ranges
abbrev pub KeepsSound : ℕ → List LogEntry → List LogEntry → Type 0
KeepsSound ranges old new = IsTrue (sound ranges old) → IsTrue (sound ranges new)

-- what is placed may be read and not written
abbrev pub IsReading : Placed → Type 0
IsReading p = is_writable p.mode ≡ false

-- the entries that a tree adds to its log
abbrev pub place_entry : ℕ → ℕ → Mode → LogEntry
place_entry chunk range mode = entries.Place chunk range mode

abbrev pub upgrade_entry : ℕ → LogEntry
upgrade_entry range = entries.Upgrade range

abbrev pub remove_entry : ℕ → LogEntry
remove_entry range = entries.Remove range
