-- The placement log of a file: which entries are live, and what is placed at its end.
use Rattle.std.specs.Prelude.{ℕ, ◌+◌, ◌==◌, Bool, true, false, ◌&&◌, ◌||◌, not, nat_lt, nat_le, is_some, is_none, List, [], ◌∷◌, ◌++◌, length, map, take, drop, filter, slice_get, Option, Some, None, if◌then◌else◌}
use Rattle.std.specs.List.{list_any, find}
use Rattle.std.specs.Option.{option_map}
use Rattle.page_map.specs.declared.pages.Mode.{Mode}
use Rattle.page_map.specs.declared.pages.Mode.TheVariants as modes
use Rattle.page_map.specs.declared.ranges.LogEntry.{LogEntry}
use Rattle.page_map.specs.declared.ranges.LogEntry.TheVariants as entries
use Rattle.page_map.specs.declared.ranges.Placed.{Placed}
use Rattle.page_map.specs.Window.{max_chunks}

-- the mode allows writing
unfoldable pub is_writable : Mode → Bool
is_writable modes.R = false
is_writable modes.W = true

-- ---- by places of the log

-- the entry removes the range, or upgrades it
unfoldable pub removes : ℕ → LogEntry → Bool
removes range (entries.Place c r m) = false
removes range (entries.Upgrade r) = false
removes range (entries.Remove r) = r == range

unfoldable pub upgrades : ℕ → LogEntry → Bool
upgrades range (entries.Place c r m) = false
upgrades range (entries.Upgrade r) = r == range
upgrades range (entries.Remove r) = false

-- a place that none of the later entries removes
unfoldable pub stays : Option LogEntry → List LogEntry → Bool
stays None later = false
stays (Some (entries.Place c r m)) later = not (list_any (removes r) later)
stays (Some (entries.Upgrade r)) later = false
stays (Some (entries.Remove r)) later = false

-- a place for writing, or one that one of the later entries upgrades
unfoldable pub is_written : Option LogEntry → List LogEntry → Bool
is_written None later = false
is_written (Some (entries.Place c r m)) later = is_writable m || list_any (upgrades r) later
is_written (Some (entries.Upgrade r)) later = false
is_written (Some (entries.Remove r)) later = false

-- the entry places this chunk
unfoldable pub places : ℕ → Option LogEntry → Bool
places chunk None = false
places chunk (Some (entries.Place c r m)) = c == chunk
places chunk (Some (entries.Upgrade r)) = false
places chunk (Some (entries.Remove r)) = false

-- the entries k + 1 to m - 1
abbrev pub between : List LogEntry → ℕ → ℕ → List LogEntry
between log k m = drop (k + 1) (take m log)

-- k is below m, m is at most the log's length, entry k places a chunk, and none of those between removes its range
unfoldable pub live : List LogEntry → ℕ → ℕ → Bool
live log k m = nat_lt k m && nat_le m (length log) && stays (slice_get log k) (between log k m)

-- it was placed for writing, or one of those between upgrades its range
unfoldable pub writable : List LogEntry → ℕ → ℕ → Bool
writable log k m = is_written (slice_get log k) (between log k m)

-- ---- by what is placed

-- a chunk in its range
pub record Slot : Type 0 where
  pub chunk : ℕ
  pub range : ℕ
  pub mode : Mode
  -- the place of its Place in the log
  pub entry : ℕ

abbrev pub is_in : ℕ → Slot → Bool
is_in range s = s.range == range

abbrev pub is_of : ℕ → Slot → Bool
is_of chunk s = s.chunk == chunk

-- a slot whose range is this one may be written from here on
abbrev pub upgraded : ℕ → Slot → Slot
upgraded range s = record s { mode = if is_in range s then modes.W else s.mode }

-- what one entry, of this number, makes of the slots
unfoldable pub next_slots : ℕ → List Slot → LogEntry → List Slot
next_slots n slots (entries.Place c r m) = slots ++ record { chunk = c; range = r; mode = m; entry = n } ∷ []
next_slots n slots (entries.Upgrade r) = map (upgraded r) slots
next_slots n slots (entries.Remove r) = filter (λ s. not (is_in r s)) slots

unfoldable pub slots_from : ℕ → List Slot → List LogEntry → List Slot
slots_from n slots [] = slots
slots_from n slots (e ∷ es) = slots_from (n + 1) (next_slots n slots e) es

-- what is placed at the log's end
unfoldable pub slots_of : List LogEntry → List Slot
slots_of log = slots_from 0 [] log

abbrev pub placed_of : Slot → Placed
placed_of s = record { range = s.range; mode = s.mode; entry = s.entry }

-- where a chunk is placed, and what is placed in a range
unfoldable pub placed_at : List LogEntry → ℕ → Option Placed
placed_at log chunk = option_map placed_of (find (is_of chunk) (slots_of log))

unfoldable pub slot_in : List LogEntry → ℕ → Option Slot
slot_in log range = find (is_in range) (slots_of log)

-- ---- sound logs

-- the slot may be upgraded: it was placed for reading and not upgraded since
unfoldable pub may_upgrade : Option Slot → Bool
may_upgrade None = false
may_upgrade (Some s) = not (is_writable s.mode)

-- an entry may follow these slots: a place of a chunk that a file may have and of a range of the window, neither of them placed; an upgrade of a range that is placed for reading; a removal of one that is placed
unfoldable pub may_follow : ℕ → List Slot → LogEntry → Bool
may_follow ranges slots (entries.Place c r m) = nat_lt c max_chunks && nat_lt r ranges && is_none (find (is_of c) slots) && is_none (find (is_in r) slots)
may_follow ranges slots (entries.Upgrade r) = may_upgrade (find (is_in r) slots)
may_follow ranges slots (entries.Remove r) = is_some (find (is_in r) slots)

unfoldable pub sound_from : ℕ → ℕ → List Slot → List LogEntry → Bool
sound_from ranges n slots [] = true
sound_from ranges n slots (e ∷ es) = may_follow ranges slots e && sound_from ranges (n + 1) (next_slots n slots e) es

-- the log is one of a window of so many ranges
unfoldable pub sound : ℕ → List LogEntry → Bool
sound ranges log = sound_from ranges 0 [] log
