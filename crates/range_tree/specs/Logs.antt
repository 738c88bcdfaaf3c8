-- What an entry of a placement log places, as seen from later on, what is found of a chunk at the log's end, and where a
-- log is unsound first.
use Rattle.std.specs.Prelude.{◌≡◌, ℕ, ◌+◌, ◌||◌, ◌&&◌, Bool, true, false, not, List, [], ◌∷◌, length, slice_get, Option, Some, None, if◌then◌else◌}
use Rattle.page_map.specs.declared.pages.Mode.{Mode}
use Rattle.page_map.specs.declared.ranges.LogEntry.{LogEntry}
use Rattle.page_map.specs.declared.ranges.LogEntry.TheVariants as entries
use Rattle.page_map.specs.declared.ranges.Placed.{Placed}
use Rattle.page_map.specs.Logs.{Slot, live, writable, is_writable, places, stays, is_written, may_follow, next_slots}

-- The entry places this chunk, and none of the later ones removes its range. To be written it was placed so, or one of
-- them upgrades its range.
abbrev pub lasts : Bool → LogEntry → ℕ → List LogEntry → Bool
lasts write e chunk later = places chunk (Some e) && stays (Some e) later && (not write || is_written (Some e) later)

-- Entry k of the log places this chunk, and that is live when the log has m entries. To be written it is also
-- writable there.
unfoldable pub is_live : Bool → List LogEntry → ℕ → ℕ → ℕ → Bool
is_live write log chunk k m = places chunk (slice_get log k) && live log k m && (not write || writable log k m)

-- The entry that places a chunk and is live at the log's end: it names the range, and it is writable there exactly where
-- the mode says so.
pub record IsLivePlace (log : List LogEntry) (chunk : ℕ) (p : Placed) : Type 0 where
  pub at_first : Mode
  pub entry : slice_get log p.entry ≡ Some (entries.Place chunk p.range at_first)
  pub live : is_live false log chunk p.entry (length log) ≡ true
  pub written : is_writable p.mode ≡ is_live true log chunk p.entry (length log)

-- what is found of a chunk: its entry that is live at the log's end, or that there is none
unfoldable pub Finds : List LogEntry → ℕ → Option Placed → Type 0
Finds log chunk (Some p) = IsLivePlace log chunk p
Finds log chunk None = (k : ℕ) → is_live false log chunk k (length log) ≡ false

-- The place of the first entry that may not follow those before it, counted from n, where these slots are placed at
-- first.
unfoldable pub first_unsound : ℕ → ℕ → List Slot → List LogEntry → Option ℕ
first_unsound ranges n slots [] = None
first_unsound ranges n slots (e ∷ es) = if may_follow ranges slots e then first_unsound ranges (n + 1) (next_slots n slots e) es else Some n

-- the same of a whole log; there is none exactly where the log is sound
abbrev pub unsound_at : ℕ → List LogEntry → Option ℕ
unsound_at ranges log = first_unsound ranges 0 [] log
