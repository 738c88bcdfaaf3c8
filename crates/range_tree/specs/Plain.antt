-- The board of one guest: its parts, what it means, and what always holds of it.
use Rattle.std.specs.Prelude.{◌≡◌, ℕ, ◌*◌, ◌/◌, ◌%◌, ◌<◌, ◌≤◌, ◌==◌, Bool, true, false, List, [], length, map, replicate, slice_index_or, Option, Some, None, IfSome, if◌then◌else◌}
use Rattle.std.specs.List.{range_with_len}
use Rattle.std.specs.Option.{option_map}
use Rattle.page_map.specs.declared.pages.Page.{Page}
use Rattle.page_map.specs.declared.ranges.LogEntry.{LogEntry}
use Rattle.page_map.specs.declared.ranges.RangeWord.{RangeWord}
use Rattle.page_map.specs.declared.ranges.RangeWord.TheVariants as words
use Rattle.page_map.specs.declared.ranges.Target.{Target}
use Rattle.page_map.specs.Window.{max_chunks}
use Rattle.page_map.specs.Plain.{range_pages}
use Rattle.page_map.specs.Logs.{Slot, slot_in, sound}
use Rattle.page_map.specs.Board.{MapView, Noted}
use Rattle.range_tree.specs.declared.plain.Owner.{Owner}
use Rattle.range_tree.specs.declared.plain.Seen.{Seen}
use Rattle.range_tree.specs.Trees.{max_ranges}
use Rattle.range_tree.specs.Ranges.{target_page, no_target, is_noted_blocked, IsAtLeast}

-- how many files a board has at most
abbrev pub max_files : ℕ
max_files = 64

-- the parts of a board
pub record Parts : Type 0 where
  pub guest : ℕ
  pub tree : Option ℕ
  pub moves : Option ℕ
  pub pins : List ℕ
  pub logs : List (List LogEntry)
  pub pinned : List Target
  pub looks : List (Option Noted)
  pub targets : List (Option Target)
  pub targeted : ℕ
  pub sweeps : ℕ
  pub rounds : ℕ
  -- per range what is placed there, and what the whole range is mapped to
  pub owners : List (Option Owner)
  pub maps : List (Option Target)

-- what a page shows of ranges that are mapped so; the board holds each page, since nobody else maps any
abbrev pub shown_page : List (Option Target) → ℕ → Option (Option Page)
shown_page maps page = Some (option_map (target_page (page % range_pages)) (slice_index_or maps (page / range_pages) None))

abbrev pub table_of : List (Option Target) → List (Option (Option Page))
table_of maps = map (shown_page maps) (range_with_len 0 (range_pages * length maps))

-- what the board of these parts means
abbrev pub plain_view : Parts → MapView
plain_view s = record {
  plain = false;
  over = None;
  hands = record { tree = s.tree; moves = s.moves; pins = s.pins };
  ranges = record { guest = s.guest; may_take = true; others = false; logs = s.logs; pinned = s.pinned; looks = s.looks; targets = s.targets; targeted = s.targeted; sweeps = s.sweeps; rounds = s.rounds };
  table = table_of s.maps;
}

-- a board of free ranges, of which nothing is mapped, and of files of which nothing was placed yet
abbrev pub new_ranges : ℕ → ℕ → ℕ → MapView
new_ranges ranges files guest = record {
  plain = false;
  over = None;
  hands = record { tree = None; moves = None; pins = replicate ranges 0 };
  ranges = record { guest = guest; may_take = true; others = false; logs = replicate files []; pinned = replicate ranges no_target; looks = replicate ranges None; targets = replicate ranges None; targeted = 0; sweeps = 0; rounds = 0 };
  table = replicate (range_pages * ranges) (Some None);
}

abbrev pub owner_at : Parts → ℕ → Option Owner
owner_at s range = slice_index_or s.owners range None

abbrev pub map_at : Parts → ℕ → Option Target
map_at s range = slice_index_or s.maps range None

abbrev pub pins_at : Parts → ℕ → ℕ
pins_at s range = slice_index_or s.pins range 0

abbrev pub pinned_at : Parts → ℕ → Target
pinned_at s range = slice_index_or s.pinned range no_target

abbrev pub entries_of : Parts → ℕ → List LogEntry
entries_of s file = slice_index_or s.logs file []

-- what is placed in a range, as a file's log has it
abbrev pub owned_slot : ℕ → Owner → Slot
owned_slot range o = record { chunk = o.chunk; range = range; mode = o.mode; entry = o.entry }

-- what a file's log has in a range, by what is placed there
unfoldable pub slot_for : ℕ → ℕ → Option Owner → Option Slot
slot_for file range None = None
slot_for file range (Some o) = if o.file == file then Some (owned_slot range o) else None

-- what is placed as a target
abbrev pub owned_target : Owner → Target
owned_target o = record { file = o.file; chunk = o.chunk; mode = o.mode }

-- the word of a range that isn't moved, and of any
unfoldable pub word_owned : ℕ → Option Owner → RangeWord
word_owned pins None = words.Free
word_owned pins (Some o) = words.Mapped o.file o.chunk o.mode pins

unfoldable pub plain_word : Option ℕ → ℕ → ℕ → ℕ → Option Owner → RangeWord
plain_word None guest range pins o = word_owned pins o
plain_word (Some m) guest range pins o = if m == range then words.Moving guest else word_owned pins o

abbrev pub word_of : Parts → ℕ → RangeWord
word_of s range = plain_word s.moves s.guest range (pins_at s range) (owner_at s range)

-- what a pin knows of its range: what is placed there is at least so
pub record IsPinTarget (o : Option Owner) (pinned : Target) : Type 0 where
  pub own : Owner
  pub placed : o ≡ Some own
  pub enough : IsAtLeast pinned (owned_target own)

-- what is placed in a range, of a board of so many files, is what the range is mapped to, with a mode that is enough
pub record IsOwned (files : ℕ) (m : Option Target) (o : Owner) : Type 0 where
  pub known : o.file < files
  pub small : o.chunk < max_chunks
  pub target : Target
  pub mapped : m ≡ Some target
  pub enough : IsAtLeast (owned_target o) target

-- the range that is moved has nothing in it
pub record IsMoved (s : Parts) (range : ℕ) : Type 0 where
  pub within : range < length s.pins
  pub unpinned : pins_at s range ≡ 0
  pub empty : owner_at s range ≡ None

pub record IsPlainRanges (s : Parts) : Type 0 where
  pub few : length s.pins ≤ max_ranges
  pub files : length s.logs ≤ max_files
  pub pinned : length s.pinned ≡ length s.pins
  pub looks : length s.looks ≡ length s.pins
  pub targets : length s.targets ≡ length s.pins
  pub owners : length s.owners ≡ length s.pins
  pub maps : length s.maps ≡ length s.pins
  pub tree : IfSome s.tree (λ file. file < length s.logs)
  pub moves : (range : ℕ) → s.moves ≡ Some range → IsMoved s range
  pub logs : (file : ℕ) → file < length s.logs → sound (length s.pins) (entries_of s file) ≡ true
  pub slots : (file range : ℕ) → slot_in (entries_of s file) range ≡ slot_for file range (owner_at s range)
  pub owned : (range : ℕ) (o : Owner) → owner_at s range ≡ Some o → IsOwned (length s.logs) (map_at s range) o
  pub pins : (range : ℕ) → 0 < pins_at s range → IsPinTarget (owner_at s range) (pinned_at s range)

abbrev pub noted_of : Seen → Noted
noted_of s = record { word = s.word; own = s.own }

abbrev pub all_noted : List (Option Seen) → List (Option Noted)
all_noted looks = map (option_map noted_of) looks

-- a look that is noted, of a blocked range
abbrev pub is_seen_blocked : Option Seen → Bool
is_seen_blocked look = is_noted_blocked (option_map noted_of look)
