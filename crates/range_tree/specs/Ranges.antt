-- Boards of ranges: the parts of what one means, what its calls make of it, and what holds of every one.
use Rattle.std.specs.Prelude.{◌≡◌, ℕ, ◌+◌, ◌-◌, ◌*◌, ◌<◌, ◌≤◌, ◌==◌, Bool, true, false, ◌&&◌, nat_lt, is_some, IsSome, List, [], ◌∷◌, ◌++◌, length, replicate, slice_index_or, slice_set, Option, Some, None, unwrap_or, IfSome, ◌⊎◌, Result, Ok, Err, if◌then◌else◌}
use Rattle.std.specs.List.{list_all}
use Rattle.std.specs.Option.{option_map}
use Rattle.plain_file.specs.declared.refusals.Memory.{Memory}
use Rattle.plain_file.specs.Counts.{more_by_one}
use Rattle.page_map.specs.declared.pages.Mode.{Mode}
use Rattle.page_map.specs.declared.pages.Mode.TheVariants as modes
use Rattle.page_map.specs.declared.pages.Page.{Page}
use Rattle.page_map.specs.declared.ranges.LogEntry.{LogEntry}
use Rattle.page_map.specs.declared.ranges.LogEntry.TheVariants as entries
use Rattle.page_map.specs.declared.ranges.RangeWord.{RangeWord}
use Rattle.page_map.specs.declared.ranges.RangeWord.TheVariants as words
use Rattle.page_map.specs.declared.ranges.Target.{Target}
use Rattle.page_map.specs.declared.ranges.Placed.{Placed}
use Rattle.page_map.specs.Logs.{Slot, slot_in, placed_at, sound}
use Rattle.page_map.specs.Window.{page_size, range_size, max_chunks}
use Rattle.page_map.specs.Plain.{range_pages}
use Rattle.page_map.specs.Board.{MapView, Hands, Noted, held_at, log_at}
use Rattle.range_tree.specs.Trees.{max_ranges}

-- ---- parts of a board

-- how many ranges there are
abbrev pub range_count : MapView → ℕ
range_count v = length v.hands.pins

-- how many pins the board has on a range
abbrev pub pins_on : MapView → ℕ → ℕ
pins_on v range = slice_index_or v.hands.pins range 0

-- how many pins a board has at most
abbrev pub max_pins : ℕ
max_pins = 64

-- what a range says of which nothing is known
abbrev pub no_target : Target
no_target = record { file = 0; chunk = 0; mode = modes.R }

-- what is known to be in a range while the board has a pin on it
abbrev pub pinned_in : MapView → ℕ → Target
pinned_in v range = slice_index_or v.ranges.pinned range no_target

-- the noted look of a range
abbrev pub look_at : MapView → ℕ → Option Noted
look_at v range = slice_index_or v.ranges.looks range None

-- the file of the tree that is had, and the range that is moved; 0 where there is none
abbrev pub tree_of : MapView → ℕ
tree_of v = unwrap_or v.hands.tree 0

abbrev pub moved_of : MapView → ℕ
moved_of v = unwrap_or v.hands.moves 0

-- what is placed in a range, in the tree that is had; nothing where none is had
unfoldable pub slot_at : Option ℕ → List (List LogEntry) → ℕ → Option Slot
slot_at None logs range = None
slot_at (Some file) logs range = slot_in (slice_index_or logs file []) range

abbrev pub tree_slot : MapView → ℕ → Option Slot
tree_slot v range = slot_at v.hands.tree v.ranges.logs range

-- the board holds each page of a range
abbrev pub HoldsRange : MapView → ℕ → Type 0
HoldsRange v range = (i : ℕ) → i < range_pages → IsSome (held_at v (range_pages * range + i))

-- what a page shows, so many pages behind the start of a range that is mapped so
abbrev pub target_page : ℕ → Target → Page
target_page i t = record { node = t.file + 2; foffset = range_size * t.chunk + page_size * i; mode = t.mode }

-- the board holds each page of a range, and the whole range is mapped so, or nothing is mapped there
abbrev pub IsMapped : MapView → ℕ → Option Target → Type 0
IsMapped v range t = (i : ℕ) → i < range_pages → held_at v (range_pages * range + i) ≡ Some (option_map (target_page i) t)

-- a mode that allows what another one does
unfoldable pub is_enough : Mode → Mode → Bool
is_enough modes.R had = true
is_enough modes.W modes.R = false
is_enough modes.W modes.W = true

-- the same file and chunk, with a mode that is enough
pub record IsAtLeast (wanted t : Target) : Type 0 where
  pub same_file : t.file ≡ wanted.file
  pub same_chunk : t.chunk ≡ wanted.chunk
  pub enough : is_enough wanted.mode t.mode ≡ true

-- ---- what a call may change

-- The window has as many pages, and a page that is held before and after keeps what is mapped there. Which pages are
-- held may change, and what is mapped at those that weren't held.
pub record KeepsHeld (old new : MapView) : Type 0 where
  pub count : length new.table ≡ length old.table
  pub held : (page : ℕ) → IsSome (held_at old page) → IsSome (held_at new page) → held_at new page ≡ held_at old page

-- the board is this one, but for its pages
abbrev pub IsButTable : MapView → MapView → Type 0
IsButTable wanted new = new ≡ record wanted { table = new.table }

-- the board is the wanted one but for its pages, which are as before as far as they stay held
pub record Becomes (old wanted new : MapView) : Type 0 where
  pub rest : IsButTable wanted new
  pub pages : KeepsHeld old new

abbrev pub with_tree : MapView → Option ℕ → MapView
with_tree v tree = record v { hands = record v.hands { tree = tree } }

abbrev pub with_moves : MapView → Option ℕ → MapView
with_moves v moves = record v { hands = record v.hands { moves = moves } }

-- the board with more entries seen of a log
abbrev pub with_more : MapView → ℕ → List LogEntry → MapView
with_more v file more = record v { ranges = record v.ranges { logs = slice_set v.ranges.logs file (log_at v file ++ more) } }

-- ---- the tree of a file

-- The tree of a file is had, of whose log more is seen. Where no other board moves ranges, nothing is new.
pub record Enters (old : MapView) (file : ℕ) (new : MapView) : Type 0 where
  pub more : List LogEntry
  pub alone : old.ranges.others ≡ false → more ≡ []
  pub becomes : Becomes old (with_more (with_tree old (Some file)) file more) new

-- no tree is had
abbrev pub Leaves : MapView → MapView → Type 0
Leaves old new = Becomes old (with_tree old None) new

-- ---- looks

-- the pins that a word counts
unfoldable pub pins_in : RangeWord → ℕ
pins_in words.Free = 0
pins_in (words.Moving guest) = 0
pins_in (words.Mapped file chunk mode pins) = pins

-- a word names a file and a chunk that there are
unfoldable pub names_file : ℕ → RangeWord → Bool
names_file files words.Free = true
names_file files (words.Moving guest) = true
names_file files (words.Mapped file chunk mode pins) = nat_lt file files && nat_lt chunk max_chunks

-- the word says that the range is mapped to this file
unfoldable pub is_of_file : ℕ → RangeWord → Bool
is_of_file file words.Free = false
is_of_file file (words.Moving guest) = false
is_of_file file (words.Mapped f chunk mode pins) = f == file

-- the word says of a file what its log has in the range: nothing, or this chunk with this mode
unfoldable pub SaysSlot : ℕ → Option Slot → RangeWord → Type 0
SaysSlot file None word = is_of_file file word ≡ false
SaysSlot file (Some s) word = word ≡ words.Mapped file s.chunk s.mode (pins_in word)

-- What is true of a word where no other board may pin or move ranges: the pins in it are this board's, nobody else
-- moves the range, and it is mapped just as the logs say.
pub record IsAlone (v : MapView) (range : ℕ) (word : RangeWord) : Type 0 where
  pub pins : pins_in word ≡ pins_on v range
  pub mover : (guest : ℕ) → word ≡ words.Moving guest → guest ≡ v.ranges.guest
  pub logs : (file : ℕ) → file < length v.ranges.logs → SaysSlot file (slot_in (log_at v file) range) word

-- What each word says that is seen of a range.
pub record Sees (v : MapView) (range : ℕ) (word : RangeWord) : Type 0 where
  -- it is moving by this board's guest exactly where this board moves it
  pub moves : v.hands.moves ≡ Some range → word ≡ words.Moving v.ranges.guest
  pub own : word ≡ words.Moving v.ranges.guest → v.hands.moves ≡ Some range
  -- it counts this board's pins among others
  pub pins : pins_on v range ≤ pins_in word
  pub names : names_file (length v.ranges.logs) word ≡ true
  -- it agrees with the tree that is had
  pub tree : (file : ℕ) → v.hands.tree ≡ Some file → SaysSlot file (slot_in (log_at v file) range) word
  pub alone : v.ranges.others ≡ false → IsAlone v range word

-- the board with a word noted of a range, and its own pins there
abbrev pub looked : MapView → ℕ → RangeWord → MapView
looked v range word = record v { ranges = record v.ranges { looks = slice_set v.ranges.looks range (Some (record { word = word; own = pins_on v range })) } }

-- a word is seen of a range and noted
pub record Looks (old : MapView) (range : ℕ) (word : RangeWord) (new : MapView) : Type 0 where
  pub seen : Sees old range word
  pub noted : new ≡ looked old range word

-- a word is moving, or has pins
unfoldable pub is_blocked : RangeWord → Bool
is_blocked words.Free = false
is_blocked (words.Moving guest) = true
is_blocked (words.Mapped file chunk mode pins) = nat_lt 0 pins

-- a noted look of a blocked range
unfoldable pub is_noted_blocked : Option Noted → Bool
is_noted_blocked None = false
is_noted_blocked (Some n) = is_blocked n.word

-- there are ranges, and each one's look passes a test
abbrev pub has_swept : (Option Noted → Bool) → MapView → Bool
has_swept test v = nat_lt 0 (range_count v) && list_all test v.ranges.looks

-- No look is noted any more. Where there are ranges and one look of each was noted, that was a sweep; where each of them
-- was blocked, also a round.
abbrev pub forgot : MapView → MapView
forgot v = record v {
  ranges = record v.ranges {
    looks = replicate (range_count v) None;
    sweeps = if has_swept is_some v then more_by_one v.ranges.sweeps else v.ranges.sweeps;
    rounds = if has_swept is_noted_blocked v then more_by_one v.ranges.rounds else v.ranges.rounds;
  };
}

-- ---- taking

-- the word lets who has this tree take the range: it is free, or mapped without pins to the file of the tree
unfoldable pub is_takeable : Option ℕ → RangeWord → Bool
is_takeable tree words.Free = true
is_takeable tree (words.Moving guest) = false
is_takeable None (words.Mapped file chunk mode pins) = false
is_takeable (Some t) (words.Mapped file chunk mode pins) = t == file && pins == 0

-- the removal of what is placed in a range
unfoldable pub removal : Option Slot → List LogEntry
removal None = []
removal (Some s) = entries.Remove s.range ∷ []

-- the board moves the range; where it was in the tree, the log has its removal
abbrev pub taken : MapView → ℕ → MapView
taken v range = with_moves (with_more v (tree_of v) (removal (tree_slot v range))) (Some range)

-- The range is taken: its word allowed that, and this board had no pin on it.
pub record IsTaken (old : MapView) (range : ℕ) (new : MapView) : Type 0 where
  pub word : RangeWord
  pub seen : Sees old range word
  pub takeable : is_takeable old.hands.tree word ≡ true
  pub unpinned : pins_on old range ≡ 0
  pub becomes : Becomes old (taken old range) new

-- It is refused: the word didn't allow it, and is noted.
pub record IsRefused (old : MapView) (range : ℕ) (word : RangeWord) (new : MapView) : Type 0 where
  pub untakeable : is_takeable old.hands.tree word ≡ false
  pub looks : Looks old range word new

unfoldable pub Takes : MapView → ℕ → Result (Unit {0}) RangeWord → MapView → Type 0
Takes old range (Ok u) new = IsTaken old range new
Takes old range (Err word) new = IsRefused old range word new

-- ---- settling

-- the range that was moved isn't any more, and the tree has a chunk in it
abbrev pub settled : MapView → ℕ → Mode → MapView
settled v chunk mode = with_moves (with_more v (tree_of v) (entries.Place chunk (moved_of v) mode ∷ [])) None

-- A range is moved, a tree is had without the chunk, and the whole range is mapped to it.
pub record CanSettle (v : MapView) (chunk : ℕ) (mode : Mode) : Type 0 where
  pub moves : IsSome v.hands.moves
  pub tree : IsSome v.hands.tree
  pub small : chunk < max_chunks
  pub free : placed_at (log_at v (tree_of v)) chunk ≡ None
  pub mapped : IsMapped v (moved_of v) (Some (record { file = tree_of v; chunk = chunk; mode = mode }))

-- the entry's place is the length of the log before it
pub record IsSettled (old : MapView) (chunk : ℕ) (mode : Mode) (place : ℕ) (new : MapView) : Type 0 where
  pub at : place ≡ length (log_at old (tree_of old))
  pub becomes : Becomes old (settled old chunk mode) new

unfoldable pub Settles : MapView → ℕ → Mode → Result ℕ Memory → MapView → Type 0
Settles old chunk mode (Ok place) new = IsSettled old chunk mode place new
Settles old chunk mode (Err e) new = new ≡ old

-- ---- upgrades, pins and targets

-- the upgrade of what is placed
unfoldable pub upgrade_of : Option Placed → List LogEntry
upgrade_of None = []
upgrade_of (Some p) = entries.Upgrade p.range ∷ []

-- the board whose tree has the upgrade of a chunk
abbrev pub upgraded_in : MapView → ℕ → MapView
upgraded_in v chunk = with_more v (tree_of v) (upgrade_of (placed_at (log_at v (tree_of v)) chunk))

-- what is placed for a chunk may be read and not written, and its whole range is mapped for writing
unfoldable pub IsRaisable : MapView → ℕ → Option Placed → Type 0
IsRaisable v chunk None = ⊥
IsRaisable v chunk (Some p) = (p.mode ≡ modes.R) × IsMapped v p.range (Some (record { file = tree_of v; chunk = chunk; mode = modes.W }))

-- A tree is had in which the chunk is placed for reading, in a range that is mapped for writing.
pub record CanUpgrade (v : MapView) (chunk : ℕ) : Type 0 where
  pub tree : IsSome v.hands.tree
  pub raisable : IsRaisable v chunk (placed_at (log_at v (tree_of v)) chunk)

abbrev pub with_pins : MapView → ℕ → ℕ → Hands
with_pins v range n = record v.hands { pins = slice_set v.hands.pins range n }

-- what a pin makes known of a range of a file's tree
unfoldable pub slot_target : ℕ → Option Slot → Target
slot_target file None = no_target
slot_target file (Some s) = record { file = file; chunk = s.chunk; mode = s.mode }

-- the board with one pin more, on a range of the tree
abbrev pub with_pin : MapView → ℕ → MapView
with_pin v range = record v {
  hands = with_pins v range (pins_on v range + 1);
  ranges = record v.ranges { pinned = slice_set v.ranges.pinned range (slot_target (tree_of v) (tree_slot v range)) };
}

-- the board with one pin less
abbrev pub unpinned : MapView → ℕ → MapView
unpinned v range = record v { hands = with_pins v range (pins_on v range - 1) }

-- the board after a look at what the whole range is mapped to
abbrev pub targeted : MapView → ℕ → Option Target → MapView
targeted v range t = record v { ranges = record v.ranges { targets = slice_set v.ranges.targets range t; targeted = more_by_one v.ranges.targeted } }

-- A look at a target sees what the board holds there, where it holds the range, and under a pin at least what was pinned.
pub record Targets (old : MapView) (range : ℕ) (t : Option Target) (new : MapView) : Type 0 where
  pub held : HoldsRange old range → IsMapped old range t
  pub some : 0 < pins_on old range → IsSome t
  pub pinned : 0 < pins_on old range → IfSome t (IsAtLeast (pinned_in old range))
  pub counted : new ≡ targeted old range t

-- ---- what holds of every board

-- a pin's chunk is placed in its range at the end of what is seen of its file's log, with a mode that is enough
pub record IsPinnedAt (v : MapView) (range : ℕ) (t : Target) : Type 0 where
  pub known : t.file < length v.ranges.logs
  pub slot : Slot
  pub placed : slot_in (log_at v t.file) range ≡ Some slot
  pub same_chunk : slot.chunk ≡ t.chunk
  pub enough : is_enough t.mode slot.mode ≡ true

-- a range is moved, or in the tree that is had
abbrev pub IsInHand : MapView → ℕ → Type 0
IsInHand v range = (v.hands.moves ≡ Some range) ⊎ IsSome (tree_slot v range)

pub record IsSoundRanges (v : MapView) : Type 0 where
  pub plain : v.plain ≡ false
  pub few : range_count v ≤ max_ranges
  -- each list of the view has an element per range, and the window 512 pages per range
  pub pages : length v.table ≡ range_pages * range_count v
  pub pinned : length v.ranges.pinned ≡ range_count v
  pub looks : length v.ranges.looks ≡ range_count v
  pub targets : length v.ranges.targets ≡ range_count v
  pub tree : IfSome v.hands.tree (λ file. file < length v.ranges.logs)
  -- the range that is moved is one of the window, without a pin of this board, and in no tree that is had
  pub moves : IfSome v.hands.moves (λ range. (range < range_count v) × (pins_on v range ≡ 0))
  pub apart : (range : ℕ) → v.hands.moves ≡ Some range → tree_slot v range ≡ None
  pub logs : (file : ℕ) → file < length v.ranges.logs → sound (range_count v) (log_at v file) ≡ true
  -- the pages of a range in hand are held
  pub held : (range : ℕ) → range < range_count v → IsInHand v range → HoldsRange v range
  pub pins : (range : ℕ) → range < range_count v → 0 < pins_on v range → IsPinnedAt v range (pinned_in v range)
  -- a pinned range in the tree that is had is in that of the pinned file
  pub pin_tree : (range : ℕ) → 0 < pins_on v range → IsSome (tree_slot v range) → v.hands.tree ≡ Some (pinned_in v range).file
