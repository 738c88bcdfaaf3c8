-- The window's half of the core: its state, what a guest may do to it, and what that makes of it.
use Rattle.std.specs.Prelude.{◌≡◌, ◌≢◌, ◌⊎◌, ℕ, ◌+◌, ◌<◌, ◌==◌, List, [], ◌∷◌, ◌++◌, length, replicate, slice_set, slice_index_or, Bool, if◌then◌else◌, Option, Some, None, MatchBool, ⊤}
use Rattle.std.specs.List.{sum_by, count_by, remove}
use Rattle.page_map.specs.declared.pages.Mode.{Mode}
use Rattle.page_map.specs.declared.pages.Mode.TheVariants as modes
use Rattle.page_map.specs.declared.ranges.LogEntry.{LogEntry}
use Rattle.page_map.specs.declared.ranges.Placed.{Placed}
use Rattle.page_map.specs.declared.ranges.Target.{Target}
use Rattle.page_map.specs.declared.ranges.RangeWord.{RangeWord}
use Rattle.page_map.specs.declared.ranges.RangeWord.TheVariants as words
use Rattle.page_map.specs.Logs.{placed_at}
use Rattle.page_map.specs.Window.{max_chunks}
use Rattle.range_tree.specs.Trees.{IsReading, place_entry, upgrade_entry, remove_entry}
use Rattle.window_core.specs.declared.states.RangeState.{RangeState}
use Rattle.window_core.specs.declared.states.RangeState.TheVariants as ranges
use Rattle.window_core.specs.declared.states.Pin.{Pin}

-- ---- the state

-- one file: who has its tree, the placement log of the tree, and how much of the log each guest has seen
pub record Side : Type 0 where
  pub holder : Option ℕ
  pub log : List LogEntry
  pub seen : List ℕ

-- per range its state and what its pages are mapped to, the files, and each guest's pins in the order in which they came
pub record Window : Type 0 where
  pub states : List RangeState
  pub targets : List (Option Target)
  pub sides : List Side
  pub pins : List (List Pin)

-- a file that no list has
abbrev pub no_side : Side
no_side = record { holder = None; log = []; seen = [] }

abbrev pub state : Window → ℕ → RangeState
state h r = slice_index_or h.states r ranges.Free

abbrev pub target : Window → ℕ → Option Target
target h r = slice_index_or h.targets r None

abbrev pub side : Window → ℕ → Side
side h f = slice_index_or h.sides f no_side

abbrev pub pins : Window → ℕ → List Pin
pins h g = slice_index_or h.pins g []

abbrev pub seen_by : Side → ℕ → ℕ
seen_by s g = slice_index_or s.seen g 0

-- where the tree of a file has a chunk
abbrev pub placed : Window → ℕ → ℕ → Option Placed
placed h f c = placed_at (side h f).log c

-- the chunk is placed in that range
abbrev pub IsPlaced : List LogEntry → ℕ → ℕ → Type 0
IsPlaced log c r = (p : Placed) × (placed_at log c ≡ Some p) × (p.range ≡ r)

abbrev pub on_range : ℕ → Pin → Bool
on_range r p = p.range == r

abbrev pub pins_on : ℕ → List Pin → ℕ
pins_on r ps = count_by (on_range r) ps

-- all guests' pins on the range
abbrev pub pin_count : Window → ℕ → ℕ
pin_count h r = sum_by (pins_on r) h.pins

-- without the oldest pin on the range
abbrev pub unpinned : ℕ → List Pin → List Pin
unpinned r [] = []
unpinned r (p ∷ ps) = if on_range r p then ps else (p ∷ unpinned r ps)

-- the first pin on the range stands at this place
abbrev pub IsOldest : ℕ → List Pin → ℕ → Type 0
IsOldest r ps k = (k < length ps) × (0 < pins_on r ps) × (unpinned r ps ≡ remove ps k)

-- ---- what a guest does

-- a deed names what its range or chunk is found to be: by range, file, chunk, mode
pub data Deed : Type 0 where
  enter : ℕ → Deed
  leave : ℕ → Deed
  look : ℕ → Deed
  take_free : ℕ → Deed
  take_mapped : ℕ → ℕ → ℕ → Mode → Deed
  set_map : ℕ → Option Target → Deed
  settle_mapped : ℕ → ℕ → ℕ → Mode → Deed
  settle_free : ℕ → Deed
  pin : ℕ → ℕ → Placed → Deed
  unpin : ℕ → Deed
  upgrade : ℕ → ℕ → Placed → Deed

-- the guest moves no range, and has no tree
abbrev pub Still : Window → ℕ → Type 0
Still h g = (r : ℕ) → state h r ≢ ranges.Moving g

abbrev pub Treeless : Window → ℕ → Type 0
Treeless h g = (f : ℕ) → (side h f).holder ≢ Some g

abbrev pub HasTree : Window → ℕ → ℕ → Type 0
HasTree h g f = (side h f).holder ≡ Some g

-- the file is one of the core's, and the chunk one that a file may have
abbrev pub IsTarget : Window → Option Target → Type 0
IsTarget h None = ⊤
IsTarget h (Some t) = (t.file < length h.sides) × (t.chunk < max_chunks)

-- the guest has the tree in which the range is placed at that file and chunk, and the mode is for writing
abbrev pub InTree : Window → ℕ → ℕ → Option Target → Type 0
InTree h g r None = ⊥
InTree h g r (Some t) = HasTree h g t.file × (t.mode ≡ modes.W) × ((p : Placed) × (placed h t.file t.chunk ≡ Some p) × (p.range ≡ r))

abbrev pub target_of : ℕ → ℕ → Mode → Target
target_of f c m = record { file = f; chunk = c; mode = m }

abbrev pub Allowed : Window → ℕ → Deed → Type 0
Allowed h g (enter f) = (f < length h.sides) × ((side h f).holder ≡ None) × Treeless h g
Allowed h g (leave f) = HasTree h g f
Allowed h g (look r) = r < length h.states
Allowed h g (take_free r) = (r < length h.states) × (state h r ≡ ranges.Free) × Still h g
Allowed h g (take_mapped r f c m) = (state h r ≡ ranges.Mapped f c m) × (pin_count h r ≡ 0) × HasTree h g f × Still h g
Allowed h g (set_map r t) = (r < length h.states) × IsTarget h t × ((state h r ≡ ranges.Moving g) ⊎ InTree h g r t)
Allowed h g (settle_mapped r f c m) = (state h r ≡ ranges.Moving g) × (target h r ≡ Some (target_of f c m)) × HasTree h g f × (placed h f c ≡ None)
Allowed h g (settle_free r) = state h r ≡ ranges.Moving g
Allowed h g (pin f c p) = HasTree h g f × (placed h f c ≡ Some p) × (length (pins h g) < 64)
Allowed h g (unpin r) = 0 < pins_on r (pins h g)
Allowed h g (upgrade f c p) = HasTree h g f × (placed h f c ≡ Some p) × IsReading p × (target h p.range ≡ Some (target_of f c modes.W))

-- the guest has the tree from here on, and sees its log
abbrev pub entered : ℕ → Side → Side
entered g s = record s { holder = Some g; seen = slice_set s.seen g (length s.log) }

abbrev pub left : Side → Side
left s = record s { holder = None }

-- the guest added an entry to the log of the tree that it has
abbrev pub grown : ℕ → LogEntry → Side → Side
grown g e s = record s { log = s.log ++ e ∷ []; seen = slice_set s.seen g (length s.log + 1) }

abbrev pub new_pin : Side → ℕ → ℕ → Placed → Pin
new_pin s f c p = record { range = p.range; file = f; chunk = c; mode = p.mode; through = record { entry = p.entry; upto = length s.log } }

abbrev pub with_state : ℕ → RangeState → Window → Window
with_state r x h = record h { states = slice_set h.states r x }

abbrev pub with_side : ℕ → Side → Window → Window
with_side f s h = record h { sides = slice_set h.sides f s }

abbrev pub with_pins : ℕ → List Pin → Window → Window
with_pins g ps h = record h { pins = slice_set h.pins g ps }

-- a range has another state, and the tree of a file one entry more in its log
abbrev pub with_entry : ℕ → ℕ → ℕ → RangeState → LogEntry → Window → Window
with_entry g f r x e h = record h { states = slice_set h.states r x; sides = slice_set h.sides f (grown g e (side h f)) }

-- what the deed makes of the window
abbrev pub after : Window → ℕ → Deed → Window
after h g (enter f) = with_side f (entered g (side h f)) h
after h g (leave f) = with_side f (left (side h f)) h
after h g (look r) = h
after h g (take_free r) = with_state r (ranges.Moving g) h
after h g (take_mapped r f c m) = with_entry g f r (ranges.Moving g) (remove_entry r) h
after h g (set_map r t) = record h { targets = slice_set h.targets r t }
after h g (settle_mapped r f c m) = with_entry g f r (ranges.Mapped f c m) (place_entry c r m) h
after h g (settle_free r) = with_state r ranges.Free h
after h g (pin f c p) = with_pins g (pins h g ++ new_pin (side h f) f c p ∷ []) h
after h g (unpin r) = with_pins g (unpinned r (pins h g)) h
after h g (upgrade f c p) = with_entry g f p.range (ranges.Mapped f c modes.W) (upgrade_entry p.range) h

-- ---- what a call says that tries one of several deeds

-- one of them was done, or none is allowed and nothing has changed
abbrev pub Did : Bool → Window → ℕ → (Deed → Type 0) → Window → Type 0
Did result h g Is new = MatchBool result ((d : Deed) × Is d × Allowed h g d × (new ≡ after h g d)) (((d : Deed) → Is d → Allowed h g d → ⊥) × (new ≡ h))

abbrev pub IsEnter : ℕ → Deed → Type 0
IsEnter f d = d ≡ enter f

abbrev pub IsLeave : Deed → Type 0
IsLeave d = (f : ℕ) × (d ≡ leave f)

abbrev pub IsLook : ℕ → Deed → Type 0
IsLook r d = d ≡ look r

abbrev pub IsTake : ℕ → Deed → Type 0
IsTake r d = (d ≡ take_free r) ⊎ ((f : ℕ) × (c : ℕ) × (m : Mode) × (d ≡ take_mapped r f c m))

abbrev pub IsSetMap : ℕ → Option Target → Deed → Type 0
IsSetMap r t d = d ≡ set_map r t

abbrev pub IsSettleMapped : ℕ → Mode → Deed → Type 0
IsSettleMapped c m d = (r : ℕ) × (f : ℕ) × (d ≡ settle_mapped r f c m)

abbrev pub IsSettleFree : Deed → Type 0
IsSettleFree d = (r : ℕ) × (d ≡ settle_free r)

abbrev pub IsPin : ℕ → Deed → Type 0
IsPin r d = (f : ℕ) × (c : ℕ) × (p : Placed) × (p.range ≡ r) × (d ≡ pin f c p)

abbrev pub IsUnpin : ℕ → Deed → Type 0
IsUnpin r d = d ≡ unpin r

abbrev pub IsUpgrade : ℕ → Deed → Type 0
IsUpgrade r d = (f : ℕ) × (c : ℕ) × (p : Placed) × (p.range ≡ r) × (d ≡ upgrade f c p)

-- the tree that the guest has has the range there, or nowhere
abbrev pub IsThere : Window → ℕ → ℕ → ℕ → ℕ → Placed → Type 0
IsThere h g r f c p = HasTree h g f × (placed h f c ≡ Some p) × (p.range ≡ r)

abbrev pub IsNowhere : Window → ℕ → ℕ → Type 0
IsNowhere h g r = (f c : ℕ) (p : Placed) → IsThere h g r f c p → ⊥

-- what is placed with that mode is for reading, and the range's pages are mapped for writing
abbrev pub MayRaise : Window → ℕ → Mode → Type 0
MayRaise h r m = (m ≡ modes.R) × ((t : Target) × (target h r ≡ Some t) × (t.mode ≡ modes.W))

-- the guest has the file's tree, without the chunk
abbrev pub MaySettle : Window → ℕ → Target → Type 0
MaySettle h g t = HasTree h g t.file × (placed h t.file t.chunk ≡ None)

-- the guest may settle no range at that chunk with that mode
abbrev pub IsUnsettled : Window → ℕ → ℕ → Mode → Type 0
IsUnsettled h g c m = (r f : ℕ) → Allowed h g (settle_mapped r f c m) → ⊥

-- the range is mapped to that chunk of the file
abbrev pub IsMapped : Window → ℕ → ℕ → ℕ → Type 0
IsMapped h r f c = (m : Mode) × (state h r ≡ ranges.Mapped f c m)

-- a take of such a range was done, or isn't allowed and nothing has changed
abbrev pub DidTake : Bool → Window → ℕ → ℕ → ℕ → ℕ → Window → Type 0
DidTake result h g r f c new = MatchBool result (((m : Mode) → state h r ≡ ranges.Mapped f c m → Allowed h g (take_mapped r f c m)) × (new ≡ with_entry g f r (ranges.Moving g) (remove_entry r) h))
    (((m : Mode) → Allowed h g (take_mapped r f c m) → ⊥) × (new ≡ h))

-- ---- what everybody sees of a range

abbrev pub word_of : RangeState → ℕ → RangeWord
word_of ranges.Free pins = words.Free
word_of (ranges.Moving g) pins = words.Moving g
word_of (ranges.Mapped f c m) pins = words.Mapped f c m pins

-- its state, and where it is mapped the number of all guests' pins on it
abbrev pub word_at : Window → ℕ → RangeWord
word_at h r = word_of (state h r) (pin_count h r)

-- ---- the window at its start

abbrev pub new_side : ℕ → Side
new_side guests = record { holder = None; log = []; seen = replicate guests 0 }

abbrev pub new_window : ℕ → ℕ → ℕ → Window
new_window n files guests = record { states = replicate n ranges.Free; targets = replicate n None; sides = replicate files (new_side guests); pins = replicate guests [] }
