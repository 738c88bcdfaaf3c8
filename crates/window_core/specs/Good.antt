-- When the window's half of the core is good.
use Rattle.std.specs.Prelude.{◌≡◌, ℕ, ◌<◌, ◌≤◌, length, slice_get, Some, IsTrue}
use Rattle.page_map.specs.declared.pages.Mode.{Mode}
use Rattle.page_map.specs.declared.pages.Mode.TheVariants as modes
use Rattle.page_map.specs.declared.ranges.Placed.{Placed}
use Rattle.page_map.specs.Logs.{live, sound}
use Rattle.range_tree.specs.Trees.{place_entry, max_ranges}
use Rattle.window_core.specs.declared.states.RangeState.TheVariants as ranges
use Rattle.window_core.specs.declared.states.Pin.{Pin}
use Rattle.window_core.specs.Window.{Side, Window, state, target, side, pins, seen_by, placed, IsTarget, HasTree, target_of}

-- what the first allows the second allows
abbrev pub AtMost : Mode → Mode → Type 0
AtMost m w = m ≡ modes.W → w ≡ modes.W

-- the range's pages are those of that chunk, with at least that mode
abbrev pub MapsTo : Window → ℕ → ℕ → ℕ → Mode → Type 0
MapsTo h r f c m = (w : Mode) × (target h r ≡ Some (target_of f c w)) × AtMost m w

-- What holds of a pin: its range is mapped to its file and chunk with at least its mode, and its place is live at each
-- length of the file's log from where it was made on, of which the guest has seen as much.
pub record PinOk (h : Window) (g : ℕ) (p : Pin) : Type 0 where
  pub mode : Mode
  pub state_is : state h p.range ≡ ranges.Mapped p.file p.chunk mode
  pub enough : AtMost p.mode mode
  pub upto_seen : p.through.upto ≤ seen_by (side h p.file) g
  pub first : Mode
  pub place : slice_get (side h p.file).log p.through.entry ≡ Some (place_entry p.chunk p.range first)
  pub lives : (m : ℕ) → p.through.upto ≤ m → m ≤ length (side h p.file).log → IsTrue (live (side h p.file).log p.through.entry m)

-- what holds of one file by itself: its log is sound, and who has the tree has seen all of it
pub record SideOk (guests ranges : ℕ) (s : Side) : Type 0 where
  pub log_sound : IsTrue (sound ranges s.log)
  pub seen_all : length s.seen ≡ guests
  pub holder_small : (g : ℕ) → s.holder ≡ Some g → g < guests
  pub seen_within : (g : ℕ) → seen_by s g ≤ length s.log
  pub seen_whole : (g : ℕ) → s.holder ≡ Some g → seen_by s g ≡ length s.log

pub record GoodWindow (guests : ℕ) (h : Window) : Type 0 where
  pub ranges_few : length h.states ≤ max_ranges
  pub targets_all : length h.targets ≡ length h.states
  pub pins_all : length h.pins ≡ guests
  pub sides_ok : (f : ℕ) → f < length h.sides → SideOk guests (length h.states) (side h f)
  -- a range is mapped to a chunk of a file exactly where the file's tree has the chunk in that range with that mode
  pub mapped_placed : (r f c : ℕ) (m : Mode) → state h r ≡ ranges.Mapped f c m → (p : Placed) × (placed h f c ≡ Some p) × (p.range ≡ r) × (p.mode ≡ m)
  pub placed_mapped : (f c : ℕ) (p : Placed) → placed h f c ≡ Some p → state h p.range ≡ ranges.Mapped f c p.mode
  -- and then its pages are those of that chunk, with at least that mode
  pub mapped_there : (r f c : ℕ) (m : Mode) → state h r ≡ ranges.Mapped f c m → MapsTo h r f c m
  pub targets_known : (r : ℕ) → IsTarget h (target h r)
  -- a pinned range is mapped, and each pin's place is live; a guest has at most 64 pins
  pub pins_ok : (g k : ℕ) (p : Pin) → slice_get (pins h g) k ≡ Some p → PinOk h g p
  pub pins_few : (g : ℕ) → length (pins h g) ≤ 64
  -- a guest moves at most one range, and has at most one tree
  pub movers_small : (r g : ℕ) → state h r ≡ ranges.Moving g → g < guests
  pub one_moved : (r r' g : ℕ) → state h r ≡ ranges.Moving g → state h r' ≡ ranges.Moving g → r ≡ r'
  pub one_tree : (f f' g : ℕ) → HasTree h g f → HasTree h g f' → f ≡ f'

-- how many guests there are at most
abbrev pub max_guests : ℕ
max_guests = 34

-- the window is good, and the guest one of its own
abbrev pub IsGood : Window → Type 0
IsGood h = (guests : ℕ) × (guests ≤ max_guests) × GoodWindow guests h

abbrev pub IsGuest : ℕ → Window → Type 0
IsGuest g h = (guests : ℕ) × (g < guests) × (guests ≤ max_guests) × GoodWindow guests h
