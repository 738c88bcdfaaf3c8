-- What holds of the window's half of the core, whatever guests do.
use Rattle.std.specs.Prelude.{◌≡◌, ℕ, ◌<◌, ◌≤◌, List, ◌++◌, length, slice_get, Some, IsTrue}
use Rattle.page_map.specs.declared.pages.Mode.{Mode}
use Rattle.page_map.specs.declared.ranges.LogEntry.{LogEntry}
use Rattle.page_map.specs.declared.ranges.Placed.{Placed}
use Rattle.page_map.specs.Logs.{live, placed_at, sound}
use Rattle.range_tree.specs.Logs.{IsLivePlace}
use Rattle.range_tree.specs.Trees.{max_ranges, place_entry}
use Rattle.window_core.specs.Window.{Window, side, pins, Deed, Allowed, after, new_window}
use Rattle.window_core.specs.declared.states.Pin.{Pin}
use Rattle.window_core.specs.Good.{GoodWindow, MapsTo}

-- the second list begins with the first
abbrev pub Begins : {A : Type 0} → List A → List A → Type 0
Begins {A} xs ys = (rest : List A) × (xs ++ rest ≡ ys)

-- a window in which nothing was done yet is good
abbrev pub StartIsGood : Type 0
StartIsGood = (ranges files guests : ℕ) → ranges ≤ max_ranges → GoodWindow guests (new_window ranges files guests)

-- each deed that is allowed keeps it good
abbrev pub StaysGood : Type 0
StaysGood = (guests g : ℕ) (h : Window) (d : Deed) → g < guests → GoodWindow guests h → Allowed h g d → GoodWindow guests (after h g d)

-- and the logs only grow
abbrev pub LogsGrow : Type 0
LogsGrow = (g f : ℕ) (h : Window) (d : Deed) → Allowed h g d → Begins (side h f).log (side (after h g d) f).log

-- and the numbers of ranges and of files stay
abbrev pub SizesStay : Type 0
SizesStay = (g : ℕ) (h : Window) (d : Deed) → (length (after h g d).states ≡ length h.states) × (length (after h g d).sides ≡ length h.sides)

-- While a guest has a pin, its range's pages are those of the pin's file and chunk, with at least the pin's mode.
abbrev pub PinsHold : Type 0
PinsHold = (guests g k : ℕ) (h : Window) (p : Pin) → GoodWindow guests h → slice_get (pins h g) k ≡ Some p → MapsTo h p.range p.file p.chunk p.mode

-- What is placed at a sound log's end is what the entry of its placement placed, and that is live there; it may be written
-- exactly where it is writable there.
abbrev pub PlacedIsLive : Type 0
PlacedIsLive = (ranges : ℕ) (log : List LogEntry) (c : ℕ) (p : Placed) → IsTrue (sound ranges log) → placed_at log c ≡ Some p → IsLivePlace log c p

-- and what is live at a sound log's end is placed there
abbrev pub IsPlacedBy : List LogEntry → ℕ → ℕ → ℕ → Type 0
IsPlacedBy log k c r = (p : Placed) × (placed_at log c ≡ Some p) × (p.entry ≡ k) × (p.range ≡ r)

abbrev pub LiveIsPlaced : Type 0
LiveIsPlaced = (ranges : ℕ) (log : List LogEntry) (k c r : ℕ) (first : Mode) → IsTrue (sound ranges log) → slice_get log k ≡ Some (place_entry c r first) → IsTrue (live log k (length log)) → IsPlacedBy log k c r
