-- What a guest is shown of the window's half of the core.
use Rattle.std.specs.Prelude.{◌≡◌, ◌≢◌, ℕ, zero, suc, ◌==◌, List, [], ◌∷◌, map, take, length, Bool, false, if◌then◌else◌, Option, Some, None}
use Rattle.page_map.specs.declared.ranges.LogEntry.{LogEntry}
use Rattle.page_map.specs.declared.ranges.Target.{Target}
use Rattle.window_core.specs.declared.states.RangeState.{RangeState}
use Rattle.window_core.specs.declared.states.RangeState.TheVariants as ranges
use Rattle.window_core.specs.declared.states.Pin.{Pin}
use Rattle.window_core.specs.Window.{Side, Window, state, target, side, pins, seen_by, Deed, Allowed, after}
use Rattle.window_core.specs.Good.{GoodWindow}

-- of one file: whether it has the tree, and what it has seen of the log, which is all while it has the tree
pub record Branch : Type 0 where
  pub had : Bool
  pub seen : List LogEntry

-- Which ranges it moves, the files, its pins, and what the pages of a range are mapped to where it moves the range or
-- has the tree that has it.
pub record Shown : Type 0 where
  pub moving : List Bool
  pub branches : List Branch
  pub pins : List Pin
  pub maps : List (Option (Option Target))

abbrev pub is_guest : ℕ → Option ℕ → Bool
is_guest g None = false
is_guest g (Some h) = h == g

abbrev pub is_moving : ℕ → RangeState → Bool
is_moving g ranges.Free = false
is_moving g (ranges.Moving h) = h == g
is_moving g (ranges.Mapped f c m) = false

abbrev pub branch : ℕ → Side → Branch
branch g s = record { had = is_guest g s.holder; seen = take (seen_by s g) s.log }

-- the values of a function below n
abbrev pub listed : {A : Type 0} → (ℕ → A) → ℕ → List A
listed f zero = []
listed f (suc n) = f 0 ∷ listed (λ i. f (suc i)) n

-- the guest moves the range, or has the tree that has it
abbrev pub holds : ℕ → Window → RangeState → Bool
holds g h ranges.Free = false
holds g h (ranges.Moving a) = a == g
holds g h (ranges.Mapped f c m) = is_guest g (side h f).holder

abbrev pub map_held : ℕ → Window → ℕ → Option (Option Target)
map_held g h r = if holds g h (state h r) then Some (target h r) else None

abbrev pub shown : ℕ → Window → Shown
shown g h = record { moving = map (is_moving g) h.states; branches = map (branch g) h.sides; pins = pins h g; maps = listed (map_held g h) (length h.states) }

-- whatever a guest does, each other is shown the same after it
abbrev pub OthersSeeTheSame : Type 0
OthersSeeTheSame = (guests g other : ℕ) (h : Window) (d : Deed) → other ≢ g → GoodWindow guests h → Allowed h g d → shown other (after h g d) ≡ shown other h
