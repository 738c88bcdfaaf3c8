-- What a window table is to show: its words, what lies at home, and what a pass is shown.
use Rattle.std.specs.Prelude.{◌≡◌, ◌≢◌, ℕ, ◌+◌, ◌*◌, ◌<◌, ◌≤◌, ◌==◌, Bool, ◌||◌, ◌&&◌, not, List, [], ◌∷◌, length, map, cond, leb, max, slice_index, slice_index_or, slice_set, false, Option, Some, None, ⊤}
use mathlib.Core.Option as maybe
use Rattle.seats.specs.Views.{Given, View, guests, root, nobody as nobody_with, opener as opener_with}
use Rattle.seats.specs.Seats.{Kit}
use Rattle.page_map.specs.declared.ranges.LogEntry.{LogEntry}
use Rattle.page_map.specs.declared.ranges.RangeWord.{RangeWord}
use Rattle.page_map.specs.declared.ranges.Target.{Target}
use Rattle.window_core.specs.declared.states.RangeState.{RangeState}
use Rattle.window_core.specs.declared.states.RangeState.TheVariants as states
use Rattle.window_core.specs.Window.{Side, Window, side, state, target, pins, seen_by, Deed, enter, leave, look, take_free, take_mapped, set_map, settle_mapped, settle_free, pin, unpin, upgrade, Allowed, after, word_at, new_window}
use Rattle.window_core.specs.Good.{GoodWindow}
use Rattle.window_core.specs.Laws.{Begins}
use Rattle.window_core.specs.Shown.{Branch, Shown, shown, listed}
use Rattle.range_share.specs.Packed.{control_word, map_word}

-- ---- the core

-- the window, and which guests may move ranges and pin them: those with numbers below this one
pub record Core : Type 0 where
  pub window : Window
  pub movers : ℕ

-- who may not move ranges may look, enter and leave trees, and give back
abbrev pub MayMove : Core → ℕ → Deed → Type 0
MayMove c g (enter f) = ⊤
MayMove c g (leave f) = ⊤
MayMove c g (look r) = ⊤
MayMove c g (take_free r) = g < c.movers
MayMove c g (take_mapped r f k m) = g < c.movers
MayMove c g (set_map r t) = g < c.movers
MayMove c g (settle_mapped r f k m) = g < c.movers
MayMove c g (settle_free r) = ⊤
MayMove c g (pin f k p) = g < c.movers
MayMove c g (unpin r) = ⊤
MayMove c g (upgrade f k p) = g < c.movers

pub record MayDo (c : Core) (g : ℕ) (d : Deed) : Type 0 where
  pub allowed : Allowed c.window g d
  pub mover : MayMove c g d

abbrev pub done : Core → ℕ → Deed → Core
done c g d = record c { window = after c.window g d }

-- another guest may move ranges than this one, where those with numbers below the second may
abbrev pub others_may : ℕ → ℕ → Bool
others_may guest movers = not (movers == 0 || (movers == 1 && guest == 0))

-- The window is good. Who may not move ranges moves none and has no pin, and where no other may, a guest has seen all of
-- each log.
pub record GoodCore (c : Core) : Type 0 where
  pub window_good : GoodWindow guests c.window
  pub files_few : length c.window.sides ≤ 64
  pub moves_only : (g r : ℕ) → c.movers ≤ g → state c.window r ≢ states.Moving g
  pub pins_only : (g : ℕ) → c.movers ≤ g → pins c.window g ≡ []
  pub alone_seen : (g f : ℕ) → g < guests → others_may g c.movers ≡ false → f < length c.window.sides → seen_by (side c.window f) g ≡ length (side c.window f).log

abbrev pub new_core : ℕ → ℕ → ℕ → Core
new_core ranges files movers = record { window = new_window ranges files guests; movers = movers }

abbrev pub IsStart : Core → Type 0
IsStart c = (ranges : ℕ) × (files : ℕ) × (movers : ℕ) × (c ≡ new_core ranges files movers)

-- ---- words

-- a tree's holder as a number: 0, or its guest and 1
abbrev pub number_of : Option ℕ → ℕ
number_of None = 0
number_of (Some g) = g + 1

-- Where the words of a file's tree, of a range and of its map stand, behind the table's first, which stays 0. Files and ranges stand 8 words apart, so that guests on different ones change words of different cache lines.
abbrev pub tree_at : ℕ → ℕ
tree_at f = 8 * f + 8

abbrev pub control_at : ℕ → ℕ → ℕ
control_at files r = 8 * files + 8 * r + 8

abbrev pub map_at : ℕ → ℕ → ℕ
map_at files r = 8 * files + 8 * r + 9

pub record ShowsWords (words : List ℕ) (c : Core) : Type 0 where
  pub wide : length words ≡ 8 * length c.window.sides + 8 * length c.window.states + 8
  pub trees : (f : ℕ) → f < length c.window.sides → slice_index words (tree_at f) ≡ number_of (side c.window f).holder
  pub controls : (r : ℕ) → r < length c.window.states → slice_index words (control_at (length c.window.sides) r) ≡ control_word (word_at c.window r)
  pub maps : (r : ℕ) → r < length c.window.states → slice_index words (map_at (length c.window.sides) r) ≡ map_word (target c.window r)

-- ---- homes

-- a tree is at home where nobody has it
abbrev pub at_home : Option ℕ → List LogEntry → maybe.Option (Option (List LogEntry))
at_home None log = maybe.some (Some log)
at_home (Some g) log = maybe.none

abbrev pub home : Side → maybe.Option (Option (List LogEntry))
home s = at_home s.holder s.log

-- ---- what a pass is shown

-- what the guest is shown of the window, and which guests may move ranges
pub record Mine : Type 0 where
  pub shown : Shown
  pub movers : ℕ

abbrev pub mine : ℕ → Core → Mine
mine g c = record { shown = shown g c.window; movers = c.movers }

-- a file of which nothing was seen
abbrev pub no_branch : Branch
no_branch = record { had = false; seen = [] }

abbrev pub branch_in : List Branch → ℕ → Branch
branch_in bs f = slice_index_or bs f no_branch

abbrev pub moves_in : List Bool → ℕ → Bool
moves_in bs r = slice_index_or bs r false

abbrev pub not_moving : RangeState → Bool
not_moving s = false

abbrev pub nothing_of : Side → Branch
nothing_of s = no_branch

abbrev pub no_map : ℕ → Option (Option Target)
no_map r = None

-- what a guest is shown that never came
abbrev pub nothing : Window → Shown
nothing h = record { moving = map not_moving h.states; branches = map nothing_of h.sides; pins = []; maps = listed no_map (length h.states) }

abbrev pub all_unseen : Core → Mine
all_unseen c = record { shown = nothing c.window; movers = c.movers }

-- ---- what a pass notes

-- a control word that was seen of a range, with the number of the pass's own pins there at that step
pub record Look : Type 0 where
  pub range : ℕ
  pub word : RangeWord
  pub own : ℕ

-- a map word that was seen of a range
pub record Aim : Type 0 where
  pub range : ℕ
  pub target : Option Target

-- what was in a range when it was pinned
pub record Pinned : Type 0 where
  pub range : ℕ
  pub target : Target

-- All looks that were noted, and those since they were forgotten last; what the looks at targets saw, and how many there
-- were; what was pinned; and how often all ranges had been looked at, and each was moving or pinned. The newest comes first.
pub record Noted : Type 0 where
  pub words : List Look
  pub looks : List Look
  pub aims : List Aim
  pub targeted : ℕ
  pub pinned : List Pinned
  pub sweeps : ℕ
  pub rounds : ℕ

abbrev pub blank : Noted
blank = record { words = []; looks = []; aims = []; targeted = 0; pinned = []; sweeps = 0; rounds = 0 }

abbrev pub Knows : Type 0
Knows = View Mine Noted Deed

abbrev pub Marks : Type 0
Marks = List (Given Mine Noted)

-- ---- passes that come and go

-- the guest of a new pass has seen what the first pass had
abbrev pub introduced_side : ℕ → Side → Side
introduced_side g s = record s { seen = slice_set s.seen g (seen_by s root) }

abbrev pub introduced : ℕ → Core → Core
introduced g c = record c { window = record c.window { sides = map (introduced_side g) c.window.sides } }

-- the first pass has seen what another had, if that is more
abbrev pub informed_side : ℕ → Side → Side
informed_side g s = record s { seen = slice_set s.seen root (max (seen_by s root) (seen_by s g)) }

abbrev pub informed : ℕ → Core → Core
informed g c = record c { window = record c.window { sides = map (informed_side g) c.window.sides } }

abbrev pub only_seen : Branch → Branch
only_seen b = record no_branch { seen = b.seen }

abbrev pub stays_put : Bool → Bool
stays_put b = false

abbrev pub unmapped : Option (Option Target) → Option (Option Target)
unmapped m = None

abbrev pub just_seen : Mine → Mine
just_seen m = record m { shown = record { moving = map stays_put m.shown.moving; branches = map only_seen m.shown.branches; pins = []; maps = map unmapped m.shown.maps } }

-- of two logs the longer
abbrev pub longer : List LogEntry → List LogEntry → List LogEntry
longer a b = cond (leb (length a) (length b)) b a

abbrev pub merged_branches : List Branch → List Branch → List Branch
merged_branches [] ns = []
merged_branches (m ∷ ms) [] = m ∷ ms
merged_branches (m ∷ ms) (n ∷ ns) = record m { seen = longer m.seen n.seen } ∷ merged_branches ms ns

abbrev pub merged : Mine → Mine → Mine
merged m n = record m { shown = record m.shown { branches = merged_branches m.shown.branches n.shown.branches } }

-- no tree is had, no range moved, and nothing pinned
pub record IsIdle (m : Mine) : Type 0 where
  pub moves : (r : ℕ) → moves_in m.shown.moving r ≡ false
  pub trees : (f : ℕ) → (branch_in m.shown.branches f).had ≡ false
  pub pins : m.shown.pins ≡ []

-- what was seen of each log begins what is seen
abbrev pub Begun : Mine → Mine → Type 0
Begun m n = (f : ℕ) → Begins (branch_in m.shown.branches f).seen (branch_in n.shown.branches f).seen

-- ---- the whole

abbrev pub window_kit : Kit
window_kit = record {
  Core = Core;
  Mine = Mine;
  Noted = Noted;
  Body = Option (List LogEntry);
  Deed = Deed;
  Good = GoodCore;
  Allowed = MayDo;
  after = done;
  IsStart = IsStart;
  mine = mine;
  Words = ShowsWords;
  homes = λ c. map home c.window.sides;
  unseen = all_unseen;
  blank = blank;
  introduced = introduced;
  informed = informed;
  just_seen = just_seen;
  merged = merged;
  Idle = IsIdle;
  Begun = Begun;
  Grown = λ g m n. Begun m n;
  Behind = λ n c. ⊤;
}

-- the first pass of a table of so many ranges and files
abbrev pub opener : ℕ → ℕ → ℕ → Knows
opener ranges files movers = opener_with (all_unseen (new_core ranges files movers)) blank

-- a pass that was joined to another
abbrev pub nobody : Knows
nobody = nobody_with (record { shown = record { moving = []; branches = []; pins = []; maps = [] }; movers = 0 }) blank
