-- What a step on the table tells its pass: it was this deed.
use Rattle.std.specs.Prelude.{◌≡◌, ◌≢◌, ◌⊎◌, ℕ, ◌+◌, ◌*◌, ◌<◌, ◌≤◌, Bool, ◌==◌, ◌&&◌, if◌then◌else◌, List, ◌∷◌, length, slice_get, slice_index_or, true, false, Option, Some, None, ⊤}
use mathlib.Core.Option.{some}
use lib.ListN.{get_elem?}
use Rattle.atomic_table.specs.Seated.{TableId}
use Rattle.atomic_table.specs.Table.{Me, Step, rest}
use Rattle.atomic_table.specs.declared.shared.Seat.{Seat}
use Rattle.seats.specs.Views.{back, AllIn}
use Rattle.seats.specs.Seats.{Does, Told}
use Rattle.plain_file.specs.Counts.{more_by_one}
use Rattle.page_map.specs.declared.pages.Mode.{Mode}
use Rattle.page_map.specs.declared.pages.Mode.TheVariants as modes
use Rattle.page_map.specs.declared.ranges.LogEntry.{LogEntry}
use Rattle.page_map.specs.declared.ranges.Placed.{Placed}
use Rattle.page_map.specs.declared.ranges.RangeWord.{RangeWord}
use Rattle.page_map.specs.declared.ranges.RangeWord.TheVariants as words
use Rattle.page_map.specs.declared.ranges.Target.{Target}
use Rattle.page_map.specs.Logs.{placed_at, slot_in}
use Rattle.page_map.specs.Window.{max_chunks}
use Rattle.range_tree.specs.Ranges.{SaysSlot, pins_in}
use Rattle.window_core.specs.declared.states.Pin.{Pin}
use Rattle.window_core.specs.Window.{side, target, target_of, pins_on, word_at, Deed, enter, leave, look, take_free, take_mapped, set_map, settle_mapped, settle_free, pin, unpin, upgrade}
use Rattle.window_core.specs.Good.{AtMost}
use Rattle.window_core.specs.Laws.{Begins}
use Rattle.window_core.specs.Shown.{Branch}
use Rattle.range_share.specs.Packed.{WordFits, TargetFits, control_word, map_word}
use Rattle.range_share.specs.Table.{Core, GoodCore, Mine, Noted, Knows, Marks, Look, mine, branch_in, moves_in, tree_at, control_at, map_at, others_may, window_kit}

abbrev pub Us : Type 0
Us = Me (Option (List LogEntry)) Knows

abbrev pub At : Type 0
At = Step (Option (List LogEntry))

-- The step was this deed of the pass's guest, at which that was noted. P tells more of the core before.
abbrev pub DoesSo : Deed → Noted → (Core → Type 0) → Knows → Knows → Type 0
DoesSo d x P v w = Does window_kit d x P v w

abbrev pub Always : Core → Type 0
Always c = ⊤

-- ---- what a pass knows of itself

abbrev pub branch_of : Knows → ℕ → Branch
branch_of v f = branch_in v.mine.shown.branches f

-- it moves the range, and what it is shown of what the range is mapped to, where it holds the range
abbrev pub moves_at : Knows → ℕ → Bool
moves_at v r = moves_in v.mine.shown.moving r

abbrev pub map_shown : Mine → ℕ → Option (Option Target)
map_shown m r = slice_index_or m.shown.maps r None

-- the tree of the file is had, and has the chunk so
pub record HasIn (m : Mine) (f c : ℕ) (p : Placed) : Type 0 where
  pub had : (branch_in m.shown.branches f).had ≡ true
  pub placed : placed_at (branch_in m.shown.branches f).seen c ≡ Some p

-- no tree is had, and no range moved
abbrev pub Treeless : Knows → Type 0
Treeless v = (f : ℕ) → (branch_of v f).had ≡ false

abbrev pub AtRest : Knows → Type 0
AtRest v = (r : ℕ) → moves_at v r ≡ false

-- ---- what a control word says

-- what is true of a word where no other guest may move or pin ranges
pub record TellsAlone (g : ℕ) (m : Mine) (r : ℕ) (w : RangeWord) : Type 0 where
  pub pins : pins_in w ≡ pins_on r m.shown.pins
  pub mover : (guest : ℕ) → w ≡ words.Moving guest → guest ≡ g
  pub logs : (f : ℕ) → f < length m.shown.branches → SaysSlot f (slot_in (branch_in m.shown.branches f).seen r) w

-- What a word that is seen of a range says of what the guest has.
pub record TellsIn (g : ℕ) (m : Mine) (r : ℕ) (w : RangeWord) : Type 0 where
  pub fits : WordFits w
  -- it names a file that there is
  pub names : (f c pins : ℕ) (mode : Mode) → w ≡ words.Mapped f c mode pins → f < length m.shown.branches
  -- what the tree that is had has in the range, it says, and the other way round
  pub tree : (f : ℕ) → (branch_in m.shown.branches f).had ≡ true → SaysSlot f (slot_in (branch_in m.shown.branches f).seen r) w
  pub own_moved : moves_in m.shown.moving r ≡ true → w ≡ words.Moving g
  pub moved_own : w ≡ words.Moving g → moves_in m.shown.moving r ≡ true
  pub own_pins : pins_on r m.shown.pins ≤ pins_in w
  pub alone : others_may g m.movers ≡ false → TellsAlone g m r w

abbrev pub Tells : Knows → ℕ → RangeWord → Type 0
Tells v r w = TellsIn v.guest v.mine r w

-- a range that is seen so may be taken: it is free, or mapped without pins to the file whose tree is had
abbrev pub may_take_in : Mine → RangeWord → Bool
may_take_in m words.Free = true
may_take_in m (words.Moving g) = false
may_take_in m (words.Mapped f c mode pins) = pins == 0 && (branch_in m.shown.branches f).had

-- The map of a range may be set so: the guest moves the range, or has the tree that has it there, and the mode is for
-- writing.
abbrev pub MaySetIn : Mine → ℕ → Option Target → Type 0
MaySetIn m r None = moves_in m.shown.moving r ≡ true
MaySetIn m r (Some t) = (moves_in m.shown.moving r ≡ true) ⊎ ((t.mode ≡ modes.W) × ((p : Placed) × HasIn m t.file t.chunk p × (p.range ≡ r)))

-- what is shown under each pin on the range: its file and chunk, with at least its mode
abbrev pub PinnedIn : Mine → ℕ → Option Target → Type 0
PinnedIn m r t = (k : ℕ) (p : Pin) → slice_get m.shown.pins k ≡ Some p → p.range ≡ r → (w : Mode) × (t ≡ Some (target_of p.file p.chunk w)) × AtMost p.mode w

-- ---- what is noted

abbrev pub look_of : Mine → ℕ → RangeWord → Look
look_of m r w = record { range = r; word = w; own = pins_on r m.shown.pins }

-- a control word that was seen
abbrev pub saw : Noted → Mine → ℕ → RangeWord → Noted
saw x m r w = record x { words = look_of m r w ∷ x.words; looks = look_of m r w ∷ x.looks }

-- one that was seen for a take: it isn't noted as a look where the range may be taken
abbrev pub saw_for_take : Noted → Mine → ℕ → RangeWord → Noted
saw_for_take x m r w = record x { words = look_of m r w ∷ x.words; looks = if may_take_in m w then x.looks else look_of m r w ∷ x.looks }

-- ---- trees

-- where every number is in, what each joined pass had seen of a log begins it
abbrev pub LogsBack : Marks → ℕ → List LogEntry → Type 0
LogsBack numbers f log = (n : ℕ) (m : Mine) (x : Noted) → get_elem? numbers n ≡ some (back m x) → Begins (branch_in m.shown.branches f).seen log

-- a compare and exchange of the tree word from 0: where it was 0 the tree was taken
pub record Takes (f : ℕ) (m m' : Us) (c : Core) : Type 0 where
  pub taken : m'.1 ≡ (f, Some (side c.window f).log) ∷ m.1
  pub alone : others_may m.0.guest m.0.mine.movers ≡ false → (side c.window f).log ≡ (branch_of m.0 f).seen
  pub joined : AllIn m.0 → LogsBack m.0.numbers f (side c.window f).log

abbrev pub tries_enter : At → Us → ℕ → Us → Type 0
tries_enter st m found m' = (f : ℕ) → st.word ≡ tree_at f → (found ≡ 0 → DoesSo (enter f) m.0.noted (Takes f m m') m.0 m'.0) × (found ≢ 0 → m' ≡ m)

-- a store of 0 to the tree word, with which the tree goes home
abbrev pub leaves : At → Us → ℕ → Us → Type 0
leaves st m found m' = (f : ℕ) → st.word ≡ tree_at f → DoesSo (leave f) m.0.noted Always m.0 m'.0 × (m'.1 ≡ rest m.1)

-- ---- control words

-- a load of the control word
abbrev pub looks_at : At → Us → ℕ → Us → Type 0
looks_at st m found m' = (r : ℕ) → st.word ≡ control_at st.slots r
    → (w : RangeWord) × Tells m.0 r w × (found ≡ control_word w) × DoesSo (look r) (saw m.0.noted m.0.mine r w) (λ c. w ≡ word_at c.window r) m.0 m'.0 × (m'.1 ≡ m.1)

-- the same, for a take
abbrev pub peeks_at : At → Us → ℕ → Us → Type 0
peeks_at st m found m' = (r : ℕ) → st.word ≡ control_at st.slots r
    → (w : RangeWord) × Tells m.0 r w × (found ≡ control_word w) × DoesSo (look r) (saw_for_take m.0.noted m.0.mine r w) (λ c. w ≡ word_at c.window r) m.0 m'.0 × (m'.1 ≡ m.1)

-- the deed of a take of a range that is seen so
abbrev pub take_of : ℕ → RangeWord → Deed
take_of r words.Free = take_free r
take_of r (words.Moving g) = take_free r
take_of r (words.Mapped f c mode pins) = take_mapped r f c mode

-- A compare and exchange of the control word, from what was seen to a moved range. Where another word is found, that is
-- noted.
abbrev pub tries_take : At → Us → ℕ → Us → Type 0
tries_take st m found m' = (r : ℕ) (old : RangeWord) → st.word ≡ control_at st.slots r → WordFits old → st.first ≡ control_word old
    → (w : RangeWord) × Tells m.0 r w × (found ≡ control_word w)
    × (found ≡ st.first → DoesSo (take_of r old) m.0.noted (λ c. w ≡ word_at c.window r) m.0 m'.0 × (m'.1 ≡ m.1))
    × (found ≢ st.first → m' ≡ (record m.0 { noted = saw m.0.noted m.0.mine r w }, m.1))

-- a store of the control word: a chunk is placed in the moved range
abbrev pub settles : At → Us → ℕ → Us → Type 0
settles st m found m' = (r f c : ℕ) (mode : Mode) → st.word ≡ control_at st.slots r → (f < 64) × (c < max_chunks) → st.first ≡ control_word (words.Mapped f c mode 0)
    → DoesSo (settle_mapped r f c mode) m.0.noted Always m.0 m'.0 × (m'.1 ≡ m.1)

-- a store of 0: the moved range is free
abbrev pub frees : At → Us → ℕ → Us → Type 0
frees st m found m' = (r : ℕ) → st.word ≡ control_at st.slots r → DoesSo (settle_free r) m.0.noted Always m.0 m'.0 × (m'.1 ≡ m.1)

-- one pin more, of a range of the tree that is had, which is noted
abbrev pub pinned_noted : Noted → ℕ → ℕ → Placed → Noted
pinned_noted x f c p = record x { pinned = record { range = p.range; target = target_of f c p.mode } ∷ x.pinned }

abbrev pub pins_one : At → Us → ℕ → Us → Type 0
pins_one st m found m' = (f c : ℕ) (p : Placed) → st.word ≡ control_at st.slots p.range → HasIn m.0.mine f c p → DoesSo (pin f c p) (pinned_noted m.0.noted f c p) Always m.0 m'.0 × (m'.1 ≡ m.1)

-- one pin less
abbrev pub unpins_one : At → Us → ℕ → Us → Type 0
unpins_one st m found m' = (r : ℕ) → st.word ≡ control_at st.slots r → DoesSo (unpin r) m.0.noted Always m.0 m'.0 × (m'.1 ≡ m.1)

-- the mode's bit is set
abbrev pub upgrades : At → Us → ℕ → Us → Type 0
upgrades st m found m' = (f c : ℕ) (p : Placed) → st.word ≡ control_at st.slots p.range → HasIn m.0.mine f c p → DoesSo (upgrade f c p) m.0.noted Always m.0 m'.0 × (m'.1 ≡ m.1)

-- ---- map words

abbrev pub sets_map : At → Us → ℕ → Us → Type 0
sets_map st m found m' = (r : ℕ) (t : Option Target) → st.word ≡ map_at st.slots r → TargetFits t → st.first ≡ map_word t → DoesSo (set_map r t) m.0.noted Always m.0 m'.0 × (m'.1 ≡ m.1)

-- a map word that was seen
abbrev pub aimed : Noted → ℕ → Option Target → Noted
aimed x r t = record x { aims = record { range = r; target = t } ∷ x.aims; targeted = more_by_one x.targeted }

-- what is shown of a range that the pass holds is what the word says
abbrev pub HeldIn : Mine → ℕ → Option Target → Type 0
HeldIn m r t = (s : Option Target) → map_shown m r ≡ Some s → s ≡ t

abbrev pub aims_at : At → Us → ℕ → Us → Type 0
aims_at st m found m' = (r : ℕ) → st.word ≡ map_at st.slots r
    → (t : Option Target) × TargetFits t × (found ≡ map_word t) × PinnedIn m.0.mine r t × HeldIn m.0.mine r t × DoesSo (look r) (aimed m.0.noted r t) (λ c. t ≡ target c.window r) m.0 m'.0 × (m'.1 ≡ m.1)

-- ---- other loads

-- a load that changes what is noted alone
abbrev pub notes : Noted → At → Us → ℕ → Us → Type 0
notes x st m found m' = m' ≡ (record m.0 { noted = x }, m.1)

-- a good core shows the pass what it is shown
pub record IsShowing (v : Knows) : Type 0 where
  pub core : Core
  pub good : GoodCore core
  pub part : v.mine ≡ mine v.guest core

-- a load after a split or a join, which changes nothing: a good core shows the pass what it is shown, and after a join what
-- each of the two had seen begins what is seen now
abbrev pub compares : At → Us → ℕ → Us → Type 0
compares st m found m' = (m' ≡ m) × Told window_kit m.0 × IsShowing m.0

-- ---- seats

abbrev pub Chair : Type 0
Chair = Seat (Option (List LogEntry)) Knows

-- how many ranges and files there are, as a pass knows them
abbrev pub ranges_of : Knows → ℕ
ranges_of v = length v.mine.shown.moving

abbrev pub files_of : Knows → ℕ
files_of v = length v.mine.shown.branches

-- a live seat of this table
pub record Stands (t : TableId) (s : Chair) : Type 0 where
  pub same : s.table_id ≡ t
  pub wide : t.words ≡ 8 * t.slots + 8 * ranges_of s.me.0 + 8
  pub few_files : t.slots ≤ 64
  pub few_ranges : ranges_of s.me.0 ≤ 256
  pub files : files_of s.me.0 ≡ t.slots
  pub live : s.me.0.live ≡ true

-- the deed, and the slots that are out are the same
abbrev pub DoesAt : Deed → Noted → (Core → Type 0) → Chair → Chair → Type 0
DoesAt d x P s t = DoesSo d x P s.me.0 t.me.0 × (t.me.1 ≡ s.me.1)
