-- A pass as its callers see it, and what its calls answer and leave.
use Rattle.std.specs.Prelude.{◌≡◌, ◌≢◌, ℕ, ◌<◌, ◌==◌, ◌&&◌, nat_lt, Bool, true, false, List, [], ◌∷◌, ◌++◌, length, map, replicate, slice_get, slice_index_or, slice_set, Option, Some, None, IfSome, is_some, if◌then◌else◌, IsTrue, Result, Ok, Err, ⊤}
use Rattle.std.specs.List.{list_all, list_any}
use mathlib.Core.Option.{some}
use lib.ListN.{get_elem?}
use Rattle.atomic_table.specs.Seated.{TableId}
use Rattle.seats.specs.Views.{guests, AllIn, joined, parent, child}
use Rattle.plain_file.specs.declared.refusals.Memory.{Memory}
use Rattle.plain_file.specs.Counts.{more_by_one}
use Rattle.page_map.specs.declared.pages.Mode.{Mode}
use Rattle.page_map.specs.declared.ranges.LogEntry.{LogEntry}
use Rattle.page_map.specs.declared.ranges.Placed.{Placed}
use Rattle.page_map.specs.declared.ranges.RangeWord.{RangeWord}
use Rattle.page_map.specs.declared.ranges.RangeWord.TheVariants as words
use Rattle.page_map.specs.declared.ranges.Target.{Target}
use Rattle.page_map.specs.declared.pages.Span.{Span}
use Rattle.page_map.specs.Board.{chunk_in, is_chunk_of}
use Rattle.page_map.specs.Logs.{placed_at, slots_of, sound}
use Rattle.range_tree.specs.Trees.{place_entry, upgrade_entry, remove_entry}
use Rattle.range_tree.specs.Ranges.{is_blocked, no_target}
use Rattle.window_core.specs.Window.{target, target_of, on_range, pins_on, unpinned, word_at, Deed, enter, leave, look, take_free, take_mapped, set_map, settle_mapped, settle_free, pin, unpin, upgrade}
use Rattle.window_core.specs.declared.states.Pin.{Pin}
use Rattle.window_core.specs.Laws.{Begins}
use Rattle.window_core.specs.Shown.{Branch, listed}
use Rattle.range_share.specs.Table.{Core, Mine, Noted, Knows, Look, Aim, Pinned, Begun, branch_in, others_may, blank, just_seen, merged, opener}
use Rattle.range_share.specs.Steps.{Chair, Stands, DoesSo, Always, Treeless, IsShowing, LogsBack, HasIn, TellsIn, PinnedIn, HeldIn, may_take_in, branch_of, moves_at, map_shown, ranges_of, files_of, saw, saw_for_take, aimed, pinned_noted, take_of}

-- the table that it belongs to, and what it knows
pub record Known : Type 0 where
  pub table : TableId
  pub view : Knows

abbrev pub known : Chair → Known
known s = record { table = s.table_id; view = s.me.0 }

-- ---- what is noted, by ranges

-- the newest look of a range
abbrev pub look_in : ℕ → List Look → Option Look
look_in r [] = None
look_in r (l ∷ ls) = if l.range == r then Some l else look_in r ls

abbrev pub word_in : ℕ → List Look → Option RangeWord
word_in r [] = None
word_in r (l ∷ ls) = if l.range == r then Some l.word else word_in r ls

-- what the newest look at a range's target saw, and what the newest pin on it found there
abbrev pub aim_in : ℕ → List Aim → Option Target
aim_in r [] = None
aim_in r (a ∷ xs) = if a.range == r then a.target else aim_in r xs

abbrev pub pinned_in : ℕ → List Pinned → Target
pinned_in r [] = no_target
pinned_in r (p ∷ ps) = if p.range == r then p.target else pinned_in r ps

-- a look of each of so many ranges is noted, and each of them was moving or pinned
abbrev pub is_looked : List Look → ℕ → Bool
is_looked ls r = is_some (word_in r ls)

abbrev pub is_blocked_word : Option RangeWord → Bool
is_blocked_word None = false
is_blocked_word (Some w) = is_blocked w

abbrev pub is_stuck : List Look → ℕ → Bool
is_stuck ls r = is_blocked_word (word_in r ls)

abbrev pub has_swept : (ℕ → Bool) → ℕ → Bool
has_swept test n = nat_lt 0 n && list_all (λ b. b) (listed test n)

-- the looks are forgotten
abbrev pub forgetting : ℕ → Noted → Noted
forgetting n x = record x {
  looks = [];
  sweeps = if has_swept (is_looked x.looks) n then more_by_one x.sweeps else x.sweeps;
  rounds = if has_swept (is_stuck x.looks) n then more_by_one x.rounds else x.rounds;
}

-- ---- what a pass is made of

-- the pass has the tree of this file alone, with its log
pub record Holds (s : Chair) (f : ℕ) (log : List LogEntry) : Type 0 where
  pub had : (branch_of s.me.0 f).had ≡ true
  pub alone : (i : ℕ) → i ≢ f → (branch_of s.me.0 i).had ≡ false
  pub taken : s.me.1 ≡ (f, None) ∷ []
  pub inside : f < s.table_id.slots
  pub log_is : log ≡ (branch_of s.me.0 f).seen

abbrev pub InHand : Chair → ℕ → Option (List LogEntry) → Type 0
InHand s f None = Treeless s.me.0 × (s.me.1 ≡ [])
InHand s f (Some log) = Holds s f log

-- the number is this one
abbrev pub is_number : Option ℕ → ℕ → Bool
is_number None n = false
is_number (Some m) n = m == n

abbrev pub or_before : Option Pin → Option Pin → Option Pin
or_before None before = before
or_before (Some p) before = Some p

-- the newest pin on a range; the oldest come first
abbrev pub newest_on : ℕ → List Pin → Option Pin
newest_on r [] = None
newest_on r (p ∷ ps) = or_before (newest_on r ps) (if on_range r p then Some p else None)

-- the newest pin on a range is what is noted of it
pub record IsPinNoted (v : Knows) (r : ℕ) : Type 0 where
  pub at : ℕ
  pub the_pin : Pin
  pub newest : newest_on r v.mine.shown.pins ≡ Some the_pin
  pub had : slice_get v.mine.shown.pins at ≡ Some the_pin
  pub range : the_pin.range ≡ r
  pub noted : pinned_in r v.noted.pinned ≡ target_of the_pin.file the_pin.chunk the_pin.mode

-- Its seat, the tree in hand and of which file, its guest's number, the range that it moves, the numbers of ranges and
-- files, and per range the newest look.
pub record Sound (seat : Chair) (hand : Option (List LogEntry)) (file guest : ℕ) (moves : Option ℕ) (ranges files : ℕ) (looks : List (Option RangeWord)) : Type 0 where
  pub stands : Stands seat.table_id seat
  pub guest_is : guest ≡ seat.me.0.guest
  pub small : guest < guests
  pub in_hand : InHand seat file hand
  pub moves_is : (r : ℕ) → moves_at seat.me.0 r ≡ is_number moves r
  pub moves_near : IfSome moves (λ r. r < ranges)
  pub ranges_are : ranges ≡ ranges_of seat.me.0
  pub files_are : files ≡ files_of seat.me.0
  pub looks_are : (r : ℕ) → r < ranges → slice_index_or looks r None ≡ word_in r seat.me.0.noted.looks
  pub showing : IsShowing seat.me.0
  pub pins_noted : (r : ℕ) → 0 < pins_on r seat.me.0.mine.shown.pins → IsPinNoted seat.me.0 r

-- no look of any range
abbrev pub no_looks : List (Option RangeWord)
no_looks = replicate 256 None

-- ---- takes, by the tree in hand

-- a range that is seen so may be taken, by whether a tree is in hand and of which file
abbrev pub may_take_by : Bool → ℕ → RangeWord → Bool
may_take_by had file words.Free = true
may_take_by had file (words.Moving g) = false
may_take_by had file (words.Mapped f c mode pins) = pins == 0 && (had && f == file)

-- where the word is that of a mapped range, a tree is in hand and has the chunk
abbrev pub HasChunk : RangeWord → Option (List LogEntry) → Type 0
HasChunk words.Free hand = ⊤
HasChunk (words.Moving g) hand = ⊤
HasChunk (words.Mapped f c mode pins) None = ⊥
HasChunk (words.Mapped f c mode pins) (Some log) = (p : Placed) × (placed_at log c ≡ Some p)

-- the tree in hand loses the chunk of a mapped range
abbrev pub Loses : RangeWord → Option (List LogEntry) → Option (List LogEntry) → Type 0
Loses words.Free hand hand' = hand' ≡ hand
Loses (words.Moving g) hand hand' = hand' ≡ hand
Loses (words.Mapped f c mode pins) None hand' = hand' ≡ None
Loses (words.Mapped f c mode pins) (Some log) hand' = (p : Placed) → placed_at log c ≡ Some p → hand' ≡ Some (log ++ remove_entry p.range ∷ [])

-- ---- what the deeds make of what a pass is shown

-- what is shown of a range that is held before and after stays
abbrev pub KeepsMaps : Mine → Mine → Type 0
KeepsMaps m n = (r : ℕ) (s t : Option Target) → map_shown m r ≡ Some s → map_shown n r ≡ Some t → t ≡ s

-- the parts that a deed changes
pub record Changes (moving : List Bool) (branches : List Branch) (pins : List Pin) (m n : Mine) : Type 0 where
  pub moving_is : n.shown.moving ≡ moving
  pub branches_are : n.shown.branches ≡ branches
  pub pins_are : n.shown.pins ≡ pins
  pub maps_long : length n.shown.maps ≡ length m.shown.maps
  pub movers_are : n.movers ≡ m.movers
  pub maps_kept : KeepsMaps m n

-- the tree is had, and more was seen of its log
abbrev pub entered_branch : List LogEntry → Branch → Branch
entered_branch more b = record { had = true; seen = b.seen ++ more }

abbrev pub left_branch : Branch → Branch
left_branch b = record b { had = false }

-- one entry more in the log of the tree that is had
abbrev pub grown_branch : LogEntry → Branch → Branch
grown_branch e b = record b { seen = b.seen ++ e ∷ [] }

abbrev pub with_branch : Mine → ℕ → Branch → List Branch
with_branch m f b = slice_set m.shown.branches f b

-- a pin on what the tree has, by what is seen of its log
abbrev pub pin_of : Mine → ℕ → ℕ → Placed → Pin
pin_of m f c p = record { range = p.range; file = f; chunk = c; mode = p.mode; through = record { entry = p.entry; upto = length (branch_in m.shown.branches f).seen } }

-- what a guest is shown after its deed
abbrev pub Effect : Deed → Mine → Mine → Type 0
Effect (enter f) m n = (more : List LogEntry) × Changes m.shown.moving (with_branch m f (entered_branch more (branch_in m.shown.branches f))) m.shown.pins m n
Effect (leave f) m n = Changes m.shown.moving (with_branch m f (left_branch (branch_in m.shown.branches f))) m.shown.pins m n
Effect (look r) m n = n ≡ m
Effect (take_free r) m n = Changes (slice_set m.shown.moving r true) m.shown.branches m.shown.pins m n
Effect (take_mapped r f c mode) m n = Changes (slice_set m.shown.moving r true) (with_branch m f (grown_branch (remove_entry r) (branch_in m.shown.branches f))) m.shown.pins m n
Effect (set_map r t) m n = n ≡ record m { shown = record m.shown { maps = slice_set m.shown.maps r (Some t) } }
Effect (settle_mapped r f c mode) m n = Changes (slice_set m.shown.moving r false) (with_branch m f (grown_branch (place_entry c r mode) (branch_in m.shown.branches f))) m.shown.pins m n
Effect (settle_free r) m n = Changes (slice_set m.shown.moving r false) m.shown.branches m.shown.pins m n
Effect (pin f c p) m n = n ≡ record m { shown = record m.shown { pins = m.shown.pins ++ pin_of m f c p ∷ [] } }
Effect (unpin r) m n = n ≡ record m { shown = record m.shown { pins = unpinned r m.shown.pins } }
Effect (upgrade f c p) m n = n ≡ record m { shown = record m.shown { branches = with_branch m f (grown_branch (upgrade_entry p.range) (branch_in m.shown.branches f)) } }

-- ---- what the calls answer and leave

-- The call was this deed, at which that was noted, and nothing else. P tells more of the core before.
pub record IsDeed (d : Deed) (x : Noted) (P : Core → Type 0) (p q : Known) : Type 0 where
  pub kept : q ≡ record p { view = q.view }
  pub does : DoesSo d x P p.view q.view
  pub effect : Effect d p.view.mine q.view.mine

-- The tree was taken: the pass sees the whole log. Where no other guest may move ranges it had seen all of it, and where
-- every number is in, what each joined pass had seen begins it.
pub record Entered (f : ℕ) (p q : Known) : Type 0 where
  pub deed : IsDeed (enter f) p.view.noted Always p q
  pub alone : others_may p.view.guest p.view.mine.movers ≡ false → (branch_of q.view f).seen ≡ (branch_of p.view f).seen
  pub joined : AllIn p.view → LogsBack p.view.numbers f (branch_of q.view f).seen

-- a control word was seen
pub record Looked (r : ℕ) (w : RangeWord) (p q : Known) : Type 0 where
  pub tells : TellsIn p.view.guest p.view.mine r w
  pub deed : IsDeed (look r) (saw p.view.noted p.view.mine r w) (λ c. w ≡ word_at c.window r) p q

-- A range was seen so that it may be taken, and it was taken in one step from there.
pub record Took (r : ℕ) (p q : Known) : Type 0 where
  pub word : RangeWord
  pub tells : TellsIn p.view.guest p.view.mine r word
  pub may : may_take_in p.view.mine word ≡ true
  pub between : Known
  pub looked : IsDeed (look r) (saw_for_take p.view.noted p.view.mine r word) (λ c. word ≡ word_at c.window r) p between
  pub taken : IsDeed (take_of r word) between.view.noted (λ c. word ≡ word_at c.window r) between q

-- What was seen last may not be taken, and is noted as a look.
pub record Refused (r : ℕ) (w : RangeWord) (p q : Known) : Type 0 where
  pub tells : TellsIn p.view.guest p.view.mine r w
  pub may_not : may_take_in p.view.mine w ≡ false
  pub kept : q ≡ record p { view = q.view }
  pub mine_same : q.view.mine ≡ p.view.mine
  pub guest_same : q.view.guest ≡ p.view.guest
  pub numbers_same : q.view.numbers ≡ p.view.numbers
  pub words_before : List Look
  pub noted : q.view.noted ≡ record (saw p.view.noted p.view.mine r w) { words = q.view.noted.words }
  pub newest : q.view.noted.words ≡ record { range = r; word = w; own = pins_on r p.view.mine.shown.pins } ∷ words_before

abbrev pub Takes : ℕ → Known → Result (Unit {0}) RangeWord → Known → Type 0
Takes r p (Ok u) q = Took r p q
Takes r p (Err w) q = Refused r w p q

-- a map word was seen
pub record Aimed (r : ℕ) (t : Option Target) (p q : Known) : Type 0 where
  pub pinned : PinnedIn p.view.mine r t
  pub held : HeldIn p.view.mine r t
  pub deed : IsDeed (look r) (aimed p.view.noted r t) (λ c. t ≡ target c.window r) p q

abbrev pub Settles : ℕ → ℕ → ℕ → Mode → Known → Result ℕ Memory → Known → Type 0
Settles r f c mode p (Ok place) q = (place ≡ length (branch_of p.view f).seen) × IsDeed (settle_mapped r f c mode) p.view.noted Always p q
Settles r f c mode p (Err e) q = q ≡ p

-- the tree of the file that is had has the range so
abbrev pub PinsOne : ℕ → Known → Known → Type 0
PinsOne r p q = (f c : ℕ) (x : Placed) → HasIn p.view.mine f c x → x.range ≡ r → IsDeed (pin f c x) (pinned_noted p.view.noted f c x) Always p q

-- ---- passes that come and go

abbrev pub first_pass : TableId → ℕ → ℕ → ℕ → Known
first_pass t ranges files movers = record { table = t; view = opener ranges files movers }

abbrev pub parent_pass : Known → ℕ → Known
parent_pass p n = record p { view = parent p.view n }

abbrev pub child_pass : Known → ℕ → Known
child_pass p n = record { table = p.table; view = child just_seen blank p.view n }

-- the first pass took the other in: of what both had seen of a log the longer is kept, and what the other knew, by its number
pub record TookIn (p o q : Known) : Type 0 where
  pub is : q ≡ record p { view = joined merged p.view o.view }
  pub begun : Begun p.view.mine q.view.mine
  pub other : Begun o.view.mine q.view.mine

-- the trees of a table that was closed: their logs are sound, and begin with what the pass had seen
abbrev pub AsSeen : ℕ → Knows → List (Option (List LogEntry)) → Type 0
AsSeen count v trees = (f : ℕ) → f < count → (log : List LogEntry) × (get_elem? trees f ≡ some (Some log)) × Begins (branch_of v f).seen log × IsTrue (sound (ranges_of v) log)

-- A pass with nothing in hand took the tree of a file and gave it back: it may have seen more of that file's log, and all else
-- that it knows is as before.
pub record IsReread (f : ℕ) (p q : Known) : Type 0 where
  pub table : q.table ≡ p.table
  pub guest : q.view.guest ≡ p.view.guest
  pub numbers : q.view.numbers ≡ p.view.numbers
  pub noted : q.view.noted ≡ p.view.noted
  pub ranges : ranges_of q.view ≡ ranges_of p.view
  pub files : files_of q.view ≡ files_of p.view
  pub movers : q.view.mine.movers ≡ p.view.mine.movers
  pub grown : Begins (branch_of p.view f).seen (branch_of q.view f).seen
  pub others : (i : ℕ) → i ≢ f → (branch_of q.view i).seen ≡ (branch_of p.view i).seen
  pub trees : (i : ℕ) → (branch_of q.view i).had ≡ false
  pub moving : q.view.mine.shown.moving ≡ p.view.mine.shown.moving
  pub pins : q.view.mine.shown.pins ≡ p.view.mine.shown.pins

-- whether a span is the whole of a chunk in its range, in the tree that is had, if any
abbrev pub HasSpan : Knows → Span → Bool → Type 0
HasSpan v span result = ((f : ℕ) → (branch_of v f).had ≡ true → result ≡ list_any (is_chunk_of span) (map (chunk_in f) (slots_of (branch_of v f).seen))) × (Treeless v → result ≡ false)
