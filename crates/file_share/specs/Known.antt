-- A pass as its callers see it, and what its calls answer and leave.
use Rattle.std.specs.Prelude.{◌≡◌, ◌≢◌, ℕ, ◌+◌, ◌-◌, ◌<◌, ◌≤◌, Bool, List, [], ◌∷◌, ◌++◌, length, map, true, false, slice_index_or, slice_set, replicate, Option, Some, None, IfSome, Result, Ok, Err, All}
use mathlib.Core.Option.{some}
use lib.ListN.{get_elem?}
use Rattle.atomic_table.specs.Seated.{TableId}
use Rattle.seats.specs.Views.{unused, guests, AllIn, joined, parent, child}
use Rattle.plain_file.specs.declared.operations.Applied.{Applied}
use Rattle.plain_file.specs.declared.operations.Entry.{Entry}
use Rattle.plain_file.specs.declared.operations.First.{First}
use Rattle.plain_file.specs.declared.operations.Mark.{Mark}
use Rattle.plain_file.specs.declared.operations.Op.{Op}
use Rattle.plain_file.specs.declared.refusals.BoardRefusal.{BoardRefusal}
use Rattle.plain_file.specs.declared.refusals.BoardRefusal.TheVariants as refusals
use Rattle.plain_file.specs.declared.refusals.Leased.{Leased}
use Rattle.plain_file.specs.Board.{is_file, last_of}
use Rattle.plain_file.specs.File.{max_file}
use Rattle.plain_file.specs.History.{Past, new_past, next_answer}
use Rattle.plain_file.specs.Plain.{first_mark}
use Rattle.plain_file.specs.Sound.{IsFresh}
use Rattle.files_core.specs.declared.rows.Note.{Note}
use Rattle.files_core.specs.Files.{Deed, set_size, give_turn, lease, note_size, unlease, set_bar, note, ended_at, noted_after, noted_left, with_entry}
use Rattle.files_core.specs.Good.{size_of}
use Rattle.files_core.specs.Shown.{Shown}
use Rattle.file_share.specs.Table.{Knows, part, first_at, opener, just_seen, merged, Begun, Grown}
use Rattle.file_share.specs.Steps.{Chair, DoesOn, Always, Never, Accounted, IfAllIn, Counts, NoTurn, refused}
use Rattle.file_share.specs.Places.{places_of}
use Rattle.file_share.specs.declared.marks.EntryMark.{EntryMark}
use Rattle.file_share.specs.declared.marks.Marks.{Marks}

-- the table that it belongs to, what it knows, and the call and way that its next entries carry
pub record Known : Type 0 where
  pub table : TableId
  pub view : Knows
  pub mark : Mark

abbrev pub known : Chair → Mark → Known
known s mark = record { table = s.table_id; view = s.me.0; mark = mark }

-- ---- what a pass always knows

-- what the pass has seen of the file, and what it applied in this turn
abbrev pub whole_of : Shown → List Entry
whole_of m = with_entry m.seen m.applied

abbrev pub whole_seen : Knows → ℕ → List Entry
whole_seen v f = whole_of (part v f)

-- a note with an upper end has the size of some first entries of what was seen, between its ends
abbrev pub IsFreshNote : First → List Entry → Note → Type 0
IsFreshNote first seen n = IfSome n.upper (λ u. IsFresh first seen n.lower u n.size)

-- What holds of each file of a pass.
pub record IsSoundPart (first : First) (m : Shown) : Type 0 where
  pub notes : All (IsFreshNote first m.seen) m.notes
  pub small : size_of first (whole_of m) ≤ max_file
  -- while the turn is had, the size isn't below what was noted under a lease
  pub noted : m.turn ≡ true → IfSome m.noted (λ z. z ≤ size_of first (whole_of m))
  pub bare : m.turn ≡ false → m.applied ≡ None

-- the pass has the turn of this file alone, and its contents
pub record Holds (s : Chair) (f : ℕ) (p : Past) : Type 0 where
  pub turn : (part s.me.0 f).turn ≡ true
  pub alone : (i : ℕ) → i ≢ f → (part s.me.0 i).turn ≡ false
  pub taken : s.me.1 ≡ (f, None) ∷ []
  pub first : p.first ≡ first_at s.me.0 f
  pub history : p.history ≡ whole_seen s.me.0 f

-- what is in hand is what the pass has the turn of
abbrev pub InHand : Chair → ℕ → Option Past → Type 0
InHand s f None = NoTurn s.me.0 × (s.me.1 ≡ [])
InHand s f (Some p) = Holds s f p

-- what a pass is made of: its seat, the contents in hand and of which file, its guest's number, the file of its bar, and
-- per file the place of its newest entry
pub record Sound (seat : Chair) (hand : Option Past) (file guest : ℕ) (bar : Option ℕ) (last : List (Option ℕ)) : Type 0 where
  pub live : seat.me.0.live ≡ true
  pub guest_is : guest ≡ seat.me.0.guest
  pub small : guest < guests
  pub in_hand : InHand seat file hand
  pub wide : length seat.me.0.mine.files ≡ seat.table_id.slots
  pub few : seat.table_id.slots ≤ 64
  pub bar_is : (f : ℕ) → (part seat.me.0 f).bar ≡ is_file bar f
  pub long : length last ≡ 64
  pub last_is : (f : ℕ) → f < length seat.me.0.mine.files → slice_index_or last f None ≡ last_of (places_of guest (whole_seen seat.me.0 f))
  pub parts_ok : (f : ℕ) → f < length seat.me.0.mine.files → IsSoundPart (first_at seat.me.0 f) (part seat.me.0 f)
  -- nothing was seen of a number that nobody had
  pub never : (f : ℕ) → Never seat.me.0.numbers (whole_seen seat.me.0 f)
  -- its own number is one that somebody has
  pub own_given : get_elem? seat.me.0.numbers seat.me.0.guest ≢ some unused

-- ---- what the deeds make of what a pass is shown

-- the pass is shown this of the file, and all else as before
abbrev pub IsShown : ℕ → Shown → Knows → Knows → Type 0
IsShown f m v w = w.mine ≡ record v.mine { files = slice_set v.mine.files f m }

-- the turn was taken, and more was seen of the history
abbrev pub taken_part : List Entry → Shown → Shown
taken_part more m = record m { seen = m.seen ++ more; turn = true; applied = None; notes = map (ended_at (length (m.seen ++ more))) m.notes }

abbrev pub applied_part : Entry → Shown → Shown
applied_part e m = record m { applied = Some e }

-- what was applied in the turn is the newest entry that was seen
abbrev pub given_part : Shown → Shown
given_part m = record m { seen = whole_of m; turn = false; applied = None }

abbrev pub noted_part : ℕ → Shown → Shown
noted_part z m = record m { noted = noted_after m.leases z m.noted; notes = m.notes ++ note z (length (whole_of m)) ∷ [] }

abbrev pub leased_part : Shown → Shown
leased_part m = record m { leases = m.leases + 1 }

abbrev pub unleased_part : Shown → Shown
unleased_part m = record m { leases = m.leases - 1; noted = noted_left (m.leases - 1) m.noted }

abbrev pub barred_part : Bool → Shown → Shown
barred_part bar m = record m { bar = bar }

-- ---- what the calls answer and leave

-- The call was this deed, and nothing else.
pub record IsDeed (f : ℕ) (d : Deed) (p q : Known) : Type 0 where
  pub kept : q ≡ record p { view = q.view }
  pub does : DoesOn f d Always p.view q.view

-- the file as the pass has seen it
abbrev pub past_seen : Knows → ℕ → Past
past_seen v f = record { first = first_at v f; history = (part v f).seen }

-- its size there
abbrev pub size_seen : Knows → ℕ → ℕ
size_seen v f = size_of (first_at v f) (part v f).seen

-- its size with one more entry
abbrev pub size_with : Knows → ℕ → Entry → ℕ
size_with v f e = size_of (first_at v f) ((part v f).seen ++ e ∷ [])

-- The turn was taken: the pass sees the whole history, which goes on by others' entries. Its size isn't below what the
-- pass noted under a lease. Where every number is in, the pass had seen the whole history, and of each entry whose it is.
pub record Entered (f : ℕ) (v w : Knows) : Type 0 where
  pub more : List Entry
  pub others : All (λ e. e.guest ≢ v.guest) more
  pub shown : IsShown f (taken_part more (part v f)) v w
  pub noted : IfSome (part v f).noted (λ z. z ≤ size_seen w f)
  pub account : IfAllIn v f (past_seen w f)

-- the entry that the pass makes of an operation
abbrev pub entry_of : Known → Op → Entry
entry_of p op = record { guest = p.view.guest; call = p.mark.call; op = op; way = p.mark.way }

-- an operation that is applied: it doesn't lower the size, or the pass has the bar
pub record IsApplied (p : Known) (f : ℕ) (e : Entry) (a : Applied) (q : Known) : Type 0 where
  pub may : size_with p.view f e < size_seen p.view f → (part p.view f).bar ≡ true
  pub answer : a ≡ next_answer (past_seen p.view f) e.op
  pub deed : IsDeed f (set_size e) p q
  pub shown : IsShown f (applied_part e (part p.view f)) p.view q.view

-- one that would lower it without the bar
pub record IsUnbarred (p : Known) (f : ℕ) (e : Entry) (size : ℕ) : Type 0 where
  pub lowers : size_with p.view f e < size_seen p.view f
  pub unbarred : (part p.view f).bar ≡ false
  pub size_is : size ≡ size_seen p.view f

-- what `apply` may answer, and what it leaves
abbrev pub Applies : Known → ℕ → Entry → Result Applied BoardRefusal → Known → Type 0
Applies p f e (Ok a) q = IsApplied p f e a q
Applies p f e (Err (refusals.Unbarred size)) q = IsUnbarred p f e size × (q ≡ p)
Applies p f e (Err refusals.Memory) q = q ≡ p

-- the size is that after all that is there, where the pass has the turn
abbrev pub IsCurrent : Knows → ℕ → ℕ → Type 0
IsCurrent v f z = (part v f).turn ≡ true → z ≡ size_of (first_at v f) (whole_seen v f)

-- The size was looked at and noted.
pub record Looked (p : Known) (f z : ℕ) (q : Known) : Type 0 where
  pub deed : IsDeed f note_size p q
  pub shown : IsShown f (noted_part z (part p.view f)) p.view q.view
  pub current : IsCurrent p.view f z

-- The turn was given back.
pub record Left (p : Known) (f : ℕ) (q : Known) : Type 0 where
  pub deed : IsDeed f give_turn p q
  pub shown : IsShown f (given_part (part p.view f)) p.view q.view

-- A lease was taken, and then the size noted under it.
pub record IsLeased (p : Known) (f z : ℕ) (q : Known) : Type 0 where
  pub between : Known
  pub deed : IsDeed f lease p between
  pub look : IsDeed f note_size between q
  pub shown : IsShown f (noted_part z (leased_part (part p.view f))) p.view q.view
  pub current : IsCurrent p.view f z

pub record IsUnleased (p : Known) (f : ℕ) (q : Known) : Type 0 where
  pub deed : IsDeed f unlease p q
  pub shown : IsShown f (unleased_part (part p.view f)) p.view q.view

-- The bar was taken or given back.
pub record IsBarred (p : Known) (f : ℕ) (d : Deed) (bar : Bool) (q : Known) : Type 0 where
  pub deed : IsDeed f d p q
  pub shown : IsShown f (barred_part bar (part p.view f)) p.view q.view

-- The bar was refused, which is noted with the leases that were seen.
pub record IsRefused (p : Known) (f count : ℕ) (q : Known) : Type 0 where
  pub some_seen : 0 < count
  pub counts : Counts p.view f count
  pub noted : q ≡ record p { view = refused p.view f count }

-- what `bar` may answer, and what it leaves
abbrev pub Bars : Known → ℕ → Result (Unit {0}) Leased → Known → Type 0
Bars p f (Ok u) q = IsBarred p f set_bar true q
Bars p f (Err l) q = IsRefused p f l.count q

-- ---- passes that come and go

abbrev pub first_pass : TableId → List First → ℕ → Known
first_pass t firsts leasers = record { table = t; view = opener firsts leasers; mark = first_mark }

-- the first pass, once it gave a number out, and the pass that has it
abbrev pub parent_pass : Known → ℕ → Known
parent_pass p n = record p { view = parent p.view n }

abbrev pub child_pass : Known → ℕ → Known
child_pass p n = record { table = p.table; view = child just_seen [] p.view n; mark = first_mark }

-- The first pass took the other in: of what both had seen of a file the longer is kept, and what the other knew, by its
-- number. Where every number is in, of each entry it is known whose it is.
pub record TookIn (p o q : Known) : Type 0 where
  pub is : q ≡ record p { view = joined merged p.view o.view }
  pub grown : Grown p.view.guest p.view.mine q.view.mine
  pub begun : Begun o.view.mine q.view.mine
  pub account : AllIn q.view → (f : ℕ) → f < p.table.slots → Accounted q.view.numbers f (past_seen q.view f)

-- the contents of the files as the pass knows them
abbrev pub AsSeen : ℕ → Knows → List (Option Past) → Type 0
AsSeen count v bodies = (f : ℕ) → f < count → get_elem? bodies f ≡ some (Some (past_seen v f))

-- no bar
abbrev pub NoBar : Knows → Type 0
NoBar v = (f : ℕ) → (part v f).bar ≡ false

-- no turn, lease or bar
abbrev pub IsIdle : Knows → Type 0
IsIdle v = (f : ℕ) → ((part v f).turn ≡ false) × ((part v f).leases ≡ 0) × ((part v f).bar ≡ false)

-- ---- a history that is read again

-- whose call an entry was, and how it came
abbrev pub mark_of : Entry → EntryMark
mark_of e = record { guest = e.guest; call = e.call; way = e.way }

-- they are those of the file as the pass has seen it
abbrev pub AreMarksOf : Knows → ℕ → Marks → Type 0
AreMarksOf v f m = (m.marks ≡ map mark_of (part v f).seen) × (m.size ≡ size_seen v f)

-- The pass has no turn after it, and what it has seen and has in hand is as it was.
pub record IsReread (p q : Known) : Type 0 where
  pub table : q.table ≡ p.table
  pub mark : q.mark ≡ p.mark
  pub live : q.view.live ≡ p.view.live
  pub guest : q.view.guest ≡ p.view.guest
  pub noted : q.view.noted ≡ p.view.noted
  pub numbers : q.view.numbers ≡ p.view.numbers
  pub firsts : q.view.mine.firsts ≡ p.view.mine.firsts
  pub leasers : q.view.mine.leasers ≡ p.view.mine.leasers
  pub long : length q.view.mine.files ≡ length p.view.mine.files
  pub seen : (f : ℕ) → (part q.view f).seen ≡ (part p.view f).seen
  pub turns : NoTurn q.view
  pub leases : (f : ℕ) → (part q.view f).leases ≡ (part p.view f).leases
  pub bars : (f : ℕ) → (part q.view f).bar ≡ (part p.view f).bar

-- ---- the table at its start

-- the words of a file of this size to which nothing was done yet
abbrev pub file_words : ℕ → List ℕ
file_words size = 0 ∷ size ∷ replicate 14 0

-- the words of such files
abbrev pub start_words : List First → List ℕ
start_words [] = []
start_words (x ∷ xs) = file_words x.size ++ start_words xs

-- the contents that lie at home then
abbrev pub start_body : First → Option Past
start_body first = Some (new_past first)

-- the places of the newest entries of a pass that made none
abbrev pub no_last : List (Option ℕ)
no_last = replicate 64 None

-- the same pass of the same table, with no turn, lease or bar
pub record IsBack (p q : Known) : Type 0 where
  pub table : q.table ≡ p.table
  pub guest : q.view.guest ≡ p.view.guest
  pub numbers : q.view.numbers ≡ p.view.numbers
  pub idle : IsIdle q.view
