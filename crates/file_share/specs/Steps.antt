-- What a step on the table tells its pass: it was this deed.
use Rattle.std.specs.Prelude.{◌≡◌, ◌≢◌, ℕ, ◌+◌, ◌*◌, ◌%◌, ◌<◌, ◌≤◌, ◌==◌, Bool, ◌||◌, ◌&&◌, not, List, ◌∷◌, length, slice_get, ⊤, true, false, Option, Some}
use mathlib.Core.Option.{some}
use lib.ListN.{get_elem?}
use Rattle.atomic_table.specs.Seated.{TableId}
use Rattle.atomic_table.specs.Table.{Me, Step, rest}
use Rattle.atomic_table.specs.declared.shared.Seat.{Seat}
use Rattle.seats.specs.Views.{unused, back, guests, AllIn}
use Rattle.seats.specs.Seats.{Does, Told}
use Rattle.plain_file.specs.declared.operations.Entry.{Entry}
use Rattle.plain_file.specs.History.{Past}
use Rattle.files_core.specs.declared.rows.Note.{Note}
use Rattle.files_core.specs.Files.{file, Deed, take_turn, set_size, give_turn, lease, note_size, unlease, set_bar, clear_bar, on}
use Rattle.files_core.specs.Good.{Within, NoteOk}
use Rattle.files_core.specs.Laws.{Begins}
use Rattle.file_share.specs.Table.{Core, Mine, Refusal, Knows, Marks, in_list, part, first_at, past_of, files_kit}

abbrev pub Us : Type 0
Us = Me (Option Past) Knows

abbrev pub At : Type 0
At = Step (Option Past)

-- The step was this deed of the pass's guest on the file f, at which nothing was noted. P tells more of the core before.
abbrev pub DoesOn : ℕ → Deed → (Core → Type 0) → Knows → Knows → Type 0
DoesOn f d P v w = Does files_kit (on f d) v.noted P v w

abbrev pub Always : Core → Type 0
Always c = ⊤

-- ---- whose entries they are

-- no entry is of a number that nobody had
abbrev pub Never : Marks → List Entry → Type 0
Never numbers h = (n : ℕ) → get_elem? numbers n ≡ some unused → Within n 0 h

-- The entries of each joined number are those that its pass had seen, which begins the history. Nobody else has an entry
-- but the first, and each note that a joined pass left holds.
pub record Accounted (numbers : Marks) (f : ℕ) (p : Past) : Type 0 where
  pub small : (k : ℕ) (e : Entry) → slice_get p.history k ≡ Some e → e.guest < guests
  pub never : Never numbers p.history
  pub joined : (n : ℕ) (m : Mine) (x : List Refusal) → get_elem? numbers n ≡ some (back m x) → Begins (in_list m.files f).seen p.history × Within n (length (in_list m.files f).seen) p.history
  pub notes : (n k : ℕ) (m : Mine) (x : List Refusal) (note : Note) → get_elem? numbers n ≡ some (back m x) → slice_get (in_list m.files f).notes k ≡ Some note → NoteOk p.first p.history note

-- where every number is in, the first pass has seen the whole history, and of each entry whose it is
abbrev pub IfAllIn : Knows → ℕ → Past → Type 0
IfAllIn v f p = AllIn v → (p.history ≡ (part v f).seen) × Accounted v.numbers f p

-- ---- turns and sizes

-- a compare and exchange of the turn word from 0: where it was 0 the turn was taken, and the contents with it
pub record Takes (f : ℕ) (m m' : Us) (c : Core) : Type 0 where
  pub out : m'.1 ≡ (f, Some (past_of (file c.files f))) ∷ m.1
  pub never : Never m.0.numbers (file c.files f).history
  pub account : IfAllIn m.0 f (past_of (file c.files f))

abbrev pub tries_turn : At → Us → ℕ → Us → Type 0
tries_turn st m found m' = (f : ℕ) → st.word ≡ 16 * f + 1 → (found ≡ 0 → DoesOn f take_turn (Takes f m m') m.0 m'.0) × (found ≢ 0 → m' ≡ m)

-- a store of the size word
abbrev pub sets : Entry → At → Us → ℕ → Us → Type 0
sets e st m found m' = (f : ℕ) → st.word ≡ 16 * f + 2 → DoesOn f (set_size e) Always m.0 m'.0 × (m'.1 ≡ m.1)

-- a store of 0 to the turn word, with which the contents go home
abbrev pub gives_turn : At → Us → ℕ → Us → Type 0
gives_turn st m found m' = (f : ℕ) → st.word ≡ 16 * f + 1 → DoesOn f give_turn Always m.0 m'.0 × (m'.1 ≡ rest m.1)

-- a load of the size word
abbrev pub notes_size : At → Us → ℕ → Us → Type 0
notes_size st m found m' = (f : ℕ) → st.word ≡ 16 * f + 2 → DoesOn f note_size (λ c. found ≡ (file c.files f).size) m.0 m'.0 × (m'.1 ≡ m.1)

-- ---- leases and bars

-- a compare and exchange of the lease word from a word without a bar to one lease more
abbrev pub tries_lease : At → Us → ℕ → Us → Type 0
tries_lease st m found m' = (f : ℕ) → st.word ≡ 16 * f + 3 → (found ≡ st.first → DoesOn f lease Always m.0 m'.0 × (m'.1 ≡ m.1)) × (found ≢ st.first → m' ≡ m)

-- one lease less
abbrev pub drops_lease : At → Us → ℕ → Us → Type 0
drops_lease st m found m' = (f : ℕ) → st.word ≡ 16 * f + 3 → DoesOn f unlease Always m.0 m'.0 × (m'.1 ≡ m.1)

-- the leases that a lease word counts
abbrev pub leases_in : ℕ → ℕ
leases_in word = word % 65536

-- another guest may lease than this one, where those with numbers below the second may
abbrev pub others_may : ℕ → ℕ → Bool
others_may guest leasers = not (leasers == 0 || (leasers == 1 && guest == 0))

-- the pass after it saw so many leases on a file, which it notes with the number of its own
abbrev pub refused : Knows → ℕ → ℕ → Knows
refused v f count = record v { noted = record { file = f; count = count; own = (part v f).leases } ∷ v.noted }

-- What the count of leases is that was seen: the pass's own are counted, and where no other may lease they are all.
pub record Counts (v : Knows) (f count : ℕ) : Type 0 where
  pub own : (part v f).leases ≤ count
  pub all : others_may v.guest v.mine.leasers ≡ false → count ≡ (part v f).leases

-- A compare and exchange of the lease word from 0 to the bar. Where leases were seen, the bar is refused and that is noted;
-- where none were and another's bar, nothing has changed.
abbrev pub tries_bar : At → Us → ℕ → Us → Type 0
tries_bar st m found m' = (f : ℕ) → st.word ≡ 16 * f + 3
    → (found ≡ 0 → DoesOn f set_bar Always m.0 m'.0 × (m'.1 ≡ m.1))
    × (0 < leases_in found → Counts m.0 f (leases_in found) × (m' ≡ (refused m.0 f (leases_in found), m.1)))
    × (found ≢ 0 → leases_in found ≡ 0 → m' ≡ m)

-- the bar is given back
abbrev pub drops_bar : At → Us → ℕ → Us → Type 0
drops_bar st m found m' = (f : ℕ) → st.word ≡ 16 * f + 3 → DoesOn f clear_bar Always m.0 m'.0 × (m'.1 ≡ m.1)

-- ---- after a join

-- What a load tells the first pass after a join: what each of the two had seen begins what is seen now, in which nothing
-- more is the first's own; no entry is of a number that nobody had; and where every number is in, of each entry whose it is.
pub record Joins (m m' : Us) : Type 0 where
  pub same : m' ≡ m
  pub told : Told files_kit m.0
  pub never : (f : ℕ) → Never m.0.numbers (part m.0 f).seen
  pub account : AllIn m.0 → (f : ℕ) → f < length m.0.mine.files → Accounted m.0.numbers f (record { first = first_at m.0 f; history = (part m.0 f).seen })

abbrev pub compares : At → Us → ℕ → Us → Type 0
compares st m found m' = Joins m m'

-- ---- seats

abbrev pub Chair : Type 0
Chair = Seat (Option Past) Knows

-- a live seat of this table, which has this file
pub record IsAt (t : TableId) (s : Chair) (f : ℕ) : Type 0 where
  pub same : s.table_id ≡ t
  pub wide : t.words ≡ 16 * t.slots + 1
  pub few : t.slots ≤ 64
  pub inside : f < t.slots
  pub live : s.me.0.live ≡ true

abbrev pub DoesAt : ℕ → Deed → (Core → Type 0) → Chair → Chair → Type 0
DoesAt f d P s t = DoesOn f d P s.me.0 t.me.0

abbrev pub NoTurn : Knows → Type 0
NoTurn v = (f : ℕ) → (part v f).turn ≡ false
