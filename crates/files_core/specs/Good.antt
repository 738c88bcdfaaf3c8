-- When the files' half of the core is good.
use Rattle.std.specs.Prelude.{◌≡◌, ℕ, ◌<◌, ◌≤◌, List, length, slice_get, Option, Some, IfSome, IsSome}
use Rattle.plain_file.specs.declared.operations.Entry.{Entry}
use Rattle.plain_file.specs.declared.operations.First.{First}
use Rattle.plain_file.specs.File.{max_file}
use Rattle.plain_file.specs.History.{size}
use Rattle.files_core.specs.declared.rows.Note.{Note}
use Rattle.files_core.specs.Files.{Row, FileState, row, leases, whole, file}

-- the size after a whole history
abbrev pub size_of : First → List Entry → ℕ
size_of first h = size first h (length h)

-- each entry of the guest stands within the first n
abbrev pub Within : ℕ → ℕ → List Entry → Type 0
Within guest n h = (k : ℕ) (e : Entry) → slice_get h k ≡ Some e → e.guest ≡ guest → k < n

-- what holds of one guest's part, at this turn, history and size
pub record RowOk (turn : Option ℕ) (history : List Entry) (size g : ℕ) (r : Row) : Type 0 where
  pub seen : r.seen ≤ length history
  -- it has seen all while it has the turn
  pub at_turn : turn ≡ Some g → r.seen ≡ length history
  pub own : Within g r.seen history
  -- the size doesn't fall below what was noted under a lease
  pub noted : IfSome r.noted (λ z. (z ≤ size) × (0 < r.leases))
  pub few : r.leases ≤ 64

-- The size is that after some first entries: no fewer than the guest had seen when it noted it, no more than it saw at
-- its next turn, and no more than there are.
pub record NoteOk (first : First) (h : List Entry) (n : Note) : Type 0 where
  pub at : ℕ
  pub above : n.lower ≤ at
  pub within : at ≤ length h
  pub is : n.size ≡ size first h at
  pub below : IfSome n.upper (λ u. at ≤ u)

pub record GoodFile (guests : ℕ) (c : FileState) : Type 0 where
  pub rows_all : length c.rows ≡ guests
  pub first_small : c.first.size ≤ max_file
  pub size_small : c.size ≤ max_file
  pub entries_small : (k : ℕ) (e : Entry) → slice_get c.history k ≡ Some e → e.guest < guests
  pub turn_small : (g : ℕ) → c.turn ≡ Some g → g < guests
  pub bar_small : (g : ℕ) → c.bar ≡ Some g → g < guests
  -- the size is that of the history, with the entry that is applied
  pub size_is : c.size ≡ size_of c.first (whole c)
  -- an entry that is applied is that of who has the turn
  pub applied_is : IfSome c.applied (λ e. c.turn ≡ Some e.guest)
  -- a file with a bar has no lease
  pub barred : IsSome c.bar → leases c ≡ 0
  pub notes_ok : (g k : ℕ) (n : Note) → slice_get (row c g).notes k ≡ Some n → NoteOk c.first (whole c) n
  pub rows_ok : (g : ℕ) → g < guests → RowOk c.turn c.history c.size g (row c g)

pub record GoodFiles (guests : ℕ) (cs : List FileState) : Type 0 where
  pub files_ok : (f : ℕ) → f < length cs → GoodFile guests (file cs f)
  -- a guest has at most one turn, and at most one bar
  pub one_turn : (f f' g : ℕ) → (file cs f).turn ≡ Some g → (file cs f').turn ≡ Some g → f ≡ f'
  pub one_bar : (f f' g : ℕ) → (file cs f).bar ≡ Some g → (file cs f').bar ≡ Some g → f ≡ f'

-- the guest is one of those of these files, which are good
abbrev pub IsGuest : ℕ → List FileState → Type 0
IsGuest g cs = (guests : ℕ) × (g < guests) × GoodFiles guests cs
