-- What holds of every board of files.
use Rattle.std.specs.Prelude.{◌≡◌, ℕ, ◌<◌, ◌≤◌, Bool, true, false, List, length, slice_get, Some, None, IfSome, All}
use Rattle.plain_file.specs.declared.operations.Entry.{Entry}
use Rattle.plain_file.specs.declared.operations.First.{First}
use Rattle.plain_file.specs.File.{max_file}
use Rattle.plain_file.specs.History.{size}
use Rattle.plain_file.specs.Board.{FileView, BoardView, file_at, size_of}

-- a size is that after a front of the history, from one length up to another
abbrev pub IsFresh : First → List Entry → ℕ → ℕ → ℕ → Type 0
IsFresh first history lower upper z = (n : ℕ) × (lower ≤ n) × (n ≤ upper) × (upper ≤ length history) × (z ≡ size first history n)

-- the history has an entry of this guest at a place
abbrev pub IsPlaceOf : ℕ → List Entry → ℕ → Type 0
IsPlaceOf guest history place = (e : Entry) × (slice_get history place ≡ Some e) × (e.guest ≡ guest)

-- What holds of each file of a board of this guest.
pub record IsSoundFile (guest : ℕ) (plain : Bool) (f : FileView) : Type 0 where
  -- on a plain board it is always ready
  pub ready : plain ≡ true → f.ready ≡ true
  -- the board's own entries are the guest's, the older first
  pub own : All (IsPlaceOf guest f.history) f.own
  pub rising : (i j p q : ℕ) → i < j → slice_get f.own i ≡ Some p → slice_get f.own j ≡ Some q → p < q
  -- a size that was noted is one between its ends
  pub notes : All (λ n. IfSome n.upper (λ upper. IsFresh f.first f.history n.lower upper n.size)) f.notes
  -- on a shared board the size of a ready file isn't below what its leases noted
  pub floor : plain ≡ false → f.ready ≡ true → IfSome f.floor (λ z. z ≤ size_of f)
  pub small : size_of f ≤ max_file

-- What holds of a file of a board, whichever board it is. A plain board stands over no table.
pub record IsSoundBoard (v : BoardView) (file : ℕ) : Type 0 where
  pub alone : v.plain ≡ true → v.over ≡ None
  pub counted : length v.hands.leases ≡ length v.files
  pub sound : IsSoundFile v.guest v.plain (file_at v file)
