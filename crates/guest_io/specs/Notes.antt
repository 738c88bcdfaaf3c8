-- What becomes of the sizes that a board of files has noted.
use Rattle.std.specs.Prelude.{◌≡◌, ℕ, ◌+◌, length, slice_get, Some, None, ◌⊎◌}
use Rattle.plain_file.specs.Board.{Note, FileView, BoardView, file_at}
use Rattle.plain_file.specs.Sound.{IsFresh}

-- Each size that was noted, and had no upper end, is that of the file between its lower end and the place of the newest entry.
abbrev pub ClosesNotes : FileView → FileView → Type 0
ClosesNotes old new = (k : ℕ) (n : Note) → slice_get old.notes k ≡ Some n → n.upper ≡ None → (place : ℕ) × (length new.history ≡ place + 1) × IsFresh new.first new.history n.lower place n.size

-- Each size that was noted, and had no upper end, has none yet, or is that of the file between its lower end and the end of what is seen.
abbrev pub KeepsNotes : FileView → FileView → Type 0
KeepsNotes old new = (k : ℕ) (n : Note) → slice_get old.notes k ≡ Some n → n.upper ≡ None → (slice_get new.notes k ≡ Some n) ⊎ IsFresh new.first new.history n.lower (length new.history) n.size

-- each size that was noted stays so
abbrev pub SameNotes : FileView → FileView → Type 0
SameNotes old new = (k : ℕ) (n : Note) → slice_get old.notes k ≡ Some n → slice_get new.notes k ≡ Some n

-- the size is noted of the file, from a length on that the board had seen, and has no upper end
abbrev pub IsOpenNote : BoardView → ℕ → ℕ → BoardView → Type 0
IsOpenNote old file z new = (k : ℕ) × (slice_get (file_at new file).notes k ≡ Some (record { size = z; lower = length (file_at old file).history; upper = None }))
