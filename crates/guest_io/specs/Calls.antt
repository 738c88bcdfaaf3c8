-- What a call of a guest answers, and what it leaves of the files and the ranges: all that a line of a transcript needs.
use Rattle.std.specs.Prelude.{◌≡◌, ◌≢◌, ℕ, ◌+◌, ◌-◌, ◌/◌, ◌≤◌, true, false, List, [], ◌∷◌, ◌++◌, length, Option, Some, None, IfSome, All}
use Rattle.plain_file.specs.declared.operations.Op.{Op}
use Rattle.plain_file.specs.declared.operations.Way.{Way}
use Rattle.plain_file.specs.declared.operations.Entry.{Entry}
use Rattle.plain_file.specs.declared.operations.Through.{Through}
use Rattle.plain_file.specs.File.{answer}
use Rattle.plain_file.specs.History.{bytes, size}
use Rattle.plain_file.specs.Board.{FileView, BoardView, file_at, size_of}
use Rattle.page_map.specs.Window.{range_size}
use Rattle.page_map.specs.Logs.{is_writable}
use Rattle.page_map.specs.declared.pages.Mode.{Mode}
use Rattle.page_map.specs.declared.ranges.LogEntry.{LogEntry}
use Rattle.range_tree.specs.Logs.{is_live}
use Rattle.guest_io.specs.declared.calls.Done.{Done}
use Rattle.guest_io.specs.Notes.{ClosesNotes}

-- ---- chunks

-- the chunk of an interval's first byte, and that of its last
abbrev pub first_chunk : ℕ → ℕ
first_chunk off = off / range_size

abbrev pub last_chunk : ℕ → ℕ → ℕ
last_chunk off len = (off + len - 1) / range_size

-- an entry of the log places the chunk, and is live with this mode when the log is as long as the pair says
abbrev pub IsThrough : List LogEntry → ℕ → Mode → Through → Type 0
IsThrough log chunk mode t = is_live (is_writable mode) log chunk t.entry t.upto ≡ true

-- one pair for each chunk of the interval, in order
abbrev pub Covers : List LogEntry → ℕ → ℕ → Mode → Through → Option Through → Type 0
Covers log off len mode first None = (last_chunk off len ≡ first_chunk off) × IsThrough log (first_chunk off) mode first
Covers log off len mode first (Some second) = (last_chunk off len ≡ first_chunk off + 1) × IsThrough log (first_chunk off) mode first × IsThrough log (first_chunk off + 1) mode second

-- ---- one entry

-- A call was done on a file: others' entries came first, then the one entry of the call, the board's own, at the answered place. The answer is the plain file's there.
pub record IsDone (guest call : ℕ) (op : Op) (way : Way) (old new : FileView) (d : Done) : Type 0 where
  pub more : List Entry
  pub others : All (λ e. e.guest ≢ guest) more
  pub first : new.first ≡ old.first
  pub history : new.history ≡ (old.history ++ more) ++ record { guest = guest; call = call; op = op; way = way } ∷ []
  pub place : d.place ≡ length (old.history ++ more)
  pub own : new.own ≡ old.own ++ d.place ∷ []
  pub answered : d.answer ≡ answer (bytes old.first (old.history ++ more) (length (old.history ++ more))) op

-- no other file has changed
abbrev pub OthersStay : BoardView → ℕ → BoardView → Type 0
OthersStay old file new = (f : ℕ) → f ≢ file → file_at new f ≡ file_at old f

-- The files afterwards: one has the call's entry, and nothing else is in hand. On a shared board each size that was noted of the file has got its upper end.
pub record Directs (old : BoardView) (file call : ℕ) (way : Way) (op : Op) (d : Done) (new : BoardView) : Type 0 where
  pub done : IsDone old.guest call op way (file_at old file) (file_at new file) d
  pub others : OthersStay old file new
  pub hands : new.hands ≡ old.hands
  pub guest : new.guest ≡ old.guest
  pub count : length new.files ≡ length old.files
  pub closes : old.plain ≡ false → ClosesNotes (file_at old file) (file_at new file)

-- ---- a direct operation

-- under a lease the size before the place isn't below the one that was noted: always on a shared board, and on a plain one as long as it is so
abbrev pub KeepsFloor : BoardView → ℕ → Done → BoardView → Type 0
KeepsFloor old file d new = (old.plain ≡ true → IfSome (file_at old file).floor (λ z. z ≤ size_of (file_at old file))) → IfSome (file_at old file).floor (λ z. z ≤ size (file_at new file).first (file_at new file).history d.place)
