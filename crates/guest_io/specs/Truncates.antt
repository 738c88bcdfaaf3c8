-- What a truncation of a guest answers, and what it leaves.
use Rattle.std.specs.Prelude.{◌≡◌, ℕ, ◌<◌, ◌≤◌, false, Result, Ok, Err}
use Rattle.plain_file.specs.declared.operations.Op.TheVariants as ops
use Rattle.plain_file.specs.declared.operations.Way.TheVariants as ways
use Rattle.plain_file.specs.Board.{BoardView}
use Rattle.plain_file.specs.Turns.{leases_on, refused_bar}
use Rattle.guest_dax.specs.Stands.{Stand}
use Rattle.guest_io.specs.declared.calls.Done.{Done}
use Rattle.guest_io.specs.declared.calls.Refusal.{Refusal}
use Rattle.guest_io.specs.declared.calls.Refusal.TheVariants as refusals
use Rattle.guest_io.specs.Requests.{Sends}
use Rattle.guest_io.specs.Going.{KeepsRefusals}

-- Leases were seen on the file, the board's own among them; where no other board may lease, they are its own. The refused bar is counted, and nothing else has changed.
pub record IsBarred (old : Stand) (file count : ℕ) (new : Stand) : Type 0 where
  pub some : 0 < count
  pub own : leases_on old.files file ≤ count
  pub alone : old.files.others ≡ false → count ≡ leases_on old.files file
  pub changed : new ≡ record old { files = refused_bar old.files file count }

-- the bar was had, and the request was sent
abbrev pub SendsBarred : Stand → ℕ → ℕ → ℕ → Result Done Refusal → Stand → Type 0
SendsBarred old file call size result new = (leases_on old.files file ≡ 0) × Sends old file call (ops.Truncate size) ways.Req result new

-- What `truncate` answers. It is refused for leases exactly where they were seen, before anything is sent; else it is one request under the bar.
abbrev pub Truncates : Stand → ℕ → ℕ → ℕ → Result Done Refusal → Stand → Type 0
Truncates old file call size (Ok d) new = SendsBarred old file call size (Ok d) new
Truncates old file call size (Err (refusals.Leased count)) new = IsBarred old file count new
Truncates old file call size (Err e) new = SendsBarred old file call size (Err e) new

-- A bar is refused where the truncation is refused for leases, which `Truncates` counts, and nowhere else.
abbrev pub CountsRefusal : BoardView → Result Done Refusal → BoardView → Type 0
CountsRefusal old (Ok d) new = KeepsRefusals old new
CountsRefusal old (Err (refusals.Leased count)) new = Unit {0}
CountsRefusal old (Err e) new = KeepsRefusals old new
