-- The definitions on a window of 1,024 pages over two files of 8,192 bytes, the one 170, the other 187.
use Rattle.std.proofs.Common.{◌≡◌, refl, ℕ, [], ◌∷◌, Some, None}
use Rattle.page_map.specs.Board.{MapView, painted, wiped}
use Rattle.page_map.specs.Logs.{is_writable}
use Rattle.page_map.specs.Plain.{new_map}
use Rattle.page_map.specs.declared.pages.Mode.{Mode}
use Rattle.page_map.specs.declared.pages.Mode.TheVariants as modes
use Rattle.page_map.specs.declared.pages.Span.{Span}
use Rattle.plain_file.specs.Board.{BoardView, bytes_now}
use Rattle.plain_file.specs.History.{after_all, bytes}
use Rattle.plain_file.specs.Plain.{new_board}
use Rattle.window_access.specs.Access.{is_against, load_refusal, loaded, refusal_at, store_refusal}
use Rattle.window_access.specs.declared.refusals.WindowRefusal.TheVariants as refusals

abbrev span : ℕ → ℕ → ℕ → Mode → Span
span node moffset len mode = record { node = node; foffset = 0; moffset = moffset; len = len; mode = mode }

abbrev files : BoardView
files = new_board 0 (record { size = 8192; fill = 170 } ∷ record { size = 8192; fill = 187 } ∷ [])

-- the first file's two pages, and over the second of them the first page of the second file
abbrev overlapped : Mode → MapView
overlapped mode = painted (painted (new_map 1024) (span 2 0 8192 mode)) (span 3 4096 4096 modes.W)

pub seam-loaded : loaded files (overlapped modes.W) 4094 4 ≡ 170 ∷ 170 ∷ 187 ∷ 187 ∷ []
unfolding loaded bytes_now bytes after_all
seam-loaded = refl

pub seam-granted : load_refusal files (overlapped modes.W) 4094 4 ≡ None
unfolding load_refusal is_against refusal_at bytes_now bytes after_all
seam-granted = refl

-- after the later mapping was cleared, the older one isn't seen again
pub seam-cleared : load_refusal files (wiped (overlapped modes.W) 4096 4096) 4094 4 ≡ Some (refusals.Unmapped 4096)
unfolding load_refusal is_against refusal_at bytes_now bytes after_all
seam-cleared = refl

pub store-written : store_refusal files (overlapped modes.W) 0 1 ≡ None
unfolding store_refusal is_against refusal_at is_writable bytes_now bytes after_all
store-written = refl

pub store-read_only : store_refusal files (overlapped modes.R) 0 1 ≡ Some (refusals.ReadOnly 0)
unfolding store_refusal is_against refusal_at is_writable bytes_now bytes after_all
store-read_only = refl
