-- Loads and stores through the window: which are refused, what a load gives, and what a store leaves.
use Rattle.std.specs.Prelude.{◌≡◌, ◌≢◌, ℕ, zero, suc, ◌+◌, ◌-◌, ◌*◌, ◌/◌, ◌<◌, ◌≤◌, min, max, Bool, true, false, not, nat_le, List, [], ◌∷◌, ◌++◌, length, map, take, drop, slice_get, slice_index_or, Option, Some, None, unwrap_or, Result, Ok, Err}
use Rattle.std.specs.List.{range_with_len, find}
use Rattle.std.specs.Option.{option_map, option_or}
use Rattle.page_map.specs.Board.{MapView, NamesFiles, mapped_byte}
use Rattle.page_map.specs.Logs.{is_writable}
use Rattle.page_map.specs.declared.pages.Mode.TheVariants as modes
use Rattle.page_map.specs.declared.pages.Page.{Page}
use Rattle.plain_file.specs.Board.{BoardView, FileView, file_at, bytes_now, size_of, applied}
use Rattle.plain_file.specs.File.{max_file}
use Rattle.plain_file.specs.declared.operations.Op.{Op}
use Rattle.plain_file.specs.declared.operations.Op.TheVariants as ops
use Rattle.window_access.specs.declared.refusals.Cause.{Cause}
use Rattle.window_access.specs.declared.refusals.Cause.TheVariants as causes
use Rattle.window_access.specs.declared.refusals.WindowRefusal.{WindowRefusal}
use Rattle.window_access.specs.declared.refusals.WindowRefusal.TheVariants as refusals

-- ---- what the window is of

-- what an access asks of both boards: that of the files is a plain one, and what is mapped are its files
pub record CanAccess (v : BoardView) (map : MapView) : Type 0 where
  pub plain : v.plain ≡ true
  pub names : NamesFiles (length v.files) map

-- the file of a mapped byte
abbrev pub file_of : BoardView → Page → FileView
file_of v p = file_at v (p.node - 2)

-- ---- which accesses are refused

-- what a byte of the window is mapped to stands against its access
unfoldable pub is_against : BoardView → Cause → Option Page → Bool
is_against v causes.Unmapped None = true
is_against v causes.Unmapped (Some p) = false
is_against v causes.ReadOnly None = false
is_against v causes.ReadOnly (Some p) = not (is_writable p.mode)
is_against v causes.PastEnd None = false
is_against v causes.PastEnd (Some p) = nat_le (size_of (file_of v p)) p.foffset

-- the byte at an offset of the window can't be accessed, for this cause
abbrev pub fails : BoardView → MapView → Cause → ℕ → Bool
fails v map cause at = is_against v cause (mapped_byte map at)

-- the first of so many bytes from an offset on that can't be accessed, for this cause
abbrev pub first_failing : BoardView → MapView → Cause → ℕ → ℕ → Option ℕ
first_failing v map cause moffset len = find (fails v map cause) (range_with_len moffset len)

-- none of the bytes fails for this cause
abbrev pub IsGranted : BoardView → MapView → Cause → ℕ → ℕ → Type 0
IsGranted v map cause moffset len = (k : ℕ) → k < len → fails v map cause (moffset + k) ≡ false

-- all of the bytes are mapped
abbrev pub IsMapped : MapView → ℕ → ℕ → Type 0
IsMapped map moffset len = (k : ℕ) → k < len → mapped_byte map (moffset + k) ≢ None

-- each of the bytes that is mapped lies in the first 67,108,864 of its file
abbrev pub IsBelow : MapView → ℕ → ℕ → Type 0
IsBelow map moffset len = (at : ℕ) (p : Page) → moffset ≤ at → at < moffset + len → mapped_byte map at ≡ Some p → p.foffset < max_file

-- the answer for a cause and a byte
unfoldable pub refusal_at : Cause → ℕ → WindowRefusal
refusal_at causes.Unmapped at = refusals.Unmapped at
refusal_at causes.ReadOnly at = refusals.ReadOnly at
refusal_at causes.PastEnd at = refusals.PastEnd at

-- the first cause of these for which one of the bytes can't be accessed, with the first such byte
abbrev pub first_refusal : BoardView → MapView → List Cause → ℕ → ℕ → Option WindowRefusal
first_refusal v map [] moffset len = None
first_refusal v map (cause ∷ others) moffset len =
    option_or (option_map (refusal_at cause) (first_failing v map cause moffset len)) (first_refusal v map others moffset len)

-- an answer that has a cause: every one but want of memory
abbrev pub IsRefusal : WindowRefusal → Type 0
IsRefusal (refusals.Unmapped at) = Unit {0}
IsRefusal (refusals.ReadOnly at) = Unit {0}
IsRefusal (refusals.PastEnd at) = Unit {0}
IsRefusal refusals.Memory = ⊥

-- why a load is refused, if it is
unfoldable pub load_refusal : BoardView → MapView → ℕ → ℕ → Option WindowRefusal
load_refusal v map moffset len = first_refusal v map (causes.Unmapped ∷ causes.PastEnd ∷ []) moffset len

-- why a store is refused, if it is
unfoldable pub store_refusal : BoardView → MapView → ℕ → ℕ → Option WindowRefusal
store_refusal v map moffset len = first_refusal v map (causes.Unmapped ∷ causes.ReadOnly ∷ causes.PastEnd ∷ []) moffset len

-- ---- loads

-- what stands for an unmapped byte
abbrev pub no_page : Page
no_page = record { node = 0; foffset = 0; mode = modes.R }

-- what a byte that is mapped is mapped to
abbrev pub target : MapView → ℕ → Page
target map at = unwrap_or (mapped_byte map at) no_page

-- the file's byte at a mapped byte
abbrev pub byte_of : BoardView → Page → ℕ
byte_of v p = slice_index_or (bytes_now (file_of v p)) p.foffset 0

-- the bytes from an offset of the window on
unfoldable pub loaded : BoardView → MapView → ℕ → ℕ → List ℕ
loaded v m moffset len = map (λ at. byte_of v (target m at)) (range_with_len moffset len)

-- each of the bytes is the one that the file of its mapping has there
abbrev pub AreShown : BoardView → MapView → ℕ → ℕ → List ℕ → Type 0
AreShown v map moffset len bytes = (k : ℕ) (p : Page) → k < len → mapped_byte map (moffset + k) ≡ Some p → slice_get bytes k ≡ slice_get (bytes_now (file_of v p)) p.foffset

-- what a load answers, but for want of memory, which comes only where it isn't refused
abbrev pub Loads : BoardView → MapView → ℕ → ℕ → Result (List ℕ) WindowRefusal → Type 0
Loads v map moffset len (Ok bytes) = (load_refusal v map moffset len ≡ None) × (bytes ≡ loaded v map moffset len)
Loads v map moffset len (Err (refusals.Unmapped at)) = load_refusal v map moffset len ≡ Some (refusals.Unmapped at)
Loads v map moffset len (Err (refusals.ReadOnly at)) = load_refusal v map moffset len ≡ Some (refusals.ReadOnly at)
Loads v map moffset len (Err (refusals.PastEnd at)) = load_refusal v map moffset len ≡ Some (refusals.PastEnd at)
Loads v map moffset len (Err refusals.Memory) = load_refusal v map moffset len ≡ None

-- the same of a load that adds its bytes at the end of others
abbrev pub LoadsInto : BoardView → MapView → ℕ → ℕ → List ℕ → Result (Unit {0}) WindowRefusal → List ℕ → Type 0
LoadsInto v map moffset len old (Ok u) new = (load_refusal v map moffset len ≡ None) × (new ≡ old ++ loaded v map moffset len)
LoadsInto v map moffset len old (Err (refusals.Unmapped at)) new = (load_refusal v map moffset len ≡ Some (refusals.Unmapped at)) × (new ≡ old)
LoadsInto v map moffset len old (Err (refusals.ReadOnly at)) new = (load_refusal v map moffset len ≡ Some (refusals.ReadOnly at)) × (new ≡ old)
LoadsInto v map moffset len old (Err (refusals.PastEnd at)) new = (load_refusal v map moffset len ≡ Some (refusals.PastEnd at)) × (new ≡ old)
LoadsInto v map moffset len old (Err refusals.Memory) new = (load_refusal v map moffset len ≡ None) × (new ≡ old)

-- ---- stores

-- what is stored into one page: a write to its file
pub record Piece : Type 0 where
  pub file : ℕ
  pub op : Op

-- how many pages bytes from an offset of the window on touch
unfoldable pub touched : ℕ → ℕ → ℕ
touched moffset zero = 0
touched moffset (suc n) = suc ((moffset + n) / 4096 - moffset / 4096)

-- where the bytes that lie in a page begin in the window
abbrev pub piece_start : ℕ → ℕ → ℕ
piece_start moffset page = max moffset (4096 * page)

-- the bytes that lie in a page
abbrev pub piece_bytes : ℕ → List ℕ → ℕ → List ℕ
piece_bytes moffset bytes page =
    take (min (moffset + length bytes) (4096 * page + 4096) - piece_start moffset page) (drop (piece_start moffset page - moffset) bytes)

-- the write of these bytes from an offset of the window on
abbrev pub piece_at : MapView → ℕ → List ℕ → Piece
piece_at map at bytes = record { file = (target map at).node - 2; op = ops.Write (target map at).foffset bytes }

-- the pieces of a store: one for each page that it touches, in order
unfoldable pub pieces : MapView → ℕ → List ℕ → List Piece
pieces m moffset bytes =
    map (λ page. piece_at m (piece_start moffset page) (piece_bytes moffset bytes page)) (range_with_len (moffset / 4096) (touched moffset (length bytes)))

-- the board after pieces, one after another
unfoldable pub all_applied : BoardView → List Piece → BoardView
all_applied v [] = v
all_applied v (piece ∷ others) = all_applied (applied v piece.file piece.op) others

-- the board after a store
abbrev pub stored : BoardView → MapView → ℕ → List ℕ → BoardView
stored v map moffset bytes = all_applied v (pieces map moffset bytes)

-- the board after some of a store's pieces, not all
abbrev pub IsPartlyStored : BoardView → MapView → ℕ → List ℕ → BoardView → Type 0
IsPartlyStored old map moffset bytes new = (n : ℕ) × (n < length (pieces map moffset bytes)) × (new ≡ all_applied old (take n (pieces map moffset bytes)))

-- what a store answers, and what it leaves
abbrev pub Stores : BoardView → MapView → ℕ → List ℕ → Result (Unit {0}) WindowRefusal → BoardView → Type 0
Stores old map moffset bytes (Ok u) new = (store_refusal old map moffset (length bytes) ≡ None) × (new ≡ stored old map moffset bytes)
Stores old map moffset bytes (Err (refusals.Unmapped at)) new = (store_refusal old map moffset (length bytes) ≡ Some (refusals.Unmapped at)) × (new ≡ old)
Stores old map moffset bytes (Err (refusals.ReadOnly at)) new = (store_refusal old map moffset (length bytes) ≡ Some (refusals.ReadOnly at)) × (new ≡ old)
Stores old map moffset bytes (Err (refusals.PastEnd at)) new = (store_refusal old map moffset (length bytes) ≡ Some (refusals.PastEnd at)) × (new ≡ old)
Stores old map moffset bytes (Err refusals.Memory) new = (store_refusal old map moffset (length bytes) ≡ None) × IsPartlyStored old map moffset bytes new
