-- What keeps both boards accessible.
use Rattle.std.proofs.Common.{◌≡◌, refl, ◌<◌, ◌≤◌, ℕ, ◌-◌, true, List, [], ◌∷◌, length, map, take, Result, Ok, Err}
use Rattle.page_map.specs.Board.{MapView, wiped, painted, is_whole}
use Rattle.page_map.specs.Plain.{new_map}
use Rattle.page_map.specs.declared.pages.Span.{Span}
use Rattle.plain_file.specs.Board.{BoardView, applied}
use Rattle.plain_file.specs.Plain.{new_board}
use Rattle.plain_file.specs.declared.operations.First.{First}
use Rattle.plain_file.specs.declared.operations.Op.{Op}
use Rattle.page_map.proofs.Names.{NamesFiles-wiped, NamesFiles-painted, NamesFiles-new_map}
use Rattle.window_access.specs.Access.{CanAccess, Piece, Stores, all_applied, pieces}
use Rattle.window_access.specs.declared.refusals.WindowRefusal.{WindowRefusal}
use Rattle.window_access.specs.declared.refusals.WindowRefusal.TheVariants as refusals
use Rattle.window_access.proofs.Storing.{can_applied}

pub can_access_at_start : (guest pages : ℕ) (firsts : List First) → CanAccess (new_board guest firsts) (new_map pages)
can_access_at_start guest pages firsts = record {
  plain = refl;
  names = NamesFiles-new_map (length (new_board guest firsts).files) pages;
}

kept_by_all : (P : BoardView → Type 0) → ((v : BoardView) (file : ℕ) (op : Op) → P v → P (applied v file op)) → (ps : List Piece) (v : BoardView) → P v → P (all_applied v ps)
unfolding all_applied
kept_by_all P each [] v h = h
kept_by_all P each (p ∷ ps) v h = kept_by_all P each ps (applied v p.file p.op) (each v p.file p.op h)

-- what each operation on a file keeps, a store does
pub kept_by_store : (P : BoardView → Type 0) → ((v : BoardView) (file : ℕ) (op : Op) → P v → P (applied v file op))
    → (old new : BoardView) (map : MapView) (moffset : ℕ) (bytes : List ℕ) (r : Result (Unit {0}) WindowRefusal) → Stores old map moffset bytes r new → P old → P new
kept_by_store P each old new map moffset bytes (Ok u) s h = rw s.1 (kept_by_all P each (pieces map moffset bytes) old h)
kept_by_store P each old new map moffset bytes (Err (refusals.Unmapped at)) s h = rw s.1 h
kept_by_store P each old new map moffset bytes (Err (refusals.ReadOnly at)) s h = rw s.1 h
kept_by_store P each old new map moffset bytes (Err (refusals.PastEnd at)) s h = rw s.1 h
kept_by_store P each old new map moffset bytes (Err refusals.Memory) s h = rw s.1.2 (kept_by_all P each (take s.1.0 (pieces map moffset bytes)) old h)

-- a store leaves both boards accessible
pub can_access_after_store : (old new : BoardView) (map : MapView) (moffset : ℕ) (bytes : List ℕ) (r : Result (Unit {0}) WindowRefusal) → CanAccess old map → Stores old map moffset bytes r new → CanAccess new map
can_access_after_store old new map moffset bytes r can s = kept_by_store (λ v. CanAccess v map) (λ v file op. can_applied v map file op) old new map moffset bytes r s can

-- so does a set
pub can_access_after_set : (files : BoardView) (map : MapView) (s : Span) → is_whole (length map.table) s.moffset s.len ≡ true → 2 ≤ s.node → s.node - 2 < length files.files → CanAccess files map → CanAccess files (painted map s)
can_access_after_set files map s whole node known can = record { plain = can.plain; names = NamesFiles-painted (length files.files) map s whole node known can.names }

pub can_access_after_clear : (files : BoardView) (map : MapView) (moffset len : ℕ) → is_whole (length map.table) moffset len ≡ true → CanAccess files map → CanAccess files (wiped map moffset len)
can_access_after_clear files map moffset len whole can = record { plain = can.plain; names = NamesFiles-wiped (length files.files) map moffset len whole can.names }

pub can_access_from : (files : BoardView) (map : MapView) (guest pages : ℕ) (firsts : List First) → files ≡ new_board guest firsts → map ≡ new_map pages → CanAccess files map
can_access_from files map guest pages firsts e f = rw (e, f) (can_access_at_start guest pages firsts)
