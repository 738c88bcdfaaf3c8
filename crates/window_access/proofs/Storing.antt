-- The board after the pieces of a store.
use Rattle.std.proofs.Common.{◌≡◌, ◌≢◌, ◌∙◌, ap, sym, subst, refl, ℕ, zero, suc, ◌+◌, ◌-◌, ◌*◌, ◌/◌, ◌<◌, ◌≤◌, max, List, [], ◌∷◌, ◌++◌, length, length-set, map, take, None, Result, Ok, Err, OnErr, arith}
use Rattle.std.proofs.Math.Seq.{take-length}
use Rattle.std.proofs.lemmas.List.FromFn.{length-map-range_with_len, map-range_with_len_more, take-map-range_with_len}
use Rattle.page_map.specs.Board.{MapView, mapped_byte}
use Rattle.plain_file.specs.Board.{Applies, BoardView, applied, file_at, with_own, entry_of}
use Rattle.plain_file.specs.declared.operations.Applied.{Applied}
use Rattle.plain_file.specs.declared.operations.Op.{Op}
use Rattle.plain_file.specs.declared.refusals.BoardRefusal.{BoardRefusal}
use Rattle.plain_file.specs.declared.refusals.BoardRefusal.TheVariants as refusals
use Rattle.window_access.specs.Access.{CanAccess, IsMapped, IsPartlyStored, Piece, all_applied, pieces, piece_at, piece_bytes, piece_start, stored, touched}

pub all_applied-append : (v : BoardView) (ps : List Piece) (p : Piece) → all_applied v (ps ++ p ∷ []) ≡ applied (all_applied v ps) p.file p.op
unfolding all_applied
all_applied-append v [] p = refl
all_applied-append v (q ∷ ps) p = all_applied-append (applied v q.file q.op) ps p

pub nothing_applied : (v : BoardView) → v ≡ all_applied v []
unfolding all_applied
nothing_applied v = refl

-- ---- what stays

-- after an operation a plain board can still be accessed
pub can_applied : (v : BoardView) (map : MapView) (file : ℕ) (op : Op) → CanAccess v map → CanAccess (applied v file op) map
can_applied v map file op can = record {
  plain = can.plain;
  names = λ page p at.
      let many : length v.files ≡ length (applied v file op).files = sym (length-set v.files file (with_own v.plain (entry_of v op) (file_at v file))) in
      subst (λ (n : ℕ). (2 ≤ p.node) × (p.node - 2 < n)) many (can.names page p at);
}

pub can_after : (v : BoardView) (map : MapView) (file : ℕ) (op : Op) (r : Result Applied BoardRefusal) (new : BoardView) → CanAccess v map → Applies v file op r new → CanAccess new map
can_after v map file op (Ok a) new can h = rw h.2 (can_applied v map file op can)
can_after v map file op (Err (refusals.Unbarred size)) new can h = rw h.2 can
can_after v map file op (Err refusals.Memory) new can h = rw h can

-- ---- piece by piece

-- the piece in a page
abbrev pub piece_in : MapView → ℕ → List ℕ → ℕ → Piece
piece_in m moffset bytes page = piece_at m (piece_start moffset page) (piece_bytes moffset bytes page)

pub length-pieces : (m : MapView) (moffset : ℕ) (bytes : List ℕ) → length (pieces m moffset bytes) ≡ touched moffset (length bytes)
unfolding pieces
length-pieces m moffset bytes = length-map-range_with_len (piece_in m moffset bytes) (moffset / 4096) (touched moffset (length bytes))

take_more : (m : MapView) (moffset : ℕ) (bytes : List ℕ) (k : ℕ) → k < touched moffset (length bytes) →
    take (k + 1) (pieces m moffset bytes) ≡ take k (pieces m moffset bytes) ++ piece_in m moffset bytes (moffset / 4096 + k) ∷ []
unfolding pieces
take_more m moffset bytes k less =
    take-map-range_with_len (piece_in m moffset bytes) (moffset / 4096) (touched moffset (length bytes)) (k + 1) (omega (arith, less))
    ∙ map-range_with_len_more (piece_in m moffset bytes) (moffset / 4096) k (moffset / 4096 + k) refl
    ∙ ap (λ (ps : List Piece). ps ++ piece_in m moffset bytes (moffset / 4096 + k) ∷ []) (sym (take-map-range_with_len (piece_in m moffset bytes) (moffset / 4096) (touched moffset (length bytes)) k (omega (arith, less))))

-- one more piece
pub store_more : (v w new : BoardView) (m : MapView) (moffset : ℕ) (bytes : List ℕ) (k page : ℕ) → page ≡ moffset / 4096 + k → k < touched moffset (length bytes) → w ≡ all_applied v (take k (pieces m moffset bytes)) →
    new ≡ applied w (piece_in m moffset bytes page).file (piece_in m moffset bytes page).op → new ≡ all_applied v (take (k + 1) (pieces m moffset bytes))
store_more v w new m moffset bytes k page at less before after =
    let p = piece_in m moffset bytes (moffset / 4096 + k) in
    after ∙ ap (λ (i : ℕ). applied w (piece_in m moffset bytes i).file (piece_in m moffset bytes i).op) at
    ∙ ap (λ (u : BoardView). applied u p.file p.op) before
    ∙ sym (all_applied-append v (take k (pieces m moffset bytes)) p)
    ∙ ap (all_applied v) (sym (take_more m moffset bytes k less))

-- all pieces
pub store_all : (v w : BoardView) (m : MapView) (moffset : ℕ) (bytes : List ℕ) (n : ℕ) → n ≡ touched moffset (length bytes) → w ≡ all_applied v (take n (pieces m moffset bytes)) → w ≡ stored v m moffset bytes
store_all v w m moffset bytes n all is =
    is ∙ ap (λ (i : ℕ). all_applied v (take i (pieces m moffset bytes))) (all ∙ sym (length-pieces m moffset bytes)) ∙ ap (all_applied v) (take-length (pieces m moffset bytes))

-- some of them
pub store_part : (v w : BoardView) (m : MapView) (moffset : ℕ) (bytes : List ℕ) (n : ℕ) → n < touched moffset (length bytes) → w ≡ all_applied v (take n (pieces m moffset bytes)) → IsPartlyStored v m moffset bytes w
store_part v w m moffset bytes n less is = (n, omega (arith, less, length-pieces m moffset bytes), is)

-- ---- pages

-- a page that is touched ends behind the first byte, and begins before the last one
pub touched_page : (moffset len k : ℕ) → k < touched moffset len → (0 < len) × (4096 * (moffset / 4096 + k) < moffset + len)
unfolding touched
touched_page moffset zero k less = absurd (omega arith)
touched_page moffset (suc n) k less = (omega arith, omega (arith, less))

-- where a piece begins is mapped
pub start_mapped : (m : MapView) (moffset len page : ℕ) → IsMapped m moffset len → 0 < len → 4096 * page < moffset + len → mapped_byte m (max moffset (4096 * page)) ≢ None
start_mapped m moffset len page h some less =
    let e : moffset + (max moffset (4096 * page) - moffset) ≡ max moffset (4096 * page) = omega arith in
    subst (λ (i : ℕ). mapped_byte m i ≢ None) e (h (max moffset (4096 * page) - moffset) (omega (arith, some, less)))

pub on_err : {T E : Type 0} (r : Result T E) (P : Type 0) → P → OnErr r P
on_err (Ok x) P p = tt
on_err (Err e) P p = p
