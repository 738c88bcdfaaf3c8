-- Entries that are numbered one after another.
use Rattle.std.proofs.Common.{◌≡◌, ◌∙◌, ap, ℕ, zero, suc, ◌+◌, ◌<◌, List, [], ◌∷◌, ◌++◌, length, take, drop, slice_index_or, slice_set, arith}
use Rattle.fuse_codec.specs.declared.replies.Dirent.{Dirent}
use Rattle.fuse_device.specs.Entries.{numbered_from}

-- the first of them are numbered
abbrev pub numbered_to : ℕ → ℕ → List Dirent → List Dirent
numbered_to first i ds = numbered_from first (take i ds) ++ drop i ds

-- one is numbered
abbrev pub set_number : List Dirent → ℕ → Dirent → ℕ → List Dirent
set_number ds i d n = slice_set ds i (record (slice_index_or ds i d) { off = n })

next : (ds : List Dirent) (first i : ℕ) (d : Dirent) → i < length ds → set_number (numbered_to first i ds) i d (first + i) ≡ numbered_to first (suc i) ds
next [] first i d h = absurd (omega (arith, h))
next (x ∷ ds) first zero d h =
    let n : first + 0 ≡ first = omega arith in
    ap (λ k. record x { off = k } ∷ ds) n
next (x ∷ ds) first (suc i) d h =
    let n : first + suc i ≡ (first + 1) + i = omega arith in
    ap (λ k. record x { off = first } ∷ set_number (numbered_to (first + 1) i ds) i d k) n
    ∙ ap (λ (l : List Dirent). record x { off = first } ∷ l) (next ds (first + 1) i d (omega (arith, h)))

pub one_more : (ds es : List Dirent) (i : ℕ) (d : Dirent) → i < length ds → es ≡ numbered_to 1 i ds → set_number es i d (1 + i) ≡ numbered_to 1 (i + 1) ds
one_more ds es i d h e =
    let n : suc i ≡ i + 1 = omega arith in
    ap (λ (l : List Dirent). set_number l i d (1 + i)) e ∙ next ds 1 i d h ∙ ap (λ k. numbered_to 1 k ds) n
