-- Counts of lookups that are set to 0 one after another.
use Rattle.std.proofs.Common.{◌≡◌, ◌∙◌, ap, refl, ℕ, zero, suc, ◌+◌, ◌<◌, List, [], ◌∷◌, ◌++◌, length, take, drop, map, slice_index_or, slice_set, arith}
use Rattle.fuse_device.specs.declared.tables.MadeFile.{MadeFile}
use Rattle.fuse_device.specs.State.{unlooked}

abbrev pub unlooked_to : ℕ → List MadeFile → List MadeFile
unlooked_to i xs = map unlooked (take i xs) ++ drop i xs

next : (xs : List MadeFile) (i : ℕ) (d : MadeFile) → i < length xs → slice_set (unlooked_to i xs) i (unlooked (slice_index_or (unlooked_to i xs) i d)) ≡ unlooked_to (suc i) xs
next [] i d h = absurd (omega (arith, h))
next (x ∷ xs) zero d h = refl
next (x ∷ xs) (suc i) d h = ap (λ (l : List MadeFile). unlooked x ∷ l) (next xs i d (omega (arith, h)))

pub one_more : (xs ys : List MadeFile) (i : ℕ) (d : MadeFile) → i < length xs → ys ≡ unlooked_to i xs → slice_set ys i (unlooked (slice_index_or ys i d)) ≡ unlooked_to (i + 1) xs
one_more xs ys i d h e =
    let n : suc i ≡ i + 1 = omega arith in
    ap (λ (l : List MadeFile). slice_set l i (unlooked (slice_index_or l i d))) e ∙ next xs i d h ∙ ap (λ k. unlooked_to k xs) n
