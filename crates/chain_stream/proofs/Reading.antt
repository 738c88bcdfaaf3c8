-- What a read behind some bytes leaves.
use Rattle.std.proofs.Common.{◌≡◌, ◌∙◌, ap, refl, subst, ℕ, zero, suc, ◌+◌, ◌≤◌, List, [], ◌∷◌, ◌++◌, length, take, arith, append_assoc}
use Rattle.std.proofs.lemmas.List.{length-take, take-append-le}
use Rattle.std.proofs.Math.Seq.{take-append-add}
use Rattle.std.proofs.lemmas.Grind.{common_steps}

-- a front of a front
pub take_front : {X : Type 0} (n m : ℕ) (xs : List X) → n ≤ m → take n (take m xs) ≡ take n xs
take_front zero m xs le = refl
take_front (suc n) zero xs le = absurd (omega (arith, le))
take_front (suc n) (suc m) [] le = refl
take_front (suc n) (suc m) (x ∷ xs) le = ap (λ l. x ∷ l) (take_front n m xs (omega (arith, le)))

-- the front of what was read stands behind the bytes that were there
pub read_behind : (base old buf post more : List ℕ) (n all : ℕ) → take (length base) old ≡ base → length base + n ≤ all → n ≤ length buf
    → take (length base + n) (take all (take (length base) old ++ (buf ++ post) ++ more)) ≡ base ++ take n buf
read_behind base old buf post more n all e le small =
    take_front (length base + n) all (take (length base) old ++ (buf ++ post) ++ more) le
    ∙ ap (λ (front : List ℕ). take (length base + n) (front ++ (buf ++ post) ++ more)) e
    ∙ ap (take (length base + n)) (append_assoc base (buf ++ post) more)
    ∙ take-append-add base ((buf ++ post) ++ more) n
    ∙ ap (λ (xs : List ℕ). base ++ xs) (take-append-le n (buf ++ post) more (grind (arith, common_steps, small)) ∙ take-append-le n buf post small)

-- the same, behind so many bytes of a buffer
pub read_at : (end n all : ℕ) (base old buf post more : List ℕ) → length base ≡ end → take end old ≡ base → end + n ≤ all → n ≤ length buf
    → take (end + length (take n buf)) (take all (take end old ++ (buf ++ post) ++ more)) ≡ base ++ take n buf
read_at end n all base old buf post more size e le small =
    let sized : length (take n buf) ≡ n = omega (arith, length-take n buf, small) in
    ap (λ k. take (end + k) (take all (take end old ++ (buf ++ post) ++ more))) sized
    ∙ subst (λ m. take m old ≡ base → m + n ≤ all → take (m + n) (take all (take m old ++ (buf ++ post) ++ more)) ≡ base ++ take n buf) size (λ front within. read_behind base old buf post more n all front within small) e le

-- a front that has all its bytes is no longer than the whole
pub front_fits : (m : ℕ) (whole front : List ℕ) → take m whole ≡ front → length front ≡ m → m ≤ length whole
front_fits m whole front e size = omega (arith, ap length e, length-take m whole, size)
