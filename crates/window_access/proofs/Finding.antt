-- The first number of a range that passes a test.
use Rattle.std.proofs.Common.{◌≡◌, ◌∙◌, ap, sym, subst, refl, ℕ, zero, suc, ◌+◌, ◌-◌, ◌<◌, ◌≤◌, Bool, true, false, cond, List, ◌∷◌, ◌++◌, Option, Some, None, arith}
use Rattle.std.proofs.lemmas.List.Folds.{find-append}
use Rattle.std.specs.List.{range_with_len, find}
use Rattle.std.specs.Option.{option_or}

at_step : (p : ℕ → Bool) (b : Bool) (a k : ℕ) → p (a + suc k) ≡ b → p (a + 1 + k) ≡ b
at_step p b a k h =
    let e : a + suc k ≡ a + 1 + k = omega arith in
    subst (λ (i : ℕ). p i ≡ b) e h

at_first : (p : ℕ → Bool) (b : Bool) (a : ℕ) → p (a + 0) ≡ b → p a ≡ b
at_first p b a h =
    let e : a + 0 ≡ a = omega arith in
    subst (λ (i : ℕ). p i ≡ b) e h

-- no number passes
pub find_none : (p : ℕ → Bool) (a n : ℕ) → ((k : ℕ) → k < n → p (a + k) ≡ false) → find p (range_with_len a n) ≡ None
find_none p a zero h = refl
find_none p a (suc n) h =
    let here : p a ≡ false = at_first p false a (h 0 (omega arith)) in
    rw here (find_none p (a + 1) n (λ k less. at_step p false a k (h (suc k) (omega arith))))

-- the first that passes
pub find_first : (p : ℕ → Bool) (a n j : ℕ) → j < n → ((k : ℕ) → k < j → p (a + k) ≡ false) → p (a + j) ≡ true → find p (range_with_len a n) ≡ Some (a + j)
find_first p a zero j less before here = absurd (omega arith)
find_first p a (suc n) zero less before here =
    let first : p a ≡ true = at_first p true a here in
    let e : a + 0 ≡ a = omega arith in
    rw first (ap (λ (i : ℕ). Some i) (sym e))
find_first p a (suc n) (suc j) less before here =
    let first : p a ≡ false = at_first p false a (before 0 (omega arith)) in
    let e : a + 1 + j ≡ a + suc j = omega arith in
    rw first (find_first p (a + 1) n j (omega arith) (λ k below. at_step p false a k (before (suc k) (omega arith))) (at_step p true a j here) ∙ ap (λ (i : ℕ). Some i) e)

none_first : (p : ℕ → Bool) (a n : ℕ) (b : Bool) → p a ≡ b → cond b (Some a) (find p (range_with_len (a + 1) n)) ≡ None → (p a ≡ false) × (find p (range_with_len (a + 1) n) ≡ None)
none_first p a n true e h = absurd cc
none_first p a n false e h = (e, h)

-- where none is found, none passes
pub none_each : (p : ℕ → Bool) (a n : ℕ) → find p (range_with_len a n) ≡ None → (k : ℕ) → k < n → p (a + k) ≡ false
none_each p a zero h k less = absurd (omega arith)
none_each p a (suc n) h zero less =
    let i : a ≡ a + 0 = omega arith in
    subst (λ (j : ℕ). p j ≡ false) i (none_first p a n (p a) refl h).0
none_each p a (suc n) h (suc k) less =
    let i : a + 1 + k ≡ a + suc k = omega arith in
    subst (λ (j : ℕ). p j ≡ false) i (none_each p (a + 1) n (none_first p a n (p a) refl h).1 k (omega arith))

pub range-append : (a n m : ℕ) → range_with_len a (n + m) ≡ range_with_len a n ++ range_with_len (a + n) m
range-append a zero m =
    let e : 0 + m ≡ m = omega arith in
    let f : a ≡ a + 0 = omega arith in
    ap (range_with_len a) e ∙ ap (λ (i : ℕ). range_with_len i m) f
range-append a (suc n) m =
    let e : suc n + m ≡ suc (n + m) = omega arith in
    let f : a + 1 + n ≡ a + suc n = omega arith in
    ap (range_with_len a) e ∙ ap (λ (xs : List ℕ). a ∷ xs) (range-append (a + 1) n m ∙ ap (λ (i : ℕ). range_with_len (a + 1) n ++ range_with_len i m) f)

-- of two ranges that follow each other
pub find_split : (p : ℕ → Bool) (a n m : ℕ) → find p (range_with_len a (n + m)) ≡ option_or (find p (range_with_len a n)) (find p (range_with_len (a + n) m))
find_split p a n m = ap (find p) (range-append a n m) ∙ find-append p (range_with_len a n) (range_with_len (a + n) m)

-- a part of a range in which none is found, and then the rest
pub find_later : (p : ℕ → Bool) (a n m : ℕ) → n ≤ m → find p (range_with_len a n) ≡ None → find p (range_with_len a m) ≡ find p (range_with_len (a + n) (m - n))
find_later p a n m le none =
    let e : m ≡ n + (m - n) = omega (arith, le) in
    ap (λ (i : ℕ). find p (range_with_len a i)) e ∙ find_split p a n (m - n) ∙ ap (λ (o : Option ℕ). option_or o (find p (range_with_len (a + n) (m - n)))) none

-- what is found in a part of it
pub find_sooner : (p : ℕ → Bool) (a n m x : ℕ) → n ≤ m → find p (range_with_len a n) ≡ Some x → find p (range_with_len a m) ≡ Some x
find_sooner p a n m x le found =
    let e : m ≡ n + (m - n) = omega (arith, le) in
    ap (λ (i : ℕ). find p (range_with_len a i)) e ∙ find_split p a n (m - n) ∙ ap (λ (o : Option ℕ). option_or o (find p (range_with_len (a + n) (m - n)))) found
