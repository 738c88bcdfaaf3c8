-- Pins on a range, after one more and one less, and all of them by ranges.
use Rattle.std.proofs.Common.{◌≡◌, ◌≢◌, ◌∙◌, ap, sym, refl, ℕ, zero, suc, ◌+◌, ◌-◌, ◌<◌, ◌≤◌, arith, Bool, true, false, cond, List, [], ◌∷◌, ◌++◌, length, slice_get, Some, if◌then◌else◌, eq-eqb, ne_eqb}
use Rattle.std.specs.Prelude.{sum}
use Rattle.std.proofs.lemmas.Bool.{eqb-true}
use Rattle.std.proofs.lemmas.List.Sums.{sum_by-cons}
use Rattle.window_core.specs.declared.states.Pin.{Pin}
use Rattle.window_core.specs.Window.{on_range, pins_on, unpinned}
use Rattle.window_core.specs.Shown.{listed}
use Rattle.window_core.proofs.Deeds.{one_on}

-- whether a pin is on a range, as a number
abbrev pub one : Bool → ℕ
one b = cond b 1 0

pub more_on : (i : ℕ) (ps : List Pin) (x : Pin) → pins_on i (ps ++ x ∷ []) ≡ pins_on i ps + one (on_range i x)
more_on i [] x = one_on i x []
more_on i (y ∷ ps) x = let a = one_on i y (ps ++ x ∷ []) in let b = more_on i ps x in let c = one_on i y ps in omega (arith, a, b, c)

pub on_it : (i : ℕ) (x : Pin) → x.range ≡ i → one (on_range i x) ≡ 1
on_it i x e = ap one (eq-eqb x.range i e)

pub off_it : (i : ℕ) (x : Pin) → x.range ≢ i → one (on_range i x) ≡ 0
off_it i x ne = ap one (ne_eqb x.range i ne)

-- ---- one less

pub fewer_same : (r : ℕ) (ps : List Pin) → pins_on r (unpinned r ps) ≡ pins_on r ps - 1
fewer_same r [] = refl
fewer_same r (x ∷ ps) = go (on_range r x) refl (fewer_same r ps)
  where
    go : (b : Bool) → on_range r x ≡ b → pins_on r (unpinned r ps) ≡ pins_on r ps - 1 → pins_on r (if b then ps else (x ∷ unpinned r ps)) ≡ pins_on r (x ∷ ps) - 1
    go true at rest = let a = one_on r x ps in let c : one (on_range r x) ≡ 1 = ap one at in omega (arith, a, c)
    go false at rest = let a = one_on r x ps in let d = one_on r x (unpinned r ps) in let c : one (on_range r x) ≡ 0 = ap one at in omega (arith, a, c, d, rest)

pub fewer_else : (r i : ℕ) (ps : List Pin) → i ≢ r → pins_on i (unpinned r ps) ≡ pins_on i ps
fewer_else r i [] ne = refl
fewer_else r i (x ∷ ps) ne = go (on_range r x) refl (fewer_else r i ps ne)
  where
    go : (b : Bool) → on_range r x ≡ b → pins_on i (unpinned r ps) ≡ pins_on i ps → pins_on i (if b then ps else (x ∷ unpinned r ps)) ≡ pins_on i (x ∷ ps)
    go true at rest =
        let a = one_on i x ps in
        let is : x.range ≡ r = eqb-true x.range r at in
        let c = off_it i x (λ e. ne (sym e ∙ is)) in
        omega (arith, a, c)
    go false at rest = let a = one_on i x ps in let d = one_on i x (unpinned r ps) in omega (arith, a, d, rest)

pub in_fewer : (r : ℕ) (ps : List Pin) (k : ℕ) (y : Pin) → slice_get (unpinned r ps) k ≡ Some y → (j : ℕ) × (slice_get ps j ≡ Some y)
in_fewer r [] k y e = (k, e)
in_fewer r (x ∷ ps) k y e = go (on_range r x) k (in_fewer r ps) e
  where
    go : (b : Bool) (k : ℕ) → ((k : ℕ) (y : Pin) → slice_get (unpinned r ps) k ≡ Some y → (j : ℕ) × (slice_get ps j ≡ Some y)) → slice_get (if b then ps else (x ∷ unpinned r ps)) k ≡ Some y → (j : ℕ) × (slice_get (x ∷ ps) j ≡ Some y)
    go true k rest e = (suc k, e)
    go false zero rest e = (0, e)
    go false (suc k) rest e = let h = rest k y e in (suc h.0, h.1)

-- ---- a pin that there is

pub record PinOn (r : ℕ) (ps : List Pin) : Type 0 where
  pub at : ℕ
  pub the_pin : Pin
  pub had : slice_get ps at ≡ Some the_pin
  pub range : the_pin.range ≡ r

pub some_pin : (r : ℕ) (ps : List Pin) → 0 < pins_on r ps → PinOn r ps
some_pin r [] some = absurd (omega (arith, some))
some_pin r (x ∷ ps) some = go (on_range r x) refl (some_pin r ps)
  where
    go : (b : Bool) → on_range r x ≡ b → (0 < pins_on r ps → PinOn r ps) → PinOn r (x ∷ ps)
    go true at rest = record { at = 0; the_pin = x; had = refl; range = eqb-true x.range r at }
    go false at rest =
        let a = one_on r x ps in
        let c : one (on_range r x) ≡ 0 = ap one at in
        let h = rest (omega (arith, a, c, some)) in
        record { at = suc h.at; the_pin = h.the_pin; had = h.had; range = h.range }

pub no_pin : (r : ℕ) (ps : List Pin) → ((k : ℕ) (x : Pin) → slice_get ps k ≡ Some x → x.range ≢ r) → pins_on r ps ≡ 0
no_pin r [] off = refl
no_pin r (x ∷ ps) off = let a = one_on r x ps in let c = off_it r x (off 0 x refl) in let h = no_pin r ps (λ k y at. off (suc k) y at) in omega (arith, a, c, h)

-- ---- all pins by ranges

sum_more : (F G : ℕ → ℕ) (n r : ℕ) → r < n → ((i : ℕ) → i ≢ r → G i ≡ F i) → G r ≡ F r + 1 → sum (listed G n) ≡ sum (listed F n) + 1
sum_more F G zero r near same here = absurd (omega (arith, near))
sum_more F G (suc n) zero near same here =
    let rest : listed (λ i. G (suc i)) n ≡ listed (λ i. F (suc i)) n = listed_equal (λ i. F (suc i)) (λ i. G (suc i)) n (λ i. same (suc i) (λ e. absurd (omega (arith, e)))) in
    let a = sum_by-cons (λ (k : ℕ). k) (G 0) (listed (λ i. G (suc i)) n) in
    let b = sum_by-cons (λ (k : ℕ). k) (F 0) (listed (λ i. F (suc i)) n) in
    let c = ap sum rest in
    omega (arith, a, b, c, here)
  where
    listed_equal : (F G : ℕ → ℕ) (n : ℕ) → ((i : ℕ) → G i ≡ F i) → listed G n ≡ listed F n
    listed_equal F G zero same = refl
    listed_equal F G (suc n) same = let rest = listed_equal (λ i. F (suc i)) (λ i. G (suc i)) n (λ i. same (suc i)) in λ j. same 0 j ∷ rest j
sum_more F G (suc n) (suc r) near same here =
    let rest = sum_more (λ i. F (suc i)) (λ i. G (suc i)) n r (omega (arith, near)) (λ i ne. same (suc i) (λ e. ne (omega (arith, e)))) here in
    let a = sum_by-cons (λ (k : ℕ). k) (G 0) (listed (λ i. G (suc i)) n) in
    let b = sum_by-cons (λ (k : ℕ). k) (F 0) (listed (λ i. F (suc i)) n) in
    let c = same 0 (λ e. absurd (omega (arith, e))) in
    omega (arith, a, b, c, rest)

pub pins_total : (n : ℕ) (ps : List Pin) → ((k : ℕ) (x : Pin) → slice_get ps k ≡ Some x → x.range < n) → length ps ≤ sum (listed (λ r. pins_on r ps) n)
pins_total n [] near = omega arith
pins_total n (x ∷ ps) near =
    let rest = pins_total n ps (λ k y at. near (suc k) y at) in
    let more = sum_more (λ r. pins_on r ps) (λ r. pins_on r (x ∷ ps)) n x.range (near 0 x refl)
    (λ i ne. let a = one_on i x ps in let c = off_it i x (λ e. ne (sym e)) in omega (arith, a, c))
    (let a = one_on x.range x ps in let c = on_it x.range x refl in omega (arith, a, c)) in
    omega (arith, rest, more)
