-- Lists of a function's values, and the first that is true.
use Rattle.std.proofs.Common.{◌≡◌, ◌≢◌, ◌∙◌, ap, sym, subst, refl, ℕ, zero, suc, ◌+◌, ◌<◌, arith, Bool, true, false, List, [], ◌∷◌, length, set, get_or, Some, None, if◌then◌else◌, length-set}
use Rattle.std.proofs.Common.{inl, inr}
use Rattle.std.specs.Prelude.{◌⊎◌}
use Rattle.std.proofs.lemmas.List.{get_or-set_same, get_or-set_other}
use Rattle.std.proofs.lemmas.Option.{none-some, same_Some}
use mathlib.Core.Logic.{dite}
use native.Mathlib.Decide.{ℕ_discrete}
use Rattle.window_core.specs.Shown.{listed}
use Rattle.range_share.specs.Boards.{first_true}

-- ---- the values of a function

module _ {A : Type 0} where
  pub listed_same : (F G : ℕ → A) (n : ℕ) → ((i : ℕ) → G i ≡ F i) → listed G n ≡ listed F n
  listed_same F G zero same = refl
  listed_same F G (suc n) same = let rest = listed_same (λ i. F (suc i)) (λ i. G (suc i)) n (λ i. same (suc i)) in λ i. same 0 i ∷ rest i

  -- where the values differ at one place, that one is another
  pub listed_set : (F G : ℕ → A) (n f : ℕ) → ((i : ℕ) → i ≢ f → G i ≡ F i) → listed G n ≡ set (listed F n) f (G f)
  listed_set F G zero f same = refl
  listed_set F G (suc n) zero same = ap (λ l. G 0 ∷ l) (listed_same (λ i. F (suc i)) (λ i. G (suc i)) n (λ i. same (suc i) (λ e. absurd (omega (arith, e)))))
  listed_set F G (suc n) (suc f) same =
      let rest = listed_set (λ i. F (suc i)) (λ i. G (suc i)) n f (λ i ne. same (suc i) (λ e. ne (omega (arith, e)))) in
      let here = same 0 (λ e. absurd (omega (arith, e))) in
      λ i. here i ∷ rest i

-- ---- the first that is true

pub first_none : (n : ℕ) (bs : List Bool) → ((i : ℕ) → get_or bs i false ≡ false) → first_true n bs ≡ None
first_none n [] off = refl
first_none n (b ∷ bs) off = ap (λ c. if c then Some n else first_true (n + 1) bs) (off 0) ∙ first_none (n + 1) bs (λ i. off (suc i))

-- the only one that is true is the first
pub first_only : (n f : ℕ) (bs : List Bool) → f < length bs → get_or bs f false ≡ true → ((i : ℕ) → i ≢ f → get_or bs i false ≡ false) → first_true n bs ≡ Some (n + f)
first_only n f [] near on off = absurd (omega arith)
first_only n zero (b ∷ bs) near on off = ap (λ c. if c then Some n else first_true (n + 1) bs) on ∙ ap (λ m. Some m) (omega arith)
first_only n (suc f) (b ∷ bs) near on off =
    ap (λ c. if c then Some n else first_true (n + 1) bs) (off 0 (λ e. absurd (omega (arith, e))))
    ∙ (first_only (n + 1) f bs (omega arith) on (λ i ne. off (suc i) (λ e. ne (omega (arith, e)))) ∙ ap (λ m. Some m) (omega arith))

-- what the first is: there is none, or it stands within
pub first_is : (n : ℕ) (bs : List Bool) → (((i : ℕ) → get_or bs i false ≡ false) × (first_true n bs ≡ None)) ⊎ ((f : ℕ) × (f < length bs) × (get_or bs f false ≡ true) × (first_true n bs ≡ Some (n + f)))
first_is n [] = inl (λ i. refl, refl)
first_is n (true ∷ bs) = inr (0, omega arith, refl, ap (λ m. Some m) (omega arith))
first_is n (false ∷ bs) = elim (first_is (n + 1) bs) [
  | inl (off, e) ↦ inl (λ i. elim i as (λ (k : ℕ). get_or (false ∷ bs) k false ≡ false) [ zero ↦ refl | suc j ↦ off j ], e)
  | inr (f, near, on, e) ↦ inr (suc f, omega arith, on, e ∙ ap (λ m. Some m) (omega arith))
]

pub none_true : (bs : List Bool) → first_true 0 bs ≡ None → (i : ℕ) → get_or bs i false ≡ false
none_true bs e = elim (first_is 0 bs) [
  | inl (off, _) ↦ off
  | inr (f, near, on, is) ↦ absurd (none-some (0 + f) (sym e ∙ is))
]

pub first_within : (bs : List Bool) (f : ℕ) → first_true 0 bs ≡ Some f → (f < length bs) × (get_or bs f false ≡ true)
first_within bs f e = elim (first_is 0 bs) [
  | inl (off, is) ↦ absurd (none-some f (sym is ∙ e))
  | inr (k, near, on, is) ↦ let same : k ≡ f = omega (arith, same_Some (0 + k) f (sym is ∙ e)) in subst (λ n. (n < length bs) × (get_or bs n false ≡ true)) same (near, on)
]

-- one place is made true, or false, where no other is true
module _ (bs : List Bool) (f : ℕ) (near : f < length bs) (off : (i : ℕ) → i ≢ f → get_or bs i false ≡ false) where
  else_off : (b : Bool) (i : ℕ) → i ≢ f → get_or (set bs f b) i false ≡ false
  else_off b i ne = get_or-set_other bs f i b false ne ∙ off i ne

  pub set_first : first_true 0 (set bs f true) ≡ Some f
  set_first = let far : f < length (set bs f true) = subst (λ n. f < n) (sym (length-set bs f true)) near in
      first_only 0 f (set bs f true) far (get_or-set_same bs f true false near) (else_off true) ∙ ap (λ m. Some m) (omega arith)

  pub set_none : first_true 0 (set bs f false) ≡ None
  set_none = first_none 0 (set bs f false) (λ i. dite (ℕ_discrete i f) (λ z. subst (λ n. get_or (set bs f false) n false ≡ false) (sym z) (get_or-set_same bs f false false near)) (λ ne. else_off false i ne))
