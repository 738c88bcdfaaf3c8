-- Lists read at a place.
use Rattle.std.proofs.Common.{◌≡◌, ◌≢◌, ◌⊎◌, ℕ, zero, suc, ◌<◌, ◌≤◌, List, [], ◌∷◌, ◌++◌, length, set, get_or, slice_get, Some, refl, sym, ap, ◌∙◌, ⊎_elim, inl, inr, arith, get_or-set_same, get_or-set_other}
use mathlib.Core.Logic.{dite}
use native.Mathlib.Decide.{ℕ_discrete}

module _ {A : Type 0} where
  pub beyond : (l : List A) (i : ℕ) (d : A) → length l ≤ i → get_or l i d ≡ d
  beyond [] i d h = refl
  beyond (x ∷ xs) zero d h = absurd (omega arith)
  beyond (x ∷ xs) (suc i) d h = beyond xs i d (omega arith)

  -- a place that has another value than the default is within
  pub within : (l : List A) (i : ℕ) (d : A) → get_or l i d ≢ d → i < length l
  within [] i d ne = absurd (ne refl)
  within (x ∷ xs) zero d ne = omega arith
  within (x ∷ xs) (suc i) d ne = let h = within xs i d ne in omega arith

  -- what is read where there is something
  pub at_default : (l : List A) (i : ℕ) (x d : A) → i < length l → x ≡ get_or l i x → get_or l i d ≡ x
  at_default [] i x d h is = absurd (omega arith)
  at_default (y ∷ l) zero x d h is = sym is
  at_default (y ∷ l) (suc i) x d h is = at_default l i x d (omega arith) is

  -- what is read after a write
  pub at_put : (l : List A) (i j : ℕ) (a d : A) → i < length l → ((j ≡ i) × (get_or (set l i a) j d ≡ a)) ⊎ ((j ≢ i) × (get_or (set l i a) j d ≡ get_or l j d))
  at_put l i j a d h = dite (ℕ_discrete j i) (λ e. inl (e, (ap (λ n. get_or (set l i a) n d) e ∙ get_or-set_same l i a d h))) (λ ne. inr (ne, get_or-set_other l i j a d ne))

  -- an element of a list with one more at its end
  pub at_end : (l : List A) (a b : A) (j : ℕ) → slice_get (l ++ a ∷ []) j ≡ Some b → (slice_get l j ≡ Some b) ⊎ ((j ≡ length l) × (a ≡ b))
  at_end [] a b zero e = let s : a ≡ b = cc in inr (refl, s)
  at_end [] a b (suc j) e = absurd (cc)
  at_end (x ∷ xs) a b zero e = inl e
  at_end (x ∷ xs) a b (suc j) e = ⊎_elim (λ h. inl h) (λ h. inr (ap suc h.0, h.1)) (at_end xs a b j e)

  pub at_last : (l : List A) (a : A) → slice_get (l ++ a ∷ []) (length l) ≡ Some a
  at_last [] a = refl
  at_last (x ∷ xs) a = at_last xs a

  pub at_longer : (l m : List A) (k : ℕ) (a : A) → slice_get l k ≡ Some a → slice_get (l ++ m) k ≡ Some a
  at_longer [] m k a e = absurd (cc)
  at_longer (x ∷ xs) m zero a e = e
  at_longer (x ∷ xs) m (suc k) a e = at_longer xs m k a e

  pub in_range : (l : List A) (k : ℕ) (a : A) → slice_get l k ≡ Some a → k < length l
  in_range [] k a at = absurd (cc)
  in_range (x ∷ xs) zero a at = omega arith
  in_range (x ∷ xs) (suc k) a at = let h = in_range xs k a at in omega arith
