-- Files read at their numbers.
use Rattle.std.proofs.Common.{◌≡◌, ◌≢◌, ◌⊎◌, ℕ, zero, suc, ◌<◌, ◌≤◌, List, [], ◌∷◌, ◌++◌, length, set, get_or, slice_get, Bool, true, false, Some, None, refl, sym, ap, ◌∙◌, subst, ⊎_elim, inl, inr, arith, get_or-set_same, get_or-set_other}
use Rattle.std.specs.Prelude.{Result, Ok, Err, MatchResult}
use lib.Seq.{set-get_or}
use mathlib.Core.Logic.{dite}
use native.Mathlib.Decide.{ℕ_discrete, dec_le}
use Rattle.files_core.specs.Files.{FileState, no_file, file, Turnless, Barless, Deed, May, Freely, Allowed, on, DidHere, DidOne}

module _ {A : Type 0} where
  pub beyond : (l : List A) (i : ℕ) (d : A) → length l ≤ i → get_or l i d ≡ d
  beyond [] i d h = refl
  beyond (x ∷ xs) zero d h = absurd (omega arith)
  beyond (x ∷ xs) (suc i) d h = beyond xs i d (omega arith)

  -- a place that has another value than the default is within
  pub within : (l : List A) (i : ℕ) (d : A) → get_or l i d ≢ d → i < length l
  within [] i d ne = absurd (ne refl)
  within (x ∷ xs) zero d ne = omega arith
  within (x ∷ xs) (suc i) d ne = let h = within xs i d ne in omega arith

  -- what is read after a write
  pub at_put : (l : List A) (i j : ℕ) (a d : A) → i < length l → ((j ≡ i) × (get_or (set l i a) j d ≡ a)) ⊎ ((j ≢ i) × (get_or (set l i a) j d ≡ get_or l j d))
  at_put l i j a d h = dite (ℕ_discrete j i) (λ e. inl (e, (ap (λ n. get_or (set l i a) n d) e ∙ get_or-set_same l i a d h))) (λ ne. inr (ne, get_or-set_other l i j a d ne))

  -- an element of a list with one more at its end
  pub at_end : (l : List A) (a b : A) (j : ℕ) → slice_get (l ++ a ∷ []) j ≡ Some b → (slice_get l j ≡ Some b) ⊎ ((j ≡ length l) × (a ≡ b))
  at_end [] a b zero e = let s : a ≡ b = cc in inr (refl, s)
  at_end [] a b (suc j) e = absurd (cc)
  at_end (x ∷ xs) a b zero e = inl e
  at_end (x ∷ xs) a b (suc j) e = ⊎_elim (λ h. inl h) (λ h. inr (ap suc h.0, h.1)) (at_end xs a b j e)

  pub in_range : (l : List A) (k : ℕ) (a : A) → slice_get l k ≡ Some a → k < length l
  in_range [] k a at = absurd (cc)
  in_range (x ∷ xs) zero a at = omega arith
  in_range (x ∷ xs) (suc k) a at = let h = in_range xs k a at in omega arith

none_is : (g : ℕ) → None ≡ Some g → ⊥
none_is g e = cc

pub no_turn : (cs : List FileState) (g n : ℕ) → length cs ≤ n → ((f : ℕ) → f < n → (file cs f).turn ≢ Some g) → Turnless cs g
no_turn cs g n all each f e = dite (dec_le (length cs) f)
    (λ far. none_is g (sym (ap (λ (c : FileState). c.turn) (beyond cs f no_file far)) ∙ e))
    (λ near. each f (omega arith) e)

pub no_bar : (cs : List FileState) (g n : ℕ) → length cs ≤ n → ((f : ℕ) → f < n → (file cs f).bar ≢ Some g) → Barless cs g
no_bar cs g n all each f e = dite (dec_le (length cs) f)
    (λ far. none_is g (sym (ap (λ (c : FileState). c.bar) (beyond cs f no_file far)) ∙ e))
    (λ near. each f (omega arith) e)

-- the file at a place where it is
pub file_in : (cs : List FileState) (f : ℕ) (c : FileState) → f < length cs → c ≡ get_or cs f c → file cs f ≡ c
file_in [] f c near is = absurd (omega arith)
file_in (x ∷ xs) zero c near is = sym is
file_in (x ∷ xs) (suc f) c near is = file_in xs f c (omega arith) is

pub turn_inside : (cs : List FileState) (f g : ℕ) → (file cs f).turn ≡ Some g → f < length cs
turn_inside cs f g is = within cs f no_file (λ e. none_is g (sym (ap (λ (c : FileState). c.turn) e) ∙ is))

-- what a call on one file says of the files
module _ (cs : List FileState) (g f : ℕ) (d : Deed) (near : f < length cs) (only : (f' : ℕ) → Allowed cs g (on f' d) → f' ≡ f) (freely : Freely cs g d) where
  did_one : (b : Bool) (c' : FileState) → DidHere b (file cs f) g d c' → DidOne b cs g d (set cs f c')
  did_one true c' did = (f, record { known = near; may = did.0; freely = freely }, ap (set cs f) did.1)
  did_one false c' did = ((λ f' a. did.0 (subst (λ (n : ℕ). May (file cs n) g d) (only f' a) a.may)), ap (set cs f) did.1 ∙ set-get_or cs f no_file)

  pub did_result : {E : Type 0} (r : Result Bool E) (c c' : FileState) → c ≡ get_or cs f c → MatchResult r (λ b. DidHere b c g d c') (λ _. c' ≡ c) → MatchResult r (λ b. DidOne b cs g d (set cs f c')) (λ _. set cs f c' ≡ cs)
  did_result (Ok b) c c' is did = did_one b c' (subst (λ (x : FileState). DidHere b x g d c') (sym (file_in cs f c near is)) did)
  did_result (Err e) c c' is same = ap (set cs f) (same ∙ sym (file_in cs f c near is)) ∙ set-get_or cs f no_file
