-- Lists of a function's values, the first that is true, and the places of a guest's entries.
use Rattle.std.proofs.Common.{◌≡◌, ◌≢◌, ◌∙◌, ap, sym, subst, refl, ℕ, zero, suc, ◌+◌, ◌<◌, ◌≤◌, ◌==◌, arith, Bool, true, false, List, [], ◌∷◌, ◌++◌, length, set, get_or, slice_get, Some, None, if◌then◌else◌, eq-eqb, ne_eqb, length-set}
use Rattle.std.proofs.Common.{inl, inr}
use Rattle.std.specs.Prelude.{All, ◌⊎◌}
use Rattle.std.proofs.lemmas.Bool.{eqb-true}
use Rattle.std.proofs.lemmas.List.{get_or-set_same, get_or-set_other}
use Rattle.std.proofs.lemmas.List.Elements.{All-nil, All-cons, All-head, All-tail}
use Rattle.std.proofs.lemmas.Option.{none-some, same_Some}
use mathlib.Core.Logic.{dite}
use native.Mathlib.Decide.{ℕ_discrete}
use Rattle.plain_file.specs.declared.operations.Entry.{Entry}
use Rattle.plain_file.specs.Sound.{IsPlaceOf}
use Rattle.file_share.specs.Places.{places_from, places_of}
use Rattle.file_share.specs.Boards.{listed, first_true}

-- ---- the values of a function

module _ {A : Type 0} where
  pub length_listed : (F : ℕ → A) (n : ℕ) → length (listed F n) ≡ n
  length_listed F zero = refl
  length_listed F (suc n) = ap suc (length_listed (λ i. F (suc i)) n)

  pub listed_at : (F : ℕ → A) (n f : ℕ) (d : A) → f < n → get_or (listed F n) f d ≡ F f
  listed_at F zero f d near = absurd (omega arith)
  listed_at F (suc n) zero d near = refl
  listed_at F (suc n) (suc f) d near = listed_at (λ i. F (suc i)) n f d (omega arith)

  pub listed_same : (F G : ℕ → A) (n : ℕ) → ((i : ℕ) → G i ≡ F i) → listed G n ≡ listed F n
  listed_same F G zero same = refl
  listed_same F G (suc n) same = let rest = listed_same (λ i. F (suc i)) (λ i. G (suc i)) n (λ i. same (suc i)) in λ i. same 0 i ∷ rest i

  -- where the values differ at one place, that one is another
  pub listed_set : (F G : ℕ → A) (n f : ℕ) → ((i : ℕ) → i ≢ f → G i ≡ F i) → listed G n ≡ set (listed F n) f (G f)
  listed_set F G zero f same = refl
  listed_set F G (suc n) zero same = ap (λ l. G 0 ∷ l) (listed_same (λ i. F (suc i)) (λ i. G (suc i)) n (λ i. same (suc i) (λ e. absurd (omega (arith, e)))))
  listed_set F G (suc n) (suc f) same =
      let rest = listed_set (λ i. F (suc i)) (λ i. G (suc i)) n f (λ i ne. same (suc i) (λ e. ne (omega (arith, e)))) in
      let here = same 0 (λ e. absurd (omega (arith, e))) in
      λ i. here i ∷ rest i

-- ---- the first that is true

pub first_none : (n : ℕ) (bs : List Bool) → ((i : ℕ) → get_or bs i false ≡ false) → first_true n bs ≡ None
first_none n [] off = refl
first_none n (b ∷ bs) off = ap (λ c. if c then Some n else first_true (n + 1) bs) (off 0) ∙ first_none (n + 1) bs (λ i. off (suc i))

-- the only one that is true is the first
pub first_only : (n f : ℕ) (bs : List Bool) → f < length bs → get_or bs f false ≡ true → ((i : ℕ) → i ≢ f → get_or bs i false ≡ false) → first_true n bs ≡ Some (n + f)
first_only n f [] near on off = absurd (omega arith)
first_only n zero (b ∷ bs) near on off = ap (λ c. if c then Some n else first_true (n + 1) bs) on ∙ ap (λ m. Some m) (omega arith)
first_only n (suc f) (b ∷ bs) near on off =
    ap (λ c. if c then Some n else first_true (n + 1) bs) (off 0 (λ e. absurd (omega (arith, e))))
    ∙ (first_only (n + 1) f bs (omega arith) on (λ i ne. off (suc i) (λ e. ne (omega (arith, e)))) ∙ ap (λ m. Some m) (omega arith))

-- what the first is: there is none, or it stands within
pub first_is : (n : ℕ) (bs : List Bool) → (((i : ℕ) → get_or bs i false ≡ false) × (first_true n bs ≡ None)) ⊎ ((f : ℕ) × (f < length bs) × (get_or bs f false ≡ true) × (first_true n bs ≡ Some (n + f)))
first_is n [] = inl (λ i. refl, refl)
first_is n (true ∷ bs) = inr (0, omega arith, refl, ap (λ m. Some m) (omega arith))
first_is n (false ∷ bs) = elim (first_is (n + 1) bs) [
  | inl (off, e) ↦ inl (λ i. elim i as (λ (k : ℕ). get_or (false ∷ bs) k false ≡ false) [ zero ↦ refl | suc j ↦ off j ], e)
  | inr (f, near, on, e) ↦ inr (suc f, omega arith, on, e ∙ ap (λ m. Some m) (omega arith))
]

pub none_true : (bs : List Bool) → first_true 0 bs ≡ None → (i : ℕ) → get_or bs i false ≡ false
none_true bs e = elim (first_is 0 bs) [
  | inl (off, _) ↦ off
  | inr (f, near, on, is) ↦ absurd (none-some (0 + f) (sym e ∙ is))
]

pub first_within : (bs : List Bool) (f : ℕ) → first_true 0 bs ≡ Some f → (f < length bs) × (get_or bs f false ≡ true)
first_within bs f e = elim (first_is 0 bs) [
  | inl (off, is) ↦ absurd (none-some f (sym is ∙ e))
  | inr (k, near, on, is) ↦ let same : k ≡ f = omega (arith, same_Some (0 + k) f (sym is ∙ e)) in subst (λ n. (n < length bs) × (get_or bs n false ≡ true)) same (near, on)
]

-- one place is made true, or false, where no other is true
module _ (bs : List Bool) (f : ℕ) (near : f < length bs) (off : (i : ℕ) → i ≢ f → get_or bs i false ≡ false) where
  else_off : (b : Bool) (i : ℕ) → i ≢ f → get_or (set bs f b) i false ≡ false
  else_off b i ne = get_or-set_other bs f i b false ne ∙ off i ne

  pub set_first : first_true 0 (set bs f true) ≡ Some f
  set_first = let far : f < length (set bs f true) = subst (λ n. f < n) (sym (length-set bs f true)) near in
      first_only 0 f (set bs f true) far (get_or-set_same bs f true false near) (else_off true) ∙ ap (λ m. Some m) (omega arith)

  pub set_none : first_true 0 (set bs f false) ≡ None
  set_none = first_none 0 (set bs f false) (λ i. dite (ℕ_discrete i f) (λ z. subst (λ n. get_or (set bs f false) n false ≡ false) (sym z) (get_or-set_same bs f false false near)) (λ ne. else_off false i ne))

-- ---- lists that grow at the end

module _ {A : Type 0} where
  pub front_get : (xs ys : List A) (k : ℕ) (x : A) → slice_get xs k ≡ Some x → slice_get (xs ++ ys) k ≡ Some x
  front_get [] ys k x e = absurd (none-some x e)
  front_get (a ∷ xs) ys zero x e = e
  front_get (a ∷ xs) ys (suc k) x e = front_get xs ys k x e

  pub end_get : (xs : List A) (x : A) → slice_get (xs ++ x ∷ []) (length xs) ≡ Some x
  end_get [] x = refl
  end_get (a ∷ xs) x = end_get xs x

-- ---- places of a guest's entries

-- others' entries make no place
places_none : (guest n : ℕ) (more : List Entry) → All (λ e. e.guest ≢ guest) more → places_from guest n more ≡ []
places_none guest n [] all = refl
places_none guest n (e ∷ es) all =
    ap (λ b. if b then (n ∷ places_from guest (n + 1) es) else places_from guest (n + 1) es) (ne_eqb e.guest guest (All-head (λ (x : Entry). x.guest ≢ guest) e es all))
    ∙ places_none guest (n + 1) es (All-tail (λ (x : Entry). x.guest ≢ guest) e es all)

pub places_others : (guest n : ℕ) (h more : List Entry) → All (λ e. e.guest ≢ guest) more → places_from guest n (h ++ more) ≡ places_from guest n h
places_others guest n [] more all = places_none guest n more all
places_others guest n (e ∷ es) more all = let rest = places_others guest (n + 1) es more all in ap (λ l. if e.guest == guest then (n ∷ l) else l) rest

own_step : (b : Bool) (n p : ℕ) (xs ys : List ℕ) → xs ≡ ys ++ p ∷ [] → if b then (n ∷ xs) else xs ≡ (if b then (n ∷ ys) else ys) ++ p ∷ []
own_step true n p xs ys e = ap (λ l. n ∷ l) e
own_step false n p xs ys e = e

-- one more entry of the guest stands at the end
pub places_own : (guest n : ℕ) (h : List Entry) (e : Entry) → e.guest ≡ guest → places_from guest n (h ++ e ∷ []) ≡ places_from guest n h ++ (n + length h) ∷ []
places_own guest n [] e is = ap (λ b. if b then (n ∷ []) else []) (eq-eqb e.guest guest is) ∙ ap (λ m. m ∷ []) (omega arith)
places_own guest n (x ∷ xs) e is =
    let far : (n + 1) + length xs ≡ n + length (x ∷ xs) = omega arith in
    own_step (x.guest == guest) n (n + length (x ∷ xs)) (places_from guest (n + 1) (xs ++ e ∷ [])) (places_from guest (n + 1) xs) (places_own guest (n + 1) xs e is ∙ ap (λ m. places_from guest (n + 1) xs ++ m ∷ []) far)

-- each place is that of an entry of the guest
module _ (guest : ℕ) where
  ok_step : (n : ℕ) (e : Entry) (whole : List Entry) (ps : List ℕ) (b : Bool) → (e.guest == guest) ≡ b → slice_get whole n ≡ Some e → All (IsPlaceOf guest whole) ps → All (IsPlaceOf guest whole) (if b then (n ∷ ps) else ps)
  ok_step n e whole ps true is at rest = All-cons (IsPlaceOf guest whole) n ps (e, at, eqb-true e.guest guest is) rest
  ok_step n e whole ps false is at rest = rest

  places_ok : (n : ℕ) (h whole : List Entry) → ((k : ℕ) (e : Entry) → slice_get h k ≡ Some e → slice_get whole (n + k) ≡ Some e) → All (IsPlaceOf guest whole) (places_from guest n h)
  places_ok n [] whole at = All-nil (IsPlaceOf guest whole)
  places_ok n (e ∷ es) whole at =
      let near : n + 0 ≡ n = omega arith in
      ok_step n e whole (places_from guest (n + 1) es) (e.guest == guest) refl (subst (λ m. slice_get whole m ≡ Some e) near (at 0 e refl))
      (places_ok (n + 1) es whole (λ k x s. let far : n + suc k ≡ (n + 1) + k = omega arith in subst (λ m. slice_get whole m ≡ Some x) far (at (suc k) x s)))

  pub places_sound : (h : List Entry) → All (IsPlaceOf guest h) (places_of guest h)
  places_sound h = places_ok 0 h h (λ k e s. let far : k ≡ 0 + k = omega arith in subst (λ m. slice_get h m ≡ Some e) far s)

  above_step : (n p : ℕ) (ps : List ℕ) (b : Bool) (i : ℕ) → ((k : ℕ) → slice_get ps k ≡ Some p → n + 1 ≤ p) → slice_get (if b then (n ∷ ps) else ps) i ≡ Some p → n ≤ p
  above_step n p ps true zero rest s = omega (arith, same_Some n p s)
  above_step n p ps true (suc i) rest s = omega (arith, rest i s)
  above_step n p ps false i rest s = omega (arith, rest i s)

  places_above : (n : ℕ) (h : List Entry) (i p : ℕ) → slice_get (places_from guest n h) i ≡ Some p → n ≤ p
  places_above n [] i p s = absurd (none-some p s)
  places_above n (e ∷ es) i p s = above_step n p (places_from guest (n + 1) es) (e.guest == guest) i (λ k. places_above (n + 1) es k p) s

  rise_step : (n p q : ℕ) (ps : List ℕ) (b : Bool) (i j : ℕ) → ((k : ℕ) → slice_get ps k ≡ Some q → n + 1 ≤ q) → ((k l : ℕ) → k < l → slice_get ps k ≡ Some p → slice_get ps l ≡ Some q → p < q)
      → i < j → slice_get (if b then (n ∷ ps) else ps) i ≡ Some p → slice_get (if b then (n ∷ ps) else ps) j ≡ Some q → p < q
  rise_step n p q ps true zero zero above rest l at_i at_j = absurd (omega (arith, l))
  rise_step n p q ps true zero (suc j) above rest l at_i at_j = omega (arith, same_Some n p at_i, above j at_j)
  rise_step n p q ps true (suc i) zero above rest l at_i at_j = absurd (omega (arith, l))
  rise_step n p q ps true (suc i) (suc j) above rest l at_i at_j = rest i j (omega (arith, l)) at_i at_j
  rise_step n p q ps false i j above rest l at_i at_j = rest i j l at_i at_j

  -- the older first
  pub places_rise : (n : ℕ) (h : List Entry) (i j p q : ℕ) → i < j → slice_get (places_from guest n h) i ≡ Some p → slice_get (places_from guest n h) j ≡ Some q → p < q
  places_rise n [] i j p q l at_i at_j = absurd (none-some p at_i)
  places_rise n (e ∷ es) i j p q l at_i at_j = rise_step n p q (places_from guest (n + 1) es) (e.guest == guest) i j (λ k. places_above (n + 1) es k q) (λ k l. places_rise (n + 1) es k l p q) l at_i at_j
