-- The first element that passes a test, in lists made of others.
use Rattle.std.proofs.Common.{◌≡◌, ◌∙◌, ap, sym, refl, subst, Bool, true, false, cond, List, [], ◌∷◌, ◌++◌, map, filter, Some, None, inl, inr}
use Rattle.std.specs.List.{find, AllByRecursion}
use Rattle.std.proofs.lemmas.Bool.{cases_Bool}

step : {A : Type 0} (b : Bool) (a p q z : A) → cond b a p ≡ z → (p ≡ z → q ≡ z) → cond b a q ≡ z
step true a p q z e f = e
step false a p q z e f = f e

pub find-append_some : {X : Type 0} (test : X → Bool) (xs ys : List X) (x : X) → find test xs ≡ Some x → find test (xs ++ ys) ≡ Some x
find-append_some test [] ys x is = absurd (cc)
find-append_some test (y ∷ xs) ys x is = step (test y) (Some y) (find test xs) (find test (xs ++ ys)) (Some x) is (find-append_some test xs ys x)

pub find-append_none : {X : Type 0} (test : X → Bool) (xs ys : List X) → find test xs ≡ None → find test (xs ++ ys) ≡ find test ys
find-append_none test [] ys is = refl
find-append_none test (y ∷ xs) ys is = go (test y) is (find-append_none test xs ys)
  where
    go : (b : Bool) → cond b (Some y) (find test xs) ≡ None → (find test xs ≡ None → find test (xs ++ ys) ≡ find test ys) → cond b (Some y) (find test (xs ++ ys)) ≡ find test ys
    go true e f = absurd (cc)
    go false e f = f e

pub find-map : {X Y : Type 0} (test : Y → Bool) (f : X → Y) (own : X → Bool) → ((x : X) → test (f x) ≡ own x) → (xs : List X) (x : X) → find own xs ≡ Some x → find test (map f xs) ≡ Some (f x)
find-map test f own same [] x is = absurd (cc)
find-map test f own same (y ∷ xs) x is = rw (same y) (go (own y) is (find-map test f own same xs x))
  where
    go : (b : Bool) → cond b (Some y) (find own xs) ≡ Some x → (find own xs ≡ Some x → find test (map f xs) ≡ Some (f x)) → cond b (Some (f y)) (find test (map f xs)) ≡ Some (f x)
    go true e g = let s : y ≡ x = cc in ap (λ z. Some (f z)) s
    go false e g = g e

pub find-filter : {X : Type 0} (test keep : X → Bool) (xs : List X) (x : X) → find test xs ≡ Some x → keep x ≡ true → find test (filter keep xs) ≡ Some x
find-filter test keep [] x is kept = absurd (cc)
find-filter test keep (y ∷ xs) x is kept = elim (cases_Bool (keep y)) [
  | inl k ↦ rw k (step (test y) (Some y) (find test xs) (find test (filter keep xs)) (Some x) is (λ e. find-filter test keep xs x e kept))
  | inr k ↦ rw k (go k (test y) is (λ e. find-filter test keep xs x e kept))
]
  where
    go : keep y ≡ false → (b : Bool) → cond b (Some y) (find test xs) ≡ Some x → (find test xs ≡ Some x → find test (filter keep xs) ≡ Some x) → find test (filter keep xs) ≡ Some x
    go k true e g = let s : y ≡ x = cc in let both : true ≡ false = sym kept ∙ (ap keep (sym s) ∙ k) in absurd (cc)
    go k false e g = g e

-- what is found passes the test, and has what all elements have
pub find-holds : {X : Type 0} (test : X → Bool) (P : X → Type 0) (xs : List X) (x : X) → find test xs ≡ Some x → AllByRecursion P xs → P x × (test x ≡ true)
find-holds test P [] x is all = absurd (cc)
find-holds test P (y ∷ xs) x is all = elim (cases_Bool (test y)) [
  | inl t ↦
      let e : y ≡ x = (let h : Some y ≡ Some x = rw t at is in cc) in (subst P e all.0, ap test (sym e) ∙ t)
  | inr t ↦ find-holds test P xs x (rw t at is) all.1
]
