-- Lists at a place.
use Rattle.std.proofs.Common.{◌≡◌, ◌⊎◌, inl, inr, ⊎_elim, ◌∙◌, ap, sym, subst, refl, ℕ, zero, suc, ◌+◌, ◌<◌, ◌≤◌, List, [], ◌∷◌, ◌++◌, length, map, take, drop, zip, slice_get, get_or, Option, Some, None, option_map, arith}
use Rattle.std.specs.List.{AllByRecursion, range_with_len}
use Rattle.std.proofs.lemmas.Option.{slice_get-get_or}
use Rattle.plain_text.specs.Options.{◌>>=◌}

pub none_is : {A : Type 0} (x : A) → None ≡ Some x → ⊥
none_is x e = cc

pub some_is : {A : Type 0} (x y : A) → Some x ≡ Some y → x ≡ y
some_is x y e = cc

pub below_or_from : (m n : ℕ) → (m < n) ⊎ (n ≤ m)
below_or_from m zero = inr (omega arith)
below_or_from zero (suc n) = inl (omega arith)
below_or_from (suc m) (suc n) = ⊎_elim (λ (l : m < n). inl (omega (arith, l))) (λ (l : n ≤ m). inr (omega (arith, l))) (below_or_from m n)

-- an element of a list with one more at its end
pub at_end : {A : Type 0} (xs : List A) (x y : A) (n : ℕ) → slice_get (xs ++ x ∷ []) n ≡ Some y → (slice_get xs n ≡ Some y) ⊎ ((n ≡ length xs) × (x ≡ y))
at_end [] x y zero e = inr (refl, some_is x y e)
at_end [] x y (suc n) e = absurd (none_is y e)
at_end (z ∷ xs) x y zero e = inl e
at_end (z ∷ xs) x y (suc n) e = ⊎_elim (λ h. inl h) (λ h. inr (ap suc h.0, h.1)) (at_end xs x y n e)

pub last_at : {A : Type 0} (xs : List A) (x : A) → slice_get (xs ++ x ∷ []) (length xs) ≡ Some x
last_at [] x = refl
last_at (z ∷ xs) x = last_at xs x

pub within : {A : Type 0} (xs : List A) (n : ℕ) (x : A) → slice_get xs n ≡ Some x → n < length xs
within [] n x e = absurd (none_is x e)
within (y ∷ xs) zero x e = omega arith
within (y ∷ xs) (suc n) x e = let h = within xs n x e in omega arith

pub found : {A : Type 0} (xs : List A) (n : ℕ) → n < length xs → (x : A) × (slice_get xs n ≡ Some x)
found [] n l = absurd (omega arith)
found (x ∷ xs) zero l = (x, refl)
found (x ∷ xs) (suc n) l = found xs n (omega arith)

pub front : {A : Type 0} (xs ys : List A) (n : ℕ) (x : A) → slice_get xs n ≡ Some x → slice_get (xs ++ ys) n ≡ Some x
front [] ys n x e = absurd (none_is x e)
front (y ∷ xs) ys zero x e = e
front (y ∷ xs) ys (suc n) x e = front xs ys n x e

-- what stands before the end of the front is the front's
pub front_same : {A : Type 0} (xs ys : List A) (n : ℕ) → n < length xs → slice_get (xs ++ ys) n ≡ slice_get xs n
front_same [] ys n l = absurd (omega arith)
front_same (y ∷ xs) ys zero l = refl
front_same (y ∷ xs) ys (suc n) l = front_same xs ys n (omega arith)

-- an element of the front is that of the whole
pub in_front : {A : Type 0} (xs ys : List A) (n : ℕ) (x : A) → slice_get (xs ++ ys) n ≡ Some x → n < length xs → slice_get xs n ≡ Some x
in_front [] ys n x e l = absurd (omega arith)
in_front (y ∷ xs) ys zero x e l = e
in_front (y ∷ xs) ys (suc n) x e l = in_front xs ys n x e (omega arith)

pub take_front : {A : Type 0} (xs ys : List A) (n : ℕ) → n ≤ length xs → take n (xs ++ ys) ≡ take n xs
take_front xs ys zero l = refl
take_front [] ys (suc n) l = absurd (omega arith)
take_front (x ∷ xs) ys (suc n) l = ap (λ (zs : List _). x ∷ zs) (take_front xs ys n (omega arith))

pub same_list : {A : Type 0} (xs ys : List A) → length xs ≡ length ys → ((n : ℕ) (x y : A) → slice_get xs n ≡ Some x → slice_get ys n ≡ Some y → x ≡ y) → xs ≡ ys
same_list [] [] l h = refl
same_list [] (y ∷ ys) l h = absurd (omega arith)
same_list (x ∷ xs) [] l h = absurd (omega arith)
same_list (x ∷ xs) (y ∷ ys) l h = λ i. h 0 x y refl refl i ∷ same_list xs ys (omega arith) (λ n a b p q. h (suc n) a b p q) i

pub in_range : (a n i k : ℕ) → slice_get (range_with_len a n) i ≡ Some k → k ≡ a + i
in_range a zero i k e = absurd (none_is k e)
in_range a (suc n) zero k e = let h : a ≡ k = some_is a k e in omega arith
in_range a (suc n) (suc i) k e = let h = in_range (a + 1) n i k e in omega arith

pub range_len : (a n : ℕ) → length (range_with_len a n) ≡ n
range_len a zero = refl
range_len a (suc n) = ap suc (range_len (a + 1) n)

pub in_map : {A B : Type 0} (F : A → B) (xs : List A) (n : ℕ) (y : B) → slice_get (map F xs) n ≡ Some y → (x : A) × (slice_get xs n ≡ Some x) × (F x ≡ y)
in_map F [] n y e = absurd (none_is y e)
in_map F (x ∷ xs) zero y e = (x, refl, some_is (F x) y e)
in_map F (x ∷ xs) (suc n) y e = in_map F xs n y e

pub map_at : {A B : Type 0} (F : A → B) (xs : List A) (n : ℕ) (x : A) → slice_get xs n ≡ Some x → slice_get (map F xs) n ≡ Some (F x)
map_at F [] n x e = absurd (none_is x e)
map_at F (y ∷ xs) zero x e = ap (λ (z : _). Some (F z)) (some_is y x e)
map_at F (y ∷ xs) (suc n) x e = map_at F xs n x e

pub map_len : {A B : Type 0} (F : A → B) (xs : List A) → length (map F xs) ≡ length xs
map_len F [] = refl
map_len F (x ∷ xs) = ap suc (map_len F xs)

-- what is found in two steps
pub bound : {A B : Type 0} (o : Option A) (f : A → Option B) (y : B) → (o >>= f) ≡ Some y → (x : A) × (o ≡ Some x) × (f x ≡ Some y)
bound None f y e = absurd (none_is y e)
bound (Some x) f y e = (x, refl, e)

pub mapped : {A B : Type 0} (f : A → B) (o : Option A) (y : B) → option_map f o ≡ Some y → (x : A) × (o ≡ Some x) × (f x ≡ y)
mapped f None y e = absurd (none_is y e)
mapped f (Some x) y e = (x, refl, some_is (f x) y e)

-- an element that is read is the list's
pub at_index : {A : Type 0} (xs : List A) (i : ℕ) (x : A) → i < length xs → x ≡ get_or xs i x → slice_get xs i ≡ Some x
at_index xs i x lt e = slice_get-get_or xs i x lt ∙ ap Some (sym e)

pub all_at : {A : Type 0} (P : A → Type 0) (xs : List A) (k : ℕ) (d : A) → AllByRecursion P xs → k < length xs → P (get_or xs k d)
all_at P [] k d all lt = absurd (omega arith)
all_at P (x ∷ xs) zero d all lt = all.0
all_at P (x ∷ xs) (suc k) d all lt = all_at P xs k d all.1 (omega arith)

pub all_get : {A : Type 0} (P : A → Type 0) (xs : List A) (k : ℕ) (x : A) → AllByRecursion P xs → slice_get xs k ≡ Some x → P x
all_get P [] k x all e = absurd (none_is x e)
all_get P (y ∷ xs) zero x all e = subst P (some_is y x e) all.0
all_get P (y ∷ xs) (suc k) x all e = all_get P xs k x all.1 e

-- one more of a list
pub take_more : {A : Type 0} (xs : List A) (i : ℕ) (x : A) → slice_get xs i ≡ Some x → take (i + 1) xs ≡ take i xs ++ x ∷ []
take_more [] i x e = absurd (none_is x e)
take_more (y ∷ xs) zero x e = ap (λ (z : _). z ∷ []) (some_is y x e)
take_more (y ∷ xs) (suc i) x e = let z : suc i + 1 ≡ suc (i + 1) = omega arith in ap (λ (n : ℕ). take n (y ∷ xs)) z ∙ ap (λ (zs : List _). y ∷ zs) (take_more xs i x e)

pub take_count : {A : Type 0} (xs : List A) (i : ℕ) (x : A) → slice_get xs i ≡ Some x → length (take i xs) ≡ i
take_count [] i x e = absurd (none_is x e)
take_count (y ∷ xs) zero x e = refl
take_count (y ∷ xs) (suc i) x e = ap suc (take_count xs i x e)

pub all_push : {A : Type 0} (P : A → Type 0) (xs : List A) (x : A) → AllByRecursion P xs → P x → AllByRecursion P (xs ++ x ∷ [])
all_push P [] x all holds = (holds, tt)
all_push P (y ∷ xs) x all holds = (all.0, all_push P xs x all.1 holds)

pub in_take : {A : Type 0} (n : ℕ) (xs : List A) (m : ℕ) (x : A) → slice_get (take n xs) m ≡ Some x → (m < n) × (slice_get xs m ≡ Some x)
in_take zero xs m x e = absurd (none_is x e)
in_take (suc n) [] m x e = absurd (none_is x e)
in_take (suc n) (y ∷ xs) zero x e = (omega arith, e)
in_take (suc n) (y ∷ xs) (suc m) x e = let k = in_take n xs m x e in (omega arith, k.1)

pub in_drop : {A : Type 0} (n : ℕ) (xs : List A) (m : ℕ) (x : A) → slice_get (drop n xs) m ≡ Some x → slice_get xs (n + m) ≡ Some x
in_drop zero xs m x e = let z : 0 + m ≡ m = omega arith in ap (λ (k : ℕ). slice_get xs k) z ∙ e
in_drop (suc n) [] m x e = absurd (none_is x e)
in_drop (suc n) (y ∷ xs) m x e = let z : suc n + m ≡ suc (n + m) = omega arith in ap (λ (k : ℕ). slice_get (y ∷ xs) k) z ∙ in_drop n xs m x e

-- two lists side by side
pub in_zip : {A B : Type 0} (xs : List A) (ys : List B) (n : ℕ) (x : A) (y : B) → slice_get xs n ≡ Some x → slice_get ys n ≡ Some y → slice_get (zip xs ys) n ≡ Some (x, y)
in_zip [] ys n x y e h = absurd (none_is x e)
in_zip (a ∷ xs) [] n x y e h = absurd (none_is y h)
in_zip (a ∷ xs) (b ∷ ys) zero x y e h = λ i. Some (some_is a x e i, some_is b y h i)
in_zip (a ∷ xs) (b ∷ ys) (suc n) x y e h = in_zip xs ys n x y e h

pub of_zip : {A B : Type 0} (xs : List A) (ys : List B) (n : ℕ) (z : A × B) → slice_get (zip xs ys) n ≡ Some z → (slice_get xs n ≡ Some z.0) × (slice_get ys n ≡ Some z.1)
of_zip [] ys n z e = absurd (none_is z e)
of_zip (a ∷ xs) [] n z e = absurd (none_is z e)
of_zip (a ∷ xs) (b ∷ ys) zero z e = let k = some_is (a, b) z e in (λ i. Some (k i).0, λ i. Some (k i).1)
of_zip (a ∷ xs) (b ∷ ys) (suc n) z e = of_zip xs ys n z e
