-- Lists read at a place, and what a deed does to the parts of the guests.
use Rattle.std.proofs.Common.{◌≡◌, ◌≢◌, ℕ, zero, suc, ◌<◌, ◌≤◌, List, [], ◌∷◌, map, length, set, get_or, refl, sym, ap, subst, arith, get_or-set_same, get_or-set_other}
use mathlib.Core.Logic.{dite}
use mathlib.Core.Option.{some, some-ne-none, some-injective}
use native.Mathlib.Decide.{ℕ_discrete}
use lib.ListN.{get_elem?}
use Rattle.files_core.proofs.Keeps.{length_with}
use Rattle.files_core.specs.Files.{Row, FileState, blank, row, file, whole, with_row, reaches, entered, seen_to, leased, noted, unleased, Deed, take_turn, set_size, give_turn, lease, note_size, unlease, set_bar, clear_bar, made}

module _ {A : Type 0} where
  pub get_at : (l : List A) (i : ℕ) (a d : A) → get_elem? l i ≡ some a → get_or l i d ≡ a
  get_at [] i a d e = absurd (some-ne-none a (sym e))
  get_at (x ∷ xs) zero a d e = some-injective x a e
  get_at (x ∷ xs) (suc i) a d e = get_at xs i a d e

  pub in_range : (l : List A) (k : ℕ) (a : A) → get_elem? l k ≡ some a → k < length l
  in_range [] k a at = absurd (some-ne-none a (sym at))
  in_range (x ∷ xs) zero a at = omega arith
  in_range (x ∷ xs) (suc k) a at = let h = in_range xs k a at in omega arith

  pub there : (l : List A) (i : ℕ) → i < length l → (a : A) × (get_elem? l i ≡ some a)
  there [] i h = absurd (omega arith)
  there (x ∷ xs) zero h = (x, refl)
  there (x ∷ xs) (suc i) h = there xs i (omega arith)

  pub set_there : (l : List A) (i : ℕ) (a b : A) → get_elem? l i ≡ some a → get_elem? (set l i b) i ≡ some b
  set_there [] i a b e = absurd (some-ne-none a (sym e))
  set_there (x ∷ xs) zero a b e = refl
  set_there (x ∷ xs) (suc i) a b e = set_there xs i a b e

  -- a map to one value forgets what a place has
  pub map_blank : {B : Type 0} (z : B) (l : List A) (i : ℕ) (a : A) → map (λ _. z) (set l i a) ≡ map (λ _. z) l
  map_blank z [] i a = refl
  map_blank z (x ∷ xs) zero a = refl
  map_blank z (x ∷ xs) (suc i) a = ap (λ l. z ∷ l) (map_blank z xs i a)

pub at_file : (cs : List FileState) (f : ℕ) → f < length cs → get_elem? cs f ≡ some (file cs f)
at_file [] f h = absurd (omega arith)
at_file (x ∷ xs) zero h = refl
at_file (x ∷ xs) (suc f) h = at_file xs f (omega arith)

pub get_map : {A B : Type 0} (F : A → B) (l : List A) (i : ℕ) (d : A) → get_or (map F l) i (F d) ≡ F (get_or l i d)
get_map F [] i d = refl
get_map F (x ∷ xs) zero d = refl
get_map F (x ∷ xs) (suc i) d = get_map F xs i d

-- a deed leaves what the file began with
pub first_kept : (c : FileState) (g : ℕ) (d : Deed) → (made c g d).first ≡ c.first
first_kept c g take_turn = refl
first_kept c g (set_size e) = refl
first_kept c g give_turn = refl
first_kept c g lease = refl
first_kept c g note_size = refl
first_kept c g unlease = refl
first_kept c g set_bar = refl
first_kept c g clear_bar = refl

-- ---- rows

pub row_here : (c : FileState) (g : ℕ) (r : Row) → g < length c.rows → row (with_row c g r) g ≡ r
row_here c g r near = get_or-set_same c.rows g r blank near

pub row_else : (c : FileState) (g n : ℕ) (r : Row) → n ≢ g → row (with_row c g r) n ≡ row c n
row_else c g n r ne = get_or-set_other c.rows g n r blank ne

pub row_same : (c : FileState) (g n : ℕ) (d : Deed) → n ≢ g → row (made c g d) n ≡ row c n
row_same c g n take_turn ne = row_else c g n (entered (length c.history) (row c g)) ne
row_same c g n (set_size e) ne = refl
row_same c g n give_turn ne = row_else c g n (seen_to (length (whole c)) (row c g)) ne
row_same c g n lease ne = row_else c g n (leased (row c g)) ne
row_same c g n note_size ne = row_else c g n (noted c.size (reaches c g) (row c g)) ne
row_same c g n unlease ne = row_else c g n (unleased (row c g)) ne
row_same c g n set_bar ne = refl
row_same c g n clear_bar ne = refl

module _ (c : FileState) (g : ℕ) (near : g < length c.rows) (seen : (row c g).seen ≤ length c.history) where
  seen_here : (r : Row) → (row c g).seen ≤ r.seen → (row c g).seen ≤ (row (with_row c g r) g).seen
  seen_here r more = subst (λ (x : Row). (row c g).seen ≤ x.seen) (sym (row_here c g r near)) more

  mine_grows : (d : Deed) → (row c g).seen ≤ (row (made c g d) g).seen
  mine_grows take_turn = seen_here (entered (length c.history) (row c g)) seen
  mine_grows (set_size e) = omega arith
  mine_grows give_turn = let m = length_with c.history c.applied in seen_here (seen_to (length (whole c)) (row c g)) (omega arith)
  mine_grows lease = seen_here (leased (row c g)) (omega arith)
  mine_grows note_size = seen_here (noted c.size (reaches c g) (row c g)) (omega arith)
  mine_grows unlease = seen_here (unleased (row c g)) (omega arith)
  mine_grows set_bar = omega arith
  mine_grows clear_bar = omega arith

  -- what a guest has seen only grows
  pub seen_grows : (n : ℕ) (d : Deed) → (row c n).seen ≤ (row (made c g d) n).seen
  seen_grows n d = dite (ℕ_discrete n g)
      (λ z. subst (λ (m : ℕ). (row c m).seen ≤ (row (made c g d) m).seen) (sym z) (mine_grows d))
      (λ ne. let h = ap (λ (x : Row). x.seen) (row_same c g n d ne) in omega arith)
