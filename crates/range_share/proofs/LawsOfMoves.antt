-- A change of what a guest has seen of each log, which no word shows: a pass comes, or goes.
use Rattle.std.proofs.Common.{◌≡◌, ◌⊎◌, ℕ, zero, suc, ◌<◌, ◌≤◌, max, leb, cond, Bool, true, false, List, [], ◌∷◌, ◌++◌, map, length, take, drop, get_or, slice_get, Option, Some, None, refl, sym, ap, ◌∙◌, subst, ⊎_elim, inl, inr, arith}
use lib.ListN.{length-map}
use Rattle.std.proofs.lemmas.List.{append-nil, take-append-drop, length-take-le}
use Rattle.std.proofs.lemmas.Bool.Decides.{nat_tests}
use Rattle.seats.specs.Views.{guests}
use Rattle.page_map.specs.declared.ranges.LogEntry.{LogEntry}
use Rattle.page_map.specs.Logs.{placed_at}
use Rattle.window_core.specs.declared.states.Pin.{Pin}
use Rattle.window_core.specs.declared.states.RangeState.{RangeState}
use Rattle.window_core.specs.declared.states.RangeState.TheVariants as states
use Rattle.window_core.specs.Window.{Side, Window, no_side, side, state, target, pins, seen_by}
use Rattle.window_core.specs.Good.{SideOk, GoodWindow}
use Rattle.window_core.specs.Laws.{Begins}
use Rattle.window_core.specs.Shown.{Branch, is_guest, branch, listed, holds, map_held}
use Rattle.window_core.proofs.Keeps.{pin_by, target_same}
use Rattle.range_share.specs.Table.{Core, ShowsWords, number_of, control_at, map_at, longer, merged_branches, branch_in}

pub map_map : {A B C : Type 0} (F : A → B) (G : B → C) (l : List A) → map G (map F l) ≡ map (λ a. G (F a)) l
map_map F G [] = refl
map_map F G (x ∷ xs) = ap (λ t. G (F x) ∷ t) (map_map F G xs)

pub map_same : {A B : Type 0} (F G : A → B) (l : List A) (d : A) → ((i : ℕ) → i < length l → F (get_or l i d) ≡ G (get_or l i d)) → map F l ≡ map G l
map_same F G [] d h = refl
map_same F G (x ∷ xs) d h = λ k. h 0 (omega arith) k ∷ map_same F G xs d (λ i l. h (suc i) (omega arith)) k

-- an element of a mapped list
pub in_map : {A B : Type 0} (F : A → B) (l : List A) (i : ℕ) (d : A) (e : B) → i < length l → get_or (map F l) i e ≡ F (get_or l i d)
in_map F [] i d e h = absurd (omega arith)
in_map F (x ∷ xs) zero d e h = refl
in_map F (x ∷ xs) (suc i) d e h = in_map F xs i d e (omega arith)

pub listed_same : {A : Type 0} (f g : ℕ → A) (n : ℕ) → ((i : ℕ) → i < n → f i ≡ g i) → listed f n ≡ listed g n
listed_same f g zero h = refl
listed_same f g (suc n) h = λ k. h 0 (omega arith) k ∷ listed_same (λ i. f (suc i)) (λ i. g (suc i)) n (λ i l. h (suc i) (omega arith)) k

pub map_listed : {A B : Type 0} (f : ℕ → A) (F : A → B) (n : ℕ) → map F (listed f n) ≡ listed (λ i. F (f i)) n
map_listed f F zero = refl
map_listed f F (suc n) = ap (λ l. F (f 0) ∷ l) (map_listed (λ i. f (suc i)) F n)

-- ---- every side changes alike

-- the change leaves who has the tree, and the log
pub record Alike (F : Side → Side) : Type 0 where
  pub holder : (s : Side) → (F s).holder ≡ s.holder
  pub log : (s : Side) → (F s).log ≡ s.log

-- a side of the changed list: that of its place, or none
pub mapped_side : (F : Side → Side) (l : List Side) (i : ℕ) → ((get_or (map F l) i no_side ≡ F (get_or l i no_side)) × (i < length l)) ⊎ ((get_or (map F l) i no_side ≡ no_side) × (get_or l i no_side ≡ no_side))
mapped_side F [] i = inr (refl, refl)
mapped_side F (x ∷ xs) zero = inl (refl, omega arith)
mapped_side F (x ∷ xs) (suc i) = ⊎_elim (λ a. inl (a.0, (let z = a.1 in omega arith))) (λ a. inr a) (mapped_side F xs i)

module _ (F : Side → Side) (alike : Alike F) where
  abbrev pub changed : Window → Window
  changed h = record h { sides = map F h.sides }

  pub holder_now : (h : Window) (f : ℕ) → (side (changed h) f).holder ≡ (side h f).holder
  holder_now h f = ⊎_elim (λ a. ap (λ (s : Side). s.holder) a.0 ∙ alike.holder (side h f)) (λ a. ap (λ (s : Side). s.holder) a.0 ∙ sym (ap (λ (s : Side). s.holder) a.1)) (mapped_side F h.sides f)

  pub log_now : (h : Window) (f : ℕ) → (side (changed h) f).log ≡ (side h f).log
  log_now h f = ⊎_elim (λ a. ap (λ (s : Side). s.log) a.0 ∙ alike.log (side h f)) (λ a. ap (λ (s : Side). s.log) a.0 ∙ sym (ap (λ (s : Side). s.log) a.1)) (mapped_side F h.sides f)

  -- the window stays good where each file does, and nobody who has a pin has seen less
  pub good_frame : (h : Window) → GoodWindow guests h → ((f : ℕ) → f < length h.sides → SideOk guests (length h.states) (F (side h f))) → ((g k : ℕ) (p : Pin) → slice_get (pins h g) k ≡ Some p → seen_by (side h p.file) g ≤ seen_by (side (changed h) p.file) g)
      → GoodWindow guests (changed h)
  good_frame h good ok more = let h' : Window = changed h in let many = length-map h.sides F in record {
    ranges_few = good.ranges_few;
    targets_all = good.targets_all;
    pins_all = good.pins_all;
    sides_ok = λ f l. let near : f < length h.sides = omega arith in subst (λ (s : Side). SideOk guests (length h.states) s) (sym (in_map F h.sides f no_side no_side near)) (ok f near);
    mapped_placed = λ r f c m p. let q = good.mapped_placed r f c m p in (q.0, ap (λ (t : List LogEntry). placed_at t c) (log_now h f) ∙ q.1, q.2, q.3);
    placed_mapped = λ f c p e. good.placed_mapped f c p (sym (ap (λ (t : List LogEntry). placed_at t c) (log_now h f)) ∙ e);
    mapped_there = good.mapped_there;
    targets_known = λ r. target_same h h' (target h r) many (good.targets_known r);
    pins_ok = λ g k p at. pin_by h h' g p refl (log_now h p.file) (more g k p at) (good.pins_ok g k p at);
    pins_few = good.pins_few;
    movers_small = good.movers_small;
    one_moved = good.one_moved;
    one_tree = λ i j g p q. good.one_tree i j g (sym (holder_now h i) ∙ p) (sym (holder_now h j) ∙ q);
  }

  -- the words say the same
  pub words_frame : (ws : List ℕ) (c : Core) → ShowsWords ws c → ShowsWords ws (record c { window = changed c.window })
  words_frame ws c w = let h = c.window in let many = length-map h.sides F in let wide = w.wide in record {
    wide = omega arith;
    trees = λ f l. w.trees f (omega arith) ∙ sym (ap (λ (t : Option ℕ). number_of t) (holder_now h f));
    controls = λ r l. ap (λ (k : ℕ). get_or ws (control_at k r) 0) many ∙ w.controls r l;
    maps = λ r l. ap (λ (k : ℕ). get_or ws (map_at k r) 0) many ∙ w.maps r l;
  }

  -- and so do the maps that a guest is shown
  pub maps_frame : (h : Window) (g : ℕ) → listed (map_held g (changed h)) (length h.states) ≡ listed (map_held g h) (length h.states)
  maps_frame h g = listed_same (map_held g (changed h)) (map_held g h) (length h.states) (λ r l. ap (λ (b : Bool). cond b (Some (target h r)) None) (go (state h r)))
    where
      go : (x : RangeState) → holds g (changed h) x ≡ holds g h x
      go states.Free = refl
      go (states.Moving a) = refl
      go (states.Mapped f c m) = ap (λ (t : Option ℕ). is_guest g t) (holder_now h f)

-- ---- what is seen

pub zero_take : (n : ℕ) (h : List LogEntry) → n ≤ length h → take n h ≡ [] → n ≡ 0
zero_take zero h l e = refl
zero_take (suc n) [] l e = absurd (omega arith)
zero_take (suc n) (x ∷ xs) l e = absurd (cc)

begins_shorter : (a b ra rb : List LogEntry) → a ++ ra ≡ b ++ rb → length a ≤ length b → Begins a b
begins_shorter [] b ra rb e l = (b, refl)
begins_shorter (x ∷ a) [] ra rb e l = absurd (omega arith)
begins_shorter (x ∷ a) (y ∷ b) ra rb e l = let t : a ++ ra ≡ b ++ rb = cc in let h : x ≡ y = cc in let r = begins_shorter a b ra rb t (omega arith) in (r.0, λ k. h k ∷ r.1 k)

-- of two beginnings of one log the longer is begun by both
pub both_begin : (a b h : List LogEntry) → Begins a h → Begins b h → Begins a (longer a b) × Begins b (longer a b)
both_begin a b h p q = go (leb (length a) (length b)) refl
  where
    go : (t : Bool) → leb (length a) (length b) ≡ t → Begins a (cond t b a) × Begins b (cond t b a)
    go true is = (begins_shorter a b p.0 q.0 (p.1 ∙ sym q.1) (grind (arith, nat_tests)), ([], append-nil b))
    go false is = (([], append-nil a), begins_shorter b a q.0 p.0 (q.1 ∙ sym p.1) (grind (arith, nat_tests)))

pub take_begins : (n : ℕ) (h : List LogEntry) → Begins (take n h) h
take_begins n h = (drop n h, take-append-drop n h)

-- the longer of two beginnings is the beginning of the greater length
pub longer_take : (a b : ℕ) (h : List LogEntry) → a ≤ length h → b ≤ length h → longer (take a h) (take b h) ≡ take (max a b) h
longer_take a b h la lb = let x : length (take a h) ≡ a = length-take-le a h la in let y : length (take b h) ≡ b = length-take-le b h lb in
    (λ i. cond (leb (x i) (y i)) (take b h) (take a h)) ∙ go (leb a b) refl
  where
    go : (t : Bool) → leb a b ≡ t → cond t (take b h) (take a h) ≡ take (max a b) h
    go true is = ap (λ n. take n h) (grind (arith, nat_tests))
    go false is = ap (λ n. take n h) (grind (arith, nat_tests))

pub merged_map : (M N R : Side → Branch) (ss : List Side) (d : Side) → ((i : ℕ) → i < length ss → record (M (get_or ss i d)) { seen = longer (M (get_or ss i d)).seen (N (get_or ss i d)).seen } ≡ R (get_or ss i d)) → merged_branches (map M ss) (map N ss) ≡ map R ss
merged_map M N R [] d h = refl
merged_map M N R (c ∷ cs) d h = λ k. h 0 (omega arith) k ∷ merged_map M N R cs d (λ i l. h (suc i) (omega arith)) k

-- what two guests have seen begins what is seen after a join
pub begun_both : (ss : List Side) (g n f : ℕ) → Begins (branch_in (map (branch g) ss) f).seen (branch_in (merged_branches (map (branch g) ss) (map (branch n) ss)) f).seen × Begins (branch_in (map (branch n) ss) f).seen (branch_in (merged_branches (map (branch g) ss) (map (branch n) ss)) f).seen
begun_both [] g n f = (([], refl), ([], refl))
begun_both (s ∷ ss) g n zero = both_begin (take (seen_by s g) s.log) (take (seen_by s n) s.log) s.log (take_begins (seen_by s g) s.log) (take_begins (seen_by s n) s.log)
begun_both (s ∷ ss) g n (suc f) = begun_both ss g n f
