-- The window's half meets the laws of a core that a table shows.
use Rattle.std.proofs.Common.{◌≡◌, ◌≢◌, ◌⊎◌, ℕ, ◌<◌, List, [], ◌∷◌, map, length, take, get_or, slice_get, max, false, true≢false, Option, Some, None, refl, sym, ap, ◌∙◌, subst, ⊎_elim, arith, length-set, eq-eqb, get_or-set_same, get_or-set_other}
use mathlib.Core.Logic.{dite}
use native.Mathlib.Decide.{ℕ_discrete}
use lib.ListN.{length-map}
use Rattle.seats.specs.Views.{root, guests}
use Rattle.seats.specs.Seats.{Laws}
use Rattle.window_core.specs.declared.states.Pin.{Pin}
use Rattle.window_core.specs.Window.{Side, Window, no_side, side, pins, seen_by, Deed, after}
use Rattle.window_core.specs.Good.{SideOk}
use Rattle.window_core.specs.Shown.{Branch, is_guest, is_moving, branch, listed, map_held, shown}
use Rattle.window_core.proofs.Places.{at_put}
use Rattle.window_core.proofs.Placing.{none_some}
use Rattle.window_core.proofs.Grows.{sizes_stay}
use Rattle.window_core.proofs.Deeds.{window_keeps}
use Rattle.window_core.proofs.Others.{others_see}
use Rattle.range_share.specs.Table.{Core, MayDo, done, GoodCore, home, Mine, mine, no_branch, branch_in, nothing_of, no_map, all_unseen, introduced_side, introduced, informed_side, informed, only_seen, stays_put, unmapped, just_seen, merged, window_kit}
use Rattle.range_share.proofs.LawsOfMoves.{map_map, map_same, in_map, map_listed, Alike, mapped_side, good_frame, words_frame, maps_frame, zero_take, longer_take, merged_map, begun_both}
use Rattle.range_share.proofs.Alone.{moves_after, pins_after, alone_after}

-- ---- deeds

-- a list of equal values is told by its length
blank_by : {A B : Type 0} (b : B) (xs ys : List A) → length xs ≡ length ys → map (λ _. b) xs ≡ map (λ _. b) ys
blank_by b [] [] e = refl
blank_by b [] (y ∷ ys) e = absurd (omega arith)
blank_by b (x ∷ xs) [] e = absurd (omega arith)
blank_by b (x ∷ xs) (y ∷ ys) e = ap (λ l. b ∷ l) (blank_by b xs ys (omega arith))

unseen_by : (c : Core) (h : Window) → length h.states ≡ length c.window.states → length h.sides ≡ length c.window.sides → all_unseen (record c { window = h }) ≡ all_unseen c
unseen_by c h n m = let a = blank_by false h.states c.window.states n in let b = blank_by no_branch h.sides c.window.sides m in
    λ i. record (all_unseen c) { shown = record { moving = a i; branches = b i; pins = []; maps = listed no_map (n i) } }

module _ (c : Core) (g : ℕ) (d : Deed) (l : g < guests) (good : GoodCore c) (ok : MayDo c g d) where
  good_after : GoodCore (done c g d)
  good_after = let n = (sizes_stay g c.window d).1 in let few = good.files_few in record {
    window_good = window_keeps guests c.window g l good.window_good d ok.allowed;
    files_few = omega arith;
    moves_only = λ m r. moves_after c g l good d ok m r;
    pins_only = λ m. pins_after c g l good d ok m;
    alone_seen = λ m f. alone_after c g l good d ok m f;
  }

-- ---- sides that change alike

come_alike : (n : ℕ) → Alike (introduced_side n)
come_alike n = record { holder = λ s. refl; log = λ s. refl }

told_alike : (n : ℕ) → Alike (informed_side n)
told_alike n = record { holder = λ s. refl; log = λ s. refl }

homes_same : (F : Side → Side) → ((s : Side) → home (F s) ≡ home s) → (ss : List Side) → map home (map F ss) ≡ map home ss
homes_same F same ss = map_map F home ss ∙ map_same (λ s. home (F s)) home ss no_side (λ i l. same (get_or ss i no_side))

unseen_same : (c : Core) (F : Side → Side) → all_unseen (record c { window = record c.window { sides = map F c.window.sides } }) ≡ all_unseen c
unseen_same c F = unseen_by c (record c.window { sides = map F c.window.sides }) refl (length-map c.window.sides F)

-- a guest is shown the same where it has seen as much of each file
others_same : (c : Core) (F : Side → Side) (alike : Alike F) (m : ℕ) → ((s : Side) → branch m (F s) ≡ branch m s) → mine m (record c { window = record c.window { sides = map F c.window.sides } }) ≡ mine m c
others_same c F alike m same = let h = c.window in let b = map_map F (branch m) h.sides ∙ map_same (λ s. branch m (F s)) (branch m) h.sides no_side (λ i l. same (side h i)) in let d = maps_frame F alike h m in
    λ i. record (mine m c) { shown = record (shown m h) { branches = b i; maps = d i } }

come_others : (c : Core) (n m : ℕ) → m ≢ n → mine m (introduced n c) ≡ mine m c
come_others c n m ne = others_same c (introduced_side n) (come_alike n) m (λ s. let e = get_or-set_other s.seen n m (seen_by s root) 0 ne in λ i. record (branch m s) { seen = take (e i) s.log })

told_others_same : (c : Core) (n m : ℕ) → m ≢ root → mine m (informed n c) ≡ mine m c
told_others_same c n m ne = others_same c (informed_side n) (told_alike n) m (λ s. let e = get_or-set_other s.seen root m (max (seen_by s root) (seen_by s n)) 0 ne in λ i. record (branch m s) { seen = take (e i) s.log })

-- ---- a new pass

pub not_its : (n : ℕ) (o : Option ℕ) → is_guest n o ≡ false → o ≢ Some n
not_its n None off e = none_some n e
not_its n (Some m) off e = let same : m ≡ n = cc in true≢false (sym (eq-eqb m n same) ∙ off)

nothing_at : (k : ℕ) (p : Pin) → slice_get [] k ≡ Some p → ⊥
nothing_at k p e = cc

module _ (c : Core) (n : ℕ) (l : n < guests) (good : GoodCore c) (bare : mine n c ≡ all_unseen c) where
  ok_at : (f : ℕ) → f < length c.window.sides → SideOk guests (length c.window.states) (side c.window f)
  ok_at f near = good.window_good.sides_ok f near

  bare_at : (f : ℕ) → f < length c.window.sides → branch n (side c.window f) ≡ no_branch
  bare_at f near = sym (in_map (branch n) c.window.sides f no_side no_branch near) ∙ (ap (λ (m : Mine). branch_in m.shown.branches f) bare ∙ in_map nothing_of c.window.sides f no_side no_branch near)

  no_pins : pins c.window n ≡ []
  no_pins = ap (λ (m : Mine). m.shown.pins) bare

  none_seen : (f : ℕ) → f < length c.window.sides → seen_by (side c.window f) n ≡ 0
  none_seen f near = zero_take (seen_by (side c.window f) n) (side c.window f).log ((ok_at f near).seen_within n) (ap (λ (b : Branch). b.seen) (bare_at f near))

  its_place : (f : ℕ) → f < length c.window.sides → n < length (side c.window f).seen
  its_place f near = let all = (ok_at f near).seen_all in omega arith

  -- what a guest has seen then
  come_seen : (f m : ℕ) → f < length c.window.sides → ((m ≡ n) × (seen_by (introduced_side n (side c.window f)) m ≡ seen_by (side c.window f) root)) ⊎ ((m ≢ n) × (seen_by (introduced_side n (side c.window f)) m ≡ seen_by (side c.window f) m))
  come_seen f m near = at_put (side c.window f).seen n m (seen_by (side c.window f) root) 0 (its_place f near)

  come_side : (f : ℕ) → f < length c.window.sides → SideOk guests (length c.window.states) (introduced_side n (side c.window f))
  come_side f near = let s = side c.window f in let ok = ok_at f near in let a = ok.seen_within root in let off = not_its n s.holder (ap (λ (b : Branch). b.had) (bare_at f near)) in record {
    log_sound = ok.log_sound;
    seen_all = length-set s.seen n (seen_by s root) ∙ ok.seen_all;
    holder_small = ok.holder_small;
    seen_within = λ i. let b = ok.seen_within i in ⊎_elim (λ z. let y = z.1 in omega arith) (λ z. let y = z.1 in omega arith) (come_seen f i near);
    seen_whole = λ i t. ⊎_elim (λ z. absurd (off (t ∙ ap (λ (k : ℕ). Some k) z.0))) (λ z. z.1 ∙ ok.seen_whole i t) (come_seen f i near);
  }

  come_good : GoodCore (introduced n c)
  come_good = let h = c.window in let many = length-map h.sides (introduced_side n) in let few = good.files_few in record {
    window_good = good_frame (introduced_side n) (come_alike n) h good.window_good come_side (λ g k p at. dite (ℕ_discrete g n)
        (λ e. absurd (nothing_at k p (subst (λ (ps : List Pin). slice_get ps k ≡ Some p) (ap (λ (i : ℕ). pins h i) e ∙ no_pins) at)))
        (λ ne. ⊎_elim
        (λ a. let e = ap (λ (s : Side). seen_by s g) a.0 in let y = get_or-set_other (side h p.file).seen n g (seen_by (side h p.file) root) 0 ne in omega arith)
        (λ a. let e = ap (λ (s : Side). seen_by s g) a.0 in let e' = ap (λ (s : Side). seen_by s g) a.1 in omega arith)
        (mapped_side (introduced_side n) h.sides p.file)));
    files_few = omega arith;
    moves_only = good.moves_only;
    pins_only = good.pins_only;
    alone_seen = λ g f lg off near. let near' : f < length h.sides = omega arith in let s = side h f in subst (λ (x : Side). seen_by x g ≡ length x.log) (sym (in_map (introduced_side n) h.sides f no_side no_side near'))
        (let was = good.alone_seen g f lg off near' in ⊎_elim
        (λ z. let y = z.1 in let a = (ok_at f near').seen_within root in let b = none_seen f near' in let e = ap (λ (i : ℕ). seen_by s i) z.0 in omega arith)
        (λ z. z.1 ∙ was) (come_seen f g near'));
  }

  come_mine : mine n (introduced n c) ≡ just_seen (mine root c)
  come_mine = let h = c.window in
      let a = ap (λ (m : Mine). m.shown.moving) bare ∙ sym (map_map (is_moving root) stays_put h.states) in
      let b = map_map (introduced_side n) (branch n) h.sides ∙ (map_same (λ s. branch n (introduced_side n s)) (λ s. only_seen (branch root s)) h.sides no_side (λ f near. let s = side h f in
      let had = ap (λ (x : Branch). x.had) (bare_at f near) in let e = get_or-set_same s.seen n (seen_by s root) 0 (its_place f near) in λ i. record { had = had i; seen = take (e i) s.log }) ∙ sym (map_map (branch root) only_seen h.sides)) in
      let d = maps_frame (introduced_side n) (come_alike n) h n ∙ (ap (λ (m : Mine). m.shown.maps) bare ∙ sym (map_listed (map_held root h) unmapped (length h.states))) in
      λ i. record { shown = record { moving = a i; branches = b i; pins = no_pins i; maps = d i }; movers = c.movers }

-- ---- a pass that is joined

module _ (c : Core) (n : ℕ) (good : GoodCore c) where
  ok_there : (f : ℕ) → f < length c.window.sides → SideOk guests (length c.window.states) (side c.window f)
  ok_there f near = good.window_good.sides_ok f near

  first_place : (f : ℕ) → f < length c.window.sides → root < length (side c.window f).seen
  first_place f near = let all = (ok_there f near).seen_all in omega arith

  told_seen : (f m : ℕ) → f < length c.window.sides → ((m ≡ root) × (seen_by (informed_side n (side c.window f)) m ≡ max (seen_by (side c.window f) root) (seen_by (side c.window f) n))) ⊎ ((m ≢ root) × (seen_by (informed_side n (side c.window f)) m ≡ seen_by (side c.window f) m))
  told_seen f m near = let s = side c.window f in at_put s.seen root m (max (seen_by s root) (seen_by s n)) 0 (first_place f near)

  told_side : (f : ℕ) → f < length c.window.sides → SideOk guests (length c.window.states) (informed_side n (side c.window f))
  told_side f near = let s = side c.window f in let ok = ok_there f near in let x : ℕ = max (seen_by s root) (seen_by s n) in let a = ok.seen_within root in let a' = ok.seen_within n in record {
    log_sound = ok.log_sound;
    seen_all = length-set s.seen root x ∙ ok.seen_all;
    holder_small = ok.holder_small;
    seen_within = λ i. let b = ok.seen_within i in ⊎_elim (λ z. let y = z.1 in omega arith) (λ z. let y = z.1 in omega arith) (told_seen f i near);
    seen_whole = λ i t. ⊎_elim (λ z. let y = z.1 in let w = ok.seen_whole root (t ∙ ap (λ (k : ℕ). Some k) z.0) in omega arith) (λ z. z.1 ∙ ok.seen_whole i t) (told_seen f i near);
  }

  told_good_core : GoodCore (informed n c)
  told_good_core = let h = c.window in let many = length-map h.sides (informed_side n) in let few = good.files_few in record {
    window_good = good_frame (informed_side n) (told_alike n) h good.window_good told_side (λ g k p at. ⊎_elim
        (λ a. let s = side h p.file in let e = ap (λ (x : Side). seen_by x g) a.0 in
        ⊎_elim (λ z. let y = z.1 in let w = ap (λ (i : ℕ). seen_by s i) z.0 in omega arith) (λ z. let y = z.1 in omega arith) (told_seen p.file g a.1))
        (λ a. let e = ap (λ (x : Side). seen_by x g) a.0 in let e' = ap (λ (x : Side). seen_by x g) a.1 in omega arith)
        (mapped_side (informed_side n) h.sides p.file));
    files_few = omega arith;
    moves_only = good.moves_only;
    pins_only = good.pins_only;
    alone_seen = λ g f lg off near. let near' : f < length h.sides = omega arith in let s = side h f in subst (λ (x : Side). seen_by x g ≡ length x.log) (sym (in_map (informed_side n) h.sides f no_side no_side near'))
        (let was = good.alone_seen g f lg off near' in ⊎_elim
        (λ z. let y = z.1 in let b = (ok_there f near').seen_within n in let e = ap (λ (i : ℕ). seen_by s i) z.0 in omega arith)
        (λ z. z.1 ∙ was) (told_seen f g near'));
  }

  told_mine_is : mine root (informed n c) ≡ merged (mine root c) (mine n c)
  told_mine_is = let h = c.window in
      let b = map_map (informed_side n) (branch root) h.sides ∙ sym (merged_map (branch root) (branch n) (λ s. branch root (informed_side n s)) h.sides no_side (λ f near. let s = side h f in let ok = ok_there f near in
      let e = get_or-set_same s.seen root (max (seen_by s root) (seen_by s n)) 0 (first_place f near) in
      let q = longer_take (seen_by s root) (seen_by s n) s.log (ok.seen_within root) (ok.seen_within n) ∙ sym (ap (λ (k : ℕ). take k s.log) e) in λ i. record (branch root s) { seen = q i })) in
      let d = maps_frame (informed_side n) (told_alike n) h root in
      λ i. record (mine root c) { shown = record (shown root h) { branches = b i; maps = d i } }

pub window_laws : Laws window_kit
window_laws = record {
  keeps = λ c g d l good ok. good_after c g d l good ok;
  others = λ c g n d ne l few good ok. let e = others_see guests c.window g n ne good.window_good d ok.allowed in λ i. record { shown = e i; movers = c.movers };
  unseen_after = λ c g d. unseen_by c (after c.window g d) (sizes_stay g c.window d).0 (sizes_stay g c.window d).1;
  behind_after = λ c g n d ne l good ok was. tt;
  new_good = λ c n l ne good bare. come_good c n l good bare;
  new_words = λ ws c n l ne good bare w. words_frame (introduced_side n) (come_alike n) ws c w;
  new_homes = λ c n. homes_same (introduced_side n) (λ s. refl) c.window.sides;
  new_others = come_others;
  new_mine = λ c n l ne good bare. come_mine c n l good bare;
  new_unseen = λ c n. unseen_same c (introduced_side n);
  new_behind = λ c n m ne far was. tt;
  told_good = λ c n l ne good idle idle'. told_good_core c n good;
  told_words = λ ws c n good w. words_frame (informed_side n) (told_alike n) ws c w;
  told_homes = λ c n. homes_same (informed_side n) (λ s. refl) c.window.sides;
  told_others = told_others_same;
  told_mine = λ c n l good. told_mine_is c n good;
  told_unseen = λ c n. unseen_same c (informed_side n);
  told_behind = λ c n m ne good was. tt;
  told_new = λ c n ne good. tt;
  told_begun = λ c n l good. ((λ f. (begun_both c.window.sides root n f).0), (λ f. (begun_both c.window.sides root n f).1));
}
