-- What a pass that pins, looks at targets and forgets its looks makes of its board, and what holds of every board.
use Rattle.std.proofs.Common.{◌≡◌, ◌∙◌, ap, sym, subst, refl, ℕ, zero, suc, ◌+◌, ◌-◌, ◌<◌, ◌==◌, ◌&&◌, arith, Bool, true, false, nat_lt, List, [], ◌∷◌, ◌++◌, map, length, set, replicate, Option, Some, None, option_map, is_some, if◌then◌else◌, eq-eqb, ne_eqb, inl, inr}
use Rattle.std.specs.Prelude.{IfSome, IsSome, sum, unwrap_or}
use Rattle.std.specs.List.{list_all}
use Rattle.std.proofs.lemmas.Bool.{cases_lt}
use Rattle.std.proofs.lemmas.List.{get_or_past}
use Rattle.plain_file.specs.Counts.{more_by_one}
use Rattle.page_map.specs.declared.pages.Mode.{Mode}
use Rattle.page_map.specs.declared.pages.Mode.TheVariants as modes
use Rattle.page_map.specs.declared.ranges.Placed.{Placed}
use Rattle.page_map.specs.declared.ranges.Target.{Target}
use Rattle.page_map.specs.Logs.{Slot, slot_in, placed_at, placed_of, sound}
use Rattle.page_map.specs.Board.{MapView, Hands, Noted as BoardNoted, log_at}
use Rattle.range_tree.specs.Ranges.{IsSoundRanges, IsPinnedAt, IsInHand, HoldsRange, IsMapped, IsAtLeast, Targets, CanSettle, CanUpgrade, IsRaisable, with_pin, with_pins, unpinned, forgot, is_enough, is_noted_blocked, slot_target, no_target, tree_slot, tree_of, moved_of, range_count, look_at}
use Rattle.range_tree.specs.Ranges.{pins_on as board_pins, pinned_in as board_pinned, has_swept as board_swept}
use Rattle.range_tree.proofs.Entries.{slot_placed}
use Rattle.window_core.specs.declared.states.Pin.{Pin}
use Rattle.window_core.specs.Window.{look, pin, unpin, target, target_of, pins_on, unpinned as pins_left}
use Rattle.window_core.specs.Good.{AtMost}
use Rattle.window_core.specs.Shown.{listed}
use Rattle.range_share.specs.Table.{Core, Mine, Noted, Look, Aim, Pinned}
use Rattle.range_share.specs.Steps.{Always, IsShowing, HasIn, PinnedIn, branch_of, map_shown, ranges_of, aimed, pinned_noted}
use Rattle.range_share.specs.Known.{Known, IsDeed, Aimed, PinsOne, IsPinNoted, look_in, word_in, aim_in, pinned_in, is_looked, is_stuck, is_blocked_word, has_swept, forgetting, pin_of}
use Rattle.range_share.specs.Boards.{first_true, has_tree, log_of, noted_of, hands_of, ranges_view, board_of, PinsSeen}
use Rattle.range_share.proofs.Parts.{at_listed, length_listed}
use Rattle.range_share.proofs.Listing.{listed_set}
use Rattle.range_share.proofs.Boarding.{showing, stays, ranges_now, pinned_same, aims_same, pinned_kept, looks_kept, targets_kept, hands_now, pins_kept, whole_board, ranges_logs, log_is, files_count, its_tree, tree_is, tree_of_is, slot_is, no_slot, its_move, range_count_is, pins_at}
use Rattle.range_share.proofs.BoardsCore.{tree_near, ranges_few, seen_sound, InTree, in_tree, slot_of_placed, moved_apart, moved_shown, placed_shown, placed_near, pin_near, pin_file, pin_tree, unpinned_moved}
use Rattle.range_share.proofs.BoardsPages.{is_mapped, mapped_is, range_shown, holds_range}
use Rattle.range_share.proofs.BoardsMaps.{pages_long}
use Rattle.range_share.proofs.BoardsPins.{no_pin, pins_total, more_on, on_it, off_it, fewer_same, fewer_else}
use Rattle.range_share.proofs.BoardsSeen.{IsPinPlaced, pin_placed}

-- ---- pins

pub pins_near : (p : Known) (r : ℕ) → 0 < board_pins (board_of p) r → (r < ranges_of p.view) × (0 < pins_on r p.view.mine.shown.pins)
pins_near p r some = elim (cases_lt r (ranges_of p.view)) [
  | inl near ↦ (near, subst (λ n. 0 < n) (pins_at p r near) some)
  | inr past ↦ absurd (let n = range_count_is p in let none = get_or_past (board_of p).hands.pins r 0 (omega (arith, past, n)) in omega (arith, none, some))
]

pub few_pins : (p : Known) → IsShowing p.view → sum (board_of p).hands.pins < 64 → length p.view.mine.shown.pins < 64
few_pins p s few = let t = pins_total (ranges_of p.view) p.view.mine.shown.pins (pin_near p.view s) in omega (arith, t, few)

-- what the tree that is had has in a range
pub record IsInTree (p : Known) (r : ℕ) : Type 0 where
  pub file : ℕ
  pub slot : Slot
  pub tree : (hands_of p.view).tree ≡ Some file
  pub is : tree_slot (board_of p) r ≡ Some slot
  pub has : HasIn p.view.mine file slot.chunk (placed_of slot)
  pub range : slot.range ≡ r

slot_there : (o : Option Slot) → IsSome o → (t : Slot) × (o ≡ Some t)
slot_there None h = absurd (cc)
slot_there (Some t) h = (t, refl)

pub tree_has : (p : Known) (r : ℕ) → IsShowing p.view → IsSome (tree_slot (board_of p) r) → IsInTree p r
tree_has p r s some = go (hands_of p.view).tree refl
  where
    go : (o : Option ℕ) → (hands_of p.view).tree ≡ o → IsInTree p r
    go None e = absurd (let h = subst (λ (o : Option Slot). IsSome o) (no_slot p r e) some in cc)
    go (Some f) e =
        let x = slot_there (tree_slot (board_of p) r) some in
        let at : slot_in (branch_of p.view f).seen r ≡ Some x.0 = sym (slot_is p f r e) ∙ x.1 in
        let t : InTree p.view s f r x.0 = in_tree p.view s f r x.0 (its_tree p.view f e).1 at in
        record { file = f; slot = x.0; tree = e; is = x.1; has = t.has; range = t.range }

pinned_more : (x : List Pinned) (l : Pinned) (n : ℕ) → listed (λ i. pinned_in i (l ∷ x)) n ≡ set (listed (λ i. pinned_in i x) n) l.range l.target
pinned_more x l n =
    listed_set (λ i. pinned_in i x) (λ i. pinned_in i (l ∷ x)) n l.range (λ i ne. ap (λ b. if b then l.target else pinned_in i x) (ne_eqb l.range i (λ e. ne (sym e))))
    ∙ ap (set (listed (λ i. pinned_in i x) n) l.range) (ap (λ b. if b then l.target else pinned_in l.range x) (eq-eqb l.range l.range refl))

module _ (p q : Known) (f c : ℕ) (x : Placed) (has : HasIn p.view.mine f c x) (d : IsDeed (pin f c x) (pinned_noted p.view.noted f c x) Always p q) where
  pins_now : (hands_of q.view).pins ≡ set (hands_of p.view).pins x.range (board_pins (board_of p) x.range + 1)
  pins_now =
      let st = stays (pin f c x) (pinned_noted p.view.noted f c x) Always p q d in
      let s = showing (pin f c x) (pinned_noted p.view.noted f c x) Always p q d in
      let ps = p.view.mine.shown.pins in
      let y : Pin = pin_of p.view.mine f c x in
      let near = placed_near p.view s f c x has in
      let more : q.view.mine.shown.pins ≡ ps ++ y ∷ [] = ap (λ (m : Mine). m.shown.pins) d.effect in
      let all : (hands_of q.view).pins ≡ listed (λ i. pins_on i (ps ++ y ∷ [])) (ranges_of p.view) = λ j. listed (λ i. pins_on i (more j)) (st.ranges j) in
      let here : pins_on x.range (ps ++ y ∷ []) ≡ board_pins (board_of p) x.range + 1 = (let a = more_on x.range ps y in let b = on_it x.range y refl in let e = pins_at p x.range near in omega (arith, a, b, e)) in
      all ∙ (listed_set (λ i. pins_on i ps) (λ i. pins_on i (ps ++ y ∷ [])) (ranges_of p.view) x.range
      (λ i ne. let a = more_on i ps y in let b = off_it i y (λ e. ne (sym e)) in omega (arith, a, b))
      ∙ ap (set (hands_of p.view).pins x.range) here)

  pub pins_board : board_of q ≡ with_pin (board_of p) x.range
  unfolding slot_target
  pins_board =
      let n : Noted = pinned_noted p.view.noted f c x in
      let st = stays (pin f c x) n Always p q d in
      let s = showing (pin f c x) n Always p q d in
      let v : MapView = board_of p in
      let tree = tree_is p.view f s (tree_near p.view s f has.had) has.had in
      let slot : tree_slot v x.range ≡ Some (slot_placed c x) = slot_is p f x.range tree ∙ slot_of_placed p.view s f c x has in
      let is_target : target_of f c x.mode ≡ slot_target (tree_of v) (tree_slot v x.range) = λ i. slot_target (sym (tree_of_is p f tree) i) (sym slot i) in
      let ts : List Target = set (ranges_view p.view).pinned x.range (slot_target (tree_of v) (tree_slot v x.range)) in
      let pinned : (ranges_view q.view).pinned ≡ ts =
      pinned_same n q.view.noted (ranges_of p.view) (ranges_of q.view) (ap (λ (y : Noted). y.pinned) st.noted) st.ranges
      ∙ (pinned_more p.view.noted.pinned (record { range = x.range; target = target_of f c x.mode }) (ranges_of p.view) ∙ ap (set (ranges_view p.view).pinned x.range) is_target) in
      let h : Hands = with_pins v x.range (board_pins v x.range + 1) in
      let e = d.effect in
      let hs = hands_now n p q st h (ap (λ (m : Mine). first_true 0 (map has_tree m.shown.branches)) e) (ap (λ (m : Mine). first_true 0 m.shown.moving) e) pins_now in
      let is = ranges_now n p q st (map log_of p.view.mine.shown.branches) ts (ranges_view p.view).looks (ranges_view p.view).targets p.view.noted.targeted
      (ap (λ (m : Mine). map log_of m.shown.branches) e) pinned (looks_kept n p q st refl) (targets_kept n p q st refl) refl refl refl in
      whole_board n p q st h (record (ranges_view p.view) { pinned = ts }) hs is (ap (λ (m : Mine). m.shown.maps) e)

pub pins : (p q : Known) (r : ℕ) (t : IsInTree p r) → PinsOne r p q → board_of q ≡ with_pin (board_of p) r
pins p q r t h = pins_board p q t.file t.slot.chunk (placed_of t.slot) t.has (h t.file t.slot.chunk (placed_of t.slot) t.has t.range) ∙ ap (with_pin (board_of p)) t.range

module _ (p q : Known) (r : ℕ) (near : r < ranges_of p.view) (d : IsDeed (unpin r) p.view.noted Always p q) where
  pub unpins : board_of q ≡ unpinned (board_of p) r
  unpins =
      let st = stays (unpin r) p.view.noted Always p q d in
      let v : MapView = board_of p in
      let ps = p.view.mine.shown.pins in
      let e = d.effect in
      let fewer : q.view.mine.shown.pins ≡ pins_left r ps = ap (λ (m : Mine). m.shown.pins) e in
      let all : (hands_of q.view).pins ≡ listed (λ i. pins_on i (pins_left r ps)) (ranges_of p.view) = λ j. listed (λ i. pins_on i (fewer j)) (st.ranges j) in
      let here : pins_on r (pins_left r ps) ≡ board_pins v r - 1 = (let a = fewer_same r ps in let b = pins_at p r near in omega (arith, a, b)) in
      let left : (hands_of q.view).pins ≡ set (hands_of p.view).pins r (board_pins v r - 1) =
      all ∙ (listed_set (λ i. pins_on i ps) (λ i. pins_on i (pins_left r ps)) (ranges_of p.view) r (λ i ne. fewer_else r i ps ne) ∙ ap (set (hands_of p.view).pins r) here) in
      let h : Hands = with_pins v r (board_pins v r - 1) in
      let hs = hands_now p.view.noted p q st h (ap (λ (m : Mine). first_true 0 (map has_tree m.shown.branches)) e) (ap (λ (m : Mine). first_true 0 m.shown.moving) e) left in
      let is = ranges_logs p q st (map log_of p.view.mine.shown.branches) (ap (λ (m : Mine). map log_of m.shown.branches) e) in
      whole_board p.view.noted p q st h (ranges_view p.view) hs is (ap (λ (m : Mine). m.shown.maps) e)

-- ---- targets

enough_at : (a b : Mode) → AtMost a b → is_enough a b ≡ true
unfolding is_enough
enough_at modes.R b h = refl
enough_at modes.W modes.R h = absurd (let x = h refl in cc)
enough_at modes.W modes.W h = refl

pinned_at : (p : Known) (r : ℕ) → r < ranges_of p.view → board_pinned (board_of p) r ≡ pinned_in r p.view.noted.pinned
pinned_at p r near = at_listed (λ i. pinned_in i p.view.noted.pinned) (ranges_of p.view) r no_target near

target_pinned : (p : Known) (r : ℕ) (t : Option Target) → r < ranges_of p.view → IsPinNoted p.view r → PinnedIn p.view.mine r t → (w : Target) × (t ≡ Some w) × IsAtLeast (board_pinned (board_of p) r) w
target_pinned p r t near n h =
    let x = h n.at n.the_pin n.had n.range in
    let y : Pin = n.the_pin in
    let is : target_of y.file y.chunk y.mode ≡ board_pinned (board_of p) r = sym n.noted ∙ sym (pinned_at p r near) in
    (target_of y.file y.chunk x.0, x.1, subst (λ z. IsAtLeast z (target_of y.file y.chunk x.0)) is (record { same_file = refl; same_chunk = refl; enough = enough_at y.mode x.0 x.2 }))

aims_more : (x : List Aim) (l : Aim) (n : ℕ) → listed (λ i. aim_in i (l ∷ x)) n ≡ set (listed (λ i. aim_in i x) n) l.range l.target
aims_more x l n =
    listed_set (λ i. aim_in i x) (λ i. aim_in i (l ∷ x)) n l.range (λ i ne. ap (λ b. if b then l.target else aim_in i x) (ne_eqb l.range i (λ e. ne (sym e))))
    ∙ ap (set (listed (λ i. aim_in i x) n) l.range) (ap (λ b. if b then l.target else aim_in l.range x) (eq-eqb l.range l.range refl))

pub targets : (p q : Known) (r : ℕ) (t : Option Target) → r < ranges_of p.view → ((i : ℕ) → 0 < pins_on i p.view.mine.shown.pins → IsPinNoted p.view i) → Aimed r t p q → Targets (board_of p) r t (board_of q)
targets p q r t near noted a =
    let x : Noted = aimed p.view.noted r t in
    let P : Core → Type 0 = λ c. t ≡ target c.window r in
    let st = stays (look r) x P p q a.deed in
    let e : q.view.mine ≡ p.view.mine = a.deed.effect in
    let pin_of_it : 0 < board_pins (board_of p) r → (w : Target) × (t ≡ Some w) × IsAtLeast (board_pinned (board_of p) r) w = λ some. target_pinned p r t near (noted r (subst (λ n. 0 < n) (pins_at p r near) some)) a.pinned in
    let ts : List (Option Target) = set (ranges_view p.view).targets r t in
    let aims : (ranges_view q.view).targets ≡ ts =
    aims_same x q.view.noted (ranges_of p.view) (ranges_of q.view) (ap (λ (y : Noted). y.aims) st.noted) st.ranges ∙ aims_more p.view.noted.aims (record { range = r; target = t }) (ranges_of p.view) in
    let hs = hands_now x p q st (hands_of p.view) (ap (λ (m : Mine). first_true 0 (map has_tree m.shown.branches)) e) (ap (λ (m : Mine). first_true 0 m.shown.moving) e) (pins_kept x p q st (ap (λ (m : Mine). m.shown.pins) e)) in
    let is = ranges_now x p q st (map log_of p.view.mine.shown.branches) (ranges_view p.view).pinned (ranges_view p.view).looks ts (more_by_one p.view.noted.targeted)
    (ap (λ (m : Mine). map log_of m.shown.branches) e) (pinned_kept x p q st refl) (looks_kept x p q st refl) aims refl refl refl in
    record {
      held = λ h. let y = range_shown p r h in subst (λ z. IsMapped (board_of p) r z) (a.held y.0 y.1) (is_mapped p r y.0 y.1);
      some = λ h. subst (λ (o : Option Target). IsSome o) (sym (pin_of_it h).1) refl;
      pinned = λ h. subst (λ (o : Option Target). IfSome o (IsAtLeast (board_pinned (board_of p) r))) (sym (pin_of_it h).1) (pin_of_it h).2;
      counted = whole_board x p q st (hands_of p.view) (record (ranges_view p.view) { targets = ts; targeted = more_by_one p.view.noted.targeted }) hs is (ap (λ (m : Mine). m.shown.maps) e);
    }

-- ---- looks that are noted, and forgotten

word_of_look : (r : ℕ) (ls : List Look) → word_in r ls ≡ option_map (λ (l : Look). l.word) (look_in r ls)
word_of_look r [] = refl
word_of_look r (l ∷ ls) = go (l.range == r) (word_of_look r ls)
  where
    go : (b : Bool) → word_in r ls ≡ option_map (λ (l : Look). l.word) (look_in r ls) → (if b then Some l.word else word_in r ls) ≡ option_map (λ (l : Look). l.word) (if b then Some l else look_in r ls)
    go true e = refl
    go false e = e

map_twice : (o : Option Look) → option_map (λ (n : BoardNoted). n.word) (option_map noted_of o) ≡ option_map (λ (l : Look). l.word) o
map_twice None = refl
map_twice (Some l) = refl

pub looked_word : (p : Known) (r : ℕ) → r < ranges_of p.view → word_in r p.view.noted.looks ≡ option_map (λ (n : BoardNoted). n.word) (look_at (board_of p) r)
looked_word p r near =
    word_of_look r p.view.noted.looks
    ∙ (sym (map_twice (look_in r p.view.noted.looks)) ∙ ap (option_map (λ (n : BoardNoted). n.word)) (sym (at_listed (λ i. option_map noted_of (look_in i p.view.noted.looks)) (ranges_of p.view) r None near)))

no_looks : (n : ℕ) → ◌≡◌ {A = List (Option BoardNoted)} (listed (λ i. option_map noted_of (look_in i [])) n) (replicate n None)
no_looks zero = refl
no_looks (suc n) = ap (λ l. None ∷ l) (no_looks n)

all_some : (F : ℕ → Option BoardNoted) (test : Option BoardNoted → Bool) (G : ℕ → Bool) (n : ℕ) → ((i : ℕ) → test (F i) ≡ G i) → list_all test (listed F n) ≡ list_all (λ b. b) (listed G n)
all_some F test G zero same = refl
all_some F test G (suc n) same = let rest = all_some (λ i. F (suc i)) test (λ i. G (suc i)) n (λ i. same (suc i)) in λ j. same 0 j && rest j

some_look : (o : Option Look) → is_some (option_map noted_of o) ≡ is_some (option_map (λ (l : Look). l.word) o)
some_look None = refl
some_look (Some l) = refl

blocked_look : (o : Option Look) → is_noted_blocked (option_map noted_of o) ≡ is_blocked_word (option_map (λ (l : Look). l.word) o)
unfolding is_noted_blocked
blocked_look None = refl
blocked_look (Some l) = refl

pub forgets : (p : Known) → board_of (record p { view = record p.view { noted = forgetting (ranges_of p.view) p.view.noted } }) ≡ forgot (board_of p)
forgets p =
    let n : ℕ = ranges_of p.view in
    let x : Noted = p.view.noted in
    let F : ℕ → Option BoardNoted = λ i. option_map noted_of (look_in i x.looks) in
    let count = range_count_is p in
    let looked : has_swept (is_looked x.looks) n ≡ board_swept is_some (board_of p) =
    λ j. nat_lt 0 (sym count j) && sym (all_some F is_some (is_looked x.looks) n (λ i. some_look (look_in i x.looks) ∙ ap is_some (sym (word_of_look i x.looks)))) j in
    let stuck : has_swept (is_stuck x.looks) n ≡ board_swept is_noted_blocked (board_of p) =
    λ j. nat_lt 0 (sym count j) && sym (all_some F is_noted_blocked (is_stuck x.looks) n (λ i. blocked_look (look_in i x.looks) ∙ ap is_blocked_word (sym (word_of_look i x.looks)))) j in
    let none : listed (λ i. option_map noted_of (look_in i [])) n ≡ replicate (range_count (board_of p)) None = no_looks n ∙ ap (λ k. replicate k None) (sym count) in
    λ j. record (board_of p) {
      ranges = record (ranges_view p.view) {
        looks = none j;
        sweeps = if looked j then more_by_one x.sweeps else x.sweeps;
        rounds = if stuck j then more_by_one x.rounds else x.rounds;
      };
    }

-- ---- what holds of every board

module _ (p : Known) (s : IsShowing p.view) where
  tree_ok : (o : Option ℕ) → (hands_of p.view).tree ≡ o → IfSome o (λ f. f < length (board_of p).ranges.logs)
  tree_ok None e = tt
  tree_ok (Some f) e = let near = (its_tree p.view f e).0 in let n = files_count p in omega (arith, near, n)

  moves_ok : (o : Option ℕ) → (hands_of p.view).moves ≡ o → IfSome o (λ r. (r < range_count (board_of p)) × (board_pins (board_of p) r ≡ 0))
  moves_ok None e = tt
  moves_ok (Some r) e =
      let m = its_move p.view r e in
      let near = m.0 in
      let n = range_count_is p in
      (omega (arith, near, n), pins_at p r m.0 ∙ no_pin r p.view.mine.shown.pins (λ k x at. unpinned_moved p.view s r k x m.1 at))

  apart_ok : (r : ℕ) → (hands_of p.view).moves ≡ Some r → (o : Option ℕ) → (hands_of p.view).tree ≡ o → tree_slot (board_of p) r ≡ None
  apart_ok r e None t = no_slot p r t
  apart_ok r e (Some f) t = slot_is p f r t ∙ moved_apart p.view s r f (its_move p.view r e).1 (its_tree p.view f t).1

  held_ok : (r : ℕ) → IsInHand (board_of p) r → HoldsRange (board_of p) r
  held_ok r h = elim h [
    | inl e ↦ holds_range p r (target s.core.window r) (moved_shown p.view s r (its_move p.view r e).1)
    | inr some ↦
        let t = tree_has p r s some in
        subst (HoldsRange (board_of p)) t.range (holds_range p t.slot.range (target s.core.window t.slot.range) (placed_shown p.view s t.file t.slot.chunk (placed_of t.slot) t.has))
  ]

  -- a pin's target is what is noted of its range
  noted_ok : (r : ℕ) → r < ranges_of p.view → (n : IsPinNoted p.view r) → target_of n.the_pin.file n.the_pin.chunk n.the_pin.mode ≡ board_pinned (board_of p) r
  noted_ok r near n = sym n.noted ∙ sym (pinned_at p r near)

  pin_ok_at : (r : ℕ) → r < ranges_of p.view → PinsSeen p.view → IsPinNoted p.view r → IsPinnedAt (board_of p) r (board_pinned (board_of p) r)
  pin_ok_at r near was n =
      let x : Pin = n.the_pin in
      let b : IsPinPlaced p.view x = pin_placed p.view n.at x s n.had (was n.at x n.had) in
      let file = pin_file p.view s n.at x n.had in
      let count = files_count p in
      subst (IsPinnedAt (board_of p) r) (noted_ok r near n) (record {
        known = omega (arith, file, count);
        slot = b.slot;
        placed = ap (λ l. slot_in l r) (log_is p x.file) ∙ (ap (slot_in (branch_of p.view x.file).seen) (sym n.range) ∙ b.placed);
        same_chunk = b.chunk;
        enough = b.enough;
      })

  pin_tree_ok : (r : ℕ) → r < ranges_of p.view → IsPinNoted p.view r → IsSome (tree_slot (board_of p) r) → (hands_of p.view).tree ≡ Some (board_pinned (board_of p) r).file
  pin_tree_ok r near n some =
      let t = tree_has p r s some in
      let same = pin_tree p.view s n.at t.file t.slot.chunk n.the_pin (placed_of t.slot) n.had t.has (t.range ∙ sym n.range) in
      t.tree ∙ ap (λ i. Some i) (same ∙ ap (λ (z : Target). z.file) (noted_ok r near n))

  pub sound_board : PinsSeen p.view → ((i : ℕ) → 0 < pins_on i p.view.mine.shown.pins → IsPinNoted p.view i) → IsSoundRanges (board_of p)
  sound_board was noted =
      let n = range_count_is p in
      let few = ranges_few p.view s in
      let pages = pages_long p s in
      record {
        plain = refl;
        few = omega (arith, n, few);
        pages = omega (arith, n, pages);
        pinned = length_listed (λ i. pinned_in i p.view.noted.pinned) (ranges_of p.view) ∙ sym n;
        looks = length_listed (λ i. option_map noted_of (look_in i p.view.noted.looks)) (ranges_of p.view) ∙ sym n;
        targets = length_listed (λ i. aim_in i p.view.noted.aims) (ranges_of p.view) ∙ sym n;
        tree = tree_ok (hands_of p.view).tree refl;
        moves = moves_ok (hands_of p.view).moves refl;
        apart = λ r e. apart_ok r e (hands_of p.view).tree refl;
        logs = λ f near. subst (λ k. sound k (log_at (board_of p) f) ≡ true) (sym n) (subst (λ l. sound (ranges_of p.view) l ≡ true) (sym (log_is p f)) (seen_sound p.view s f (subst (λ k. f < k) (files_count p) near)));
        held = λ r near h. held_ok r h;
        pins = λ r near some. let x = pins_near p r some in pin_ok_at r x.0 was (noted r x.1);
        pin_tree = λ r some t. let x = pins_near p r some in pin_tree_ok r x.0 (noted r x.1) t;
      }

-- ---- what a settlement and an upgrade need

pub settle_map : (p : Known) (f r c : ℕ) (mode : Mode) → (hands_of p.view).tree ≡ Some f → (hands_of p.view).moves ≡ Some r → CanSettle (board_of p) c mode →
    (map_shown p.view.mine r ≡ Some (Some (target_of f c mode))) × (placed_at (branch_of p.view f).seen c ≡ None)
settle_map p f r c mode tree moves can =
    let file = tree_of_is p f tree in
    let range : moved_of (board_of p) ≡ r = ap (λ (o : Option ℕ). unwrap_or o 0) moves in
    let m = subst (λ i. IsMapped (board_of p) r (Some (target_of i c mode))) file (subst (λ i. IsMapped (board_of p) i (Some (target_of (tree_of (board_of p)) c mode))) range can.mapped) in
    (mapped_is p r (Some (target_of f c mode)) m, ap (λ l. placed_at l c) (sym (ap (log_at (board_of p)) file ∙ log_is p f)) ∙ can.free)

pub record IsUpgradable (p : Known) (f c : ℕ) : Type 0 where
  pub placed : Placed
  pub has : HasIn p.view.mine f c placed
  pub reading : placed.mode ≡ modes.R
  pub mapped : map_shown p.view.mine placed.range ≡ Some (Some (target_of f c modes.W))

pub raise_map : (p : Known) (f c : ℕ) → (hands_of p.view).tree ≡ Some f → CanUpgrade (board_of p) c → IsUpgradable p f c
unfolding IsRaisable
raise_map p f c tree can = go (placed_at (log_at (board_of p) (tree_of (board_of p))) c) refl can.raisable
  where
    go : (o : Option Placed) → placed_at (log_at (board_of p) (tree_of (board_of p))) c ≡ o → IsRaisable (board_of p) c o → IsUpgradable p f c
    go None e h = absurd h
    go (Some x) e h =
        let file = tree_of_is p f tree in
        record {
          placed = x;
          has = record { had = (its_tree p.view f tree).1; placed = ap (λ l. placed_at l c) (sym (ap (log_at (board_of p)) file ∙ log_is p f)) ∙ e };
          reading = h.0;
          mapped = mapped_is p x.range (Some (target_of f c modes.W)) (subst (λ i. IsMapped (board_of p) x.range (Some (target_of i c modes.W))) file h.1);
        }
