-- What the calls of a pass that look, and those that take and give back trees and ranges, make of its board.
use Rattle.std.proofs.Common.{◌≡◌, ◌∙◌, ap, sym, subst, refl, ℕ, ◌<◌, arith, true, List, [], ◌∷◌, ◌++◌, map, length, length-append, append-nil, set, get_or, Option, Some, None, option_map, if◌then◌else◌, eq-eqb, ne_eqb, get_or-set_same}
use lib.Seq.{map-set}
use Rattle.std.proofs.lemmas.Bool.{lt-ltb}
use Rattle.std.proofs.lemmas.List.{length-map}
use Rattle.page_map.specs.declared.pages.Mode.{Mode}
use Rattle.page_map.specs.declared.ranges.LogEntry.{LogEntry}
use Rattle.page_map.specs.declared.ranges.RangeWord.{RangeWord}
use Rattle.page_map.specs.declared.ranges.RangeWord.TheVariants as words
use Rattle.page_map.specs.Logs.{slot_in}
use Rattle.page_map.specs.Board.{Hands, Noted as BoardNoted}
use Rattle.range_tree.specs.Ranges.{Enters, Leaves, Sees, SaysSlot, Looks, looked, names_file}
use Rattle.range_tree.specs.Ranges.{pins_on as board_pins}
use Rattle.window_core.specs.Window.{enter, leave, look, word_at}
use Rattle.window_core.specs.Shown.{Branch, listed}
use Rattle.range_share.specs.Packed.{WordFits}
use Rattle.range_share.specs.Table.{Core, Mine, Noted, Look, no_branch, branch_in}
use Rattle.range_share.specs.Steps.{Always, IsShowing, Treeless, TellsIn, branch_of, ranges_of, files_of, saw, look_of}
use Rattle.range_share.specs.Known.{Known, IsDeed, Entered, Looked, look_in, entered_branch, left_branch}
use Rattle.range_share.specs.Boards.{first_true, has_tree, log_of, noted_of, hands_of, ranges_view, board_of, PinsSeen}
use Rattle.range_share.proofs.Listing.{listed_set, set_first, set_none}
use Rattle.range_share.proofs.Boarding.{Stays, showing, stays, looks_same, ranges_now, pinned_kept, targets_kept, hands_now, pins_kept, but_table, whole_board, ranges_logs, had_at, log_is, files_count, its_tree, its_move, move_is, seen_put, more_put, pins_at}
use Rattle.range_share.proofs.BoardsCore.{one_tree}
use Rattle.range_share.proofs.BoardsPages.{keeps_held}
use Rattle.range_share.proofs.BoardsSeen.{put_grows, pins_grow}

-- ---- trees

none_more : (xs ys : List LogEntry) → xs ++ ys ≡ xs → ys ≡ []
none_more [] ys e = e
none_more (x ∷ xs) [] e = refl
none_more (x ∷ xs) (y ∷ ys) e = absurd (let n = ap length e in let m = length-append xs (y ∷ ys) in omega (arith, n, m))

module _ (p q : Known) (f : ℕ) (near : f < files_of p.view) where
  bs : List Branch
  bs = p.view.mine.shown.branches

  long : f < length (map has_tree p.view.mine.shown.branches)
  long = subst (λ n. f < n) (sym (length-map p.view.mine.shown.branches has_tree)) near

  pub enters : Entered f p q → Treeless p.view → Enters (board_of p) f (board_of q)
  enters e bare =
      let st = stays (enter f) p.view.noted Always p q e.deed in
      let more : List LogEntry = e.deed.effect.0 in
      let ch = e.deed.effect.1 in
      let b : Branch = entered_branch more (branch_of p.view f) in
      let logs = map log_of p.view.mine.shown.branches in
      let l : List (List LogEntry) = set logs f (get_or logs f [] ++ more) in
      let h : Hands = record (hands_of p.view) { tree = Some f } in
      let tree : (hands_of q.view).tree ≡ Some f = ap (λ x. first_true 0 (map has_tree x)) ch.branches_are ∙ (ap (first_true 0) (map-set has_tree p.view.mine.shown.branches f b)
      ∙ set_first (map has_tree p.view.mine.shown.branches) f long (λ i ne. had_at p.view i ∙ bare i)) in
      let has = hands_now p.view.noted p q st h tree (ap (first_true 0) ch.moving_is) (pins_kept p.view.noted p q st ch.pins_are) in
      let is = ranges_logs p q st l (ap (map log_of) ch.branches_are ∙ more_put p.view.mine.shown.branches f b more refl) in
      record {
        more = more;
        alone = λ o. none_more (branch_of p.view f).seen more
            (sym (ap (λ x. (branch_in x f).seen) ch.branches_are ∙ ap (λ (x : Branch). x.seen) (get_or-set_same p.view.mine.shown.branches f b no_branch near)) ∙ e.alone o);
        becomes = record { rest = but_table p.view.noted p q st h (record (ranges_view p.view) { logs = l }) has is; pages = keeps_held p q ch.maps_long ch.maps_kept };
      }

  pub enters_pins : Entered f p q → PinsSeen p.view → PinsSeen q.view
  enters_pins e was = let ch = e.deed.effect.1 in
      pins_grow p.view q.view ch.pins_are (put_grows p.view.mine q.view.mine f (entered_branch e.deed.effect.0 (branch_of p.view f)) e.deed.effect.0 near ch.branches_are refl) was

  pub leaves : IsDeed (leave f) p.view.noted Always p q → (branch_of p.view f).had ≡ true → Leaves (board_of p) (board_of q)
  leaves e had =
      let st = stays (leave f) p.view.noted Always p q e in
      let s = showing (leave f) p.view.noted Always p q e in
      let ch = e.effect in
      let b : Branch = left_branch (branch_of p.view f) in
      let h : Hands = record (hands_of p.view) { tree = None } in
      let tree : (hands_of q.view).tree ≡ None = ap (λ x. first_true 0 (map has_tree x)) ch.branches_are ∙ (ap (first_true 0) (map-set has_tree p.view.mine.shown.branches f b)
      ∙ set_none (map has_tree p.view.mine.shown.branches) f long (λ i ne. had_at p.view i ∙ one_tree p.view s f had i ne)) in
      let has = hands_now p.view.noted p q st h tree (ap (first_true 0) ch.moving_is) (pins_kept p.view.noted p q st ch.pins_are) in
      let is = ranges_logs p q st (map log_of p.view.mine.shown.branches) (ap (map log_of) ch.branches_are ∙ seen_put p.view.mine.shown.branches f b refl) in
      record { rest = but_table p.view.noted p q st h (ranges_view p.view) has is; pages = keeps_held p q ch.maps_long ch.maps_kept }

  pub leaves_pins : IsDeed (leave f) p.view.noted Always p q → PinsSeen p.view → PinsSeen q.view
  leaves_pins e was =
      pins_grow p.view q.view e.effect.pins_are (put_grows p.view.mine q.view.mine f (left_branch (branch_of p.view f)) [] near e.effect.branches_are (sym (append-nil (branch_of p.view f).seen))) was

-- ---- looks

names_known : (n : ℕ) (w : RangeWord) → WordFits w → ((f c pins : ℕ) (mode : Mode) → w ≡ words.Mapped f c mode pins → f < n) → names_file n w ≡ true
unfolding names_file
names_known n words.Free fits near = refl
names_known n (words.Moving g) fits near = refl
names_known n (words.Mapped f c mode pins) fits near = rw (lt-ltb f n (near f c pins mode refl), lt-ltb c 32 fits.1) refl

pub sees : (p : Known) (r : ℕ) (w : RangeWord) → IsShowing p.view → r < ranges_of p.view → TellsIn p.view.guest p.view.mine r w → Sees (board_of p) r w
sees p r w s near t =
    let own = pins_at p r near in
    let count = files_count p in
    let more = t.own_pins in
    record {
      moves = λ e. t.own_moved (its_move p.view r e).1;
      own = λ e. move_is p.view r s near (t.moved_own e);
      pins = omega (arith, own, more);
      names = subst (λ n. names_file n w ≡ true) (sym count) (names_known (files_of p.view) w t.fits t.names);
      tree = λ f e. subst (λ l. SaysSlot f (slot_in l r) w) (sym (log_is p f)) (t.tree f (its_tree p.view f e).1);
      alone = λ o. record {
        pins = (t.alone o).pins ∙ sym own;
        mover = (t.alone o).mover;
        logs = λ f l. subst (λ x. SaysSlot f (slot_in x r) w) (sym (log_is p f)) ((t.alone o).logs f (subst (λ n. f < n) count l));
      };
    }

-- a look more
looks_more : (x : List Look) (l : Look) (n : ℕ) → listed (λ i. option_map noted_of (look_in i (l ∷ x))) n ≡ set (listed (λ i. option_map noted_of (look_in i x)) n) l.range (Some (noted_of l))
looks_more x l n =
    listed_set (λ i. option_map noted_of (look_in i x)) (λ i. option_map noted_of (look_in i (l ∷ x))) n l.range
    (λ i ne. ap (λ b. option_map noted_of (if b then Some l else look_in i x)) (ne_eqb l.range i (λ e. ne (sym e))))
    ∙ ap (λ o. set (listed (λ i. option_map noted_of (look_in i x)) n) l.range (option_map noted_of o)) (ap (λ b. if b then Some l else look_in l.range x) (eq-eqb l.range l.range refl))

-- the board with a look noted, where the pass is shown the same
pub looked_board : (p q : Known) (r : ℕ) (w : RangeWord) (x : Noted) → Stays x p q → r < ranges_of p.view → q.view.mine ≡ p.view.mine →
    x ≡ record (saw p.view.noted p.view.mine r w) { words = x.words } → board_of q ≡ looked (board_of p) r w
looked_board p q r w x st near same e =
    let l : Look = look_of p.view.mine r w in
    let was : List (Option BoardNoted) = (ranges_view p.view).looks in
    let ls : List (Option BoardNoted) = set was r (Some (record { word = w; own = board_pins (board_of p) r })) in
    let noted : (ranges_view q.view).looks ≡ ls =
    looks_same (saw p.view.noted p.view.mine r w) q.view.noted (ranges_of p.view) (ranges_of q.view) (ap (λ (y : Noted). y.looks) st.noted ∙ ap (λ (y : Noted). y.looks) e) st.ranges
    ∙ (looks_more p.view.noted.looks l (ranges_of p.view) ∙ ap (λ n. set was r (Some (record { word = w; own = n }))) (sym (pins_at p r near))) in
    let has = hands_now x p q st (hands_of p.view) (ap (λ (m : Mine). first_true 0 (map has_tree m.shown.branches)) same) (ap (λ (m : Mine). first_true 0 m.shown.moving) same)
    (pins_kept x p q st (ap (λ (m : Mine). m.shown.pins) same)) in
    let is = ranges_now x p q st (map log_of p.view.mine.shown.branches) (ranges_view p.view).pinned ls (ranges_view p.view).targets p.view.noted.targeted
    (ap (λ (m : Mine). map log_of m.shown.branches) same) (pinned_kept x p q st (ap (λ (y : Noted). y.pinned) e)) noted (targets_kept x p q st (ap (λ (y : Noted). y.aims) e))
    (ap (λ (y : Noted). y.targeted) e) (ap (λ (y : Noted). y.sweeps) e) (ap (λ (y : Noted). y.rounds) e) in
    whole_board x p q st (hands_of p.view) (record (ranges_view p.view) { looks = ls }) has is (ap (λ (m : Mine). m.shown.maps) same)

pub looks : (p q : Known) (r : ℕ) (w : RangeWord) → r < ranges_of p.view → Looked r w p q → Looks (board_of p) r w (board_of q)
looks p q r w near l =
    let x : Noted = saw p.view.noted p.view.mine r w in
    let P : Core → Type 0 = λ c. w ≡ word_at c.window r in
    record {
      seen = sees p r w (showing (look r) x P p q l.deed) near l.tells;
      noted = looked_board p q r w x (stays (look r) x P p q l.deed) near l.deed.effect refl;
    }
