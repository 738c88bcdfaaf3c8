-- What a pass that takes ranges, settles, upgrades and frees them makes of its board.
use Rattle.std.proofs.Common.{◌≡◌, ◌∙◌, ap, sym, subst, refl, ℕ, ◌<◌, ◌==◌, ◌&&◌, arith, Bool, true, false, true≢false, List, [], ◌∷◌, ◌++◌, map, length, append-nil, set, get_or, Option, Some, None, if◌then◌else◌, eq-eqb}
use Rattle.std.specs.Prelude.{Result, Ok, Err, unwrap_or}
use lib.Seq.{set-get_or}
use Rattle.std.proofs.lemmas.Bool.{and_parts, eqb-true}
use Rattle.plain_file.specs.declared.refusals.Memory.{Memory}
use Rattle.page_map.specs.declared.pages.Mode.{Mode}
use Rattle.page_map.specs.declared.ranges.LogEntry.{LogEntry}
use Rattle.page_map.specs.declared.ranges.LogEntry.TheVariants as entries
use Rattle.page_map.specs.declared.ranges.RangeWord.{RangeWord}
use Rattle.page_map.specs.declared.ranges.RangeWord.TheVariants as words
use Rattle.page_map.specs.declared.ranges.Placed.{Placed}
use Rattle.page_map.specs.Logs.{Slot, slot_in, placed_at}
use Rattle.page_map.specs.Board.{MapView, Hands, log_at}
use Rattle.range_tree.specs.Trees.{place_entry, remove_entry, upgrade_entry}
use Rattle.range_tree.specs.Ranges.{Becomes, SaysSlot, IsTaken, IsRefused, Takes, Settles, settled, is_takeable, is_of_file, pins_in, removal, taken, tree_slot, tree_of, moved_of, with_moves, upgraded_in, upgrade_of}
use Rattle.window_core.specs.Window.{look, settle_free, settle_mapped, upgrade, word_at}
use Rattle.window_core.specs.Shown.{Branch}
use Rattle.range_share.specs.Table.{Mine, Noted, branch_in}
use Rattle.range_share.specs.Steps.{Always, IsShowing, AtRest, HasIn, TellsIn, branch_of, moves_at, ranges_of, may_take_in, saw, saw_for_take, take_of}
use Rattle.range_share.specs.Known.{Known, IsDeed, Took, Refused, Changes, Effect, grown_branch, with_branch}
use Rattle.range_share.specs.Known.{Takes as PassTakes, Settles as PassSettles}
use Rattle.range_share.specs.Boards.{first_true, has_tree, log_of, hands_of, ranges_view, board_of, PinsSeen}
use Rattle.range_share.proofs.Listing.{set_first, set_none}
use Rattle.range_share.proofs.Boarding.{Stays, showing, stays, hands_now, pins_kept, but_table, whole_board, ranges_logs, ranges_words, may_same, log_is, its_tree, tree_is, tree_of_is, slot_is, no_slot, had_put, more_put, pins_at}
use Rattle.range_share.proofs.BoardsCore.{one_moved, tree_near}
use Rattle.range_share.proofs.BoardsLogs.{slot_range}
use Rattle.range_share.proofs.BoardsPages.{keeps_held}
use Rattle.range_share.proofs.BoardsSeen.{same_grows, put_grows, pins_grow, pins_same}
use Rattle.range_share.proofs.BoardsTurns.{sees, looked_board}

-- ---- words that may be taken

takeable_is : (p : Known) (w : RangeWord) → IsShowing p.view → may_take_in p.view.mine w ≡ true → is_takeable (hands_of p.view).tree w ≡ true
unfolding is_takeable
takeable_is p words.Free s may = refl
takeable_is p (words.Moving g) s may = may
takeable_is p (words.Mapped f c mode pins) s may =
    let both = and_parts (pins == 0) (branch_of p.view f).had may in
    let t = tree_is p.view f s (tree_near p.view s f both.1) both.1 in
    rw t (rw both.0 (rw (eq-eqb f f refl) refl))

untakeable_is : (p : Known) (w : RangeWord) → may_take_in p.view.mine w ≡ false → is_takeable (hands_of p.view).tree w ≡ false
unfolding is_takeable
untakeable_is p words.Free may = may
untakeable_is p (words.Moving g) may = refl
untakeable_is p (words.Mapped f c mode pins) may = go (hands_of p.view).tree refl
  where
    off : (a b d : Bool) → (a ≡ true → d ≡ true) → (b && d) ≡ false → (a && b) ≡ false
    off true true d h e = absurd (true≢false (sym (h refl) ∙ e))
    off true false d h e = refl
    off false b d h e = refl

    go : (o : Option ℕ) → (hands_of p.view).tree ≡ o → is_takeable o (words.Mapped f c mode pins) ≡ false
    go None e = refl
    go (Some t) e = off (t == f) (pins == 0) (branch_of p.view f).had (λ is. ap (λ i. (branch_of p.view i).had) (sym (eqb-true t f is)) ∙ (its_tree p.view t e).1) may

-- the word of a free range in the tree that is had, and of one that is placed there
free_slot : (f : ℕ) (o : Option Slot) → SaysSlot f o words.Free → o ≡ None
unfolding SaysSlot is_of_file
free_slot f None e = refl
free_slot f (Some t) e = absurd (cc)

mapped_slot : (f c pins : ℕ) (mode : Mode) (o : Option Slot) → SaysSlot f o (words.Mapped f c mode pins) → (t : Slot) × (o ≡ Some t)
unfolding SaysSlot is_of_file
mapped_slot f c pins mode None e = absurd (true≢false (sym (eq-eqb f f refl) ∙ e))
mapped_slot f c pins mode (Some t) e = (t, refl)

removed_none : (p : Known) (r : ℕ) → TellsIn p.view.guest p.view.mine r words.Free → removal (tree_slot (board_of p) r) ≡ []
unfolding removal
removed_none p r t = go (hands_of p.view).tree refl
  where
    go : (o : Option ℕ) → (hands_of p.view).tree ≡ o → removal (tree_slot (board_of p) r) ≡ []
    go None e = ap removal (no_slot p r e)
    go (Some f) e = ap removal (slot_is p f r e ∙ free_slot f (slot_in (branch_of p.view f).seen r) (t.tree f (its_tree p.view f e).1))

removed_one : (p : Known) (r f c pins : ℕ) (mode : Mode) → (hands_of p.view).tree ≡ Some f → (branch_of p.view f).had ≡ true → TellsIn p.view.guest p.view.mine r (words.Mapped f c mode pins) →
    removal (tree_slot (board_of p) r) ≡ entries.Remove r ∷ []
unfolding removal
removed_one p r f c pins mode e had t =
    let x = mapped_slot f c pins mode (slot_in (branch_of p.view f).seen r) (t.tree f had) in
    ap removal (slot_is p f r e ∙ x.1) ∙ ap (λ n. entries.Remove n ∷ []) (slot_range (branch_of p.view f).seen r x.0 x.1)

none_under : (a b : ℕ) → a ≡ b → b ≡ 0 → a ≡ 0
none_under a b e z = e ∙ z

-- ---- a range that is taken

-- as the one deed makes it
module _ (p q : Known) (r : ℕ) (near : r < ranges_of p.view) (rest : AtRest p.view) (x : Noted) (same : x ≡ record p.view.noted { words = x.words }) (st : Stays x p q) where
  moves_now : q.view.mine.shown.moving ≡ set p.view.mine.shown.moving r true → (hands_of q.view).moves ≡ Some r
  moves_now e = ap (first_true 0) e ∙ set_first p.view.mine.shown.moving r near (λ i ne. rest i)

  taken_free : TellsIn p.view.guest p.view.mine r words.Free → Changes (set p.view.mine.shown.moving r true) p.view.mine.shown.branches p.view.mine.shown.pins p.view.mine q.view.mine → Becomes (board_of p) (taken (board_of p) r) (board_of q)
  taken_free t ch =
      let logs = map log_of p.view.mine.shown.branches in
      let f : ℕ = tree_of (board_of p) in
      let l : List (List LogEntry) = set logs f (get_or logs f [] ++ removal (tree_slot (board_of p) r)) in
      let h : Hands = record (hands_of p.view) { moves = Some r } in
      let none : l ≡ logs = ap (λ y. set logs f (get_or logs f [] ++ y)) (removed_none p r t) ∙ (ap (set logs f) (append-nil (get_or logs f [])) ∙ set-get_or logs f []) in
      let has = hands_now x p q st h (ap (λ x. first_true 0 (map has_tree x)) ch.branches_are) (moves_now ch.moving_is) (pins_kept x p q st ch.pins_are) in
      let is = ranges_words x p q st same l (ap (map log_of) ch.branches_are ∙ sym none) in
      record { rest = but_table x p q st h (record (ranges_view p.view) { logs = l }) has is; pages = keeps_held p q ch.maps_long ch.maps_kept }

  taken_mapped : (f c pins : ℕ) (mode : Mode) → IsShowing p.view → (branch_of p.view f).had ≡ true → TellsIn p.view.guest p.view.mine r (words.Mapped f c mode pins) →
      Changes (set p.view.mine.shown.moving r true) (with_branch p.view.mine f (grown_branch (remove_entry r) (branch_of p.view f))) p.view.mine.shown.pins p.view.mine q.view.mine → Becomes (board_of p) (taken (board_of p) r) (board_of q)
  taken_mapped f c pins mode s had t ch =
      let bs = p.view.mine.shown.branches in
      let logs = map log_of bs in
      let b : Branch = grown_branch (remove_entry r) (branch_of p.view f) in
      let tree = tree_is p.view f s (tree_near p.view s f had) had in
      let l : List (List LogEntry) = set logs (tree_of (board_of p)) (get_or logs (tree_of (board_of p)) [] ++ removal (tree_slot (board_of p) r)) in
      let h : Hands = record (hands_of p.view) { moves = Some r } in
      let here : set logs f (get_or logs f [] ++ entries.Remove r ∷ []) ≡ l =
      ap (λ y. set logs f (get_or logs f [] ++ y)) (sym (removed_one p r f c pins mode tree had t)) ∙ ap (λ i. set logs i (get_or logs i [] ++ removal (tree_slot (board_of p) r))) (sym (tree_of_is p f tree)) in
      let has = hands_now x p q st h (ap (λ x. first_true 0 (map has_tree x)) ch.branches_are ∙ ap (first_true 0) (had_put bs f b refl)) (moves_now ch.moving_is) (pins_kept x p q st ch.pins_are) in
      let is = ranges_words x p q st same l (ap (map log_of) ch.branches_are ∙ (more_put bs f b (entries.Remove r ∷ []) refl ∙ here)) in
      record { rest = but_table x p q st h (record (ranges_view p.view) { logs = l }) has is; pages = keeps_held p q ch.maps_long ch.maps_kept }

  taken_by : (w : RangeWord) → IsShowing p.view → may_take_in p.view.mine w ≡ true → TellsIn p.view.guest p.view.mine r w → Effect (take_of r w) p.view.mine q.view.mine → Becomes (board_of p) (taken (board_of p) r) (board_of q)
  taken_by words.Free s may t e = taken_free t e
  taken_by (words.Moving g) s may t e = absurd (true≢false (sym may))
  taken_by (words.Mapped f c mode pins) s may t e = taken_mapped f c pins mode s (and_parts (pins == 0) (branch_of p.view f).had may).1 t e

  taken_pins : (w : RangeWord) → IsShowing p.view → may_take_in p.view.mine w ≡ true → Effect (take_of r w) p.view.mine q.view.mine → PinsSeen p.view → PinsSeen q.view
  taken_pins words.Free s may e was = pins_grow p.view q.view e.pins_are (same_grows p.view.mine q.view.mine e.branches_are) was
  taken_pins (words.Moving g) s may e was = absurd (true≢false (sym may))
  taken_pins (words.Mapped f c mode pins) s may e was =
      pins_grow p.view q.view e.pins_are (put_grows p.view.mine q.view.mine f (grown_branch (remove_entry r) (branch_of p.view f)) (remove_entry r ∷ []) (tree_near p.view s f (and_parts (pins == 0) (branch_of p.view f).had may).1) e.branches_are refl) was

-- a word that may be taken counts no pin
no_pins_in : (m : Mine) (w : RangeWord) → may_take_in m w ≡ true → pins_in w ≡ 0
unfolding pins_in
no_pins_in m words.Free may = refl
no_pins_in m (words.Moving g) may = absurd (true≢false (sym may))
no_pins_in m (words.Mapped f c mode pins) may = eqb-true pins 0 (and_parts (pins == 0) (branch_in m.shown.branches f).had may).0

module _ (p q : Known) (r : ℕ) (near : r < ranges_of p.view) where
  saw_same : (w : RangeWord) → may_take_in p.view.mine w ≡ true → saw_for_take p.view.noted p.view.mine r w ≡ record p.view.noted { words = (saw_for_take p.view.noted p.view.mine r w).words }
  saw_same w may = λ i. record (saw_for_take p.view.noted p.view.mine r w) { looks = if may i then p.view.noted.looks else (saw p.view.noted p.view.mine r w).looks }

  -- what both steps of a take keep, as one from the first
  took_stays : (t : Took r p q) → Stays (saw_for_take p.view.noted p.view.mine r t.word) p q
  took_stays t =
      let a = stays (look r) (saw_for_take p.view.noted p.view.mine r t.word) (λ c. t.word ≡ word_at c.window r) p t.between t.looked in
      let b = stays (take_of r t.word) t.between.view.noted (λ c. t.word ≡ word_at c.window r) t.between q t.taken in
      record {
        kept = b.kept ∙ ap (λ (k : Known). record k { view = q.view }) a.kept;
        guest = b.guest ∙ a.guest;
        movers = b.movers ∙ a.movers;
        noted = b.noted ∙ a.noted;
        ranges = b.ranges ∙ a.ranges;
        files = b.files ∙ a.files;
      }

  took_effect : (t : Took r p q) → Effect (take_of r t.word) p.view.mine q.view.mine
  took_effect t = subst (λ (m : Mine). Effect (take_of r t.word) m q.view.mine) t.looked.effect t.taken.effect

  took_showing : Took r p q → IsShowing p.view
  took_showing t = showing (look r) (saw_for_take p.view.noted p.view.mine r t.word) (λ c. t.word ≡ word_at c.window r) p t.between t.looked

  pub takes_one : AtRest p.view → Took r p q → IsTaken (board_of p) r (board_of q)
  takes_one rest t =
      let s = took_showing t in
      let own = pins_at p r near in
      let none = no_pins_in p.view.mine t.word t.may in
      let few = t.tells.own_pins in
      record {
        word = t.word;
        seen = sees p r t.word s near t.tells;
        takeable = takeable_is p t.word s t.may;
        unpinned = omega (arith, own, none, few);
        becomes = taken_by p q r near rest (saw_for_take p.view.noted p.view.mine r t.word) (saw_same t.word t.may) (took_stays t) t.word s t.may t.tells (took_effect t);
      }

  refused_stays : (w : RangeWord) → Refused r w p q → Stays q.view.noted p q
  refused_stays w t = record {
    kept = t.kept;
    guest = t.guest_same;
    movers = ap (λ (m : Mine). m.movers) t.mine_same;
    noted = refl;
    ranges = ap (λ (m : Mine). length m.shown.moving) t.mine_same;
    files = ap (λ (m : Mine). length m.shown.branches) t.mine_same;
  }

  pub refuses : (w : RangeWord) → IsShowing p.view → Refused r w p q → IsRefused (board_of p) r w (board_of q)
  refuses w s t = record {
    untakeable = untakeable_is p w t.may_not;
    looks = record { seen = sees p r w s near t.tells; noted = looked_board p q r w q.view.noted (refused_stays w t) near t.mine_same t.noted };
  }

  pub takes : (o : Result (Unit {0}) RangeWord) → IsShowing p.view → AtRest p.view → PassTakes r p o q → Takes (board_of p) r o (board_of q)
  unfolding Takes
  takes (Ok u) s rest t = takes_one rest t
  takes (Err w) s rest t = refuses w s t

  pub takes_table : (o : Result (Unit {0}) RangeWord) → PassTakes r p o q → q.table ≡ p.table
  takes_table (Ok u) t = ap (λ (k : Known). k.table) (took_stays t).kept
  takes_table (Err w) t = ap (λ (k : Known). k.table) t.kept

  pub takes_may : (o : Result (Unit {0}) RangeWord) → PassTakes r p o q → p.view.guest < p.view.mine.movers → q.view.guest < q.view.mine.movers
  takes_may (Ok u) t may = let st = took_stays t in let g = st.guest in let m = st.movers in omega (arith, g, m, may)
  takes_may (Err w) t may = let st = refused_stays w t in let g = st.guest in let m = st.movers in omega (arith, g, m, may)

  pub takes_pins : (o : Result (Unit {0}) RangeWord) → AtRest p.view → PassTakes r p o q → PinsSeen p.view → PinsSeen q.view
  takes_pins (Ok u) rest t was = taken_pins p q r near rest (saw_for_take p.view.noted p.view.mine r t.word) (saw_same t.word t.may) (took_stays t) t.word (took_showing t) t.may (took_effect t) was
  takes_pins (Err w) rest t was = pins_same p.view q.view t.mine_same was

-- ---- settling

module _ (p q : Known) (r : ℕ) (near : r < ranges_of p.view) (m : moves_at p.view r ≡ true) where
  stops : IsShowing p.view → q.view.mine.shown.moving ≡ set p.view.mine.shown.moving r false → (hands_of q.view).moves ≡ None
  stops s e = ap (first_true 0) e ∙ set_none p.view.mine.shown.moving r near (λ i ne. one_moved p.view s r m i ne)

  pub frees : IsDeed (settle_free r) p.view.noted Always p q → Becomes (board_of p) (with_moves (board_of p) None) (board_of q)
  frees d =
      let st = stays (settle_free r) p.view.noted Always p q d in
      let s = showing (settle_free r) p.view.noted Always p q d in
      let ch = d.effect in
      let h : Hands = record (hands_of p.view) { moves = None } in
      let has = hands_now p.view.noted p q st h (ap (λ x. first_true 0 (map has_tree x)) ch.branches_are) (stops s ch.moving_is) (pins_kept p.view.noted p q st ch.pins_are) in
      let is = ranges_logs p q st (map log_of p.view.mine.shown.branches) (ap (map log_of) ch.branches_are) in
      record { rest = but_table p.view.noted p q st h (ranges_view p.view) has is; pages = keeps_held p q ch.maps_long ch.maps_kept }

  pub frees_pins : IsDeed (settle_free r) p.view.noted Always p q → PinsSeen p.view → PinsSeen q.view
  frees_pins d was = pins_grow p.view q.view d.effect.pins_are (same_grows p.view.mine q.view.mine d.effect.branches_are) was

  module _ (f c : ℕ) (mode : Mode) (had : (branch_of p.view f).had ≡ true) where
    settles_one : IsDeed (settle_mapped r f c mode) p.view.noted Always p q → (hands_of p.view).tree ≡ Some f → (hands_of p.view).moves ≡ Some r → Becomes (board_of p) (settled (board_of p) c mode) (board_of q)
    settles_one d tree moves =
        let st = stays (settle_mapped r f c mode) p.view.noted Always p q d in
        let s = showing (settle_mapped r f c mode) p.view.noted Always p q d in
        let ch = d.effect in
        let bs = p.view.mine.shown.branches in
        let logs = map log_of bs in
        let b : Branch = grown_branch (place_entry c r mode) (branch_of p.view f) in
        let h : Hands = record (hands_of p.view) { moves = None } in
        let l : List (List LogEntry) = set logs (tree_of (board_of p)) (get_or logs (tree_of (board_of p)) [] ++ entries.Place c (moved_of (board_of p)) mode ∷ []) in
        let moved : r ≡ moved_of (board_of p) = sym (ap (λ (o : Option ℕ). unwrap_or o 0) moves) in
        let file : f ≡ tree_of (board_of p) = sym (tree_of_is p f tree) in
        let here : set logs f (get_or logs f [] ++ entries.Place c r mode ∷ []) ≡ l = λ i. set logs (file i) (get_or logs (file i) [] ++ entries.Place c (moved i) mode ∷ []) in
        let has = hands_now p.view.noted p q st h (ap (λ x. first_true 0 (map has_tree x)) ch.branches_are ∙ ap (first_true 0) (had_put bs f b refl)) (stops s ch.moving_is) (pins_kept p.view.noted p q st ch.pins_are) in
        let is = ranges_logs p q st l (ap (map log_of) ch.branches_are ∙ (more_put bs f b (entries.Place c r mode ∷ []) refl ∙ here)) in
        record { rest = but_table p.view.noted p q st h (record (ranges_view p.view) { logs = l }) has is; pages = keeps_held p q ch.maps_long ch.maps_kept }

    pub settles : (o : Result ℕ Memory) → (hands_of p.view).tree ≡ Some f → (hands_of p.view).moves ≡ Some r → PassSettles r f c mode p o q → Settles (board_of p) c mode o (board_of q)
    unfolding Settles
    settles (Ok place) tree moves (at, d) = record { at = at ∙ ap length (sym (ap (log_at (board_of p)) (tree_of_is p f tree) ∙ log_is p f)); becomes = settles_one d tree moves }
    settles (Err e) tree moves d = ap board_of d

    pub settles_table : (o : Result ℕ Memory) → PassSettles r f c mode p o q → q.table ≡ p.table
    settles_table (Ok place) (at, d) = ap (λ (k : Known). k.table) d.kept
    settles_table (Err e) d = ap (λ (k : Known). k.table) d

    pub settles_may : (o : Result ℕ Memory) → PassSettles r f c mode p o q → p.view.guest < p.view.mine.movers → q.view.guest < q.view.mine.movers
    settles_may (Ok place) (at, d) may = may_same p.view.noted p q (stays (settle_mapped r f c mode) p.view.noted Always p q d) may
    settles_may (Err e) d may = subst (λ (k : Known). k.view.guest < k.view.mine.movers) (sym d) may

    pub settles_pins : (o : Result ℕ Memory) → PassSettles r f c mode p o q → PinsSeen p.view → PinsSeen q.view
    settles_pins (Ok place) (at, d) was =
        let s = showing (settle_mapped r f c mode) p.view.noted Always p q d in
        pins_grow p.view q.view d.effect.pins_are (put_grows p.view.mine q.view.mine f (grown_branch (place_entry c r mode) (branch_of p.view f)) (place_entry c r mode ∷ []) (tree_near p.view s f had) d.effect.branches_are refl) was
    settles_pins (Err e) d was = subst (λ (k : Known). PinsSeen k.view) (sym d) was

-- ---- upgrades

module _ (p q : Known) (f c : ℕ) (x : Placed) (has : HasIn p.view.mine f c x) (d : IsDeed (upgrade f c x) p.view.noted Always p q) where
  pub upgrades : (hands_of p.view).tree ≡ Some f → board_of q ≡ upgraded_in (board_of p) c
  unfolding upgrade_of
  upgrades tree =
      let st = stays (upgrade f c x) p.view.noted Always p q d in
      let e = d.effect in
      let bs = p.view.mine.shown.branches in
      let logs = map log_of bs in
      let b : Branch = grown_branch (upgrade_entry x.range) (branch_of p.view f) in
      let v : MapView = board_of p in
      let l : List (List LogEntry) = set logs (tree_of v) (get_or logs (tree_of v) [] ++ upgrade_of (placed_at (log_at v (tree_of v)) c)) in
      let file = tree_of_is p f tree in
      let found : placed_at (log_at v (tree_of v)) c ≡ Some x = ap (λ i. placed_at (log_at v i) c) file ∙ (ap (λ y. placed_at y c) (log_is p f) ∙ has.placed) in
      let here : set logs f (get_or logs f [] ++ entries.Upgrade x.range ∷ []) ≡ l =
      λ i. set logs (sym file i) (get_or logs (sym file i) [] ++ upgrade_of (sym found i)) in
      let bs_are : q.view.mine.shown.branches ≡ set bs f b = ap (λ (m : Mine). m.shown.branches) e in
      let hs = hands_now p.view.noted p q st (hands_of p.view) (ap (λ y. first_true 0 (map has_tree y)) bs_are ∙ ap (first_true 0) (had_put bs f b refl)) (ap (λ (m : Mine). first_true 0 m.shown.moving) e)
      (pins_kept p.view.noted p q st (ap (λ (m : Mine). m.shown.pins) e)) in
      let is = ranges_logs p q st l (ap (map log_of) bs_are ∙ (more_put bs f b (entries.Upgrade x.range ∷ []) refl ∙ here)) in
      whole_board p.view.noted p q st (hands_of p.view) (record (ranges_view p.view) { logs = l }) hs is (ap (λ (m : Mine). m.shown.maps) e)

  pub upgrades_pins : PinsSeen p.view → PinsSeen q.view
  upgrades_pins was =
      let s = showing (upgrade f c x) p.view.noted Always p q d in
      pins_grow p.view q.view (ap (λ (m : Mine). m.shown.pins) d.effect)
      (put_grows p.view.mine q.view.mine f (grown_branch (upgrade_entry x.range) (branch_of p.view f)) (upgrade_entry x.range ∷ []) (tree_near p.view s f has.had) (ap (λ (m : Mine). m.shown.branches) d.effect) refl) was
