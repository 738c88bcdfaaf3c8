-- What the calls of a pass answer and leave.
use Rattle.std.proofs.Common.{◌≡◌, ◌≢◌, ℕ, zero, suc, ◌<◌, ◌==◌, ◌&&◌, List, [], ◌∷◌, ◌++◌, length, set, get_or, replicate, true, false, Bool, true≢false, cond, Option, Some, None, refl, sym, ap, ◌∙◌, subst, ⊎_elim, inl, inr, ◌⊎◌, arith, eq-eqb, ne_eqb}
use Rattle.std.specs.Prelude.{IfSome, is_some}
use mathlib.Core.Logic.{dite}
use native.Mathlib.Decide.{ℕ_discrete}
use Rattle.std.proofs.lemmas.Bool.{eqb-true}
use Rattle.seats.specs.Views.{guests, AllIn}
use Rattle.atomic_table.specs.Seated.{TableId}
use Rattle.page_map.specs.declared.pages.Mode.{Mode}
use Rattle.page_map.specs.declared.ranges.LogEntry.{LogEntry}
use Rattle.page_map.specs.declared.ranges.Placed.{Placed}
use Rattle.page_map.specs.declared.ranges.RangeWord.{RangeWord}
use Rattle.page_map.specs.declared.ranges.RangeWord.TheVariants as words
use Rattle.page_map.specs.declared.ranges.Target.{Target}
use Rattle.page_map.specs.Logs.{Slot, placed_at, slot_in}
use Rattle.range_tree.specs.Trees.{place_entry, upgrade_entry, remove_entry}
use Rattle.range_tree.specs.Ranges.{SaysSlot, is_of_file, pins_in}
use Rattle.window_core.specs.Window.{side, target, word_at, Deed, enter, leave, look, take_free, take_mapped, set_map, settle_mapped, settle_free, pin, unpin, upgrade}
use Rattle.window_core.specs.Shown.{Branch}
use Rattle.window_core.proofs.Reading.{moved_free}
use Rattle.window_core.proofs.Keeps.{mapped_inside}
use Rattle.range_share.specs.Table.{Core, Mine, Noted, Knows, Look, branch_in, others_may}
use Rattle.range_share.specs.Steps.{Chair, DoesSo, DoesAt, Always, Treeless, AtRest, HasIn, TellsIn, Tells, LogsBack, PinnedIn, HeldIn, may_take_in, branch_of, moves_at, ranges_of, files_of, look_of, saw, saw_for_take, aimed, pinned_noted, take_of}
use Rattle.range_share.specs.Known.{known, Sound, InHand, IsDeed, Entered, Looked, Took, Refused, Aimed, HasChunk, Loses, may_take_by, no_looks, word_in, entered_branch, left_branch, grown_branch, with_branch, pin_of}
use Rattle.range_share.proofs.Parts.{seen_is, holder_is, has_is, moves_is, ranges_are}
use Rattle.range_share.proofs.Knowing.{guest_kept, numbers_kept, effect_of, entered_log}
use Rattle.range_share.proofs.Sounding.{pins_same, pins_more, pins_fewer, PinsNoted, moves_taken, moves_settled, look_more, had_file, held_at, hand_now, hand_left, small_of, eff_of, noted_is, sound_after, still_in_hand, still_moves, still_looks, still_pins}

-- ---- what a call was

pub deed_of : (s t : Chair) (d : Deed) (x : Noted) (P : Core → Type 0) → t.table_id ≡ s.table_id → s.me.0.guest < guests → DoesSo d x P s.me.0 t.me.0 → IsDeed d x P (known s) (known t)
deed_of s t d x P table small does = record {
  kept = λ i. record { table = table i; view = t.me.0 };
  does = does;
  effect = effect_of d x P s.me.0 t.me.0 does small;
}

pub always : (d : Deed) (x : Noted) (P : Core → Type 0) (v w : Knows) → DoesSo d x P v w → DoesSo d x Always v w
always d x P v w t = record { core = t.core; good = t.good; part = t.part; allowed = t.allowed; is = t.is; tells = tt }

-- a word may be taken, by the tree in hand, exactly where it may by what is shown
pub may_take_is : (s : Chair) (file : ℕ) (hand : Option (List LogEntry)) (w : RangeWord) → InHand s file hand → may_take_by (is_some hand) file w ≡ may_take_in s.me.0.mine w
may_take_is s file hand words.Free h = refl
may_take_is s file hand (words.Moving g) h = refl
may_take_is s file hand (words.Mapped f c m n) h = ap (λ (b : Bool). n == 0 && b) (go hand h)
  where
    go : (o : Option (List LogEntry)) → InHand s file o → (is_some o && f == file) ≡ (branch_of s.me.0 f).had
    go None x = sym (x.0 f)
    go (Some log) x = dite (ℕ_discrete f file) (λ e. eq-eqb f file e ∙ sym (ap (λ (k : ℕ). (branch_of s.me.0 k).had) e ∙ x.had)) (λ ne. ne_eqb f file ne ∙ sym (x.alone f ne))

both_true : (a b : Bool) → (a && b) ≡ true → (a ≡ true) × (b ≡ true)
both_true true b e = (refl, e)
both_true false b e = absurd (true≢false (sym e))

-- ---- a step that only notes something

module _ (s t : Chair) (x : Noted) (table : t.table_id ≡ s.table_id) (is : t.me ≡ (record s.me.0 { noted = x }, s.me.1)) (hand : Option (List LogEntry)) (file guest : ℕ) (moves : Option ℕ) (ranges files : ℕ) (looks : List (Option RangeWord)) (ok : Sound s hand file guest moves ranges files looks) where
  view_now : t.me.0 ≡ record s.me.0 { noted = x }
  view_now = ap (λ m. m.0) is

  pub sound_noted : (looks' : List (Option RangeWord)) → x.pinned ≡ s.me.0.noted.pinned → ((r : ℕ) → r < ranges → get_or looks' r None ≡ word_in r x.looks) → Sound t hand file guest moves ranges files looks'
  sound_noted looks' pinned looked = let k = ok.stands in let w = ap (λ (z : TableId). z.words) table in let u = ap (λ (z : TableId). z.slots) table in
      let a = k.wide in let b = k.few_files in let c = k.few_ranges in let e = k.files in
      let n : ranges_of t.me.0 ≡ ranges_of s.me.0 = ap ranges_of view_now in let m : files_of t.me.0 ≡ files_of s.me.0 = ap files_of view_now in record {
        stands = record { same = refl; wide = omega arith; few_files = omega arith; few_ranges = omega arith; files = m ∙ (e ∙ sym u); live = ap (λ (v : Knows). v.live) view_now ∙ k.live };
        guest_is = ok.guest_is ∙ sym (ap (λ (v : Knows). v.guest) view_now);
        small = ok.small;
        in_hand = go hand ok.in_hand;
        moves_is = λ r. ap (λ (v : Knows). moves_at v r) view_now ∙ ok.moves_is r;
        moves_near = ok.moves_near;
        ranges_are = ok.ranges_are ∙ sym n;
        files_are = ok.files_are ∙ sym m;
        looks_are = λ r l. looked r l ∙ sym (ap (λ (v : Knows). word_in r v.noted.looks) view_now);
        showing = let h = ok.showing in record { core = h.core; good = h.good; part = subst (λ (v : Knows). v.mine ≡ Rattle.range_share.specs.Table.mine v.guest h.core) (sym view_now) h.part };
        pins_noted = pins_same s.me.0 t.me.0 (ap (λ (v : Knows). v.mine.shown.pins) view_now) (ap (λ (v : Knows). v.noted.pinned) view_now ∙ pinned) ok.pins_noted;
      }
    where
      go : (o : Option (List LogEntry)) → InHand s file o → InHand t file o
      go None h = ((λ f. ap (λ (v : Knows). (branch_of v f).had) view_now ∙ h.0 f), ap (λ m. m.1) is ∙ h.1)
      go (Some log) h = record {
        had = ap (λ (v : Knows). (branch_of v file).had) view_now ∙ h.had;
        alone = λ i ne. ap (λ (v : Knows). (branch_of v i).had) view_now ∙ h.alone i ne;
        taken = ap (λ m. m.1) is ∙ h.taken;
        inside = let l = h.inside in let u = ap (λ (z : TableId). z.slots) table in omega arith;
        log_is = h.log_is ∙ sym (ap (λ (v : Knows). (branch_of v file).seen) view_now);
      }

-- ---- deeds

module _ (s t : Chair) (hand : Option (List LogEntry)) (file guest : ℕ) (moves : Option ℕ) (ranges files : ℕ) (looks : List (Option RangeWord)) (ok : Sound s hand file guest moves ranges files looks) (table : t.table_id ≡ s.table_id) where
  pub guest_small : s.me.0.guest < guests
  guest_small = subst (λ (n : ℕ). n < guests) ok.guest_is ok.small

  -- a file of the table
  near_file : (f : ℕ) → f < s.table_id.slots → f < files_of s.me.0
  near_file f l = let e = ok.stands.files in omega arith

  -- the tree was taken
  module _ (f : ℕ) (log : List LogEntry) (d : DoesSo (enter f) s.me.0.noted (λ c. log ≡ (side c.window f).log) s.me.0 t.me.0) where
    abbrev EP : Core → Type 0
    EP c = log ≡ (side c.window f).log

    log_seen : (branch_of t.me.0 f).seen ≡ log
    log_seen = entered_log f log s.me.0.noted s.me.0 t.me.0 d guest_small

    pub sound_entered : f < s.table_id.slots → Treeless s.me.0 → t.me.1 ≡ (f, None) ∷ [] → Sound t (Some log) f guest moves ranges files looks
    sound_entered inside bare out = let e = eff_of s t (enter f) s.me.0.noted EP d table hand file guest moves ranges files looks ok in let b = entered_branch e.0 (branch_of s.me.0 f) in
        let here : (branch_of t.me.0 f).seen ≡ b.seen = ap (λ (x : Branch). x.seen) (Rattle.range_share.proofs.Sounding.branch_here s t table f b (near_file f inside) e.1.branches_are) in
        sound_after s t (enter f) s.me.0.noted EP d table hand file guest moves ranges files looks ok (Some log) f moves looks
        (hand_now s t table f b (near_file f inside) e.1.branches_are log refl (sym log_seen ∙ here) inside (λ i ne. bare i) out)
        (still_moves s t (enter f) s.me.0.noted EP d table hand file guest moves ranges files looks ok e.1.moving_is) ok.moves_near
        (still_looks s t (enter f) s.me.0.noted EP d table hand file guest moves ranges files looks ok refl)
        (still_pins s t (enter f) s.me.0.noted EP d table hand file guest moves ranges files looks ok e.1.pins_are refl)

    pub entered_is : (others_may s.me.0.guest s.me.0.mine.movers ≡ false → log ≡ (branch_of s.me.0 f).seen) → (AllIn s.me.0 → LogsBack s.me.0.numbers f log) → Entered f (known s) (known t)
    entered_is alone joined = record {
      deed = deed_of s t (enter f) s.me.0.noted Always table guest_small (always (enter f) s.me.0.noted EP s.me.0 t.me.0 d);
      alone = λ a. log_seen ∙ alone a;
      joined = λ a. subst (LogsBack s.me.0.numbers f) (sym log_seen) (joined a);
    }

  -- a word was seen
  pub sound_looked : (r : ℕ) (w : RangeWord) → DoesAt (look r) (saw s.me.0.noted s.me.0.mine r w) (λ c. w ≡ word_at c.window r) s t → r < length looks → Sound t hand file guest moves ranges files (set looks r (Some w))
  sound_looked r w d near = let x = saw s.me.0.noted s.me.0.mine r w in let e = eff_of s t (look r) x (λ c. w ≡ word_at c.window r) d.0 table hand file guest moves ranges files looks ok in
      sound_after s t (look r) x (λ c. w ≡ word_at c.window r) d.0 table hand file guest moves ranges files looks ok hand file moves (set looks r (Some w))
      (still_in_hand s t (look r) x (λ c. w ≡ word_at c.window r) d.0 table hand file guest moves ranges files looks ok (ap (λ (m : Mine). m.shown.branches) e) d.1)
      (still_moves s t (look r) x (λ c. w ≡ word_at c.window r) d.0 table hand file guest moves ranges files looks ok (ap (λ (m : Mine). m.shown.moving) e)) ok.moves_near
      (look_more looks r ranges (look_of s.me.0.mine r w) s.me.0.noted.looks refl near ok.looks_are)
      (still_pins s t (look r) x (λ c. w ≡ word_at c.window r) d.0 table hand file guest moves ranges files looks ok (ap (λ (m : Mine). m.shown.pins) e) refl)

  pub looked_is : (r : ℕ) (w : RangeWord) → Tells s.me.0 r w → DoesAt (look r) (saw s.me.0.noted s.me.0.mine r w) (λ c. w ≡ word_at c.window r) s t → Looked r w (known s) (known t)
  looked_is r w tells d = record { tells = tells; deed = deed_of s t (look r) (saw s.me.0.noted s.me.0.mine r w) (λ c. w ≡ word_at c.window r) table guest_small d.0 }

  -- a word was seen for a take
  module _ (r : ℕ) (w : RangeWord) (d : DoesAt (look r) (saw_for_take s.me.0.noted s.me.0.mine r w) (λ c. w ≡ word_at c.window r) s t) where
    abbrev KP : Core → Type 0
    KP c = w ≡ word_at c.window r

    abbrev kx : Noted
    kx = saw_for_take s.me.0.noted s.me.0.mine r w

    peeked : (looks' : List (Option RangeWord)) → ((i : ℕ) → i < ranges → get_or looks' i None ≡ word_in i kx.looks) → Sound t hand file guest moves ranges files looks'
    peeked looks' looked = let e = eff_of s t (look r) kx KP d.0 table hand file guest moves ranges files looks ok in
        sound_after s t (look r) kx KP d.0 table hand file guest moves ranges files looks ok hand file moves looks'
        (still_in_hand s t (look r) kx KP d.0 table hand file guest moves ranges files looks ok (ap (λ (m : Mine). m.shown.branches) e) d.1)
        (still_moves s t (look r) kx KP d.0 table hand file guest moves ranges files looks ok (ap (λ (m : Mine). m.shown.moving) e)) ok.moves_near
        looked
        (still_pins s t (look r) kx KP d.0 table hand file guest moves ranges files looks ok (ap (λ (m : Mine). m.shown.pins) e) refl)

    -- which may be taken
    pub sound_peeked : may_take_in s.me.0.mine w ≡ true → Sound t hand file guest moves ranges files looks
    sound_peeked may = peeked looks (λ i l. ok.looks_are i l ∙ sym (ap (λ b. word_in i (cond b s.me.0.noted.looks (look_of s.me.0.mine r w ∷ s.me.0.noted.looks))) may))

    -- which may not
    pub sound_refused : may_take_in s.me.0.mine w ≡ false → r < length looks → Sound t hand file guest moves ranges files (set looks r (Some w))
    sound_refused may near = peeked (set looks r (Some w)) (λ i l. look_more looks r ranges (look_of s.me.0.mine r w) s.me.0.noted.looks refl near ok.looks_are i l
        ∙ sym (ap (λ b. word_in i (cond b s.me.0.noted.looks (look_of s.me.0.mine r w ∷ s.me.0.noted.looks))) may))

    pub peek_is : IsDeed (look r) kx KP (known s) (known t)
    peek_is = deed_of s t (look r) kx KP table guest_small d.0

    pub refused_is : Tells s.me.0 r w → may_take_in s.me.0.mine w ≡ false → Refused r w (known s) (known t)
    refused_is tells may = let e = eff_of s t (look r) kx KP d.0 table hand file guest moves ranges files looks ok in
        let noted : t.me.0.noted ≡ saw s.me.0.noted s.me.0.mine r w = noted_is s t (look r) kx KP d.0 table hand file guest moves ranges files looks ok
        ∙ ap (λ b. record s.me.0.noted { words = look_of s.me.0.mine r w ∷ s.me.0.noted.words; looks = cond b s.me.0.noted.looks (look_of s.me.0.mine r w ∷ s.me.0.noted.looks) }) may in record {
          tells = tells;
          may_not = may;
          kept = λ i. record { table = table i; view = t.me.0 };
          mine_same = e;
          guest_same = guest_kept (look r) kx KP s.me.0 t.me.0 d.0;
          numbers_same = numbers_kept (look r) kx KP s.me.0 t.me.0 d.0;
          words_before = s.me.0.noted.words;
          noted = noted ∙ ap (λ (ws : List Look). record (saw s.me.0.noted s.me.0.mine r w) { words = ws }) (sym (ap (λ (y : Noted). y.words) noted));
          newest = ap (λ (y : Noted). y.words) noted;
        }

  -- a target was seen
  pub sound_aimed : (r : ℕ) (o : Option Target) → DoesAt (look r) (aimed s.me.0.noted r o) (λ c. o ≡ target c.window r) s t → Sound t hand file guest moves ranges files looks
  sound_aimed r o d = let x = aimed s.me.0.noted r o in let e = eff_of s t (look r) x (λ c. o ≡ target c.window r) d.0 table hand file guest moves ranges files looks ok in
      sound_after s t (look r) x (λ c. o ≡ target c.window r) d.0 table hand file guest moves ranges files looks ok hand file moves looks
      (still_in_hand s t (look r) x (λ c. o ≡ target c.window r) d.0 table hand file guest moves ranges files looks ok (ap (λ (m : Mine). m.shown.branches) e) d.1)
      (still_moves s t (look r) x (λ c. o ≡ target c.window r) d.0 table hand file guest moves ranges files looks ok (ap (λ (m : Mine). m.shown.moving) e)) ok.moves_near
      (still_looks s t (look r) x (λ c. o ≡ target c.window r) d.0 table hand file guest moves ranges files looks ok refl)
      (still_pins s t (look r) x (λ c. o ≡ target c.window r) d.0 table hand file guest moves ranges files looks ok (ap (λ (m : Mine). m.shown.pins) e) refl)

  pub aimed_is : (r : ℕ) (o : Option Target) → PinnedIn s.me.0.mine r o → HeldIn s.me.0.mine r o → DoesAt (look r) (aimed s.me.0.noted r o) (λ c. o ≡ target c.window r) s t → Aimed r o (known s) (known t)
  aimed_is r o pinned held d = record { pinned = pinned; held = held; deed = deed_of s t (look r) (aimed s.me.0.noted r o) (λ c. o ≡ target c.window r) table guest_small d.0 }

  -- a range was mapped
  pub sound_mapped : (r : ℕ) (o : Option Target) → DoesAt (set_map r o) s.me.0.noted Always s t → Sound t hand file guest moves ranges files looks
  sound_mapped r o d = let x = s.me.0.noted in let e = eff_of s t (set_map r o) x Always d.0 table hand file guest moves ranges files looks ok in
      sound_after s t (set_map r o) x Always d.0 table hand file guest moves ranges files looks ok hand file moves looks
      (still_in_hand s t (set_map r o) x Always d.0 table hand file guest moves ranges files looks ok (ap (λ (m : Mine). m.shown.branches) e) d.1)
      (still_moves s t (set_map r o) x Always d.0 table hand file guest moves ranges files looks ok (ap (λ (m : Mine). m.shown.moving) e)) ok.moves_near
      (still_looks s t (set_map r o) x Always d.0 table hand file guest moves ranges files looks ok refl)
      (still_pins s t (set_map r o) x Always d.0 table hand file guest moves ranges files looks ok (ap (λ (m : Mine). m.shown.pins) e) refl)

  -- a range was made free
  pub sound_freed : (r : ℕ) → DoesAt (settle_free r) s.me.0.noted Always s t → moves_at s.me.0 r ≡ true → r < ranges_of s.me.0 → Sound t hand file guest None ranges files looks
  sound_freed r d on near = let x = s.me.0.noted in let e = eff_of s t (settle_free r) x Always d.0 table hand file guest moves ranges files looks ok in
      sound_after s t (settle_free r) x Always d.0 table hand file guest moves ranges files looks ok hand file None looks
      (still_in_hand s t (settle_free r) x Always d.0 table hand file guest moves ranges files looks ok e.branches_are d.1)
      (moves_settled s.me.0 t.me.0 moves ok.moves_is r on near e.moving_is) tt
      (still_looks s t (settle_free r) x Always d.0 table hand file guest moves ranges files looks ok refl)
      (still_pins s t (settle_free r) x Always d.0 table hand file guest moves ranges files looks ok e.pins_are refl)

  -- a free range was taken
  pub sound_took_free : (r : ℕ) (P : Core → Type 0) → DoesAt (take_free r) s.me.0.noted P s t → AtRest s.me.0 → r < ranges_of s.me.0 → Sound t hand file guest (Some r) ranges files looks
  sound_took_free r P d bare near = let x = s.me.0.noted in let e = eff_of s t (take_free r) x P d.0 table hand file guest moves ranges files looks ok in
      sound_after s t (take_free r) x P d.0 table hand file guest moves ranges files looks ok hand file (Some r) looks
      (still_in_hand s t (take_free r) x P d.0 table hand file guest moves ranges files looks ok e.branches_are d.1)
      (moves_taken s.me.0 t.me.0 moves ok.moves_is r bare near e.moving_is) (let n = ok.ranges_are in omega arith)
      (still_looks s t (take_free r) x P d.0 table hand file guest moves ranges files looks ok refl)
      (still_pins s t (take_free r) x P d.0 table hand file guest moves ranges files looks ok e.pins_are refl)

  -- a pin more
  pub sound_pinned : (f k : ℕ) (p : Placed) → DoesAt (pin f k p) (pinned_noted s.me.0.noted f k p) Always s t → Sound t hand file guest moves ranges files looks
  sound_pinned f k p d = let x = pinned_noted s.me.0.noted f k p in let e = eff_of s t (pin f k p) x Always d.0 table hand file guest moves ranges files looks ok in
      sound_after s t (pin f k p) x Always d.0 table hand file guest moves ranges files looks ok hand file moves looks
      (still_in_hand s t (pin f k p) x Always d.0 table hand file guest moves ranges files looks ok (ap (λ (m : Mine). m.shown.branches) e) d.1)
      (still_moves s t (pin f k p) x Always d.0 table hand file guest moves ranges files looks ok (ap (λ (m : Mine). m.shown.moving) e)) ok.moves_near
      (still_looks s t (pin f k p) x Always d.0 table hand file guest moves ranges files looks ok refl)
      (pins_more s.me.0 t.me.0 (pin_of s.me.0.mine f k p) (ap (λ (m : Mine). m.shown.pins) e) (ap (λ (y : Noted). y.pinned) (noted_is s t (pin f k p) x Always d.0 table hand file guest moves ranges files looks ok)) ok.pins_noted)

  -- a pin less
  pub sound_unpinned : (r : ℕ) → DoesAt (unpin r) s.me.0.noted Always s t → Sound t hand file guest moves ranges files looks
  sound_unpinned r d = let x = s.me.0.noted in let e = eff_of s t (unpin r) x Always d.0 table hand file guest moves ranges files looks ok in
      sound_after s t (unpin r) x Always d.0 table hand file guest moves ranges files looks ok hand file moves looks
      (still_in_hand s t (unpin r) x Always d.0 table hand file guest moves ranges files looks ok (ap (λ (m : Mine). m.shown.branches) e) d.1)
      (still_moves s t (unpin r) x Always d.0 table hand file guest moves ranges files looks ok (ap (λ (m : Mine). m.shown.moving) e)) ok.moves_near
      (still_looks s t (unpin r) x Always d.0 table hand file guest moves ranges files looks ok refl)
      (pins_fewer s.me.0 t.me.0 r (ap (λ (m : Mine). m.shown.pins) e) (ap (λ (y : Noted). y.pinned) (noted_is s t (unpin r) x Always d.0 table hand file guest moves ranges files looks ok)) ok.pins_noted)

-- ---- deeds on the tree in hand

module _ (s t : Chair) (log : List LogEntry) (file guest : ℕ) (moves : Option ℕ) (ranges files : ℕ) (looks : List (Option RangeWord)) (ok : Sound s (Some log) file guest moves ranges files looks) (table : t.table_id ≡ s.table_id) where
  near_had : (f : ℕ) → (branch_of s.me.0 f).had ≡ true → f < files_of s.me.0
  near_had f on = let h = held_at s file log f ok.in_hand on in let a = h.inside in let e = ok.stands.files in omega arith

  -- the tree's log is seen
  pub hand_log : (f : ℕ) → (branch_of s.me.0 f).had ≡ true → log ≡ (branch_of s.me.0 f).seen
  hand_log f on = (held_at s file log f ok.in_hand on).log_is

  pub sound_left : (f : ℕ) → DoesSo (leave f) s.me.0.noted Always s.me.0 t.me.0 → t.me.1 ≡ [] → (branch_of s.me.0 f).had ≡ true → Sound t None file guest moves ranges files looks
  sound_left f d out on = let x = s.me.0.noted in let hand = Some log in let e = eff_of s t (leave f) x Always d table hand file guest moves ranges files looks ok in let h = held_at s file log f ok.in_hand on in
      sound_after s t (leave f) x Always d table hand file guest moves ranges files looks ok None file moves looks
      (hand_left s t table f (left_branch (branch_of s.me.0 f)) (near_had f on) e.branches_are file refl h.alone out)
      (still_moves s t (leave f) x Always d table hand file guest moves ranges files looks ok e.moving_is) ok.moves_near
      (still_looks s t (leave f) x Always d table hand file guest moves ranges files looks ok refl)
      (still_pins s t (leave f) x Always d table hand file guest moves ranges files looks ok e.pins_are refl)

  -- what is in hand, once the log of its tree has grown
  grown_hand : (f : ℕ) (e : LogEntry) → (branch_of s.me.0 f).had ≡ true → t.me.1 ≡ s.me.1 → t.me.0.mine.shown.branches ≡ with_branch s.me.0.mine f (grown_branch e (branch_of s.me.0 f)) → InHand t file (Some (log ++ e ∷ []))
  grown_hand f e on out now = let h = held_at s file log f ok.in_hand on in
      subst (λ (n : ℕ). InHand t n (Some (log ++ e ∷ []))) (had_file s file log f ok.in_hand on)
      (hand_now s t table f (grown_branch e (branch_of s.me.0 f)) (near_had f on) now (log ++ e ∷ []) on (ap (λ (l : List LogEntry). l ++ e ∷ []) h.log_is) h.inside h.alone (out ∙ h.taken))

  pub sound_settled : (r f k : ℕ) (w : Mode) → DoesAt (settle_mapped r f k w) s.me.0.noted Always s t → (branch_of s.me.0 f).had ≡ true → moves_at s.me.0 r ≡ true → r < ranges_of s.me.0 → Sound t (Some (log ++ place_entry k r w ∷ [])) file guest None ranges files looks
  sound_settled r f k w d on moving near = let x = s.me.0.noted in let hand = Some log in let dd = settle_mapped r f k w in let e = eff_of s t dd x Always d.0 table hand file guest moves ranges files looks ok in
      sound_after s t dd x Always d.0 table hand file guest moves ranges files looks ok (Some (log ++ place_entry k r w ∷ [])) file None looks
      (grown_hand f (place_entry k r w) on d.1 e.branches_are)
      (moves_settled s.me.0 t.me.0 moves ok.moves_is r moving near e.moving_is) tt
      (still_looks s t dd x Always d.0 table hand file guest moves ranges files looks ok refl)
      (still_pins s t dd x Always d.0 table hand file guest moves ranges files looks ok e.pins_are refl)

  pub sound_took_mapped : (r f k : ℕ) (w : Mode) (P : Core → Type 0) → DoesAt (take_mapped r f k w) s.me.0.noted P s t → (branch_of s.me.0 f).had ≡ true → AtRest s.me.0 → r < ranges_of s.me.0 → Sound t (Some (log ++ remove_entry r ∷ [])) file guest (Some r) ranges files looks
  sound_took_mapped r f k w P d on bare near = let x = s.me.0.noted in let hand = Some log in let dd = take_mapped r f k w in let e = eff_of s t dd x P d.0 table hand file guest moves ranges files looks ok in
      sound_after s t dd x P d.0 table hand file guest moves ranges files looks ok (Some (log ++ remove_entry r ∷ [])) file (Some r) looks
      (grown_hand f (remove_entry r) on d.1 e.branches_are)
      (moves_taken s.me.0 t.me.0 moves ok.moves_is r bare near e.moving_is) (let n = ok.ranges_are in omega arith)
      (still_looks s t dd x P d.0 table hand file guest moves ranges files looks ok refl)
      (still_pins s t dd x P d.0 table hand file guest moves ranges files looks ok e.pins_are refl)

  pub sound_upgraded : (f k : ℕ) (p : Placed) → DoesAt (upgrade f k p) s.me.0.noted Always s t → (branch_of s.me.0 f).had ≡ true → Sound t (Some (log ++ upgrade_entry p.range ∷ [])) file guest moves ranges files looks
  sound_upgraded f k p d on = let x = s.me.0.noted in let hand = Some log in let dd = upgrade f k p in let e = eff_of s t dd x Always d.0 table hand file guest moves ranges files looks ok in
      sound_after s t dd x Always d.0 table hand file guest moves ranges files looks ok (Some (log ++ upgrade_entry p.range ∷ [])) file moves looks
      (grown_hand f (upgrade_entry p.range) on d.1 (ap (λ (m : Mine). m.shown.branches) e))
      (still_moves s t dd x Always d.0 table hand file guest moves ranges files looks ok (ap (λ (m : Mine). m.shown.moving) e)) ok.moves_near
      (still_looks s t dd x Always d.0 table hand file guest moves ranges files looks ok refl)
      (still_pins s t dd x Always d.0 table hand file guest moves ranges files looks ok (ap (λ (m : Mine). m.shown.pins) e) refl)

  -- no chunk of it is placed in a range that is moved
  pub range_unplaced : (r f : ℕ) → (branch_of s.me.0 f).had ≡ true → moves_at s.me.0 r ≡ true → slot_in log r ≡ None
  range_unplaced r f on moving = let z = ok.showing in let v = s.me.0 in let g = z.good.window_good in
      ap (λ (l : List LogEntry). slot_in l r) (hand_log f on ∙ seen_is v z.core z.part g f on)
      ∙ moved_free z.core.window (guests, (omega arith), g) v.guest r (moves_is v z.core z.part r moving) f (holder_is v z.core z.part f on)

-- ---- takes

-- words that say the same of a file, one of which is of it, with as many pins
both_say : (f : ℕ) (o : Option Slot) (a b : RangeWord) → SaysSlot f o a → SaysSlot f o b → (is_of_file f a ≡ true) ⊎ (is_of_file f b ≡ true) → pins_in a ≡ pins_in b → a ≡ b
unfolding SaysSlot
both_say f None a b x y of same = absurd (⊎_elim (λ z. true≢false (sym z ∙ x)) (λ z. true≢false (sym z ∙ y)) of)
both_say f (Some e) a b x y of same = x ∙ (ap (λ n. words.Mapped f e.chunk e.mode n) same ∙ sym y)

-- an exchange that failed found a word from which no take is allowed
pub not_takeable : (g : ℕ) (m : Mine) (r : ℕ) (old w : RangeWord) → TellsIn g m r old → may_take_in m old ≡ true → TellsIn g m r w → w ≢ old → may_take_in m w ≡ false
unfolding is_of_file pins_in
not_takeable g m r words.Free words.Free t may u ne = absurd (ne refl)
not_takeable g m r words.Free (words.Moving h) t may u ne = refl
not_takeable g m r words.Free (words.Mapped f c x k) t may u ne = go (k == 0 && (branch_in m.shown.branches f).had) refl
  where
    go : (b : Bool) → (k == 0 && (branch_in m.shown.branches f).had) ≡ b → b ≡ false
    go false e = refl
    go true e = let q = both_true (k == 0) (branch_in m.shown.branches f).had e in let z = eqb-true k 0 q.0 in absurd (ne (sym (both_say f (slot_in (branch_in m.shown.branches f).seen r) words.Free (words.Mapped f c x k) (t.tree f q.1) (u.tree f q.1) (inr (eq-eqb f f refl)) (sym z))))
not_takeable g m r (words.Moving h) w t may u ne = absurd (true≢false (sym may))
not_takeable g m r (words.Mapped f c x k) words.Free t may u ne = let q = both_true (k == 0) (branch_in m.shown.branches f).had may in let z = eqb-true k 0 q.0 in absurd (ne (sym (both_say f (slot_in (branch_in m.shown.branches f).seen r) (words.Mapped f c x k) words.Free (t.tree f q.1) (u.tree f q.1) (inl (eq-eqb f f refl)) z)))
not_takeable g m r (words.Mapped f c x k) (words.Moving h) t may u ne = refl
not_takeable g m r (words.Mapped f c x k) (words.Mapped f' c' x' k') t may u ne = go (k' == 0 && (branch_in m.shown.branches f').had) refl
  where
    go : (b : Bool) → (k' == 0 && (branch_in m.shown.branches f').had) ≡ b → b ≡ false
    go false e = refl
    go true e = let q = both_true (k == 0) (branch_in m.shown.branches f).had may in let q' = both_true (k' == 0) (branch_in m.shown.branches f').had e in let z = eqb-true k 0 q.0 in let z' = eqb-true k' 0 q'.0 in
        absurd (ne (sym (both_say f (slot_in (branch_in m.shown.branches f).seen r) (words.Mapped f c x k) (words.Mapped f' c' x' k') (t.tree f q.1) (u.tree f q.1) (inl (eq-eqb f f refl)) (z ∙ sym z'))))

-- what a take finds placed
taken_placed : (v w : Knows) (r f k : ℕ) (m : Mode) (x : Noted) (P : Core → Type 0) (log : List LogEntry) → DoesSo (take_mapped r f k m) x P v w → log ≡ (branch_of v f).seen → (branch_of v f).had ≡ true → (p : Placed) × (placed_at log k ≡ Some p) × (p.range ≡ r)
taken_placed v w r f k m x P log d is on = let q = d.good.window_good.mapped_placed r f k m d.allowed.allowed.0 in (q.0, ap (λ (l : List LogEntry). placed_at l k) (is ∙ seen_is v d.core d.part d.good.window_good f on) ∙ q.1, q.2)

-- a range was looked at and then tried
module _ (s u : Chair) (hand : Option (List LogEntry)) (file guest : ℕ) (moves : Option ℕ) (ranges files : ℕ) (looks : List (Option RangeWord)) (ok : Sound s hand file guest moves ranges files looks) (table : u.table_id ≡ s.table_id)
    (r : ℕ) (old : RangeWord) (looked : DoesAt (look r) (saw_for_take s.me.0.noted s.me.0.mine r old) (λ c. old ≡ word_at c.window r) s u) (tells : Tells s.me.0 r old) (may : may_take_in s.me.0.mine old ≡ true) where
  abbrev TX : Noted
  TX = saw_for_take s.me.0.noted s.me.0.mine r old

  abbrev TP : Core → Type 0
  TP c = old ≡ word_at c.window r

  pub mine_kept : u.me.0.mine ≡ s.me.0.mine
  mine_kept = eff_of s u (look r) TX TP looked.0 table hand file guest moves ranges files looks ok

  pub guest_same : u.me.0.guest ≡ s.me.0.guest
  guest_same = guest_kept (look r) TX TP s.me.0 u.me.0 looked.0

  ok_between : Sound u hand file guest moves ranges files looks
  ok_between = sound_peeked s u hand file guest moves ranges files looks ok table r old looked may

  may_between : may_take_in u.me.0.mine old ≡ true
  may_between = ap (λ (m : Mine). may_take_in m old) mine_kept ∙ may

  noted_between : u.me.0.noted ≡ record s.me.0.noted { words = look_of s.me.0.mine r old ∷ s.me.0.noted.words }
  noted_between = noted_is s u (look r) TX TP looked.0 table hand file guest moves ranges files looks ok
      ∙ ap (λ b. record s.me.0.noted { words = look_of s.me.0.mine r old ∷ s.me.0.noted.words; looks = cond b s.me.0.noted.looks (look_of s.me.0.mine r old ∷ s.me.0.noted.looks) }) may

  -- another word was found
  module _ (t : Chair) (table' : t.table_id ≡ u.table_id) (w : RangeWord) (ne : w ≢ old) (tells' : Tells u.me.0 r w) (is : t.me ≡ (record u.me.0 { noted = saw u.me.0.noted u.me.0.mine r w }, u.me.1)) where
    pub sound_found : r < length looks → Sound t hand file guest moves ranges files (set looks r (Some w))
    sound_found near = let ok' = ok_between in sound_noted u t (saw u.me.0.noted u.me.0.mine r w) table' is hand file guest moves ranges files looks ok' (set looks r (Some w)) refl
        (look_more looks r ranges (look_of u.me.0.mine r w) u.me.0.noted.looks refl near ok'.looks_are)

    pub found_is : Refused r w (known s) (known t)
    found_is = let v = ap (λ m. m.0) is in let m = mine_kept in let g = guest_same in let n = noted_between in
        let here : Tells s.me.0 r w = subst (λ (z : ℕ × Mine). TellsIn z.0 z.1 r w) (λ i. (g i, m i)) tells' in
        let noted : t.me.0.noted ≡ record (saw s.me.0.noted s.me.0.mine r w) { words = look_of s.me.0.mine r w ∷ look_of s.me.0.mine r old ∷ s.me.0.noted.words } = ap (λ (k : Knows). k.noted) v ∙ (λ i. saw (n i) (m i) r w) in record {
          tells = here;
          may_not = not_takeable s.me.0.guest s.me.0.mine r old w tells may here ne;
          kept = λ i. record { table = (table' ∙ table) i; view = t.me.0 };
          mine_same = ap (λ (k : Knows). k.mine) v ∙ m;
          guest_same = ap (λ (k : Knows). k.guest) v ∙ g;
          numbers_same = ap (λ (k : Knows). k.numbers) v ∙ numbers_kept (look r) TX TP s.me.0 u.me.0 looked.0;
          words_before = look_of s.me.0.mine r old ∷ s.me.0.noted.words;
          noted = noted ∙ ap (λ (ws : List Look). record (saw s.me.0.noted s.me.0.mine r w) { words = ws }) (sym (ap (λ (y : Noted). y.words) noted));
          newest = ap (λ (y : Noted). y.words) noted;
        }

  -- it was taken
  module _ (t : Chair) (table' : t.table_id ≡ u.table_id) (d : DoesAt (take_of r old) u.me.0.noted TP u t) where
    pub has_chunk : HasChunk old hand
    has_chunk = go old hand ok_between.in_hand may_between d
      where
        go : (a : RangeWord) (o : Option (List LogEntry)) → InHand u file o → may_take_in u.me.0.mine a ≡ true → DoesAt (take_of r a) u.me.0.noted TP u t → HasChunk a o
        go words.Free o h y e = tt
        go (words.Moving g) o h y e = tt
        go (words.Mapped f k m n) None h y e = let q = both_true (n == 0) (branch_of u.me.0 f).had y in true≢false (sym q.1 ∙ h.0 f)
        go (words.Mapped f k m n) (Some log) h y e = let q = both_true (n == 0) (branch_of u.me.0 f).had y in let p = taken_placed u.me.0 t.me.0 r f k m u.me.0.noted TP log e.0 (held_at u file log f h q.1).log_is q.1 in (p.0, p.1)

    pub sound_took : (hand' : Option (List LogEntry)) → Loses old hand hand' → AtRest s.me.0 → r < ranges_of s.me.0 → Sound t hand' file guest (Some r) ranges files looks
    sound_took hand' lost bare near = go old hand ok_between may_between d lost
      where
        rest : AtRest u.me.0
        rest i = ap (λ (m : Mine). Rattle.range_share.specs.Table.moves_in m.shown.moving i) mine_kept ∙ bare i

        near' : r < ranges_of u.me.0
        near' = let n = ap (λ (m : Mine). length m.shown.moving) mine_kept in omega arith

        go : (a : RangeWord) (o : Option (List LogEntry)) → Sound u o file guest moves ranges files looks → may_take_in u.me.0.mine a ≡ true → DoesAt (take_of r a) u.me.0.noted TP u t → Loses a o hand' → Sound t hand' file guest (Some r) ranges files looks
        go words.Free o h y e l = subst (λ (x : Option (List LogEntry)). Sound t x file guest (Some r) ranges files looks) (sym l) (sound_took_free u t o file guest moves ranges files looks h table' r TP e rest near')
        go (words.Moving g) o h y e l = absurd (true≢false (sym y))
        go (words.Mapped f k m n) None h y e l = absurd (let q = both_true (n == 0) (branch_of u.me.0 f).had y in true≢false (sym q.1 ∙ h.in_hand.0 f))
        go (words.Mapped f k m n) (Some log) h y e l = let q = both_true (n == 0) (branch_of u.me.0 f).had y in let p = taken_placed u.me.0 t.me.0 r f k m u.me.0.noted TP log e.0 (held_at u file log f h.in_hand q.1).log_is q.1 in
            subst (λ (x : Option (List LogEntry)). Sound t x file guest (Some r) ranges files looks) (sym (l p.0 p.1 ∙ ap (λ (i : ℕ). Some (log ++ remove_entry i ∷ [])) p.2))
            (sound_took_mapped u t log file guest moves ranges files looks h table' r f k m TP e q.1 rest near')

    pub took_is : Took r (known s) (known t)
    took_is = record {
      word = old;
      tells = tells;
      may = may;
      between = known u;
      looked = deed_of s u (look r) TX TP table (guest_small s u hand file guest moves ranges files looks ok table) looked.0;
      taken = deed_of u t (take_of r old) u.me.0.noted TP table' (guest_small u t hand file guest moves ranges files looks ok_between table') d.0;
    }

-- ---- upgrades

-- what is shown placed is placed in the tree in hand
pub hand_has : (s : Chair) (log : List LogEntry) (file guest : ℕ) (moves : Option ℕ) (ranges files : ℕ) (looks : List (Option RangeWord)) → Sound s (Some log) file guest moves ranges files looks → (f k : ℕ) (p : Placed) → HasIn s.me.0.mine f k p → placed_at log k ≡ Some p
hand_has s log file guest moves ranges files looks ok f k p has = ap (λ (l : List LogEntry). placed_at l k) (held_at s file log f ok.in_hand has.had).log_is ∙ has.placed

-- in a range that there is
pub placed_near : (s : Chair) (hand : Option (List LogEntry)) (file guest : ℕ) (moves : Option ℕ) (ranges files : ℕ) (looks : List (Option RangeWord)) → Sound s hand file guest moves ranges files looks → (f k : ℕ) (p : Placed) → HasIn s.me.0.mine f k p → p.range < ranges_of s.me.0
placed_near s hand file guest moves ranges files looks ok f k p has = let z = ok.showing in let v = s.me.0 in let g = z.good.window_good in
    let l = mapped_inside z.core.window p.range f k p.mode (g.placed_mapped f k p (has_is v z.core z.part g f k p has).1) in let n = ranges_are v z.core z.part in omega arith

pub same_placed : (p q : Placed) → Some p ≡ Some q → p ≡ q
same_placed p q e = cc

pub if_placed : (o : Option Placed) (p : Placed) (Q : Placed → Type 0) → o ≡ Some p → IfSome o Q → Q p
if_placed o p Q is h = subst (λ (x : Option Placed). IfSome x Q) is h

-- ---- looks

none_in : (n r : ℕ) → ◌≡◌ {A = Option RangeWord} (get_or (replicate n None) r None) None
none_in zero r = refl
none_in (suc n) zero = refl
none_in (suc n) (suc r) = none_in n r

pub no_look : (r : ℕ) → get_or no_looks r None ≡ None
no_look r = none_in 256 r
