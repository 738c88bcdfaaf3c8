-- A pass stays sound.
use Rattle.std.proofs.Common.{◌≡◌, ◌≢◌, ℕ, suc, ◌<◌, List, [], ◌∷◌, ◌++◌, length, set, get_or, slice_get, true, false, Bool, true≢false, cond, Option, Some, None, refl, sym, ap, ◌∙◌, subst, ⊎_elim, inl, inr, ◌⊎◌, arith, eq-eqb, ne_eqb, get_or-set_same, get_or-set_other}
use Rattle.std.specs.Prelude.{IfSome}
use mathlib.Core.Logic.{dite}
use native.Mathlib.Decide.{ℕ_discrete}
use Rattle.std.proofs.lemmas.Bool.{eqb-true}
use Rattle.seats.specs.Views.{guests}
use Rattle.atomic_table.specs.Seated.{TableId}
use Rattle.page_map.specs.declared.ranges.LogEntry.{LogEntry}
use Rattle.page_map.specs.declared.ranges.RangeWord.{RangeWord}
use Rattle.window_core.specs.declared.states.Pin.{Pin}
use Rattle.window_core.specs.Window.{target_of, on_range, pins_on, unpinned, Deed}
use Rattle.window_core.specs.Shown.{Branch}
use Rattle.window_core.proofs.Deeds.{one_on}
use Rattle.range_share.specs.Table.{Core, Noted, Knows, Look, branch_in, moves_in, no_branch}
use Rattle.range_share.specs.Steps.{Chair, DoesSo, AtRest, branch_of, moves_at, ranges_of, files_of}
use Rattle.range_share.specs.Known.{Sound, InHand, Holds, IsPinNoted, Effect, is_number, word_in, pinned_in, newest_on, or_before}
use Rattle.range_share.proofs.Knowing.{guest_kept, live_kept, noted_now, effect_of, showing_now, same_moving, same_branches}

-- ---- pins

-- some pin on a range is the newest
pub newest_there : (r : ℕ) (ps : List Pin) → 0 < pins_on r ps → (p : Pin) × (newest_on r ps ≡ Some p)
newest_there r [] some_on = absurd (omega arith)
newest_there r (p ∷ ps) some_on = go (newest_on r ps) refl (λ l. newest_there r ps l)
  where
    here : (b : Bool) → on_range r p ≡ b → pins_on r ps ≡ 0 → (q : Pin) × (cond b (Some p) None ≡ Some q)
    here true e z = (p, refl)
    here false e z = let c = one_on r p ps in let n : ◌≡◌ {A = ℕ} (cond (on_range r p) 1 0) 0 = ap (λ (b : Bool). cond b 1 0) e in absurd (omega arith)

    go : (o : Option Pin) → newest_on r ps ≡ o → (0 < pins_on r ps → (q : Pin) × (newest_on r ps ≡ Some q)) → (q : Pin) × (or_before o (cond (on_range r p) (Some p) None) ≡ Some q)
    go (Some q) e rest = (q, refl)
    go None e rest = here (on_range r p) refl (dite (ℕ_discrete (pins_on r ps) 0) (λ z. z) (λ ne. let q = rest (omega arith) in absurd (let x : None ≡ Some q.0 = sym e ∙ q.1 in cc)))

pub newest_at : (r : ℕ) (ps : List Pin) (p : Pin) → newest_on r ps ≡ Some p → ((k : ℕ) × (slice_get ps k ≡ Some p)) × (p.range ≡ r)
newest_at r [] p e = absurd (let x : None ≡ Some p = e in cc)
newest_at r (q ∷ ps) p e = go (newest_on r ps) refl e (λ y. newest_at r ps p y)
  where
    here : (b : Bool) → on_range r q ≡ b → cond b (Some q) None ≡ Some p → ((k : ℕ) × (slice_get (q ∷ ps) k ≡ Some p)) × (p.range ≡ r)
    here true on is = let same : q ≡ p = cc in ((0, is), ap (λ (x : Pin). x.range) (sym same) ∙ eqb-true q.range r on)
    here false on is = absurd (let x : None ≡ Some p = is in cc)

    go : (o : Option Pin) → newest_on r ps ≡ o → or_before o (cond (on_range r q) (Some q) None) ≡ Some p → (newest_on r ps ≡ Some p → ((k : ℕ) × (slice_get ps k ≡ Some p)) × (p.range ≡ r)) → ((k : ℕ) × (slice_get (q ∷ ps) k ≡ Some p)) × (p.range ≡ r)
    go (Some x) is y rest = let h = rest (is ∙ y) in ((suc h.0.0, h.0.1), h.1)
    go None is y rest = here (on_range r q) refl y

or_none : (o : Option Pin) → or_before o None ≡ o
or_none None = refl
or_none (Some p) = refl

or_more : (a b c : Option Pin) → or_before (or_before a b) c ≡ or_before a (or_before b c)
or_more None b c = refl
or_more (Some p) b c = refl

pub newest_push : (r : ℕ) (ps : List Pin) (q : Pin) → newest_on r (ps ++ q ∷ []) ≡ or_before (cond (on_range r q) (Some q) None) (newest_on r ps)
newest_push r [] q = sym (or_none (cond (on_range r q) (Some q) None))
newest_push r (p ∷ ps) q = ap (λ o. or_before o (cond (on_range r p) (Some p) None)) (newest_push r ps q) ∙ or_more (cond (on_range r q) (Some q) None) (newest_on r ps) (cond (on_range r p) (Some p) None)

-- without the oldest pin on a range: of another range the newest stays
pub unpinned_other : (r r' : ℕ) (ps : List Pin) → r' ≢ r → newest_on r' (unpinned r ps) ≡ newest_on r' ps
unpinned_other r r' [] ne = refl
unpinned_other r r' (p ∷ ps) ne = go (on_range r p) refl (unpinned_other r r' ps ne)
  where
    go : (b : Bool) → on_range r p ≡ b → newest_on r' (unpinned r ps) ≡ newest_on r' ps → newest_on r' (cond b ps (p ∷ unpinned r ps)) ≡ newest_on r' (p ∷ ps)
    go true e rest = let off : on_range r' p ≡ false = ne_eqb p.range r' (λ x. ne (sym x ∙ eqb-true p.range r e)) in sym (ap (λ b. or_before (newest_on r' ps) (cond b (Some p) None)) off ∙ or_none (newest_on r' ps))
    go false e rest = ap (λ o. or_before o (cond (on_range r' p) (Some p) None)) rest

-- of this range too, where one is left
pub unpinned_same : (r : ℕ) (ps : List Pin) → (newest_on r (unpinned r ps) ≡ None) ⊎ (newest_on r (unpinned r ps) ≡ newest_on r ps)
unpinned_same r [] = inl refl
unpinned_same r (p ∷ ps) = go (on_range r p) refl (unpinned_same r ps)
  where
    first : (o : Option Pin) → newest_on r ps ≡ o → (newest_on r ps ≡ None) ⊎ (newest_on r ps ≡ newest_on r (p ∷ ps))
    first None e = inl e
    first (Some q) e = inr (e ∙ sym (ap (λ o. or_before o (cond (on_range r p) (Some p) None)) e))

    go : (b : Bool) → on_range r p ≡ b → (newest_on r (unpinned r ps) ≡ None) ⊎ (newest_on r (unpinned r ps) ≡ newest_on r ps) → (newest_on r (cond b ps (p ∷ unpinned r ps)) ≡ None) ⊎ (newest_on r (cond b ps (p ∷ unpinned r ps)) ≡ newest_on r (p ∷ ps))
    go true e rest = first (newest_on r ps) refl
    go false e rest = let off : (qs : List Pin) → newest_on r (p ∷ qs) ≡ newest_on r qs = λ qs. ap (λ b. or_before (newest_on r qs) (cond b (Some p) None)) e ∙ or_none (newest_on r qs) in
        ⊎_elim (λ z. inl (off (unpinned r ps) ∙ z)) (λ z. inr (off (unpinned r ps) ∙ (z ∙ sym (off ps)))) rest

pub pin_noted : (v : Knows) (r : ℕ) (p : Pin) → newest_on r v.mine.shown.pins ≡ Some p → pinned_in r v.noted.pinned ≡ target_of p.file p.chunk p.mode → IsPinNoted v r
pin_noted v r p newest noted = let at = newest_at r v.mine.shown.pins p newest in record { at = at.0.0; the_pin = p; newest = newest; had = at.0.1; range = at.1; noted = noted }

-- of a range whose newest pin stays, what is noted of it stays
pub pin_kept : (v w : Knows) (r : ℕ) → newest_on r w.mine.shown.pins ≡ newest_on r v.mine.shown.pins → w.noted.pinned ≡ v.noted.pinned → IsPinNoted v r → IsPinNoted w r
pin_kept v w r newest noted k = pin_noted w r k.the_pin (newest ∙ k.newest) (ap (pinned_in r) noted ∙ k.noted)

abbrev pub PinsNoted : Knows → Type 0
PinsNoted v = (r : ℕ) → 0 < pins_on r v.mine.shown.pins → IsPinNoted v r

pub pins_same : (v w : Knows) → w.mine.shown.pins ≡ v.mine.shown.pins → w.noted.pinned ≡ v.noted.pinned → PinsNoted v → PinsNoted w
pins_same v w same noted ok r some_on = pin_kept v w r (ap (newest_on r) same) noted (ok r (subst (λ (ps : List Pin). 0 < pins_on r ps) same some_on))

none_on : (r : ℕ) (qs : List Pin) → pins_on r qs ≡ 0 → (q : Pin) → newest_on r qs ≡ Some q → ⊥
none_on r [] z q x = let y : None ≡ Some q = x in cc
none_on r (a ∷ qs) z q x = go (on_range r a) refl (none_on r qs)
  where
    go : (b : Bool) → on_range r a ≡ b → (pins_on r qs ≡ 0 → (q : Pin) → newest_on r qs ≡ Some q → ⊥) → ⊥
    go true on rest = let c = one_on r a qs in let n : ◌≡◌ {A = ℕ} (cond (on_range r a) 1 0) 1 = ap (λ (b : Bool). cond b 1 0) on in omega arith
    go false on rest = let c = one_on r a qs in rest (omega arith) q (sym (ap (λ b. or_before (newest_on r qs) (cond b (Some a) None)) on ∙ or_none (newest_on r qs)) ∙ x)

on_less : (r : ℕ) (ps : List Pin) (p : Pin) → newest_on r ps ≡ Some p → 0 < pins_on r ps
on_less r ps p e = dite (ℕ_discrete (pins_on r ps) 0) (λ z. absurd (none_on r ps z p e)) (λ ne. omega arith)

-- one pin more, which is noted
pub pins_more : (v w : Knows) (q : Pin) → w.mine.shown.pins ≡ v.mine.shown.pins ++ q ∷ [] → w.noted.pinned ≡ record { range = q.range; target = target_of q.file q.chunk q.mode } ∷ v.noted.pinned → PinsNoted v → PinsNoted w
pins_more v w q now noted ok r some_on = go (on_range r q) refl
  where
    newest : (b : Bool) → on_range r q ≡ b → newest_on r w.mine.shown.pins ≡ or_before (cond b (Some q) None) (newest_on r v.mine.shown.pins)
    newest b e = ap (newest_on r) now ∙ (newest_push r v.mine.shown.pins q ∙ ap (λ x. or_before (cond x (Some q) None) (newest_on r v.mine.shown.pins)) e)

    said : (b : Bool) → on_range r q ≡ b → pinned_in r w.noted.pinned ≡ cond b (target_of q.file q.chunk q.mode) (pinned_in r v.noted.pinned)
    said b e = ap (pinned_in r) noted ∙ ap (λ x. cond x (target_of q.file q.chunk q.mode) (pinned_in r v.noted.pinned)) e

    go : (b : Bool) → on_range r q ≡ b → IsPinNoted w r
    go true e = pin_noted w r q (newest true e) (said true e)
    go false e = let p = newest_there r w.mine.shown.pins some_on in let before = sym (newest false e) ∙ p.1 in let k = ok r (on_less r v.mine.shown.pins p.0 before) in
        pin_noted w r k.the_pin (newest false e ∙ k.newest) (said false e ∙ k.noted)

-- one pin less
pub pins_fewer : (v w : Knows) (r : ℕ) → w.mine.shown.pins ≡ unpinned r v.mine.shown.pins → w.noted.pinned ≡ v.noted.pinned → PinsNoted v → PinsNoted w
pins_fewer v w r now noted ok r' some_on =
    let p = newest_there r' w.mine.shown.pins some_on in
    let same : newest_on r' w.mine.shown.pins ≡ newest_on r' v.mine.shown.pins = dite (ℕ_discrete r' r)
    (λ e. subst (λ (n : ℕ). newest_on n w.mine.shown.pins ≡ newest_on n v.mine.shown.pins) (sym e) (ap (newest_on r) now ∙ ⊎_elim
    (λ z. absurd (let x : None ≡ Some p.0 = sym z ∙ (ap (newest_on r) (sym now) ∙ (ap (λ (n : ℕ). newest_on n w.mine.shown.pins) (sym e) ∙ p.1)) in cc))
    (λ z. z) (unpinned_same r v.mine.shown.pins)))
    (λ ne. ap (newest_on r') now ∙ unpinned_other r r' v.mine.shown.pins ne) in
    pin_kept v w r' same noted (ok r' (on_less r' v.mine.shown.pins p.0 (sym same ∙ p.1)))

-- ---- the moved range

pub is_that : (o : Option ℕ) (r : ℕ) → is_number o r ≡ true → o ≡ Some r
is_that None r e = absurd (true≢false (sym e))
is_that (Some n) r e = ap (λ (k : ℕ). Some k) (eqb-true n r e)

module _ (v w : Knows) (moves : Option ℕ) (was : (r : ℕ) → moves_at v r ≡ is_number moves r) where
  pub moves_same : w.mine.shown.moving ≡ v.mine.shown.moving → (r : ℕ) → moves_at w r ≡ is_number moves r
  moves_same e r = ap (λ (bs : List Bool). moves_in bs r) e ∙ was r

  pub moves_taken : (r : ℕ) → AtRest v → r < ranges_of v → w.mine.shown.moving ≡ set v.mine.shown.moving r true → (i : ℕ) → moves_at w i ≡ is_number (Some r) i
  moves_taken r bare near e i = ap (λ (bs : List Bool). moves_in bs i) e ∙ dite (ℕ_discrete i r)
      (λ z. ap (λ (n : ℕ). get_or (set v.mine.shown.moving r true) n false) z ∙ (get_or-set_same v.mine.shown.moving r true false near ∙ sym (eq-eqb r i (sym z))))
      (λ ne. get_or-set_other v.mine.shown.moving r i true false ne ∙ (bare i ∙ sym (ne_eqb r i (λ z. ne (sym z)))))

  pub moves_settled : (r : ℕ) → moves_at v r ≡ true → r < ranges_of v → w.mine.shown.moving ≡ set v.mine.shown.moving r false → (i : ℕ) → moves_at w i ≡ false
  moves_settled r on near e i = ap (λ (bs : List Bool). moves_in bs i) e ∙ dite (ℕ_discrete i r)
      (λ z. ap (λ (n : ℕ). get_or (set v.mine.shown.moving r false) n false) z ∙ get_or-set_same v.mine.shown.moving r false false near)
      (λ ne. get_or-set_other v.mine.shown.moving r i false false ne ∙ (was i ∙ (ap (λ (o : Option ℕ). is_number o i) (is_that moves r (sym (was r) ∙ on)) ∙ ne_eqb r i (λ z. ne (sym z)))))

-- ---- looks

pub look_more : (looks : List (Option RangeWord)) (r ranges : ℕ) (l : Look) (ls : List Look) → l.range ≡ r → r < length looks → ((i : ℕ) → i < ranges → get_or looks i None ≡ word_in i ls) → (i : ℕ) → i < ranges → get_or (set looks r (Some l.word)) i None ≡ word_in i (l ∷ ls)
look_more looks r ranges l ls is near was i lt = dite (ℕ_discrete i r)
    (λ z. ap (λ (n : ℕ). get_or (set looks r (Some l.word)) n None) z ∙ (get_or-set_same looks r (Some l.word) None near ∙ sym (ap (λ b. cond b (Some l.word) (word_in i ls)) (eq-eqb l.range i (is ∙ sym z)))))
    (λ ne. get_or-set_other looks r i (Some l.word) None ne ∙ (was i lt ∙ sym (ap (λ b. cond b (Some l.word) (word_in i ls)) (ne_eqb l.range i (λ z. ne (sym z ∙ is))))))

-- ---- the tree in hand

pub had_file : (s : Chair) (file : ℕ) (log : List LogEntry) (f : ℕ) → Holds s file log → (branch_of s.me.0 f).had ≡ true → f ≡ file
had_file s file log f h on = dite (ℕ_discrete f file) (λ z. z) (λ ne. absurd (true≢false (sym on ∙ h.alone f ne)))

pub held_at : (s : Chair) (file : ℕ) (log : List LogEntry) (f : ℕ) → Holds s file log → (branch_of s.me.0 f).had ≡ true → Holds s f log
held_at s file log f h on = subst (λ (n : ℕ). Holds s n log) (sym (had_file s file log f h on)) h

module _ (s t : Chair) (table : t.table_id ≡ s.table_id) where
  hand_same : (file : ℕ) → t.me.0.mine.shown.branches ≡ s.me.0.mine.shown.branches → t.me.1 ≡ s.me.1 → (o : Option (List LogEntry)) → InHand s file o → InHand t file o
  hand_same file same out None h = ((λ f. ap (λ (bs : List Branch). (branch_in bs f).had) same ∙ h.0 f), out ∙ h.1)
  hand_same file same out (Some log) h = record {
    had = ap (λ (bs : List Branch). (branch_in bs file).had) same ∙ h.had;
    alone = λ i ne. ap (λ (bs : List Branch). (branch_in bs i).had) same ∙ h.alone i ne;
    taken = out ∙ h.taken;
    inside = let l = h.inside in let u = ap (λ (z : TableId). z.slots) table in omega arith;
    log_is = h.log_is ∙ sym (ap (λ (bs : List Branch). (branch_in bs file).seen) same);
  }

  -- the branch of one file is another
  module _ (f : ℕ) (b : Branch) (near : f < files_of s.me.0) (now : t.me.0.mine.shown.branches ≡ set s.me.0.mine.shown.branches f b) where
    pub branch_here : branch_of t.me.0 f ≡ b
    branch_here = ap (λ (bs : List Branch). branch_in bs f) now ∙ get_or-set_same s.me.0.mine.shown.branches f b no_branch near

    pub branch_else : (i : ℕ) → i ≢ f → branch_of t.me.0 i ≡ branch_of s.me.0 i
    branch_else i ne = ap (λ (bs : List Branch). branch_in bs i) now ∙ get_or-set_other s.me.0.mine.shown.branches f i b no_branch ne

    pub hand_now : (log : List LogEntry) → b.had ≡ true → log ≡ b.seen → f < s.table_id.slots → ((i : ℕ) → i ≢ f → (branch_of s.me.0 i).had ≡ false) → t.me.1 ≡ (f, None) ∷ [] → InHand t f (Some log)
    hand_now log had seen inside alone out = record {
      had = ap (λ (x : Branch). x.had) branch_here ∙ had;
      alone = λ i ne. ap (λ (x : Branch). x.had) (branch_else i ne) ∙ alone i ne;
      taken = out;
      inside = let u = ap (λ (z : TableId). z.slots) table in omega arith;
      log_is = seen ∙ sym (ap (λ (x : Branch). x.seen) branch_here);
    }

    pub hand_left : (file : ℕ) → b.had ≡ false → ((i : ℕ) → i ≢ f → (branch_of s.me.0 i).had ≡ false) → t.me.1 ≡ [] → InHand t file None
    hand_left file off alone out = ((λ i. dite (ℕ_discrete i f) (λ z. ap (λ (n : ℕ). (branch_of t.me.0 n).had) z ∙ (ap (λ (x : Branch). x.had) branch_here ∙ off)) (λ ne. ap (λ (x : Branch). x.had) (branch_else i ne) ∙ alone i ne)), out)

-- ---- the whole pass

module _ (s t : Chair) (d : Deed) (x : Noted) (P : Core → Type 0) (does : DoesSo d x P s.me.0 t.me.0) (table : t.table_id ≡ s.table_id)
    (hand : Option (List LogEntry)) (file guest : ℕ) (moves : Option ℕ) (ranges files : ℕ) (looks : List (Option RangeWord)) (ok : Sound s hand file guest moves ranges files looks) where
  pub small_of : s.me.0.guest < guests
  small_of = subst (λ (n : ℕ). n < guests) ok.guest_is ok.small

  pub eff_of : Effect d s.me.0.mine t.me.0.mine
  eff_of = effect_of d x P s.me.0 t.me.0 does small_of

  ranges_same : ranges_of t.me.0 ≡ ranges_of s.me.0
  ranges_same = same_moving d s.me.0.mine t.me.0.mine eff_of

  files_same : files_of t.me.0 ≡ files_of s.me.0
  files_same = same_branches d s.me.0.mine t.me.0.mine eff_of

  pub noted_is : t.me.0.noted ≡ x
  noted_is = noted_now d x P s.me.0 t.me.0 does

  pub sound_after : (hand' : Option (List LogEntry)) (file' : ℕ) (moves' : Option ℕ) (looks' : List (Option RangeWord))
      → InHand t file' hand' → ((r : ℕ) → moves_at t.me.0 r ≡ is_number moves' r) → IfSome moves' (λ r. r < ranges)
      → ((r : ℕ) → r < ranges → get_or looks' r None ≡ word_in r x.looks) → PinsNoted t.me.0
      → Sound t hand' file' guest moves' ranges files looks'
  sound_after hand' file' moves' looks' in_hand moved near looked noted = let k = ok.stands in let w = ap (λ (z : TableId). z.words) table in let u = ap (λ (z : TableId). z.slots) table in
      let a = k.wide in let b = k.few_files in let c = k.few_ranges in let e = k.files in let n = ranges_same in let m = files_same in let own = ok.ranges_are in let own' = ok.files_are in record {
        stands = record {
          same = refl;
          wide = omega arith;
          few_files = omega arith;
          few_ranges = omega arith;
          files = m ∙ (e ∙ sym u);
          live = live_kept d x P s.me.0 t.me.0 does ∙ k.live;
        };
        guest_is = ok.guest_is ∙ sym (guest_kept d x P s.me.0 t.me.0 does);
        small = ok.small;
        in_hand = in_hand;
        moves_is = moved;
        moves_near = near;
        ranges_are = own ∙ sym n;
        files_are = own' ∙ sym m;
        looks_are = λ r l. looked r l ∙ sym (ap (λ (y : Noted). word_in r y.looks) noted_is);
        showing = showing_now d x P s.me.0 t.me.0 does small_of;
        pins_noted = noted;
      }

  -- what is in hand, where no branch changed
  pub still_in_hand : t.me.0.mine.shown.branches ≡ s.me.0.mine.shown.branches → t.me.1 ≡ s.me.1 → InHand t file hand
  still_in_hand same out = hand_same s t table file same out hand ok.in_hand

  pub still_moves : t.me.0.mine.shown.moving ≡ s.me.0.mine.shown.moving → (r : ℕ) → moves_at t.me.0 r ≡ is_number moves r
  still_moves same = moves_same s.me.0 t.me.0 moves ok.moves_is same

  pub still_looks : x.looks ≡ s.me.0.noted.looks → (r : ℕ) → r < ranges → get_or looks r None ≡ word_in r x.looks
  still_looks same r l = ok.looks_are r l ∙ ap (word_in r) (sym same)

  pub still_pins : t.me.0.mine.shown.pins ≡ s.me.0.mine.shown.pins → x.pinned ≡ s.me.0.noted.pinned → PinsNoted t.me.0
  still_pins same noted = pins_same s.me.0 t.me.0 same (ap (λ (y : Noted). y.pinned) noted_is ∙ noted) ok.pins_noted
