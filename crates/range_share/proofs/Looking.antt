-- What a control word tells that is seen of a range, and looks at ranges.
use Rattle.std.proofs.Common.{◌≡◌, ◌≢◌, ℕ, zero, suc, ◌<◌, ◌≤◌, ◌==◌, ◌||◌, ◌&&◌, not, List, [], ◌∷◌, length, get_or, Bool, true, false, true≢false, Option, Some, None, refl, sym, ap, ◌∙◌, subst, arith, take, ne_eqb}
use mathlib.Core.Logic.{dite}
use mathlib.Core.Option.{none}
use native.Mathlib.Decide.{ℕ_discrete}
use lib.Seq.{set-get_or}
use Rattle.std.specs.List.{sum_by, find}
use Rattle.std.proofs.lemmas.List.Sums.{sum_by-cons}
use Rattle.std.proofs.Math.Seq.{take-length}
use Rattle.atomic_table.specs.Table.{step, Allows, keeps, carried_after}
use Rattle.seats.specs.Views.{guests}
use Rattle.seats.specs.Seats.{Shows}
use Rattle.seats.proofs.Seating.{event, only_noted}
use Rattle.page_map.specs.declared.pages.Mode.{Mode}
use Rattle.page_map.specs.declared.ranges.LogEntry.{LogEntry}
use Rattle.page_map.specs.declared.ranges.RangeWord.{RangeWord}
use Rattle.page_map.specs.declared.ranges.RangeWord.TheVariants as words
use Rattle.page_map.specs.Logs.{Slot, slot_in, slots_of, is_in, sound, placed_of}
use Rattle.range_tree.specs.Ranges.{SaysSlot, pins_in, is_of_file}
use Rattle.range_tree.proofs.Entries.{slot_in-placed, slot_placed}
use Rattle.window_core.specs.declared.states.Pin.{Pin}
use Rattle.window_core.specs.declared.states.RangeState.{RangeState}
use Rattle.window_core.specs.declared.states.RangeState.TheVariants as ranges
use Rattle.window_core.specs.Window.{Window, state, side, placed, pins_on, pin_count, word_of, word_at, look}
use Rattle.window_core.specs.Good.{GoodWindow}
use Rattle.window_core.proofs.Placing.{range_chunk}
use Rattle.window_core.proofs.Deeds.{row_under}
use Rattle.range_share.specs.Packed.{control_word}
use Rattle.range_share.specs.Table.{Core, GoodCore, Knows, Noted, mine, others_may, control_at, ShowsWords, window_kit}
use Rattle.range_share.specs.Steps.{Us, branch_of, ranges_of, Tells, DoesSo, saw, saw_for_take, looks_at, peeks_at, notes}
use Rattle.range_share.proofs.Laws.{window_laws}
use Rattle.range_share.proofs.Parts.{pins_on_are, movers_are, files_are, range_there, seen_part, seen_is, side_there, moves_is, moves_shown, moving_count, free_count, mapped_names, word_fits}
use Rattle.range_share.proofs.Writing.{part, small, found_control, by_control}

-- ---- words and states

pub mapped_state : (x : RangeState) (n f c k : ℕ) (m : Mode) → word_of x n ≡ words.Mapped f c m k → (x ≡ ranges.Mapped f c m) × (n ≡ k)
mapped_state ranges.Free n f c k m e = absurd (cc)
mapped_state (ranges.Moving g) n f c k m e = absurd (cc)
mapped_state (ranges.Mapped f' c' m') n f c k m e = ((let x : f' ≡ f = cc in let y : c' ≡ c = cc in let z : m' ≡ m = cc in λ i. ranges.Mapped (x i) (y i) (z i)), cc)

pub moving_state : (x : RangeState) (n g : ℕ) → word_of x n ≡ words.Moving g → x ≡ ranges.Moving g
moving_state ranges.Free n g e = absurd (cc)
moving_state (ranges.Moving g') n g e = let same : g' ≡ g = cc in ap (λ k. ranges.Moving k) same
moving_state (ranges.Mapped f c m) n g e = absurd (cc)

pub free_state : (x : RangeState) (n : ℕ) → word_of x n ≡ words.Free → x ≡ ranges.Free
free_state ranges.Free n e = refl
free_state (ranges.Moving g) n e = absurd (cc)
free_state (ranges.Mapped f c m) n e = absurd (cc)

-- ---- who else may move ranges

-- where no other may, each other guest's number is one that may not
alone_movers : (g movers : ℕ) → others_may g movers ≡ false → (n : ℕ) → n ≢ g → movers ≤ n
alone_movers g movers e n ne = dite (ℕ_discrete movers 0) (λ z. omega arith) (λ some_may. dite (ℕ_discrete movers 1)
    (λ one. dite (ℕ_discrete g 0) (λ z. omega arith) (λ far. absurd (true≢false (sym (rw (ne_eqb movers 0 some_may, ne_eqb g 0 far) (off (movers == 1))) ∙ e))))
    (λ more. absurd (true≢false (sym (rw (ne_eqb movers 0 some_may, ne_eqb movers 1 more) refl) ∙ e))))
  where
    off : (b : Bool) → not (false || (b && false)) ≡ true
    off true = refl
    off false = refl

-- ---- counts

sum_nothing : (r : ℕ) (rows : List (List Pin)) → ((g : ℕ) → get_or rows g [] ≡ []) → sum_by (pins_on r) rows ≡ 0
sum_nothing r [] h = refl
sum_nothing r (ps ∷ rows) h = let rest = sum_nothing r rows (λ g. h (suc g)) in let a : pins_on r ps ≡ 0 = ap (pins_on r) (h 0) in let c = sum_by-cons (pins_on r) ps rows in omega arith

-- one guest alone has pins
sum_one : (r g : ℕ) (rows : List (List Pin)) → ((n : ℕ) → n ≢ g → get_or rows n [] ≡ []) → sum_by (pins_on r) rows ≡ pins_on r (get_or rows g [])
sum_one r g [] h = refl
sum_one r zero (ps ∷ rows) h = let rest = sum_nothing r rows (λ n. h (suc n) (λ e. omega arith)) in let c = sum_by-cons (pins_on r) ps rows in omega arith
sum_one r (suc g) (ps ∷ rows) h = let rest = sum_one r g rows (λ n ne. h (suc n) (λ e. ne (omega arith))) in let a : pins_on r ps ≡ 0 = ap (pins_on r) (h 0 (λ e. omega arith)) in let c = sum_by-cons (pins_on r) ps rows in omega arith

-- ---- what a word says

module _ (h : Window) (good : GoodWindow guests h) (r : ℕ) where
  pub pins_in_word : pins_in (word_at h r) ≡ pin_count h r
  unfolding pins_in
  pins_in_word = go (state h r) refl
    where
      go : (x : RangeState) → state h r ≡ x → pins_in (word_of x (pin_count h r)) ≡ pin_count h r
      go ranges.Free e = sym (free_count h good r e)
      go (ranges.Moving g) e = sym (moving_count h good r g e)
      go (ranges.Mapped f c m) e = refl

  -- it says of each file what its log has in the range
  pub says_slot : (f : ℕ) → f < length h.sides → SaysSlot f (slot_in (side h f).log r) (word_at h r)
  unfolding SaysSlot slot_in is_of_file
  says_slot f near = go (find (is_in r) (slots_of (side h f).log)) refl
    where
      is : sound (length h.states) (side h f).log ≡ true
      is = (good.sides_ok f near).log_sound

      clash : (s : Slot) → None ≡ Some s → ⊥
      clash s e = cc

      other : (x : RangeState) → state h r ≡ x → find (is_in r) (slots_of (side h f).log) ≡ None → is_of_file f (word_of x (pin_count h r)) ≡ false
      other ranges.Free st e = refl
      other (ranges.Moving g) st e = refl
      other (ranges.Mapped f' c m) st e = dite (ℕ_discrete f' f)
          (λ same. let q = good.mapped_placed r f' c m st in absurd (clash (slot_placed c q.0) (sym e ∙ (ap (λ n. slot_in (side h f).log n) (sym q.2) ∙ slot_in-placed (length h.states) (side h f).log c q.0 is (ap (λ n. placed h n c) (sym same) ∙ q.1)))))
          (λ ne. ne_eqb f' f ne)

      go : (o : Option Slot) → find (is_in r) (slots_of (side h f).log) ≡ o → SaysSlot f o (word_at h r)
      go None e = other (state h r) refl e
      go (Some s) e =
          let k = range_chunk (length h.states) (side h f).log is r s e in
          let st : state h r ≡ ranges.Mapped f s.chunk s.mode = ap (state h) (sym k.1) ∙ good.placed_mapped f s.chunk (placed_of s) k.0 in
          ap (λ x. word_of x (pin_count h r)) st ∙ ap (λ n. words.Mapped f s.chunk s.mode n) (sym pins_in_word)

-- ---- what it tells a pass

module _ (c : Core) (v : Knows) (part : v.mine ≡ mine v.guest c) (good : GoodCore c) (small : v.guest < guests) where
  -- all of each log is seen where no other may move ranges
  pub seen_whole : (f : ℕ) → f < length c.window.sides → others_may v.guest c.movers ≡ false → (branch_of v f).seen ≡ (side c.window f).log
  seen_whole f l off = seen_part v c part f ∙ (ap (λ n. take n (side c.window f).log) (good.alone_seen v.guest f small off l) ∙ take-length (side c.window f).log)

  pub tells : (r : ℕ) → Tells v r (word_at c.window r)
  tells r =
      let near : v.guest < length c.window.pins = (let n = good.window_good.pins_all in omega arith) in
      let counted = pins_in_word c.window good.window_good r in
      let own = pins_on_are v c part r in record {
        fits = word_fits c good r;
        names = λ f k n m e. let st = mapped_state (state c.window r) (pin_count c.window r) f k n m e in let l = (mapped_names c.window good.window_good r f k m st.0).0 in let files = files_are v c part in omega arith;
        tree = λ f had. subst (λ (log : List LogEntry). SaysSlot f (slot_in log r) (word_at c.window r)) (sym (seen_is v c part good.window_good f had)) (says_slot c.window good.window_good r f (side_there v c part f had));
        own_moved = λ t. ap (λ x. word_of x (pin_count c.window r)) (moves_is v c part r t);
        moved_own = λ e. moves_shown v c part r (moving_state (state c.window r) (pin_count c.window r) v.guest e);
        own_pins = let u = row_under c.window r v.guest near in omega arith;
        alone = λ off. let off' : others_may v.guest c.movers ≡ false = ap (λ n. others_may v.guest n) (sym (movers_are v c part)) ∙ off in record {
          pins = counted ∙ (sum_one r v.guest c.window.pins (λ n ne. good.pins_only n (alone_movers v.guest c.movers off' n ne)) ∙ sym own);
          mover = λ n e. dite (ℕ_discrete n v.guest) (λ same. same)
              (λ ne. absurd (good.moves_only n r (alone_movers v.guest c.movers off' n ne) (moving_state (state c.window r) (pin_count c.window r) n e)));
          logs = λ f l. let n = files_are v c part in let l' : f < length c.window.sides = omega arith in
              subst (λ (log : List LogEntry). SaysSlot f (slot_in log r) (word_at c.window r)) (sym (seen_whole f l' off')) (says_slot c.window good.window_good r f l');
        };
      }

-- ---- looks

module _ (slots id : ℕ) (me : Us) (live : me.0.live ≡ true) where
  pub looks_there : (a : ℕ) → a < ranges_of me.0 → Allows (Shows window_kit) slots id me (control_at slots a) (λ n. n) (looks_at (step slots (control_at slots a) 0 0 none) me)
  looks_there a near s r deep at few =
      let c : Core = r.core in
      let is = part s r slots id me.0 live deep at in
      let inside = range_there me.0 c is a near in
      let w : RangeWord = word_at c.window a in
      let n : ℕ = get_or s.words (control_at slots a) 0 in
      let x = event window_kit window_laws s r (control_at slots a) n id me at live (look a) (record { allowed = inside; mover = tt }) (saw me.0.noted me.0.mine a w) (λ c. w ≡ word_at c.window a) refl (subst (λ ws. ShowsWords ws c) (sym (set-get_or s.words (control_at slots a) 0)) r.words) refl in (
        x.0,
        x.1,
        x.2,
        x.3,
        by_control (λ a'. (w : RangeWord) × Tells me.0 a' w × (n ≡ control_word w) × DoesSo (look a') (saw me.0.noted me.0.mine a' w) (λ c. w ≡ word_at c.window a') me.0 x.0 × (carried_after me.1 x.1 ≡ me.1)) slots a
            (w, tells c me.0 is r.good (small s r slots id me.0 live deep at) a, found_control s r slots id me.0 live deep at a inside, x.4.0, x.4.1),
      )

  pub peeks_there : (a : ℕ) → a < ranges_of me.0 → Allows (Shows window_kit) slots id me (control_at slots a) (λ n. n) (peeks_at (step slots (control_at slots a) 0 0 none) me)
  peeks_there a near s r deep at few =
      let c : Core = r.core in
      let is = part s r slots id me.0 live deep at in
      let inside = range_there me.0 c is a near in
      let w : RangeWord = word_at c.window a in
      let n : ℕ = get_or s.words (control_at slots a) 0 in
      let x = event window_kit window_laws s r (control_at slots a) n id me at live (look a) (record { allowed = inside; mover = tt }) (saw_for_take me.0.noted me.0.mine a w) (λ c. w ≡ word_at c.window a) refl (subst (λ ws. ShowsWords ws c) (sym (set-get_or s.words (control_at slots a) 0)) r.words) refl in (
        x.0,
        x.1,
        x.2,
        x.3,
        by_control (λ a'. (w : RangeWord) × Tells me.0 a' w × (n ≡ control_word w) × DoesSo (look a') (saw_for_take me.0.noted me.0.mine a' w) (λ c. w ≡ word_at c.window a') me.0 x.0 × (carried_after me.1 x.1 ≡ me.1)) slots a
            (w, tells c me.0 is r.good (small s r slots id me.0 live deep at) a, found_control s r slots id me.0 live deep at a inside, x.4.0, x.4.1),
      )

  -- a load of any word, at which something is noted
  pub notes_it : (i : ℕ) (x : Noted) → Allows (Shows window_kit) slots id me i (λ n. n) (notes x (step slots i 0 0 none) me)
  notes_it i x s r deep at few = (record me.0 { noted = x }, keeps, tt, only_noted window_kit window_laws s r i id me.1 me.0 x at, refl)
