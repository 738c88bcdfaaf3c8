-- A range is taken.
use Rattle.std.proofs.Common.{◌≡◌, ◌≢◌, ℕ, ◌<◌, ◌==◌, List, length, set, get_or, true, true≢false, Option, None, refl, sym, ap, ◌∙◌, subst, length-set, get_or-set_same, get_or-set_other, eqb}
use mathlib.Core.Option.{none, some}
use lib.ListN.{get_elem?}
use prog.Atomic.{either}
use Rattle.std.specs.List.{sum_by}
use Rattle.std.proofs.lemmas.Bool.{eqb-true, and_parts}
use Rattle.atomic_table.specs.Table.{Act, step, stepped, carried_after, Valid, Allows}
use Rattle.seats.specs.Seats.{Shows}
use Rattle.seats.proofs.Seating.{event, exchanged}
use Rattle.page_map.specs.declared.ranges.LogEntry.{LogEntry}
use Rattle.page_map.specs.declared.ranges.RangeWord.{RangeWord}
use Rattle.page_map.specs.declared.ranges.RangeWord.TheVariants as words
use Rattle.range_tree.specs.Trees.{remove_entry}
use Rattle.window_core.specs.declared.states.RangeState.TheVariants as ranges
use Rattle.window_core.specs.Window.{Side, state, side, pins_on, pin_count, grown, take_free, take_mapped, word_of, word_at}
use Rattle.window_core.proofs.Keeps.{side_inside}
use Rattle.range_share.specs.Packed.{WordFits, control_word}
use Rattle.range_share.specs.Table.{Core, MayDo, Knows, done, control_at, ShowsWords, window_kit}
use Rattle.range_share.specs.Steps.{Us, ranges_of, AtRest, Tells, DoesSo, saw, take_of, may_take_in, tries_take}
use Rattle.range_share.proofs.Laws.{window_laws}
use Rattle.range_share.proofs.Words.{control_one}
use Rattle.range_share.proofs.Parts.{range_there, still_is, holder_is, movers_are, word_fits}
use Rattle.range_share.proofs.Writing.{St, part, small, files, found_control, put_control, holders_put, homes_put, by_control}
use Rattle.range_share.proofs.Looking.{mapped_state, free_state, tells}

module _ (slots id : ℕ) (me : Us) (live : me.0.live ≡ true) where
  -- one range is moved, by a word that says so
  take_words : (c : Core) (ws : List ℕ) (a n : ℕ) (c' : Core) → slots ≡ length c.window.sides → length c'.window.sides ≡ length c.window.sides → c'.window.states ≡ set c.window.states a (ranges.Moving me.0.guest) → c'.window.pins ≡ c.window.pins
      → c'.window.targets ≡ c.window.targets → ((f : ℕ) → (side c'.window f).holder ≡ (side c.window f).holder) → ShowsWords ws c → a < length c.window.states → n ≡ control_word (words.Moving me.0.guest) → ShowsWords (set ws (control_at slots a) n) c'
  take_words c ws a n c' sized many states pins targets holders w inside is = let x = ranges.Moving me.0.guest in
      put_control slots ws c c' sized (sized ∙ sym many) (ap length states ∙ length-set c.window.states a x) w a n inside
      (is ∙ sym (ap (λ s. control_word (word_of s (pin_count c'.window a))) (ap (λ l. get_or l a ranges.Free) states ∙ get_or-set_same c.window.states a x ranges.Free inside)))
      (λ b ne. λ i. word_of ((ap (λ l. get_or l b ranges.Free) states ∙ get_or-set_other c.window.states a b x ranges.Free ne) i) (sum_by (pins_on b) (pins i)))
      (λ b. ap (λ l. get_or l b None) targets) holders

  -- what a take does where the word says that it may
  take_step : (s : St) (r : Shows window_kit s) (deep : length s.homes ≡ slots) (at : get_elem? s.views id ≡ some me.0) (a n : ℕ) (old : RangeWord) → a < length r.core.window.states → me.0.guest < me.0.mine.movers → AtRest me.0 → may_take_in me.0.mine old ≡ true
      → word_at r.core.window a ≡ old → n ≡ control_word (words.Moving me.0.guest)
      → (w : Knows) × (b : Act (Option (List LogEntry))) × Valid s.homes me.1 b × Shows window_kit (stepped s (control_at slots a) n id me.1 w b) × (DoesSo (take_of a old) me.0.noted (λ c. old ≡ word_at c.window a) me.0 w × (carried_after me.1 b ≡ me.1))
  take_step s r deep at a n words.Free inside may_move rest_now may is new =
      let c : Core = r.core in
      let seen = part s r slots id me.0 live deep at in
      let sized = files s r slots id me.0 live deep at in
      let ok : MayDo c me.0.guest (take_free a) = record {
        allowed = (inside, free_state (state c.window a) (pin_count c.window a) is, still_is me.0 c seen rest_now);
        mover = subst (λ (k : ℕ). me.0.guest < k) (movers_are me.0 c seen) may_move;
      } in
      event window_kit window_laws s r (control_at slots a) n id me at live (take_free a) ok me.0.noted (λ c. words.Free ≡ word_at c.window a) (sym is)
      (take_words c s.words a n (done c me.0.guest (take_free a)) sized refl refl refl refl (λ f. refl) r.words inside new) refl
  take_step s r deep at a n (words.Moving g) inside may_move rest_now may is new = absurd (true≢false (sym may))
  take_step s r deep at a n (words.Mapped f k m p) inside may_move rest_now may is new =
      let c : Core = r.core in
      let seen = part s r slots id me.0 live deep at in
      let sized = files s r slots id me.0 live deep at in
      let st = mapped_state (state c.window a) (pin_count c.window a) f k p m is in
      let both = and_parts (p == 0) _ may in
      let had = holder_is me.0 c seen f both.1 in
      let ok : MayDo c me.0.guest (take_mapped a f k m) = record {
        allowed = (st.0, st.1 ∙ eqb-true p 0 both.0, had, still_is me.0 c seen rest_now);
        mover = subst (λ (k : ℕ). me.0.guest < k) (movers_are me.0 c seen) may_move;
      } in
      let s' : Side = grown me.0.guest (remove_entry a) (side c.window f) in
      event window_kit window_laws s r (control_at slots a) n id me at live (take_mapped a f k m) ok me.0.noted (λ c'. words.Mapped f k m p ≡ word_at c'.window a) (sym is)
      (take_words c s.words a n (done c me.0.guest (take_mapped a f k m)) sized (length-set c.window.sides f s') refl refl refl (holders_put c.window f s' (side_inside c.window f me.0.guest had) refl) r.words inside new)
      (homes_put c.window f me.0.guest s' had had)

  pub takes_it : (a g : ℕ) (old : RangeWord) → WordFits old → a < ranges_of me.0 → g ≡ me.0.guest → me.0.guest < me.0.mine.movers → AtRest me.0 → may_take_in me.0.mine old ≡ true
      → Allows (Shows window_kit) slots id me (control_at slots a) (λ n. either (eqb n (control_word old)) (control_word (words.Moving g)) n) (tries_take (step slots (control_at slots a) (control_word old) (control_word (words.Moving g)) none) me)
  takes_it a g old fits near is may_move still may s r deep at few =
      let c : Core = r.core in
      let seen = part s r slots id me.0 live deep at in
      let inside = range_there me.0 c seen a near in
      let n : ℕ = get_or s.words (control_at slots a) 0 in
      let found : n ≡ control_word (word_at c.window a) = found_control s r slots id me.0 live deep at a inside in
      let told = tells c me.0 seen r.good (small s r slots id me.0 live deep at) a in
      exchanged window_kit window_laws s r (control_at slots a) (control_word old) (control_word (words.Moving g)) id me at (saw me.0.noted me.0.mine a (word_at c.window a)) (tries_take (step slots (control_at slots a) (control_word old) (control_word (words.Moving g)) none) me)
      (λ hit. let was : word_at c.window a ≡ old = control_one (word_at c.window a) old (word_fits c r.good a) fits (sym found ∙ hit) in
      let x = take_step s r deep at a (control_word (words.Moving g)) old inside may_move still may was (ap (λ k. control_word (words.Moving k)) is) in (
        x.0,
        x.1,
        x.2,
        x.3,
        λ a' old' e fits' first. let same : old ≡ old' = control_one old old' fits fits' first in
            subst (λ (o : RangeWord). (w : RangeWord) × Tells me.0 a' w × (n ≡ control_word w) × (n ≡ control_word old → DoesSo (take_of a' o) me.0.noted (λ c. w ≡ word_at c.window a') me.0 x.0 × (carried_after me.1 x.1 ≡ me.1))
            × (n ≢ control_word old → ◌≡◌ {A = Us} (x.0, carried_after me.1 x.1) (record me.0 { noted = saw me.0.noted me.0.mine a' w }, me.1))) same
            (by_control (λ a'. (w : RangeWord) × Tells me.0 a' w × (n ≡ control_word w) × (n ≡ control_word old → DoesSo (take_of a' old) me.0.noted (λ c. w ≡ word_at c.window a') me.0 x.0 × (carried_after me.1 x.1 ≡ me.1))
            × (n ≢ control_word old → ◌≡◌ {A = Us} (x.0, carried_after me.1 x.1) (record me.0 { noted = saw me.0.noted me.0.mine a' w }, me.1))) slots a
            (old, subst (λ (w : RangeWord). Tells me.0 a w) was told, hit, (λ _. (x.4.0, x.4.1)), λ ne. absurd (ne hit)) a' e),
      ))
      (λ miss a' old' e fits' first. by_control (λ a'. (w : RangeWord) × Tells me.0 a' w × (n ≡ control_word w)
      × (n ≡ control_word old → DoesSo (take_of a' old') me.0.noted (λ c. w ≡ word_at c.window a') me.0 (record me.0 { noted = saw me.0.noted me.0.mine a (word_at c.window a) }) × (me.1 ≡ me.1))
      × (n ≢ control_word old → ◌≡◌ {A = Us} (record me.0 { noted = saw me.0.noted me.0.mine a (word_at c.window a) }, me.1) (record me.0 { noted = saw me.0.noted me.0.mine a' w }, me.1))) slots a
      (word_at c.window a, told, found, (λ z. absurd (miss z)), λ _. refl) a' e)
