-- Ranges are pinned and unpinned, and the control word counts it.
use Rattle.std.proofs.Common.{◌≡◌, ◌≢◌, ℕ, suc, ◌+◌, ◌-◌, ◌%◌, ◌^◌, ◌<◌, List, [], ◌∷◌, ◌++◌, length, set, get_or, slice_get, Bool, true, false, eqb, cond, Some, refl, sym, ap, ◌∙◌, subst, arith, eq-eqb, ne_eqb}
use mathlib.Core.Option.{none}
use Rattle.std.proofs.lemmas.Bool.{eqb-true}
use Rattle.std.proofs.lemmas.List.Sums.{sum_by-set, sum_by_push}
use Rattle.atomic_table.specs.Table.{step, Allows, carried_after}
use Rattle.seats.specs.Seats.{Shows}
use Rattle.seats.proofs.Seating.{event}
use Rattle.page_map.specs.declared.pages.Mode.{Mode}
use Rattle.page_map.specs.declared.ranges.Placed.{Placed}
use Rattle.page_map.specs.declared.ranges.RangeWord.TheVariants as words
use Rattle.page_map.specs.Logs.{placed_at}
use Rattle.page_map.specs.Window.{max_chunks}
use Rattle.window_core.specs.declared.states.Pin.{Pin}
use Rattle.window_core.specs.declared.states.RangeState.TheVariants as ranges
use Rattle.window_core.specs.Window.{Window, state, side, pins, on_range, pins_on, pin_count, unpinned, word_of, new_pin, with_pins, pin, unpin}
use Rattle.window_core.proofs.Placing.{some_same}
use Rattle.window_core.proofs.Keeps.{mapped_inside, same_mapped}
use Rattle.window_core.proofs.Deeds.{one_on}
use Rattle.range_share.specs.Packed.{control_word}
use Rattle.range_share.specs.Table.{Core, GoodCore, Knows, MayDo, ShowsWords, mine, control_at, window_kit}
use Rattle.range_share.specs.Steps.{Us, Always, DoesSo, HasIn, pinned_noted, pins_one, unpins_one}
use Rattle.range_share.proofs.Laws.{window_laws}
use Rattle.range_share.proofs.Words.{bit_small}
use Rattle.range_share.proofs.Parts.{pins_are, pins_on_are, movers_are, has_is, count_small, mapped_small}
use Rattle.range_share.proofs.Writing.{put_control, part, small, files, found_control, by_control}

-- ---- words

-- one pin more, and one less
module _ (f c p : ℕ) (m : Mode) (fl : f < 64) (cl : c < max_chunks) (pl : p < 65534) where
  one_more : (control_word (words.Mapped f c m p) + 1) % 2 ^ 64 ≡ control_word (words.Mapped f c m (p + 1))
  one_more = let b = bit_small m in omega arith

  one_less : (control_word (words.Mapped f c m (p + 1)) + (2 ^ 64 - 1)) % 2 ^ 64 ≡ control_word (words.Mapped f c m p)
  one_less = let b = bit_small m in omega arith

-- ---- counts

pushed : (r : ℕ) (ps : List Pin) (q : Pin) → pins_on r (ps ++ q ∷ []) ≡ pins_on r ps + cond (eqb q.range r) 1 0
pushed r ps q = sum_by_push (λ (y : Pin). cond (on_range r y) 1 0) ps q

left_on : (r a : ℕ) (ps : List Pin) → 0 < pins_on r ps → pins_on a (unpinned r ps) + cond (eqb r a) 1 0 ≡ pins_on a ps
left_on r a [] some_there = absurd (let z : pins_on r [] ≡ 0 = refl in omega arith)
left_on r a (q ∷ ps) some_there = go (eqb q.range r) refl (λ h. left_on r a ps h)
  where
    go : (b : Bool) → eqb q.range r ≡ b → (0 < pins_on r ps → pins_on a (unpinned r ps) + cond (eqb r a) 1 0 ≡ pins_on a ps) → pins_on a (cond b ps (q ∷ unpinned r ps)) + cond (eqb r a) 1 0 ≡ pins_on a (q ∷ ps)
    go true is rest = let c = one_on a q ps in let z : ◌≡◌ {A = ℕ} (cond (eqb q.range a) 1 0) (cond (eqb r a) 1 0) = ap (λ n. cond (eqb n a) 1 0) (eqb-true q.range r is) in omega arith
    go false is rest = let c = one_on r q ps in let d = one_on a q ps in let e = one_on a q (unpinned r ps) in let z : ◌≡◌ {A = ℕ} (cond (eqb q.range r) 1 0) 0 = ap (λ b. cond b 1 0) is in let h = rest (omega arith) in omega arith

-- a guest's pins are others
count_put : (h : Window) (g : ℕ) (ps : List Pin) (r : ℕ) → g < length h.pins → pin_count (with_pins g ps h) r + pins_on r (pins h g) ≡ pin_count h r + pins_on r ps
count_put h g ps r l = sum_by-set (pins_on r) h.pins g ps [] l

-- a pin on the range
pinned_one : (a : ℕ) (ps : List Pin) → 0 < pins_on a ps → (k : ℕ) × (p : Pin) × (slice_get ps k ≡ Some p) × (p.range ≡ a)
pinned_one a [] l = absurd (let z : pins_on a [] ≡ 0 = refl in omega arith)
pinned_one a (p ∷ ps) l = go (eqb p.range a) refl (λ m. pinned_one a ps m)
  where
    go : (b : Bool) → eqb p.range a ≡ b → (0 < pins_on a ps → (k : ℕ) × (q : Pin) × (slice_get ps k ≡ Some q) × (q.range ≡ a)) → (k : ℕ) × (q : Pin) × (slice_get (p ∷ ps) k ≡ Some q) × (q.range ≡ a)
    go true e rest = (0, p, refl, eqb-true p.range a e)
    go false e rest = let c = one_on a p ps in let z : ◌≡◌ {A = ℕ} (cond (eqb p.range a) 1 0) 0 = ap (λ b. cond b 1 0) e in let y = rest (omega arith) in (suc y.0, y.1, y.2, y.3)

-- ---- places

-- the range tells file, chunk and place
pub only_place : (v : Knows) (c : Core) (is : v.mine ≡ mine v.guest c) (good : GoodCore c) (f k f' k' : ℕ) (p p' : Placed) → HasIn v.mine f k p → HasIn v.mine f' k' p' → p.range ≡ p'.range → (f ≡ f') × (k ≡ k') × (p ≡ p')
only_place v c is good f k f' k' p p' has has' same =
    let h : Window = c.window in
    let x = has_is v c is good.window_good f k p has in
    let x' = has_is v c is good.window_good f' k' p' has' in
    let z = same_mapped f k f' k' p.mode p'.mode (sym (good.window_good.placed_mapped f k p x.1) ∙ (ap (state h) same ∙ good.window_good.placed_mapped f' k' p' x'.1)) in
    (z.0, z.1, some_same p p' (sym x.1 ∙ ((λ i. placed_at (side h (z.0 i)).log (z.1 i)) ∙ x'.1)))

-- the pins of a mapped range are others
pin_words : (F : ℕ) (c : Core) (g : ℕ) (ws : List ℕ) (a n f k : ℕ) (m : Mode) (ps : List Pin) → F ≡ length c.window.sides → ShowsWords ws c → state c.window a ≡ ranges.Mapped f k m → ((b : ℕ) → b ≢ a → pins_on b ps ≡ pins_on b (pins c.window g)) → g < length c.window.pins
    → n ≡ control_word (words.Mapped f k m (pin_count (with_pins g ps c.window) a)) → ShowsWords (set ws (control_at F a) n) (record c { window = with_pins g ps c.window })
pin_words F c g ws a n f k m ps sized w st same near is = let h : Window = c.window in let h' : Window = with_pins g ps h in put_control F ws c (record c { window = h' }) sized sized refl w a n (mapped_inside h a f k m st)
    (is ∙ sym (ap (λ x. control_word (word_of x (pin_count h' a))) st))
    (λ b ne. ap (word_of (state h b)) (let z = count_put h g ps b near in let e = same b ne in omega arith)) (λ b. refl) (λ f. refl)

module _ (slots id : ℕ) (me : Us) (live : me.0.live ≡ true) where
  pub pins_it : (f k : ℕ) (p : Placed) → HasIn me.0.mine f k p → me.0.guest < me.0.mine.movers → length me.0.mine.shown.pins < 64
      → Allows (Shows window_kit) slots id me (control_at slots p.range) (λ n. (n + 1) % 2 ^ 64) (pins_one (step slots (control_at slots p.range) 1 0 none) me)
  pins_it f k p has mover room s r deep at few =
      let c : Core = r.core in
      let h : Window = c.window in
      let g : ℕ = me.0.guest in
      let is = part s r slots id me.0 live deep at in
      let sized = files s r slots id me.0 live deep at in
      let x = has_is me.0 c is r.good.window_good f k p has in
      let st = r.good.window_good.placed_mapped f k p x.1 in
      let inside = mapped_inside h p.range f k p.mode st in
      let lims = mapped_small c r.good p.range f k p.mode st in
      let n : ℕ = get_or s.words (control_at slots p.range) 0 in
      let was : ℕ = pin_count h p.range in
      let found : n ≡ control_word (words.Mapped f k p.mode was) = found_control s r slots id me.0 live deep at p.range inside ∙ ap (λ x. control_word (word_of x was)) st in
      let q : Pin = new_pin (side h f) f k p in
      let ps : List Pin = pins h g ++ q ∷ [] in
      let near : g < length h.pins = (let z = r.good.window_good.pins_all in let y = small s r slots id me.0 live deep at in omega arith) in
      let one : ◌≡◌ {A = ℕ} (cond (eqb p.range p.range) 1 0) 1 = rw (eq-eqb p.range p.range refl) refl in
      let more : pin_count (with_pins g ps h) p.range ≡ was + 1 = (let y = count_put h g ps p.range near in let z = pushed p.range (pins h g) q in omega arith) in
      let up = count_small h r.good.window_good p.range in
      let now : (n + 1) % 2 ^ 64 ≡ control_word (words.Mapped f k p.mode (pin_count (with_pins g ps h) p.range)) = ap (λ (z : ℕ). (z + 1) % 2 ^ 64) found ∙ (one_more f k was p.mode lims.0 lims.1 (omega arith) ∙ ap (λ z. control_word (words.Mapped f k p.mode z)) (sym more)) in
      let many = movers_are me.0 c is in
      let ok : MayDo c g (pin f k p) = record { allowed = (x.0, x.1, subst (λ l. length l < 64) (pins_are me.0 c is) room); mover = omega arith } in
      let noted = pinned_noted me.0.noted f k p in
      let y = event window_kit window_laws s r (control_at slots p.range) ((n + 1) % 2 ^ 64) id me at live (pin f k p) ok noted Always tt
      (pin_words slots c g s.words p.range ((n + 1) % 2 ^ 64) f k p.mode ps sized r.words st
      (λ b ne. pushed b (pins h g) q ∙ (let z : ◌≡◌ {A = ℕ} (cond (eqb p.range b) 1 0) 0 = rw (ne_eqb p.range b (λ e. ne (sym e))) refl in omega arith)) near now) refl in (
        y.0,
        y.1,
        y.2,
        y.3,
        λ f' k' p' i has'. let same : p.range ≡ p'.range = omega arith in let o = only_place me.0 c is r.good f k f' k' p p' has has' same in
            subst (λ (z : ℕ × ℕ × Placed). DoesSo (pin z.0 z.1 z.2) (pinned_noted me.0.noted z.0 z.1 z.2) Always me.0 y.0 × (carried_after me.1 y.1 ≡ me.1)) (λ j. (o.0 j, o.1 j, o.2 j)) y.4,
      )

  pub unpins_it : (a : ℕ) → 0 < pins_on a me.0.mine.shown.pins → Allows (Shows window_kit) slots id me (control_at slots a) (λ n. (n + (2 ^ 64 - 1)) % 2 ^ 64) (unpins_one (step slots (control_at slots a) 1 0 none) me)
  unpins_it a some_there s r deep at few =
      let c : Core = r.core in
      let h : Window = c.window in
      let g : ℕ = me.0.guest in
      let is = part s r slots id me.0 live deep at in
      let sized = files s r slots id me.0 live deep at in
      let had : 0 < pins_on a (pins h g) = subst (λ (z : ℕ). 0 < z) (pins_on_are me.0 c is a) some_there in
      let first = pinned_one a (pins h g) had in
      let fine = r.good.window_good.pins_ok g first.0 first.1 first.2 in
      let q : Pin = first.1 in
      let st : state h a ≡ ranges.Mapped q.file q.chunk fine.mode = ap (state h) (sym first.3) ∙ fine.state_is in
      let inside = mapped_inside h a q.file q.chunk fine.mode st in
      let lims = mapped_small c r.good a q.file q.chunk fine.mode st in
      let n : ℕ = get_or s.words (control_at slots a) 0 in
      let was : ℕ = pin_count h a in
      let found : n ≡ control_word (words.Mapped q.file q.chunk fine.mode was) = found_control s r slots id me.0 live deep at a inside ∙ ap (λ x. control_word (word_of x was)) st in
      let ps : List Pin = unpinned a (pins h g) in
      let near : g < length h.pins = (let z = r.good.window_good.pins_all in let y = small s r slots id me.0 live deep at in omega arith) in
      let left = left_on a a (pins h g) had in
      let one : ◌≡◌ {A = ℕ} (cond (eqb a a) 1 0) 1 = rw (eq-eqb a a refl) refl in
      let less : was ≡ pin_count (with_pins g ps h) a + 1 = (let y = count_put h g ps a near in omega arith) in
      let up = count_small h r.good.window_good a in
      let now : (n + (2 ^ 64 - 1)) % 2 ^ 64 ≡ control_word (words.Mapped q.file q.chunk fine.mode (pin_count (with_pins g ps h) a)) = ap (λ (z : ℕ). (z + (2 ^ 64 - 1)) % 2 ^ 64) (found ∙ ap (λ z. control_word (words.Mapped q.file q.chunk fine.mode z)) less) ∙ one_less q.file q.chunk (pin_count (with_pins g ps h) a) fine.mode lims.0 lims.1 (omega arith) in
      let x = event window_kit window_laws s r (control_at slots a) ((n + (2 ^ 64 - 1)) % 2 ^ 64) id me at live (unpin a) (record { allowed = had; mover = tt }) me.0.noted Always tt
      (pin_words slots c g s.words a ((n + (2 ^ 64 - 1)) % 2 ^ 64) q.file q.chunk fine.mode ps sized r.words st
      (λ b ne. let l = left_on a b (pins h g) had in let z : ◌≡◌ {A = ℕ} (cond (eqb a b) 1 0) 0 = rw (ne_eqb a b (λ e. ne (sym e))) refl in omega arith) near now) refl in
      (x.0, x.1, x.2, x.3, λ a' i. by_control (λ a'. DoesSo (unpin a') me.0.noted Always me.0 x.0 × (carried_after me.1 x.1 ≡ me.1)) slots a x.4 a' i)
