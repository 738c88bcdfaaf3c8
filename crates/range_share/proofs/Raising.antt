-- What is placed for reading may be written: the mode's bit is set.
use Rattle.std.proofs.Common.{◌≡◌, ℕ, ◌+◌, ◌*◌, ◌/◌, ◌%◌, ◌<◌, length, get_or, true, Some, refl, sym, ap, ◌∙◌, subst, arith, length-set, get_or-set_other, get_or-set_same}
use mathlib.Core.Option.{none}
use Rattle.std.specs.Int.{bit_at}
use Rattle.std.specs.Int.Bits.{bit_and, bit_or, or_add_and}
use Rattle.std.proofs.lemmas.Nat.Bits.{and_pow}
use Rattle.atomic_table.specs.Table.{step, Allows, carried_after}
use Rattle.seats.specs.Seats.{Shows}
use Rattle.seats.proofs.Seating.{event}
use Rattle.page_map.specs.declared.pages.Mode.TheVariants as modes
use Rattle.page_map.specs.declared.ranges.Placed.{Placed}
use Rattle.page_map.specs.declared.ranges.RangeWord.TheVariants as words
use Rattle.page_map.specs.Logs.{is_writable}
use Rattle.page_map.specs.Window.{max_chunks}
use Rattle.range_tree.specs.Trees.{IsReading, upgrade_entry}
use Rattle.window_core.specs.declared.states.RangeState.TheVariants as ranges
use Rattle.window_core.specs.Window.{Side, Window, Deed, state, side, pin_count, word_of, target_of, grown, upgrade}
use Rattle.window_core.proofs.Keeps.{mapped_inside, side_inside}
use Rattle.range_share.specs.Packed.{control_word}
use Rattle.range_share.specs.Table.{Core, MayDo, control_at, done, window_kit}
use Rattle.range_share.specs.Steps.{Us, Always, DoesSo, HasIn, map_shown, upgrades}
use Rattle.range_share.proofs.Laws.{window_laws}
use Rattle.range_share.proofs.Parts.{map_is, movers_are, has_is, count_small, mapped_small}
use Rattle.range_share.proofs.Writing.{put_control, holders_put, homes_put, part, files, found_control}
use Rattle.range_share.proofs.Pinning.{only_place}

-- the mode's bit is set where it is clear
or_mode : (n : ℕ) → n / 65536 % 2 ≡ 0 → bit_or n 65536 ≡ n + 65536
or_mode n off = let sum = or_add_and n 65536 in let low : bit_and n 65536 ≡ bit_at n 16 * 65536 = and_pow n 16 in let bit : bit_at n 16 ≡ 0 = off in
    let none_set : bit_and n 65536 ≡ 0 = low ∙ (ap (λ (z : ℕ). z * 65536) bit ∙ refl) in omega arith

reads_only : (p : Placed) → p.mode ≡ modes.R → IsReading p
unfolding is_writable
reads_only p reading = ap is_writable reading

raised : (f c p : ℕ) → f < 64 → c < max_chunks → p < 65535 → bit_or (control_word (words.Mapped f c modes.R p)) 65536 ≡ control_word (words.Mapped f c modes.W p)
raised f c p fl cl pl = or_mode (control_word (words.Mapped f c modes.R p)) (omega arith) ∙ omega arith

module _ (slots id : ℕ) (me : Us) (live : me.0.live ≡ true) where
  pub raises_it : (f k : ℕ) (p : Placed) → HasIn me.0.mine f k p → p.mode ≡ modes.R → me.0.guest < me.0.mine.movers → map_shown me.0.mine p.range ≡ Some (Some (target_of f k modes.W))
      → Allows (Shows window_kit) slots id me (control_at slots p.range) (λ n. bit_or n 65536) (upgrades (step slots (control_at slots p.range) 65536 0 none) me)
  raises_it f k p has reading mover shown s r deep at few =
      let c : Core = r.core in
      let h : Window = c.window in
      let g : ℕ = me.0.guest in
      let a : ℕ = p.range in
      let is = part s r slots id me.0 live deep at in
      let sized = files s r slots id me.0 live deep at in
      let x = has_is me.0 c is r.good.window_good f k p has in
      let st : state h a ≡ ranges.Mapped f k modes.R = r.good.window_good.placed_mapped f k p x.1 ∙ ap (λ m. ranges.Mapped f k m) reading in
      let inside = mapped_inside h a f k modes.R st in
      let lims = mapped_small c r.good a f k modes.R st in
      let n : ℕ = get_or s.words (control_at slots a) 0 in
      let was : ℕ = pin_count h a in
      let up = count_small h r.good.window_good a in
      let found : n ≡ control_word (words.Mapped f k modes.R was) = found_control s r slots id me.0 live deep at a inside ∙ ap (λ x. control_word (word_of x was)) st in
      let now : bit_or n 65536 ≡ control_word (words.Mapped f k modes.W was) = ap (λ z. bit_or z 65536) found ∙ raised f k was lims.0 lims.1 (omega arith) in
      let d : Deed = upgrade f k p in
      let c' : Core = done c g d in
      let s' : Side = grown g (upgrade_entry a) (side h f) in
      let near = side_inside h f g x.0 in
      let many : length c'.window.sides ≡ length h.sides = length-set h.sides f s' in
      let movers = movers_are me.0 c is in
      let ok : MayDo c g d = record { allowed = (x.0, x.1, reads_only p reading, map_is me.0 c is a (Some (target_of f k modes.W)) shown); mover = omega arith } in
      let y = event window_kit window_laws s r (control_at slots a) (bit_or n 65536) id me at live d ok me.0.noted Always tt
      (put_control slots s.words c c' sized (sized ∙ sym many) (length-set h.states a (ranges.Mapped f k modes.W)) r.words a (bit_or n 65536) inside
      (now ∙ sym (ap (λ x. control_word (word_of x (pin_count h a))) (get_or-set_same h.states a (ranges.Mapped f k modes.W) ranges.Free inside)))
      (λ b ne. ap (λ x. word_of x (pin_count h b)) (get_or-set_other h.states a b (ranges.Mapped f k modes.W) ranges.Free ne)) (λ b. refl) (holders_put h f s' near refl))
      (homes_put h f g s' x.0 x.0) in (
        y.0,
        y.1,
        y.2,
        y.3,
        λ f' k' p' i has'. let same : p.range ≡ p'.range = omega arith in let o = only_place me.0 c is r.good f k f' k' p p' has has' same in
            subst (λ (z : ℕ × ℕ × Placed). DoesSo (upgrade z.0 z.1 z.2) me.0.noted Always me.0 y.0 × (carried_after me.1 y.1 ≡ me.1)) (λ j. (o.0 j, o.1 j, o.2 j)) y.4,
      )
