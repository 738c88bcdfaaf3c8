-- A moved range is settled: a chunk is placed there, or it is free.
use Rattle.std.proofs.Common.{◌≡◌, ℕ, ◌<◌, List, length, true, Some, None, refl, sym, ap, ◌∙◌, subst, arith, length-set, get_or-set_other, get_or-set_same}
use mathlib.Core.Logic.{dite}
use mathlib.Core.Option.{none}
use Rattle.std.proofs.Math.Decide.{dec_lt}
use Rattle.atomic_table.specs.Table.{step, Allows, carried_after}
use Rattle.seats.specs.Seats.{Shows}
use Rattle.seats.proofs.Seating.{event}
use Rattle.page_map.specs.declared.pages.Mode.{Mode}
use Rattle.page_map.specs.declared.ranges.LogEntry.{LogEntry}
use Rattle.page_map.specs.declared.ranges.RangeWord.TheVariants as words
use Rattle.page_map.specs.Logs.{placed_at}
use Rattle.page_map.specs.Window.{max_chunks}
use Rattle.range_tree.specs.Trees.{place_entry}
use Rattle.window_core.specs.declared.states.RangeState.TheVariants as ranges
use Rattle.window_core.specs.Window.{Side, Window, Deed, state, side, placed, pin_count, word_of, target_of, grown, settle_mapped, settle_free}
use Rattle.window_core.proofs.Keeps.{moving_inside, side_inside}
use Rattle.range_share.specs.Packed.{control_word}
use Rattle.range_share.specs.Table.{Core, GoodCore, MayDo, control_at, done, window_kit}
use Rattle.range_share.specs.Steps.{Us, Always, DoesSo, branch_of, map_shown, moves_at, settles, frees}
use Rattle.range_share.proofs.Laws.{window_laws}
use Rattle.range_share.proofs.Words.{control_one}
use Rattle.range_share.proofs.Parts.{map_is, moves_is, holder_is, seen_is, moving_count}
use Rattle.range_share.proofs.Writing.{put_control, holders_put, homes_put, part, files, by_control}

-- who moves a range may
mover_small : (c : Core) (good : GoodCore c) (a g : ℕ) → state c.window a ≡ ranges.Moving g → g < c.movers
mover_small c good a g st = dite (dec_lt g c.movers) (λ l. l) (λ not_so. absurd (good.moves_only g a (omega arith) st))

module _ (slots id : ℕ) (me : Us) (live : me.0.live ≡ true) where
  pub settles_it : (a f k : ℕ) (m : Mode) → f < 64 → k < max_chunks → moves_at me.0 a ≡ true → map_shown me.0.mine a ≡ Some (Some (target_of f k m)) → (branch_of me.0 f).had ≡ true → placed_at (branch_of me.0 f).seen k ≡ None
      → Allows (Shows window_kit) slots id me (control_at slots a) (λ _. control_word (words.Mapped f k m 0)) (λ _. settles (step slots (control_at slots a) (control_word (words.Mapped f k m 0)) 0 none) me (control_word (words.Mapped f k m 0)))
  settles_it a f k m fl kl moved shown had open_there s r deep at few =
      let c : Core = r.core in
      let h : Window = c.window in
      let is = part s r slots id me.0 live deep at in
      let sized = files s r slots id me.0 live deep at in
      let st = moves_is me.0 c is a moved in
      let inside = moving_inside h a me.0.guest st in
      let has = holder_is me.0 c is f had in
      let near = side_inside h f me.0.guest has in
      let n : ℕ = control_word (words.Mapped f k m 0) in
      let d : Deed = settle_mapped a f k m in
      let bare : placed h f k ≡ None = ap (λ (l : List LogEntry). placed_at l k) (sym (seen_is me.0 c is r.good.window_good f had)) ∙ open_there in
      let ok : MayDo c me.0.guest d = record { allowed = (st, map_is me.0 c is a (Some (target_of f k m)) shown, has, bare); mover = mover_small c r.good a me.0.guest st } in
      let c' : Core = done c me.0.guest d in
      let s' : Side = grown me.0.guest (place_entry k a m) (side h f) in
      let many : length c'.window.sides ≡ length h.sides = length-set h.sides f s' in
      let x = event window_kit window_laws s r (control_at slots a) n id me at live d ok me.0.noted Always tt
      (put_control slots s.words c c' sized (sized ∙ sym many) (length-set h.states a (ranges.Mapped f k m)) r.words a n inside
      (sym (ap (λ x. control_word (word_of x (pin_count h a))) (get_or-set_same h.states a (ranges.Mapped f k m) ranges.Free inside) ∙ ap (λ n. control_word (word_of (ranges.Mapped f k m) n)) (moving_count h r.good.window_good a me.0.guest st)))
      (λ b ne. ap (λ x. word_of x (pin_count h b)) (get_or-set_other h.states a b (ranges.Mapped f k m) ranges.Free ne)) (λ b. refl) (holders_put h f s' near refl))
      (homes_put h f me.0.guest s' has has) in (
        x.0,
        x.1,
        x.2,
        x.3,
        λ a' f' k' m' i lims first. let same : words.Mapped f k m 0 ≡ words.Mapped f' k' m' 0 = control_one (words.Mapped f k m 0) (words.Mapped f' k' m' 0) (fl, kl, omega arith) (lims.0, lims.1, omega arith) first in
            let ef : f ≡ f' = cc in let ek : k ≡ k' = cc in let em : m ≡ m' = cc in
            subst (λ (z : ℕ × ℕ × Mode). DoesSo (settle_mapped a' z.0 z.1 z.2) me.0.noted Always me.0 x.0 × (carried_after me.1 x.1 ≡ me.1)) (λ j. (ef j, ek j, em j)) (by_control (λ a'. DoesSo (settle_mapped a' f k m) me.0.noted Always me.0 x.0 × (carried_after me.1 x.1 ≡ me.1)) slots a x.4 a' i),
      )

  pub frees_it : (a : ℕ) → moves_at me.0 a ≡ true → Allows (Shows window_kit) slots id me (control_at slots a) (λ _. 0) (λ _. frees (step slots (control_at slots a) 0 0 none) me 0)
  frees_it a moved s r deep at few =
      let c : Core = r.core in
      let h : Window = c.window in
      let sized = files s r slots id me.0 live deep at in
      let st = moves_is me.0 c (part s r slots id me.0 live deep at) a moved in
      let inside = moving_inside h a me.0.guest st in
      let c' : Core = done c me.0.guest (settle_free a) in
      let x = event window_kit window_laws s r (control_at slots a) 0 id me at live (settle_free a) (record { allowed = st; mover = tt }) me.0.noted Always tt
      (put_control slots s.words c c' sized sized (length-set h.states a ranges.Free) r.words a 0 inside
      (sym (ap (λ x. control_word (word_of x (pin_count h a))) (get_or-set_same h.states a ranges.Free ranges.Free inside)))
      (λ b ne. ap (λ x. word_of x (pin_count h b)) (get_or-set_other h.states a b ranges.Free ranges.Free ne)) (λ b. refl) (λ f. refl)) refl in
      (x.0, x.1, x.2, x.3, λ a' i. by_control (λ a'. DoesSo (settle_free a') me.0.noted Always me.0 x.0 × (carried_after me.1 x.1 ≡ me.1)) slots a x.4 a' i)
