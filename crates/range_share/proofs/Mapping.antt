-- The map word of a moved or mapped range is written.
use Rattle.std.proofs.Common.{◌≡◌, ◌⊎◌, ℕ, ◌<◌, length, true, Option, Some, None, refl, sym, ap, subst, inl, inr, arith, get_or-set_other, get_or-set_same}
use Rattle.std.specs.Prelude.{IfSome}
use mathlib.Core.Option.{none}
use Rattle.atomic_table.specs.Table.{step, Allows, carried_after}
use Rattle.seats.specs.Seats.{Shows}
use Rattle.seats.proofs.Seating.{event}
use Rattle.page_map.specs.declared.ranges.Target.{Target}
use Rattle.window_core.specs.declared.states.RangeState.TheVariants as ranges
use Rattle.window_core.specs.Window.{state, IsTarget, InTree, set_map}
use Rattle.range_share.specs.Packed.{TargetFits, map_word}
use Rattle.range_share.specs.Table.{Core, GoodCore, Knows, MayDo, mine, map_at, done, window_kit}
use Rattle.range_share.specs.Steps.{Us, Always, DoesSo, MaySetIn, ranges_of, sets_map}
use Rattle.range_share.proofs.Laws.{window_laws}
use Rattle.range_share.proofs.Words.{map_one}
use Rattle.range_share.proofs.Parts.{range_there, movers_are, moves_is, has_is}
use Rattle.range_share.proofs.Writing.{put_map, part, files, by_map}

target_in : (c : Core) (files : ℕ) (t : Option Target) → TargetFits t → IfSome t (λ u. u.file < files) → files ≡ length c.window.sides → IsTarget c.window t
target_in c files None fits known e = tt
target_in c files (Some u) fits known e = (omega arith, fits.1)

-- a range that may be set so by what is shown may be set so
may_set : (v : Knows) (c : Core) (is : v.mine ≡ mine v.guest c) (good : GoodCore c) (a : ℕ) (t : Option Target) → MaySetIn v.mine a t → (state c.window a ≡ ranges.Moving v.guest) ⊎ InTree c.window v.guest a t
may_set v c is good a None m = inl (moves_is v c is a m)
may_set v c is good a (Some u) (inl m) = inl (moves_is v c is a m)
may_set v c is good a (Some u) (inr m) = let k = has_is v c is good.window_good u.file u.chunk m.1.0 m.1.1 in inr (k.0, m.0, (m.1.0, k.1, m.1.2))

module _ (slots id : ℕ) (me : Us) (live : me.0.live ≡ true) where
  pub sets_it : (a : ℕ) (t : Option Target) → a < ranges_of me.0 → me.0.guest < me.0.mine.movers → TargetFits t → IfSome t (λ u. u.file < slots) → MaySetIn me.0.mine a t
      → Allows (Shows window_kit) slots id me (map_at slots a) (λ _. map_word t) (λ _. sets_map (step slots (map_at slots a) (map_word t) 0 none) me (map_word t))
  sets_it a t near mover fits known may s r deep at few =
      let c : Core = r.core in
      let is = part s r slots id me.0 live deep at in
      let sized = files s r slots id me.0 live deep at in
      let inside = range_there me.0 c is a near in
      let inside' : a < length c.window.targets = (let n = r.good.window_good.targets_all in omega arith) in
      let many = movers_are me.0 c is in
      let ok : MayDo c me.0.guest (set_map a t) = record { allowed = (inside, target_in c slots t fits known sized, may_set me.0 c is r.good a t may); mover = omega arith } in
      let c' : Core = done c me.0.guest (set_map a t) in
      let x = event window_kit window_laws s r (map_at slots a) (map_word t) id me at live (set_map a t) ok me.0.noted Always tt
      (put_map slots s.words c c' sized sized refl r.words a (map_word t) inside (ap map_word (sym (get_or-set_same c.window.targets a t None inside'))) (λ b ne. get_or-set_other c.window.targets a b t None ne) (λ b. refl) (λ f. refl)) refl in (
        x.0,
        x.1,
        x.2,
        x.3,
        λ a' t' e fits' first. let same : t ≡ t' = map_one t t' fits fits' first in
            subst (λ (o : Option Target). DoesSo (set_map a' o) me.0.noted Always me.0 x.0 × (carried_after me.1 x.1 ≡ me.1)) same (by_map (λ a'. DoesSo (set_map a' t) me.0.noted Always me.0 x.0 × (carried_after me.1 x.1 ≡ me.1)) slots a x.4 a' e),
      )
