-- Looks at what a range is mapped to.
use Rattle.std.proofs.Common.{◌≡◌, ℕ, ◌<◌, get_or, slice_get, true, Option, refl, sym, ap, ◌∙◌, subst}
use mathlib.Core.Option.{none}
use lib.Seq.{set-get_or}
use Rattle.atomic_table.specs.Table.{step, Allows, carried_after}
use Rattle.seats.specs.Seats.{Shows}
use Rattle.seats.proofs.Seating.{event}
use Rattle.page_map.specs.declared.ranges.Target.{Target}
use Rattle.window_core.specs.Window.{target, look}
use Rattle.range_share.specs.Packed.{TargetFits, map_word}
use Rattle.range_share.specs.Table.{Core, GoodCore, Knows, ShowsWords, mine, map_at, window_kit}
use Rattle.range_share.specs.Steps.{Us, DoesSo, PinnedIn, HeldIn, aimed, aims_at, ranges_of}
use Rattle.range_share.proofs.Laws.{window_laws}
use Rattle.range_share.proofs.Parts.{pins_are, range_there, map_is, target_fits}
use Rattle.range_share.proofs.Writing.{part, found_map, by_map}

module _ (v : Knows) (c : Core) (is : v.mine ≡ mine v.guest c) (good : GoodCore c) (a : ℕ) where
  -- a pinned range has the pin's target
  pinned_there : PinnedIn v.mine a (target c.window a)
  pinned_there k p shown same =
      let fine = good.window_good.pins_ok v.guest k p (sym (ap (λ l. slice_get l k) (pins_are v c is)) ∙ shown) in
      let m = good.window_good.mapped_there p.range p.file p.chunk fine.mode fine.state_is in
      (m.0, ap (target c.window) (sym same) ∙ m.1, λ w. m.2 (fine.enough w))

  held_there : HeldIn v.mine a (target c.window a)
  held_there t shown = sym (map_is v c is a t shown)

module _ (slots id : ℕ) (me : Us) (live : me.0.live ≡ true) where
  pub aims_there : (a : ℕ) → a < ranges_of me.0 → Allows (Shows window_kit) slots id me (map_at slots a) (λ n. n) (aims_at (step slots (map_at slots a) 0 0 none) me)
  aims_there a near s r deep at few =
      let c : Core = r.core in
      let is = part s r slots id me.0 live deep at in
      let inside = range_there me.0 c is a near in
      let t : Option Target = target c.window a in
      let n : ℕ = get_or s.words (map_at slots a) 0 in
      let x = event window_kit window_laws s r (map_at slots a) n id me at live (look a) (record { allowed = inside; mover = tt }) (aimed me.0.noted a t) (λ c. t ≡ target c.window a) refl (subst (λ ws. ShowsWords ws c) (sym (set-get_or s.words (map_at slots a) 0)) r.words) refl in (
        x.0,
        x.1,
        x.2,
        x.3,
        by_map (λ a'. (t : Option Target) × TargetFits t × (n ≡ map_word t) × PinnedIn me.0.mine a' t × HeldIn me.0.mine a' t × DoesSo (look a') (aimed me.0.noted a' t) (λ c. t ≡ target c.window a') me.0 x.0 × (carried_after me.1 x.1 ≡ me.1)) slots a
            (t, target_fits c r.good a, found_map s r slots id me.0 live deep at a inside, pinned_there me.0 c is r.good a, held_there me.0 c is r.good a, x.4.0, x.4.1),
      )
