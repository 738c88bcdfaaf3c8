use Rattle.std.proofs.Common.{◌≡◌, sym, ap, ◌∙◌, subst, ℕ, ◌<◌, eqb, arith}
use mathlib.Core.Option.{none}
use prog.Atomic.{either}
use Rattle.atomic_table.specs.Table.{Allows, step}
use Rattle.seats.specs.Seats.{Shows}
use Rattle.page_map.specs.declared.ranges.RangeWord.{RangeWord}
use Rattle.window_core.specs.Window.{word_at}
use Rattle.range_share.specs.Packed.{control_word}
use Rattle.range_share.specs.Table.{window_kit, control_at}
use Rattle.range_share.specs.Steps.{Us, Tells, DoesAt, saw, take_of, tries_take}
use Rattle.range_share.proofs.Words.{control_one}
use Rattle.range_share.proofs.Taking.{takes_it}
use Rattle.range_share.proofs.steps.try_take.Goals as goal

pub compare_exchange-found-requires : goal.compare_exchange-found-requires
compare_exchange-found-requires c = let a = c.requires.at in let st = a.0 in let q = c.requires.guest in let N = c.args.top.now.table_id.slots in let me = c.args.seat.now.me in let id = c.args.seat.now.id in let r = c.args.range in (
  st.same,
  (let a = c.requires.at in let b = a.0.wide in let z = a.1 in let l = c.requires.range in omega arith),
  subst (λ (z : ℕ × ℕ × ℕ). Allows (Shows window_kit) N id me (control_at z.0 r) (λ n. either (eqb n z.1) z.2 n) (tries_take (step N (control_at z.0 r) z.1 z.2 none) me)) (λ i. (sym a.1 i, sym c.pack.ensures i, sym c.pack-2.ensures i))
      (takes_it N id me st.live r c.args.guest c.args.old c.requires.old.0 c.requires.range q.0 (subst (λ (g : ℕ). g < me.0.mine.movers) q.0 q.2) c.requires.free c.requires.old.1),
)

pub unpack-requires : goal.unpack-requires
unpack-requires c = let d = c.compare_exchange-found.ensures.2 c.args.range c.args.old (ap (λ (F : ℕ). control_at F c.args.range) c.requires.at.1) c.requires.old.0 c.pack.ensures in (d.0, d.1.fits, d.2)

pub returns-then-found-pack-clause-deed : goal.returns-then-found-pack-clause-deed
returns-then-found-pack-clause-deed c = let d = c.compare_exchange-found.ensures.2 c.args.range c.args.old (ap (λ (F : ℕ). control_at F c.args.range) c.requires.at.1) c.requires.old.0 c.pack.ensures in let hit = c.if-found-pack.true ∙ c.pack-3.ensures in
    let v = c.args.seat.now.me.0 in
    subst (λ (w : RangeWord). DoesAt (take_of c.args.range c.args.old) v.noted (λ h. w ≡ word_at h.window c.args.range) c.args.seat.now c.compare_exchange-found.new.seat) (control_one d.0 c.args.old d.1.fits c.requires.old.0 (sym d.2 ∙ hit)) (d.3 (hit ∙ sym c.pack.ensures))

pub returns-else-found-pack-clause-deed : goal.returns-else-found-pack-clause-deed
returns-else-found-pack-clause-deed c = let d = c.compare_exchange-found.ensures.2 c.args.range c.args.old (ap (λ (F : ℕ). control_at F c.args.range) c.requires.at.1) c.requires.old.0 c.pack.ensures in let same = control_one d.0 c.unpack.result d.1.fits c.unpack.ensures.0 (sym d.2 ∙ c.unpack.ensures.1) in
    let me = c.args.seat.now.me in (
      (λ e. c.if-found-pack.false (c.unpack.ensures.1 ∙ (ap control_word e ∙ sym c.pack-3.ensures))),
      subst (λ (w : RangeWord). Tells me.0 c.args.range w) same d.1,
      subst (λ (w : RangeWord). ◌≡◌ {A = Us} c.compare_exchange-found.new.seat.me (record me.0 { noted = saw me.0.noted me.0.mine c.args.range w }, me.1)) same (d.4 (λ e. c.if-found-pack.false (e ∙ (c.pack.ensures ∙ sym c.pack-3.ensures)))),
    )
