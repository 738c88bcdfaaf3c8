use Rattle.std.proofs.Common.{◌≡◌, sym, ap, ◌∙◌, subst, ℕ, arith}
use mathlib.Core.Option.{none}
use Rattle.atomic_table.specs.Table.{Allows, step}
use Rattle.seats.specs.Seats.{Shows}
use Rattle.page_map.specs.declared.ranges.RangeWord.{RangeWord}
use Rattle.window_core.specs.Window.{look, word_at}
use Rattle.range_share.specs.Table.{window_kit, control_at}
use Rattle.range_share.specs.Steps.{Tells, DoesAt, saw_for_take, peeks_at}
use Rattle.range_share.proofs.Words.{control_one}
use Rattle.range_share.proofs.Looking.{peeks_there}
use Rattle.range_share.proofs.steps.peek_at.Goals as goal

pub load-requires : goal.load-requires
load-requires c = let a = c.requires.at in let st = a.0 in let N = c.args.top.now.table_id.slots in let me = c.args.seat.now.me in let id = c.args.seat.now.id in let r = c.args.range in
    (st.same, (let a = c.requires.at in let b = a.0.wide in let z = a.1 in let l = c.requires.range in omega arith), subst (λ (F : ℕ). Allows (Shows window_kit) N id me (control_at F r) (λ n. n) (peeks_at (step N (control_at F r) 0 0 none) me)) (sym a.1) (peeks_there N id me st.live r c.requires.range))

pub unpack-requires : goal.unpack-requires
unpack-requires c = let d = c.load.ensures.2 c.args.range (ap (λ (F : ℕ). control_at F c.args.range) c.requires.at.1) in (d.0, d.1.fits, d.2)

pub returns-clause-tells : goal.returns-clause-tells
returns-clause-tells c = let d = c.load.ensures.2 c.args.range (ap (λ (F : ℕ). control_at F c.args.range) c.requires.at.1) in
    subst (λ (w : RangeWord). Tells c.args.seat.now.me.0 c.args.range w) (control_one d.0 c.unpack.result d.1.fits c.unpack.ensures.0 (sym d.2 ∙ c.unpack.ensures.1)) d.1

pub returns-clause-deed : goal.returns-clause-deed
returns-clause-deed c = let d = c.load.ensures.2 c.args.range (ap (λ (F : ℕ). control_at F c.args.range) c.requires.at.1) in let v = c.args.seat.now.me.0 in
    subst (λ (w : RangeWord). DoesAt (look c.args.range) (saw_for_take v.noted v.mine c.args.range w) (λ h. w ≡ word_at h.window c.args.range) c.args.seat.now c.load.new.seat) (control_one d.0 c.unpack.result d.1.fits c.unpack.ensures.0 (sym d.2 ∙ c.unpack.ensures.1)) (d.3, d.4)
