use Rattle.std.proofs.Common.{sym, ap, subst, ℕ, arith}
use mathlib.Core.Option.{none}
use Rattle.atomic_table.specs.Table.{Allows, step}
use Rattle.seats.specs.Seats.{Shows}
use Rattle.range_share.specs.Table.{control_at, window_kit}
use Rattle.range_share.specs.Steps.{settles}
use Rattle.range_share.proofs.Settling.{settles_it}
use Rattle.range_share.proofs.steps.settle_in.Goals as goal

pub store-requires : goal.store-requires
store-requires c = let a = c.requires.at in let q = c.requires.place in let t = c.requires.tree in let N = c.args.top.now.table_id.slots in let me = c.args.seat.now.me in let id = c.args.seat.now.id in let r = c.args.range in (
  a.0.same,
  (let wide = a.0.wide in let z = a.1 in let l = c.requires.range.0 in omega arith),
  subst (λ (z : ℕ × ℕ). Allows (Shows window_kit) N id me (control_at z.0 r) (λ _. z.1) (λ _. settles (step N (control_at z.0 r) z.1 0 none) me z.1)) (λ i. (sym a.1 i, sym c.pack-word.ensures i))
      (settles_it N id me a.0.live r c.args.file c.args.chunk c.args.mode q.0 q.1 c.requires.range.1 q.2 t.0 t.1),
)

pub returns-clause-deed : goal.returns-clause-deed
returns-clause-deed c = c.store.ensures.2 c.args.range c.args.file c.args.chunk c.args.mode (ap (λ (F : ℕ). control_at F c.args.range) c.requires.at.1) (c.requires.place.0, c.requires.place.1) c.pack-word.ensures
