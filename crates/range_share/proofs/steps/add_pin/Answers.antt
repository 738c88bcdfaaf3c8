use Rattle.std.proofs.Common.{sym, subst, ℕ, ◌+◌, ◌%◌, ◌^◌, arith}
use mathlib.Core.Option.{none}
use Rattle.atomic_table.specs.Table.{Allows, step}
use Rattle.seats.specs.Seats.{Shows}
use Rattle.range_share.specs.Table.{control_at, window_kit}
use Rattle.range_share.specs.Steps.{pins_one}
use Rattle.range_share.proofs.Pinning.{pins_it}
use Rattle.range_share.proofs.steps.add_pin.Goals as goal

pub fetch_add-requires : goal.fetch_add-requires
fetch_add-requires c = let a = c.requires.at in let t = c.requires.tree in let N = c.args.top.now.table_id.slots in let me = c.args.seat.now.me in let id = c.args.seat.now.id in (
  a.0.same,
  (let wide = a.0.wide in let z = a.1 in let l = c.requires.range in omega arith),
  subst (λ (z : ℕ × ℕ). Allows (Shows window_kit) N id me (control_at z.0 z.1) (λ n. (n + 1) % 2 ^ 64) (pins_one (step N (control_at z.0 z.1) 1 0 none) me)) (λ i. (sym a.1 i, t.4 i))
      (pins_it N id me a.0.live t.0 t.1 t.2 t.3 c.requires.may c.requires.few),
)

pub returns-clause-deed : goal.returns-clause-deed
returns-clause-deed c f k p has at = c.fetch_add.ensures.2 f k p (λ i. control_at (c.requires.at.1 i) (sym at i)) has
