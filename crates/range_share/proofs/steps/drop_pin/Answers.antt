use Rattle.std.proofs.Common.{sym, ap, subst, ℕ, ◌+◌, ◌%◌, ◌-◌, ◌^◌, arith}
use mathlib.Core.Option.{none}
use Rattle.atomic_table.specs.Table.{Allows, step}
use Rattle.seats.specs.Seats.{Shows}
use Rattle.range_share.specs.Table.{control_at, window_kit}
use Rattle.range_share.specs.Steps.{unpins_one}
use Rattle.range_share.proofs.Pinning.{unpins_it}
use Rattle.range_share.proofs.steps.drop_pin.Goals as goal

pub fetch_sub-requires : goal.fetch_sub-requires
fetch_sub-requires c = let a = c.requires.at in let N = c.args.top.now.table_id.slots in let me = c.args.seat.now.me in let id = c.args.seat.now.id in let r = c.args.range in (
  a.0.same,
  (let wide = a.0.wide in let z = a.1 in let l = c.requires.range.0 in omega arith),
  subst (λ (F : ℕ). Allows (Shows window_kit) N id me (control_at F r) (λ n. (n + (2 ^ 64 - 1)) % 2 ^ 64) (unpins_one (step N (control_at F r) 1 0 none) me)) (sym a.1) (unpins_it N id me a.0.live r c.requires.range.1),
)

pub returns-clause-deed : goal.returns-clause-deed
returns-clause-deed c = c.fetch_sub.ensures.2 c.args.range (ap (λ (F : ℕ). control_at F c.args.range) c.requires.at.1)
