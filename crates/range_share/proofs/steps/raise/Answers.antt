use Rattle.std.proofs.Common.{sym, ap, ◌∙◌, subst, ℕ, arith}
use mathlib.Core.Option.{none}
use Rattle.std.specs.Int.Bits.{bit_or}
use Rattle.atomic_table.specs.Table.{Allows, step}
use Rattle.seats.specs.Seats.{Shows}
use Rattle.range_share.specs.Table.{control_at, window_kit}
use Rattle.range_share.specs.Steps.{map_shown, upgrades}
use Rattle.range_share.proofs.Raising.{raises_it}
use Rattle.range_share.proofs.steps.raise.Goals as goal

pub fetch_or-requires : goal.fetch_or-requires
fetch_or-requires c = let a = c.requires.at in let t = c.requires.tree in let N = c.args.top.now.table_id.slots in let me = c.args.seat.now.me in let id = c.args.seat.now.id in (
  a.0.same,
  (let wide = a.0.wide in let z = a.1 in let l = c.requires.range in omega arith),
  subst (λ (z : ℕ × ℕ). Allows (Shows window_kit) N id me (control_at z.0 z.1) (λ n. bit_or n 65536) (upgrades (step N (control_at z.0 z.1) 65536 0 none) me)) (λ i. (sym a.1 i, t.4 i))
      (raises_it N id me a.0.live t.0 t.1 t.2 t.3 t.5 c.requires.may (ap (λ (n : ℕ). map_shown me.0.mine n) t.4 ∙ t.6)),
)

pub returns-clause-deed : goal.returns-clause-deed
returns-clause-deed c f k p has at = c.fetch_or.ensures.2 f k p (λ i. control_at (c.requires.at.1 i) (sym at i)) has
