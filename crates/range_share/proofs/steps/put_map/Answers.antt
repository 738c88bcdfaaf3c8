use Rattle.std.proofs.Common.{sym, ap, subst, ℕ, ◌<◌, arith}
use mathlib.Core.Option.{none}
use Rattle.std.specs.Prelude.{IfSome}
use Rattle.atomic_table.specs.Table.{Allows, step}
use Rattle.seats.specs.Seats.{Shows}
use Rattle.range_share.specs.Table.{map_at, window_kit}
use Rattle.range_share.specs.Steps.{sets_map}
use Rattle.range_share.proofs.Mapping.{sets_it}
use Rattle.range_share.proofs.steps.put_map.Goals as goal

pub store-requires : goal.store-requires
store-requires c = let a = c.requires.at in let q = c.requires.to in let N = c.args.top.now.table_id.slots in let me = c.args.seat.now.me in let id = c.args.seat.now.id in let r = c.args.range in (
  a.0.same,
  (let wide = a.0.wide in let z = a.1 in let l = c.requires.range in omega arith),
  subst (λ (z : ℕ × ℕ). Allows (Shows window_kit) N id me (map_at z.0 r) (λ _. z.1) (λ _. sets_map (step N (map_at z.0 r) z.1 0 none) me z.1)) (λ i. (sym a.1 i, sym c.pack_map.ensures i))
      (sets_it N id me a.0.live r c.args.to c.requires.range c.requires.may q.0 (subst (λ (F : ℕ). IfSome c.args.to (λ t. t.file < F)) a.1 q.1) q.2),
)

pub returns-clause-deed : goal.returns-clause-deed
returns-clause-deed c = c.store.ensures.2 c.args.range c.args.to (ap (λ (F : ℕ). map_at F c.args.range) c.requires.at.1) c.requires.to.0 c.pack_map.ensures
