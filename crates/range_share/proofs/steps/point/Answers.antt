use Rattle.std.proofs.Common.{◌≡◌, sym, ap, ◌∙◌, subst, ℕ, Option, arith}
use mathlib.Core.Option.{none}
use Rattle.atomic_table.specs.Table.{Allows, step}
use Rattle.seats.specs.Seats.{Shows}
use Rattle.page_map.specs.declared.ranges.Target.{Target}
use Rattle.window_core.specs.Window.{look, target}
use Rattle.range_share.specs.Table.{map_at, window_kit}
use Rattle.range_share.specs.Steps.{DoesAt, HeldIn, PinnedIn, aimed, aims_at}
use Rattle.range_share.proofs.Words.{map_one}
use Rattle.range_share.proofs.Aiming.{aims_there}
use Rattle.range_share.proofs.steps.point.Goals as goal

pub load-requires : goal.load-requires
load-requires c = let a = c.requires.at in let N = c.args.top.now.table_id.slots in let me = c.args.seat.now.me in let id = c.args.seat.now.id in let r = c.args.range in (
  a.0.same,
  (let wide = a.0.wide in let z = a.1 in let l = c.requires.range in omega arith),
  subst (λ (F : ℕ). Allows (Shows window_kit) N id me (map_at F r) (λ n. n) (aims_at (step N (map_at F r) 0 0 none) me)) (sym a.1) (aims_there N id me a.0.live r c.requires.range),
)

pub unpack_map-requires : goal.unpack_map-requires
unpack_map-requires c = let d = c.load.ensures.2 c.args.range (ap (λ (F : ℕ). map_at F c.args.range) c.requires.at.1) in (d.0, d.1, d.2)

pub returns-clause-pinned : goal.returns-clause-pinned
returns-clause-pinned c = let d = c.load.ensures.2 c.args.range (ap (λ (F : ℕ). map_at F c.args.range) c.requires.at.1) in
    subst (λ (t : Option Target). PinnedIn c.args.seat.now.me.0.mine c.args.range t) (map_one d.0 c.unpack_map.result d.1 c.unpack_map.ensures.0 (sym d.2 ∙ c.unpack_map.ensures.1)) d.3

pub returns-clause-held : goal.returns-clause-held
returns-clause-held c = let d = c.load.ensures.2 c.args.range (ap (λ (F : ℕ). map_at F c.args.range) c.requires.at.1) in
    subst (λ (t : Option Target). HeldIn c.args.seat.now.me.0.mine c.args.range t) (map_one d.0 c.unpack_map.result d.1 c.unpack_map.ensures.0 (sym d.2 ∙ c.unpack_map.ensures.1)) d.4

pub returns-clause-deed : goal.returns-clause-deed
returns-clause-deed c = let d = c.load.ensures.2 c.args.range (ap (λ (F : ℕ). map_at F c.args.range) c.requires.at.1) in
    subst (λ (t : Option Target). DoesAt (look c.args.range) (aimed c.args.seat.now.me.0.noted c.args.range t) (λ h. t ≡ target h.window c.args.range) c.args.seat.now c.load.new.seat) (map_one d.0 c.unpack_map.result d.1 c.unpack_map.ensures.0 (sym d.2 ∙ c.unpack_map.ensures.1)) (d.5, d.6)
