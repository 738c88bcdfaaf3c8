use Rattle.std.proofs.Common.{◌≡◌, ◌∙◌, ◌<◌, ap, sym, subst, get_or, length, Some, []}
use Rattle.std.specs.Prelude.{unwrap_or}
use Rattle.page_map.specs.Board.{Hands, RangesView, log_at}
use Rattle.page_map.specs.Logs.{placed_at}
use Rattle.range_tree.specs.Ranges.{tree_of, range_count}
use Rattle.range_tree.proofs.InTree.{can-upgrade}
use Rattle.range_tree.proofs.plain_tests.upgrade.Goals as goal

pub upgrade-requires : goal.upgrade-requires
upgrade-requires g c =
    let p = c.in-Some.placed in
    let u = c.args.board.now in
    let v = c.map.new.board in
    let chunk = c.args.chunk in
    let had : v.hands.tree ≡ Some 0 = ap (λ (h : Hands). h.tree) c.map.ensures.hands ∙ c.requires.tree in
    let found : placed_at (log_at v (tree_of v)) chunk ≡ Some p =
    ap (λ (h : Hands). placed_at (get_or v.ranges.logs (unwrap_or h.tree 0) []) chunk) c.map.ensures.hands ∙ (ap (λ (r : RangesView). placed_at (get_or r.logs (unwrap_or u.hands.tree 0) []) chunk) c.map.ensures.ranges ∙ (sym c.find.ensures.placed ∙ c.in-Some.is)) in
    let within : p.range < range_count v = subst (λ (h : Hands). p.range < length h.pins) (sym c.map.ensures.hands) c.map.ensures.range in
    can-upgrade v c.target-target.new.self 0 chunk p c.sound_ranges.ensures had found c.check_reading.ensures within (rw c.check_target.ensures at c.target-target.ensures)
