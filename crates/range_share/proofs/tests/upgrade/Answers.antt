use Rattle.std.proofs.Common.{rules, ◌≡◌, ◌<◌, ap, sym, subst, length, false, Some}
use Rattle.page_map.specs.Board.{Hands}
use Rattle.page_map.specs.Logs.{is_writable}
use Rattle.page_map.specs.declared.pages.Mode.TheVariants as modes
use Rattle.page_map.specs.declared.ranges.Target.{Target}
use Rattle.range_tree.specs.Ranges.{range_count}
use Rattle.range_tree.proofs.InTree.{can-upgrade}
use Rattle.range_share.proofs.TestTurns.{found_still}
use Rattle.range_share.proofs.tests.upgrade.Goals as goal

pub upgrade-requires : goal.upgrade-requires
unfolding is_writable
upgrade-requires g c =
    let p = c.in-Some.placed in
    let u = g.B.MapBoard.map c.args.board.now in
    let v = g.B.MapBoard.map c.map.new.board in
    let file = c.args.file in
    let chunk = c.args.chunk in
    let wanted : Target = record { file = file; chunk = chunk; mode = modes.W } in
    let had : v.hands.tree ≡ Some file = subst (λ (h : Hands). h.tree ≡ Some file) (sym c.map.ensures.hands) c.requires.tree in
    let found = found_still u v chunk c.find.result (Some p) c.map.ensures.hands c.map.ensures.ranges c.find.ensures.placed c.in-Some.is in
    let within : p.range < range_count v = subst (λ (h : Hands). p.range < length h.pins) (sym c.map.ensures.hands) c.map.ensures.near in
    let low : is_writable p.mode ≡ false = ap is_writable c.in-R.is in
    let seen : c.target-target.result ≡ Some wanted = search rules in
    can-upgrade v (g.B.MapBoard.map c.target-target.new.self) file chunk p c.sound_ranges.ensures had found low within (rw seen at c.target-target.ensures)
