use Rattle.std.proofs.Common.{◌∙◌}
use Rattle.window_core.specs.Window.{leave}
use Rattle.range_share.specs.Steps.{Always}
use Rattle.range_share.proofs.Boarding.{stays, table_same, may_same}
use Rattle.range_share.proofs.BoardsCore.{tree_near}
use Rattle.range_share.proofs.BoardsMaps.{some_tree}
use Rattle.range_share.proofs.BoardsTurns.{leaves, leaves_pins}
use Rattle.range_share.proofs.boards.SeatMapRangeBoard.leave.Goals as goal

pub unreachable-requires : goal.unreachable-requires
unreachable-requires c = some_tree c.args.self.now.pass c.tree_file.result c.sound.ensures.showing c.tree_file.ensures c.in_default.is c.requires.had

pub invariant_of-self : goal.invariant_of-self
invariant_of-self c =
    let p = c.args.self.now.pass in
    let q = c.leave.new.self in
    let st = stays (leave c.in-Some.file) (c.args.self.now.pass.view.noted) Always p q c.leave.ensures in
    record { own = table_same (c.args.self.now.pass.view.noted) p q st ∙ c.args.self.now.own; may = may_same (c.args.self.now.pass.view.noted) p q st c.args.self.now.may; pinned = leaves_pins p q c.in-Some.file (tree_near p.view c.sound.ensures.showing c.in-Some.file c.in-Some.ensures) c.leave.ensures c.args.self.now.pinned }

pub returns : goal.returns
returns c = let p = c.args.self.now.pass in leaves p c.leave.new.self c.in-Some.file (tree_near p.view c.sound.ensures.showing c.in-Some.file c.in-Some.ensures) c.leave.ensures c.in-Some.ensures
