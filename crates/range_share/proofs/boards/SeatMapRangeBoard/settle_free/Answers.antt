use Rattle.std.proofs.Common.{◌∙◌}
use Rattle.window_core.specs.Window.{settle_free}
use Rattle.range_share.specs.Steps.{Always}
use Rattle.range_share.proofs.Boarding.{stays, table_same, may_same}
use Rattle.range_share.proofs.BoardsCore.{moves_near}
use Rattle.range_share.proofs.BoardsMaps.{some_move}
use Rattle.range_share.proofs.BoardsTakes.{frees, frees_pins}
use Rattle.range_share.proofs.boards.SeatMapRangeBoard.settle_free.Goals as goal

pub unreachable-requires : goal.unreachable-requires
unreachable-requires c = some_move c.args.self.now.pass c.moved.result c.sound.ensures.showing c.moved.ensures c.in_default.is c.requires

pub invariant_of-self : goal.invariant_of-self
invariant_of-self c =
    let p = c.args.self.now.pass in
    let q = c.settle_free.new.self in
    let st = stays (settle_free c.in-Some.range) (c.args.self.now.pass.view.noted) Always p q c.settle_free.ensures in
    record { own = table_same (c.args.self.now.pass.view.noted) p q st ∙ c.args.self.now.own; may = may_same (c.args.self.now.pass.view.noted) p q st c.args.self.now.may; pinned = frees_pins p q c.in-Some.range (moves_near p.view c.sound.ensures.showing c.in-Some.range c.in-Some.ensures) c.in-Some.ensures c.settle_free.ensures c.args.self.now.pinned }

pub returns : goal.returns
returns c = let p = c.args.self.now.pass in frees p c.settle_free.new.self c.in-Some.range (moves_near p.view c.sound.ensures.showing c.in-Some.range c.in-Some.ensures) c.in-Some.ensures c.settle_free.ensures
