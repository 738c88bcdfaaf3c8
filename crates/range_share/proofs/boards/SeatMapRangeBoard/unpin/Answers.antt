use Rattle.std.proofs.Common.{◌∙◌}
use Rattle.window_core.specs.Window.{unpin}
use Rattle.range_share.specs.Steps.{Always}
use Rattle.range_share.proofs.Boarding.{stays, table_same, may_same}
use Rattle.range_share.proofs.BoardsSeen.{pins_fewer}
use Rattle.range_share.proofs.BoardsCalls.{pins_near, unpins}
use Rattle.range_share.proofs.boards.SeatMapRangeBoard.unpin.Goals as goal

pub unpin-requires-clause-range : goal.unpin-requires-clause-range
unpin-requires-clause-range c = pins_near c.args.self.now.pass c.args.range c.requires

pub invariant_of-self : goal.invariant_of-self
invariant_of-self c =
    let p = c.args.self.now.pass in
    let q = c.unpin.new.self in
    let st = stays (unpin c.args.range) (c.args.self.now.pass.view.noted) Always p q c.unpin.ensures in
    record { own = table_same (c.args.self.now.pass.view.noted) p q st ∙ c.args.self.now.own; may = may_same (c.args.self.now.pass.view.noted) p q st c.args.self.now.may; pinned = pins_fewer p.view q.view c.args.range c.unpin.ensures.effect c.args.self.now.pinned }

pub returns : goal.returns
returns c = unpins c.args.self.now.pass c.unpin.new.self c.args.range (pins_near c.args.self.now.pass c.args.range c.requires).0 c.unpin.ensures
