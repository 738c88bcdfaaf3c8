use Rattle.std.proofs.Common.{◌≡◌, ◌∙◌}
use Rattle.window_core.specs.Window.{look, word_at}
use Rattle.range_share.specs.Steps.{saw}
use Rattle.range_share.proofs.Boarding.{stays, table_same, may_same, range_near}
use Rattle.range_share.proofs.BoardsSeen.{pins_same}
use Rattle.range_share.proofs.BoardsTurns.{looks}
use Rattle.range_share.proofs.boards.SeatMapRangeBoard.look.Goals as goal

pub look-requires-clause-range : goal.look-requires-clause-range
look-requires-clause-range c = range_near c.args.self.now.pass c.args.range c.requires

pub invariant_of-self : goal.invariant_of-self
invariant_of-self c =
    let p = c.args.self.now.pass in
    let q = c.look.new.self in
    let x = saw p.view.noted p.view.mine c.args.range c.look.result in
    let st = stays (look c.args.range) x (λ k. c.look.result ≡ word_at k.window c.args.range) p q c.look.ensures.deed in
    record { own = table_same x p q st ∙ c.args.self.now.own; may = may_same x p q st c.args.self.now.may; pinned = pins_same p.view q.view c.look.ensures.deed.effect c.args.self.now.pinned }

pub returns : goal.returns
returns c = looks c.args.self.now.pass c.look.new.self c.args.range c.look.result (range_near c.args.self.now.pass c.args.range c.requires) c.look.ensures
