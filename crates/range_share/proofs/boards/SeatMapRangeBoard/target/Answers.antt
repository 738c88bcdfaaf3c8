use Rattle.std.proofs.Common.{◌≡◌, ◌∙◌}
use Rattle.window_core.specs.Window.{look, target}
use Rattle.range_share.specs.Steps.{aimed}
use Rattle.range_share.proofs.Boarding.{stays, table_same, may_same, range_near}
use Rattle.range_share.proofs.BoardsSeen.{pins_same}
use Rattle.range_share.proofs.BoardsCalls.{targets}
use Rattle.range_share.proofs.boards.SeatMapRangeBoard.target.Goals as goal

pub target-requires-clause-range : goal.target-requires-clause-range
target-requires-clause-range c = range_near c.args.self.now.pass c.args.range c.requires

pub invariant_of-self : goal.invariant_of-self
invariant_of-self c =
    let p = c.args.self.now.pass in
    let q = c.target.new.self in
    let x = aimed p.view.noted c.args.range c.target.result in
    let st = stays (look c.args.range) x (λ k. c.target.result ≡ target k.window c.args.range) p q c.target.ensures.deed in
    record { own = table_same x p q st ∙ c.args.self.now.own; may = may_same x p q st c.args.self.now.may; pinned = pins_same p.view q.view c.target.ensures.deed.effect c.args.self.now.pinned }

pub returns : goal.returns
returns c = targets c.args.self.now.pass c.target.new.self c.args.range c.target.result (range_near c.args.self.now.pass c.args.range c.requires) c.sound.ensures.noted c.target.ensures
