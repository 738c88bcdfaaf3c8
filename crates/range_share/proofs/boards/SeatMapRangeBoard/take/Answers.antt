use Rattle.std.proofs.Common.{◌∙◌}
use Rattle.range_share.proofs.Boarding.{range_near, no_move}
use Rattle.range_share.proofs.BoardsTakes.{takes, takes_table, takes_may, takes_pins}
use Rattle.range_share.proofs.boards.SeatMapRangeBoard.take.Goals as goal

pub take-requires-clause-range : goal.take-requires-clause-range
take-requires-clause-range c = range_near c.args.self.now.pass c.args.range c.requires.range

pub take-requires-clause-free : goal.take-requires-clause-free
take-requires-clause-free c = no_move c.args.self.now.pass.view c.requires.free

pub invariant_of-self : goal.invariant_of-self
invariant_of-self c =
    let p = c.args.self.now.pass in
    let q = c.take.new.self in
    let near = range_near c.args.self.now.pass c.args.range c.requires.range in
    record {
      own = takes_table p q c.args.range near c.take.result c.take.ensures ∙ c.args.self.now.own;
      may = takes_may p q c.args.range near c.take.result c.take.ensures c.args.self.now.may;
      pinned = takes_pins p q c.args.range near c.take.result (no_move c.args.self.now.pass.view c.requires.free) c.take.ensures c.args.self.now.pinned;
    }

pub returns : goal.returns
returns c = takes c.args.self.now.pass c.take.new.self c.args.range (range_near c.args.self.now.pass c.args.range c.requires.range) c.take.result c.sound.ensures.showing (no_move c.args.self.now.pass.view c.requires.free) c.take.ensures
