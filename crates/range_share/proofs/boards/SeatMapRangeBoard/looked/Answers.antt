use Rattle.std.proofs.Common.{◌∙◌}
use Rattle.range_share.proofs.Boarding.{range_near}
use Rattle.range_share.proofs.BoardsCalls.{looked_word}
use Rattle.range_share.proofs.boards.SeatMapRangeBoard.looked.Goals as goal

pub looked-requires : goal.looked-requires
looked-requires c = range_near c.args.self.now.pass c.args.range c.requires

pub returns : goal.returns
returns c = c.looked.ensures ∙ looked_word c.args.self.now.pass c.args.range (range_near c.args.self.now.pass c.args.range c.requires)
