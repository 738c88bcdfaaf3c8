use Rattle.range_share.proofs.BoardsMaps.{moves_told}
use Rattle.range_share.proofs.boards.SeatMapRangeBoard.moved.Goals as goal

pub returns : goal.returns
returns c = moves_told c.args.self.now.pass c.moved.result c.sound.ensures.showing c.moved.ensures
