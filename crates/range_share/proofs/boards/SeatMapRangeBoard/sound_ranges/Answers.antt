use Rattle.range_share.proofs.BoardsCalls.{sound_board}
use Rattle.range_share.proofs.boards.SeatMapRangeBoard.sound_ranges.Goals as goal

pub returns : goal.returns
returns c = sound_board c.args.self.now.pass c.sound.ensures.showing c.args.self.now.pinned c.sound.ensures.noted
