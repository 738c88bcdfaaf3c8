use Rattle.file_share.proofs.Boarding.{near_is}
use Rattle.file_share.proofs.BoardsCalls.{sound_board}
use Rattle.file_share.proofs.boards.SharedFilesFileBoard.sound.Goals as goal

pub returns : goal.returns
returns c = let near = near_is c.args.self.now.pass c.args._file c.requires in sound_board c.args.self.now.pass c.args._file near c.args.self.now.floored (c.sound.ensures.parts c.args._file near)
