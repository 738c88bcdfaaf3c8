use Rattle.std.proofs.Common.{◌∙◌, sym}
use Rattle.file_share.proofs.Boarding.{count_is}
use Rattle.file_share.proofs.boards.SharedFilesFileBoard.count.Goals as goal

pub returns : goal.returns
returns c = c.count.ensures ∙ sym (count_is c.args.self.now.pass ∙ c.args.self.now.wide)
