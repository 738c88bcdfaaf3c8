use Rattle.std.proofs.Common.{◌∙◌, ap, sym}
use Rattle.plain_file.specs.Board.{FileView, last_of}
use Rattle.file_share.proofs.Boarding.{near_is, file_is}
use Rattle.file_share.proofs.boards.SharedFilesFileBoard.own_last.Goals as goal

pub own_last-requires : goal.own_last-requires
own_last-requires c = near_is c.args.self.now.pass c.args.file c.requires

pub returns : goal.returns
returns c = c.own_last.ensures ∙ sym (ap (λ (x : FileView). last_of x.own) (file_is c.args.self.now.pass c.args.file (near_is c.args.self.now.pass c.args.file c.requires)))
