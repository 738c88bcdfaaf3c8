use Rattle.std.proofs.Common.{refl}
use Rattle.dax_host.proofs.InTurn.{CanShare-answer}
use Rattle.dax_host.proofs.host_tests.make.Goals as goal

pub returns-in-Write : goal.returns-in-Write
returns-in-Write g c = CanShare-answer _ _ _ _ _ _ _ _ _ c.write.ensures.answer refl refl c.write.ensures.boards c.requires

pub returns-in-Read : goal.returns-in-Read
returns-in-Read g c = CanShare-answer _ _ _ _ _ _ _ _ _ c.read.ensures.answer refl refl c.read.ensures.boards c.requires

pub returns-in-Setup : goal.returns-in-Setup
returns-in-Setup g c = CanShare-answer _ _ _ _ _ _ _ _ _ c.setup.ensures.answer refl refl c.setup.ensures.boards c.requires

pub returns-in-Remove : goal.returns-in-Remove
returns-in-Remove g c = CanShare-answer _ _ _ _ _ _ _ _ _ c.remove.ensures.answer refl refl c.remove.ensures.boards c.requires

pub returns-in-OpenFile : goal.returns-in-OpenFile
returns-in-OpenFile g c = CanShare-answer _ _ _ _ _ _ _ _ _ c.open_file.ensures.answer refl refl c.open_file.ensures.boards c.requires
