use Rattle.std.proofs.Common.{refl}
use Rattle.fuse_device.proofs.Servable.{servable_serves}
use Rattle.guest_wire.proofs.Serving.{IsServable-answer}
use Rattle.dax_host.proofs.tests.make.Goals as goal

pub init-requires : goal.init-requires
init-requires g c = record { boards = λ _. servable_serves _ _ _ _ c.requires }

pub lookup-requires : goal.lookup-requires
lookup-requires g c = record { boards = λ _. servable_serves _ _ _ _ c.requires }

pub setattr_size-requires : goal.setattr_size-requires
setattr_size-requires g c = record { boards = λ _. servable_serves _ _ _ _ c.requires }

pub getattr-requires : goal.getattr-requires
getattr-requires g c = record { boards = λ _. servable_serves _ _ _ _ c.requires }

pub remove-requires : goal.remove-requires
remove-requires g c = record { boards = λ _. servable_serves _ _ _ _ c.requires }

pub release-requires : goal.release-requires
release-requires g c = record { boards = λ _. servable_serves _ _ _ _ c.requires }

pub open_file-requires : goal.open_file-requires
open_file-requires g c = record { boards = λ _. servable_serves _ _ _ _ c.requires }

pub setup-requires : goal.setup-requires
setup-requires g c = record { boards = λ _. servable_serves _ _ _ _ c.requires }

pub destroy-requires : goal.destroy-requires
destroy-requires g c = record { boards = λ _. servable_serves _ _ _ _ c.requires }

pub write-requires-clause-boards : goal.write-requires-clause-boards
write-requires-clause-boards g c = λ _. servable_serves _ _ _ _ c.requires

pub read-requires-clause-boards : goal.read-requires-clause-boards
read-requires-clause-boards g c = λ _. servable_serves _ _ _ _ c.requires

pub read-requires-in-ReadClosed-clause-boards : goal.read-requires-in-ReadClosed-clause-boards
read-requires-in-ReadClosed-clause-boards g c = λ _. servable_serves _ _ _ _ c.requires

pub returns-in-Init : goal.returns-in-Init
returns-in-Init g c = IsServable-answer _ _ _ _ _ _ _ _ _ c.init.ensures.answer refl refl c.requires

pub returns-in-Lookup : goal.returns-in-Lookup
returns-in-Lookup g c = IsServable-answer _ _ _ _ _ _ _ _ _ c.lookup.ensures.answer refl refl c.requires

pub returns-in-SetattrSize : goal.returns-in-SetattrSize
returns-in-SetattrSize g c = IsServable-answer _ _ _ _ _ _ _ _ _ c.setattr_size.ensures.answer refl refl c.requires

pub returns-in-Getattr : goal.returns-in-Getattr
returns-in-Getattr g c = IsServable-answer _ _ _ _ _ _ _ _ _ c.getattr.ensures.answer refl refl c.requires

pub returns-in-Remove : goal.returns-in-Remove
returns-in-Remove g c = IsServable-answer _ _ _ _ _ _ _ _ _ c.remove.ensures.answer refl refl c.requires

pub returns-in-Release : goal.returns-in-Release
returns-in-Release g c = IsServable-answer _ _ _ _ _ _ _ _ _ c.release.ensures.answer refl refl c.requires

pub returns-in-OpenFile : goal.returns-in-OpenFile
returns-in-OpenFile g c = IsServable-answer _ _ _ _ _ _ _ _ _ c.open_file.ensures.answer refl refl c.requires

pub returns-in-Write : goal.returns-in-Write
returns-in-Write g c = IsServable-answer _ _ _ _ _ _ _ _ _ c.write.ensures.answer refl refl c.requires

pub returns-in-Read : goal.returns-in-Read
returns-in-Read g c = IsServable-answer _ _ _ _ _ _ _ _ _ c.read.ensures.answer refl refl c.requires

pub returns-in-ReadClosed : goal.returns-in-ReadClosed
returns-in-ReadClosed g c = IsServable-answer _ _ _ _ _ _ _ _ _ c.read-in-ReadClosed.ensures.answer refl refl c.requires

pub returns-in-Setup : goal.returns-in-Setup
returns-in-Setup g c = IsServable-answer _ _ _ _ _ _ _ _ _ c.setup.ensures.answer refl refl c.requires

pub returns-in-Destroy : goal.returns-in-Destroy
returns-in-Destroy g c = IsServable-answer _ _ _ _ _ _ _ _ _ c.destroy.ensures.answer refl refl c.requires
