use Rattle.files_core.proofs.Starts.{files_start}
use Rattle.files_core.proofs.AllKeep.{files_keep, lease_holds}
use Rattle.files_core.proofs.Others.{others_see}
use Rattle.files_core.proofs.Grows.{files_grow}
use Rattle.files_core.proofs.laws.files_core_laws.Goals as goal

pub returns-clause-start : goal.returns-clause-start
returns-clause-start c = files_start

pub returns-clause-good : goal.returns-clause-good
returns-clause-good c = λ guests g cs d l good a. files_keep guests cs g l good d a

pub returns-clause-histories : goal.returns-clause-histories
returns-clause-histories c = λ g f cs d a. files_grow cs g d a.known f

pub returns-clause-others : goal.returns-clause-others
returns-clause-others c = others_see

pub returns-clause-leases : goal.returns-clause-leases
returns-clause-leases c = lease_holds
