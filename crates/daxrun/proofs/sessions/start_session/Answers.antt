use Rattle.std.proofs.Common.{◌∙◌, ap}
use Rattle.fuse_device.specs.State.{World, begun}
use Rattle.daxrun.specs.Carried.{names_of}
use Rattle.daxrun.proofs.Opening.{session_begun}
use Rattle.daxrun.proofs.sessions.start_session.Goals as goal

pub open_files-requires-clause-begun : goal.open_files-requires-clause-begun
open_files-requires-clause-begun g c = session_begun _ (names_of c.args.named.now) _ (ap (λ (w : World). w.state) c.in_ok-begin.ensures.left ∙ ap begun c.requires.new)
