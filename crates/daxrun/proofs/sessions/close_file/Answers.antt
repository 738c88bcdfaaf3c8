use Rattle.guest_wire.specs.Wires.{boards}
use Rattle.guest_wire.proofs.Serving.{CanAsk-servable}
use Rattle.daxrun.proofs.Asking.{live_again}
use Rattle.daxrun.proofs.sessions.close_file.Goals as goal

pub release-answer-requires : goal.release-answer-requires
release-answer-requires g c = record { boards = CanAsk-servable (g.W.Wire.wire c.args.client.now.wire) (boards c.args.files.now c.args.map.now) _ c.requires.whole c.requires.servable }

pub returns : goal.returns
returns g c = live_again _ _ _ _ _ _ _ _ _ c.release-answer.ensures.answer c.release-answer.ensures.wire c.release-answer.ensures.boards c.requires
