use Rattle.guest_wire.specs.Wires.{boards}
use Rattle.guest_wire.proofs.Serving.{CanAsk-servable}
use Rattle.daxrun.proofs.sessions.end_session.Goals as goal

pub destroy-answer-requires : goal.destroy-answer-requires
destroy-answer-requires g c = record { boards = CanAsk-servable (g.W.Wire.wire c.loop-at.client.wire) (boards c.loop-at.files c.loop-at.map) _ c.loop-at.invariant.whole c.loop-at.invariant.servable }
