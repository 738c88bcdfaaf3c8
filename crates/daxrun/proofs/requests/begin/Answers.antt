use Rattle.guest_wire.specs.Wires.{boards}
use Rattle.guest_wire.proofs.Serving.{CanAsk-servable}
use Rattle.daxrun.proofs.Asking.{begins, done, done_or_memory, live_again}
use Rattle.daxrun.proofs.requests.begin.Goals as goal

pub init-requires : goal.init-requires
init-requires g c = record { boards = CanAsk-servable (g.W.Wire.wire c.args.client.now.wire) (boards c.args.files.now c.args.map.now) _ c.requires.live.whole c.requires.live.servable }

pub succeed-requires : goal.succeed-requires
succeed-requires g c = done_or_memory _ _ _ _ _ (begins _ _ _ _ _ _ _ _ _ c.init.ensures.answer c.requires.live)

pub returns-in_err-succeed-clause-live : goal.returns-in_err-succeed-clause-live
returns-in_err-succeed-clause-live g c = live_again _ _ _ _ _ _ _ _ _ c.init.ensures.answer c.init.ensures.wire c.init.ensures.boards c.requires.live

pub returns-clause-live : goal.returns-clause-live
returns-clause-live g c = live_again _ _ _ _ _ _ _ _ _ c.init.ensures.answer c.init.ensures.wire c.init.ensures.boards c.requires.live

pub returns-clause-left : goal.returns-clause-left
returns-clause-left g c = (done _ _ _ _ _ _ (begins _ _ _ _ _ _ _ _ _ c.init.ensures.answer c.requires.live) c.in_ok-succeed.ensures).left
