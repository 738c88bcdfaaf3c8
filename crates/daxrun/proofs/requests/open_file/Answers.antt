use Rattle.std.proofs.Common.{ap, sym, subst}
use Rattle.fuse_device.specs.State.{State, World, with_open}
use Rattle.fuse_device.specs.OpenFiles.{HasOpenFile}
use Rattle.fuse_device.proofs.OpenHandles.{opened_is_open}
use Rattle.guest_wire.specs.Wires.{boards}
use Rattle.guest_wire.proofs.Serving.{CanAsk-servable}
use Rattle.daxrun.proofs.Asking.{opens, done, done_or_memory, live_again, opened_is}
use Rattle.daxrun.proofs.requests.open_file.Goals as goal

pub open_file-requires : goal.open_file-requires
open_file-requires g c = record { boards = CanAsk-servable (g.W.Wire.wire c.args.client.now.wire) (boards c.args.files.now c.args.map.now) _ c.requires.live.whole c.requires.live.servable }

pub succeed-requires : goal.succeed-requires
succeed-requires g c = done_or_memory _ _ _ _ _ (opens _ _ _ _ _ _ _ _ _ c.open_file.ensures.answer c.requires.live c.requires.started c.requires.known c.requires.made c.requires.may)

pub returns-in_err-fh-clause-live : goal.returns-in_err-fh-clause-live
returns-in_err-fh-clause-live g c = live_again _ _ _ _ _ _ _ _ _ c.open_file.ensures.answer c.open_file.ensures.wire c.open_file.ensures.boards c.requires.live

pub returns-clause-live : goal.returns-clause-live
returns-clause-live g c = live_again _ _ _ _ _ _ _ _ _ c.open_file.ensures.answer c.open_file.ensures.wire c.open_file.ensures.boards c.requires.live

pub returns-clause-handle : goal.returns-clause-handle
returns-clause-handle g c =
    opened_is _ _ (done _ _ _ _ _ _ (opens _ _ _ _ _ _ _ _ _ c.open_file.ensures.answer c.requires.live c.requires.started c.requires.known c.requires.made c.requires.may) c.in_ok-fh.ensures).said

pub returns-clause-opened : goal.returns-clause-opened
returns-clause-opened g c =
    let d = done _ _ _ _ _ _ (opens _ _ _ _ _ _ _ _ _ c.open_file.ensures.answer c.requires.live c.requires.started c.requires.known c.requires.made c.requires.may) c.in_ok-fh.ensures in
    let s = (g.W.Wire.wire c.args.client.now.wire).state in
    let node = c.args.node in
    let fh = opened_is _ _ d.said in
    let h = opened_is_open s node c.requires.started c.requires.made in
    subst (λ (t : State). HasOpenFile t node c.in_ok-fh.fh) (sym (ap (λ (w : World). w.state) d.left)) (subst (HasOpenFile (with_open s node) node) (sym fh) h)

pub returns-clause-left : goal.returns-clause-left
returns-clause-left g c = (done _ _ _ _ _ _ (opens _ _ _ _ _ _ _ _ _ c.open_file.ensures.answer c.requires.live c.requires.started c.requires.known c.requires.made c.requires.may) c.in_ok-fh.ensures).left
