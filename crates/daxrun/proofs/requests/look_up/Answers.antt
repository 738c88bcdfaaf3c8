use Rattle.std.proofs.Common.{◌∙◌, ap, ◌+◌}
use Rattle.fuse_wire.specs.declared.attributes.EntryOut.{EntryOut}
use Rattle.guest_wire.specs.Wires.{boards}
use Rattle.guest_wire.proofs.Serving.{CanAsk-servable}
use Rattle.daxrun.proofs.Asking.{finds, done, done_or_memory, entry_is, live_again, same_place}
use Rattle.fuse_device.specs.State.{looked_up}
use Rattle.daxrun.proofs.requests.look_up.Goals as goal

pub lookup-requires : goal.lookup-requires
lookup-requires g c = record { boards = CanAsk-servable (g.W.Wire.wire c.args.client.now.wire) (boards c.args.files.now c.args.map.now) _ c.requires.live.whole c.requires.live.servable }

pub succeed-requires : goal.succeed-requires
succeed-requires g c =
    let there = c.requires.there in
    done_or_memory _ _ _ _ _ (finds _ _ _ _ _ _ there.0 _ _ _ c.lookup.ensures.answer c.requires.live c.requires.started there.1 there.2)

pub returns-in_err-entry-clause-live : goal.returns-in_err-entry-clause-live
returns-in_err-entry-clause-live g c = live_again _ _ _ _ _ _ _ _ _ c.lookup.ensures.answer c.lookup.ensures.wire c.lookup.ensures.boards c.requires.live

pub returns-clause-live : goal.returns-clause-live
returns-clause-live g c = live_again _ _ _ _ _ _ _ _ _ c.lookup.ensures.answer c.lookup.ensures.wire c.lookup.ensures.boards c.requires.live

pub returns-clause-node : goal.returns-clause-node
returns-clause-node g c =
    let there = c.requires.there in
    let d = done _ _ _ _ _ _ (finds _ _ _ _ _ _ there.0 _ _ _ c.lookup.ensures.answer c.requires.live c.requires.started there.1 there.2) c.in_ok-entry.ensures in
    λ i found. ap (λ (e : EntryOut). e.nodeid) (entry_is _ _ d.said) ∙ ap (λ k. k + 2) (same_place there.0 i _ there.1 found)

pub returns-clause-left : goal.returns-clause-left
returns-clause-left g c =
    let there = c.requires.there in
    let d = done _ _ _ _ _ _ (finds _ _ _ _ _ _ there.0 _ _ _ c.lookup.ensures.answer c.requires.live c.requires.started there.1 there.2) c.in_ok-entry.ensures in
    let s = (g.W.Wire.wire c.args.client.now.wire).state in
    λ i found. d.left ∙ ap (λ k. record { state = looked_up s k; files = c.args.files.now; map = c.args.map.now }) (same_place there.0 i _ there.1 found)
