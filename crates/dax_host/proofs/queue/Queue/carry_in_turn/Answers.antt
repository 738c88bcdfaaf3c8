use Rattle.fuse_device.specs.Promises.{world}
use Rattle.guest_wire.specs.Wires.{sending}
use Rattle.dax_host.proofs.InTurn.{served_fits}
use Rattle.dax_host.proofs.queue.Queue.carry_in_turn.Goals as goal

pub bring_back-requires-clause-fits : goal.bring_back-requires-clause-fits
bring_back-requires-clause-fits g c =
    let s = c.args.daemon.now in
    let old = world s (g.F.FileBoard.board c.args.files.now) (g.M.MapBoard.map c.args.map.now) in
    let new = world s (g.F.FileBoard.board c.serve_in_turn-served.new.files) (g.M.MapBoard.map c.serve_in_turn-served.new.map) in
    served_fits old (sending _ c.in_ok-room.room) c.serve_in_turn-served.result new c.serve_in_turn-served.ensures
