use Rattle.fuse_device.specs.DataSteps.{data_step}
use Rattle.fuse_device.specs.Promises.{world}
use Rattle.guest_wire.specs.Wires.{sending}
use Rattle.dax_host.proofs.InTurn.{steps, alone_served}
use Rattle.dax_host.proofs.turns.serve_alone.Goals as goal

pub returns : goal.returns
returns g c =
    let s = c.args.daemon.now in
    let files = g.F.FileBoard.board c.args.files.now in
    let map = g.M.MapBoard.map c.args.map.now in
    let served = world s (g.F.FileBoard.board c.serve_chain_data.new.files) (g.M.MapBoard.map c.serve_chain_data.new.map) in
    let result = c.serve_chain_data.result in
    let says = c.serve_chain_data.ensures in
    let made = steps (world s files map) (data_step (world s files map) c.args.readable.now c.args.room) result served says.reply says.step says.memory in
    alone_served s files map (sending c.args.readable.now c.args.room) result served c.requires.named made
