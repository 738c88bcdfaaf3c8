use Rattle.std.proofs.Common.{refl}
use Rattle.fuse_device.specs.Promises.{world}
use Rattle.guest_wire.specs.Wires.{boards, sending}
use Rattle.guest_wire.proofs.Carrying.{KeepsBoards-honest}
use Rattle.dax_host.specs.Carrying.{host}
use Rattle.dax_host.specs.InTurn.{shared_wire}
use Rattle.dax_host.proofs.InTurn.{CarriesInTurn-Honest}
use Rattle.dax_host.proofs.host.HostWireWire.submit.Goals as goal

pub returns-clause-honest : goal.returns-clause-honest
returns-clause-honest g c =
    let s = c.args.self.now.daemon.now in
    let old = host c.args.self.now.queue (world s (g.F.FileBoard.board c.args.files.now) (g.M.MapBoard.map c.args.map.now)) in
    let new = host c.carry_in_turn.new.self (world s (g.F.FileBoard.board c.carry_in_turn.new.files) (g.M.MapBoard.map c.carry_in_turn.new.map)) in
    λ _. CarriesInTurn-Honest old (sending c.args.readable.now c.args.room) c.carry_in_turn.result new c.carry_in_turn.ensures

pub returns-clause-boards : goal.returns-clause-boards
returns-clause-boards g c =
    let s = c.args.self.now.daemon.now in
    let before = boards (g.F.FileBoard.board c.args.files.now) (g.M.MapBoard.map c.args.map.now) in
    let old = host c.args.self.now.queue (world s before.files before.map) in
    let new = host c.carry_in_turn.new.self (world s (g.F.FileBoard.board c.carry_in_turn.new.files) (g.M.MapBoard.map c.carry_in_turn.new.map)) in
    let sent = sending c.args.readable.now c.args.room in
    KeepsBoards-honest (shared_wire s) before sent c.carry_in_turn.result new.world (c.requires.boards refl) (CarriesInTurn-Honest old sent c.carry_in_turn.result new c.carry_in_turn.ensures)
