use Rattle.std.proofs.Common.{refl}
use Rattle.fuse_device.specs.Promises.{world}
use Rattle.guest_wire.specs.Wires.{sending}
use Rattle.dax_host.specs.Carrying.{host}
use Rattle.dax_host.specs.Solo.{solo_wire}
use Rattle.dax_host.proofs.Carrying.{Carries-Honest, Carries-KeepsBoards}
use Rattle.dax_host.proofs.solo.SoloWireWire.submit.Goals as goal

pub carry-requires-clause-boards : goal.carry-requires-clause-boards
carry-requires-clause-boards g c = c.requires.boards refl

pub returns-clause-boards : goal.returns-clause-boards
returns-clause-boards g c =
    let old = host c.args.self.now.queue (world c.args.self.now.daemon (g.F.FileBoard.board c.args.files.now) (g.M.MapBoard.map c.args.map.now)) in
    let new = host c.carry.new.self (world c.carry.new.daemon (g.F.FileBoard.board c.carry.new.files) (g.M.MapBoard.map c.carry.new.map)) in
    Carries-KeepsBoards old (sending c.args.readable.now c.args.room) c.carry.result new (c.requires.boards refl) c.carry.ensures

pub returns-clause-honest : goal.returns-clause-honest
returns-clause-honest g c =
    let old = host c.args.self.now.queue (world c.args.self.now.daemon (g.F.FileBoard.board c.args.files.now) (g.M.MapBoard.map c.args.map.now)) in
    let new = host c.carry.new.self (world c.carry.new.daemon (g.F.FileBoard.board c.carry.new.files) (g.M.MapBoard.map c.carry.new.map)) in
    λ _. Carries-Honest (solo_wire c.args.self.now) old (sending c.args.readable.now c.args.room) c.carry.result new refl c.carry.ensures
