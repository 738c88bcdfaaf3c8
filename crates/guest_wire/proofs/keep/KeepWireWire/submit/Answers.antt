use Rattle.guest_wire.proofs.keep.KeepWireWire.submit.Goals as goal

pub submit-requires-clause-boards : goal.submit-requires-clause-boards
submit-requires-clause-boards g c = rw (← c.self.view_is) at c.requires.boards
