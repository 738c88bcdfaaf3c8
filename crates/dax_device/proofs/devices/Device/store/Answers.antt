use Rattle.fuse_device.specs.Promises.{world}
use Rattle.dax_device.proofs.Serving.{names_of_board, serving_after_store}
use Rattle.dax_device.proofs.devices.Device.store.Goals as goal

pub store_window-requires-clause-names : goal.store_window-requires-clause-names
store_window-requires-clause-names c = names_of_board (world c.self.inside.daemon c.self.inside.files c.self.inside.map) c.self.invariant

pub invariant_of-self : goal.invariant_of-self
invariant_of-self c = serving_after_store c.self.inside.daemon c.self.inside.files c.store_window.new.files c.self.inside.map c.args.moffset c.args.bytes.now c.store_window.result c.self.invariant c.store_window.ensures
