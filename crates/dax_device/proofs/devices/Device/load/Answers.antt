use Rattle.fuse_device.specs.Promises.{world}
use Rattle.dax_device.proofs.Serving.{names_of_board}
use Rattle.dax_device.proofs.devices.Device.load.Goals as goal

pub load_window-requires-clause-names : goal.load_window-requires-clause-names
load_window-requires-clause-names c = names_of_board (world c.self.inside.daemon c.self.inside.files c.self.inside.map) c.self.invariant
