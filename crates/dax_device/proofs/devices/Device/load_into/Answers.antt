use Rattle.fuse_device.specs.Promises.{world}
use Rattle.dax_device.proofs.Serving.{names_of_board}
use Rattle.dax_device.proofs.devices.Device.load_into.Goals as goal

pub load_window_into-requires-clause-names : goal.load_window_into-requires-clause-names
load_window_into-requires-clause-names c = names_of_board (world c.self.inside.daemon c.self.inside.files c.self.inside.map) c.self.invariant
