use Rattle.std.proofs.Common.{rules}
use Rattle.fuse_device.proofs.Servable.{none_distinct}
use Rattle.dax_device.proofs.Serving.{serving_new}
use Rattle.dax_device.proofs.devices.Device.new.Goals as goal

pub new-requires-2-clause-different : goal.new-requires-2-clause-different
new-requires-2-clause-different c = none_distinct _ c.new.ensures

pub invariant_of-result : goal.invariant_of-result
invariant_of-result c = serving_new c.in_ok-new.field-0 c.in_ok-new-2.field-0 c.in_ok-new-3.field-0 c.args.pages _ _ c.new.ensures (search rules) c.in_ok-new.ensures c.in_ok-new-2.ensures c.in_ok-new-3.ensures.new
