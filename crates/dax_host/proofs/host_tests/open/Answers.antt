use Rattle.fuse_codec.specs.declared.messages.Request.TheVariants as asks
use Rattle.fuse_device.specs.Requests.{served}
use Rattle.fuse_device.specs.Promises.{world}
use Rattle.dax_host.proofs.SharedTests.{opened_same, begins_after}
use Rattle.dax_host.proofs.host_tests.open.Goals as goal

pub returns : goal.returns
returns c =
    let old = world c.args.daemon.now c.args.files.now c.args.map.now in
    let new = world c.serve.new.self c.serve.new.files c.serve.new.map in
    begins_after old (served old (record { head = c.head.result; body = asks.OpenFile (record { flags = 2; open_flags = 0 }) })) c.serve.result new c.serve.ensures.answer (opened_same old c.head.result (record { flags = 2; open_flags = 0 })) c.requires
