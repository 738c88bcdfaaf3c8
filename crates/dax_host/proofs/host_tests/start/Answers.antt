use Rattle.std.proofs.Common.{None}
use Rattle.fuse_codec.specs.declared.messages.Request.TheVariants as asks
use Rattle.fuse_device.specs.Requests.{served}
use Rattle.fuse_device.specs.Promises.{world}
use Rattle.dax_host.proofs.SharedTests.{start_same, begins_after}
use Rattle.dax_host.proofs.host_tests.start.Goals as goal

pub returns : goal.returns
returns c =
    let old = world c.args.daemon.now c.args.files.now c.args.map.now in
    let new = world c.serve.new.self c.serve.new.files c.serve.new.map in
    begins_after old (served old (record { head = c.head.result; body = asks.Init (record { major = 7; minor = 31; max_readahead = 0; flags = 0; flags2 = None }) })) c.serve.result new c.serve.ensures.answer (start_same old c.head.result (record { major = 7; minor = 31; max_readahead = 0; flags = 0; flags2 = None })) c.requires
