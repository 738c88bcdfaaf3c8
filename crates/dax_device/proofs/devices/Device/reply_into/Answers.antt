use Rattle.std.proofs.Common.{arith}
use Rattle.fuse_device.specs.Promises.{world}
use Rattle.fuse_device.proofs.Servable.{servable_steps}
use Rattle.fuse_device.proofs.Answering.{device_step_fits}
use Rattle.dax_device.proofs.DeviceAnswers.{answer_is_reply}
use Rattle.dax_device.proofs.Serving.{serving_after_chain}
use Rattle.dax_device.proofs.devices.Device.reply_into.Goals as goal

pub serve_chain_into-requires-clause-boards : goal.serve_chain_into-requires-clause-boards
serve_chain_into-requires-clause-boards c = servable_steps c.self.inside.daemon c.self.inside.files c.self.inside.map c.args.readable.now c.self.invariant.servable

pub invariant_of-self : goal.invariant_of-self
invariant_of-self c =
    serving_after_chain (world c.self.inside.daemon c.self.inside.files c.self.inside.map) (world c.serve_chain_into.new.self c.serve_chain_into.new.files c.serve_chain_into.new.map) c.args.readable.now c.args.room c.serve_chain_into.result
    c.serve_chain_into.ensures.step c.serve_chain_into.ensures.memory c.self.invariant

pub returns-clause-answer : goal.returns-clause-answer
returns-clause-answer c = answer_is_reply c.args.self.now c.args.readable.now c.args.room (λ i. omega (arith, c.type_inv.readable i)) c.requires

pub returns-clause-fits : goal.returns-clause-fits
returns-clause-fits c = device_step_fits c.args.self.now c.args.readable.now c.args.room
