use Rattle.std.proofs.Common.{◌∙◌, ◌++◌, ap, List, ℕ, subst, sym}
use Rattle.fuse_device.specs.Steps.{device_step}
use Rattle.dax_device.specs.Answers.{IsAnswer}
use Rattle.dax_device.proofs.devices.Device.reply.Goals as goal

pub returns-clause-answer : goal.returns-clause-answer
returns-clause-answer c =
    let alone = ap (λ (front : List ℕ). front ++ (device_step c.args.self.now c.args.readable.now c.args.room).1) c.new-reply.ensures.items in
    subst (λ (bytes : List ℕ). IsAnswer c.args.readable.now bytes) (sym (c.from_vec.ensures ∙ c.in_ok-reply_into.ensures.reply ∙ alone)) c.reply_into.ensures.answer
