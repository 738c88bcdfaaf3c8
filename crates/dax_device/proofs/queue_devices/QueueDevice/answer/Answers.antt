use Rattle.std.proofs.Common.{◌∙◌, sym, ap, arith, length}
use Rattle.vring.specs.Ring.{RingView}
use Rattle.dax_device.proofs.DeviceAnswers.{scatters}
use Rattle.dax_device.proofs.queue_devices.QueueDevice.answer.Goals as goal

pub unwrap-len-requires : goal.unwrap-len-requires
unwrap-len-requires c = scatters _ _ _ _ c.scatter.result c.scatter.ensures.scatters (omega (arith, ap length c.as_slice.ensures, c.in_ok-answer.ensures.fits, c.sum-room.ensures))

pub invariant_of-self-2 : goal.invariant_of-self-2
invariant_of-self-2 c =
    let ring = c.push_used.ensures.ring in (
      rw ring c.self.invariant.0,
      c.push_used.ensures.len ∙ c.scatter.ensures.len ∙ c.self.invariant.1 ∙ sym (ap (λ (r : RingView). r.layout.memory) ring),
    )
