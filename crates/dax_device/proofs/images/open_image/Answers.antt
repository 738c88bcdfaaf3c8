use Rattle.std.proofs.Common.{◌∙◌, ap, sym, Some}
use Rattle.dax_device.proofs.RingImages.{device_is, device_made}
use Rattle.dax_device.proofs.images.open_image.Goals as goal

pub returns-in_ok-device-in-Some : goal.returns-in_ok-device-in-Some
returns-in_ok-device-in-Some c =
    let same = c.as_slice-bytes.ensures in
    let image = sym c.is_image.ensures.value ∙ c.if-not-is_image.false in
    let device = device_made c.as_slice-bytes.result.now c.memory_of-memory.result c.in-Some.ring c.u32_at-pages.result c.u16_at-size.result c.u16_at-start.result c.u64_at-descriptors.result c.u64_at-available.result c.u64_at-used.result image (rw same c.memory_of-memory.ensures)
    c.u32_at-pages.ensures c.u16_at-size.ensures c.u16_at-start.ensures c.u64_at-descriptors.ensures c.u64_at-available.ensures c.u64_at-used.ensures c.in-Some.ensures.ring in
    ap Some (device_is _ _ _ _ _ c.new-in-Some-2.ensures c.in_ok-device-in-Some.ensures) ∙ rw same at device
