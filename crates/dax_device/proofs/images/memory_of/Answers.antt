use Rattle.std.proofs.Common.{ap, arith, length}
use Rattle.std.proofs.lemmas.List.{length-drop}
use Rattle.dax_device.specs.RingImage.{image_header_len}
use Rattle.dax_device.proofs.images.memory_of.Goals as goal

pub new-requires : goal.new-requires
new-requires c = omega (arith, ap length c.from_vec.ensures, ap length c.remove_front.ensures, length-drop image_header_len c.into_vec-bytes.result.items, ap length c.into_vec-bytes.ensures, c.requires.memory)
