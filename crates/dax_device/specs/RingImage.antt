-- A ring image: a guest's memory with a split virtqueue in it, and where the queue lies.
use Rattle.std.specs.Prelude.{ℕ, ◌+◌, ◌==◌, Bool, ◌&&◌, nat_le, List, length, take, drop, codes, Option, None, option_map, if◌then◌else◌}
use Rattle.std.specs.Str.{bytes_eq}
use Rattle.fuse_wire.specs.Records.{u16_at, u32_at, u64_at}
use Rattle.vring.specs.Bytes.{max_memory}
use Rattle.vring.specs.Ring.{RingView, new_ring}
use Rattle.vring.specs.declared.layouts.Layout.{Layout}
use Rattle.dax_device.specs.Devices.{first_world}
use Rattle.dax_device.specs.Queues.{DeviceView}

-- how many bytes stand before the memory
abbrev pub image_header_len : ℕ
image_header_len = 44

-- the name of the format, numbers within their bounds, and as many bytes of memory as are said
unfoldable pub is_image : List ℕ → Bool
is_image input =
    nat_le image_header_len (length input) && bytes_eq (take 8 input) (codes "DAXRING1") && nat_le (u32_at input 8) 131072
    && nat_le (u32_at input 40) max_memory && (length input == image_header_len + u32_at input 40)

-- where the image says that the ring lies in its memory
abbrev pub image_layout : List ℕ → Layout
image_layout input = record { size = u16_at input 12; descriptors = u64_at input 16; available = u64_at input 24; used = u64_at input 32; memory = length (drop image_header_len input) }

-- the ring, whose indices begin where the image says
abbrev pub image_ring : List ℕ → Option RingView
image_ring input = new_ring (image_layout input) (u16_at input 14)

-- the device behind this ring of an image
abbrev pub device_with : List ℕ → RingView → DeviceView
device_with input ring = record { world = first_world (u32_at input 8); memory = drop image_header_len input; ring = ring }

-- the device that an image stands for; none for bytes that are no image, or where the ring may not lie so
unfoldable pub device_in : List ℕ → Option DeviceView
device_in input = if is_image input then option_map (device_with input) (image_ring input) else None
