-- Where the ring of an image lies.
use Rattle.std.proofs.Common.{◌≡◌, refl, sym, ℕ, ◌≤◌, Bool, true, false, cond, List, length, drop, Some, None}
use Rattle.vring.specs.declared.layouts.Layout.{Layout}
use Rattle.vring.specs.Bytes.{max_memory}
use Rattle.vring.specs.Layout.{is_allowed, IsLayout}
use Rattle.vring.specs.Ring.{RingView, new_ring}
use Rattle.vring.proofs.LayoutLemmas.{layout_if}
use Rattle.fuse_wire.specs.Records.{u16_at, u32_at, u64_at}
use Rattle.dax_device.specs.Queues.{DeviceView}
use Rattle.dax_device.specs.RingImage.{is_image, image_header_len, device_in, image_ring}
use Rattle.fuse_device.specs.State.{World}
use Rattle.dax_device.specs.Devices.{first_world}

made_by : (b : Bool) (x r : RingView) → Some r ≡ cond b (Some x) None → (b ≡ true) × (r ≡ x)
made_by true x r e = (refl, cc)
made_by false x r e = absurd cc

-- a ring that was made lies where it was to lie ..
pub made_layout : (l : Layout) (start : ℕ) (r : RingView) → Some r ≡ new_ring l start → r.layout ≡ l
made_layout l start r e = λ i. ((made_by (is_allowed l) (record { layout = l; seen = start; used_index = start }) r e).1 i).layout

-- .. and within its memory
pub made_is_layout : (l : Layout) (start : ℕ) (r : RingView) → Some r ≡ new_ring l start → l.memory ≤ max_memory → IsLayout r.layout
made_is_layout l start r e small = rw (made_layout l start r e) (layout_if l (made_by (is_allowed l) (record { layout = l; seen = start; used_index = start }) r e).0 small)

-- the device of an image whose ring was made
pub device_made : (input memory : List ℕ) (ring : RingView) (pages size start descriptors available used : ℕ) → is_image input ≡ true → memory ≡ drop image_header_len input
    → pages ≡ u32_at input 8 → size ≡ u16_at input 12 → start ≡ u16_at input 14 → descriptors ≡ u64_at input 16 → available ≡ u64_at input 24 → used ≡ u64_at input 32
    → Some ring ≡ new_ring (record { size = size; descriptors = descriptors; available = available; used = used; memory = length memory }) start
    → Some (record { world = first_world pages; memory = memory; ring = ring }) ≡ device_in input
unfolding device_in
device_made input memory ring pages size start descriptors available used image is p s f d a u made =
    let found : image_ring input ≡ Some ring = sym (rw (s, f, d, a, u, is) at made) in
    rw (p, is) (sym (rw (image, found) refl))

-- the same, where the device's parts are known by equations
pub device_is : (d : DeviceView) (w w' : World) (memory : List ℕ) (ring : RingView) → d ≡ record { world = w; memory = memory; ring = ring } → w ≡ w' → d ≡ record { world = w'; memory = memory; ring = ring }
device_is d w w' memory ring e same = rw e (rw same refl)
