-- The bytes of a descriptor.
use Rattle.std.specs.Prelude.{ℕ, List, ◌++◌}
use Rattle.std.specs.Int.{w16, w32, w64, to_le_bytes}
use Rattle.vring.specs.declared.descriptors.Descriptor.{Descriptor}

-- its four numbers, little-endian, in 8, 4, 2 and 2 bytes
unfoldable pub descriptor_bytes : Descriptor → List ℕ
descriptor_bytes d = to_le_bytes w64 d.addr ++ to_le_bytes w32 d.len ++ to_le_bytes w16 d.flags ++ to_le_bytes w16 d.next
