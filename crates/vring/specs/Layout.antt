-- Where the areas of a ring may lie, as VIRTIO 1.2 section 2.7 has it.
use Rattle.std.specs.Prelude.{ℕ, ◌+◌, ◌*◌, ◌<◌, ◌≤◌, ◌%◌, ◌==◌, Bool, ◌&&◌, ◌||◌, nat_le}
use Rattle.std.specs.Int.{is_power_of_two}
use Rattle.vring.specs.declared.layouts.Layout.{Layout}
use Rattle.vring.specs.Bytes.{max_memory}

-- the descriptor area: 16 bytes a descriptor
abbrev pub descriptor_area : ℕ → ℕ
descriptor_area size = 16 * size

-- the available ring: flags, index, an entry of two bytes a descriptor, used_event
abbrev pub available_area : ℕ → ℕ
available_area size = 6 + 2 * size

-- the used ring: flags, index, an entry of eight bytes a descriptor, avail_event
abbrev pub used_area : ℕ → ℕ
used_area size = 6 + 8 * size

-- two intervals, each by its place and length, have no byte in common: one ends before the other
abbrev pub are_apart : ℕ → ℕ → ℕ → ℕ → Bool
are_apart a a_len b b_len = nat_le (a + a_len) b || nat_le (b + b_len) a

-- The size is a power of two from 1 to 1,024, the areas lie in the memory, no two of them overlap,
-- and each one's address is a multiple of its alignment.
unfoldable pub is_allowed : Layout → Bool
is_allowed l =
    is_power_of_two l.size && nat_le l.size 1024
    && nat_le (l.descriptors + descriptor_area l.size) l.memory
    && nat_le (l.available + available_area l.size) l.memory
    && nat_le (l.used + used_area l.size) l.memory
    && are_apart l.descriptors (descriptor_area l.size) l.available (available_area l.size)
    && are_apart l.descriptors (descriptor_area l.size) l.used (used_area l.size)
    && are_apart l.available (available_area l.size) l.used (used_area l.size)
    && (l.descriptors % 16 == 0) && (l.available % 2 == 0) && (l.used % 4 == 0)

-- what a ring's calls need of it, so that they read and write within the memory
pub record IsLayout (l : Layout) : Type 0 where
  pub least : 0 < l.size
  pub most : l.size ≤ 1024
  pub descriptors : l.descriptors + 16 * l.size ≤ l.memory
  pub available : l.available + 6 + 2 * l.size ≤ l.memory
  pub used : l.used + 6 + 8 * l.size ≤ l.memory
  pub memory : l.memory ≤ max_memory
