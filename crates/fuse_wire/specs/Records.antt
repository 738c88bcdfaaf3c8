-- The records of Linux uapi fuse.h, protocol 7.38: their layout, part by part in order of the struct, and what stands at the offsets of bytes.
use Rattle.std.specs.Prelude.{ℕ, ℤ, ◌==◌, List, [], ◌∷◌, length, take, drop, Option, Some, None, if◌then◌else◌}
use Rattle.std.specs.Int.{cast_signed, w16, w32, w64, from_le_bytes}
use Rattle.fuse_wire.specs.Layout.{Part, U16, U32, U64, I32, Unused}
use Rattle.fuse_wire.specs.declared.records.InHeader.{InHeader}
use Rattle.fuse_wire.specs.declared.records.OutHeader.{OutHeader}
use Rattle.fuse_wire.specs.declared.records.ReadIn.{ReadIn}
use Rattle.fuse_wire.specs.declared.records.WriteIn.{WriteIn}
use Rattle.fuse_wire.specs.declared.records.WriteOut.{WriteOut}

-- ---- little-endian numbers at an offset

-- two bytes as a number
abbrev pub u16_at : List ℕ → ℕ → ℕ
u16_at bytes at = from_le_bytes w16 (take 2 (drop at bytes))

-- four bytes as a number
abbrev pub u32_at : List ℕ → ℕ → ℕ
u32_at bytes at = from_le_bytes w32 (take 4 (drop at bytes))

-- eight bytes as a number
abbrev pub u64_at : List ℕ → ℕ → ℕ
u64_at bytes at = from_le_bytes w64 (take 8 (drop at bytes))

-- four bytes as a signed number, in two's complement
abbrev pub i32_at : List ℕ → ℕ → ℤ
i32_at bytes at = cast_signed w32 (u32_at bytes at)

-- ---- struct fuse_in_header

-- the parts of a request's header
unfoldable pub in_header : InHeader → List Part
in_header r = U32 r.len ∷ U32 r.opcode ∷ U64 r.unique ∷ U64 r.nodeid ∷ U32 r.uid ∷ U32 r.gid ∷ U32 r.pid ∷ U16 r.total_extlen ∷ Unused 2 ∷ []

-- a request's header by its offsets
abbrev pub in_header_at : List ℕ → InHeader
in_header_at bytes = record { len = u32_at bytes 0; opcode = u32_at bytes 4; unique = u64_at bytes 8; nodeid = u64_at bytes 16; uid = u32_at bytes 24; gid = u32_at bytes 28; pid = u32_at bytes 32; total_extlen = u16_at bytes 36 }

-- 40 bytes are a request's header
unfoldable pub in_header_of : List ℕ → Option InHeader
in_header_of bytes = if length bytes == 40 then Some (in_header_at bytes) else None

-- ---- struct fuse_out_header

-- the parts of a reply's header
unfoldable pub out_header : OutHeader → List Part
out_header r = U32 r.len ∷ I32 r.error ∷ U64 r.unique ∷ []

-- a reply's header by its offsets
abbrev pub out_header_at : List ℕ → OutHeader
out_header_at bytes = record { len = u32_at bytes 0; error = i32_at bytes 4; unique = u64_at bytes 8 }

-- 16 bytes are a reply's header
unfoldable pub out_header_of : List ℕ → Option OutHeader
out_header_of bytes = if length bytes == 16 then Some (out_header_at bytes) else None

-- ---- struct fuse_read_in

-- the parts of a READ's body
unfoldable pub read_in : ReadIn → List Part
read_in r = U64 r.fh ∷ U64 r.offset ∷ U32 r.size ∷ U32 r.read_flags ∷ U64 r.lock_owner ∷ U32 r.flags ∷ Unused 4 ∷ []

-- a READ's body by its offsets
abbrev pub read_in_at : List ℕ → ReadIn
read_in_at bytes = record { fh = u64_at bytes 0; offset = u64_at bytes 8; size = u32_at bytes 16; read_flags = u32_at bytes 20; lock_owner = u64_at bytes 24; flags = u32_at bytes 32 }

-- 40 bytes are a READ's body
unfoldable pub read_in_of : List ℕ → Option ReadIn
read_in_of bytes = if length bytes == 40 then Some (read_in_at bytes) else None

-- ---- struct fuse_write_in

-- the parts at the front of a WRITE's body
unfoldable pub write_in : WriteIn → List Part
write_in r = U64 r.fh ∷ U64 r.offset ∷ U32 r.size ∷ U32 r.write_flags ∷ U64 r.lock_owner ∷ U32 r.flags ∷ Unused 4 ∷ []

-- the front of a WRITE's body by its offsets
abbrev pub write_in_at : List ℕ → WriteIn
write_in_at bytes = record { fh = u64_at bytes 0; offset = u64_at bytes 8; size = u32_at bytes 16; write_flags = u32_at bytes 20; lock_owner = u64_at bytes 24; flags = u32_at bytes 32 }

-- 40 bytes are the front of a WRITE's body
unfoldable pub write_in_of : List ℕ → Option WriteIn
write_in_of bytes = if length bytes == 40 then Some (write_in_at bytes) else None

-- ---- struct fuse_write_out

-- the parts of a WRITE's reply
unfoldable pub write_out : WriteOut → List Part
write_out r = U32 r.size ∷ Unused 4 ∷ []

-- a WRITE's reply by its offsets
abbrev pub write_out_at : List ℕ → WriteOut
write_out_at bytes = record { size = u32_at bytes 0 }

-- 8 bytes are a WRITE's reply
unfoldable pub write_out_of : List ℕ → Option WriteOut
write_out_of bytes = if length bytes == 8 then Some (write_out_at bytes) else None
