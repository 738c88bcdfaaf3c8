-- Attributes of nodes, and the requests and replies that carry them. The layouts, part by part in order of the struct of Linux uapi fuse.h, protocol 7.38, and what stands at the offsets of bytes.
use Rattle.std.specs.Prelude.{ℕ, drop, ◌==◌, List, [], ◌∷◌, length, Option, Some, None, if◌then◌else◌}
use Rattle.fuse_wire.specs.Layout.{Part, U32, U64, Unused}
use Rattle.fuse_wire.specs.Records.{u32_at, u64_at}
use Rattle.fuse_wire.specs.declared.attributes.AttrRec.{AttrRec}
use Rattle.fuse_wire.specs.declared.attributes.AttrOut.{AttrOut}
use Rattle.fuse_wire.specs.declared.attributes.EntryOut.{EntryOut}
use Rattle.fuse_wire.specs.declared.attributes.GetattrIn.{GetattrIn}
use Rattle.fuse_wire.specs.declared.attributes.SetattrIn.{SetattrIn}

-- ---- struct fuse_attr

-- the parts of the attributes of a node
unfoldable pub attr_rec : AttrRec → List Part
attr_rec r = U64 r.ino ∷ U64 r.size ∷ U64 r.blocks ∷ U64 r.atime ∷ U64 r.mtime ∷ U64 r.ctime ∷ U32 r.atimensec ∷ U32 r.mtimensec ∷ U32 r.ctimensec ∷ U32 r.mode ∷ U32 r.nlink ∷ U32 r.uid ∷ U32 r.gid ∷ U32 r.rdev ∷ U32 r.blksize ∷ U32 r.flags ∷ []

-- the attributes of a node by its offsets
unfoldable pub attr_rec_at : List ℕ → AttrRec
attr_rec_at bytes = record { ino = u64_at bytes 0; size = u64_at bytes 8; blocks = u64_at bytes 16; atime = u64_at bytes 24; mtime = u64_at bytes 32; ctime = u64_at bytes 40; atimensec = u32_at bytes 48; mtimensec = u32_at bytes 52; ctimensec = u32_at bytes 56; mode = u32_at bytes 60; nlink = u32_at bytes 64; uid = u32_at bytes 68; gid = u32_at bytes 72; rdev = u32_at bytes 76; blksize = u32_at bytes 80; flags = u32_at bytes 84 }

-- 88 bytes are the attributes of a node
unfoldable pub attr_rec_of : List ℕ → Option AttrRec
attr_rec_of bytes = if length bytes == 88 then Some (attr_rec_at bytes) else None

-- ---- struct fuse_attr_out

-- the parts of a GETATTR's reply
unfoldable pub attr_out : AttrOut → List Part
attr_out r = U64 r.attr_valid ∷ U32 r.attr_valid_nsec ∷ Unused 4 ∷ attr_rec r.attr

-- a GETATTR's reply by its offsets
abbrev pub attr_out_at : List ℕ → AttrOut
attr_out_at bytes = record { attr_valid = u64_at bytes 0; attr_valid_nsec = u32_at bytes 8; attr = attr_rec_at (drop 16 bytes) }

-- 104 bytes are a GETATTR's reply
unfoldable pub attr_out_of : List ℕ → Option AttrOut
attr_out_of bytes = if length bytes == 104 then Some (attr_out_at bytes) else None

-- ---- struct fuse_entry_out

-- the parts of a LOOKUP's reply
unfoldable pub entry_out : EntryOut → List Part
entry_out r = U64 r.nodeid ∷ U64 r.generation ∷ U64 r.entry_valid ∷ U64 r.attr_valid ∷ U32 r.entry_valid_nsec ∷ U32 r.attr_valid_nsec ∷ attr_rec r.attr

-- a LOOKUP's reply by its offsets
abbrev pub entry_out_at : List ℕ → EntryOut
entry_out_at bytes = record { nodeid = u64_at bytes 0; generation = u64_at bytes 8; entry_valid = u64_at bytes 16; attr_valid = u64_at bytes 24; entry_valid_nsec = u32_at bytes 32; attr_valid_nsec = u32_at bytes 36; attr = attr_rec_at (drop 40 bytes) }

-- 128 bytes are a LOOKUP's reply
unfoldable pub entry_out_of : List ℕ → Option EntryOut
entry_out_of bytes = if length bytes == 128 then Some (entry_out_at bytes) else None

-- ---- struct fuse_getattr_in

-- the parts of a GETATTR's body
unfoldable pub getattr_in : GetattrIn → List Part
getattr_in r = U32 r.getattr_flags ∷ Unused 4 ∷ U64 r.fh ∷ []

-- a GETATTR's body by its offsets
abbrev pub getattr_in_at : List ℕ → GetattrIn
getattr_in_at bytes = record { getattr_flags = u32_at bytes 0; fh = u64_at bytes 8 }

-- 16 bytes are a GETATTR's body
unfoldable pub getattr_in_of : List ℕ → Option GetattrIn
getattr_in_of bytes = if length bytes == 16 then Some (getattr_in_at bytes) else None

-- ---- struct fuse_setattr_in

-- the parts of a SETATTR's body
unfoldable pub setattr_in : SetattrIn → List Part
setattr_in r = U32 r.valid ∷ Unused 4 ∷ U64 r.fh ∷ U64 r.size ∷ U64 r.lock_owner ∷ U64 r.atime ∷ U64 r.mtime ∷ U64 r.ctime ∷ U32 r.atimensec ∷ U32 r.mtimensec ∷ U32 r.ctimensec ∷ U32 r.mode ∷ Unused 4 ∷ U32 r.uid ∷ U32 r.gid ∷ Unused 4 ∷ []

-- a SETATTR's body by its offsets
abbrev pub setattr_in_at : List ℕ → SetattrIn
setattr_in_at bytes = record { valid = u32_at bytes 0; fh = u64_at bytes 8; size = u64_at bytes 16; lock_owner = u64_at bytes 24; atime = u64_at bytes 32; mtime = u64_at bytes 40; ctime = u64_at bytes 48; atimensec = u32_at bytes 56; mtimensec = u32_at bytes 60; ctimensec = u32_at bytes 64; mode = u32_at bytes 68; uid = u32_at bytes 76; gid = u32_at bytes 80 }

-- 88 bytes are a SETATTR's body
unfoldable pub setattr_in_of : List ℕ → Option SetattrIn
setattr_in_of bytes = if length bytes == 88 then Some (setattr_in_at bytes) else None
