-- Opening and closing of files and directories, and what is asked of an open file. The layouts, part by part in order of the struct of Linux uapi fuse.h, protocol 7.38, and what stands at the offsets of bytes.
use Rattle.std.specs.Prelude.{ℕ, ◌==◌, List, [], ◌∷◌, length, Option, Some, None, if◌then◌else◌}
use Rattle.fuse_wire.specs.Layout.{Part, U32, U64, Unused}
use Rattle.fuse_wire.specs.Records.{u32_at, u64_at}
use Rattle.fuse_wire.specs.declared.opens.OpenIn.{OpenIn}
use Rattle.fuse_wire.specs.declared.opens.OpenOut.{OpenOut}
use Rattle.fuse_wire.specs.declared.opens.CreateIn.{CreateIn}
use Rattle.fuse_wire.specs.declared.opens.ReleaseIn.{ReleaseIn}
use Rattle.fuse_wire.specs.declared.opens.FlushIn.{FlushIn}
use Rattle.fuse_wire.specs.declared.opens.FsyncIn.{FsyncIn}
use Rattle.fuse_wire.specs.declared.opens.FallocateIn.{FallocateIn}

-- ---- struct fuse_open_in

-- the parts of an OPEN's body
unfoldable pub open_in : OpenIn → List Part
open_in r = U32 r.flags ∷ U32 r.open_flags ∷ []

-- an OPEN's body by its offsets
abbrev pub open_in_at : List ℕ → OpenIn
open_in_at bytes = record { flags = u32_at bytes 0; open_flags = u32_at bytes 4 }

-- 8 bytes are an OPEN's body
unfoldable pub open_in_of : List ℕ → Option OpenIn
open_in_of bytes = if length bytes == 8 then Some (open_in_at bytes) else None

-- ---- struct fuse_open_out

-- the parts of an OPEN's reply
unfoldable pub open_out : OpenOut → List Part
open_out r = U64 r.fh ∷ U32 r.open_flags ∷ Unused 4 ∷ []

-- an OPEN's reply by its offsets
abbrev pub open_out_at : List ℕ → OpenOut
open_out_at bytes = record { fh = u64_at bytes 0; open_flags = u32_at bytes 8 }

-- 16 bytes are an OPEN's reply
unfoldable pub open_out_of : List ℕ → Option OpenOut
open_out_of bytes = if length bytes == 16 then Some (open_out_at bytes) else None

-- ---- struct fuse_create_in

-- the parts of the front of a CREATE's body
unfoldable pub create_in : CreateIn → List Part
create_in r = U32 r.flags ∷ U32 r.mode ∷ U32 r.umask ∷ U32 r.open_flags ∷ []

-- the front of a CREATE's body by its offsets
abbrev pub create_in_at : List ℕ → CreateIn
create_in_at bytes = record { flags = u32_at bytes 0; mode = u32_at bytes 4; umask = u32_at bytes 8; open_flags = u32_at bytes 12 }

-- 16 bytes are the front of a CREATE's body
unfoldable pub create_in_of : List ℕ → Option CreateIn
create_in_of bytes = if length bytes == 16 then Some (create_in_at bytes) else None

-- ---- struct fuse_release_in

-- the parts of a RELEASE's body
unfoldable pub release_in : ReleaseIn → List Part
release_in r = U64 r.fh ∷ U32 r.flags ∷ U32 r.release_flags ∷ U64 r.lock_owner ∷ []

-- a RELEASE's body by its offsets
abbrev pub release_in_at : List ℕ → ReleaseIn
release_in_at bytes = record { fh = u64_at bytes 0; flags = u32_at bytes 8; release_flags = u32_at bytes 12; lock_owner = u64_at bytes 16 }

-- 24 bytes are a RELEASE's body
unfoldable pub release_in_of : List ℕ → Option ReleaseIn
release_in_of bytes = if length bytes == 24 then Some (release_in_at bytes) else None

-- ---- struct fuse_flush_in

-- the parts of a FLUSH's body
unfoldable pub flush_in : FlushIn → List Part
flush_in r = U64 r.fh ∷ Unused 8 ∷ U64 r.lock_owner ∷ []

-- a FLUSH's body by its offsets
abbrev pub flush_in_at : List ℕ → FlushIn
flush_in_at bytes = record { fh = u64_at bytes 0; lock_owner = u64_at bytes 16 }

-- 24 bytes are a FLUSH's body
unfoldable pub flush_in_of : List ℕ → Option FlushIn
flush_in_of bytes = if length bytes == 24 then Some (flush_in_at bytes) else None

-- ---- struct fuse_fsync_in

-- the parts of an FSYNC's body
unfoldable pub fsync_in : FsyncIn → List Part
fsync_in r = U64 r.fh ∷ U32 r.fsync_flags ∷ Unused 4 ∷ []

-- an FSYNC's body by its offsets
abbrev pub fsync_in_at : List ℕ → FsyncIn
fsync_in_at bytes = record { fh = u64_at bytes 0; fsync_flags = u32_at bytes 8 }

-- 16 bytes are an FSYNC's body
unfoldable pub fsync_in_of : List ℕ → Option FsyncIn
fsync_in_of bytes = if length bytes == 16 then Some (fsync_in_at bytes) else None

-- ---- struct fuse_fallocate_in

-- the parts of a FALLOCATE's body
unfoldable pub fallocate_in : FallocateIn → List Part
fallocate_in r = U64 r.fh ∷ U64 r.offset ∷ U64 r.length ∷ U32 r.mode ∷ Unused 4 ∷ []

-- a FALLOCATE's body by its offsets
abbrev pub fallocate_in_at : List ℕ → FallocateIn
fallocate_in_at bytes = record { fh = u64_at bytes 0; offset = u64_at bytes 8; length = u64_at bytes 16; mode = u32_at bytes 24 }

-- 32 bytes are a FALLOCATE's body
unfoldable pub fallocate_in_of : List ℕ → Option FallocateIn
fallocate_in_of bytes = if length bytes == 32 then Some (fallocate_in_at bytes) else None
