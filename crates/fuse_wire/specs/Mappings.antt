-- Mappings of files into the window of direct access (DAX). The layouts, part by part in order of the struct of Linux uapi fuse.h, protocol 7.38, and what stands at the offsets of bytes.
use Rattle.std.specs.Prelude.{ℕ, ◌==◌, List, [], ◌∷◌, length, Option, Some, None, if◌then◌else◌}
use Rattle.fuse_wire.specs.Layout.{Part, U64}
use Rattle.fuse_wire.specs.Records.{u64_at}
use Rattle.fuse_wire.specs.declared.mappings.SetupIn.{SetupIn}
use Rattle.fuse_wire.specs.declared.mappings.RemoveOne.{RemoveOne}

-- ---- struct fuse_setupmapping_in

-- the parts of a SETUPMAPPING's body
unfoldable pub setup_in : SetupIn → List Part
setup_in r = U64 r.fh ∷ U64 r.foffset ∷ U64 r.len ∷ U64 r.flags ∷ U64 r.moffset ∷ []

-- a SETUPMAPPING's body by its offsets
abbrev pub setup_in_at : List ℕ → SetupIn
setup_in_at bytes = record { fh = u64_at bytes 0; foffset = u64_at bytes 8; len = u64_at bytes 16; flags = u64_at bytes 24; moffset = u64_at bytes 32 }

-- 40 bytes are a SETUPMAPPING's body
unfoldable pub setup_in_of : List ℕ → Option SetupIn
setup_in_of bytes = if length bytes == 40 then Some (setup_in_at bytes) else None

-- ---- struct fuse_removemapping_one

-- the parts of an interval of a REMOVEMAPPING
unfoldable pub remove_one : RemoveOne → List Part
remove_one r = U64 r.moffset ∷ U64 r.len ∷ []

-- an interval of a REMOVEMAPPING by its offsets
abbrev pub remove_one_at : List ℕ → RemoveOne
remove_one_at bytes = record { moffset = u64_at bytes 0; len = u64_at bytes 8 }

-- 16 bytes are an interval of a REMOVEMAPPING
unfoldable pub remove_one_of : List ℕ → Option RemoveOne
remove_one_of bytes = if length bytes == 16 then Some (remove_one_at bytes) else None
