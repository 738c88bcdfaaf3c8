-- The beginning of a session. The layouts of its records, part by part in order of the struct of Linux uapi fuse.h, protocol 7.38, and what stands at the offsets of bytes.
use Rattle.std.specs.Prelude.{ℕ, ◌==◌, List, [], ◌∷◌, length, Option, Some, None, if◌then◌else◌}
use Rattle.fuse_wire.specs.Layout.{Part, U16, U32, Unused}
use Rattle.fuse_wire.specs.Records.{u16_at, u32_at}
use Rattle.fuse_wire.specs.declared.inits.InitOut.{InitOut}
use Rattle.fuse_wire.specs.declared.inits.InitIn.{InitIn}

-- ---- struct fuse_init_in

-- what the longer form has more
abbrev pub init_more : Option ℕ → List Part
init_more None = []
init_more (Some flags2) = U32 flags2 ∷ Unused 44 ∷ []

-- the parts of an INIT's body
unfoldable pub init_in : InitIn → List Part
init_in r = U32 r.major ∷ U32 r.minor ∷ U32 r.max_readahead ∷ U32 r.flags ∷ init_more r.flags2

-- an INIT's body by its offsets
abbrev pub init_in_at : List ℕ → Option ℕ → InitIn
init_in_at bytes flags2 = record { major = u32_at bytes 0; minor = u32_at bytes 4; max_readahead = u32_at bytes 8; flags = u32_at bytes 12; flags2 = flags2 }

-- 16 bytes are an INIT's body without flags2, and 64 are one with it
unfoldable pub init_in_of : List ℕ → Option InitIn
init_in_of bytes =
    if length bytes == 16 then Some (init_in_at bytes None)
    else if length bytes == 64 then Some (init_in_at bytes (Some (u32_at bytes 16)))
    else None

-- ---- struct fuse_init_out

-- the parts of an INIT's reply
unfoldable pub init_out : InitOut → List Part
init_out r = U32 r.major ∷ U32 r.minor ∷ U32 r.max_readahead ∷ U32 r.flags ∷ U16 r.max_background ∷ U16 r.congestion_threshold ∷ U32 r.max_write ∷ U32 r.time_gran ∷ U16 r.max_pages ∷ U16 r.map_alignment ∷ U32 r.flags2 ∷ Unused 28 ∷ []

-- an INIT's reply by its offsets
abbrev pub init_out_at : List ℕ → InitOut
init_out_at bytes = record { major = u32_at bytes 0; minor = u32_at bytes 4; max_readahead = u32_at bytes 8; flags = u32_at bytes 12; max_background = u16_at bytes 16; congestion_threshold = u16_at bytes 18; max_write = u32_at bytes 20; time_gran = u32_at bytes 24; max_pages = u16_at bytes 28; map_alignment = u16_at bytes 30; flags2 = u32_at bytes 32 }

-- 64 bytes are an INIT's reply
unfoldable pub init_out_of : List ℕ → Option InitOut
init_out_of bytes = if length bytes == 64 then Some (init_out_at bytes) else None
