-- Lookups that the guest gives back. The layouts, part by part in order of the struct of Linux uapi fuse.h, protocol 7.38, and what stands at the offsets of bytes.
use Rattle.std.specs.Prelude.{ℕ, ◌==◌, List, [], ◌∷◌, length, Option, Some, None, if◌then◌else◌}
use Rattle.fuse_wire.specs.Layout.{Part, U64}
use Rattle.fuse_wire.specs.Records.{u64_at}
use Rattle.fuse_wire.specs.declared.forgets.ForgetIn.{ForgetIn}
use Rattle.fuse_wire.specs.declared.forgets.ForgetOne.{ForgetOne}

-- ---- struct fuse_forget_in

-- the parts of a FORGET's body
unfoldable pub forget_in : ForgetIn → List Part
forget_in r = U64 r.nlookup ∷ []

-- a FORGET's body by its offsets
abbrev pub forget_in_at : List ℕ → ForgetIn
forget_in_at bytes = record { nlookup = u64_at bytes 0 }

-- 8 bytes are a FORGET's body
unfoldable pub forget_in_of : List ℕ → Option ForgetIn
forget_in_of bytes = if length bytes == 8 then Some (forget_in_at bytes) else None

-- ---- struct fuse_forget_one

-- the parts of a node of a BATCH_FORGET
unfoldable pub forget_one : ForgetOne → List Part
forget_one r = U64 r.nodeid ∷ U64 r.nlookup ∷ []

-- a node of a BATCH_FORGET by its offsets
abbrev pub forget_one_at : List ℕ → ForgetOne
forget_one_at bytes = record { nodeid = u64_at bytes 0; nlookup = u64_at bytes 8 }

-- 16 bytes are a node of a BATCH_FORGET
unfoldable pub forget_one_of : List ℕ → Option ForgetOne
forget_one_of bytes = if length bytes == 16 then Some (forget_one_at bytes) else None
