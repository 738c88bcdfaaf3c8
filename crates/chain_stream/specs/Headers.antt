-- The header of a chain stream, as far as it was read.
use Rattle.std.specs.Prelude.{◌≡◌, ℕ, ◌<◌, ◌≤◌, ◌⊎◌, true, false, List, length, drop, Option, Some, None, if◌then◌else◌}
use Rattle.std.specs.Io.KnownBytes.{Consumes, IsAtEnd}
use Rattle.fuse_wire.specs.Records.{u32_at}
use Rattle.chain_stream.specs.Frames.{is_header, header_len}
use Rattle.chain_stream.specs.Courses.{PendingView}

-- how many pages a header says
abbrev pub header_pages : List ℕ → Option ℕ
header_pages bytes = if is_header bytes then Some (u32_at bytes 8) else None

-- a header was read, with so many pages, and these bytes behind it
pub record IsHeaded (left left' : Option (List ℕ)) (p : PendingView) (pages : ℕ) : Type 0 where
  pub bytes : List ℕ
  pub consumed : Consumes left left' bytes
  pub header : is_header bytes ≡ true
  pub pages_is : pages ≡ u32_at bytes 8
  pub rest : p ≡ record { rest = drop header_len bytes; at = header_len }

-- what was read is no header, and it is whole
pub record IsUnheaded (left left' : Option (List ℕ)) : Type 0 where
  pub bytes : List ℕ
  pub consumed : Consumes left left' bytes
  pub no_header : is_header bytes ≡ false
  pub whole : (header_len ≤ length bytes) ⊎ IsAtEnd left'

-- what was read is a part of a header, or none
pub record IsWaiting (left left' : Option (List ℕ)) : Type 0 where
  pub bytes : List ℕ
  pub consumed : Consumes left left' bytes
  pub short : length bytes < header_len
