-- Entries of a directory: struct fuse_dirent of Linux uapi fuse.h, protocol 7.38, with its name and what fills it up to a multiple of 8.
use Rattle.std.specs.Prelude.{◌≡◌, ℕ, ◌+◌, ◌-◌, ◌%◌, ◌<◌, true, nat_lt, nat_le, List, [], ◌∷◌, ◌++◌, length, take, drop, Option, None, option_map, Result, Err, if◌then◌else◌}
use Rattle.std.specs.List.{flat_map}
use Rattle.plain_file.specs.Names.{is_name, checked_name}
use Rattle.fuse_wire.specs.Layout.{Part, U32, U64, Unused, Bytes, AreSpelled, clean, parts_len}
use Rattle.fuse_wire.specs.Records.{u32_at, u64_at}
use Rattle.fuse_codec.specs.declared.replies.Dirent.{Dirent}
use Rattle.fuse_codec.specs.declared.errors.BadDirents.{BadDirents}
use Rattle.fuse_codec.specs.declared.errors.BadDirents.TheVariants as bad_dirents

-- how many bytes fill so many up to a multiple of 8
abbrev pub filler : ℕ → ℕ
filler n = (8 - n % 8) % 8

-- how many bytes an entry takes whose name has so many
unfoldable pub entry_len : ℕ → ℕ
entry_len n = 24 + n + filler n

-- the parts before an entry's name
unfoldable pub dirent_head : Dirent → List Part
dirent_head d = U64 d.ino ∷ U64 d.off ∷ U32 (length d.name) ∷ U32 d.kind ∷ []

-- the parts of an entry
unfoldable pub dirent_parts : Dirent → List Part
dirent_parts d = dirent_head d ++ Bytes d.name ∷ Unused (filler (length d.name)) ∷ []

-- bytes that spell an entry, filler and all
pub record SpellsDirent (d : Dirent) (bytes : List ℕ) : Type 0 where
  pub named : is_name d.name ≡ true
  pub parts : AreSpelled (dirent_parts d) bytes

-- bytes that spell entries, one after the other
unfoldable pub SpellDirents : List Dirent → List ℕ → Type 0
SpellDirents [] bytes = bytes ≡ []
SpellDirents (d ∷ ds) bytes = (front : List ℕ) × (rest : List ℕ) × SpellsDirent d front × (bytes ≡ front ++ rest) × SpellDirents ds rest

-- no whole entry is at the front of these bytes
abbrev pub HasNoEntry : List ℕ → Type 0
HasNoEntry bytes = (d : Dirent) (entry after : List ℕ) → bytes ≡ entry ++ after → SpellsDirent d entry → ⊥

-- Entries are whole up to an offset, at which more bytes are, but no whole entry.
pub record IsCutAt (at : ℕ) (bytes : List ℕ) : Type 0 where
  pub ones : List Dirent
  pub front : List ℕ
  pub rest : List ℕ
  pub whole : bytes ≡ front ++ rest
  pub before : SpellDirents ones front
  pub place : length front ≡ at
  pub more : 0 < length rest
  pub no_entry : HasNoEntry rest

-- What a function returned is the entries, or the offset of the first that isn't whole, unless memory ran out.
abbrev pub GivesDirents : Result (List Dirent) BadDirents → Result (List Dirent) BadDirents → Type 0
GivesDirents (Err bad_dirents.Memory) read = Unit {0}
GivesDirents result read = result ≡ read

-- the spelling with zeros where any bytes may stand
abbrev pub clean_dirents : List Dirent → List ℕ
clean_dirents ds = clean (flat_map dirent_parts ds)

-- how many bytes entries take
unfoldable pub dirents_len : List Dirent → ℕ
dirents_len ds = parts_len (flat_map dirent_parts ds)

-- the longest prefix of entries that takes at most so many bytes
unfoldable pub fitting : ℕ → List Dirent → List Dirent
fitting size [] = []
fitting size (d ∷ ds) = if nat_le (entry_len (length d.name)) size then d ∷ fitting (size - entry_len (length d.name)) ds else []

-- ---- reading at offsets

-- the entry of these 24 bytes and this name
abbrev pub dirent_with : List ℕ → List ℕ → Dirent
dirent_with head name = record { ino = u64_at head 0; off = u64_at head 8; kind = u32_at head 20; name = name }

-- the entry of these 24 bytes, where a name of so many bytes and its filler follow
unfoldable pub dirent_after : List ℕ → ℕ → List ℕ → Option Dirent
dirent_after head namelen rest =
    if nat_lt (length rest) (namelen + filler namelen) then None
    else option_map (dirent_with head) (checked_name (take namelen rest))

-- the whole entry at the front of bytes, where there is one
unfoldable pub first_dirent : List ℕ → Option Dirent
first_dirent bytes =
    if nat_lt (length bytes) 24 then None
    else dirent_after (take 24 bytes) (u32_at (take 24 bytes) 16) (drop 24 bytes)
