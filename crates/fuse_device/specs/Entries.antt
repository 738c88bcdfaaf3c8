-- What the device tells of a session, of its nodes and of its directory.
use Rattle.std.specs.List.{insert}
use Rattle.std.specs.Ordering.{is_lt, nat_cmp}
use Rattle.std.specs.Cmp.Lexicographic.{slice_cmp}
use Rattle.std.specs.Prelude.{position, length, unwrap_or, ℕ, ◌+◌, ◌/◌, ◌==◌, Bool, List, [], ◌∷◌, drop, Option, Some, None, is_some, bit_and, if◌then◌else◌}
use Rattle.fuse_codec.specs.declared.replies.Dirent.{Dirent}
use Rattle.fuse_codec.specs.Dirents.{fitting, clean_dirents}
use Rattle.fuse_wire.specs.declared.attributes.AttrRec.{AttrRec}
use Rattle.fuse_wire.specs.declared.attributes.AttrOut.{AttrOut}
use Rattle.fuse_wire.specs.declared.attributes.EntryOut.{EntryOut}
use Rattle.fuse_wire.specs.declared.inits.InitIn.{InitIn}
use Rattle.fuse_wire.specs.declared.inits.InitOut.{InitOut}
use Rattle.fuse_wire.specs.declared.opens.OpenOut.{OpenOut}
use Rattle.plain_file.specs.Board.{BoardView, file_at, size_of}
use Rattle.fuse_device.specs.declared.tables.MadeFile.{MadeFile}
use Rattle.fuse_device.specs.State.{State, made_at}

-- ---- the session

-- Direct access (bit 26, FUSE_MAP_ALIGNMENT) where it is asked for and the window has pages. No other flag is had.
abbrev pub session_flags : ℕ → InitIn → ℕ
session_flags pages r = if pages == 0 then 0 else bit_and r.flags 67108864

-- what a session is told, where it has these flags; the alignment is 2^12 bytes where it has direct access
abbrev pub init_out_with : ℕ → InitIn → InitOut
init_out_with flags r = record { major = 7; minor = 31; max_readahead = r.max_readahead; flags = flags; max_background = 16; congestion_threshold = 12; max_write = 1048576; time_gran = 1; max_pages = 0; map_alignment = if flags == 0 then 0 else 12; flags2 = 0 }

-- ---- attributes

-- The attributes of a node: no times, no users, blocks of 512 bytes.
abbrev pub attr_with : ℕ → ℕ → ℕ → ℕ → AttrRec
attr_with node size mode nlink = record { ino = node; size = size; blocks = (size + 511) / 512; atime = 0; mtime = 0; ctime = 0; atimensec = 0; mtimensec = 0; ctimensec = 0; mode = mode; nlink = nlink; uid = 0; gid = 0; rdev = 0; blksize = 4096; flags = 0 }

-- the directory: 0o40755
unfoldable pub dir_attr : AttrRec
dir_attr = attr_with 1 0 16877 2

-- a file of this size: 0o100644, with one link where it has a name
unfoldable pub file_attr : State → ℕ → ℕ → AttrRec
file_attr s node size = attr_with node size 33188 (if is_some (made_at s node).name then 1 else 0)

-- attributes that are good for no time
abbrev pub attr_out_of : AttrRec → AttrOut
attr_out_of a = record { attr_valid = 0; attr_valid_nsec = 0; attr = a }

-- A file's entry, good for no time. It tells the size as the board sees it.
abbrev pub entry_of : State → BoardView → ℕ → EntryOut
entry_of s files i = record { nodeid = i + 2; generation = 0; entry_valid = 0; attr_valid = 0; entry_valid_nsec = 0; attr_valid_nsec = 0; attr = file_attr s (i + 2) (size_of (file_at files i)) }

-- the number of the handle that is opened next
abbrev pub open_out_of : State → OpenOut
open_out_of s = record { fh = s.next_fh; open_flags = 0 }

-- ---- the directory

-- byte order of names
abbrev pub is_before : List ℕ → List ℕ → Bool
is_before a b = is_lt (slice_cmp nat_cmp a b)

-- an entry's name is greater than this one
abbrev pub is_after : List ℕ → Dirent → Bool
is_after name d = is_before name d.name

-- the place of a name among entries in byte order: before the first with a greater name, else at the end
abbrev pub place_among : List Dirent → List ℕ → ℕ
place_among ds name = unwrap_or (position (is_after name) ds) (length ds)

-- the entry of a named file, without its number; kind 8 is a regular file's
abbrev pub entry_named : List ℕ → ℕ → Dirent
entry_named name node = record { ino = node; off = 0; kind = 8; name = name }

-- entries with that of one more file, where it has a name
abbrev pub with_entry : Option (List ℕ) → ℕ → List Dirent → List Dirent
with_entry None node ds = ds
with_entry (Some name) node ds = insert ds (place_among ds name) (entry_named name node)

-- entries with those of more files, the first of which has this node
abbrev pub with_entries : List Dirent → ℕ → List MadeFile → List Dirent
with_entries ds node [] = ds
with_entries ds node (f ∷ fs) = with_entries (with_entry f.name node ds) (node + 1) fs

-- entries numbered in their order
abbrev pub numbered_from : ℕ → List Dirent → List Dirent
numbered_from off [] = []
numbered_from off (d ∷ ds) = record d { off = off } ∷ numbered_from (off + 1) ds

-- the named files in byte order of their names, numbered from 1
unfoldable pub entries : State → List Dirent
entries s = numbered_from 1 (with_entries [] 2 s.made)

-- the longest prefix, of the entries after so many, that has at most so many bytes
abbrev pub listed : State → ℕ → ℕ → List ℕ
listed s offset size = clean_dirents (fitting size (drop offset (entries s)))
