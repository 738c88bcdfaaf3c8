-- The fields of each record as text: the names of its fields in order of the struct of Linux uapi fuse.h, protocol 7.38, over the parts of its layout.
use Rattle.std.specs.Prelude.{ℕ, List, [], ◌∷◌, codes}
use Rattle.fuse_wire.specs.Records.{read_in, write_in, write_out}
use Rattle.fuse_wire.specs.Attributes.{getattr_in, setattr_in, attr_rec, attr_out, entry_out}
use Rattle.fuse_wire.specs.Opens.{open_in, release_in, fsync_in, flush_in, create_in, fallocate_in, open_out}
use Rattle.fuse_wire.specs.Inits.{init_in, init_out}
use Rattle.fuse_wire.specs.Forgets.{forget_one}
use Rattle.fuse_wire.specs.Mappings.{setup_in, remove_one}
use Rattle.fuse_wire.specs.declared.attributes.GetattrIn.{GetattrIn}
use Rattle.fuse_wire.specs.declared.attributes.SetattrIn.{SetattrIn}
use Rattle.fuse_wire.specs.declared.opens.OpenIn.{OpenIn}
use Rattle.fuse_wire.specs.declared.records.ReadIn.{ReadIn}
use Rattle.fuse_wire.specs.declared.records.WriteIn.{WriteIn}
use Rattle.fuse_wire.specs.declared.opens.ReleaseIn.{ReleaseIn}
use Rattle.fuse_wire.specs.declared.opens.FsyncIn.{FsyncIn}
use Rattle.fuse_wire.specs.declared.opens.FlushIn.{FlushIn}
use Rattle.fuse_wire.specs.declared.inits.InitIn.{InitIn}
use Rattle.fuse_wire.specs.declared.opens.CreateIn.{CreateIn}
use Rattle.fuse_wire.specs.declared.forgets.ForgetOne.{ForgetOne}
use Rattle.fuse_wire.specs.declared.opens.FallocateIn.{FallocateIn}
use Rattle.fuse_wire.specs.declared.mappings.SetupIn.{SetupIn}
use Rattle.fuse_wire.specs.declared.mappings.RemoveOne.{RemoveOne}
use Rattle.fuse_wire.specs.declared.attributes.AttrRec.{AttrRec}
use Rattle.fuse_wire.specs.declared.attributes.AttrOut.{AttrOut}
use Rattle.fuse_wire.specs.declared.attributes.EntryOut.{EntryOut}
use Rattle.fuse_wire.specs.declared.opens.OpenOut.{OpenOut}
use Rattle.fuse_wire.specs.declared.records.WriteOut.{WriteOut}
use Rattle.fuse_wire.specs.declared.inits.InitOut.{InitOut}
use Rattle.fuse_text.specs.FieldText.{fields}

-- GETATTR's body
unfoldable pub getattr_in_text : GetattrIn → List ℕ
getattr_in_text r = fields (codes "getattr_flags" ∷ codes "fh" ∷ []) (getattr_in r)

-- SETATTR's body
unfoldable pub setattr_in_text : SetattrIn → List ℕ
setattr_in_text r =
    let names = codes "valid" ∷ codes "fh" ∷ codes "size" ∷ codes "lock_owner" ∷ codes "atime" ∷ codes "mtime" ∷ codes "ctime"
    ∷ codes "atimensec" ∷ codes "mtimensec" ∷ codes "ctimensec" ∷ codes "mode" ∷ codes "uid" ∷ codes "gid" ∷ [] in
    fields names (setattr_in r)

-- OPEN's and OPENDIR's body
unfoldable pub open_in_text : OpenIn → List ℕ
open_in_text r = fields (codes "flags" ∷ codes "open_flags" ∷ []) (open_in r)

-- READ's and READDIR's body
unfoldable pub read_in_text : ReadIn → List ℕ
read_in_text r =
    let names = codes "fh" ∷ codes "offset" ∷ codes "size" ∷ codes "read_flags" ∷ codes "lock_owner" ∷ codes "flags" ∷ [] in
    fields names (read_in r)

-- the front of WRITE's body
unfoldable pub write_in_text : WriteIn → List ℕ
write_in_text r =
    let names = codes "fh" ∷ codes "offset" ∷ codes "size" ∷ codes "write_flags" ∷ codes "lock_owner" ∷ codes "flags" ∷ [] in
    fields names (write_in r)

-- RELEASE's and RELEASEDIR's body
unfoldable pub release_in_text : ReleaseIn → List ℕ
release_in_text r = fields (codes "fh" ∷ codes "flags" ∷ codes "release_flags" ∷ codes "lock_owner" ∷ []) (release_in r)

-- FSYNC's body
unfoldable pub fsync_in_text : FsyncIn → List ℕ
fsync_in_text r = fields (codes "fh" ∷ codes "fsync_flags" ∷ []) (fsync_in r)

-- FLUSH's body
unfoldable pub flush_in_text : FlushIn → List ℕ
flush_in_text r = fields (codes "fh" ∷ codes "lock_owner" ∷ []) (flush_in r)

-- INIT's body, in both forms
unfoldable pub init_in_text : InitIn → List ℕ
init_in_text r =
    let names = codes "major" ∷ codes "minor" ∷ codes "max_readahead" ∷ codes "flags" ∷ codes "flags2" ∷ [] in
    fields names (init_in r)

-- the front of CREATE's body
unfoldable pub create_in_text : CreateIn → List ℕ
create_in_text r = fields (codes "flags" ∷ codes "mode" ∷ codes "umask" ∷ codes "open_flags" ∷ []) (create_in r)

-- a pair of BATCH_FORGET
unfoldable pub forget_one_text : ForgetOne → List ℕ
forget_one_text r = fields (codes "nodeid" ∷ codes "nlookup" ∷ []) (forget_one r)

-- FALLOCATE's body
unfoldable pub fallocate_in_text : FallocateIn → List ℕ
fallocate_in_text r = fields (codes "fh" ∷ codes "offset" ∷ codes "length" ∷ codes "mode" ∷ []) (fallocate_in r)

-- SETUPMAPPING's body
unfoldable pub setup_in_text : SetupIn → List ℕ
setup_in_text r =
    let names = codes "fh" ∷ codes "foffset" ∷ codes "len" ∷ codes "flags" ∷ codes "moffset" ∷ [] in
    fields names (setup_in r)

-- an interval of REMOVEMAPPING
unfoldable pub remove_one_text : RemoveOne → List ℕ
remove_one_text r = fields (codes "moffset" ∷ codes "len" ∷ []) (remove_one r)

-- the names of the attributes of a node
abbrev pub attr_names : List (List ℕ)
attr_names =
    codes "ino" ∷ codes "size" ∷ codes "blocks" ∷ codes "atime" ∷ codes "mtime" ∷ codes "ctime" ∷ codes "atimensec"
    ∷ codes "mtimensec" ∷ codes "ctimensec" ∷ codes "mode" ∷ codes "nlink" ∷ codes "uid" ∷ codes "gid" ∷ codes "rdev"
    ∷ codes "blksize" ∷ codes "flags" ∷ []

-- the attributes of a node
unfoldable pub attr_rec_text : AttrRec → List ℕ
attr_rec_text r = fields attr_names (attr_rec r)

-- the reply of GETATTR and SETATTR
unfoldable pub attr_out_text : AttrOut → List ℕ
attr_out_text r = fields (codes "attr_valid" ∷ codes "attr_valid_nsec" ∷ attr_names) (attr_out r)

-- the reply of LOOKUP, and the front of CREATE's
unfoldable pub entry_out_text : EntryOut → List ℕ
entry_out_text r =
    let names = codes "nodeid" ∷ codes "generation" ∷ codes "entry_valid" ∷ codes "attr_valid" ∷ codes "entry_valid_nsec"
    ∷ codes "attr_valid_nsec" ∷ attr_names in
    fields names (entry_out r)

-- the reply of OPEN and OPENDIR, and the end of CREATE's
unfoldable pub open_out_text : OpenOut → List ℕ
open_out_text r = fields (codes "fh" ∷ codes "open_flags" ∷ []) (open_out r)

-- the reply of WRITE
unfoldable pub write_out_text : WriteOut → List ℕ
write_out_text r = fields (codes "size" ∷ []) (write_out r)

-- the reply of INIT
unfoldable pub init_out_text : InitOut → List ℕ
init_out_text r =
    let names = codes "major" ∷ codes "minor" ∷ codes "max_readahead" ∷ codes "flags" ∷ codes "max_background"
    ∷ codes "congestion_threshold" ∷ codes "max_write" ∷ codes "time_gran" ∷ codes "max_pages"
    ∷ codes "map_alignment" ∷ codes "flags2" ∷ [] in
    fields names (init_out r)
