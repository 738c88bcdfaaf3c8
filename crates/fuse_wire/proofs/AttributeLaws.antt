-- Reading attributes, and what carries them, at the offsets is the inverse of the layouts.
use Rattle.std.proofs.Common.{rules, ◌≡◌, ℕ, List, length, refl, sym, arith, drop, Some}
use Rattle.fuse_wire.specs.Layout.{AreSpelled, FitsParts, clean}
use Rattle.fuse_wire.specs.Attributes.{attr_rec, attr_rec_at, attr_rec_of, attr_out, attr_out_at, attr_out_of, entry_out, entry_out_at, entry_out_of, getattr_in, getattr_in_at, getattr_in_of, setattr_in, setattr_in_at, setattr_in_of}
use Rattle.fuse_wire.proofs.Laws.{AreAt, tail_places, places_of_tail}
use Rattle.fuse_wire.specs.declared.attributes.AttrRec.{AttrRec}
use Rattle.fuse_wire.specs.declared.attributes.AttrOut.{AttrOut}
use Rattle.fuse_wire.specs.declared.attributes.EntryOut.{EntryOut}
use Rattle.fuse_wire.specs.declared.attributes.GetattrIn.{GetattrIn}
use Rattle.fuse_wire.specs.declared.attributes.SetattrIn.{SetattrIn}
use Rattle.fuse_wire.proofs.RecordLaws.{IsRecord, is_record, clean_again}

-- what stands at the offsets of the attributes is the attributes
attr_rec_stands : (bytes : List ℕ) → AreAt (attr_rec (attr_rec_at bytes)) 0 bytes
unfolding attr_rec attr_rec_at
attr_rec_stands bytes = search rules depth 40

attr_rec_alone : (r : AttrRec) (bytes : List ℕ) → AreAt (attr_rec r) 0 bytes → attr_rec_at bytes ≡ r
unfolding attr_rec attr_rec_at
attr_rec_alone r bytes h = λ i. record { ino = sym h.0 i; size = sym h.1.0 i; blocks = sym h.1.1.0 i; atime = sym h.1.1.1.0 i; mtime = sym h.1.1.1.1.0 i; ctime = sym h.1.1.1.1.1.0 i; atimensec = sym h.1.1.1.1.1.1.0 i; mtimensec = sym h.1.1.1.1.1.1.1.0 i; ctimensec = sym h.1.1.1.1.1.1.1.1.0 i; mode = sym h.1.1.1.1.1.1.1.1.1.0 i; nlink = sym h.1.1.1.1.1.1.1.1.1.1.0 i; uid = sym h.1.1.1.1.1.1.1.1.1.1.1.0 i; gid = sym h.1.1.1.1.1.1.1.1.1.1.1.1.0 i; rdev = sym h.1.1.1.1.1.1.1.1.1.1.1.1.1.0 i; blksize = sym h.1.1.1.1.1.1.1.1.1.1.1.1.1.1.0 i; flags = sym h.1.1.1.1.1.1.1.1.1.1.1.1.1.1.1.0 i }

pub attr_rec_law : IsRecord 88 attr_rec attr_rec_of
unfolding attr_rec_of attr_rec attr_rec_at
attr_rec_law = is_record attr_rec attr_rec_at 88 (λ r. refl) (λ b. search rules depth 40) attr_rec_alone

pub attr_rec_len : (r : AttrRec) (bytes : List ℕ) → AreSpelled (attr_rec r) bytes → length bytes ≡ 88
attr_rec_len = attr_rec_law.len

pub attr_rec_again : (r : AttrRec) (bytes : List ℕ) → bytes ≡ clean (attr_rec r) → FitsParts (attr_rec r) → attr_rec_of bytes ≡ Some r
attr_rec_again = clean_again attr_rec_law

pub attr_out_law : IsRecord 104 attr_out attr_out_of
unfolding attr_out_of attr_out
attr_out_law =
    is_record attr_out attr_out_at 104 (λ r. omega (arith, attr_rec_law.sized r.attr))
    (λ b. (refl, (refl, (tt, tail_places (attr_rec (attr_rec_at (drop 16 b))) 16 0 b (attr_rec_stands (drop 16 b))))))
    (λ r b h. let e = attr_rec_alone r.attr (drop 16 b) (places_of_tail (attr_rec r.attr) 16 0 b h.1.1.1) in search (rules, h, e))

pub attr_out_len : (r : AttrOut) (bytes : List ℕ) → AreSpelled (attr_out r) bytes → length bytes ≡ 104
attr_out_len = attr_out_law.len

pub attr_out_again : (r : AttrOut) (bytes : List ℕ) → bytes ≡ clean (attr_out r) → FitsParts (attr_out r) → attr_out_of bytes ≡ Some r
attr_out_again = clean_again attr_out_law

pub entry_out_law : IsRecord 128 entry_out entry_out_of
unfolding entry_out_of entry_out
entry_out_law =
    is_record entry_out entry_out_at 128 (λ r. omega (arith, attr_rec_law.sized r.attr))
    (λ b. (refl, (refl, (refl, (refl, (refl, (refl, tail_places (attr_rec (attr_rec_at (drop 40 b))) 40 0 b (attr_rec_stands (drop 40 b)))))))))
    (λ r b h. let e = attr_rec_alone r.attr (drop 40 b) (places_of_tail (attr_rec r.attr) 40 0 b h.1.1.1.1.1.1) in search (rules, h, e))

pub entry_out_len : (r : EntryOut) (bytes : List ℕ) → AreSpelled (entry_out r) bytes → length bytes ≡ 128
entry_out_len = entry_out_law.len

pub entry_out_again : (r : EntryOut) (bytes : List ℕ) → bytes ≡ clean (entry_out r) → FitsParts (entry_out r) → entry_out_of bytes ≡ Some r
entry_out_again = clean_again entry_out_law

pub getattr_in_law : IsRecord 16 getattr_in getattr_in_of
unfolding getattr_in_of getattr_in
getattr_in_law = is_record getattr_in getattr_in_at 16 (λ r. refl) (λ b. search rules) (λ r b h. search rules)

pub getattr_in_again : (r : GetattrIn) (bytes : List ℕ) → bytes ≡ clean (getattr_in r) → FitsParts (getattr_in r) → getattr_in_of bytes ≡ Some r
getattr_in_again = clean_again getattr_in_law

pub setattr_in_law : IsRecord 88 setattr_in setattr_in_of
unfolding setattr_in_of setattr_in
setattr_in_law = is_record setattr_in setattr_in_at 88 (λ r. refl) (λ b. search rules depth 40) (λ r b h. λ i. record { valid = sym h.0 i; fh = sym h.1.1.0 i; size = sym h.1.1.1.0 i; lock_owner = sym h.1.1.1.1.0 i; atime = sym h.1.1.1.1.1.0 i; mtime = sym h.1.1.1.1.1.1.0 i; ctime = sym h.1.1.1.1.1.1.1.0 i; atimensec = sym h.1.1.1.1.1.1.1.1.0 i; mtimensec = sym h.1.1.1.1.1.1.1.1.1.0 i; ctimensec = sym h.1.1.1.1.1.1.1.1.1.1.0 i; mode = sym h.1.1.1.1.1.1.1.1.1.1.1.0 i; uid = sym h.1.1.1.1.1.1.1.1.1.1.1.1.1.0 i; gid = sym h.1.1.1.1.1.1.1.1.1.1.1.1.1.1.0 i })

pub setattr_in_len : (r : SetattrIn) (bytes : List ℕ) → AreSpelled (setattr_in r) bytes → length bytes ≡ 88
setattr_in_len = setattr_in_law.len

pub setattr_in_again : (r : SetattrIn) (bytes : List ℕ) → bytes ≡ clean (setattr_in r) → FitsParts (setattr_in r) → setattr_in_of bytes ≡ Some r
setattr_in_again = clean_again setattr_in_law
