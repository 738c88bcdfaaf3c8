-- Reading what opens, closes and works on an open file at the offsets is the inverse of the layouts.
use Rattle.std.proofs.Common.{rules, ◌≡◌, ℕ, List, refl, Some}
use Rattle.fuse_wire.specs.Layout.{FitsParts, clean}
use Rattle.fuse_wire.specs.Opens.{open_in, open_in_at, open_in_of, open_out, open_out_at, open_out_of, create_in, create_in_at, create_in_of, release_in, release_in_at, release_in_of, flush_in, flush_in_at, flush_in_of, fsync_in, fsync_in_at, fsync_in_of, fallocate_in, fallocate_in_at, fallocate_in_of}
use Rattle.fuse_wire.specs.declared.opens.OpenIn.{OpenIn}
use Rattle.fuse_wire.specs.declared.opens.OpenOut.{OpenOut}
use Rattle.fuse_wire.specs.declared.opens.CreateIn.{CreateIn}
use Rattle.fuse_wire.specs.declared.opens.ReleaseIn.{ReleaseIn}
use Rattle.fuse_wire.specs.declared.opens.FlushIn.{FlushIn}
use Rattle.fuse_wire.specs.declared.opens.FsyncIn.{FsyncIn}
use Rattle.fuse_wire.specs.declared.opens.FallocateIn.{FallocateIn}
use Rattle.fuse_wire.proofs.RecordLaws.{IsRecord, is_record, clean_again}

pub open_in_law : IsRecord 8 open_in open_in_of
unfolding open_in_of open_in
open_in_law = is_record open_in open_in_at 8 (λ r. refl) (λ b. search rules) (λ r b h. search rules)

pub open_in_again : (r : OpenIn) (bytes : List ℕ) → bytes ≡ clean (open_in r) → FitsParts (open_in r) → open_in_of bytes ≡ Some r
open_in_again = clean_again open_in_law

pub open_out_law : IsRecord 16 open_out open_out_of
unfolding open_out_of open_out
open_out_law = is_record open_out open_out_at 16 (λ r. refl) (λ b. search rules) (λ r b h. search rules)

pub open_out_again : (r : OpenOut) (bytes : List ℕ) → bytes ≡ clean (open_out r) → FitsParts (open_out r) → open_out_of bytes ≡ Some r
open_out_again = clean_again open_out_law

pub create_in_law : IsRecord 16 create_in create_in_of
unfolding create_in_of create_in
create_in_law = is_record create_in create_in_at 16 (λ r. refl) (λ b. search rules) (λ r b h. search rules)

pub create_in_again : (r : CreateIn) (bytes : List ℕ) → bytes ≡ clean (create_in r) → FitsParts (create_in r) → create_in_of bytes ≡ Some r
create_in_again = clean_again create_in_law

pub release_in_law : IsRecord 24 release_in release_in_of
unfolding release_in_of release_in
release_in_law = is_record release_in release_in_at 24 (λ r. refl) (λ b. search rules) (λ r b h. search rules)

pub release_in_again : (r : ReleaseIn) (bytes : List ℕ) → bytes ≡ clean (release_in r) → FitsParts (release_in r) → release_in_of bytes ≡ Some r
release_in_again = clean_again release_in_law

pub flush_in_law : IsRecord 24 flush_in flush_in_of
unfolding flush_in_of flush_in
flush_in_law = is_record flush_in flush_in_at 24 (λ r. refl) (λ b. search rules) (λ r b h. search rules)

pub flush_in_again : (r : FlushIn) (bytes : List ℕ) → bytes ≡ clean (flush_in r) → FitsParts (flush_in r) → flush_in_of bytes ≡ Some r
flush_in_again = clean_again flush_in_law

pub fsync_in_law : IsRecord 16 fsync_in fsync_in_of
unfolding fsync_in_of fsync_in
fsync_in_law = is_record fsync_in fsync_in_at 16 (λ r. refl) (λ b. search rules) (λ r b h. search rules)

pub fsync_in_again : (r : FsyncIn) (bytes : List ℕ) → bytes ≡ clean (fsync_in r) → FitsParts (fsync_in r) → fsync_in_of bytes ≡ Some r
fsync_in_again = clean_again fsync_in_law

pub fallocate_in_law : IsRecord 32 fallocate_in fallocate_in_of
unfolding fallocate_in_of fallocate_in
fallocate_in_law = is_record fallocate_in fallocate_in_at 32 (λ r. refl) (λ b. search rules) (λ r b h. search rules)

pub fallocate_in_again : (r : FallocateIn) (bytes : List ℕ) → bytes ≡ clean (fallocate_in r) → FitsParts (fallocate_in r) → fallocate_in_of bytes ≡ Some r
fallocate_in_again = clean_again fallocate_in_law
