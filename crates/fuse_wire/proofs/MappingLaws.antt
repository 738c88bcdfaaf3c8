-- Reading what sets and removes mappings at the offsets is the inverse of the layouts.
use Rattle.std.proofs.Common.{rules, ◌≡◌, ℕ, List, refl, Some}
use Rattle.fuse_wire.specs.Layout.{FitsParts, clean}
use Rattle.fuse_wire.specs.Mappings.{setup_in, setup_in_at, setup_in_of, remove_one, remove_one_at, remove_one_of}
use Rattle.fuse_wire.specs.declared.mappings.SetupIn.{SetupIn}
use Rattle.fuse_wire.specs.declared.mappings.RemoveOne.{RemoveOne}
use Rattle.fuse_wire.proofs.RecordLaws.{IsRecord, is_record, clean_again}

pub setup_in_law : IsRecord 40 setup_in setup_in_of
unfolding setup_in_of setup_in
setup_in_law = is_record setup_in setup_in_at 40 (λ r. refl) (λ b. search rules) (λ r b h. search rules)

pub setup_in_again : (r : SetupIn) (bytes : List ℕ) → bytes ≡ clean (setup_in r) → FitsParts (setup_in r) → setup_in_of bytes ≡ Some r
setup_in_again = clean_again setup_in_law

pub remove_one_law : IsRecord 16 remove_one remove_one_of
unfolding remove_one_of remove_one
remove_one_law = is_record remove_one remove_one_at 16 (λ r. refl) (λ b. search rules) (λ r b h. search rules)

pub remove_one_again : (r : RemoveOne) (bytes : List ℕ) → bytes ≡ clean (remove_one r) → FitsParts (remove_one r) → remove_one_of bytes ≡ Some r
remove_one_again = clean_again remove_one_law
