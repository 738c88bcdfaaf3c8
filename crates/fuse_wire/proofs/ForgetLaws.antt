-- Reading what a FORGET carries at the offsets is the inverse of the layouts.
use Rattle.std.proofs.Common.{rules, ◌≡◌, ℕ, List, refl, Some}
use Rattle.fuse_wire.specs.Layout.{FitsParts, clean}
use Rattle.fuse_wire.specs.Forgets.{forget_in, forget_in_at, forget_in_of, forget_one, forget_one_at, forget_one_of}
use Rattle.fuse_wire.specs.declared.forgets.ForgetIn.{ForgetIn}
use Rattle.fuse_wire.specs.declared.forgets.ForgetOne.{ForgetOne}
use Rattle.fuse_wire.proofs.RecordLaws.{IsRecord, is_record, clean_again}

pub forget_in_law : IsRecord 8 forget_in forget_in_of
unfolding forget_in_of forget_in
forget_in_law = is_record forget_in forget_in_at 8 (λ r. refl) (λ b. search rules) (λ r b h. search rules)

pub forget_in_again : (r : ForgetIn) (bytes : List ℕ) → bytes ≡ clean (forget_in r) → FitsParts (forget_in r) → forget_in_of bytes ≡ Some r
forget_in_again = clean_again forget_in_law

pub forget_one_law : IsRecord 16 forget_one forget_one_of
unfolding forget_one_of forget_one
forget_one_law = is_record forget_one forget_one_at 16 (λ r. refl) (λ b. search rules) (λ r b h. search rules)

pub forget_one_again : (r : ForgetOne) (bytes : List ℕ) → bytes ≡ clean (forget_one r) → FitsParts (forget_one r) → forget_one_of bytes ≡ Some r
forget_one_again = clean_again forget_one_law
