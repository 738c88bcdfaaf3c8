use Rattle.std.proofs.Common.{rules, ◌≡◌, ◌-◌, ◌<◌, List, [], length, drop, Some, None, Ok, Err, refl, sym, ◌∙◌, ap, subst, arith}
use Rattle.std.proofs.lemmas.List.{length-drop, nil_from_length}
use Rattle.std.proofs.lemmas.Bool.{eqb-true}
use Rattle.fuse_codec.specs.declared.replies.Dirent.{Dirent}
use Rattle.fuse_codec.specs.declared.errors.BadDirents.TheVariants as bad_dirents
use Rattle.fuse_codec.specs.Dirents.{entry_len, IsCutAt, SpellDirents, first_dirent}
use Rattle.fuse_codec.proofs.DirentLaws.{none_spelled, entry_at_least, entry_here, entry_fits, next_whole, nothing_after, cut_here, not_cut, one_cut, one_list}
use Rattle.fuse_codec.proofs.dirents.read_dirents.Goals as goal

pub loop-rest-init : goal.loop-rest-init
loop-rest-init c = record { front = []; whole = refl; before = rw c.new-ones.ensures none_spelled }

cut : (c : goal.After-drop-ones-inside-in_default) → IsCutAt (length c.args.bytes.now - length c.loop-rest.rest.now) c.args.bytes.now
cut c =
    let none : first_dirent c.loop-rest.rest.now ≡ None = search rules in
    let more : 0 < length c.loop-rest.rest.now = grind (arith, c.is_empty.ensures, c.loop-rest-test.true) in
    cut_here c.loop-rest.ones c.args.bytes.now c.loop-rest.rest.now c.loop-rest.invariant more none

pub returns-in_default-clause-only : goal.returns-in_default-clause-only
returns-in_default-clause-only c = λ ds s. absurd (not_cut ds _ c.args.bytes.now s (cut c))

pub returns-in_default-clause-cut : goal.returns-in_default-clause-cut
returns-in_default-clause-cut c = λ at e.
    let is : length c.args.bytes.now - length c.loop-rest.rest.now ≡ at = cc in
    subst (λ n. IsCutAt n c.args.bytes.now) is (cut c)

pub returns-in_default-clause-cut_only : goal.returns-in_default-clause-cut_only
returns-in_default-clause-cut_only c = λ at h. ap (λ n. Err (bad_dirents.Cut n)) (one_cut _ at c.args.bytes.now (cut c) h)

pub split_at-requires : goal.split_at-requires
split_at-requires c =
    let some : first_dirent c.loop-rest.rest.now ≡ Some c.in-Some.one = search rules in
    let first = entry_here c.loop-rest.ones c.args.bytes.now c.loop-rest.rest.now c.in-Some.one (λ i. omega (arith, c.type_inv.bytes i)) c.loop-rest.invariant some in
    omega (arith, c.len.ensures.value, entry_fits c.in-Some.one c.loop-rest.rest.now first)

pub loop-rest-smaller : goal.loop-rest-smaller
loop-rest-smaller c =
    let some : first_dirent c.loop-rest.rest.now ≡ Some c.in-Some.one = search rules in
    let first = entry_here c.loop-rest.ones c.args.bytes.now c.loop-rest.rest.now c.in-Some.one (λ i. omega (arith, c.type_inv.bytes i)) c.loop-rest.invariant some in
    omega (arith, c.len.ensures.value, entry_fits c.in-Some.one c.loop-rest.rest.now first, entry_at_least (length c.in-Some.one.name), ap length c.split_at.ensures.back, length-drop c.len.result c.loop-rest.rest.now)

pub loop-rest-preserved : goal.loop-rest-preserved
loop-rest-preserved c =
    let some : first_dirent c.loop-rest.rest.now ≡ Some c.in-Some.one = search rules in
    let first = entry_here c.loop-rest.ones c.args.bytes.now c.loop-rest.rest.now c.in-Some.one (λ i. omega (arith, c.type_inv.bytes i)) c.loop-rest.invariant some in
    let back : c.split_at.result.1.now ≡ drop (entry_len (length c.in-Some.one.name)) c.loop-rest.rest.now = c.split_at.ensures.back ∙ ap (λ n. drop n c.loop-rest.rest.now) c.len.ensures.value in
    rw (c.in_ok-push.ensures.ok, back) (next_whole c.loop-rest.ones c.args.bytes.now c.loop-rest.rest.now c.in-Some.one c.loop-rest.invariant first)

all : (c : goal.After-loop-rest) → SpellDirents c.loop-rest.ones c.args.bytes.now
all c = nothing_after c.loop-rest.ones c.args.bytes.now c.loop-rest.rest.now c.loop-rest.invariant (nil_from_length c.loop-rest.rest.now (eqb-true _ _ (sym c.is_empty.ensures ∙ c.loop-rest-test.false)))

pub returns-clause-found : goal.returns-clause-found
returns-clause-found c = all c

pub returns-clause-only : goal.returns-clause-only
returns-clause-only c = λ ds s. ap (λ (xs : List Dirent). Ok xs) (one_list c.loop-rest.ones ds c.args.bytes.now (all c) s)

pub returns-clause-cut_only : goal.returns-clause-cut_only
returns-clause-cut_only c = λ at h. absurd (not_cut c.loop-rest.ones at c.args.bytes.now (all c) h)
