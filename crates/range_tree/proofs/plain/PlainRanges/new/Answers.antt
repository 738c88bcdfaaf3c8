use Rattle.std.proofs.Common.{rules, ◌≡◌, ◌∙◌, ap, replicate, None, [], arith}
use Rattle.std.proofs.lemmas.Grind.{common_steps}
use Rattle.range_tree.specs.Ranges.{no_target}
use Rattle.range_tree.specs.Plain.{Parts, plain_view, new_ranges, all_noted}
use Rattle.range_tree.proofs.OneGuest.{new_parts, inv-new}
use Rattle.range_tree.proofs.Seeing.{noted-none}
use Rattle.range_tree.proofs.Pages.{table-new}
use Rattle.range_tree.proofs.plain.PlainRanges.new.Goals as goal

pub invariant_of-result : goal.invariant_of-result
invariant_of-result c =
    let n = c.args.ranges in
    let pins : c.in_ok-vec.field-0.items ≡ replicate n 0 = c.in_ok-vec.ensures.items_if_clones_equal (λ y h. h) in
    let pinned : c.in_ok-vec-2.field-0.items ≡ replicate n no_target = c.in_ok-vec-2.ensures.items_if_clones_equal (λ y h. h) in
    let looks : c.in_ok-vec-3.field-0.items ≡ replicate n None = c.in_ok-vec-3.ensures.items_if_clones_equal (λ y h. search rules) in
    let targets : c.in_ok-vec-4.field-0.items ≡ replicate n None = c.in_ok-vec-4.ensures.items_if_clones_equal (λ y h. search rules) in
    let owners : c.in_ok-vec-5.field-0.items ≡ replicate n None = c.in_ok-vec-5.ensures.items_if_clones_equal (λ y h. search rules) in
    let maps : c.in_ok-vec-6.field-0.items ≡ replicate n None = c.in_ok-vec-6.ensures.items_if_clones_equal (λ y h. search rules) in
    let trees : c.loop.trees.items ≡ replicate c.args.files [] = grind (arith, common_steps) in
    rw (pins, pinned, looks, targets, owners, maps, trees, noted-none n) (inv-new n c.args.files c.args.guest c.requires.ranges c.requires.files)

pub returns : goal.returns
returns c =
    let n = c.args.ranges in
    let pins : c.in_ok-vec.field-0.items ≡ replicate n 0 = c.in_ok-vec.ensures.items_if_clones_equal (λ y h. h) in
    let pinned : c.in_ok-vec-2.field-0.items ≡ replicate n no_target = c.in_ok-vec-2.ensures.items_if_clones_equal (λ y h. h) in
    let looks : c.in_ok-vec-3.field-0.items ≡ replicate n None = c.in_ok-vec-3.ensures.items_if_clones_equal (λ y h. search rules) in
    let targets : c.in_ok-vec-4.field-0.items ≡ replicate n None = c.in_ok-vec-4.ensures.items_if_clones_equal (λ y h. search rules) in
    let owners : c.in_ok-vec-5.field-0.items ≡ replicate n None = c.in_ok-vec-5.ensures.items_if_clones_equal (λ y h. search rules) in
    let maps : c.in_ok-vec-6.field-0.items ≡ replicate n None = c.in_ok-vec-6.ensures.items_if_clones_equal (λ y h. search rules) in
    let trees : c.loop.trees.items ≡ replicate c.args.files [] = grind (arith, common_steps) in
    let noted : all_noted c.in_ok-vec-3.field-0.items ≡ replicate n None = ap all_noted looks ∙ noted-none n in
    let parts : Parts = record { guest = c.args.guest; tree = None; moves = None; pins = c.in_ok-vec.field-0.items; logs = c.loop.trees.items; pinned = c.in_ok-vec-2.field-0.items; looks = all_noted c.in_ok-vec-3.field-0.items; targets = c.in_ok-vec-4.field-0.items; targeted = 0; sweeps = 0; rounds = 0; owners = c.in_ok-vec-5.field-0.items; maps = c.in_ok-vec-6.field-0.items } in
    let same : parts ≡ new_parts n c.args.files c.args.guest = λ i. record parts { pins = pins i; logs = trees i; pinned = pinned i; looks = noted i; targets = targets i; owners = owners i; maps = maps i } in
    ap plain_view same ∙ ap (λ t. record (new_ranges n c.args.files c.args.guest) { table = t }) (table-new n)
