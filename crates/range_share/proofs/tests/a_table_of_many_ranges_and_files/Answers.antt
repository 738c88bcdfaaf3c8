use Rattle.std.proofs.Common.{◌<◌, ℕ, sym, ap, ◌∙◌, subst}
use Rattle.range_share.specs.Table.{IsIdle}
use Rattle.range_share.specs.Known.{Known}
use Rattle.range_share.proofs.TestTurns.{all_in_once, first_idle, joined_idle, parent_idle}
use Rattle.range_share.proofs.tests.a_table_of_many_ranges_and_files.Goals as goal

pub join-requires-clause-free : goal.join-requires-clause-free
join-requires-clause-free g c =
    let start = subst (λ (k : Known). IsIdle k.view.mine) (sym c.in_ok-table.ensures.first) (first_idle c.in_ok-table.table 256 16 1) in
    (parent_idle c.in_ok-table.first c.seated-guest.new.first 0 c.seated-guest.ensures.kept start, c.end-pass.ensures.idle)

pub close-closed-requires-clause-free : goal.close-closed-requires-clause-free
close-closed-requires-clause-free g c =
    let start = subst (λ (k : Known). IsIdle k.view.mine) (sym c.in_ok-table.ensures.first) (first_idle c.in_ok-table.table 256 16 1) in
    joined_idle c.seated-guest.new.first c.end-pass.result c.join.new.pass c.join.ensures (parent_idle c.in_ok-table.first c.seated-guest.new.first 0 c.seated-guest.ensures.kept start)

pub close-closed-requires-clause-guest : goal.close-closed-requires-clause-guest
close-closed-requires-clause-guest g c =
    all_in_once c.in_ok-table.table 256 16 1 c.in_ok-table.first c.seated-guest.new.first c.join.new.pass c.end-pass.result 0 c.in_ok-table.ensures.first c.seated-guest.ensures.kept c.join.ensures
    (ap (λ (k : Known). k.view.guest) c.end-pass.ensures.pass ∙ (c.loop-file.invariant.1 ∙ ap (λ (k : Known). k.view.guest) c.seated-guest.ensures.given))

pub tree-requires : goal.tree-requires
tree-requires g c =
    let near = c.loop-file-2-test.true in
    let seen = c.close-closed.ensures.seen c.loop-file-2.file (subst (λ (n : ℕ). c.loop-file-2.file < n) (sym c.in_ok-table.ensures.count) near) in
    record { there = (seen.0, seen.1) }
