use Rattle.std.proofs.Common.{◌<◌, ℕ, sym, ap, ◌∙◌, subst, arith}
use Rattle.range_share.specs.Table.{IsIdle}
use Rattle.range_share.specs.Known.{Known}
use Rattle.range_share.proofs.TestTurns.{all_in_again, first_idle, joined_idle, parent_idle}
use Rattle.range_share.proofs.tests.two_guests_take_two_ranges.Goals as goal

pub close-closed-requires-clause-free : goal.close-closed-requires-clause-free
close-closed-requires-clause-free g c =
    let start = subst (λ (k : Known). IsIdle k.view.mine) (sym c.in_ok-table.ensures.first) (first_idle c.in_ok-table.table 2 2 2) in
    let given = parent_idle c.seated-one.new.first c.seated-other.new.first 1 c.seated-other.ensures.kept (parent_idle c.in_ok-table.first c.seated-one.new.first 0 c.seated-one.ensures.kept start) in
    joined_idle c.join.new.pass c.end-one.result c.join-2.new.pass c.join-2.ensures (joined_idle c.seated-other.new.first c.end-other.result c.join.new.pass c.join.ensures given)

pub close-closed-requires-clause-guest : goal.close-closed-requires-clause-guest
close-closed-requires-clause-guest g c =
    all_in_again c.in_ok-table.table 2 2 2 c.in_ok-table.first c.seated-one.new.first c.seated-other.new.first c.join.new.pass c.join-2.new.pass c.end-one.result c.end-other.result 0 1
    c.in_ok-table.ensures.first c.seated-one.ensures.kept c.seated-other.ensures.kept c.join.ensures c.join-2.ensures
    (ap (λ (k : Known). k.view.guest) c.end-one.ensures.pass ∙ (c.both.ensures.one.1 ∙ ap (λ (k : Known). k.view.guest) c.seated-one.ensures.given))
    (ap (λ (k : Known). k.view.guest) c.end-other.ensures.pass ∙ (c.both.ensures.other.1 ∙ ap (λ (k : Known). k.view.guest) c.seated-other.ensures.given))

pub tree-requires-2 : goal.tree-requires-2
tree-requires-2 g c = let seen = c.close-closed.ensures.seen 1 (subst (λ (n : ℕ). 1 < n) (sym c.in_ok-table.ensures.count) (omega arith)) in record { there = (seen.0, seen.1) }
