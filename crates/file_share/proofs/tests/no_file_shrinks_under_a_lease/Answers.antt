use Rattle.std.proofs.Common.{sym, ap, ◌∙◌}
use lib.ListN.{get_elem?}
use Rattle.file_share.specs.Known.{Known}
use Rattle.file_share.proofs.TestTurns.{all_in_again, first_none}
use Rattle.file_share.proofs.tests.no_file_shrinks_under_a_lease.Goals as goal

pub close-closed-requires-clause-guest : goal.close-closed-requires-clause-guest
close-closed-requires-clause-guest g c =
    let start = c.in_ok-table.ensures.first in
    all_in_again c.in_ok-table.first c.split-one.new.pass c.split-other.new.pass c.join.new.pass c.join-2.new.pass c.join-one.result.0 c.join-one.result.1.0 0 1
    (ap (λ (k : Known). k.view.guest) start) (λ k is. first_none k (sym (ap (λ (z : Known). get_elem? z.view.numbers k) start) ∙ is))
    c.split-one.ensures.kept c.split-other.ensures.kept c.join.ensures c.join-2.ensures
    (c.join-one.ensures.first.guest ∙ ap (λ (k : Known). k.view.guest) c.split-one.ensures.given) (c.join-one.ensures.second.guest ∙ ap (λ (k : Known). k.view.guest) c.split-other.ensures.given)
