use Rattle.std.proofs.Common.{ap, ◌∙◌}
use Rattle.range_share.specs.Known.{Known}
use Rattle.range_share.proofs.TestTurns.{all_in_once}
use Rattle.range_share.proofs.tests.a_seat_is_a_board.Goals as goal

pub log_of-requires-clause-all_in : goal.log_of-requires-clause-all_in
log_of-requires-clause-all_in g c =
    all_in_once c.in_ok-table.table 3 1 1 c.in_ok-table.first c.seated-guest.new.first c.join.new.pass c.end-pass.result 0 c.in_ok-table.ensures.first c.seated-guest.ensures.kept c.join.ensures
    (ap (λ (k : Known). k.view.guest) c.end-pass.ensures.pass ∙ (c.play.ensures.1 ∙ ap (λ (k : Known). k.view.guest) c.seated-guest.ensures.given))
