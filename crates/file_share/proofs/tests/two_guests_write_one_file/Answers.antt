use Rattle.std.proofs.Common.{◌<◌, ℕ, sym, ap, ◌∙◌, subst, arith}
use lib.ListN.{get_elem?}
use Rattle.file_share.specs.Known.{Known, IsIdle, past_seen}
use Rattle.file_share.proofs.Rereading.{reread_idle, reread_in}
use Rattle.file_share.proofs.TestTurns.{all_in_again, first_idle, first_none, one_pushed, parent_idle}
use Rattle.file_share.proofs.TestLeases.{joined_idle}
use Rattle.file_share.proofs.tests.two_guests_write_one_file.Goals as goal

pub marks-requires-clause-all_in : goal.marks-requires-clause-all_in
marks-requires-clause-all_in g c =
    let start = c.in_ok-table.ensures.first in
    let back = c.write_both-a.ensures in
    all_in_again c.in_ok-table.first c.split-one.new.pass c.split-other.new.pass c.join.new.pass c.join-2.new.pass c.write_both-a.result.0.0 c.write_both-a.result.1.0 0 1
    (ap (λ (k : Known). k.view.guest) start) (λ k is. first_none k (sym (ap (λ (z : Known). get_elem? z.view.numbers k) start) ∙ is))
    c.split-one.ensures.kept c.split-other.ensures.kept c.join.ensures c.join-2.ensures
    (back.0.guest ∙ ap (λ (k : Known). k.view.guest) c.split-one.ensures.given) (back.1.guest ∙ ap (λ (k : Known). k.view.guest) c.split-other.ensures.given)

pub close-closed-requires-clause-free : goal.close-closed-requires-clause-free
close-closed-requires-clause-free g c =
    let start : IsIdle c.in_ok-table.first.view = subst (λ (k : Known). IsIdle k.view) (sym c.in_ok-table.ensures.first) (first_idle c.in_ok-table.table c.push.new.self 0) in
    let one = parent_idle c.in_ok-table.first c.split-one.new.pass 0 c.split-one.ensures.kept start in
    let other = parent_idle c.split-one.new.pass c.split-other.new.pass 1 c.split-other.ensures.kept one in
    let in_ = joined_idle c.split-other.new.pass c.write_both-a.result.1.0 c.join.new.pass c.join.ensures other in
    reread_idle c.join-2.new.pass c.marks.new.pass c.in_ok-read.ensures.kept (joined_idle c.join.new.pass c.write_both-a.result.0.0 c.join-2.new.pass c.join-2.ensures in_)

pub close-closed-requires-clause-guest : goal.close-closed-requires-clause-guest
close-closed-requires-clause-guest g c =
    let start = c.in_ok-table.ensures.first in
    let back = c.write_both-a.ensures in
    reread_in c.join-2.new.pass c.marks.new.pass c.in_ok-read.ensures.kept
    (all_in_again c.in_ok-table.first c.split-one.new.pass c.split-other.new.pass c.join.new.pass c.join-2.new.pass c.write_both-a.result.0.0 c.write_both-a.result.1.0 0 1
    (ap (λ (k : Known). k.view.guest) start) (λ k is. first_none k (sym (ap (λ (z : Known). get_elem? z.view.numbers k) start) ∙ is))
    c.split-one.ensures.kept c.split-other.ensures.kept c.join.ensures c.join-2.ensures
    (back.0.guest ∙ ap (λ (k : Known). k.view.guest) c.split-one.ensures.given) (back.1.guest ∙ ap (λ (k : Known). k.view.guest) c.split-other.ensures.given))

pub body-body-requires : goal.body-body-requires
body-body-requires g c =
    let count = c.in_ok-table.ensures.count ∙ one_pushed (record { size = 1; fill = 7 }) c.new-firsts.result c.push.new.self c.new-firsts.ensures c.in_ok-push.ensures.ok in
    record { there = (past_seen c.marks.new.pass.view 0, c.close-closed.ensures.seen 0 (subst (λ (n : ℕ). 0 < n) (sym count) (omega arith))) }
