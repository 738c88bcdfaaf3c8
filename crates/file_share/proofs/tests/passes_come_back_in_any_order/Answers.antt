use Rattle.std.proofs.Common.{◌≢◌, ◌<◌, ℕ, sym, ap, ◌∙◌, subst, refl, arith}
use Rattle.file_share.specs.Known.{Known, IsIdle, past_seen}
use Rattle.file_share.proofs.TestTurns.{child_idle, first_idle, one_pushed, parent_idle}
use Rattle.file_share.proofs.TestLeases.{first_outs, join_outs, joined_idle, split_outs}
use Rattle.file_share.proofs.tests.passes_come_back_in_any_order.Goals as goal

pub write_all-d-requires-clause-idle : goal.write_all-d-requires-clause-idle
write_all-d-requires-clause-idle g c = subst (λ (k : Known). IsIdle k.view) (sym c.split-d.ensures.given) (child_idle c.join-2.new.pass 3)

pub join-requires-3-clause-free : goal.join-requires-3-clause-free
join-requires-3-clause-free g c =
    let start : IsIdle c.in_ok-table.first.view = subst (λ (k : Known). IsIdle k.view) (sym c.in_ok-table.ensures.first) (first_idle c.in_ok-table.table c.push.new.self 0) in
    let ax = parent_idle c.in_ok-table.first c.split-a.new.pass 0 c.split-a.ensures.kept start in
    let bx = parent_idle c.split-a.new.pass c.split-b.new.pass 1 c.split-b.ensures.kept ax in
    let cx = parent_idle c.split-b.new.pass c.split-c.new.pass 2 c.split-c.ensures.kept bx in
    let dx = joined_idle c.split-c.new.pass c.write_all-c.result.0 c.join.new.pass c.join.ensures cx in
    let ex = joined_idle c.join.new.pass c.write_all-a.result.0 c.join-2.new.pass c.join-2.ensures dx in
    let fx = parent_idle c.join-2.new.pass c.split-d.new.pass 3 c.split-d.ensures.kept ex in
    (λ f. (fx f).0, c.write_all-d.ensures.idle)

pub join-requires-4-clause-free : goal.join-requires-4-clause-free
join-requires-4-clause-free g c =
    let start : IsIdle c.in_ok-table.first.view = subst (λ (k : Known). IsIdle k.view) (sym c.in_ok-table.ensures.first) (first_idle c.in_ok-table.table c.push.new.self 0) in
    let ax = parent_idle c.in_ok-table.first c.split-a.new.pass 0 c.split-a.ensures.kept start in
    let bx = parent_idle c.split-a.new.pass c.split-b.new.pass 1 c.split-b.ensures.kept ax in
    let cx = parent_idle c.split-b.new.pass c.split-c.new.pass 2 c.split-c.ensures.kept bx in
    let dx = joined_idle c.split-c.new.pass c.write_all-c.result.0 c.join.new.pass c.join.ensures cx in
    let ex = joined_idle c.join.new.pass c.write_all-a.result.0 c.join-2.new.pass c.join-2.ensures dx in
    let fx = parent_idle c.join-2.new.pass c.split-d.new.pass 3 c.split-d.ensures.kept ex in
    let gx = joined_idle c.split-d.new.pass c.write_all-d.result.0 c.join-3.new.pass c.join-3.ensures fx in
    (λ f. (gx f).0, c.write_all-b.ensures.idle)

pub close-closed-requires-clause-free : goal.close-closed-requires-clause-free
close-closed-requires-clause-free g c =
    let start : IsIdle c.in_ok-table.first.view = subst (λ (k : Known). IsIdle k.view) (sym c.in_ok-table.ensures.first) (first_idle c.in_ok-table.table c.push.new.self 0) in
    let ax = parent_idle c.in_ok-table.first c.split-a.new.pass 0 c.split-a.ensures.kept start in
    let bx = parent_idle c.split-a.new.pass c.split-b.new.pass 1 c.split-b.ensures.kept ax in
    let cx = parent_idle c.split-b.new.pass c.split-c.new.pass 2 c.split-c.ensures.kept bx in
    let dx = joined_idle c.split-c.new.pass c.write_all-c.result.0 c.join.new.pass c.join.ensures cx in
    let ex = joined_idle c.join.new.pass c.write_all-a.result.0 c.join-2.new.pass c.join-2.ensures dx in
    let fx = parent_idle c.join-2.new.pass c.split-d.new.pass 3 c.split-d.ensures.kept ex in
    let gx = joined_idle c.split-d.new.pass c.write_all-d.result.0 c.join-3.new.pass c.join-3.ensures fx in
    joined_idle c.join-3.new.pass c.write_all-b.result.0 c.join-4.new.pass c.join-4.ensures gx

pub close-closed-requires-clause-guest : goal.close-closed-requires-clause-guest
close-closed-requires-clause-guest g c =
    let of = λ (k : Known). k.view.guest in
    let None = λ (k : ℕ). ⊥ in
    let First = λ (k : ℕ). k ≢ 0 → ⊥ in
    let Two = λ (k : ℕ). k ≢ 0 → k ≢ 1 → ⊥ in
    let Three = λ (k : ℕ). k ≢ 0 → k ≢ 1 → k ≢ 2 → ⊥ in
    let Second = λ (k : ℕ). k ≢ 1 → ⊥ in
    let Last = λ (k : ℕ). k ≢ 1 → k ≢ 3 → ⊥ in
    let start = first_outs c.in_ok-table.table c.push.new.self 0 c.in_ok-table.first c.in_ok-table.ensures.first in
    let ax = split_outs None First c.in_ok-table.first c.split-a.new.pass 0 c.split-a.ensures.kept (λ x. x refl) (λ k no_one. absurd no_one) start in
    let bx = split_outs First Two c.split-a.new.pass c.split-b.new.pass 1 c.split-b.ensures.kept (λ x y. y refl) (λ k z x y. z x) ax in
    let cx = split_outs Two Three c.split-b.new.pass c.split-c.new.pass 2 c.split-c.ensures.kept (λ x y w. w refl) (λ k z x y w. z x y) bx in
    let dx = join_outs Three Two c.split-c.new.pass c.write_all-c.result.0 c.join.new.pass 2 c.join.ensures (c.write_all-c.ensures.guest ∙ ap of c.split-c.ensures.given) (λ k w z x y. z x y w) cx in
    let ex = join_outs Two Second c.join.new.pass c.write_all-a.result.0 c.join-2.new.pass 0 c.join-2.ensures (c.write_all-a.ensures.guest ∙ ap of c.split-a.ensures.given) (λ k x z y. z x y) dx in
    let fx = split_outs Second Last c.join-2.new.pass c.split-d.new.pass 3 c.split-d.ensures.kept (λ x y. y refl) (λ k z x y. z x) ex in
    let gx = join_outs Last Second c.split-d.new.pass c.write_all-d.result.0 c.join-3.new.pass 3 c.join-3.ensures (c.write_all-d.ensures.guest ∙ ap of c.split-d.ensures.given) (λ k y z x. z x y) fx in
    let hx = join_outs Second None c.join-3.new.pass c.write_all-b.result.0 c.join-4.new.pass 1 c.join-4.ensures (c.write_all-b.ensures.guest ∙ ap of c.split-b.ensures.given) (λ k x z. z x) gx in
    (ap of c.join-4.ensures.is ∙ (ap of c.join-3.ensures.is ∙ (ap of c.split-d.ensures.kept ∙ (ap of c.join-2.ensures.is ∙ (ap of c.join.ensures.is ∙ (ap of c.split-c.ensures.kept ∙ (ap of c.split-b.ensures.kept ∙ (ap of c.split-a.ensures.kept ∙ ap of c.in_ok-table.ensures.first))))))), hx)

pub body-requires : goal.body-requires
body-requires g c =
    let count = c.in_ok-table.ensures.count ∙ one_pushed (record { size = 1; fill = 7 }) c.new-firsts.result c.push.new.self c.new-firsts.ensures c.in_ok-push.ensures.ok in
    record { there = (past_seen c.join-4.new.pass.view 0, c.close-closed.ensures.seen 0 (subst (λ (n : ℕ). 0 < n) (sym count) (omega arith))) }
