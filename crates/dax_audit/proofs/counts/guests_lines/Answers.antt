use Rattle.std.proofs.Common.{ap, length, arith}
use Rattle.std.proofs.lemmas.List.{drop_all}
use Rattle.dax_audit.specs.Items.{parts_from, guest_items}
use Rattle.dax_audit.proofs.Places.{parts_length, guest_length}
use Rattle.dax_audit.proofs.counts.guests_lines.Goals as goal

pub loop-part-preserved : goal.loop-part-preserved
loop-part-preserved c =
    let i = c.loop-part.part-index in
    let part = c.part-item.result in
    (omega (arith, c.loop-part.invariant.0, parts_length guest_items i c.args.guests.now part c.loop-part-test.true c.part-item.is, guest_length i part), omega arith)

pub returns : goal.returns
returns c =
    let i = c.loop-part.part-index in
    let none = ap (λ ps. length (parts_from guest_items i ps)) (drop_all i c.args.guests.now (omega arith)) in
    omega (arith, c.loop-part.invariant.0, c.loop-part.invariant.1, none)
