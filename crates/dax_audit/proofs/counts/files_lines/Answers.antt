use Rattle.std.proofs.Common.{ap, length, arith}
use Rattle.std.proofs.lemmas.List.{drop_all}
use Rattle.dax_audit.specs.Items.{parts_from, file_items}
use Rattle.dax_audit.proofs.Places.{parts_length, file_length}
use Rattle.dax_audit.proofs.counts.files_lines.Goals as goal

pub loop-part-preserved : goal.loop-part-preserved
loop-part-preserved c =
    let i = c.loop-part.part-index in
    let part = c.part-item.result in
    (omega (arith, c.loop-part.invariant.0, parts_length file_items i c.args.files.now part c.loop-part-test.true c.part-item.is, file_length i part), omega arith)

pub returns : goal.returns
returns c =
    let i = c.loop-part.part-index in
    let none = ap (λ ps. length (parts_from file_items i ps)) (drop_all i c.args.files.now (omega arith)) in
    omega (arith, c.loop-part.invariant.0, c.loop-part.invariant.1, none)
