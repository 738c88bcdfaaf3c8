use Rattle.std.proofs.Common.{ap, ◌∙◌}
use Rattle.guest_dax.specs.Stands.{stand}
use Rattle.guest_run.proofs.Telling.{honest_answer, IsIdle-after, IsHome-line, HasHolds-line, LeavesRest-line, NoLooks-line, Tells-line, printable_told}
use Rattle.guest_run.proofs.Tallies.{line_counts}
use Rattle.guest_run.proofs.workers.make_call.Goals as goal

pub line_of-requires-clause-honest : goal.line_of-requires-clause-honest
line_of-requires-clause-honest g c = honest_answer _ _ _ _ _ _ _ c.ask-answer.ensures.comes

pub returns-clause-rest : goal.returns-clause-rest
returns-clause-rest g c =
    let s = stand (g.W.Wire.wire c.args.guest.now.dax.driver.wire) (g.F.FileBoard.board c.args.guest.now.dax.files) (g.R.MapBoard.map c.args.guest.now.dax.ranges) in
    let t = stand (g.W.Wire.wire c.ask-answer.new.guest.dax.driver.wire) (g.F.FileBoard.board c.ask-answer.new.guest.dax.files) (g.R.MapBoard.map c.ask-answer.new.guest.dax.ranges) in
    let u = stand (g.W.Wire.wire c.line_of.new.guest.dax.driver.wire) (g.F.FileBoard.board c.line_of.new.guest.dax.files) (g.R.MapBoard.map c.line_of.new.guest.dax.ranges) in
    LeavesRest-line s t u _ _ c.ask-answer.ensures.rest c.line_of.ensures.line (ap (λ d. g.W.Wire.wire d.wire) c.line_of.ensures.driver) (ap g.F.FileBoard.board c.line_of.ensures.files)

pub returns-clause-idle : goal.returns-clause-idle
returns-clause-idle g c =
    let s = stand (g.W.Wire.wire c.args.guest.now.dax.driver.wire) (g.F.FileBoard.board c.args.guest.now.dax.files) (g.R.MapBoard.map c.args.guest.now.dax.ranges) in
    let t = stand (g.W.Wire.wire c.ask-answer.new.guest.dax.driver.wire) (g.F.FileBoard.board c.ask-answer.new.guest.dax.files) (g.R.MapBoard.map c.ask-answer.new.guest.dax.ranges) in
    let u = stand (g.W.Wire.wire c.line_of.new.guest.dax.driver.wire) (g.F.FileBoard.board c.line_of.new.guest.dax.files) (g.R.MapBoard.map c.line_of.new.guest.dax.ranges) in
    let wire = ap (λ d. g.W.Wire.wire d.wire) c.line_of.ensures.driver in
    let files = ap g.F.FileBoard.board c.line_of.ensures.files in
    let refs = c.line_of.ensures.refs ∙ c.ask-answer.ensures.refs in
    rw (refs, c.line_of.ensures.holds) (IsIdle-after s u c.args.guest.now.dax.refs c.args.guest.now.holds c.ask-answer.new.guest.holds
    (LeavesRest-line s t u _ _ c.ask-answer.ensures.rest c.line_of.ensures.line wire files)
    (IsHome-line t u c.args.guest.now.dax.refs _ _ c.line_of.ensures.line wire files (rw c.ask-answer.ensures.refs at c.ask-answer.ensures.home))
    (HasHolds-line t u c.ask-answer.new.guest.holds _ _ c.line_of.ensures.line wire files c.ask-answer.ensures.holds)
    (NoLooks-line s t u _ _ _ _ _ _ c.ask-answer.ensures.comes c.line_of.ensures.line)
    c.requires.idle)

pub returns-clause-tells : goal.returns-clause-tells
returns-clause-tells g c =
    let s = stand (g.W.Wire.wire c.args.guest.now.dax.driver.wire) (g.F.FileBoard.board c.args.guest.now.dax.files) (g.R.MapBoard.map c.args.guest.now.dax.ranges) in
    let t = stand (g.W.Wire.wire c.ask-answer.new.guest.dax.driver.wire) (g.F.FileBoard.board c.ask-answer.new.guest.dax.files) (g.R.MapBoard.map c.ask-answer.new.guest.dax.ranges) in
    let u = stand (g.W.Wire.wire c.line_of.new.guest.dax.driver.wire) (g.F.FileBoard.board c.line_of.new.guest.dax.files) (g.R.MapBoard.map c.line_of.new.guest.dax.ranges) in
    Tells-line s t u _ _ _ _ _ _ _ c.line_of.ensures.sound c.ask-answer.ensures.comes c.line_of.ensures.line (ap (λ d. g.W.Wire.wire d.wire) c.line_of.ensures.driver) (ap g.F.FileBoard.board c.line_of.ensures.files) c.line_of.ensures.holds

pub returns-clause-printable : goal.returns-clause-printable
returns-clause-printable g c =
    let s = stand (g.W.Wire.wire c.args.guest.now.dax.driver.wire) (g.F.FileBoard.board c.args.guest.now.dax.files) (g.R.MapBoard.map c.args.guest.now.dax.ranges) in
    let t = stand (g.W.Wire.wire c.ask-answer.new.guest.dax.driver.wire) (g.F.FileBoard.board c.ask-answer.new.guest.dax.files) (g.R.MapBoard.map c.ask-answer.new.guest.dax.ranges) in
    let u = stand (g.W.Wire.wire c.line_of.new.guest.dax.driver.wire) (g.F.FileBoard.board c.line_of.new.guest.dax.files) (g.R.MapBoard.map c.line_of.new.guest.dax.ranges) in
    printable_told s u c.args.guest.now.holds c.line_of.new.guest.holds _ _ _ (Tells-line s t u _ _ _ _ _ _ _ c.line_of.ensures.sound c.ask-answer.ensures.comes c.line_of.ensures.line (ap (λ d. g.W.Wire.wire d.wire) c.line_of.ensures.driver) (ap g.F.FileBoard.board c.line_of.ensures.files) c.line_of.ensures.holds) c.line_of.ensures.fields

pub returns-clause-counts : goal.returns-clause-counts
returns-clause-counts g c =
    let s = stand (g.W.Wire.wire c.args.guest.now.dax.driver.wire) (g.F.FileBoard.board c.args.guest.now.dax.files) (g.R.MapBoard.map c.args.guest.now.dax.ranges) in
    let t = stand (g.W.Wire.wire c.ask-answer.new.guest.dax.driver.wire) (g.F.FileBoard.board c.ask-answer.new.guest.dax.files) (g.R.MapBoard.map c.ask-answer.new.guest.dax.ranges) in
    let u = stand (g.W.Wire.wire c.line_of.new.guest.dax.driver.wire) (g.F.FileBoard.board c.line_of.new.guest.dax.files) (g.R.MapBoard.map c.line_of.new.guest.dax.ranges) in
    line_counts s t u _ _ _ c.line_of.ensures.sound c.ask-answer.ensures.counts c.line_of.ensures.line (ap g.F.FileBoard.board c.line_of.ensures.files)
