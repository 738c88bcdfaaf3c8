use Rattle.std.proofs.Common.{◌∙◌, refl, arith}
use Rattle.guest_dax.specs.Stands.{stand}
use Rattle.guest_dax.proofs.Walking.{Walks-same, Walks-both}
use Rattle.guest_dax.proofs.FreeingLaws.{free-on, free-done}
use Rattle.guest_dax.proofs.Removing.{freed-by-later}
use Rattle.guest_dax.proofs.dax.Dax.free_walk.Goals as goal

pub loop-range-init : goal.loop-range-init
loop-range-init g c = (Walks-same _, refl, λ r out. refl, λ r low high. absurd (omega arith), refl, refl)

pub returns-in_err-free_at-clause-walks : goal.returns-in_err-free_at-clause-walks
returns-in_err-free_at-clause-walks g c = Walks-both _ _ _ c.loop-range.invariant.0 c.free_at.ensures.walks

pub returns-then-branch-clause-walks : goal.returns-then-branch-clause-walks
returns-then-branch-clause-walks g c = Walks-both _ _ _ c.loop-range.invariant.0 c.free_at.ensures.walks

pub returns-then-branch-clause-frees : goal.returns-then-branch-clause-frees
returns-then-branch-clause-frees g c =
    let s = stand (g.W.Wire.wire c.args.self.now.driver.wire) (g.F.FileBoard.board c.args.self.now.files) (g.R.MapBoard.map c.args.self.now.ranges) in
    let t = stand (g.W.Wire.wire c.loop-range.self.driver.wire) (g.F.FileBoard.board c.loop-range.self.files) (g.R.MapBoard.map c.loop-range.self.ranges) in
    let u = stand (g.W.Wire.wire c.free_at.new.self.driver.wire) (g.F.FileBoard.board c.free_at.new.self.files) (g.R.MapBoard.map c.free_at.new.self.ranges) in
    let (w, hands, others, before, refs, driver) = c.loop-range.invariant in
    free-done s t u c.args.from c.loop-range.range c.args.to (omega (arith, c.loop-range-test.true, c.requires.to)) w hands c.free_at.ensures.walks (rw c.if-branch.true at c.in_ok-free_at.ensures.frees)

pub loop-range-preserved : goal.loop-range-preserved
loop-range-preserved g c =
    let s = stand (g.W.Wire.wire c.args.self.now.driver.wire) (g.F.FileBoard.board c.args.self.now.files) (g.R.MapBoard.map c.args.self.now.ranges) in
    let t = stand (g.W.Wire.wire c.loop-range.self.driver.wire) (g.F.FileBoard.board c.loop-range.self.files) (g.R.MapBoard.map c.loop-range.self.ranges) in
    let u = stand (g.W.Wire.wire c.free_at.new.self.driver.wire) (g.F.FileBoard.board c.free_at.new.self.files) (g.R.MapBoard.map c.free_at.new.self.ranges) in
    let (w, hands, others, before, refs, driver) = c.loop-range.invariant in
    let on = free-on s t u c.args.from c.loop-range.range c.loop-range.auto.range w.keeps.map hands others before (rw c.if-branch.false at c.in_ok-free_at.ensures.frees) in
    (Walks-both s t u w c.free_at.ensures.walks, on.0, on.1, on.2, c.free_at.ensures.refs ∙ refs, c.in_ok-free_at.ensures.quiet c.if-branch.false ∙ driver)

pub returns-then-branch-clause-removed : goal.returns-then-branch-clause-removed
returns-then-branch-clause-removed g c freed =
    let s = stand (g.W.Wire.wire c.args.self.now.driver.wire) (g.F.FileBoard.board c.args.self.now.files) (g.R.MapBoard.map c.args.self.now.ranges) in
    let t = stand (g.W.Wire.wire c.loop-range.self.driver.wire) (g.F.FileBoard.board c.loop-range.self.files) (g.R.MapBoard.map c.loop-range.self.ranges) in
    let u = stand (g.W.Wire.wire c.free_at.new.self.driver.wire) (g.F.FileBoard.board c.free_at.new.self.files) (g.R.MapBoard.map c.free_at.new.self.ranges) in
    let (w, hands, others, before, refs, driver) = c.loop-range.invariant in
    freed-by-later g.W.Wire.wire g.W.Wire.gives c.args.self.now.driver.wire c.args.self.now.driver.unique _ _ s.map t.map u.map w.keeps.map.files w.keeps.map.logs (rw driver at c.in_ok-free_at.ensures.removed c.if-branch.true)
