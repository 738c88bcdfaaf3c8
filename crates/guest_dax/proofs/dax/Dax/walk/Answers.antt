use Rattle.std.proofs.Common.{◌∙◌, refl, arith}
use Rattle.guest_dax.specs.Stands.{stand}
use Rattle.guest_dax.proofs.Walking.{Walks-same, Walks-both}
use Rattle.guest_dax.proofs.Rounds.{walk-on}
use Rattle.guest_dax.proofs.dax.Dax.walk.Goals as goal

pub loop-range-init : goal.loop-range-init
loop-range-init g c = (Walks-same _, refl, λ r out. refl, λ r low high. absurd (omega arith), refl, refl)

pub returns-in_err-reclaim_at-clause-walks : goal.returns-in_err-reclaim_at-clause-walks
returns-in_err-reclaim_at-clause-walks g c = Walks-both _ _ _ c.loop-range.invariant.0 c.reclaim_at.ensures.walks

pub returns-then-branch-clause-walks : goal.returns-then-branch-clause-walks
returns-then-branch-clause-walks g c = Walks-both _ _ _ c.loop-range.invariant.0 c.reclaim_at.ensures.walks

pub loop-range-preserved : goal.loop-range-preserved
loop-range-preserved g c =
    let s = stand (g.W.Wire.wire c.args.self.now.driver.wire) (g.F.FileBoard.board c.args.self.now.files) (g.R.MapBoard.map c.args.self.now.ranges) in
    let t = stand (g.W.Wire.wire c.loop-range.self.driver.wire) (g.F.FileBoard.board c.loop-range.self.files) (g.R.MapBoard.map c.loop-range.self.ranges) in
    let u = stand (g.W.Wire.wire c.reclaim_at.new.self.driver.wire) (g.F.FileBoard.board c.reclaim_at.new.self.files) (g.R.MapBoard.map c.reclaim_at.new.self.ranges) in
    let (w, hands, others, before, refs, driver) = c.loop-range.invariant in
    let on = walk-on s t u c.args.from c.loop-range.range c.loop-range.auto.range w.keeps.map hands others before (rw c.if-branch.false at c.in_ok-reclaim_at.ensures.comes) in
    (Walks-both s t u w c.reclaim_at.ensures.walks, on.0, on.1, on.2, c.reclaim_at.ensures.refs ∙ refs, c.in_ok-reclaim_at.ensures.quiet c.if-branch.false ∙ driver)

pub returns-then-branch-clause-removed : goal.returns-then-branch-clause-removed
returns-then-branch-clause-removed g c took =
    let (w, hands, others, before, refs, driver) = c.loop-range.invariant in
    rw driver at c.in_ok-reclaim_at.ensures.removed c.if-branch.true
