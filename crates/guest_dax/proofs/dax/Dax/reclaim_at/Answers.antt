use Rattle.std.proofs.Common.{◌∙◌, refl}
use Rattle.guest_dax.specs.Stands.{stand}
use Rattle.guest_dax.proofs.Walking.{Walks-same, Walks-both, Walks-searches}
use Rattle.guest_dax.proofs.Rounds.{OthersLooks-step}
use Rattle.std.proofs.Common.{ap, inl, inr}
use Rattle.page_map.specs.Board.{Hands}
use Rattle.guest_dax.proofs.Removing.{unmapped-moved}
use Rattle.guest_dax.proofs.dax.Dax.reclaim_at.Goals as goal

pub loop-init : goal.loop-init
loop-init g c = (Walks-same _, refl, λ r out. refl, refl, refl)

pub returns-in-Took-clause-walks : goal.returns-in-Took-clause-walks
returns-in-Took-clause-walks g c =
    let s = stand (g.W.Wire.wire c.args.self.now.driver.wire) (g.F.FileBoard.board c.args.self.now.files) (g.R.MapBoard.map c.args.self.now.ranges) in
    let t = stand (g.W.Wire.wire c.loop.self.driver.wire) (g.F.FileBoard.board c.loop.self.files) (g.R.MapBoard.map c.loop.self.ranges) in
    Walks-both s t _ c.loop.invariant.0 (Walks-searches t c.args.range _ c.try_range.ensures.0)

pub returns-in_err-unmap-in-Removed-clause-walks : goal.returns-in_err-unmap-in-Removed-clause-walks
returns-in_err-unmap-in-Removed-clause-walks g c =
    let s = stand (g.W.Wire.wire c.args.self.now.driver.wire) (g.F.FileBoard.board c.args.self.now.files) (g.R.MapBoard.map c.args.self.now.ranges) in
    let t = stand (g.W.Wire.wire c.loop.self.driver.wire) (g.F.FileBoard.board c.loop.self.files) (g.R.MapBoard.map c.loop.self.ranges) in
    let u = stand (g.W.Wire.wire c.loop.self.driver.wire) (g.F.FileBoard.board c.loop.self.files) (g.R.MapBoard.map c.try_range.new.ranges) in
    Walks-both s t _ c.loop.invariant.0 (Walks-both t u _ (Walks-searches t c.args.range _ c.try_range.ensures.0) c.unmap.ensures.walks)

pub returns-in-Removed-clause-walks : goal.returns-in-Removed-clause-walks
returns-in-Removed-clause-walks g c =
    let s = stand (g.W.Wire.wire c.args.self.now.driver.wire) (g.F.FileBoard.board c.args.self.now.files) (g.R.MapBoard.map c.args.self.now.ranges) in
    let t = stand (g.W.Wire.wire c.loop.self.driver.wire) (g.F.FileBoard.board c.loop.self.files) (g.R.MapBoard.map c.loop.self.ranges) in
    let u = stand (g.W.Wire.wire c.loop.self.driver.wire) (g.F.FileBoard.board c.loop.self.files) (g.R.MapBoard.map c.try_range.new.ranges) in
    Walks-both s t _ c.loop.invariant.0 (Walks-both t u _ (Walks-searches t c.args.range _ c.try_range.ensures.0) c.unmap.ensures.walks)

pub returns-in-Blocked-clause-walks : goal.returns-in-Blocked-clause-walks
returns-in-Blocked-clause-walks g c =
    let s = stand (g.W.Wire.wire c.args.self.now.driver.wire) (g.F.FileBoard.board c.args.self.now.files) (g.R.MapBoard.map c.args.self.now.ranges) in
    let t = stand (g.W.Wire.wire c.loop.self.driver.wire) (g.F.FileBoard.board c.loop.self.files) (g.R.MapBoard.map c.loop.self.ranges) in
    Walks-both s t _ c.loop.invariant.0 (Walks-searches t c.args.range _ c.try_range.ensures.0)

pub loop-preserved : goal.loop-preserved
loop-preserved g c =
    let s = stand (g.W.Wire.wire c.args.self.now.driver.wire) (g.F.FileBoard.board c.args.self.now.files) (g.R.MapBoard.map c.args.self.now.ranges) in
    let t = stand (g.W.Wire.wire c.loop.self.driver.wire) (g.F.FileBoard.board c.loop.self.files) (g.R.MapBoard.map c.loop.self.ranges) in
    let (w, hands, others, refs, driver) = c.loop.invariant in
    let (searches, (h, noted)) = c.in-Again.ensures {u = tt} in (
      Walks-both s t _ w (Walks-searches t c.args.range _ searches),
      h ∙ hands,
      OthersLooks-step s.map t.map c.args.range _ others searches,
      refs,
      driver,
    )

pub returns-in-Took-clause-removed : goal.returns-in-Took-clause-removed
returns-in-Took-clause-removed g c took =
    let (w, hands, others, refs, driver) = c.loop.invariant in
    inl (rw driver (refl, refl))

pub returns-in-Removed-clause-removed : goal.returns-in-Removed-clause-removed
returns-in-Removed-clause-removed g c took =
    let (w, hands, others, refs, driver) = c.loop.invariant in
    let (searches, (taken, known, unpinned, seen, removed)) = c.in-Removed.ensures {u = tt} in
    let (left, looks) = c.in_ok-unmap-in-Removed.ensures.unmaps in
    inr (unmapped-moved g.W.Wire.wire g.W.Wire.gives c.args.self.now.driver.wire c.args.self.now.driver.unique c.args.range c.unmap.new.self.driver.wire c.unmap.new.self.driver.unique (g.R.MapBoard.map c.unmap.new.self.ranges).hands (ap (λ (h : Hands). h.moves) left ∙ ap (λ (h : Hands). h.moves) taken) (rw driver at c.in_ok-unmap-in-Removed.ensures.removed))
