use Rattle.std.proofs.Common.{subst, refl}
use Rattle.guest_dax.specs.declared.attempts.Attempt.{Attempt}
use Rattle.guest_dax.specs.declared.attempts.Attempt.TheVariants as attempts
use Rattle.guest_dax.specs.Stands.{stand}
use Rattle.guest_dax.specs.Reclaims.{Attempted}
use Rattle.guest_dax.proofs.Walking.{Walks-same, Walks-both, Walks-searches, Walks-free}
use Rattle.guest_dax.proofs.FreeingLaws.{Before, at-removed, took-hands, took-others, again-hands, again-others}
use Rattle.std.proofs.Common.{◌∙◌, ap, arith}
use Rattle.page_map.specs.Board.{MapView}
use Rattle.guest_dax.proofs.Removing.{freed-by, EndsRemoved-after, EndsRemoved-kept}
use Rattle.guest_dax.proofs.dax.Dax.free_at.Goals as goal

pub loop-init : goal.loop-init
loop-init g c = (Walks-same _, refl, λ r out. refl, refl, refl)

pub returns-in-None-try_mapped-clause-walks : goal.returns-in-None-try_mapped-clause-walks
returns-in-None-try_mapped-clause-walks g c =
    let s = stand (g.W.Wire.wire c.args.self.now.driver.wire) (g.F.FileBoard.board c.args.self.now.files) (g.R.MapBoard.map c.args.self.now.ranges) in
    let t = stand (g.W.Wire.wire c.loop.self.driver.wire) (g.F.FileBoard.board c.loop.self.files) (g.R.MapBoard.map c.loop.self.ranges) in
    Walks-both s t _ c.loop.invariant.0 (Walks-searches t c.args.range _ (c.in-None-try_mapped.ensures {u = tt}).0)

pub returns-in-Some-Blocked-clause-walks : goal.returns-in-Some-Blocked-clause-walks
returns-in-Some-Blocked-clause-walks g c =
    let s = stand (g.W.Wire.wire c.args.self.now.driver.wire) (g.F.FileBoard.board c.args.self.now.files) (g.R.MapBoard.map c.args.self.now.ranges) in
    let t = stand (g.W.Wire.wire c.loop.self.driver.wire) (g.F.FileBoard.board c.loop.self.files) (g.R.MapBoard.map c.loop.self.ranges) in
    Walks-both s t _ c.loop.invariant.0 (Walks-searches t c.args.range _ (c.in-Some-Blocked.ensures {u = tt}).0)

pub loop-preserved-in-Some-Took : goal.loop-preserved-in-Some-Took
loop-preserved-in-Some-Took g c =
    let s = stand (g.W.Wire.wire c.args.self.now.driver.wire) (g.F.FileBoard.board c.args.self.now.files) (g.R.MapBoard.map c.args.self.now.ranges) in
    let t = stand (g.W.Wire.wire c.loop.self.driver.wire) (g.F.FileBoard.board c.loop.self.files) (g.R.MapBoard.map c.loop.self.ranges) in
    let u = stand (g.W.Wire.wire c.loop.self.driver.wire) (g.F.FileBoard.board c.loop.self.files) (g.R.MapBoard.map c.try_mapped.new.ranges) in
    let (w, hands, others, refs, driver) = c.loop.invariant in
    let b : Before s t c.args.range = record { walks = w; hands = hands; others = others } in
    let a : Attempted t.map c.args.range (attempts.Took) u.map = subst (λ (x : Attempt). Attempted t.map c.args.range x u.map) c.in-Some-Took.field-0-is (c.in-Some-Took.ensures {u = tt}) in (
      Walks-both s u _ (Walks-both s t u w (Walks-searches t c.args.range u.map a.0)) (Walks-free u _ c.settle_free.ensures),
      took-hands s t c.args.range u.map _ b c.requires.moves a c.settle_free.ensures,
      took-others s t c.args.range u.map _ b a.0 c.settle_free.ensures,
      refs,
      driver,
    )

pub returns-in_err-unmap-in-Some-Removed-clause-walks : goal.returns-in_err-unmap-in-Some-Removed-clause-walks
returns-in_err-unmap-in-Some-Removed-clause-walks g c =
    let s = stand (g.W.Wire.wire c.args.self.now.driver.wire) (g.F.FileBoard.board c.args.self.now.files) (g.R.MapBoard.map c.args.self.now.ranges) in
    let t = stand (g.W.Wire.wire c.loop.self.driver.wire) (g.F.FileBoard.board c.loop.self.files) (g.R.MapBoard.map c.loop.self.ranges) in
    let u = stand (g.W.Wire.wire c.loop.self.driver.wire) (g.F.FileBoard.board c.loop.self.files) (g.R.MapBoard.map c.try_mapped.new.ranges) in
    Walks-both s t _ c.loop.invariant.0 (Walks-both t u _ (Walks-searches t c.args.range _ (c.in-Some-Removed.ensures {u = tt}).0) c.unmap.ensures.walks)

pub returns-in-Some-Removed-clause-walks : goal.returns-in-Some-Removed-clause-walks
returns-in-Some-Removed-clause-walks g c =
    let s = stand (g.W.Wire.wire c.args.self.now.driver.wire) (g.F.FileBoard.board c.args.self.now.files) (g.R.MapBoard.map c.args.self.now.ranges) in
    let t = stand (g.W.Wire.wire c.loop.self.driver.wire) (g.F.FileBoard.board c.loop.self.files) (g.R.MapBoard.map c.loop.self.ranges) in
    let u = stand (g.W.Wire.wire c.loop.self.driver.wire) (g.F.FileBoard.board c.loop.self.files) (g.R.MapBoard.map c.try_mapped.new.ranges) in
    let x = stand (g.W.Wire.wire c.unmap.new.self.driver.wire) (g.F.FileBoard.board c.unmap.new.self.files) (g.R.MapBoard.map c.unmap.new.self.ranges) in
    Walks-both s x _ (Walks-both s t x c.loop.invariant.0 (Walks-both t u x (Walks-searches t c.args.range _ (c.in-Some-Removed.ensures {u = tt}).0) c.unmap.ensures.walks)) (Walks-free x _ c.settle_free-in-Some-Removed.ensures)

pub returns-in-Some-Removed-clause-frees : goal.returns-in-Some-Removed-clause-frees
returns-in-Some-Removed-clause-frees g c =
    let s = stand (g.W.Wire.wire c.args.self.now.driver.wire) (g.F.FileBoard.board c.args.self.now.files) (g.R.MapBoard.map c.args.self.now.ranges) in
    let t = stand (g.W.Wire.wire c.loop.self.driver.wire) (g.F.FileBoard.board c.loop.self.files) (g.R.MapBoard.map c.loop.self.ranges) in
    let u = stand (g.W.Wire.wire c.loop.self.driver.wire) (g.F.FileBoard.board c.loop.self.files) (g.R.MapBoard.map c.try_mapped.new.ranges) in
    let x = stand (g.W.Wire.wire c.unmap.new.self.driver.wire) (g.F.FileBoard.board c.unmap.new.self.files) (g.R.MapBoard.map c.unmap.new.self.ranges) in
    let y = stand (g.W.Wire.wire c.unmap.new.self.driver.wire) (g.F.FileBoard.board c.unmap.new.self.files) (g.R.MapBoard.map c.settle_free-in-Some-Removed.new.self) in
    let (w, hands, others, refs, driver) = c.loop.invariant in
    let b : Before s t c.args.range = record { walks = w; hands = hands; others = others } in
    let a : Attempted t.map c.args.range (attempts.Removed c.in-Some-Removed.file) u.map = subst (λ (x : Attempt). Attempted t.map c.args.range x u.map) c.in-Some-Removed.field-0-is (c.in-Some-Removed.ensures {u = tt}) in
    at-removed s t u x y c.args.range c.in-Some-Removed.file b c.requires.tree c.requires.moves a c.in_ok-unmap-in-Some-Removed.ensures.unmaps c.unmap.ensures.logs c.settle_free-in-Some-Removed.ensures

pub loop-preserved : goal.loop-preserved
loop-preserved g c =
    let s = stand (g.W.Wire.wire c.args.self.now.driver.wire) (g.F.FileBoard.board c.args.self.now.files) (g.R.MapBoard.map c.args.self.now.ranges) in
    let t = stand (g.W.Wire.wire c.loop.self.driver.wire) (g.F.FileBoard.board c.loop.self.files) (g.R.MapBoard.map c.loop.self.ranges) in
    let u = stand (g.W.Wire.wire c.loop.self.driver.wire) (g.F.FileBoard.board c.loop.self.files) (g.R.MapBoard.map c.try_mapped.new.ranges) in
    let (w, hands, others, refs, driver) = c.loop.invariant in
    let b : Before s t c.args.range = record { walks = w; hands = hands; others = others } in
    let a : Attempted t.map c.args.range (attempts.Again) u.map = subst (λ (x : Attempt). Attempted t.map c.args.range x u.map) c.in-Some-Again.field-0-is (c.in-Some-Again.ensures {u = tt}) in (
      Walks-both s t u w (Walks-searches t c.args.range u.map a.0),
      again-hands s t c.args.range u.map b a,
      again-others s t c.args.range u.map b a.0,
      refs,
      driver,
    )

pub returns-in-Some-Removed-clause-removed : goal.returns-in-Some-Removed-clause-removed
returns-in-Some-Removed-clause-removed g c freed =
    let s = stand (g.W.Wire.wire c.args.self.now.driver.wire) (g.F.FileBoard.board c.args.self.now.files) (g.R.MapBoard.map c.args.self.now.ranges) in
    let t = stand (g.W.Wire.wire c.loop.self.driver.wire) (g.F.FileBoard.board c.loop.self.files) (g.R.MapBoard.map c.loop.self.ranges) in
    let u = stand (g.W.Wire.wire c.loop.self.driver.wire) (g.F.FileBoard.board c.loop.self.files) (g.R.MapBoard.map c.try_mapped.new.ranges) in
    let y = stand (g.W.Wire.wire c.unmap.new.self.driver.wire) (g.F.FileBoard.board c.unmap.new.self.files) (g.R.MapBoard.map c.settle_free-in-Some-Removed.new.self) in
    let (w, hands, others, refs, driver) = c.loop.invariant in
    let a : Attempted t.map c.args.range (attempts.Removed c.in-Some-Removed.file) u.map = subst (λ (x : Attempt). Attempted t.map c.args.range x u.map) c.in-Some-Removed.field-0-is (c.in-Some-Removed.ensures {u = tt}) in
    let (searches, (taken, known, unpinned, seen, removed)) = a in
    let kept = ap (λ (m : MapView). m.ranges.logs) c.settle_free-in-Some-Removed.ensures.rest ∙ c.unmap.ensures.logs in
    freed-by g.W.Wire.wire g.W.Wire.gives c.args.self.now.driver.wire c.args.self.now.driver.unique _ _ s.map y.map c.in-Some-Removed.file c.args.range (omega (arith, known, w.keeps.map.files)) (EndsRemoved-kept s.map u.map y.map c.in-Some-Removed.file c.args.range kept (EndsRemoved-after s.map t.map u.map c.in-Some-Removed.file c.args.range (w.keeps.map.logs c.in-Some-Removed.file) removed)) (rw driver at c.in_ok-unmap-in-Some-Removed.ensures.removed)
