use Rattle.guest_dax.specs.Stands.{stand}
use Rattle.guest_dax.proofs.Walking.{Walks-both}
use Rattle.guest_dax.proofs.FreeingLaws.{free-part}
use Rattle.guest_dax.proofs.Removing.{freed-by-later-if}
use Rattle.guest_dax.proofs.dax.Dax.free_round.Goals as goal

pub returns-clause-walks : goal.returns-clause-walks
returns-clause-walks g c = Walks-both _ _ _ c.free_walk.ensures.walks c.free_walk-2.ensures.walks

pub returns-clause-round : goal.returns-clause-round
returns-clause-round g c =
    let s = stand (g.W.Wire.wire c.args.self.now.driver.wire) (g.F.FileBoard.board c.args.self.now.files) (g.R.MapBoard.map c.args.self.now.ranges) in
    let t = stand (g.W.Wire.wire c.free_walk.new.self.driver.wire) (g.F.FileBoard.board c.free_walk.new.self.files) (g.R.MapBoard.map c.free_walk.new.self.ranges) in
    let u = stand (g.W.Wire.wire c.free_walk-2.new.self.driver.wire) (g.F.FileBoard.board c.free_walk-2.new.self.files) (g.R.MapBoard.map c.free_walk-2.new.self.ranges) in
    free-part s t u c.min-start.result c.free_walk-2.result c.free_walk.ensures.walks (rw (c.if-branch.false, c.ranges-count.ensures.count) at c.in_ok-free_walk.ensures.frees) c.free_walk-2.ensures.frees

pub returns-clause-removed : goal.returns-clause-removed
returns-clause-removed g c =
    let s = stand (g.W.Wire.wire c.args.self.now.driver.wire) (g.F.FileBoard.board c.args.self.now.files) (g.R.MapBoard.map c.args.self.now.ranges) in
    let t = stand (g.W.Wire.wire c.free_walk.new.self.driver.wire) (g.F.FileBoard.board c.free_walk.new.self.files) (g.R.MapBoard.map c.free_walk.new.self.ranges) in
    let u = stand (g.W.Wire.wire c.free_walk-2.new.self.driver.wire) (g.F.FileBoard.board c.free_walk-2.new.self.files) (g.R.MapBoard.map c.free_walk-2.new.self.ranges) in
    freed-by-later-if g.W.Wire.wire g.W.Wire.gives c.args.self.now.driver.wire c.args.self.now.driver.unique _ _ s.map t.map u.map c.free_walk-2.result c.free_walk.ensures.walks.keeps.map.files c.free_walk.ensures.walks.keeps.map.logs (rw (c.in_ok-free_walk.ensures.quiet c.if-branch.false) at c.free_walk-2.ensures.removed)

pub returns-then-branch-clause-removed : goal.returns-then-branch-clause-removed
returns-then-branch-clause-removed g c freed = c.in_ok-free_walk.ensures.removed c.if-branch.true
