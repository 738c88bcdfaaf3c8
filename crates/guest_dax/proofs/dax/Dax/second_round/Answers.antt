use Rattle.guest_dax.specs.Stands.{stand}
use Rattle.guest_dax.proofs.Walking.{Walks-both}
use Rattle.guest_dax.proofs.Rounds.{second-part}
use Rattle.guest_dax.proofs.dax.Dax.second_round.Goals as goal

pub returns-clause-walks : goal.returns-clause-walks
returns-clause-walks g c = Walks-both _ _ _ c.walk.ensures.walks c.walk-2.ensures.walks

pub returns-clause-round : goal.returns-clause-round
returns-clause-round g c =
    let s = stand (g.W.Wire.wire c.args.self.now.driver.wire) (g.F.FileBoard.board c.args.self.now.files) (g.R.MapBoard.map c.args.self.now.ranges) in
    let t = stand (g.W.Wire.wire c.walk.new.self.driver.wire) (g.F.FileBoard.board c.walk.new.self.files) (g.R.MapBoard.map c.walk.new.self.ranges) in
    let u = stand (g.W.Wire.wire c.walk-2.new.self.driver.wire) (g.F.FileBoard.board c.walk-2.new.self.files) (g.R.MapBoard.map c.walk-2.new.self.ranges) in
    second-part s t u c.min-start.result c.walk-2.result c.walk.ensures.walks (rw (c.if-branch.false, c.ranges-count.ensures.count) at c.in_ok-walk.ensures.goes) c.walk-2.ensures.goes

pub returns-clause-removed : goal.returns-clause-removed
returns-clause-removed g c = rw (c.in_ok-walk.ensures.quiet c.if-branch.false) at c.walk-2.ensures.removed
