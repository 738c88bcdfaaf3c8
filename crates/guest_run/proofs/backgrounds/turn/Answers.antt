use Rattle.guest_dax.specs.Stands.{stand}
use Rattle.guest_run.proofs.Turning.{IsIdle-turned}
use Rattle.guest_run.proofs.backgrounds.turn.Goals as goal

pub returns-clause-idle : goal.returns-clause-idle
returns-clause-idle g c =
    let s = stand (g.W.Wire.wire c.args.guest.now.dax.driver.wire) (g.F.FileBoard.board c.args.guest.now.dax.files) (g.R.MapBoard.map c.args.guest.now.dax.ranges) in
    let t = stand (g.W.Wire.wire c.background_turn.new.self.driver.wire) (g.F.FileBoard.board c.background_turn.new.self.files) (g.R.MapBoard.map c.background_turn.new.self.ranges) in
    let e = c.background_turn.ensures in
    rw e.refs (IsIdle-turned s t c.args.guest.now.dax.refs c.args.guest.now.holds c.background_turn.result e.keeps e.turns c.requires.idle)
