use Rattle.std.proofs.Common.{◌∙◌}
use Rattle.guest_dax.specs.Stands.{stand}
use Rattle.guest_io.proofs.HoldLaws.{LeavesRest-both}
use Rattle.guest_run.proofs.Turning.{risen}
use Rattle.guest_run.proofs.backgrounds.background.Goals as goal

pub returns-in_err-turn-clause-rest : goal.returns-in_err-turn-clause-rest
returns-in_err-turn-clause-rest g c = LeavesRest-both _ _ _ c.loop-time.invariant.rest c.turn.ensures.rest

pub loop-time-preserved : goal.loop-time-preserved
loop-time-preserved g c =
    let inv = c.loop-time.invariant in
    let e = c.turn.ensures in
    let s = stand (g.W.Wire.wire c.args.guest.now.dax.driver.wire) (g.F.FileBoard.board c.args.guest.now.dax.files) (g.R.MapBoard.map c.args.guest.now.dax.ranges) in
    let t = stand (g.W.Wire.wire c.loop-time.guest.dax.driver.wire) (g.F.FileBoard.board c.loop-time.guest.dax.files) (g.R.MapBoard.map c.loop-time.guest.dax.ranges) in
    let u = stand (g.W.Wire.wire c.turn.new.guest.dax.driver.wire) (g.F.FileBoard.board c.turn.new.guest.dax.files) (g.R.MapBoard.map c.turn.new.guest.dax.ranges) in
    record {
      idle = e.idle;
      rest = LeavesRest-both s t u inv.rest e.rest;
      files = e.files ∙ inv.files;
      sweeps = risen 18446744073709551615 (g.R.MapBoard.map c.args.guest.now.dax.ranges).ranges.sweeps c.loop-time._time (g.R.MapBoard.map c.loop-time.guest.dax.ranges).ranges.sweeps (g.R.MapBoard.map c.turn.new.guest.dax.ranges).ranges.sweeps inv.sweeps e.sweeps;
      refs = e.refs ∙ inv.refs;
    }
