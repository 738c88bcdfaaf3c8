use Rattle.std.proofs.Common.{◌∙◌, ◌/◌, None}
use Rattle.window_core.specs.Window.{set_map}
use Rattle.range_share.specs.Steps.{Always}
use Rattle.range_share.proofs.Boarding.{stays, table_same, may_same}
use Rattle.range_share.proofs.BoardsMaps.{clears, clear_near, wipes, set_pins, acts_clear}
use Rattle.range_share.proofs.boards.SeatMapMapBoard.clear.Goals as goal

pub set_map-requires-clause-range : goal.set_map-requires-clause-range
set_map-requires-clause-range c = (clear_near c.args.self.now.pass c.args.moffset c.args._len c.sound.ensures.showing (clears c.args.self.now.pass c.args.moffset c.args._len c.requires.may)).0

pub set_map-requires-clause-to : goal.set_map-requires-clause-to
set_map-requires-clause-to c = (tt, tt, (clear_near c.args.self.now.pass c.args.moffset c.args._len c.sound.ensures.showing (clears c.args.self.now.pass c.args.moffset c.args._len c.requires.may)).1)

pub invariant_of-self : goal.invariant_of-self
invariant_of-self c =
    let p = c.args.self.now.pass in
    let q = c.set_map.new.self in
    let st = stays (set_map (c.args.moffset / 2097152) None) (c.args.self.now.pass.view.noted) Always p q c.set_map.ensures in
    record { own = table_same (c.args.self.now.pass.view.noted) p q st ∙ c.args.self.now.own; may = may_same (c.args.self.now.pass.view.noted) p q st c.args.self.now.may; pinned = set_pins p q (c.args.moffset / 2097152) None c.set_map.ensures c.args.self.now.pinned }

pub returns-clause-wiped : goal.returns-clause-wiped
returns-clause-wiped c = wipes c.args.self.now.pass c.set_map.new.self c.args.moffset c.args._len c.sound.ensures.showing (clears c.args.self.now.pass c.args.moffset c.args._len c.requires.may) c.set_map.ensures

pub returns-clause-adds : goal.returns-clause-adds
returns-clause-adds c = (acts_clear _ _ c.args.moffset c.args._len c.requires.whole (returns-clause-wiped c)).adds

pub returns-clause-others : goal.returns-clause-others
returns-clause-others c = (acts_clear _ _ c.args.moffset c.args._len c.requires.whole (returns-clause-wiped c)).others
