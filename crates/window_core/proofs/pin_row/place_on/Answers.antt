use Rattle.window_core.proofs.Reading.{oldest}
use Rattle.window_core.proofs.pin_row.place_on.Goals as goal

pub returns-then-pins-at : goal.returns-then-pins-at
returns-then-pins-at c = let o = oldest c.args.range c.args.pins.now c.loop-at.at _ c.loop-at-test.true c.if-pins-at.true c.loop-at.invariant in (c.loop-at-test.true, o.0, o.1)
