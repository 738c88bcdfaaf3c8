use Rattle.std.proofs.Common.{arith}
use Rattle.guest_dax.specs.Looks.{looks_from}
use Rattle.guest_dax.proofs.Forgetting.{looks-next}
use Rattle.guest_dax.proofs.acquires.noted_looks.Goals as goal

pub loop-range-init : goal.loop-range-init
unfolding looks_from
loop-range-init g c = c.new-looks.ensures

pub loop-range-preserved : goal.loop-range-preserved
loop-range-preserved g c = looks-next _ c.loop-range.range _ c.loop-range.looks _ (omega (arith, c.loop-range-test.true, c.ranges-count.ensures.count, c.sound_ranges.ensures.looks)) c.looked.ensures c.loop-range.invariant c.in_ok-add_look.ensures
