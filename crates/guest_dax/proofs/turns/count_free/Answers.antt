use Rattle.std.proofs.Common.{arith}
use Rattle.guest_dax.proofs.Counting.{counting-none, counting-next, counted-few}
use Rattle.guest_dax.proofs.turns.count_free.Goals as goal

pub loop-range-init : goal.loop-range-init
loop-range-init g c = counting-none _

pub count_in-free-requires : goal.count_in-free-requires
count_in-free-requires g c =
    let few = counted-few _ c.loop-range.range c.loop-range.free c.loop-range.invariant.counted in
    omega (arith, few, c.loop-range-test.true, c.ranges-count.ensures.count, c.sound_ranges.ensures.few)

pub loop-range-preserved : goal.loop-range-preserved
loop-range-preserved g c =
    counting-next _ _ _ c.loop-range.range c.loop-range.free c.count_in-free.result c.look-word.result c.loop-range.invariant
    (omega (arith, c.loop-range-test.true, c.ranges-count.ensures.count, c.sound_ranges.ensures.looks)) c.look-word.ensures c.count_in-free.ensures.one c.count_in-free.ensures.none
