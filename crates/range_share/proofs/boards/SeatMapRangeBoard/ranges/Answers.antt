use Rattle.std.proofs.Common.{arith, ap}
use Rattle.range_share.proofs.Boarding.{range_count_is}
use Rattle.range_share.proofs.BoardsMaps.{pages_long}
use Rattle.range_share.proofs.boards.SeatMapRangeBoard.ranges.Goals as goal

pub returns-clause-count : goal.returns-clause-count
returns-clause-count c =
    let p = c.args.self.now.pass in
    let n = range_count_is p in
    let a = c.sound.ensures.sizes.0 in
    let b = c.ranges-2.ensures in
    let words = ap (λ t. t.words) c.args.self.now.own in
    let slots = ap (λ t. t.slots) c.args.self.now.own in
    omega (arith, n, a, b, words, slots)

pub returns-clause-pages : goal.returns-clause-pages
returns-clause-pages c =
    let p = c.args.self.now.pass in
    let n = pages_long p c.sound.ensures.showing in
    let a = c.sound.ensures.sizes.0 in
    let b = c.ranges-2.ensures in
    let words = ap (λ t. t.words) c.args.self.now.own in
    let slots = ap (λ t. t.slots) c.args.self.now.own in
    omega (arith, n, a, b, words, slots)
