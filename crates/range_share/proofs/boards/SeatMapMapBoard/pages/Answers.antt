use Rattle.std.proofs.Common.{arith, ap}
use Rattle.range_share.proofs.BoardsMaps.{pages_long}
use Rattle.range_share.proofs.boards.SeatMapMapBoard.pages.Goals as goal

pub returns : goal.returns
returns c =
    let p = c.args.self.now.pass in
    let n = pages_long p c.sound.ensures.showing in
    let a = c.sound.ensures.sizes.0 in
    let b = c.ranges-2.ensures in
    let words = ap (λ t. t.words) c.args.self.now.own in
    let slots = ap (λ t. t.slots) c.args.self.now.own in
    omega (arith, n, a, b, words, slots)
