use Rattle.std.proofs.Common.{◌<◌, ◌≤◌, ap, List, [], arith, length}
use Rattle.std.proofs.lemmas.List.Sums.{sum_by_more, count_by-le-length}
use Rattle.window_core.specs.declared.states.Pin.{Pin}
use Rattle.window_core.specs.Window.{pins_on, on_range}
use Rattle.window_core.proofs.Places.{at_default}
use Rattle.window_core.proofs.window.CoreWindow.count.Goals as goal

near : (c : goal.After-count) → c.loop-guest.guest < length c.args.self.now.pins.items
near c = let t = c.loop-guest-test.true in let n = c.len-guest-end.ensures in let m = c.args.self.now.pins.ok.0 in omega arith

-- one guest has few pins
few : (c : goal.After-count) → c.count.result ≤ 64
few c = let pins = c.args.self.now.pins.items in let k = c.loop-guest.guest in let row = c.index.result.now in
    let is = ap (λ (ps : List Pin). length ps) (at_default pins k row [] (near c) c.index.ensures) in
    let small = c.requires.2.pins_few k in
    let one = c.count.ensures in let under = count_by-le-length (on_range c.args.range) row in omega arith

pub overflow_cast-total : goal.overflow_cast-total
overflow_cast-total c = let f = few c in omega arith

pub overflow_add-total : goal.overflow_add-total
overflow_add-total c = let f = few c in let n = near c in let all = c.requires.2.pins_all in let low = c.requires.1 in let so_far = c.loop-guest.invariant.1 in omega arith

pub loop-guest-preserved : goal.loop-guest-preserved
loop-guest-preserved c = let k = c.loop-guest.guest in let row = c.index.result.now in let f = few c in
    let more = sum_by_more (pins_on c.args.range) c.args.self.now.pins.items k row (near c) in
    let here = ap (λ (ps : List Pin). pins_on c.args.range ps) c.index.ensures in
    let one = c.count.ensures in let a = c.loop-guest.invariant.0 in let b = c.loop-guest.invariant.1 in (omega arith, omega arith)
