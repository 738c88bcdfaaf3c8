use Rattle.std.proofs.Common.{◌∙◌, ◌<◌, subst}
use Rattle.window_core.specs.Window.{pin}
use Rattle.page_map.specs.Logs.{placed_of}
use Rattle.range_share.specs.Steps.{Always, pinned_noted, ranges_of}
use Rattle.range_share.proofs.Boarding.{stays, table_same, may_same}
use Rattle.range_share.proofs.BoardsCore.{placed_near}
use Rattle.range_share.proofs.BoardsSeen.{pins_more}
use Rattle.range_share.proofs.BoardsCalls.{tree_has, few_pins, pins}
use Rattle.range_share.proofs.boards.SeatMapRangeBoard.pin.Goals as goal

pub pin-requires-clause-range : goal.pin-requires-clause-range
pin-requires-clause-range c =
    let t = tree_has c.args.self.now.pass c.args.range c.sound.ensures.showing c.requires.had in
    subst (λ r. r < ranges_of c.args.self.now.pass.view) t.range (placed_near c.args.self.now.pass.view c.sound.ensures.showing t.file t.slot.chunk (placed_of t.slot) t.has)

pub pin-requires-clause-had : goal.pin-requires-clause-had
pin-requires-clause-had c = let t = tree_has c.args.self.now.pass c.args.range c.sound.ensures.showing c.requires.had in (t.file, t.slot.chunk, placed_of t.slot, t.has, t.range)

pub pin-requires-clause-few : goal.pin-requires-clause-few
pin-requires-clause-few c = few_pins c.args.self.now.pass c.sound.ensures.showing c.requires.few

pub invariant_of-self : goal.invariant_of-self
invariant_of-self c =
    let p = c.args.self.now.pass in
    let q = c.pin.new.self in
    let t = tree_has c.args.self.now.pass c.args.range c.sound.ensures.showing c.requires.had in
    let x = pinned_noted p.view.noted t.file t.slot.chunk (placed_of t.slot) in
    let d = c.pin.ensures t.file t.slot.chunk (placed_of t.slot) t.has t.range in
    let st = stays (pin t.file t.slot.chunk (placed_of t.slot)) x Always p q d in
    record { own = table_same x p q st ∙ c.args.self.now.own; may = may_same x p q st c.args.self.now.may; pinned = pins_more p.view q.view t.file t.slot.chunk (placed_of t.slot) c.sound.ensures.showing t.has d.effect c.args.self.now.pinned }

pub returns : goal.returns
returns c = pins c.args.self.now.pass c.pin.new.self c.args.range (tree_has c.args.self.now.pass c.args.range c.sound.ensures.showing c.requires.had) c.pin.ensures
