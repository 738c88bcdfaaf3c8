use Rattle.std.proofs.Common.{◌∙◌, ◌/◌, ap, Some, arith}
use Rattle.window_core.specs.Window.{set_map}
use Rattle.range_share.specs.Steps.{Always}
use Rattle.range_share.proofs.Boarding.{stays, table_same, may_same}
use Rattle.range_share.proofs.BoardsPages.{span_target}
use Rattle.range_share.proofs.BoardsMaps.{sets, paints, set_pins, acts}
use Rattle.range_share.proofs.boards.SeatMapMapBoard.set.Goals as goal

pub overflow_sub-to : goal.overflow_sub-to
overflow_sub-to c = let node = (sets c.args.self.now.pass c.args.span.now c.sound.ensures.showing c.requires.may).at.chunk.node in omega (arith, node)

pub overflow_cast-to : goal.overflow_cast-to
overflow_cast-to c =
    let known = (sets c.args.self.now.pass c.args.span.now c.sound.ensures.showing c.requires.may).at.known in
    let size = c.sound.ensures.sizes.1 in
    let few = c.sound.ensures.sizes.2 in
    record { fits = omega (arith, known, size, few) }

pub overflow_cast-to-2 : goal.overflow_cast-to-2
overflow_cast-to-2 c = let small = (sets c.args.self.now.pass c.args.span.now c.sound.ensures.showing c.requires.may).at.small in record { fits = omega (arith, small) }

pub set_map-requires-clause-range : goal.set_map-requires-clause-range
set_map-requires-clause-range c = (sets c.args.self.now.pass c.args.span.now c.sound.ensures.showing c.requires.may).near

pub set_map-requires-clause-to : goal.set_map-requires-clause-to
set_map-requires-clause-to c =
    let x = sets c.args.self.now.pass c.args.span.now c.sound.ensures.showing c.requires.may in
    let known = x.at.known in
    let size = c.sound.ensures.sizes.1 in
    let few = c.sound.ensures.sizes.2 in
    let slots = ap (λ t. t.slots) c.args.self.now.own in
    ((omega (arith, known, size, few), x.at.small), omega (arith, known, size, slots), x.may)

pub invariant_of-self : goal.invariant_of-self
invariant_of-self c =
    let p = c.args.self.now.pass in
    let q = c.set_map.new.self in
    let st = stays (set_map (c.args.span.now.moffset / 2097152) (Some (span_target c.args.span.now))) (c.args.self.now.pass.view.noted) Always p q c.set_map.ensures in
    record { own = table_same (c.args.self.now.pass.view.noted) p q st ∙ c.args.self.now.own; may = may_same (c.args.self.now.pass.view.noted) p q st c.args.self.now.may; pinned = set_pins p q (c.args.span.now.moffset / 2097152) (Some (span_target c.args.span.now)) c.set_map.ensures c.args.self.now.pinned }

pub returns-clause-painted : goal.returns-clause-painted
returns-clause-painted c = paints c.args.self.now.pass c.set_map.new.self c.args.span.now (sets c.args.self.now.pass c.args.span.now c.sound.ensures.showing c.requires.may) c.set_map.ensures

pub returns-clause-adds : goal.returns-clause-adds
returns-clause-adds c = (acts _ _ c.args.span.now c.requires.whole (returns-clause-painted c)).adds

pub returns-clause-others : goal.returns-clause-others
returns-clause-others c = (acts _ _ c.args.span.now c.requires.whole (returns-clause-painted c)).others
