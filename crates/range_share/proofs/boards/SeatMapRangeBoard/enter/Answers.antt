use Rattle.std.proofs.Common.{◌∙◌, ◌<◌, ap, arith, subst}
use Rattle.window_core.specs.Window.{enter}
use Rattle.range_share.specs.Steps.{Always}
use Rattle.range_share.proofs.Boarding.{stays, table_same, may_same, files_count, no_tree}
use Rattle.range_share.proofs.BoardsTurns.{enters, enters_pins}
use Rattle.range_share.proofs.boards.SeatMapRangeBoard.enter.Goals as goal

pub enter-requires-clause-table : goal.enter-requires-clause-table
enter-requires-clause-table g c =
    let near = c.requires.file in
    let count = files_count c.args.self.now.pass in
    let size = c.sound.ensures.sizes.1 in
    let slots = ap (λ t. t.slots) c.args.self.now.own in
    (c.args.self.now.own, omega (arith, near, count, size, slots))

pub enter-requires-clause-free : goal.enter-requires-clause-free
enter-requires-clause-free g c = no_tree c.args.self.now.pass.view c.requires.free

pub invariant_of-self : goal.invariant_of-self
invariant_of-self g c =
    let p = c.args.self.now.pass in
    let q = c.enter.new.self in
    let st = stays (enter c.args.file) p.view.noted Always p q c.enter.ensures.deed in
    record { own = table_same p.view.noted p q st ∙ c.args.self.now.own; may = may_same p.view.noted p q st c.args.self.now.may; pinned = enters_pins p q c.args.file (subst (λ n. c.args.file < n) (files_count c.args.self.now.pass) c.requires.file) c.enter.ensures c.args.self.now.pinned }

pub returns : goal.returns
returns g c = enters c.args.self.now.pass c.enter.new.self c.args.file (subst (λ n. c.args.file < n) (files_count c.args.self.now.pass) c.requires.file) c.enter.ensures (no_tree c.args.self.now.pass.view c.requires.free)
