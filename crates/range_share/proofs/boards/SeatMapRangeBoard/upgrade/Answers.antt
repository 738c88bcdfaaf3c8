use Rattle.std.proofs.Common.{◌∙◌, sym}
use Rattle.window_core.specs.Window.{upgrade}
use Rattle.range_share.specs.Steps.{Always}
use Rattle.range_share.proofs.Boarding.{stays, table_same, may_same}
use Rattle.range_share.proofs.BoardsMaps.{tree_told, some_tree}
use Rattle.range_share.proofs.BoardsTakes.{upgrades, upgrades_pins}
use Rattle.range_share.proofs.BoardsCalls.{raise_map}
use Rattle.range_share.proofs.boards.SeatMapRangeBoard.upgrade.Goals as goal

pub unreachable-requires : goal.unreachable-requires
unreachable-requires c = some_tree c.args.self.now.pass c.tree_file.result c.sound.ensures.showing c.tree_file.ensures c.in_default.is c.requires.tree

pub upgrade-requires-clause-had : goal.upgrade-requires-clause-had
upgrade-requires-clause-had c = let x = raise_map c.args.self.now.pass c.in-Some.file c.args.chunk (sym (tree_told c.args.self.now.pass c.tree_file.result c.sound.ensures.showing c.tree_file.ensures) ∙ c.in-Some.is) c.requires in (x.placed, x.has, x.reading, x.mapped)

pub invariant_of-self : goal.invariant_of-self
invariant_of-self c =
    let p = c.args.self.now.pass in
    let q = c.upgrade.new.self in
    let x = raise_map p c.in-Some.file c.args.chunk (sym (tree_told c.args.self.now.pass c.tree_file.result c.sound.ensures.showing c.tree_file.ensures) ∙ c.in-Some.is) c.requires in
    let d = c.upgrade.ensures x.placed x.has in
    let st = stays (upgrade c.in-Some.file c.args.chunk x.placed) p.view.noted Always p q d in
    record { own = table_same p.view.noted p q st ∙ c.args.self.now.own; may = may_same p.view.noted p q st c.args.self.now.may; pinned = upgrades_pins p q c.in-Some.file c.args.chunk x.placed x.has d c.args.self.now.pinned }

pub returns : goal.returns
returns c =
    let p = c.args.self.now.pass in
    let tree = (sym (tree_told c.args.self.now.pass c.tree_file.result c.sound.ensures.showing c.tree_file.ensures) ∙ c.in-Some.is) in
    let x = raise_map p c.in-Some.file c.args.chunk tree c.requires in
    upgrades p c.upgrade.new.self c.in-Some.file c.args.chunk x.placed x.has (c.upgrade.ensures x.placed x.has) tree
