use Rattle.std.proofs.Common.{◌∙◌, sym}
use Rattle.range_share.proofs.BoardsCore.{moves_near}
use Rattle.range_share.proofs.BoardsMaps.{moves_told, tree_told, some_move, some_tree}
use Rattle.range_share.proofs.BoardsTakes.{settles, settles_table, settles_may, settles_pins}
use Rattle.range_share.proofs.BoardsCalls.{settle_map}
use Rattle.range_share.proofs.boards.SeatMapRangeBoard.settle_mapped.Goals as goal

pub unreachable-requires : goal.unreachable-requires
unreachable-requires c = some_move c.args.self.now.pass c.moved.result c.sound.ensures.showing c.moved.ensures c.in_default.is c.requires.moves

pub unreachable-requires-in_default-tree_file : goal.unreachable-requires-in_default-tree_file
unreachable-requires-in_default-tree_file c = some_tree c.args.self.now.pass c.tree_file.result c.sound.ensures.showing c.tree_file.ensures c.in_default-tree_file.is c.requires.tree

pub settle_mapped-requires-clause-place : goal.settle_mapped-requires-clause-place
settle_mapped-requires-clause-place c =
    let p = c.args.self.now.pass in
    let s = c.sound.ensures.showing in
    let tree = sym (tree_told p c.tree_file.result s c.tree_file.ensures) ∙ c.in-Some-tree_file.is in
    let moves = sym (moves_told p c.moved.result s c.moved.ensures) ∙ c.in-Some.is in
    (c.requires.small, (settle_map p c.in-Some-tree_file.file c.in-Some.range c.args.chunk c.args.mode tree moves c.requires).0)

pub settle_mapped-requires-clause-had : goal.settle_mapped-requires-clause-had
settle_mapped-requires-clause-had c =
    let p = c.args.self.now.pass in
    let s = c.sound.ensures.showing in
    let tree = sym (tree_told p c.tree_file.result s c.tree_file.ensures) ∙ c.in-Some-tree_file.is in
    let moves = sym (moves_told p c.moved.result s c.moved.ensures) ∙ c.in-Some.is in
    (c.in-Some-tree_file.ensures, (settle_map p c.in-Some-tree_file.file c.in-Some.range c.args.chunk c.args.mode tree moves c.requires).1)

pub invariant_of-self : goal.invariant_of-self
invariant_of-self c =
    let p = c.args.self.now.pass in
    let q = c.settle_mapped.new.self in
    let r = c.in-Some.range in
    let f = c.in-Some-tree_file.file in
    let near = moves_near p.view c.sound.ensures.showing r c.in-Some.ensures in
    record {
      own = settles_table p q r near c.in-Some.ensures f c.args.chunk c.args.mode c.in-Some-tree_file.ensures c.settle_mapped.result c.settle_mapped.ensures ∙ c.args.self.now.own;
      may = settles_may p q r near c.in-Some.ensures f c.args.chunk c.args.mode c.in-Some-tree_file.ensures c.settle_mapped.result c.settle_mapped.ensures c.args.self.now.may;
      pinned = settles_pins p q r near c.in-Some.ensures f c.args.chunk c.args.mode c.in-Some-tree_file.ensures c.settle_mapped.result c.settle_mapped.ensures c.args.self.now.pinned;
    }

pub returns : goal.returns
returns c =
    let p = c.args.self.now.pass in
    let s = c.sound.ensures.showing in
    let tree = sym (tree_told p c.tree_file.result s c.tree_file.ensures) ∙ c.in-Some-tree_file.is in
    let moves = sym (moves_told p c.moved.result s c.moved.ensures) ∙ c.in-Some.is in
    settles p c.settle_mapped.new.self c.in-Some.range (moves_near p.view s c.in-Some.range c.in-Some.ensures) c.in-Some.ensures c.in-Some-tree_file.file c.args.chunk c.args.mode c.in-Some-tree_file.ensures c.settle_mapped.result tree moves c.settle_mapped.ensures
