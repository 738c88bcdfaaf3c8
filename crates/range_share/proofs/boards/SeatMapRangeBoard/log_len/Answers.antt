use Rattle.std.proofs.Common.{◌∙◌, ap, sym, length}
use Rattle.range_share.proofs.BoardsMaps.{tree_told, some_tree, tree_log}
use Rattle.range_share.proofs.boards.SeatMapRangeBoard.log_len.Goals as goal

pub unreachable-requires : goal.unreachable-requires
unreachable-requires c = some_tree c.args.self.now.pass c.tree_file.result c.sound.ensures.showing c.tree_file.ensures c.in_default.is c.requires.had

pub returns : goal.returns
returns c = ap length (c.log.ensures.log ∙ (c.tree.ensures ∙ sym (tree_log c.args.self.now.pass c.in-Some.file (sym (tree_told c.args.self.now.pass c.tree_file.result c.sound.ensures.showing c.tree_file.ensures) ∙ c.in-Some.is))))
