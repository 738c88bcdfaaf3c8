use Rattle.std.proofs.Common.{◌∙◌, ap, sym, subst}
use Rattle.page_map.specs.Logs.{placed_at}
use Rattle.range_tree.specs.Logs.{Finds}
use Rattle.range_share.proofs.BoardsMaps.{tree_told, some_tree, tree_log}
use Rattle.range_share.proofs.boards.SeatMapRangeBoard.find.Goals as goal

pub unreachable-requires : goal.unreachable-requires
unreachable-requires c = some_tree c.args.self.now.pass c.tree_file.result c.sound.ensures.showing c.tree_file.ensures c.in_default.is c.requires.had

pub returns-clause-placed : goal.returns-clause-placed
returns-clause-placed c = c.find.ensures.placed ∙ ap (λ l. placed_at l c.args.chunk) (c.tree.ensures ∙ sym (tree_log c.args.self.now.pass c.in-Some.file (sym (tree_told c.args.self.now.pass c.tree_file.result c.sound.ensures.showing c.tree_file.ensures) ∙ c.in-Some.is)))

pub returns-clause-live : goal.returns-clause-live
returns-clause-live c = subst (λ l. Finds l c.args.chunk c.find.result) (c.tree.ensures ∙ sym (tree_log c.args.self.now.pass c.in-Some.file (sym (tree_told c.args.self.now.pass c.tree_file.result c.sound.ensures.showing c.tree_file.ensures) ∙ c.in-Some.is))) c.find.ensures.live
