use Rattle.std.proofs.Common.{subst}
use Rattle.page_map.specs.Board.{MapView, HoldsPages}
use Rattle.range_tree.proofs.OneGuest.{parts_of}
use Rattle.range_tree.proofs.Pages.{holds-pages}
use Rattle.range_tree.proofs.plain.PlainRangesMapBoard.may_set.Goals as goal

pub returns-then-is_moved-clause-held : goal.returns-then-is_moved-clause-held
returns-then-is_moved-clause-held c may = subst (λ (v : MapView). HoldsPages v c.args.span.now.moffset c.args.span.now.len) c.self.view_is (holds-pages (parts_of c.self.inside) c.args.span.now.moffset c.args.span.now.len)

pub returns-then-is_written-clause-held : goal.returns-then-is_written-clause-held
returns-then-is_written-clause-held c may = subst (λ (v : MapView). HoldsPages v c.args.span.now.moffset c.args.span.now.len) c.self.view_is (holds-pages (parts_of c.self.inside) c.args.span.now.moffset c.args.span.now.len)
