use Rattle.std.proofs.Common.{subst}
use Rattle.page_map.specs.Board.{MapView, HoldsPages}
use Rattle.range_tree.proofs.OneGuest.{parts_of}
use Rattle.range_tree.proofs.Pages.{holds-pages}
use Rattle.range_tree.proofs.plain.PlainRangesMapBoard.may_clear.Goals as goal

pub returns-clause-held : goal.returns-clause-held
returns-clause-held c may = subst (λ (v : MapView). HoldsPages v c.args.moffset c.args.len) c.self.view_is (holds-pages (parts_of c.self.inside) c.args.moffset c.args.len)
