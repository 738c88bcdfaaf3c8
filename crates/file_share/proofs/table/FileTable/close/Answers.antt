use Rattle.std.proofs.Common.{◌<◌, sym, subst}
use Rattle.atomic_table.specs.Seated.{TableId}
use Rattle.file_share.specs.Steps.{Accounted}
use Rattle.file_share.specs.Known.{Known, past_seen}
use Rattle.file_share.proofs.table.FileTable.close.Goals as goal

pub returns-clause-account : goal.returns-clause-account
returns-clause-account c f l = subst (λ (k : Known). Accounted k.view.numbers f (past_seen k.view f)) c.pass.view_is (c.close.ensures.account f (subst (λ (t : TableId). f < t.slots) (sym c.self.view_is) l))
