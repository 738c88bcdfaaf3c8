use Rattle.std.proofs.Common.{ap, ◌∙◌}
use Rattle.range_share.specs.Steps.{Us}
use Rattle.range_share.proofs.Ending.{compares_all}
use Rattle.range_share.proofs.share.cut.Goals as goal

pub load-requires : goal.load-requires
load-requires c = let x = c.cut_as-given in (x.ensures.given.0 ∙ c.requires.table.0, c.requires.table.1, compares_all c.args.top.now.table_id.slots x.result.id 0 x.result.me (ap (λ (m : Us). m.0.live) x.ensures.given.1))
