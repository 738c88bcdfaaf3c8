use Rattle.range_share.specs.Steps.{ranges_of}
use Rattle.range_share.specs.Known.{forgetting}
use Rattle.range_share.proofs.table.RangePass.forget_looks.Given as goal

abbrev pub ghosts-forget : goal.ghosts-forget
ghosts-forget a = record { noted = forgetting (ranges_of a.seat.now.me.0) a.seat.now.me.0.noted }
