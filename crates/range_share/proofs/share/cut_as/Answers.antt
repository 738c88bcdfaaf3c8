use Rattle.std.proofs.Common.{subst, ℕ}
use Rattle.atomic_table.specs.Table.{Splits}
use Rattle.seats.specs.Views.{parent, child}
use Rattle.seats.specs.Seats.{Shows}
use Rattle.seats.proofs.Seating.{splits}
use Rattle.range_share.specs.Table.{blank, just_seen, window_kit}
use Rattle.range_share.proofs.Laws.{window_laws}
use Rattle.range_share.proofs.share.cut_as.Goals as goal

pub split_seat-requires : goal.split_seat-requires
split_seat-requires g c = let q = c.requires.guest in let s = c.args.seat.now in (
  c.requires.table.0,
  c.requires.table.1,
  subst (λ (n : ℕ). Splits (Shows window_kit) s.id s.me.0 (parent s.me.0 n) (child just_seen blank s.me.0 n)) c.requires.named (splits window_kit window_laws s.id c.args.guest s.me.0 q.0 c.requires.live q.1.0 q.1.1),
)
