use Rattle.std.proofs.Common.{rules, sym, ap, ◌∙◌, subst}
use Rattle.seats.specs.Seats.{Told}
use Rattle.seats.proofs.Seating.{joins}
use Rattle.range_share.specs.Table.{Begun, Knows, nobody, window_kit}
use Rattle.range_share.specs.Steps.{Us, IsShowing}
use Rattle.range_share.proofs.Laws.{window_laws}
use Rattle.range_share.proofs.Ending.{compares_all}
use Rattle.range_share.proofs.share.merge.Goals as goal

pub join_seat-requires : goal.join_seat-requires
join_seat-requires c = let q = c.requires.guest in let s = c.args.seat.now in let o = c.args.other in (
  c.requires.table.0,
  c.requires.table.2,
  c.requires.live.2,
  c.requires.table.1,
  joins window_kit window_laws s.id o.id s.me.0 o.me.0 nobody.mine nobody.noted c.requires.live.0 q.0 c.requires.free.0 c.requires.live.1 c.requires.free.1 q.1,
)

pub load-requires : goal.load-requires
load-requires c = (search rules, c.requires.table.1, compares_all c.args.top.now.table_id.slots c.join_seat.new.seat.id 0 c.join_seat.new.seat.me (ap (λ (m : Us). m.0.live) c.join_seat.ensures.2 ∙ c.requires.live.0))

pub returns-clause-begins : goal.returns-clause-begins
returns-clause-begins c = let e = c.load.ensures.2 in let was = ap (λ (m : Us). m.0) c.join_seat.ensures.2 in let now = ap (λ (m : Us). m.0) e.0 in let v = c.args.seat.now.me.0 in let w = c.args.other.me.0 in
    subst (λ (u : Knows). Begun v.mine u.mine × Begun w.mine u.mine) (sym (now ∙ was)) (subst (Told window_kit) was e.1)

pub returns-clause-showing : goal.returns-clause-showing
returns-clause-showing c = let e = c.load.ensures.2 in subst IsShowing (sym (ap (λ (m : Us). m.0) e.0)) e.2
