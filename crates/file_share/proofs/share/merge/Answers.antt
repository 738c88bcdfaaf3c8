use Rattle.std.proofs.Common.{rules, sym, ap, ◌∙◌, subst, ℕ, ◌<◌, length}
use Rattle.seats.specs.Views.{AllIn}
use Rattle.seats.specs.Seats.{Told}
use Rattle.seats.proofs.Seating.{joins}
use Rattle.file_share.specs.Table.{Begun, Grown, Knows, files_kit, nobody}
use Rattle.file_share.specs.Steps.{Us, Accounted, NoTurn}
use Rattle.file_share.specs.Known.{past_seen}
use Rattle.file_share.proofs.Laws.{files_laws}
use Rattle.file_share.proofs.Ending.{compares_all, merged_idle}
use Rattle.file_share.proofs.share.merge.Goals as goal

pub join_seat-requires : goal.join_seat-requires
join_seat-requires c = let q = c.requires.guest in let s = c.args.seat.now in let o = c.args.other in (
  c.requires.table.0,
  c.requires.table.2,
  c.requires.live.2,
  c.requires.table.1,
  joins files_kit files_laws s.id o.id s.me.0 o.me.0 nobody.mine nobody.noted c.requires.live.0 q.0 c.requires.free.0 c.requires.live.1 c.requires.free.1 q.1,
)

pub load-requires : goal.load-requires
load-requires c = let was = ap (λ (m : Us). m.0) c.join_seat.ensures.2 in let v = c.args.seat.now.me.0 in let w = c.args.other.me.0 in (
  search rules,
  c.requires.table.1,
  compares_all c.args.top.now.table_id.slots c.join_seat.new.seat.id 0 c.join_seat.new.seat.me (ap (λ (u : Knows). u.live) was ∙ c.requires.live.0) (ap (λ (u : Knows). u.guest) was ∙ c.requires.guest.0)
      (subst NoTurn (sym was) (merged_idle v.mine.files w.mine.files c.requires.free.0)),
)

pub returns-clause-begins : goal.returns-clause-begins
returns-clause-begins c = let e = c.load.ensures.2 in let was = ap (λ (m : Us). m.0) c.join_seat.ensures.2 in let now = ap (λ (m : Us). m.0) e.same in let v = c.args.seat.now.me.0 in let w = c.args.other.me.0 in
    subst (λ (u : Knows). Grown v.guest v.mine u.mine × Begun w.mine u.mine) (sym (now ∙ was)) (subst (Told files_kit) was e.told)

pub returns-clause-account : goal.returns-clause-account
returns-clause-account c = let e = c.load.ensures.2 in subst (λ (u : Knows). AllIn u → (f : ℕ) → f < length u.mine.files → Accounted u.numbers f (past_seen u f)) (sym (ap (λ (m : Us). m.0) e.same)) e.account
