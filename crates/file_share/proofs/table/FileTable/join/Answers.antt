use Rattle.std.proofs.Common.{◌≡◌, sym, ap, subst, arith}
use mathlib.Core.Option.{some}
use lib.ListN.{get_elem?}
use Rattle.atomic_table.specs.Seated.{TableId}
use Rattle.seats.specs.Views.{out}
use Rattle.file_share.specs.Steps.{NoTurn}
use Rattle.file_share.specs.Known.{Known, known, TookIn}
use Rattle.file_share.proofs.Coming.{sound_joined}
use Rattle.file_share.proofs.table.FileTable.join.Goals as goal

pub invariant_of-pass : goal.invariant_of-pass
invariant_of-pass c = let s = c.pass.inside in let o = c.other.inside in let x = c.merge.ensures in
    sound_joined s.seat c.merge.new.seat o.seat s.hand o.hand s.file o.file s.guest o.guest s.bar o.bar s.last o.last c.pass.invariant c.other.invariant
    (subst (λ (k : Known). NoTurn k.view) (sym c.pass.view_is) c.requires.free.0) (subst (λ (k : Known). NoTurn k.view) (sym c.other.view_is) (λ f. (c.requires.free.1 f).0)) x.kept.1 x.kept.0 x.begins.0 x.begins.1 x.never
    (subst (λ (z : Known × Known). get_elem? z.0.view.numbers z.1.view.guest ≡ some out) (λ i. (sym c.pass.view_is i, sym c.other.view_is i)) c.requires.guest.1)

pub returns : goal.returns
returns c = let s = c.pass.inside in let o = c.other.inside in let x = c.merge.ensures in
    let wide = (invariant_of-pass c).wide in
    let slots = ap (λ (t : TableId). t.slots) x.kept.0 in
    subst (λ (z : Known × Known). TookIn z.0 z.1 (known c.merge.new.seat s.mark)) (λ i. (c.pass.view_is i, c.other.view_is i)) record {
      is = λ i. record { table = x.kept.0 i; view = (x.kept.1 i).0; mark = s.mark };
      grown = x.begins.0;
      begun = x.begins.1;
      account = λ a f l. x.account a f (omega arith);
    }
