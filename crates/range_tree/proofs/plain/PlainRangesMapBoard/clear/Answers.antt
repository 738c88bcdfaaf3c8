use Rattle.std.proofs.Common.{◌≡◌, ◌∙◌, ◌/◌, ap, sym, subst, Some, None, true, length, slice_set, arith}
use Rattle.page_map.specs.Window.{clear}
use Rattle.page_map.specs.Board.{MapView, AddsAct, KeepsOthers, may_clear, wiped}
use Rattle.page_map.proofs.Showing.{AddsAct-wiped, KeepsOthers-wiped}
use Rattle.page_map.proofs.Sizes.{length-wiped}
use Rattle.range_tree.specs.Plain.{plain_view}
use Rattle.range_tree.proofs.OneGuest.{parts_of, inv-maps}
use Rattle.range_tree.proofs.Pages.{table-wiped}
use Rattle.range_tree.proofs.Setting.{IsMovedAt, may-clear}
use Rattle.range_tree.proofs.plain.PlainRangesMapBoard.clear.Goals as goal

pub index_mut-requires : goal.index_mut-requires
index_mut-requires c =
    let p = parts_of c.self.inside in
    let may : may_clear (plain_view p) c.args.moffset c.args._len ≡ true = rw (← c.self.view_is) at c.requires.may in
    let m : IsMovedAt p c.args.moffset c.args._len = may-clear p c.args.moffset c.args._len c.self.invariant may in
    let within = m.range.within in
    omega (arith, within)

pub invariant_of-self : goal.invariant_of-self
invariant_of-self c =
    let p = parts_of c.self.inside in
    let may : may_clear (plain_view p) c.args.moffset c.args._len ≡ true = rw (← c.self.view_is) at c.requires.may in
    let m : IsMovedAt p c.args.moffset c.args._len = may-clear p c.args.moffset c.args._len c.self.invariant may in
    inv-maps {s = p} (c.args.moffset / 2097152) None c.self.invariant m.moved.within (λ o e. absurd (let k : None ≡ Some o = sym m.moved.empty ∙ e in cc))

pub returns : goal.returns
returns c =
    let p = parts_of c.self.inside in
    let v = c.args.self.now in
    let may : may_clear (plain_view p) c.args.moffset c.args._len ≡ true = rw (← c.self.view_is) at c.requires.may in
    let m : IsMovedAt p c.args.moffset c.args._len = may-clear p c.args.moffset c.args._len c.self.invariant may in
    let e : plain_view (record p { maps = slice_set p.maps (c.args.moffset / 2097152) None }) ≡ wiped v c.args.moffset c.args._len =
    table-wiped p (c.args.moffset / 2097152) c.args.moffset c.args._len m.range ∙ ap (λ (x : MapView). wiped x c.args.moffset c.args._len) c.self.view_is in
    record {
      wiped = e;
      adds = subst (λ (x : MapView). AddsAct v x (clear c.args.moffset c.args._len)) (sym e) (AddsAct-wiped v c.args.moffset c.args._len c.requires.whole);
      others = subst (λ (x : MapView). KeepsOthers v x (clear c.args.moffset c.args._len)) (sym e) (KeepsOthers-wiped v c.args.moffset c.args._len c.requires.whole);
      pages = ap (λ (x : MapView). length x.table) e ∙ length-wiped v c.args.moffset c.args._len c.requires.whole;
    }
