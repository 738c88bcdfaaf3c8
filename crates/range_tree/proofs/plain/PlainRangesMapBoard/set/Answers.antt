use Rattle.std.proofs.Common.{◌≡◌, ◌∙◌, ◌/◌, ap, sym, subst, Some, true, length, slice_set, arith}
use Rattle.page_map.specs.Window.{set}
use Rattle.page_map.specs.Board.{MapView, AddsAct, KeepsOthers, may_set, painted}
use Rattle.page_map.proofs.Showing.{AddsAct-painted, KeepsOthers-painted}
use Rattle.page_map.proofs.Sizes.{length-painted}
use Rattle.range_tree.specs.Plain.{plain_view}
use Rattle.range_tree.proofs.OneGuest.{parts_of, inv-maps}
use Rattle.range_tree.proofs.Pages.{table-painted}
use Rattle.range_tree.proofs.Setting.{IsSettable, may-set, span-is, span_target}
use Rattle.range_tree.proofs.plain.PlainRangesMapBoard.set.Goals as goal

pub overflow_sub-map : goal.overflow_sub-map
overflow_sub-map c =
    let p = parts_of c.self.inside in
    let may : may_set (plain_view p) c.args.span.now ≡ true = rw (← c.self.view_is) at c.requires.may in
    let node = (may-set p c.args.span.now c.self.invariant may).at.node in
    omega (arith, node)

pub overflow_cast-map : goal.overflow_cast-map
overflow_cast-map c =
    let p = parts_of c.self.inside in
    let may : may_set (plain_view p) c.args.span.now ≡ true = rw (← c.self.view_is) at c.requires.may in
    let known = (may-set p c.args.span.now c.self.invariant may).at.known in
    let few = c.self.invariant.files in
    record { fits = omega (arith, known, few) }

pub overflow_cast-map-2 : goal.overflow_cast-map-2
overflow_cast-map-2 c =
    let p = parts_of c.self.inside in
    let may : may_set (plain_view p) c.args.span.now ≡ true = rw (← c.self.view_is) at c.requires.may in
    let small = (may-set p c.args.span.now c.self.invariant may).at.small in
    record { fits = omega (arith, small) }

pub index_mut-map-requires : goal.index_mut-map-requires
index_mut-map-requires c =
    let p = parts_of c.self.inside in
    let may : may_set (plain_view p) c.args.span.now ≡ true = rw (← c.self.view_is) at c.requires.may in
    let within = (may-set p c.args.span.now c.self.invariant may).range.within in
    omega (arith, within)

pub invariant_of-self : goal.invariant_of-self
invariant_of-self c =
    let p = parts_of c.self.inside in
    let may : may_set (plain_view p) c.args.span.now ≡ true = rw (← c.self.view_is) at c.requires.may in
    let m : IsSettable p c.args.span.now = may-set p c.args.span.now c.self.invariant may in
    let within = m.range.within in
    let long = c.self.invariant.maps in
    inv-maps {s = p} (c.args.span.now.moffset / 2097152) (Some (span_target c.args.span.now)) c.self.invariant (omega (arith, within, long)) m.owned

pub returns : goal.returns
returns c =
    let p = parts_of c.self.inside in
    let v = c.args.self.now in
    let s = c.args.span.now in
    let may : may_set (plain_view p) s ≡ true = rw (← c.self.view_is) at c.requires.may in
    let m : IsSettable p s = may-set p s c.self.invariant may in
    let e : plain_view (record p { maps = slice_set p.maps (s.moffset / 2097152) (Some (span_target s)) }) ≡ painted v s =
    table-painted p (s.moffset / 2097152) s (span_target s) m.range (span-is p s m.at) ∙ ap (λ (x : MapView). painted x s) c.self.view_is in
    record {
      painted = e;
      adds = subst (λ (x : MapView). AddsAct v x (set s)) (sym e) (AddsAct-painted v s c.requires.whole);
      others = subst (λ (x : MapView). KeepsOthers v x (set s)) (sym e) (KeepsOthers-painted v s c.requires.whole);
      pages = ap (λ (x : MapView). length x.table) e ∙ length-painted v s c.requires.whole;
    }
