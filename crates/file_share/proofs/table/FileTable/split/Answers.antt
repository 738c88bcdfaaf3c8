use Rattle.std.proofs.Common.{◌≡◌, sym, subst}
use mathlib.Core.Option.{some}
use lib.ListN.{get_elem?}
use Rattle.seats.specs.Views.{unused}
use Rattle.file_share.specs.Steps.{NoTurn}
use Rattle.file_share.specs.Known.{Known}
use Rattle.file_share.proofs.Coming.{sound_child, sound_parent}
use Rattle.file_share.proofs.table.FileTable.split.Goals as goal

pub new_pass-requires : goal.new_pass-requires
new_pass-requires c = let s = c.pass.inside in
    sound_child s.seat c.cut-seat.result c.args.guest s.hand s.file s.guest s.bar s.last c.pass.invariant (subst (λ (k : Known). NoTurn k.view) (sym c.pass.view_is) c.requires.free)
    (subst (λ (k : Known). get_elem? k.view.numbers c.args.guest ≡ some unused) (sym c.pass.view_is) c.requires.guest.1.1) c.requires.guest.0 c.cut-seat.ensures.given.1 c.cut-seat.ensures.given.0

pub invariant_of-pass : goal.invariant_of-pass
invariant_of-pass c = let s = c.pass.inside in
    sound_parent s.seat c.cut-seat.new.seat c.args.guest s.hand s.file s.guest s.bar s.last c.pass.invariant (subst (λ (k : Known). NoTurn k.view) (sym c.pass.view_is) c.requires.free)
    (subst (λ (k : Known). get_elem? k.view.numbers c.args.guest ≡ some unused) (sym c.pass.view_is) c.requires.guest.1.1) c.cut-seat.ensures.kept.1 c.cut-seat.ensures.kept.0
