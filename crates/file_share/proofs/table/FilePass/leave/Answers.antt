use Rattle.std.proofs.Common.{Option, sym, subst, ap, ◌∙◌}
use Rattle.plain_file.specs.History.{Past}
use Rattle.file_share.specs.Table.{part}
use Rattle.file_share.specs.Known.{Known, known, Sound, Left}
use Rattle.files_core.specs.Files.{give_turn}
use Rattle.file_share.proofs.Calling.{near_of, deed_of, sound_given, given_shown}
use Rattle.file_share.proofs.table.FilePass.leave.Goals as goal

pub invariant_of-self : goal.invariant_of-self
invariant_of-self c = let s = c.self.inside in let x = c.put_turn.ensures in let t = c.put_turn.new.seat in
    let held = subst (λ (o : Option Past). Sound s.seat o s.file s.guest s.bar s.last) (sym c.take.ensures.value ∙ c.in-Some.is) c.self.invariant in
    subst (λ (o : Option Past). Sound t o s.file s.guest s.bar s.last) (sym c.take.ensures.after)
    (sound_given s.seat t c.args.file x.deed.0 c.in-Some.hand s.file s.guest s.bar s.last held (near_of c.self.inside.seat c.self.inside.mark c.args.self.now c.args.table.now c.args.file c.self.invariant.wide c.self.view_is c.requires.table.0 c.requires.table.1) x.table (ap (λ (k : Known). (part k.view c.args.file).turn) c.self.view_is ∙ c.requires.turn) x.deed.1)

pub returns : goal.returns
returns c = let s = c.self.inside in let x = c.put_turn.ensures in let t = c.put_turn.new.seat in
    let held = subst (λ (o : Option Past). Sound s.seat o s.file s.guest s.bar s.last) (sym c.take.ensures.value ∙ c.in-Some.is) c.self.invariant in
    subst (λ (k : Known). Left k c.args.file (known t s.mark)) c.self.view_is record {
      deed = deed_of s.seat t s.mark c.args.file give_turn _ x.table x.deed.0;
      shown = given_shown s.seat t c.args.file x.deed.0 c.in-Some.hand s.file s.guest s.bar s.last held (near_of c.self.inside.seat c.self.inside.mark c.args.self.now c.args.table.now c.args.file c.self.invariant.wide c.self.view_is c.requires.table.0 c.requires.table.1) x.table (ap (λ (k : Known). (part k.view c.args.file).turn) c.self.view_is ∙ c.requires.turn) x.deed.1;
    }
