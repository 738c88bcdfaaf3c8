use Rattle.std.proofs.Common.{subst, ap, ◌∙◌}
use Rattle.file_share.specs.Table.{part}
use Rattle.file_share.specs.Known.{Known, known, IsBarred}
use Rattle.files_core.specs.Files.{clear_bar}
use Rattle.file_share.proofs.Calling.{near_of, deed_of, sound_unbarred, unbarred_shown}
use Rattle.file_share.proofs.table.FilePass.unbar.Goals as goal

pub invariant_of-self : goal.invariant_of-self
invariant_of-self c = let s = c.self.inside in let x = c.drop_bar.ensures in let t = c.drop_bar.new.seat in
    sound_unbarred s.seat t c.args.file s.hand s.file s.guest s.bar s.last c.self.invariant (near_of c.self.inside.seat c.self.inside.mark c.args.self.now c.args.table.now c.args.file c.self.invariant.wide c.self.view_is c.requires.table.0 c.requires.table.1) x.table x.deed.1 x.deed.0 (ap (λ (k : Known). (part k.view c.args.file).bar) c.self.view_is ∙ c.requires.had)

pub returns : goal.returns
returns c = let s = c.self.inside in let x = c.drop_bar.ensures in let t = c.drop_bar.new.seat in
    subst (λ (k : Known). IsBarred k c.args.file clear_bar _ (known t s.mark)) c.self.view_is record {
      deed = deed_of s.seat t s.mark c.args.file clear_bar _ x.table x.deed.0;
      shown = unbarred_shown s.seat t c.args.file s.hand s.file s.guest s.bar s.last c.self.invariant (near_of c.self.inside.seat c.self.inside.mark c.args.self.now c.args.table.now c.args.file c.self.invariant.wide c.self.view_is c.requires.table.0 c.requires.table.1) x.table x.deed.1 x.deed.0 (ap (λ (k : Known). (part k.view c.args.file).bar) c.self.view_is ∙ c.requires.had);
    }
