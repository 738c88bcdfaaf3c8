use Rattle.std.proofs.Common.{subst}
use Rattle.file_share.specs.Known.{Known, known, Looked}
use Rattle.files_core.specs.Files.{note_size}
use Rattle.file_share.proofs.Calling.{near_of, deed_of, sound_noted, noted_shown, noted_current}
use Rattle.file_share.proofs.table.FilePass.size_now.Goals as goal

pub invariant_of-self : goal.invariant_of-self
invariant_of-self c = let s = c.self.inside in let x = c.look_size.ensures in let t = c.look_size.new.seat in
    sound_noted s.seat t c.args.file s.hand s.file s.guest s.bar s.last c.self.invariant (near_of c.self.inside.seat c.self.inside.mark c.args.self.now c.args.table.now c.args.file c.self.invariant.wide c.self.view_is c.requires.table.0 c.requires.table.1) x.table x.deed.1 c.look_size.result x.deed.0

pub returns : goal.returns
returns c = let s = c.self.inside in let x = c.look_size.ensures in let t = c.look_size.new.seat in
    subst (λ (k : Known). Looked k c.args.file c.look_size.result (known t s.mark)) c.self.view_is record {
      deed = deed_of s.seat t s.mark c.args.file note_size _ x.table x.deed.0;
      shown = noted_shown s.seat t c.args.file s.hand s.file s.guest s.bar s.last c.self.invariant (near_of c.self.inside.seat c.self.inside.mark c.args.self.now c.args.table.now c.args.file c.self.invariant.wide c.self.view_is c.requires.table.0 c.requires.table.1) x.table x.deed.1 c.look_size.result x.deed.0;
      current = noted_current s.seat t c.args.file s.hand s.file s.guest s.bar s.last c.self.invariant (near_of c.self.inside.seat c.self.inside.mark c.args.self.now c.args.table.now c.args.file c.self.invariant.wide c.self.view_is c.requires.table.0 c.requires.table.1) x.table x.deed.1 c.look_size.result x.deed.0;
    }
