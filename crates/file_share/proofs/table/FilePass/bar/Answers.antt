use Rattle.std.proofs.Common.{sym, subst, true}
use Rattle.file_share.specs.Known.{Known, known, IsBarred, NoBar}
use Rattle.files_core.specs.Files.{set_bar}
use Rattle.file_share.proofs.Calling.{near_of, deed_of, sound_barred, barred_shown}
use Rattle.file_share.proofs.table.FilePass.bar.Goals as goal

pub invariant_of-self-2 : goal.invariant_of-self-2
invariant_of-self-2 g c = let s = c.self.inside in let x = c.in_ok-wait_bar.ensures in let t = c.wait_bar.new.seat in
    sound_barred s.seat t c.args.file s.hand s.file s.guest s.bar s.last c.self.invariant (near_of c.self.inside.seat c.self.inside.mark c.args.self.now c.args.table.now c.args.file c.self.invariant.wide c.self.view_is c.requires.table.0 c.requires.table.1) x.table x.barred.1 x.barred.0 (subst (λ (k : Known). NoBar k.view) (sym c.self.view_is) c.requires.free)

pub returns : goal.returns
returns g c = let s = c.self.inside in let x = c.in_ok-wait_bar.ensures in let t = c.wait_bar.new.seat in
    subst (λ (k : Known). IsBarred k c.args.file set_bar true (known t s.mark)) c.self.view_is record {
      deed = deed_of s.seat t s.mark c.args.file set_bar _ x.table x.barred.0;
      shown = barred_shown s.seat t c.args.file s.hand s.file s.guest s.bar s.last c.self.invariant (near_of c.self.inside.seat c.self.inside.mark c.args.self.now c.args.table.now c.args.file c.self.invariant.wide c.self.view_is c.requires.table.0 c.requires.table.1) x.table x.barred.1 x.barred.0 (subst (λ (k : Known). NoBar k.view) (sym c.self.view_is) c.requires.free);
    }
