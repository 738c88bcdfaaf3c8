use Rattle.std.proofs.Common.{subst}
use Rattle.file_share.specs.Known.{Known, known, IsUnleased}
use Rattle.files_core.specs.Files.{unlease}
use Rattle.file_share.proofs.Calling.{near_of, deed_of, sound_unleased, unleased_shown}
use Rattle.file_share.proofs.table.FilePass.unlease.Goals as goal

pub invariant_of-self : goal.invariant_of-self
invariant_of-self c = let s = c.self.inside in let x = c.drop_lease.ensures in let t = c.drop_lease.new.seat in
    sound_unleased s.seat t c.args.file s.hand s.file s.guest s.bar s.last c.self.invariant (near_of c.self.inside.seat c.self.inside.mark c.args.self.now c.args.table.now c.args.file c.self.invariant.wide c.self.view_is c.requires.table.0 c.requires.table.1) x.table x.deed.1 x.deed.0

pub returns : goal.returns
returns c = let s = c.self.inside in let x = c.drop_lease.ensures in let t = c.drop_lease.new.seat in
    subst (λ (k : Known). IsUnleased k c.args.file (known t s.mark)) c.self.view_is record {
      deed = deed_of s.seat t s.mark c.args.file unlease _ x.table x.deed.0;
      shown = unleased_shown s.seat t c.args.file s.hand s.file s.guest s.bar s.last c.self.invariant (near_of c.self.inside.seat c.self.inside.mark c.args.self.now c.args.table.now c.args.file c.self.invariant.wide c.self.view_is c.requires.table.0 c.requires.table.1) x.table x.deed.1 x.deed.0;
    }
