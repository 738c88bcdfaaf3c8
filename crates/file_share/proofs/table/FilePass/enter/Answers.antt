use Rattle.std.proofs.Common.{sym, subst}
use Rattle.file_share.specs.Steps.{NoTurn}
use Rattle.file_share.specs.Known.{Known, known, IsDeed, Entered}
use Rattle.files_core.specs.Files.{take_turn}
use Rattle.file_share.proofs.Calling.{near_of, deed_of, sound_taken, entered_is}
use Rattle.file_share.proofs.table.FilePass.enter.Goals as goal

pub invariant_of-self : goal.invariant_of-self
invariant_of-self g c = let s = c.self.inside in let x = c.wait_turn-hand.ensures in let t = c.wait_turn-hand.new.seat in
    sound_taken s.seat t c.args.file c.wait_turn-hand.result x.deed.0 s.hand s.file s.guest s.bar s.last c.self.invariant (near_of c.self.inside.seat c.self.inside.mark c.args.self.now c.args.table.now c.args.file c.self.invariant.wide c.self.view_is c.requires.table.0 c.requires.table.1) x.table (subst (λ (k : Known). NoTurn k.view) (sym c.self.view_is) c.requires.free) x.deed.1 x.told.0 x.told.1

pub returns-clause-deed : goal.returns-clause-deed
returns-clause-deed g c = let s = c.self.inside in let x = c.wait_turn-hand.ensures in
    subst (λ (k : Known). IsDeed c.args.file take_turn k (known c.wait_turn-hand.new.seat s.mark)) c.self.view_is (deed_of s.seat c.wait_turn-hand.new.seat s.mark c.args.file take_turn _ x.table x.deed.0)

pub returns-clause-entered : goal.returns-clause-entered
returns-clause-entered g c = let s = c.self.inside in let x = c.wait_turn-hand.ensures in let t = c.wait_turn-hand.new.seat in
    subst (λ (k : Known). Entered c.args.file k.view t.me.0) c.self.view_is
    (entered_is s.seat t c.args.file c.wait_turn-hand.result x.deed.0 s.hand s.file s.guest s.bar s.last c.self.invariant (near_of c.self.inside.seat c.self.inside.mark c.args.self.now c.args.table.now c.args.file c.self.invariant.wide c.self.view_is c.requires.table.0 c.requires.table.1) x.table (subst (λ (k : Known). NoTurn k.view) (sym c.self.view_is) c.requires.free) x.deed.1 x.told.0 x.told.1)
