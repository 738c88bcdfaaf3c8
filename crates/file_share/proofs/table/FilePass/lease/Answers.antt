use Rattle.std.proofs.Common.{subst}
use Rattle.file_share.specs.Known.{Known, IsLeased}
use Rattle.file_share.proofs.Calling.{near_of, sound_leased, leased_shown, leases_then}
use Rattle.file_share.proofs.table.FilePass.lease.Goals as goal

pub invariant_of-self : goal.invariant_of-self
invariant_of-self g c = let s = c.self.inside in let x = c.wait_lease.ensures in let t = c.wait_lease.new.seat in
    sound_leased s.seat t c.args.file s.hand s.file s.guest s.bar s.last c.self.invariant (near_of c.self.inside.seat c.self.inside.mark c.args.self.now c.args.table.now c.args.file c.self.invariant.wide c.self.view_is c.requires.table.0 c.requires.table.1) x.table x.deed.1 x.deed.0

pub returns : goal.returns
returns g c = let s = c.self.inside in let x = c.wait_lease.ensures in let t = c.wait_lease.new.seat in
    subst (λ (k : Known). IsLeased k c.args.file c.size_now.result c.size_now.new.self) c.self.view_is
    (leases_then s.seat t s.mark c.args.file c.size_now.result c.size_now.new.self (near_of c.self.inside.seat c.self.inside.mark c.args.self.now c.args.table.now c.args.file c.self.invariant.wide c.self.view_is c.requires.table.0 c.requires.table.1) x.table x.deed.0
    (leased_shown s.seat t c.args.file s.hand s.file s.guest s.bar s.last c.self.invariant (near_of c.self.inside.seat c.self.inside.mark c.args.self.now c.args.table.now c.args.file c.self.invariant.wide c.self.view_is c.requires.table.0 c.requires.table.1) x.table x.deed.1 x.deed.0) c.size_now.ensures)
