use Rattle.std.proofs.Common.{subst, ap, ℕ, List, length, Result, arith}
use Rattle.plain_file.specs.File.{reach}
use Rattle.guest_dax.specs.Stands.{stand}
use Rattle.guest_io.specs.declared.calls.Refusal.{Refusal}
use Rattle.guest_io.specs.declared.guest.Granted.{Granted}
use Rattle.guest_io.specs.Holds.{FindsHold}
use Rattle.guest_io.proofs.Entered.{undone-same}
use Rattle.guest_io.proofs.Passing.{LeavesAll-same}
use Rattle.guest_io.proofs.HoldAccess.{chunk-small, ends-low}
use Rattle.guest_io.proofs.guest.Guest.store.Goals as goal

pub find-requires-clause-small : goal.find-requires-clause-small
find-requires-clause-small g c =
    let s = stand (g.W.Wire.wire c.args.self.now.dax.driver.wire) (g.F.FileBoard.board c.args.self.now.dax.files) (g.R.MapBoard.map c.args.self.now.dax.ranges) in
    chunk-small s c.args.self.now.holds c.args.hold c.requires.holds

pub start-requires : goal.start-requires
start-requires g c =
    let within = subst (λ (r : Result Granted Refusal). FindsHold c.args.self.now.holds c.args.hold c.args.off (length c.args.bytes.now) r) c.in-Ok.is c.find.ensures in
    (c.requires.holds.each c.args.hold c.in-Ok.granted within.granted).chunk

pub go_held-requires-clause-fits : goal.go_held-requires-clause-fits
unfolding reach
go_held-requires-clause-fits g c =
    let s = stand (g.W.Wire.wire c.args.self.now.dax.driver.wire) (g.F.FileBoard.board c.args.self.now.dax.files) (g.R.MapBoard.map c.args.self.now.dax.ranges) in
    let within = subst (λ (r : Result Granted Refusal). FindsHold c.args.self.now.holds c.args.hold c.args.off (length c.args.bytes.now) r) c.in-Ok.is c.find.ensures in
    let low = ends-low s c.args.self.now.holds c.in-Ok.granted c.args.hold c.args.off (length c.args.bytes.now) (c.requires.holds.each c.args.hold c.in-Ok.granted within.granted) within in
    let many = ap (λ (l : List ℕ). length l) c.in-Ok-copy_of.ensures in
    let start = c.start.ensures in
    omega (arith, low, many, start)

pub returns-in-Err-clause-leaves : goal.returns-in-Err-clause-leaves
returns-in-Err-clause-leaves g c = LeavesAll-same (stand (g.W.Wire.wire c.args.self.now.dax.driver.wire) (g.F.FileBoard.board c.args.self.now.dax.files) (g.R.MapBoard.map c.args.self.now.dax.ranges))

pub returns-in-Err-copy_of-clause-leaves : goal.returns-in-Err-copy_of-clause-leaves
returns-in-Err-copy_of-clause-leaves g c = LeavesAll-same (stand (g.W.Wire.wire c.args.self.now.dax.driver.wire) (g.F.FileBoard.board c.args.self.now.dax.files) (g.R.MapBoard.map c.args.self.now.dax.ranges))

pub returns-in-Err-copy_of-clause-accesses : goal.returns-in-Err-copy_of-clause-accesses
returns-in-Err-copy_of-clause-accesses g c =
    let s = stand (g.W.Wire.wire c.args.self.now.dax.driver.wire) (g.F.FileBoard.board c.args.self.now.dax.files) (g.R.MapBoard.map c.args.self.now.dax.ranges) in
    let within = subst (λ (r : Result Granted Refusal). FindsHold c.args.self.now.holds c.args.hold c.args.off (length c.args.bytes.now) r) c.in-Ok.is c.find.ensures in
    (c.in-Ok.granted, within, undone-same s.files c.in-Ok.granted.file)
