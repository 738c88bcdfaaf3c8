use Rattle.std.proofs.Common.{sym, subst}
use Rattle.guest_dax.specs.Stands.{Stand, stand}
use Rattle.guest_io.specs.Holds.{HasHolds, given_back}
use Rattle.guest_io.specs.declared.guest.Holds.{Holds}
use Rattle.guest_io.proofs.HoldLaws.{pin-had, lease-held}
use Rattle.guest_io.proofs.HoldReleasing.{HasHolds-back, given-back}
use Rattle.guest_io.proofs.Counting.{KeepsRefusals-unleased}
use Rattle.guest_io.proofs.guest.Guest.release.Goals as goal

pub unpin-requires : goal.unpin-requires
unpin-requires g c =
    let s = stand (g.W.Wire.wire c.args.self.now.dax.driver.wire) (g.F.FileBoard.board c.args.self.now.dax.files) (g.R.MapBoard.map c.args.self.now.dax.ranges) in
    pin-had s c.args.self.now.holds c.args.hold c.in-Some.granted c.requires.holds (sym c.in-Some.ensures)

pub unlease-requires-clause-file : goal.unlease-requires-clause-file
unlease-requires-clause-file g c = (c.requires.holds.each c.args.hold c.in-Some.granted (sym c.in-Some.ensures)).file

pub unlease-requires-clause-had : goal.unlease-requires-clause-had
unlease-requires-clause-had g c =
    let s = stand (g.W.Wire.wire c.args.self.now.dax.driver.wire) (g.F.FileBoard.board c.args.self.now.dax.files) (g.R.MapBoard.map c.args.self.now.dax.ranges) in
    lease-held s c.args.self.now.holds c.args.hold c.in-Some.granted c.requires.holds (sym c.in-Some.ensures)

pub returns-in-Some-clause-holds : goal.returns-in-Some-clause-holds
returns-in-Some-clause-holds g c =
    let wire = g.W.Wire.wire c.args.self.now.dax.driver.wire in
    let v = g.F.FileBoard.board c.args.self.now.dax.files in
    let m = g.R.MapBoard.map c.args.self.now.dax.ranges in
    let w = g.F.FileBoard.board c.unlease.new.self in
    let k = g.R.MapBoard.map c.unpin.new.self in
    let h = c.args.self.now.holds in
    let f = c.in-Some.granted in
    subst (λ (t : Stand). HasHolds t c.take_out.new.self) (sym (given-back wire v w m k f c.unlease.ensures c.unpin.ensures)) (
    subst (λ (j : Holds). HasHolds (given_back (stand wire v m) f) j) (sym c.take_out.ensures) (
    HasHolds-back (stand wire v m) h c.args.hold f c.requires.holds (sym c.in-Some.ensures)))

pub returns-in-Some-clause-refusals : goal.returns-in-Some-clause-refusals
returns-in-Some-clause-refusals g c = KeepsRefusals-unleased (g.F.FileBoard.board c.args.self.now.dax.files) (g.F.FileBoard.board c.unlease.new.self) c.in-Some.granted.file (c.requires.holds.each c.args.hold c.in-Some.granted (sym c.in-Some.ensures)).file c.unlease.ensures
