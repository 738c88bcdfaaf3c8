use Rattle.std.proofs.Common.{◌∙◌, subst, None, Result, Ok, Err, arith}
use Rattle.plain_file.specs.declared.operations.Way.TheVariants as ways
use Rattle.plain_file.specs.declared.refusals.Memory.{Memory}
use Rattle.guest_dax.specs.Stands.{stand}
use Rattle.guest_io.specs.declared.calls.Done.{Done}
use Rattle.guest_io.specs.Chunks.{AppliesDirect}
use Rattle.guest_io.proofs.HoldLaws.{pin-had, HasHolds-leaves}
use Rattle.guest_io.proofs.HoldAccess.{target-file, LeavesAll-looked, looked-by}
use Rattle.guest_io.proofs.guest.Guest.go_held.Goals as goal

pub target-requires : goal.target-requires
target-requires g c = (c.requires.holds.each c.requires.granted.0 c.args.granted c.requires.granted.1).range

pub unwrap-target-requires : goal.unwrap-target-requires
unwrap-target-requires g c =
    let s = stand (g.W.Wire.wire c.args.self.now.dax.driver.wire) (g.F.FileBoard.board c.args.self.now.dax.files) (g.R.MapBoard.map c.args.self.now.dax.ranges) in
    c.target.ensures.some (pin-had s c.args.self.now.holds c.requires.granted.0 c.args.granted c.requires.holds c.requires.granted.1)

pub apply_direct-requires-clause-file : goal.apply_direct-requires-clause-file
apply_direct-requires-clause-file g c =
    let s = stand (g.W.Wire.wire c.args.self.now.dax.driver.wire) (g.F.FileBoard.board c.args.self.now.dax.files) (g.R.MapBoard.map c.args.self.now.dax.ranges) in
    let had = pin-had s c.args.self.now.holds c.requires.granted.0 c.args.granted c.requires.holds c.requires.granted.1 in
    let x = c.requires.holds.each c.requires.granted.0 c.args.granted c.requires.granted.1 in
    let same = target-file c.target.result c.unwrap-target.result _ c.unwrap-target.ensures (c.target.ensures.pinned had) ∙ x.pinned in
    let low = x.file in
    omega (arith, same, low)

pub returns-in-Ok-clause-leaves : goal.returns-in-Ok-clause-leaves
returns-in-Ok-clause-leaves g c =
    let a = g.R.MapBoard.map c.args.self.now.dax.ranges in
    let b = g.R.MapBoard.map c.target.new.self in
    LeavesAll-looked (g.W.Wire.wire c.args.self.now.dax.driver.wire) (g.F.FileBoard.board c.args.self.now.dax.files) (g.F.FileBoard.board c.apply_direct.new.files) a b c.apply_direct.ensures.stays (looked-by a c.args.granted.pinned.range c.target.result b c.target.ensures.counted)

pub returns-in-Ok-clause-held : goal.returns-in-Ok-clause-held
returns-in-Ok-clause-held g c =
    let wire = g.W.Wire.wire c.args.self.now.dax.driver.wire in
    let v = g.F.FileBoard.board c.args.self.now.dax.files in
    let w = g.F.FileBoard.board c.apply_direct.new.files in
    let a = g.R.MapBoard.map c.args.self.now.dax.ranges in
    let b = g.R.MapBoard.map c.target.new.self in
    HasHolds-leaves (stand wire v a) (stand wire w b) c.args.self.now.holds (LeavesAll-looked wire v w a b c.apply_direct.ensures.stays (looked-by a c.args.granted.pinned.range c.target.result b c.target.ensures.counted)) c.requires.holds

pub returns-in-Ok-clause-goes : goal.returns-in-Ok-clause-goes
returns-in-Ok-clause-goes g c =
    let v = g.F.FileBoard.board c.args.self.now.dax.files in
    let w = g.F.FileBoard.board c.apply_direct.new.files in
    let s = stand (g.W.Wire.wire c.args.self.now.dax.driver.wire) v (g.R.MapBoard.map c.args.self.now.dax.ranges) in
    let had = pin-had s c.args.self.now.holds c.requires.granted.0 c.args.granted c.requires.holds c.requires.granted.1 in
    let x = c.requires.holds.each c.requires.granted.0 c.args.granted c.requires.granted.1 in
    let same = target-file c.target.result c.unwrap-target.result _ c.unwrap-target.ensures (c.target.ensures.pinned had) ∙ x.pinned in
    let way = ways.Via c.args.granted.pinned.through None in
    subst (λ n. AppliesDirect v n c.args.call way c.args.op (Ok c.in-Ok.done) w) same (
    subst (λ (r : Result Done Memory). AppliesDirect v c.unwrap-target.result.file c.args.call way c.args.op r w) c.in-Ok.is c.apply_direct.ensures.applies)

pub returns-in-Err-clause-leaves : goal.returns-in-Err-clause-leaves
returns-in-Err-clause-leaves g c =
    let a = g.R.MapBoard.map c.args.self.now.dax.ranges in
    let b = g.R.MapBoard.map c.target.new.self in
    LeavesAll-looked (g.W.Wire.wire c.args.self.now.dax.driver.wire) (g.F.FileBoard.board c.args.self.now.dax.files) (g.F.FileBoard.board c.apply_direct.new.files) a b c.apply_direct.ensures.stays (looked-by a c.args.granted.pinned.range c.target.result b c.target.ensures.counted)

pub returns-in-Err-clause-held : goal.returns-in-Err-clause-held
returns-in-Err-clause-held g c =
    let wire = g.W.Wire.wire c.args.self.now.dax.driver.wire in
    let v = g.F.FileBoard.board c.args.self.now.dax.files in
    let w = g.F.FileBoard.board c.apply_direct.new.files in
    let a = g.R.MapBoard.map c.args.self.now.dax.ranges in
    let b = g.R.MapBoard.map c.target.new.self in
    HasHolds-leaves (stand wire v a) (stand wire w b) c.args.self.now.holds (LeavesAll-looked wire v w a b c.apply_direct.ensures.stays (looked-by a c.args.granted.pinned.range c.target.result b c.target.ensures.counted)) c.requires.holds

pub returns-in-Err-clause-goes : goal.returns-in-Err-clause-goes
returns-in-Err-clause-goes g c =
    let v = g.F.FileBoard.board c.args.self.now.dax.files in
    let w = g.F.FileBoard.board c.apply_direct.new.files in
    let s = stand (g.W.Wire.wire c.args.self.now.dax.driver.wire) v (g.R.MapBoard.map c.args.self.now.dax.ranges) in
    let had = pin-had s c.args.self.now.holds c.requires.granted.0 c.args.granted c.requires.holds c.requires.granted.1 in
    let x = c.requires.holds.each c.requires.granted.0 c.args.granted c.requires.granted.1 in
    let same = target-file c.target.result c.unwrap-target.result _ c.unwrap-target.ensures (c.target.ensures.pinned had) ∙ x.pinned in
    let way = ways.Via c.args.granted.pinned.through None in
    subst (λ n. AppliesDirect v n c.args.call way c.args.op (Err c.in-Err.field-0) w) same (
    subst (λ (r : Result Done Memory). AppliesDirect v c.unwrap-target.result.file c.args.call way c.args.op r w) c.in-Err.is c.apply_direct.ensures.applies)
