use Rattle.std.proofs.Common.{◌≡◌, refl, arith}
use Rattle.plain_file.specs.declared.operations.Way.TheVariants as ways
use Rattle.guest_dax.specs.Stands.{stand}
use Rattle.guest_io.proofs.Truncating.{under_bar, refused_under, leaves-barred, truncates-barred, leaves-refused}
use Rattle.guest_io.proofs.Counting.{CountsRefusal-barred}
use Rattle.guest_io.proofs.guest.Guest.truncate.Goals as goal

pub returns-in-Err-clause-leaves : goal.returns-in-Err-clause-leaves
returns-in-Err-clause-leaves g c =
    let old = stand (g.W.Wire.wire c.args.self.now.dax.driver.wire) (g.F.FileBoard.board c.args.self.now.dax.files) (g.R.MapBoard.map c.args.self.now.dax.ranges) in
    let new = stand (g.W.Wire.wire c.break_file.new.self.driver.wire) (g.F.FileBoard.board c.break_file.new.self.files) (g.R.MapBoard.map c.break_file.new.self.ranges) in
    let is : new ≡ refused_under old c.args.file c.in-Err.leased.count = rw (c.break_file.ensures.driver, c.break_file.ensures.ranges, c.in-Err.ensures.bars.3) (refl {a = refused_under old c.args.file c.in-Err.leased.count}) in
    leaves-refused old new c.args.file c.in-Err.leased.count (omega (arith, c.requires.file, c.requires.home.stands.refs_of)) is

pub returns-clause-leaves : goal.returns-clause-leaves
returns-clause-leaves g c =
    let old = stand (g.W.Wire.wire c.args.self.now.dax.driver.wire) (g.F.FileBoard.board c.args.self.now.dax.files) (g.R.MapBoard.map c.args.self.now.dax.ranges) in
    let mid = stand (g.W.Wire.wire c.break_file.new.self.driver.wire) (g.F.FileBoard.board c.break_file.new.self.files) (g.R.MapBoard.map c.break_file.new.self.ranges) in
    let new = stand (g.W.Wire.wire c.send_truncate-sent.new.self.dax.driver.wire) (g.F.FileBoard.board c.send_truncate-sent.new.self.dax.files) (g.R.MapBoard.map c.send_truncate-sent.new.self.dax.ranges) in
    let is : mid ≡ under_bar old c.args.file = rw (c.break_file.ensures.driver, c.break_file.ensures.ranges, c.in-Ok.ensures.bars.1) (refl {a = under_bar old c.args.file}) in
    leaves-barred old mid new c.args.file c.args.call ways.Req (g.F.FileBoard.board c.unbar.new.self) c.requires.bar is c.unbar.ensures c.send_truncate-sent.ensures.rest

pub returns-clause-truncates : goal.returns-clause-truncates
returns-clause-truncates g c =
    let old = stand (g.W.Wire.wire c.args.self.now.dax.driver.wire) (g.F.FileBoard.board c.args.self.now.dax.files) (g.R.MapBoard.map c.args.self.now.dax.ranges) in
    let mid = stand (g.W.Wire.wire c.break_file.new.self.driver.wire) (g.F.FileBoard.board c.break_file.new.self.files) (g.R.MapBoard.map c.break_file.new.self.ranges) in
    let new = stand (g.W.Wire.wire c.send_truncate-sent.new.self.dax.driver.wire) (g.F.FileBoard.board c.send_truncate-sent.new.self.dax.files) (g.R.MapBoard.map c.send_truncate-sent.new.self.dax.ranges) in
    let is : mid ≡ under_bar old c.args.file = rw (c.break_file.ensures.driver, c.break_file.ensures.ranges, c.in-Ok.ensures.bars.1) (refl {a = under_bar old c.args.file}) in
    truncates-barred old mid new c.args.file c.args.call c.args.size c.send_truncate-sent.result (g.F.FileBoard.board c.unbar.new.self) c.requires.bar c.in-Ok.ensures.bars.0 is c.unbar.ensures c.send_truncate-sent.ensures.sends

pub returns-clause-refusals : goal.returns-clause-refusals
returns-clause-refusals g c =
    let v = g.F.FileBoard.board c.args.self.now.dax.files in
    let m = g.F.FileBoard.board c.break_file.new.self.files in
    CountsRefusal-barred v m (g.F.FileBoard.board c.send_truncate-sent.new.self.dax.files) (g.F.FileBoard.board c.unbar.new.self) c.args.file c.args.call ways.Req c.send_truncate-sent.result c.in-Ok.ensures.bars.1 c.unbar.ensures c.send_truncate-sent.ensures.rest.files
