use Rattle.std.proofs.Common.{◌≡◌, ◌∙◌, ap, arith, List, length}
use Rattle.plain_file.specs.declared.operations.Way.TheVariants as ways
use Rattle.plain_file.specs.Board.{BoardView}
use Rattle.plain_file.specs.Turns.{unleased}
use Rattle.guest_wire.specs.declared.driver.FileRef.{FileRef}
use Rattle.guest_dax.specs.Stands.{stand}
use Rattle.guest_io.proofs.Leasing.{after_lease, leaves-request, writes-request, leaves-through, writes-through}
use Rattle.guest_io.proofs.Counting.{refusals-request, refusals-under}
use Rattle.guest_io.proofs.guest.Guest.write_leased.Goals as goal

pub returns-then-end-seen-clause-leaves : goal.returns-then-end-seen-clause-leaves
returns-then-end-seen-clause-leaves g c =
    let wire = g.W.Wire.wire c.args.self.now.dax.driver.wire in
    let v = g.F.FileBoard.board c.args.self.now.dax.files in
    let map = g.R.MapBoard.map c.args.self.now.dax.ranges in
    let l = g.F.FileBoard.board c.lease-seen.new.self in
    let n = g.F.FileBoard.board c.unlease.new.self in
    let t = stand (g.W.Wire.wire c.send_write.new.self.dax.driver.wire) (g.F.FileBoard.board c.send_write.new.self.dax.files) (g.R.MapBoard.map c.send_write.new.self.dax.ranges) in
    let is : n ≡ after_lease v c.args.file c.lease-seen.result = c.unlease.ensures ∙ ap (λ (b : BoardView). unleased b c.args.file) c.lease-seen.ensures.1 in
    leaves-request wire map v n t c.args.file c.args.call c.lease-seen.result (ways.ReqSaw c.lease-seen.result) (omega (arith, c.requires.file, c.requires.home.stands.refs_of)) is c.send_write.ensures.rest

pub returns-then-end-seen-clause-writes : goal.returns-then-end-seen-clause-writes
returns-then-end-seen-clause-writes g c =
    let wire = g.W.Wire.wire c.args.self.now.dax.driver.wire in
    let v = g.F.FileBoard.board c.args.self.now.dax.files in
    let map = g.R.MapBoard.map c.args.self.now.dax.ranges in
    let l = g.F.FileBoard.board c.lease-seen.new.self in
    let n = g.F.FileBoard.board c.unlease.new.self in
    let t = stand (g.W.Wire.wire c.send_write.new.self.dax.driver.wire) (g.F.FileBoard.board c.send_write.new.self.dax.files) (g.R.MapBoard.map c.send_write.new.self.dax.ranges) in
    let is : n ≡ after_lease v c.args.file c.lease-seen.result = c.unlease.ensures ∙ ap (λ (b : BoardView). unleased b c.args.file) c.lease-seen.ensures.1 in
    writes-request wire map v n t c.args.file c.args.call c.args.off c.args.bytes.now c.lease-seen.result c.send_write.result c.requires.ranges (omega (arith, c.requires.file, c.requires.home.stands.refs_of)) (omega (arith, c.if-end-seen.true)) c.requires.looks c.lease-seen.ensures.0 is c.send_write.ensures.rest c.send_write.ensures.sends

pub returns-clause-leaves : goal.returns-clause-leaves
returns-clause-leaves g c =
    let wire = g.W.Wire.wire c.args.self.now.dax.driver.wire in
    let v = g.F.FileBoard.board c.args.self.now.dax.files in
    let map = g.R.MapBoard.map c.args.self.now.dax.ranges in
    let l = g.F.FileBoard.board c.lease-seen.new.self in
    let w = g.F.FileBoard.board c.write_through-written.new.self.dax.files in
    let n = g.F.FileBoard.board c.unlease-2.new.self in
    let wire' = g.W.Wire.wire c.write_through-written.new.self.dax.driver.wire in
    let map' = g.R.MapBoard.map c.write_through-written.new.self.dax.ranges in
    let refs = ap (λ (r : List FileRef). length r) c.write_through-written.ensures.refs in
    leaves-through wire wire' map map' v l w n c.args.file c.lease-seen.result (omega (arith, c.requires.file, c.requires.home.stands.refs_of)) (omega (arith, c.requires.file, refs, c.write_through-written.ensures.home.stands.refs_of)) c.lease-seen.ensures.1 c.unlease-2.ensures c.write_through-written.ensures.leaves

pub returns-clause-writes : goal.returns-clause-writes
returns-clause-writes g c =
    let wire = g.W.Wire.wire c.args.self.now.dax.driver.wire in
    let v = g.F.FileBoard.board c.args.self.now.dax.files in
    let map = g.R.MapBoard.map c.args.self.now.dax.ranges in
    let l = g.F.FileBoard.board c.lease-seen.new.self in
    let w = g.F.FileBoard.board c.write_through-written.new.self.dax.files in
    let n = g.F.FileBoard.board c.unlease-2.new.self in
    let wire' = g.W.Wire.wire c.write_through-written.new.self.dax.driver.wire in
    let map' = g.R.MapBoard.map c.write_through-written.new.self.dax.ranges in
    let refs = ap (λ (r : List FileRef). length r) c.write_through-written.ensures.refs in
    writes-through wire wire' map map' v l w n c.args.file c.args.call c.args.off c.args.bytes.now c.lease-seen.result c.write_through-written.result c.requires.ranges (omega (arith, c.requires.file, c.requires.home.stands.refs_of)) (omega (arith, c.requires.file, refs, c.write_through-written.ensures.home.stands.refs_of)) (omega (arith, c.if-end-seen.false)) c.lease-seen.ensures.0 c.lease-seen.ensures.1 c.unlease-2.ensures c.write_through-written.ensures.leaves.files.hands c.write_through-written.ensures.goes

pub returns-then-end-seen-clause-refusals : goal.returns-then-end-seen-clause-refusals
returns-then-end-seen-clause-refusals g c =
    let v = g.F.FileBoard.board c.args.self.now.dax.files in
    let n = g.F.FileBoard.board c.unlease.new.self in
    let is : n ≡ after_lease v c.args.file c.lease-seen.result = c.unlease.ensures ∙ ap (λ (b : BoardView). unleased b c.args.file) c.lease-seen.ensures.1 in
    refusals-request v n (g.F.FileBoard.board c.send_write.new.self.dax.files) c.args.file c.args.call c.lease-seen.result (ways.ReqSaw c.lease-seen.result) (omega (arith, c.requires.file, c.requires.home.stands.refs_of)) is c.send_write.ensures.rest.files

pub returns-clause-refusals : goal.returns-clause-refusals
returns-clause-refusals g c =
    let v = g.F.FileBoard.board c.args.self.now.dax.files in
    let l = g.F.FileBoard.board c.lease-seen.new.self in
    let w = g.F.FileBoard.board c.write_through-written.new.self.dax.files in
    let refs = ap (λ (r : List FileRef). length r) c.write_through-written.ensures.refs in
    refusals-under v l w (g.F.FileBoard.board c.unlease-2.new.self) c.args.file c.lease-seen.result (omega (arith, c.requires.file, c.requires.home.stands.refs_of)) (omega (arith, c.requires.file, refs, c.write_through-written.ensures.home.stands.refs_of)) c.lease-seen.ensures.1 c.unlease-2.ensures c.write_through-written.ensures.refusals
