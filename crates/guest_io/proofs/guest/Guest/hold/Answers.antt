use Rattle.std.proofs.Common.{◌∙◌, ap, sym, subst, Result, Ok, Err, arith}
use Rattle.plain_file.specs.Board.{BoardView}
use Rattle.guest_dax.specs.Stands.{stand}
use Rattle.guest_dax.specs.declared.pins.Pinned.{Pinned}
use Rattle.guest_dax.specs.declared.refusals.DaxRefusal.{DaxRefusal}
use Rattle.guest_io.specs.declared.guest.Holds.{Holds}
use Rattle.guest_io.specs.Chunks.{Gets}
use Rattle.guest_io.specs.Holds.{HasHolds, AsksHold, granted_one, refused_one}
use Rattle.guest_io.proofs.HoldLaws.{pins-few, leases-few}
use Rattle.guest_io.proofs.HoldGranting.{unlent, under-by, gets-lent, rest-after, asks-granted, holds-granted, holds-refused, asks-refused}
use Rattle.guest_io.proofs.Counting.{refusals-got, refusals-refused}
use Rattle.guest_io.proofs.guest.Guest.hold.Goals as goal

pub lease-noted-requires-clause-few : goal.lease-noted-requires-clause-few
lease-noted-requires-clause-few g c =
    leases-few (stand (g.W.Wire.wire c.args.self.now.dax.driver.wire) (g.F.FileBoard.board c.args.self.now.dax.files) (g.R.MapBoard.map c.args.self.now.dax.ranges)) c.args.self.now.holds c.requires.holds

pub get_chunk-requires-clause-few : goal.get_chunk-requires-clause-few
get_chunk-requires-clause-few g c =
    let k = pins-few (stand (g.W.Wire.wire c.args.self.now.dax.driver.wire) (g.F.FileBoard.board c.args.self.now.dax.files) (g.R.MapBoard.map c.args.self.now.dax.ranges)) c.args.self.now.holds c.requires.holds in
    omega (arith, k)

pub returns-in-Ok-clause-holds : goal.returns-in-Ok-clause-holds
returns-in-Ok-clause-holds g c =
    let wire = g.W.Wire.wire c.args.self.now.dax.driver.wire in
    let v = g.F.FileBoard.board c.args.self.now.dax.files in
    let map = g.R.MapBoard.map c.args.self.now.dax.ranges in
    let s = stand wire v map in
    let l = g.F.FileBoard.board c.lease-noted.new.self in
    let w = g.F.FileBoard.board c.get_chunk.new.self.dax.files in
    let t = stand (g.W.Wire.wire c.get_chunk.new.self.dax.driver.wire) w (g.R.MapBoard.map c.get_chunk.new.self.dax.ranges) in
    let h = c.args.self.now.holds in
    let z = c.lease-noted.result in
    let u = under-by wire v l map t c.args.file z (omega (arith, c.requires.file, c.requires.home.stands.refs_of)) c.sound.ensures.counted c.lease-noted.ensures c.get_chunk.ensures.keeps in
    let gets = gets-lent wire v l map t c.args.file z c.args.chunk c.args.mode (Ok c.in-Ok.pinned) c.lease-noted.ensures.1 (subst (λ (r : Result Pinned DaxRefusal). Gets (stand wire l map) c.args.file c.args.chunk c.args.mode r t) c.in-Ok.is c.get_chunk.ensures.gets) in
    let is = c.grant.ensures ∙ ap (λ (j : Holds). granted_one j (record { file = c.args.file; chunk = c.args.chunk; mode = c.args.mode; pinned = c.in-Ok.pinned; end = c.end_of-end.result })) c.get_chunk.ensures.holds in
    holds-granted s t h c.grant.new.self c.args.file z c.args.chunk c.end_of-end.result c.args.mode c.in-Ok.pinned u c.requires.holds c.requires.few c.requires.chunk c.end_of-end.ensures is gets

pub returns-in-Ok-clause-rest : goal.returns-in-Ok-clause-rest
returns-in-Ok-clause-rest g c =
    let wire = g.W.Wire.wire c.args.self.now.dax.driver.wire in
    let v = g.F.FileBoard.board c.args.self.now.dax.files in
    let map = g.R.MapBoard.map c.args.self.now.dax.ranges in
    let s = stand wire v map in
    let l = g.F.FileBoard.board c.lease-noted.new.self in
    let w = g.F.FileBoard.board c.get_chunk.new.self.dax.files in
    let t = stand (g.W.Wire.wire c.get_chunk.new.self.dax.driver.wire) w (g.R.MapBoard.map c.get_chunk.new.self.dax.ranges) in
    let h = c.args.self.now.holds in
    let z = c.lease-noted.result in
    let u = under-by wire v l map t c.args.file z (omega (arith, c.requires.file, c.requires.home.stands.refs_of)) c.sound.ensures.counted c.lease-noted.ensures c.get_chunk.ensures.keeps in
    let gets = gets-lent wire v l map t c.args.file z c.args.chunk c.args.mode (Ok c.in-Ok.pinned) c.lease-noted.ensures.1 (subst (λ (r : Result Pinned DaxRefusal). Gets (stand wire l map) c.args.file c.args.chunk c.args.mode r t) c.in-Ok.is c.get_chunk.ensures.gets) in
    rest-after s t c.args.file z u c.in-Ok.pinned.range c.requires.moves gets.0

pub returns-in-Ok-clause-asks : goal.returns-in-Ok-clause-asks
returns-in-Ok-clause-asks g c =
    let wire = g.W.Wire.wire c.args.self.now.dax.driver.wire in
    let v = g.F.FileBoard.board c.args.self.now.dax.files in
    let map = g.R.MapBoard.map c.args.self.now.dax.ranges in
    let s = stand wire v map in
    let l = g.F.FileBoard.board c.lease-noted.new.self in
    let w = g.F.FileBoard.board c.get_chunk.new.self.dax.files in
    let t = stand (g.W.Wire.wire c.get_chunk.new.self.dax.driver.wire) w (g.R.MapBoard.map c.get_chunk.new.self.dax.ranges) in
    let h = c.args.self.now.holds in
    let z = c.lease-noted.result in
    let u = under-by wire v l map t c.args.file z (omega (arith, c.requires.file, c.requires.home.stands.refs_of)) c.sound.ensures.counted c.lease-noted.ensures c.get_chunk.ensures.keeps in
    let gets = gets-lent wire v l map t c.args.file z c.args.chunk c.args.mode (Ok c.in-Ok.pinned) c.lease-noted.ensures.1 (subst (λ (r : Result Pinned DaxRefusal). Gets (stand wire l map) c.args.file c.args.chunk c.args.mode r t) c.in-Ok.is c.get_chunk.ensures.gets) in
    let is = c.grant.ensures ∙ ap (λ (j : Holds). granted_one j (record { file = c.args.file; chunk = c.args.chunk; mode = c.args.mode; pinned = c.in-Ok.pinned; end = c.end_of-end.result })) c.get_chunk.ensures.holds in
    asks-granted s t c.args.file z u h c.grant.new.self c.args.chunk c.end_of-end.result c.args.mode c.in-Ok.pinned is c.end_of-end.ensures gets

pub returns-in-Err-clause-holds : goal.returns-in-Err-clause-holds
returns-in-Err-clause-holds g c =
    let wire = g.W.Wire.wire c.args.self.now.dax.driver.wire in
    let v = g.F.FileBoard.board c.args.self.now.dax.files in
    let map = g.R.MapBoard.map c.args.self.now.dax.ranges in
    let s = stand wire v map in
    let l = g.F.FileBoard.board c.lease-noted.new.self in
    let w = g.F.FileBoard.board c.get_chunk.new.self.dax.files in
    let t = stand (g.W.Wire.wire c.get_chunk.new.self.dax.driver.wire) w (g.R.MapBoard.map c.get_chunk.new.self.dax.ranges) in
    let h = c.args.self.now.holds in
    let z = c.lease-noted.result in
    let u = under-by wire v l map t c.args.file z (omega (arith, c.requires.file, c.requires.home.stands.refs_of)) c.sound.ensures.counted c.lease-noted.ensures c.get_chunk.ensures.keeps in
    let gets = gets-lent wire v l map t c.args.file z c.args.chunk c.args.mode (Err c.in-Err.refusal) c.lease-noted.ensures.1 (subst (λ (r : Result Pinned DaxRefusal). Gets (stand wire l map) c.args.file c.args.chunk c.args.mode r t) c.in-Err.is c.get_chunk.ensures.gets) in
    let is = c.refuse.ensures ∙ ap (λ (j : Holds). refused_one j) c.get_chunk.ensures.holds in
    subst (λ (b : BoardView). HasHolds (record t { files = b }) c.refuse.new.self) (sym c.unlease.ensures) (
    subst (λ (j : Holds). HasHolds (unlent t c.args.file) j) (sym is) (
    holds-refused s t c.args.file z u h c.args.chunk c.args.mode c.in-Err.refusal c.requires.holds c.requires.few gets))

pub returns-in-Err-clause-asks : goal.returns-in-Err-clause-asks
returns-in-Err-clause-asks g c =
    let wire = g.W.Wire.wire c.args.self.now.dax.driver.wire in
    let v = g.F.FileBoard.board c.args.self.now.dax.files in
    let map = g.R.MapBoard.map c.args.self.now.dax.ranges in
    let s = stand wire v map in
    let l = g.F.FileBoard.board c.lease-noted.new.self in
    let w = g.F.FileBoard.board c.get_chunk.new.self.dax.files in
    let t = stand (g.W.Wire.wire c.get_chunk.new.self.dax.driver.wire) w (g.R.MapBoard.map c.get_chunk.new.self.dax.ranges) in
    let h = c.args.self.now.holds in
    let z = c.lease-noted.result in
    let u = under-by wire v l map t c.args.file z (omega (arith, c.requires.file, c.requires.home.stands.refs_of)) c.sound.ensures.counted c.lease-noted.ensures c.get_chunk.ensures.keeps in
    let gets = gets-lent wire v l map t c.args.file z c.args.chunk c.args.mode (Err c.in-Err.refusal) c.lease-noted.ensures.1 (subst (λ (r : Result Pinned DaxRefusal). Gets (stand wire l map) c.args.file c.args.chunk c.args.mode r t) c.in-Err.is c.get_chunk.ensures.gets) in
    let is = c.refuse.ensures ∙ ap (λ (j : Holds). refused_one j) c.get_chunk.ensures.holds in
    subst (λ (b : BoardView). AsksHold s h c.args.file c.args.chunk c.args.mode (Err c.refusal_of_dax.result) (record t { files = b }) c.refuse.new.self) (sym c.unlease.ensures) (
    subst (λ (j : Holds). AsksHold s h c.args.file c.args.chunk c.args.mode (Err c.refusal_of_dax.result) (unlent t c.args.file) j) (sym is) (
    asks-refused s t c.args.file z u h c.args.chunk c.args.mode c.in-Err.refusal c.refusal_of_dax.result c.requires.ranges gets c.refusal_of_dax.ensures))

pub returns-in-Ok-clause-refusals : goal.returns-in-Ok-clause-refusals
returns-in-Ok-clause-refusals g c =
    refusals-got (g.F.FileBoard.board c.args.self.now.dax.files) (g.F.FileBoard.board c.lease-noted.new.self) (g.F.FileBoard.board c.get_chunk.new.self.dax.files) c.args.file c.lease-noted.result (omega (arith, c.requires.file, c.requires.home.stands.refs_of)) c.lease-noted.ensures.1 c.get_chunk.ensures.keeps.files

pub returns-in-Err-clause-refusals : goal.returns-in-Err-clause-refusals
returns-in-Err-clause-refusals g c =
    let v = g.F.FileBoard.board c.args.self.now.dax.files in
    let l = g.F.FileBoard.board c.lease-noted.new.self in
    let w = g.F.FileBoard.board c.get_chunk.new.self.dax.files in
    refusals-refused v l w (g.F.FileBoard.board c.unlease.new.self) c.args.file c.lease-noted.result (omega (arith, c.requires.file, c.requires.home.stands.refs_of)) c.lease-noted.ensures.1 c.unlease.ensures c.get_chunk.ensures.keeps.files
