use Rattle.std.proofs.Common.{◌∙◌}
use Rattle.guest_dax.specs.Stands.{stand}
use Rattle.guest_io.proofs.HoldLaws.{pins-few, leases-few, HasHolds-leaves}
use Rattle.guest_run.specs.Telling.{HasFields}
use Rattle.guest_run.proofs.Coming.{still_no_looks, comes_read, comes_written, comes_filled, comes_size, comes_truncated, comes_held, comes_unheld_by, comes_loaded, comes_stored, comes_released, comes_unreleased_by}
use Rattle.guest_run.proofs.Tallies.{read_counts, written_counts, sent_counts, truncated_counts, held_counts, unheld_counts, loaded_counts, stored_counts, released_counts, unreleased_counts}
use Rattle.guest_run.proofs.workers.ask.Goals as goal

pub read-requires-clause-few : goal.read-requires-clause-few
read-requires-clause-few g c = pins-few _ _ c.requires.idle.holds

pub write-requires-clause-few : goal.write-requires-clause-few
write-requires-clause-few g c = pins-few _ _ c.requires.idle.holds

pub write-requires-clause-leases : goal.write-requires-clause-leases
write-requires-clause-leases g c = leases-few _ _ c.requires.idle.holds

pub write-requires-in-Ok-clause-few : goal.write-requires-in-Ok-clause-few
write-requires-in-Ok-clause-few g c = pins-few _ _ c.requires.idle.holds

pub write-requires-in-Ok-clause-leases : goal.write-requires-in-Ok-clause-leases
write-requires-in-Ok-clause-leases g c = leases-few _ _ c.requires.idle.holds

pub returns-in-Read-clause-holds : goal.returns-in-Read-clause-holds
returns-in-Read-clause-holds g c = rw c.read.ensures.holds (HasHolds-leaves _ _ _ c.read.ensures.leaves c.requires.idle.holds)

pub returns-in-Read-clause-comes : goal.returns-in-Read-clause-comes
returns-in-Read-clause-comes g c = rw c.in-Read.is (comes_read _ _ _ _ _ _ _ _ _ _ c.requires.idle.honest c.requires.idle.holds c.read.ensures.holds c.read.ensures.leaves.map.count c.read.ensures.reads c.told.ensures.told)

pub returns-in-Read-clause-counts : goal.returns-in-Read-clause-counts
returns-in-Read-clause-counts g c =
    let s = stand (g.W.Wire.wire c.args.guest.now.dax.driver.wire) (g.F.FileBoard.board c.args.guest.now.dax.files) (g.R.MapBoard.map c.args.guest.now.dax.ranges) in
    let t = stand (g.W.Wire.wire c.read.new.self.dax.driver.wire) (g.F.FileBoard.board c.read.new.self.dax.files) (g.R.MapBoard.map c.read.new.self.dax.ranges) in
    read_counts s t _ _ _ _ _ _ _ c.read.ensures.leaves.map.count c.read.ensures.reads c.read.ensures.rounds c.read.ensures.refusals c.told.ensures.told

pub returns-in-Write-clause-holds : goal.returns-in-Write-clause-holds
returns-in-Write-clause-holds g c = rw c.write.ensures.holds (HasHolds-leaves _ _ _ c.write.ensures.leaves c.requires.idle.holds)

pub returns-in-Write-clause-comes : goal.returns-in-Write-clause-comes
returns-in-Write-clause-comes g c = rw c.in-Write.is (comes_written _ _ _ _ _ _ _ _ _ _ _ c.as_slice.ensures c.requires.idle.honest c.requires.idle.holds c.write.ensures.holds c.write.ensures.leaves.map.count c.write.ensures.writes c.told-in-Write.ensures.told)

pub returns-in-Write-clause-counts : goal.returns-in-Write-clause-counts
returns-in-Write-clause-counts g c =
    let s = stand (g.W.Wire.wire c.args.guest.now.dax.driver.wire) (g.F.FileBoard.board c.args.guest.now.dax.files) (g.R.MapBoard.map c.args.guest.now.dax.ranges) in
    let t = stand (g.W.Wire.wire c.write.new.self.dax.driver.wire) (g.F.FileBoard.board c.write.new.self.dax.files) (g.R.MapBoard.map c.write.new.self.dax.ranges) in
    written_counts s t _ _ _ _ _ _ _ c.write.ensures.leaves.map.count c.write.ensures.writes c.write.ensures.rounds c.write.ensures.refusals c.told-in-Write.ensures.told

pub returns-in-Ok-clause-holds : goal.returns-in-Ok-clause-holds
returns-in-Ok-clause-holds g c = rw c.write-in-Ok.ensures.holds (HasHolds-leaves _ _ _ c.write-in-Ok.ensures.leaves c.requires.idle.holds)

pub returns-in-Ok-clause-comes : goal.returns-in-Ok-clause-comes
returns-in-Ok-clause-comes g c = rw c.in-Fill.is (comes_filled _ _ _ _ _ _ _ _ _ _ _ _ (c.as_slice-in-Ok.ensures.value ∙ c.in-Ok.ensures {u = tt}) c.requires.idle.honest c.requires.idle.holds c.write-in-Ok.ensures.holds c.write-in-Ok.ensures.leaves.map.count c.write-in-Ok.ensures.writes c.told-in-Ok.ensures.told)

pub returns-in-Ok-clause-counts : goal.returns-in-Ok-clause-counts
returns-in-Ok-clause-counts g c =
    let s = stand (g.W.Wire.wire c.args.guest.now.dax.driver.wire) (g.F.FileBoard.board c.args.guest.now.dax.files) (g.R.MapBoard.map c.args.guest.now.dax.ranges) in
    let t = stand (g.W.Wire.wire c.write-in-Ok.new.self.dax.driver.wire) (g.F.FileBoard.board c.write-in-Ok.new.self.dax.files) (g.R.MapBoard.map c.write-in-Ok.new.self.dax.ranges) in
    written_counts s t _ _ _ _ _ _ _ c.write-in-Ok.ensures.leaves.map.count c.write-in-Ok.ensures.writes c.write-in-Ok.ensures.rounds c.write-in-Ok.ensures.refusals c.told-in-Ok.ensures.told

pub returns-in-Size-clause-holds : goal.returns-in-Size-clause-holds
returns-in-Size-clause-holds g c = rw c.size.ensures.holds (HasHolds-leaves _ _ _ c.size.ensures.leaves c.requires.idle.holds)

pub returns-in-Size-clause-comes : goal.returns-in-Size-clause-comes
returns-in-Size-clause-comes g c = rw c.in-Size.is (comes_size _ _ _ _ _ _ _ _ (still_no_looks _ _ c.size.ensures.rest.map c.requires.idle.looks) c.requires.idle.honest c.size.ensures.holds c.size.ensures.sends c.told-in-Size.ensures.told)

pub returns-in-Size-clause-counts : goal.returns-in-Size-clause-counts
returns-in-Size-clause-counts g c =
    let s = stand (g.W.Wire.wire c.args.guest.now.dax.driver.wire) (g.F.FileBoard.board c.args.guest.now.dax.files) (g.R.MapBoard.map c.args.guest.now.dax.ranges) in
    let t = stand (g.W.Wire.wire c.size.new.self.dax.driver.wire) (g.F.FileBoard.board c.size.new.self.dax.files) (g.R.MapBoard.map c.size.new.self.dax.ranges) in
    sent_counts s t _ _ _ _ _ _ _ c.size.ensures.sends c.size.ensures.rounds c.size.ensures.refusals c.told-in-Size.ensures.told

pub returns-in-Truncate-clause-holds : goal.returns-in-Truncate-clause-holds
returns-in-Truncate-clause-holds g c = rw c.truncate.ensures.holds (HasHolds-leaves _ _ _ c.truncate.ensures.leaves c.requires.idle.holds)

pub returns-in-Truncate-clause-comes : goal.returns-in-Truncate-clause-comes
returns-in-Truncate-clause-comes g c = rw c.in-Truncate.is (comes_truncated _ _ _ _ _ _ _ _ _ (still_no_looks _ _ c.truncate.ensures.map c.requires.idle.looks) c.requires.idle.honest c.truncate.ensures.holds c.truncate.ensures.truncates c.told-in-Truncate.ensures.told)

pub returns-in-Truncate-clause-counts : goal.returns-in-Truncate-clause-counts
returns-in-Truncate-clause-counts g c =
    let s = stand (g.W.Wire.wire c.args.guest.now.dax.driver.wire) (g.F.FileBoard.board c.args.guest.now.dax.files) (g.R.MapBoard.map c.args.guest.now.dax.ranges) in
    let t = stand (g.W.Wire.wire c.truncate.new.self.dax.driver.wire) (g.F.FileBoard.board c.truncate.new.self.dax.files) (g.R.MapBoard.map c.truncate.new.self.dax.ranges) in
    truncated_counts s t _ _ _ _ _ _ _ _ c.in-Truncate.is c.requires.call c.requires.idle.home c.truncate.ensures.truncates c.truncate.ensures.rounds c.truncate.ensures.refusals c.told-in-Truncate.ensures.told

pub returns-in-Ok-hold-clause-comes : goal.returns-in-Ok-hold-clause-comes
returns-in-Ok-hold-clause-comes g c = rw c.in-Hold.is (comes_held _ _ _ _ _ _ _ _ _ _ (c.hold.ensures.entries c.requires.idle.honest) c.in-Ok-hold.ensures.asks c.held_line.ensures.line)

pub returns-in-Ok-hold-clause-counts : goal.returns-in-Ok-hold-clause-counts
returns-in-Ok-hold-clause-counts g c =
    let s = stand (g.W.Wire.wire c.args.guest.now.dax.driver.wire) (g.F.FileBoard.board c.args.guest.now.dax.files) (g.R.MapBoard.map c.args.guest.now.dax.ranges) in
    let t = stand (g.W.Wire.wire c.hold.new.self.dax.driver.wire) (g.F.FileBoard.board c.hold.new.self.dax.files) (g.R.MapBoard.map c.hold.new.self.dax.ranges) in
    held_counts s t c.args.call.now _ _ c.held_line.ensures.line c.in-Ok-hold.ensures.rounds c.hold.ensures.refusals

pub returns-in-Err-hold-clause-comes : goal.returns-in-Err-hold-clause-comes
returns-in-Err-hold-clause-comes g c = comes_unheld_by _ _ _ _ c.args.number _ _ _ _ _ c.in-Hold.is c.requires.idle.honest c.requires.idle.holds c.in-Err-hold.ensures.rest.map.count (c.in-Err-hold.ensures.entries c.requires.idle.honest) c.in-Err-hold.ensures.asks

pub returns-in-Err-hold-clause-counts : goal.returns-in-Err-hold-clause-counts
returns-in-Err-hold-clause-counts g c =
    let s = stand (g.W.Wire.wire c.args.guest.now.dax.driver.wire) (g.F.FileBoard.board c.args.guest.now.dax.files) (g.R.MapBoard.map c.args.guest.now.dax.ranges) in
    let t = stand (g.W.Wire.wire c.hold.new.self.dax.driver.wire) (g.F.FileBoard.board c.hold.new.self.dax.files) (g.R.MapBoard.map c.hold.new.self.dax.ranges) in
    unheld_counts s t _ _ _ _ _ _ _ c.in-Hold.is c.in-Err-hold.ensures.rest.map.count c.in-Err-hold.ensures.asks c.in-Err-hold.ensures.rounds c.in-Err-hold.ensures.refusals

pub returns-in-Load-clause-comes : goal.returns-in-Load-clause-comes
returns-in-Load-clause-comes g c = rw c.in-Load.is (comes_loaded _ _ _ _ _ _ _ _ _ _ (c.load.ensures.looks c.requires.idle.looks) c.load.ensures.holds c.load.ensures.accesses c.told-in-Load.ensures.told)

pub returns-in-Load-clause-counts : goal.returns-in-Load-clause-counts
returns-in-Load-clause-counts g c =
    let s = stand (g.W.Wire.wire c.args.guest.now.dax.driver.wire) (g.F.FileBoard.board c.args.guest.now.dax.files) (g.R.MapBoard.map c.args.guest.now.dax.ranges) in
    let t = stand (g.W.Wire.wire c.load.new.self.dax.driver.wire) (g.F.FileBoard.board c.load.new.self.dax.files) (g.R.MapBoard.map c.load.new.self.dax.ranges) in
    rw c.in-Load.is (loaded_counts s t c.args.guest.now.holds c.args.number _ _ _ _ _ c.load.ensures.accesses c.load.ensures.rounds c.load.ensures.refusals c.told-in-Load.ensures.told)

pub returns-in-Store-clause-comes : goal.returns-in-Store-clause-comes
returns-in-Store-clause-comes g c = rw c.in-Store.is (comes_stored _ _ _ _ _ _ _ _ _ _ _ c.as_slice-in-Store.ensures (c.store.ensures.looks c.requires.idle.looks) c.store.ensures.holds c.store.ensures.accesses c.told-in-Store.ensures.told)

pub returns-in-Store-clause-counts : goal.returns-in-Store-clause-counts
returns-in-Store-clause-counts g c =
    let s = stand (g.W.Wire.wire c.args.guest.now.dax.driver.wire) (g.F.FileBoard.board c.args.guest.now.dax.files) (g.R.MapBoard.map c.args.guest.now.dax.ranges) in
    let t = stand (g.W.Wire.wire c.store.new.self.dax.driver.wire) (g.F.FileBoard.board c.store.new.self.dax.files) (g.R.MapBoard.map c.store.new.self.dax.ranges) in
    rw c.in-Store.is (stored_counts s t c.args.guest.now.holds c.args.number _ _ _ _ _ _ c.as_slice-in-Store.ensures c.store.ensures.accesses c.store.ensures.rounds c.store.ensures.refusals c.told-in-Store.ensures.told)

pub returns-in-Ok-release-clause-comes : goal.returns-in-Ok-release-clause-comes
returns-in-Ok-release-clause-comes g c =
    let t = stand (g.W.Wire.wire c.release.new.self.dax.driver.wire) (g.F.FileBoard.board c.release.new.self.dax.files) (g.R.MapBoard.map c.release.new.self.dax.ranges) in
    let r = c.in-Ok-release.ensures.releases in
    rw c.in-Release.is (comes_released _ t c.args.guest.now.holds c.release.new.self.holds c.args.number _ (c.release.ensures.looks c.requires.idle.looks) c.release.ensures.entries r.0 r.1 r.3)

pub returns-in-Ok-release-clause-counts : goal.returns-in-Ok-release-clause-counts
returns-in-Ok-release-clause-counts g c =
    let s = stand (g.W.Wire.wire c.args.guest.now.dax.driver.wire) (g.F.FileBoard.board c.args.guest.now.dax.files) (g.R.MapBoard.map c.args.guest.now.dax.ranges) in
    let t = stand (g.W.Wire.wire c.release.new.self.dax.driver.wire) (g.F.FileBoard.board c.release.new.self.dax.files) (g.R.MapBoard.map c.release.new.self.dax.ranges) in
    released_counts s t c.args.call.now c.release.ensures.rounds c.release.ensures.refusals

pub returns-in-Ok-release-clause-fields : goal.returns-in-Ok-release-clause-fields
unfolding HasFields
returns-in-Ok-release-clause-fields g c = tt

pub returns-in-Err-release-clause-comes : goal.returns-in-Err-release-clause-comes
returns-in-Err-release-clause-comes g c = comes_unreleased_by _ _ _ _ c.args.number _ _ _ c.in-Release.is (c.in-Err-release.ensures.looks c.requires.idle.looks) c.in-Err-release.ensures.entries c.in-Err-release.ensures.releases

pub returns-in-Err-release-clause-counts : goal.returns-in-Err-release-clause-counts
returns-in-Err-release-clause-counts g c =
    let s = stand (g.W.Wire.wire c.args.guest.now.dax.driver.wire) (g.F.FileBoard.board c.args.guest.now.dax.files) (g.R.MapBoard.map c.args.guest.now.dax.ranges) in
    let t = stand (g.W.Wire.wire c.release.new.self.dax.driver.wire) (g.F.FileBoard.board c.release.new.self.dax.files) (g.R.MapBoard.map c.release.new.self.dax.ranges) in
    unreleased_counts s t _ _ _ _ _ c.in-Err-release.ensures.releases c.in-Err-release.ensures.rounds c.in-Err-release.ensures.refusals
