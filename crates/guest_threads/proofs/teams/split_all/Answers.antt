use Rattle.std.proofs.Common.{◌∙◌, ◌<◌, ap, sym, subst, refl, length, slice_get, arith}
use Rattle.guest_run.proofs.Places.{none_is}
use Rattle.dax_host.specs.Host.{host_wire}
use Rattle.file_share.specs.Boards.{Floored}
use Rattle.file_share.specs.Known.{Known as FilesKnown, child_pass as files_child}
use Rattle.file_share.proofs.BoardsCalls.{child_floored}
use Rattle.range_share.specs.Known.{Known as RangesKnown, child_pass as ranges_child}
use Rattle.guest_threads.specs.Jobs.{team}
use Rattle.guest_threads.proofs.Split.{files_begin, ranges_begin, files_next, ranges_next, files_table, ranges_table, files_free, files_give, ranges_give, child_moves, pushed_out}
use Rattle.guest_threads.proofs.teams.split_all.Goals as goal

pub loop-number-init : goal.loop-number-init
loop-number-init c = let none = c.in_ok-jobs.ensures.items in record {
  room = let e = c.in_ok-jobs.ensures.exact in omega arith;
  files = files_begin c.args.file_pass.now;
  ranges = ranges_begin c.args.range_pass.now;
  jobs = (ap length none, λ n j at. absurd (none_is j (ap (λ jobs. slice_get jobs n) (sym none) ∙ at)));
}

pub split-guest_files-requires-clause-table : goal.split-guest_files-requires-clause-table
split-guest_files-requires-clause-table c = ap (λ (p : FilesKnown). p.table) c.loop-number.invariant.files ∙ (files_table c.args.file_pass.now c.loop-number.number ∙ c.requires.tables.0)

pub split-guest_files-requires-clause-free : goal.split-guest_files-requires-clause-free
split-guest_files-requires-clause-free c =
    let low : c.loop-number.number < c.args.count = (let lt = c.loop-number-test.true in omega arith) in
    files_free (team c.args.daemon.now c.args.opened.now c.args.file_pass.now c.args.range_pass.now c.args.count) c.loop-number.number c.requires.team low c.loop-number.file_pass c.loop-number.invariant.files

pub split-guest_files-requires-clause-guest : goal.split-guest_files-requires-clause-guest
split-guest_files-requires-clause-guest c =
    let low : c.loop-number.number < c.args.count = (let lt = c.loop-number-test.true in omega arith) in
    files_give (team c.args.daemon.now c.args.opened.now c.args.file_pass.now c.args.range_pass.now c.args.count) c.loop-number.number c.requires.team low c.loop-number.file_pass c.loop-number.invariant.files

pub new-board-requires-clause-own : goal.new-board-requires-clause-own
new-board-requires-clause-own c =
    ap (λ (p : FilesKnown). p.table) c.split-guest_files.ensures.given
    ∙ (ap (λ (p : FilesKnown). p.table) c.loop-number.invariant.files ∙ (files_table c.args.file_pass.now c.loop-number.number ∙ c.requires.tables.0))

pub new-board-requires-clause-floored : goal.new-board-requires-clause-floored
new-board-requires-clause-floored c = subst (λ (p : FilesKnown). Floored p.view) (sym c.split-guest_files.ensures.given) (child_floored c.loop-number.file_pass c.loop-number.number)

pub split-guest_ranges-requires-clause-table : goal.split-guest_ranges-requires-clause-table
split-guest_ranges-requires-clause-table c = ap (λ (q : RangesKnown). q.table) c.loop-number.invariant.ranges ∙ (ranges_table c.args.range_pass.now c.loop-number.number ∙ c.requires.tables.1)

pub split-guest_ranges-requires-clause-guest : goal.split-guest_ranges-requires-clause-guest
split-guest_ranges-requires-clause-guest c =
    let low : c.loop-number.number < c.args.count = (let lt = c.loop-number-test.true in omega arith) in
    ranges_give (team c.args.daemon.now c.args.opened.now c.args.file_pass.now c.args.range_pass.now c.args.count) c.loop-number.number c.requires.team low c.loop-number.range_pass c.loop-number.invariant.ranges

pub new-map-requires-clause-own : goal.new-map-requires-clause-own
new-map-requires-clause-own c =
    ap (λ (q : RangesKnown). q.table) c.split-guest_ranges.ensures.given
    ∙ (ap (λ (q : RangesKnown). q.table) c.loop-number.invariant.ranges ∙ (ranges_table c.args.range_pass.now c.loop-number.number ∙ c.requires.tables.1))

pub new-map-requires-clause-may : goal.new-map-requires-clause-may
new-map-requires-clause-may c =
    let low : c.loop-number.number < c.args.count = (let lt = c.loop-number-test.true in omega arith) in
    child_moves (team c.args.daemon.now c.args.opened.now c.args.file_pass.now c.args.range_pass.now c.args.count) c.loop-number.number c.requires.team low
    c.loop-number.range_pass c.split-guest_ranges.result c.loop-number.invariant.ranges c.split-guest_ranges.ensures.given

pub loop-number-preserved : goal.loop-number-preserved
loop-number-preserved c =
    let inv = c.loop-number.invariant in
    let k = c.loop-number.number in
    let dax = c.new-guest.ensures.dax in record {
      room = let a = inv.room in let b = c.push.ensures.capacity in omega arith;
      files = files_next c.args.file_pass.now c.loop-number.file_pass c.split-guest_files.new.pass k inv.files c.split-guest_files.ensures.kept;
      ranges = ranges_next c.args.range_pass.now c.loop-number.range_pass c.split-guest_ranges.new.pass k inv.ranges c.split-guest_ranges.ensures.kept;
      jobs = pushed_out _ (team c.args.daemon.now c.args.opened.now c.args.file_pass.now c.args.range_pass.now c.args.count) k c.loop-number.jobs.items c.push.new.self.items c.push.result
          (c.push.ensures.succeeds (let n = inv.jobs.0 in let room = inv.room in let lt = c.loop-number-test.true in let l = c.loop-number.jobs.ok.0 in omega arith)) c.push.ensures.items inv.jobs record {
            wire = (λ i. host_wire (dax i).driver.wire) ∙ ((λ i. host_wire (c.new-dax.ensures.driver i).wire) ∙ c.in-Ok.ensures.wire);
            refs = (λ i. (dax i).refs) ∙ (c.new-dax.ensures.refs ∙ c.in-Ok.ensures.refs);
            holds = λ i. record { asked = c.new-guest.ensures.asked i; slots = c.new-guest.ensures.slots i };
            files = (λ i. (dax i).files.pass) ∙ ((λ i. (c.new-dax.ensures.files i).pass) ∙ (c.new-board.ensures.pass
                ∙ (c.split-guest_files.ensures.given ∙ ap (λ (p : FilesKnown). files_child p k) inv.files)));
            ranges = (λ i. (dax i).ranges.pass) ∙ ((λ i. (c.new-dax.ensures.ranges i).pass) ∙ (c.new-map.ensures.pass
                ∙ (c.split-guest_ranges.ensures.given ∙ ap (λ (q : RangesKnown). ranges_child q k) inv.ranges)));
            lines = refl;
          };
    }
