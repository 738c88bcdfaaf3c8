use Rattle.std.proofs.Common.{◌≡◌, ◌∙◌, ap, sym, refl, ℕ, ◌+◌, ◌<◌, ◌∷◌, [], length, slice_get, Some, arith, length-append}
use Rattle.page_map.specs.Board.{log_at}
use Rattle.range_tree.specs.Ranges.{range_count}
use Rattle.transcript_text.specs.declared.transcripts.Numbered.{Numbered}
use Rattle.transcript_text.specs.TranscriptReading.{IsPrintableNumbered}
use Rattle.guest_dax.specs.Stands.{stand}
use Rattle.guest_io.specs.Holds.{HasHolds}
use Rattle.guest_io.proofs.HoldLaws.{LeavesRest-same, LeavesRest-both}
use Rattle.guest_run.specs.Working.{first_at, history_at, notes_at}
use Rattle.guest_run.proofs.Places.{at_index, all_push}
use Rattle.guest_run.proofs.Guests.{begun}
use Rattle.guest_run.proofs.Following.{followed_none, can_make, step_followed}
use Rattle.guest_run.proofs.Running.{step_run}
use Rattle.guest_run.proofs.Fairness.{takes_after, leases_after, barred_none, held_up_none, step_barred, step_held_up}
use Rattle.guest_run.proofs.Tallies.{counted_none, step_counted}
use Rattle.guest_run.proofs.workers.worker.Goals as goal

pub returns-in_err-with_capacity-clause-rest : goal.returns-in_err-with_capacity-clause-rest
returns-in_err-with_capacity-clause-rest g c = LeavesRest-same (stand (g.W.Wire.wire c.args.guest.now.dax.driver.wire) (g.F.FileBoard.board c.args.guest.now.dax.files) (g.R.MapBoard.map c.args.guest.now.dax.ranges))

pub loop-call-init : goal.loop-call-init
loop-call-init g c =
    let u = stand (g.W.Wire.wire c.args.guest.now.dax.driver.wire) (g.F.FileBoard.board c.args.guest.now.dax.files) (g.R.MapBoard.map c.args.guest.now.dax.ranges) in
    let h = c.args.guest.now.holds in
    let cs = c.args.calls.now in
    let fresh : h.asked ≡ 0 = c.requires.fresh in
    let has : HasHolds u h = c.requires.idle.holds in
    let none : c.from_vec-lines.result ≡ [] = c.from_vec-lines.ensures ∙ c.in_ok-with_capacity.ensures.items in
    record {
      number = refl;
      count = rw none refl;
      idle = c.requires.idle;
      rest = LeavesRest-same u;
      refs = refl;
      followed = rw none (followed_none cs h fresh (λ hold. has.behind hold (omega (arith, fresh))));
      run = rw none (begun u.files.guest (range_count u.map) (first_at u.files) (history_at u.files) (log_at u.map) (notes_at u.files) cs);
      barred = λ alone. rw none (barred_none cs);
      held_up = λ alone. rw none (held_up_none (range_count u.map) (log_at u.map) cs);
      counts = rw none (counted_none u cs);
      printable = rw none tt;
    }

pub returns-in_err-line-clause-rest : goal.returns-in_err-line-clause-rest
returns-in_err-line-clause-rest g c = LeavesRest-both _ _ _ c.loop-call.invariant.rest c.in_err-line.ensures.rest

pub returns-in_err-push-clause-rest : goal.returns-in_err-push-clause-rest
returns-in_err-push-clause-rest g c = LeavesRest-both _ _ _ c.loop-call.invariant.rest c.in_ok-line.ensures.rest

pub make_call-requires-clause-call : goal.make_call-requires-clause-call
make_call-requires-clause-call g c =
    let u = stand (g.W.Wire.wire c.args.guest.now.dax.driver.wire) (g.F.FileBoard.board c.args.guest.now.dax.files) (g.R.MapBoard.map c.args.guest.now.dax.ranges) in
    let s = stand (g.W.Wire.wire c.loop-call.guest.dax.driver.wire) (g.F.FileBoard.board c.loop-call.guest.dax.files) (g.R.MapBoard.map c.loop-call.guest.dax.ranges) in
    let i = c.loop-call.call-index in
    let all = c.args.calls.now in
    let inv = c.loop-call.invariant in
    let lt : i < length all = omega arith in
    rw inv.refs (can_make (length c.args.guest.now.dax.refs) (range_count u.map) s c.loop-call.guest.holds all c.loop-call.lines i c.call-item.result c.requires.calls inv.followed (at_index all i c.call-item.result lt c.call-item.is) (sym inv.count) inv.rest.map.count)

pub loop-call-preserved : goal.loop-call-preserved
loop-call-preserved g c =
    let u = stand (g.W.Wire.wire c.args.guest.now.dax.driver.wire) (g.F.FileBoard.board c.args.guest.now.dax.files) (g.R.MapBoard.map c.args.guest.now.dax.ranges) in
    let s = stand (g.W.Wire.wire c.loop-call.guest.dax.driver.wire) (g.F.FileBoard.board c.loop-call.guest.dax.files) (g.R.MapBoard.map c.loop-call.guest.dax.ranges) in
    let t = stand (g.W.Wire.wire c.make_call.new.guest.dax.driver.wire) (g.F.FileBoard.board c.make_call.new.guest.dax.files) (g.R.MapBoard.map c.make_call.new.guest.dax.ranges) in
    let h = c.loop-call.guest.holds in
    let k = c.make_call.new.guest.holds in
    let files = length c.args.guest.now.dax.refs in
    let ranges = range_count u.map in
    let all = c.args.calls.now in
    let ls = c.loop-call.lines in
    let i = c.loop-call.call-index in
    let n = c.loop-call.made in
    let call = c.call-item.result in
    let line = c.in_ok-line.line in
    let inv = c.loop-call.invariant in
    let e = c.in_ok-line.ensures in
    let lt : i < length all = omega arith in
    let at : slice_get all n ≡ Some call = ap (λ (m : ℕ). slice_get all m) inv.number ∙ at_index all i call lt c.call-item.is in
    let number : n ≡ length ls = inv.number ∙ sym inv.count in
    let numbered : Numbered = record { call = n; line = line } in
    let longer = c.in_ok-push.ensures.ok in
    record {
      number = ap (λ (m : ℕ). m + 1) inv.number;
      count = rw longer (length-append ls (numbered ∷ []) ∙ (let count = inv.count in omega (arith, count)));
      idle = e.idle;
      rest = LeavesRest-both u s t inv.rest e.rest;
      refs = e.refs ∙ inv.refs;
      followed = rw longer (step_followed files ranges s t h k all ls n call line c.requires.calls inv.idle.holds inv.followed number at e.tells);
      run = rw longer
          (step_run files ranges u.files.guest (first_at u.files) (λ f. length (history_at u.files f)) s t h k all ls n call line inv.rest.files.guest inv.idle.honest inv.rest.map.count inv.rest.files.firsts inv.idle.sizes e.rest c.requires.calls inv.idle.holds inv.followed number at inv.run e.tells);
      barred = λ alone. rw longer (step_barred s t h k all ls n call line (leases_after u s inv.rest alone) inv.idle.holds inv.followed number at e.tells (inv.barred alone));
      held_up = λ alone. rw longer
          (step_held_up ranges s t h k all ls n call line (takes_after u s inv.rest alone) inv.rest.map.count e.rest inv.idle.holds inv.followed number at e.tells (inv.held_up alone));
      counts = rw longer (step_counted u s t all ls n call line c.requires.few number at e.counts inv.counts);
      printable = rw longer (all_push IsPrintableNumbered ls numbered inv.printable (record { call = omega arith; line = e.printable }));
    }
