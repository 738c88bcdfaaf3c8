use Rattle.std.proofs.Common.{◌∙◌, ◌<◌, ap, sym, length, Some, arith}
use Rattle.guest_run.proofs.Places.{at_index}
use Rattle.guest_threads.specs.Jobs.{stand_of, team_of}
use Rattle.guest_threads.proofs.Split.{told_by}
use Rattle.guest_threads.proofs.Backing.{team_here, team_last, sweeps_there}
use Rattle.guest_threads.proofs.Tallying.{counted_by, swept_by}
use Rattle.guest_threads.proofs.jobs.work.Goals as goal

pub overflow_cast-number : goal.overflow_cast-number
overflow_cast-number g c = let low = c.if-number-guests.false in let there = c.requires.0.there in let few = c.requires.0.few in omega (arith, there, few, low)

pub sweep-requires-clause-ranges : goal.sweep-requires-clause-ranges
sweep-requires-clause-ranges g c = sweeps_there c.args.background c.args.guests.now c.args.number _ c.if-number-guests.true c.requires.0.there c.requires.1

pub returns-then-number-guests-clause-worked : goal.returns-then-number-guests-clause-worked
returns-then-number-guests-clause-worked g c = c.sweep.ensures.worked (team_of c.args.background c.args.guests.now) c.args.number (team_last c.args.background c.args.guests.now c.args.number c.if-number-guests.true c.requires.0.there)

pub returns-then-number-guests-clause-tallied : goal.returns-then-number-guests-clause-tallied
returns-then-number-guests-clause-tallied g c = swept_by c.args.background c.args.guests.now c.args.number c.args.job.now c.sweep.new.job c.if-number-guests.true c.sweep.ensures.swept

pub worker-requires-clause-few : goal.worker-requires-clause-few
worker-requires-clause-few g c =
    let lt : c.args.number < length c.args.guests.now = (let low = c.if-number-guests.false in omega (arith, low)) in
    let at = team_here c.args.background c.args.guests.now c.args.number c.as_slice-calls.result.now
    (at_index c.args.guests.now c.args.number c.index-guests-number.result lt c.index-guests-number.is ∙ ap Some (sym c.as_slice-calls.ensures)) in
    (c.requires.0.calls c.args.number c.as_slice-calls.result.now at).0

pub worker-requires-clause-calls : goal.worker-requires-clause-calls
worker-requires-clause-calls g c =
    let lt : c.args.number < length c.args.guests.now = (let low = c.if-number-guests.false in omega (arith, low)) in
    let at = team_here c.args.background c.args.guests.now c.args.number c.as_slice-calls.result.now
    (at_index c.args.guests.now c.args.number c.index-guests-number.result lt c.index-guests-number.is ∙ ap Some (sym c.as_slice-calls.ensures)) in
    (c.requires.0.calls c.args.number c.as_slice-calls.result.now at).1

pub returns-clause-worked : goal.returns-clause-worked
returns-clause-worked g c =
    let lt : c.args.number < length c.args.guests.now = (let low = c.if-number-guests.false in omega (arith, low)) in
    let at = team_here c.args.background c.args.guests.now c.args.number c.as_slice-calls.result.now
    (at_index c.args.guests.now c.args.number c.index-guests-number.result lt c.index-guests-number.is ∙ ap Some (sym c.as_slice-calls.ensures)) in
    let w = c.worker.ensures in record {
      idle = w.idle;
      rest = w.rest;
      refs = w.refs;
      told = told_by (team_of c.args.background c.args.guests.now) c.args.number (stand_of c.args.job.now) (stand_of (record { guest = c.worker.new.guest; lines = c.ok.result }))
          c.as_slice-calls.result.now c.worker.result c.ok.result c.ok.ensures.value at w.run w.count w.barred w.held_up w.printable;
    }

pub returns-clause-tallied : goal.returns-clause-tallied
returns-clause-tallied g c =
    let lt : c.args.number < length c.args.guests.now = (let low = c.if-number-guests.false in omega (arith, low)) in
    let at = at_index c.args.guests.now c.args.number c.index-guests-number.result lt c.index-guests-number.is ∙ ap Some (sym c.as_slice-calls.ensures) in
    counted_by c.args.background c.args.guests.now c.args.number c.args.job.now (record { guest = c.worker.new.guest; lines = c.ok.result })
    c.as_slice-calls.result.now c.worker.result lt at c.ok.ensures.value c.worker.ensures.counts
