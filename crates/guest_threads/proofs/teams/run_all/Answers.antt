use Rattle.std.proofs.Common.{◌∙◌, rules, subst}
use Rattle.std.proofs.lemmas.Option.{get_or_from_slice_get}
use Rattle.guest_run.proofs.Places.{at_index, within}
use Rattle.guest_threads.specs.declared.jobs.Job.{Job}
use Rattle.guest_threads.specs.Jobs.{HasWorked, HasTallied, team_of}
use Rattle.guest_threads.proofs.teams.run_all.Goals as goal

pub for_each_mut-requires-clause-accepts : goal.for_each_mut-requires-clause-accepts
for_each_mut-requires-clause-accepts g c κs inside = λ i p l is. c.requires i p.now (at_index c.args.jobs.now i p.now l is)

pub returns-clause-ran : goal.returns-clause-ran
returns-clause-ran g c = (
  search rules,
  λ n j k at at'. let x = (c.for_each_mut.ensures n j (within c.args.jobs.now n j at)).1 in
      subst (λ (z : Job × Job). HasWorked (team_of c.args.background c.args.guests.now) n z.0 z.1)
      (λ i. ((x.argument_is ∙ get_or_from_slice_get c.args.jobs.now n j j at) i, (x.left ∙ get_or_from_slice_get c.for_each_mut.new.s n k j at') i)) x.call.0,
)

pub returns-clause-tallied : goal.returns-clause-tallied
returns-clause-tallied g c = λ n j k at at'. let x = (c.for_each_mut.ensures n j (within c.args.jobs.now n j at)).1 in
    subst (λ (z : Job × Job). HasTallied c.args.background c.args.guests.now n z.0 z.1)
    (λ i. ((x.argument_is ∙ get_or_from_slice_get c.args.jobs.now n j j at) i, (x.left ∙ get_or_from_slice_get c.for_each_mut.new.s n k j at') i)) x.call.1
