use Rattle.std.proofs.Common.{◌≡◌, ◌∙◌, ℕ, ◌+◌, sym, subst, ◌∷◌, [], ◌++◌, length, arith, length-append}
use Rattle.std.proofs.lemmas.Iterator.Consumers.{YieldsList-turn}
use Rattle.std.proofs.lemmas.Iterator.Adapters.{YieldsList-from_vec}
use Rattle.guest_run.proofs.Places.{at_index}
use Rattle.guest_threads.specs.Jobs.{HasJoined}
use Rattle.guest_threads.proofs.Joining.{next_joins, next_joined, told_more}
use Rattle.guest_threads.proofs.teams.join_all.Goals as goal

pub join_one-lines-requires-clause-job : goal.join_one-lines-requires-clause-job
join_one-lines-requires-clause-job c =
    let b = c.into_iter-job-iterator.ensures.into_iter_gives in
    let from = YieldsList-from_vec {s = c.into_iter-job-iterator.result} c.args.jobs.items b.0 (b.1 ∙ c.args.jobs.ok.0) in
    let t = YieldsList-turn from c.loop-job.yielded c.loop-job.job-iterator c.loop-job.yielded_by c.next.result c.next.new.self c.in-Some.job c.in-Some.is c.next.ensures.steps in
    let items = c.args.jobs.items in
    let k = length c.loop-job.yielded in
    let at = at_index items k c.in-Some.job t.0 t.1 in
    (next_joins c.args.file_pass.now c.args.range_pass.now c.loop-job.file_pass c.loop-job.range_pass items k c.in-Some.job c.requires.jobs c.loop-job.invariant.joined at).can

pub join_one-lines-requires-clause-out : goal.join_one-lines-requires-clause-out
join_one-lines-requires-clause-out c =
    let b = c.into_iter-job-iterator.ensures.into_iter_gives in
    let from = YieldsList-from_vec {s = c.into_iter-job-iterator.result} c.args.jobs.items b.0 (b.1 ∙ c.args.jobs.ok.0) in
    let t = YieldsList-turn from c.loop-job.yielded c.loop-job.job-iterator c.loop-job.yielded_by c.next.result c.next.new.self c.in-Some.job c.in-Some.is c.next.ensures.steps in
    let items = c.args.jobs.items in
    let k = length c.loop-job.yielded in
    let at = at_index items k c.in-Some.job t.0 t.1 in
    let next = next_joins c.args.file_pass.now c.args.range_pass.now c.loop-job.file_pass c.loop-job.range_pass items k c.in-Some.job c.requires.jobs c.loop-job.invariant.joined at in
    (next.files_out, next.ranges_out)

pub loop-job-preserved : goal.loop-job-preserved
loop-job-preserved c =
    let b = c.into_iter-job-iterator.ensures.into_iter_gives in
    let from = YieldsList-from_vec {s = c.into_iter-job-iterator.result} c.args.jobs.items b.0 (b.1 ∙ c.args.jobs.ok.0) in
    let t = YieldsList-turn from c.loop-job.yielded c.loop-job.job-iterator c.loop-job.yielded_by c.next.result c.next.new.self c.in-Some.job c.in-Some.is c.next.ensures.steps in
    let items = c.args.jobs.items in
    let k = length c.loop-job.yielded in
    let job = c.in-Some.job in
    let at = at_index items k job t.0 t.1 in
    let inv = c.loop-job.invariant in
    let was = c.loop-job in
    let now = c.join_one-lines.new in
    let longer : length (c.loop-job.yielded ++ job ∷ []) ≡ k + 1 = omega (arith, length-append c.loop-job.yielded (job ∷ [])) in record {
      guest = (let a = inv.guest in omega (arith, a, longer));
      joined = subst (λ (n : ℕ). HasJoined c.args.file_pass.now c.args.range_pass.now items n now.file_pass now.range_pass) (sym longer)
          (next_joined c.args.file_pass.now c.args.range_pass.now was.file_pass was.range_pass now.file_pass now.range_pass items k job c.requires.jobs inv.joined at c.join_one-lines.ensures.joined);
      parts = λ on. let x = c.add_part-all.ensures on in
          told_more c.loop-job.yielded c.loop-job.parts c.add_part-all.new.parts job c.loop-job.guest x.1.0 (inv.parts x.0) inv.guest (sym c.join_one-lines.ensures.lines ∙ x.1.1) x.1.2;
    }
