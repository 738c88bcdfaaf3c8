use Rattle.std.proofs.Common.{◌≡◌, ◌∙◌, ap, sym, subst, ℕ, List, length, arith}
use Rattle.range_share.specs.Steps.{ranges_of}
use Rattle.range_share.specs.Known.{Known as RangesKnown}
use Rattle.guest_threads.specs.declared.jobs.Job.{Job}
use Rattle.guest_threads.specs.Jobs.{MaySweep, MayAllTakePart, team_of, count_of, HaveRun, HaveTallied, CanJoinAll, HasJoined, AreTold, AreSeated, Returned, AreTallied, Team}
use Rattle.guest_threads.proofs.Seating.{first_out}
use Rattle.guest_threads.proofs.Backing.{may_take_part}
use Rattle.guest_threads.proofs.Returning.{back_in, if_ok, seated_first, seated_join, ran_back, ran_returned}
use Rattle.guest_threads.proofs.Tallying.{all_tallied}
use Rattle.guest_threads.proofs.teams.run_jobs.Goals as goal

pub run_all-requires-after_bounds : goal.run_all-requires-after_bounds
run_all-requires-after_bounds g c κs within =
    let (t, s) = c.requires.jobs in
    let out = (first_out t t.guests s.is_team (omega arith)).ranges_long in
    let count : ranges_of c.args.range_pass.now.view ≡ count_of t = ap (λ (q : RangesKnown). ranges_of q.view) s.ranges ∙ out in
    subst (MayAllTakePart c.args.background c.args.guests.now) (sym c.as_mut_slice.ensures.value)
    (may_take_part t c.args.background c.args.guests.now c.args.jobs.items s.is_team s.all s.calls s.are_out (subst (λ (k : ℕ). MaySweep c.args.background k) count c.requires.background))

pub join_all-requires-clause-first : goal.join_all-requires-clause-first
join_all-requires-clause-first g c =
    let (t, s) = c.requires.jobs in
    let ran = subst (λ (l : List Job). HaveRun (team_of c.args.background c.args.guests.now) l c.run_all.new.jobs) c.as_mut_slice.ensures.value c.run_all.ensures.ran in
    seated_first t (team_of c.args.background c.args.guests.now) c.args.jobs.items c.run_all.new.jobs c.args.file_pass.now c.args.range_pass.now s ran

pub join_all-requires-clause-jobs : goal.join_all-requires-clause-jobs
join_all-requires-clause-jobs g c =
    let (t, s) = c.requires.jobs in
    let ran = subst (λ (l : List Job). HaveRun (team_of c.args.background c.args.guests.now) l c.run_all.new.jobs) c.as_mut_slice.ensures.value c.run_all.ensures.ran in
    let same = back_in c.run_all.new.jobs c.args.jobs.items c.args.jobs.len ran.0 c.args.jobs.ok.0 in
    subst (CanJoinAll c.args.file_pass.now c.args.range_pass.now) (sym same)
    (seated_join t (team_of c.args.background c.args.guests.now) c.args.jobs.items c.run_all.new.jobs c.args.file_pass.now c.args.range_pass.now s ran)

pub returns-clause-back : goal.returns-clause-back
returns-clause-back g c t s =
    let ran = subst (λ (l : List Job). HaveRun (team_of c.args.background c.args.guests.now) l c.run_all.new.jobs) c.as_mut_slice.ensures.value c.run_all.ensures.ran in
    let same = back_in c.run_all.new.jobs c.args.jobs.items c.args.jobs.len ran.0 c.args.jobs.ok.0 in
    let joined = subst (λ (l : List Job). HasJoined c.args.file_pass.now c.args.range_pass.now l (length l) c.join_all.new.file_pass c.join_all.new.range_pass) same c.join_all.ensures.joined in
    ran_back t (team_of c.args.background c.args.guests.now) c.args.jobs.items c.run_all.new.jobs c.args.file_pass.now c.args.range_pass.now s ran
    c.join_all.new.file_pass c.join_all.new.range_pass joined

pub returns-clause-returned : goal.returns-clause-returned
returns-clause-returned g c =
    let ran = subst (λ (l : List Job). HaveRun (team_of c.args.background c.args.guests.now) l c.run_all.new.jobs) c.as_mut_slice.ensures.value c.run_all.ensures.ran in
    let same = back_in c.run_all.new.jobs c.args.jobs.items c.args.jobs.len ran.0 c.args.jobs.ok.0 in
    let joined = subst (λ (l : List Job). HasJoined c.args.file_pass.now c.args.range_pass.now l (length l) c.join_all.new.file_pass c.join_all.new.range_pass) same c.join_all.ensures.joined in
    if_ok c.join_all.result (AreTold _)
    (λ parts. (t : Team) → AreSeated t (team_of c.args.background c.args.guests.now) c.args.jobs.items c.args.file_pass.now c.args.range_pass.now
    → Returned t (team_of c.args.background c.args.guests.now) c.join_all.new.file_pass c.join_all.new.range_pass parts)
    c.join_all.ensures.parts
    (λ parts told t s. ran_returned t (team_of c.args.background c.args.guests.now) c.args.jobs.items c.run_all.new.jobs c.args.file_pass.now c.args.range_pass.now s ran
    c.join_all.new.file_pass c.join_all.new.range_pass joined parts (subst (λ (l : List Job). AreTold l parts) same told))

pub returns-clause-tallied : goal.returns-clause-tallied
returns-clause-tallied g c =
    let ran = subst (λ (l : List Job). HaveRun (team_of c.args.background c.args.guests.now) l c.run_all.new.jobs) c.as_mut_slice.ensures.value c.run_all.ensures.ran in
    let tallied = subst (λ (l : List Job). HaveTallied c.args.background c.args.guests.now l c.run_all.new.jobs) c.as_mut_slice.ensures.value c.run_all.ensures.tallied in
    let same = back_in c.run_all.new.jobs c.args.jobs.items c.args.jobs.len ran.0 c.args.jobs.ok.0 in
    let joined = subst (λ (l : List Job). HasJoined c.args.file_pass.now c.args.range_pass.now l (length l) c.join_all.new.file_pass c.join_all.new.range_pass) same c.join_all.ensures.joined in
    if_ok c.join_all.result (AreTold _)
    (λ parts. (t : Team) → AreSeated t (team_of c.args.background c.args.guests.now) c.args.jobs.items c.args.file_pass.now c.args.range_pass.now
    → AreTallied c.args.background c.args.guests.now c.join_all.new.file_pass c.join_all.new.range_pass parts)
    c.join_all.ensures.parts
    (λ parts told t s. all_tallied t c.args.background c.args.guests.now c.args.jobs.items c.run_all.new.jobs c.args.file_pass.now c.args.range_pass.now s ran tallied
    c.join_all.new.file_pass c.join_all.new.range_pass joined parts (subst (λ (l : List Job). AreTold l parts) same told))
