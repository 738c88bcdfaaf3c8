use Rattle.std.proofs.Common.{◌∙◌, sym, subst, ℕ, length}
use Rattle.guest_threads.specs.Jobs.{Team, team, team_of, MaySweep, AreSeated, Returned, AreTallied}
use Rattle.guest_threads.proofs.Returning.{if_ok, none_back, split_later, split_join, split_back, seated_all}
use Rattle.guest_threads.proofs.Backing.{team_as, back_as, returned_as}
use Rattle.guest_threads.proofs.teams.run_team.Goals as goal

pub returns-in_err-jobs-clause-back : goal.returns-in_err-jobs-clause-back
returns-in_err-jobs-clause-back g c =
    let t = team c.args.daemon.now c.args.opened.now c.args.file_pass.now c.args.range_pass.now (length (team_of c.args.background c.args.guests.now)) in
    none_back t c.split_all.new.file_pass c.split_all.new.range_pass c.requires.team c.in_err-jobs.ensures.kept

pub join_all-parts-requires-clause-tables : goal.join_all-parts-requires-clause-tables
join_all-parts-requires-clause-tables g c =
    let e = c.in_ok-jobs.ensures in
    let same = c.members-count.ensures in
    let t = team c.args.daemon.now c.args.opened.now c.args.file_pass.now c.args.range_pass.now c.members-count.result in
    let is = team_as c.args.daemon.now c.args.opened.now c.args.file_pass.now c.args.range_pass.now _ _ (sym same) c.requires.team in
    let later = split_later t c.in_ok-jobs.jobs.items c.split_all.new.file_pass c.split_all.new.range_pass is e.few e.files e.ranges in
    (later.files_table ∙ c.requires.tables.0, later.ranges_table ∙ c.requires.tables.1)

pub join_all-parts-requires-clause-first : goal.join_all-parts-requires-clause-first
join_all-parts-requires-clause-first g c =
    let e = c.in_ok-jobs.ensures in
    let same = c.members-count.ensures in
    let t = team c.args.daemon.now c.args.opened.now c.args.file_pass.now c.args.range_pass.now c.members-count.result in
    let is = team_as c.args.daemon.now c.args.opened.now c.args.file_pass.now c.args.range_pass.now _ _ (sym same) c.requires.team in
    (split_later t c.in_ok-jobs.jobs.items c.split_all.new.file_pass c.split_all.new.range_pass is e.few e.files e.ranges).first

pub join_all-parts-requires-clause-jobs : goal.join_all-parts-requires-clause-jobs
join_all-parts-requires-clause-jobs g c =
    let e = c.in_ok-jobs.ensures in
    let same = c.members-count.ensures in
    let t = team c.args.daemon.now c.args.opened.now c.args.file_pass.now c.args.range_pass.now c.members-count.result in
    let is = team_as c.args.daemon.now c.args.opened.now c.args.file_pass.now c.args.range_pass.now _ _ (sym same) c.requires.team in
    split_join t c.in_ok-jobs.jobs.items c.split_all.new.file_pass c.split_all.new.range_pass is e.few e.files e.ranges e.jobs

pub returns-then-not-all-clause-back : goal.returns-then-not-all-clause-back
returns-then-not-all-clause-back g c =
    let e = c.in_ok-jobs.ensures in
    let same = c.members-count.ensures in
    let t = team c.args.daemon.now c.args.opened.now c.args.file_pass.now c.args.range_pass.now c.members-count.result in
    let is = team_as c.args.daemon.now c.args.opened.now c.args.file_pass.now c.args.range_pass.now _ _ (sym same) c.requires.team in
    back_as c.args.daemon.now c.args.opened.now c.args.file_pass.now c.args.range_pass.now _ _ same c.join_all-parts.new.file_pass c.join_all-parts.new.range_pass
    (split_back t c.in_ok-jobs.jobs.items c.split_all.new.file_pass c.split_all.new.range_pass is e.few e.files e.ranges
    c.join_all-parts.new.file_pass c.join_all-parts.new.range_pass c.join_all-parts.ensures.joined)

pub run_jobs-requires-clause-tables : goal.run_jobs-requires-clause-tables
run_jobs-requires-clause-tables g c κs within =
    let e = c.in_ok-jobs.ensures in
    let same = c.members-count.ensures in
    let t = team c.args.daemon.now c.args.opened.now c.args.file_pass.now c.args.range_pass.now c.members-count.result in
    let is = team_as c.args.daemon.now c.args.opened.now c.args.file_pass.now c.args.range_pass.now _ _ (sym same) c.requires.team in
    let later = split_later t c.in_ok-jobs.jobs.items c.split_all.new.file_pass c.split_all.new.range_pass is e.few e.files e.ranges in
    (later.files_table ∙ c.requires.tables.0, later.ranges_table ∙ c.requires.tables.1)

pub run_jobs-requires-clause-background : goal.run_jobs-requires-clause-background
run_jobs-requires-clause-background g c κs within =
    let e = c.in_ok-jobs.ensures in
    let same = c.members-count.ensures in
    let t = team c.args.daemon.now c.args.opened.now c.args.file_pass.now c.args.range_pass.now c.members-count.result in
    let is = team_as c.args.daemon.now c.args.opened.now c.args.file_pass.now c.args.range_pass.now _ _ (sym same) c.requires.team in
    let later = split_later t c.in_ok-jobs.jobs.items c.split_all.new.file_pass c.split_all.new.range_pass is e.few e.files e.ranges in
    subst (λ (k : ℕ). MaySweep c.args.background k) (sym later.ranges_long) c.requires.background

pub returns-clause-back : goal.returns-clause-back
returns-clause-back g c =
    let e = c.in_ok-jobs.ensures in
    let same = c.members-count.ensures in
    let t = team c.args.daemon.now c.args.opened.now c.args.file_pass.now c.args.range_pass.now c.members-count.result in
    let is = team_as c.args.daemon.now c.args.opened.now c.args.file_pass.now c.args.range_pass.now _ _ (sym same) c.requires.team in
    back_as c.args.daemon.now c.args.opened.now c.args.file_pass.now c.args.range_pass.now _ _ same c.run_jobs.new.file_pass c.run_jobs.new.range_pass
    (c.run_jobs.ensures.back t
    (seated_all t (team_of c.args.background c.args.guests.now) c.in_ok-jobs.jobs.items c.split_all.new.file_pass c.split_all.new.range_pass
    is same c.requires.calls e.jobs (e.all c.if-not-all.false) e.files e.ranges))

pub returns-clause-returned : goal.returns-clause-returned
returns-clause-returned g c =
    let e = c.in_ok-jobs.ensures in
    let same = c.members-count.ensures in
    let t = team c.args.daemon.now c.args.opened.now c.args.file_pass.now c.args.range_pass.now c.members-count.result in
    let is = team_as c.args.daemon.now c.args.opened.now c.args.file_pass.now c.args.range_pass.now _ _ (sym same) c.requires.team in
    let seated = seated_all t (team_of c.args.background c.args.guests.now) c.in_ok-jobs.jobs.items c.split_all.new.file_pass c.split_all.new.range_pass
    is same c.requires.calls e.jobs (e.all c.if-not-all.false) e.files e.ranges in
    if_ok c.run_jobs.result
    (λ parts. (u : Team) → AreSeated u (team_of c.args.background c.args.guests.now) c.in_ok-jobs.jobs.items c.split_all.new.file_pass c.split_all.new.range_pass
    → Returned u (team_of c.args.background c.args.guests.now) c.run_jobs.new.file_pass c.run_jobs.new.range_pass parts)
    (Returned (team c.args.daemon.now c.args.opened.now c.args.file_pass.now c.args.range_pass.now (length (team_of c.args.background c.args.guests.now))) (team_of c.args.background c.args.guests.now) c.run_jobs.new.file_pass c.run_jobs.new.range_pass)
    c.run_jobs.ensures.returned
    (λ parts of_seated. returned_as c.args.daemon.now c.args.opened.now c.args.file_pass.now c.args.range_pass.now _ _ same (team_of c.args.background c.args.guests.now) c.run_jobs.new.file_pass c.run_jobs.new.range_pass parts (of_seated t seated))

pub returns-clause-tallied : goal.returns-clause-tallied
returns-clause-tallied g c =
    let e = c.in_ok-jobs.ensures in
    let same = c.members-count.ensures in
    let t = team c.args.daemon.now c.args.opened.now c.args.file_pass.now c.args.range_pass.now c.members-count.result in
    let is = team_as c.args.daemon.now c.args.opened.now c.args.file_pass.now c.args.range_pass.now _ _ (sym same) c.requires.team in
    let seated = seated_all t (team_of c.args.background c.args.guests.now) c.in_ok-jobs.jobs.items c.split_all.new.file_pass c.split_all.new.range_pass
    is same c.requires.calls e.jobs (e.all c.if-not-all.false) e.files e.ranges in
    if_ok c.run_jobs.result
    (λ parts. (u : Team) → AreSeated u (team_of c.args.background c.args.guests.now) c.in_ok-jobs.jobs.items c.split_all.new.file_pass c.split_all.new.range_pass
    → AreTallied c.args.background c.args.guests.now c.run_jobs.new.file_pass c.run_jobs.new.range_pass parts)
    (AreTallied c.args.background c.args.guests.now c.run_jobs.new.file_pass c.run_jobs.new.range_pass)
    c.run_jobs.ensures.tallied
    (λ parts of_seated. of_seated t seated)
