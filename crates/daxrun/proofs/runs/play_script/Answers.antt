use Rattle.std.proofs.Common.{◌∙◌, ap, sym, subst, ◌<◌, ◌≤◌, List, length, get_or}
use Rattle.plain_file.specs.declared.operations.First.{First}
use Rattle.plain_file.specs.File.{max_file}
use Rattle.dax_script.specs.declared.scripts.Call.{Call}
use Rattle.guest_run.proofs.Places.{all_at}
use Rattle.guest_threads.specs.Jobs.{IsTeam, team, team_of, leasers_for}
use Rattle.guest_threads.proofs.Ended.{firsts_new}
use Rattle.daxrun.specs.Session.{firsts_of}
use Rattle.daxrun.proofs.Opening.{firsts_small}
use Rattle.daxrun.proofs.Teams.{session_team}
use Rattle.daxrun.proofs.runs.play_script.Goals as goal

pub open_tables-requires-clause-small : goal.open_tables-requires-clause-small
open_tables-requires-clause-small g c = λ k d lt.
    let fs = c.args.script.files in
    let all = firsts_small fs c.requires.files.small in
    let e = c.in_ok-firsts.ensures ∙ ap firsts_of c.as_slice-lines.ensures in
    subst (λ (xs : List First). k < length xs → (get_or xs k d).size ≤ max_file) (sym e) (all_at (λ (f : First). f.size ≤ max_file) (firsts_of fs) k d all) lt

pub play-played-requires-clause-team : goal.play-played-requires-clause-team
play-played-requires-clause-team g c κs within =
    let s = c.args.script in
    let tables = c.in_ok-tables.tables in
    let lines = c.as_slice-lines in
    let guests = c.as_slice-guests in
    let session = c.in_ok-daemon-2 in
    subst (λ (l : List (List Call)). IsTeam (team session.daemon c.as_slice-handles.result.now tables.file_pass tables.range_pass (length (team_of s.background l)))) guests.ensures
    (session_team s c.requires lines.result.now lines.ensures c.in_ok-firsts.firsts c.in_ok-firsts.ensures s.background guests.result.now guests.ensures session.daemon session.opened.items
    c.as_slice-handles.result.now c.as_slice-handles.ensures.value session.ensures.count session.ensures.opened tables c.in_ok-tables.ensures)

pub play-played-requires-clause-firsts : goal.play-played-requires-clause-firsts
play-played-requires-clause-firsts g c κs within =
    let s = c.args.script in
    let n = length (team_of s.background c.as_slice-guests.result.now) in
    firsts_new c.in_ok-tables.tables.files c.in_ok-tables.tables.file_pass c.in_ok-firsts.firsts (leasers_for s.ranges n) c.in_ok-tables.ensures.files_pass
    ∙ (c.in_ok-firsts.ensures ∙ ap firsts_of c.as_slice-lines.ensures)
