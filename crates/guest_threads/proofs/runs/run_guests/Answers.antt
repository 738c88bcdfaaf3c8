use Rattle.std.proofs.Common.{◌≡◌, ◌∙◌, ap, sym, subst, refl, List, length}
use Rattle.atomic_table.specs.Seated.{TableId}
use Rattle.range_share.specs.Steps.{ranges_of}
use Rattle.transcript_text.specs.declared.transcripts.GuestPart.{GuestPart}
use Rattle.guest_threads.specs.Jobs.{team, team_of, AreRead, AreTallied, history_seen, log_seen}
use Rattle.guest_threads.specs.Ran.{HasRun}
use Rattle.guest_threads.proofs.Ended.{all_run}
use Rattle.guest_threads.proofs.Backing.{team_calls, guests_run}
use Rattle.guest_threads.proofs.Reading.{back_read, returned_read, tallied_read, tallied_front}
use Rattle.guest_threads.proofs.runs.run_guests.Goals as goal

pub run_team-requires-clause-calls : goal.run_team-requires-clause-calls
run_team-requires-clause-calls g c κs within = team_calls (length c.args.file_pass.now.view.mine.firsts) (ranges_of c.args.range_pass.now.view) c.args.background c.args.guests.now c.requires.calls

pub returns-in_err-told-clause-back : goal.returns-in_err-told-clause-back
returns-in_err-told-clause-back g c =
    let t = team c.args.daemon.now c.args.opened.now c.args.file_pass.now c.args.range_pass.now (length (team_of c.args.background c.args.guests.now)) in
    back_read t c.run_team.new.file_pass c.run_team.new.range_pass c.tell_files.new.file_pass c.tell_files.new.range_pass c.tell_files.ensures.reread c.run_team.ensures.back

pub returns-clause-back : goal.returns-clause-back
returns-clause-back g c =
    let t = team c.args.daemon.now c.args.opened.now c.args.file_pass.now c.args.range_pass.now (length (team_of c.args.background c.args.guests.now)) in
    back_read t c.run_team.new.file_pass c.run_team.new.range_pass c.tell_files.new.file_pass c.tell_files.new.range_pass c.tell_files.ensures.reread c.run_team.ensures.back

pub returns-clause-ran : goal.returns-clause-ran
returns-clause-ran g c =
    let members = team_of c.args.background c.args.guests.now in
    let t = team c.args.daemon.now c.args.opened.now c.args.file_pass.now c.args.range_pass.now (length members) in
    let firsts = c.args.file_pass.now.view.mine.firsts in
    let count = ranges_of c.args.range_pass.now.view in
    let p = c.tell_files.new.file_pass in
    let q = c.tell_files.new.range_pass in
    let r = c.tell_files.ensures.reread in
    let parts = c.in_ok-parts.parts in
    let back = back_read t c.run_team.new.file_pass c.run_team.new.range_pass p q r c.run_team.ensures.back in
    let ret = returned_read t c.run_team.new.file_pass c.run_team.new.range_pass p q r members parts c.in_ok-parts.ensures.returned in
    let slots : c.args.files.now.slots ≡ length firsts = ap (λ (x : TableId). x.slots) (sym c.requires.tables.0) ∙ c.requires.team.slots in
    let read = subst (AreRead p q) slots c.in_ok-told.ensures.read in
    let run = all_run t members p q parts c.requires.team refl (team_calls (length firsts) count c.args.background c.args.guests.now c.requires.calls) back ret read in
    subst (λ (l : List GuestPart). HasRun firsts count c.args.background c.args.guests.now (history_seen p) (log_seen q) l) (sym c.first_parts.ensures)
    (guests_run firsts count c.args.background c.args.guests.now (history_seen p) (log_seen q) parts run)

pub returns-clause-tallied : goal.returns-clause-tallied
returns-clause-tallied g c =
    let p = c.tell_files.new.file_pass in
    let q = c.tell_files.new.range_pass in
    let parts = c.in_ok-parts.parts in
    let tallied = tallied_read c.args.background c.args.guests.now c.run_team.new.file_pass c.run_team.new.range_pass parts c.in_ok-parts.ensures.tallied p q c.tell_files.ensures.reread in
    subst (AreTallied c.args.background c.args.guests.now p q) (sym c.first_parts.ensures) (tallied_front c.args.background c.args.guests.now p q parts tallied (length c.args.guests.now))
