use Rattle.std.proofs.Common.{◌∙◌, ap, sym, subst, refl, ℕ, List, length}
use Rattle.plain_file.specs.declared.operations.First.{First}
use Rattle.dax_script.specs.declared.scripts.Call.{Call}
use Rattle.dax_script.specs.declared.scripts.FileLine.{FileLine}
use Rattle.transcript_text.specs.declared.transcripts.Transcript.{Transcript}
use Rattle.guest_run.specs.Runs.{parts_from}
use Rattle.guest_run.proofs.Places.{map_len}
use Rattle.guest_threads.specs.Jobs.{history_seen, log_seen}
use Rattle.guest_threads.specs.Ran.{HasRun, AreFilesTold}
use Rattle.daxrun.proofs.Playing.{played_legal, fair_told, done_told}
use Rattle.daxrun.proofs.plays.play.Goals as goal

pub returns-clause-legal : goal.returns-clause-legal
returns-clause-legal g c =
    let s = c.args.script in
    let r = c.in_ok-ran.ran in
    let h = history_seen c.run_guests.new.file_pass in
    let logs = log_seen c.run_guests.new.range_pass in
    let t : Transcript = record { version = 1; ranges = s.ranges; files = c.in_ok-parts.parts; guests = r.parts } in
    let many = ap (λ (l : List First). length l) c.requires.firsts ∙ (map_len (λ (f : FileLine). f.first) s.files ∙ ap (λ (l : List FileLine). length l) (sym c.as_slice-lines.ensures)) in
    let told = c.in_ok-parts.ensures.value h logs (subst (λ (n : ℕ). AreFilesTold h logs n r.files) many c.in_ok-ran.ensures.told) ∙ ap (parts_from h logs 0) c.as_slice-lines.ensures in
    let ran = subst (λ (z : List First × ℕ × List (List Call)). HasRun z.0 z.1 s.background z.2 h logs r.parts) (λ i. (c.requires.firsts i, c.requires.ranges i, c.as_slice-guests.ensures i)) c.in_ok-ran.ensures.ran in
    played_legal s t h logs c.requires.playable refl told ran

pub returns-clause-fair : goal.returns-clause-fair
returns-clause-fair g c =
    let s = c.args.script in
    let r = c.in_ok-ran.ran in
    let h = history_seen c.run_guests.new.file_pass in
    let logs = log_seen c.run_guests.new.range_pass in
    let t : Transcript = record { version = 1; ranges = s.ranges; files = c.in_ok-parts.parts; guests = r.parts } in
    let many = ap (λ (l : List First). length l) c.requires.firsts ∙ (map_len (λ (f : FileLine). f.first) s.files ∙ ap (λ (l : List FileLine). length l) (sym c.as_slice-lines.ensures)) in
    let told = c.in_ok-parts.ensures.value h logs (subst (λ (n : ℕ). AreFilesTold h logs n r.files) many c.in_ok-ran.ensures.told) ∙ ap (parts_from h logs 0) c.as_slice-lines.ensures in
    let ran = subst (λ (z : List First × ℕ × List (List Call)). HasRun z.0 z.1 s.background z.2 h logs r.parts) (λ i. (c.requires.firsts i, c.requires.ranges i, c.as_slice-guests.ensures i)) c.in_ok-ran.ensures.ran in
    fair_told s t h logs told ran

pub returns-clause-done : goal.returns-clause-done
returns-clause-done g c =
    let s = c.args.script in
    let r = c.in_ok-ran.ran in
    let h = history_seen c.run_guests.new.file_pass in
    let logs = log_seen c.run_guests.new.range_pass in
    let t : Transcript = record { version = 1; ranges = s.ranges; files = c.in_ok-parts.parts; guests = r.parts } in
    let ran = subst (λ (z : List First × ℕ × List (List Call)). HasRun z.0 z.1 s.background z.2 h logs r.parts) (λ i. (c.requires.firsts i, c.requires.ranges i, c.as_slice-guests.ensures i)) c.in_ok-ran.ensures.ran in
    done_told s t h logs c.requires.playable ran
