use Rattle.std.proofs.Common.{◌≡◌, ◌∙◌, ap, sym, subst, Ok}
use Rattle.dax_script.specs.declared.scripts.Script.{Script}
use Rattle.dax_script.specs.ScriptText.{script_of}
use Rattle.transcript_text.specs.TranscriptReading.{transcript_of}
use Rattle.transcript_text.specs.TranscriptText.{text_of}
use Rattle.transcript_text.proofs.ReadAgain.{transcript_of-text_of}
use Rattle.daxrun.specs.Run.{IsTextOf}
use Rattle.daxrun.proofs.Playable.{playable}
use Rattle.daxrun.proofs.runs.answer_to.Goals as goal

pub play_script-requires : goal.play_script-requires
play_script-requires g c = (c.type_bounds.sync-R, (c.type_bounds.sync-G, playable c.args.input.now c.in-Ok.script c.in-Ok.ensures.reads))

pub returns-in_ok-text-in-Ok-clause-answer : goal.returns-in_ok-text-in-Ok-clause-answer
returns-in_ok-text-in-Ok-clause-answer g c =
    let p = c.in_ok-played-in-Ok.played in
    let e = c.in_ok-played-in-Ok.ensures in
    let writes = c.in_ok-text-in-Ok.ensures ∙ ap text_of c.transcript.ensures in record {
      script = c.in-Ok.script;
      transcript = p.transcript;
      reads = c.in-Ok.ensures.reads;
      told = record {
        legal = e.legal;
        fair = e.fair;
        done = e.done;
        writes = writes;
        determined = ap transcript_of writes ∙ transcript_of-text_of p.transcript e.printable;
      };
    }

pub returns-in_ok-text-in-Ok-clause-shows : goal.returns-in_ok-text-in-Ok-clause-shows
returns-in_ok-text-in-Ok-clause-shows g c =
    let p = c.in_ok-played-in-Ok.played in
    let e = c.in_ok-played-in-Ok.ensures in
    let text = c.in_ok-text-in-Ok.text in
    let writes = c.in_ok-text-in-Ok.ensures ∙ ap text_of c.transcript.ensures in
    let told : IsTextOf c.in-Ok.script p.transcript text = record {
      legal = e.legal;
      fair = e.fair;
      done = e.done;
      writes = writes;
      determined = ap transcript_of writes ∙ transcript_of-text_of p.transcript e.printable;
    } in
    subst (λ (s : Script). (script_of c.args.input.now ≡ Ok s) × IsTextOf s p.transcript text) (sym e.script) (c.in-Ok.ensures.reads, told)
