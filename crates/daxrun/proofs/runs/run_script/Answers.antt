use Rattle.std.proofs.Common.{List, ℕ, subst}
use Rattle.program_io.specs.Causes.{AppendsPart}
use Rattle.daxrun.proofs.runs.run_script.Goals as goal

pub returns-in-Ok : goal.returns-in-Ok
returns-in-Ok g c =
    let taken = g.K.Sink.taken in
    let P : List ℕ → Type 0 = λ text. AppendsPart (taken c.args.sink.now) (taken c.write_all.new.sink) text in
    (c.in-Err-write_all.ensures.failed, (c.in-Ok.status, c.in-Ok.text, c.in-Ok.ensures.answer, subst P c.as_slice.ensures c.in-Err-write_all.ensures.part), c.requires.shown)
