use Rattle.std.proofs.Common.{Err, ap, ◌∙◌, ℕ, List, refl, sym}
use Rattle.program_io.specs.Causes.{AppendsPart}
use Rattle.program_io.specs.declared.statuses.Status.{Status}
use Rattle.program_io.specs.declared.statuses.Status.TheVariants as statuses
use Rattle.daxrun.specs.Run.{IsDue, limit, usage_line, too_long_line}
use Rattle.daxrun.proofs.Told.{each_input, long_input}
use Rattle.daxrun.proofs.runs.run.Goals as goal

pub returns-in-Err-clause-write_fault : goal.returns-in-Err-clause-write_fault
returns-in-Err-clause-write_fault g c = λ e.
    let taken = g.K.Sink.taken in
    let words = c.args.words.now in
    let none = sym c.is_script.ensures ∙ c.if-not-is_script.true in
    let P : List ℕ → Type 0 = λ input. (status : Status) × (text : List ℕ) × IsDue words input status text × AppendsPart (taken c.args.sink.now) (taken c.write_all.new.sink) text in
    (c.in-Err.ensures.failed, each_input (g.S.Source.left c.args.source.now) P (λ input. (statuses.Usage, usage_line, (none, refl), c.in-Err.ensures.part)))

pub returns-in-Err-write_all-clause-write_fault : goal.returns-in-Err-write_all-clause-write_fault
returns-in-Err-write_all-clause-write_fault g c = λ e.
    let taken = g.K.Sink.taken in
    let words = c.args.words.now in
    let command = sym c.is_script.ensures ∙ c.if-not-is_script.false in
    let Q : List ℕ → Type 0 = λ input. (status : Status) × (text : List ℕ) × IsDue words input status text × AppendsPart (taken c.args.sink.now) (taken c.write_all-in-Err-TooLong.new.sink) text in
    (c.in-Err-write_all.ensures.failed, long_input (g.S.Source.left c.args.source.now) limit Q (λ input long. (statuses.TooLong, too_long_line, (command, long, refl), c.in-Err-write_all.ensures.part)) (c.in-Err-TooLong.ensures.too_long (ap Err c.in-Err-TooLong.field-0-is)))
