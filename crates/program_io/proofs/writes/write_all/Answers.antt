use Rattle.std.proofs.Common.{arith}
use Rattle.std.proofs.lemmas.Grind.{common_steps}
use Rattle.program_io.proofs.Parts.{appends_further}
use Rattle.program_io.proofs.writes.write_all.Goals as goal

pub loop-done-preserved : goal.loop-done-preserved
loop-done-preserved g c =
    let taken = g.K.Sink.taken in
    record {
      within = grind (arith, common_steps);
      appended = appends_further (taken c.args.sink.now) (taken c.loop-done.sink) (taken c.write.new.self) c.loop-done.done c.in_ok-n.n c.args.text.now c.loop-done.invariant.appended (rw c.split_at.ensures.back at c.in_ok-n.ensures.bytes);
      later = grind (arith, common_steps);
    }
