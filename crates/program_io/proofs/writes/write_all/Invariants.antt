use Rattle.std.proofs.Common.{◌≤◌, ◌-◌, length, take}
use Rattle.std.specs.Io.KnownBytes.{Appends}
use Rattle.program_io.proofs.writes.write_all.Given as goal

abbrev pub invariant-loop-done : goal.invariant-loop-done
invariant-loop-done g l =
    let taken = g.K.Sink.taken in
    let faults = g.K.Sink.faults in
    record {
      within : l.done ≤ length l.text;
      appended : Appends (taken l.fn.sink) (taken l.sink) (take l.done l.text);
      later : faults l.fn.sink ≤ faults l.sink;
    }

abbrev pub decreases-loop-done : goal.decreases-loop-done
decreases-loop-done g l = length l.text - l.done
