use Rattle.std.proofs.Common.{◌≡◌, ◌++◌, map, take, drop}
use Rattle.files_core.specs.Files.{ended_at}
use Rattle.files_core.proofs.rows.end_all.Given as goal

abbrev pub invariant-loop-i : goal.invariant-loop-i
invariant-loop-i l = l.notes.items ≡ map (ended_at l.seen) (take l.i l.initial.notes.items) ++ drop l.i l.initial.notes.items
