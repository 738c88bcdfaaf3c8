use Rattle.std.proofs.Common.{◌≡◌, map, take}
use Rattle.file_share.specs.Known.{mark_of}
use Rattle.file_share.proofs.marks.marks_of.Given as goal

abbrev pub invariant-loop-entry : goal.invariant-loop-entry
invariant-loop-entry l = l.marks ≡ map mark_of (take l.entry-index l.body.history)
