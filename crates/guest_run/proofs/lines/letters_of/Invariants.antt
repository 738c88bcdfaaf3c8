use Rattle.std.proofs.Common.{◌≡◌, take}
use Rattle.guest_run.specs.Telling.{letters_of}
use Rattle.guest_run.proofs.lines.letters_of.Given as goal

abbrev pub invariant-loop-look : goal.invariant-loop-look
invariant-loop-look l = l.letters.items ≡ letters_of (take l.look-index l.looked)
