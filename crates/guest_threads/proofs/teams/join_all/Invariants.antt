use Rattle.std.proofs.Common.{◌≡◌, true, length}
use Rattle.guest_threads.specs.Jobs.{HasJoined, AreTold}
use Rattle.guest_threads.proofs.teams.join_all.Given as goal

abbrev pub invariant-loop-job : goal.invariant-loop-job
invariant-loop-job l = record {
  guest : l.guest ≡ length l.yielded;
  joined : HasJoined l.fn.file_pass l.fn.range_pass l.fn.jobs.items (length l.yielded) l.file_pass l.range_pass;
  parts : l.all ≡ true → AreTold l.yielded l.parts;
}
