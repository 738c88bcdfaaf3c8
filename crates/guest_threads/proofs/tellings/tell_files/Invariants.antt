use Rattle.guest_threads.specs.Jobs.{AreReread, AreRead, history_seen, log_seen}
use Rattle.guest_threads.specs.Ran.{AreFilesTold}
use Rattle.guest_threads.proofs.tellings.tell_files.Given as goal

abbrev pub invariant-loop-file : goal.invariant-loop-file
invariant-loop-file g l = record {
  reread : AreReread l.fn.file_pass l.fn.range_pass l.file_pass l.range_pass;
  read : AreRead l.file_pass l.range_pass l.file;
  told : AreFilesTold (history_seen l.file_pass) (log_seen l.range_pass) l.file l.told;
}
