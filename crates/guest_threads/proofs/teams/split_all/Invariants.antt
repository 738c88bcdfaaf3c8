use Rattle.std.proofs.Common.{◌≡◌, ◌≤◌}
use Rattle.std.specs.Prelude.{vec_capacity}
use Rattle.guest_threads.specs.Jobs.{team, AreOut, files_out, ranges_out}
use Rattle.guest_threads.proofs.teams.split_all.Given as goal

abbrev pub invariant-loop-number : goal.invariant-loop-number
invariant-loop-number l = record {
  room : l.count ≤ vec_capacity l.jobs;
  files : l.file_pass ≡ files_out l.fn.file_pass l.number;
  ranges : l.range_pass ≡ ranges_out l.fn.range_pass l.number;
  jobs : AreOut (team l.daemon l.opened l.fn.file_pass l.fn.range_pass l.count) l.number l.jobs.items;
}
