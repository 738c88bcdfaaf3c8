use Rattle.std.proofs.Common.{ap, sym, length}
use Rattle.guest_threads.proofs.Backing.{team_alone, team_len}
use Rattle.guest_threads.proofs.jobs.members.Goals as goal

pub returns-then-background-eq0 : goal.returns-then-background-eq0
returns-then-background-eq0 c = ap length (sym (team_alone c.args.background c.args.guests.now c.if-background-eq0.true))

pub returns-else-background-eq0 : goal.returns-else-background-eq0
returns-else-background-eq0 c = sym (team_len c.args.background c.args.guests.now c.if-background-eq0.false)
