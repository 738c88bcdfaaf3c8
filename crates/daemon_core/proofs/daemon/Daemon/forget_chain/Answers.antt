use Rattle.std.proofs.Common.{rules}
use Rattle.daemon_core.proofs.daemon.Daemon.forget_chain.Goals as goal

pub serve-requires-clause-boards : goal.serve-requires-clause-boards
serve-requires-clause-boards g c = c.requires.boards c.in-Ok.message (search rules)
