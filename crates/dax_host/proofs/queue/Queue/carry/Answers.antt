use Rattle.std.proofs.Common.{rules}
use Rattle.dax_host.proofs.Carrying.{CanStep-same}
use Rattle.dax_host.proofs.queue.Queue.carry.Goals as goal

pub serve_chain-answer-requires-clause-boards : goal.serve_chain-answer-requires-clause-boards
serve_chain-answer-requires-clause-boards g c = CanStep-same _ _ _ c.args.readable.now _ (search rules) c.requires.boards
