use Rattle.std.proofs.Common.{rules, inr}
use Rattle.chain_stream.proofs.HeaderLaws.{short_header}
use Rattle.chain_stream.proofs.headers.read_header.Goals as goal

pub returns-then-not-branch-clause-unheaded : goal.returns-then-not-branch-clause-unheaded
returns-then-not-branch-clause-unheaded g c = λ e.
    let ended = c.in_ok-read_enough.ensures.ended (search rules) in
    record { bytes = c.read_enough.new.pending.rest; consumed = c.read_enough.ensures.consumed; no_header = short_header c.read_enough.new.pending.rest ended.1; whole = inr ended.0 }
