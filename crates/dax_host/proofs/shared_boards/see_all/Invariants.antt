use Rattle.std.specs.Prelude.{All}
use Rattle.dax_host.specs.SharedBoards.{IsComing, Sees}
use Rattle.dax_host.proofs.shared_boards.see_all.Given as goal

abbrev pub invariant-loop : goal.invariant-loop
invariant-loop l = All (IsComing l.guest) l.coming.items × Sees l.guest l.fn.body l.body
