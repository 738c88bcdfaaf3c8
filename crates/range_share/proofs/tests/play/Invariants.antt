use Rattle.range_share.specs.Boards.{board_of}
use Rattle.range_share.specs.Turns.{IsSame}
use Rattle.range_share.proofs.tests.play.Given as goal

abbrev pub invariant-loop : goal.invariant-loop
invariant-loop g l = IsSame (board_of l.fn.guest.board.pass) (board_of l.guest.board.pass)

abbrev pub invariant-loop-step : goal.invariant-loop-step
invariant-loop-step g l = IsSame (board_of l.fn.guest.board.pass) (board_of l.guest.board.pass)

abbrev pub invariant-loop-times : goal.invariant-loop-times
invariant-loop-times g l = IsSame (board_of l.fn.guest.board.pass) (board_of l.guest.board.pass)
