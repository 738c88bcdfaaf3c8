use Rattle.range_share.specs.Boards.{board_of}
use Rattle.range_share.specs.Turns.{IsSame}
use Rattle.range_share.proofs.tests.a_table_of_many_ranges_and_files.Given as goal

abbrev pub invariant-loop-file : goal.invariant-loop-file
invariant-loop-file g l = IsSame (board_of l.initial.guest.board.pass) (board_of l.guest.board.pass)
