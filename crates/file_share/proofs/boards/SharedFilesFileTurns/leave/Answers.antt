use Rattle.std.proofs.Common.{◌∙◌}
use Rattle.file_share.proofs.Boarding.{inside, near_is, count_same, table_same, its_turn}
use Rattle.file_share.proofs.BoardsTurns.{given, leaves, leaves_floored}
use Rattle.file_share.proofs.boards.SharedFilesFileTurns.leave.Goals as goal

pub leave-requires-clause-table : goal.leave-requires-clause-table
leave-requires-clause-table c = (c.args.self.now.own, inside c.args.self.now.pass c.args.file c.args.self.now.table.now.slots c.requires.file c.args.self.now.wide)

pub leave-requires-clause-turn : goal.leave-requires-clause-turn
leave-requires-clause-turn c = its_turn c.args.self.now.pass.view c.args.file c.requires.had

pub invariant_of-self-clause-own : goal.invariant_of-self-clause-own
invariant_of-self-clause-own c = table_same _ _ _ _ _ (given c.args.self.now.pass c.leave.new.self c.args.file (near_is c.args.self.now.pass c.args.file c.requires.file) c.leave.ensures) ∙ c.args.self.now.own

pub invariant_of-self-clause-wide : goal.invariant_of-self-clause-wide
invariant_of-self-clause-wide c = count_same _ _ _ _ _ (given c.args.self.now.pass c.leave.new.self c.args.file (near_is c.args.self.now.pass c.args.file c.requires.file) c.leave.ensures) ∙ c.args.self.now.wide

pub invariant_of-self-clause-floored : goal.invariant_of-self-clause-floored
invariant_of-self-clause-floored c = leaves_floored c.args.self.now.pass c.leave.new.self c.args.file (near_is c.args.self.now.pass c.args.file c.requires.file) c.leave.ensures c.args.self.now.floored

pub returns : goal.returns
returns c = leaves c.args.self.now.pass c.leave.new.self c.args.file (near_is c.args.self.now.pass c.args.file c.requires.file) c.leave.ensures c.requires.had
