use Rattle.std.proofs.Common.{◌∙◌}
use Rattle.file_share.proofs.Boarding.{inside, near_is}
use Rattle.file_share.proofs.BoardsCalls.{ready_of, applies, applies_table, applies_count, applies_floored}
use Rattle.file_share.proofs.boards.SharedFilesFileBoard.apply.Goals as goal

pub apply-requires-clause-table : goal.apply-requires-clause-table
apply-requires-clause-table c = (c.args.self.now.own, inside c.args.self.now.pass c.args.file c.args.self.now.table.now.slots c.requires.file c.args.self.now.wide)

pub apply-requires-clause-turn : goal.apply-requires-clause-turn
apply-requires-clause-turn c = ready_of c.args.self.now.pass c.args.file (near_is c.args.self.now.pass c.args.file c.requires.file) c.requires.ready

pub invariant_of-self-clause-own : goal.invariant_of-self-clause-own
invariant_of-self-clause-own c = applies_table c.args.self.now.pass c.args.file c.args.op (near_is c.args.self.now.pass c.args.file c.requires.file) c.requires.ready c.apply.result c.apply.new.self c.apply.ensures ∙ c.args.self.now.own

pub invariant_of-self-clause-wide : goal.invariant_of-self-clause-wide
invariant_of-self-clause-wide c = applies_count c.args.self.now.pass c.args.file c.args.op (near_is c.args.self.now.pass c.args.file c.requires.file) c.requires.ready c.apply.result c.apply.new.self c.apply.ensures ∙ c.args.self.now.wide

pub invariant_of-self-clause-floored : goal.invariant_of-self-clause-floored
invariant_of-self-clause-floored c = applies_floored c.args.self.now.pass c.args.file c.args.op (near_is c.args.self.now.pass c.args.file c.requires.file) c.requires.ready c.apply.result c.apply.new.self c.apply.ensures c.args.self.now.floored

pub returns : goal.returns
returns c = applies c.args.self.now.pass c.args.file c.args.op (near_is c.args.self.now.pass c.args.file c.requires.file) c.requires.ready c.apply.result c.apply.new.self c.apply.ensures
