use Rattle.std.proofs.Common.{◌∙◌}
use Rattle.file_share.proofs.Boarding.{inside, near_is, count_same, table_same}
use Rattle.file_share.proofs.BoardsCalls.{looked, looks, looks_current, looks_floored}
use Rattle.file_share.proofs.boards.SharedFilesFileBoard.size_now.Goals as goal

pub size_now-requires : goal.size_now-requires
size_now-requires c = record { table = (c.args.self.now.own, inside c.args.self.now.pass c.args.file c.args.self.now.table.now.slots c.requires c.args.self.now.wide) }

pub invariant_of-self-clause-own : goal.invariant_of-self-clause-own
invariant_of-self-clause-own c = table_same _ _ _ _ _ (looked c.args.self.now.pass c.size_now.new.self c.args.file c.size_now.result (near_is c.args.self.now.pass c.args.file c.requires) c.size_now.ensures) ∙ c.args.self.now.own

pub invariant_of-self-clause-wide : goal.invariant_of-self-clause-wide
invariant_of-self-clause-wide c = count_same _ _ _ _ _ (looked c.args.self.now.pass c.size_now.new.self c.args.file c.size_now.result (near_is c.args.self.now.pass c.args.file c.requires) c.size_now.ensures) ∙ c.args.self.now.wide

pub invariant_of-self-clause-floored : goal.invariant_of-self-clause-floored
invariant_of-self-clause-floored c = looks_floored c.args.self.now.pass c.size_now.new.self c.args.file c.size_now.result (near_is c.args.self.now.pass c.args.file c.requires) c.size_now.ensures c.args.self.now.floored

pub returns-clause-ready : goal.returns-clause-ready
returns-clause-ready c = looks_current c.args.self.now.pass c.size_now.new.self c.args.file c.size_now.result (near_is c.args.self.now.pass c.args.file c.requires) c.size_now.ensures

pub returns-clause-noted : goal.returns-clause-noted
returns-clause-noted c = looks c.args.self.now.pass c.size_now.new.self c.args.file c.size_now.result (near_is c.args.self.now.pass c.args.file c.requires) c.size_now.ensures c.args.self.now.floored
