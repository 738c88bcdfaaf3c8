use Rattle.std.proofs.Common.{◌∙◌}
use Rattle.file_share.proofs.Boarding.{inside, near_is, count_same, table_same}
use Rattle.file_share.proofs.BoardsTurns.{lent, lends, lends_floored, few_leases}
use Rattle.file_share.proofs.boards.SharedFilesFileTurns.lease.Goals as goal

pub lease-requires-clause-table : goal.lease-requires-clause-table
lease-requires-clause-table g c = (c.args.self.now.own, inside c.args.self.now.pass c.args.file c.args.self.now.table.now.slots c.requires.file c.args.self.now.wide)

pub lease-requires-clause-few : goal.lease-requires-clause-few
lease-requires-clause-few g c = few_leases c.args.self.now.pass.view c.args.file (near_is c.args.self.now.pass c.args.file c.requires.file) c.requires.few

pub invariant_of-self-clause-own : goal.invariant_of-self-clause-own
invariant_of-self-clause-own g c = table_same _ _ _ _ _ (lent c.args.self.now.pass c.lease.new.self c.args.file c.lease.result (near_is c.args.self.now.pass c.args.file c.requires.file) c.lease.ensures) ∙ c.args.self.now.own

pub invariant_of-self-clause-wide : goal.invariant_of-self-clause-wide
invariant_of-self-clause-wide g c = count_same _ _ _ _ _ (lent c.args.self.now.pass c.lease.new.self c.args.file c.lease.result (near_is c.args.self.now.pass c.args.file c.requires.file) c.lease.ensures) ∙ c.args.self.now.wide

pub invariant_of-self-clause-floored : goal.invariant_of-self-clause-floored
invariant_of-self-clause-floored g c = lends_floored c.args.self.now.pass c.lease.new.self c.args.file c.lease.result (near_is c.args.self.now.pass c.args.file c.requires.file) c.lease.ensures c.args.self.now.floored

pub returns : goal.returns
returns g c = lends c.args.self.now.pass c.lease.new.self c.args.file c.lease.result (near_is c.args.self.now.pass c.args.file c.requires.file) c.lease.ensures c.args.self.now.floored
