use Rattle.std.proofs.Common.{◌∙◌}
use Rattle.file_share.proofs.Boarding.{inside, near_is, no_bar}
use Rattle.file_share.proofs.BoardsTurns.{bars, bars_table, bars_count, bars_kept}
use Rattle.file_share.proofs.boards.SharedFilesFileTurns.bar.Goals as goal

pub bar-requires-clause-table : goal.bar-requires-clause-table
bar-requires-clause-table g c = (c.args.self.now.own, inside c.args.self.now.pass c.args.file c.args.self.now.table.now.slots c.requires.file c.args.self.now.wide)

pub bar-requires-clause-free : goal.bar-requires-clause-free
bar-requires-clause-free g c = no_bar c.args.self.now.pass.view c.requires.unbarred

pub invariant_of-self-clause-own : goal.invariant_of-self-clause-own
invariant_of-self-clause-own g c = bars_table c.args.self.now.pass c.bar.new.self c.args.file (near_is c.args.self.now.pass c.args.file c.requires.file) c.bar.result c.bar.ensures ∙ c.args.self.now.own

pub invariant_of-self-clause-wide : goal.invariant_of-self-clause-wide
invariant_of-self-clause-wide g c = bars_count c.args.self.now.pass c.bar.new.self c.args.file (near_is c.args.self.now.pass c.args.file c.requires.file) c.bar.result c.bar.ensures ∙ c.args.self.now.wide

pub invariant_of-self-clause-floored : goal.invariant_of-self-clause-floored
invariant_of-self-clause-floored g c = bars_kept c.args.self.now.pass c.bar.new.self c.args.file (near_is c.args.self.now.pass c.args.file c.requires.file) c.bar.result c.bar.ensures c.args.self.now.floored

pub returns : goal.returns
returns g c = bars c.args.self.now.pass c.bar.new.self c.args.file (near_is c.args.self.now.pass c.args.file c.requires.file) c.bar.result c.bar.ensures c.requires.unbarred
