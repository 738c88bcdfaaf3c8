use Rattle.std.proofs.Common.{◌∙◌, subst, ◌<◌}
use Rattle.file_share.proofs.Boarding.{its_bar, count_same, table_same}
use Rattle.file_share.proofs.BoardsTurns.{unbarred, bar_returned, unbars_floored}
use Rattle.file_share.proofs.boards.SharedFilesFileTurns.unbar.Goals as goal

pub unbar-requires-clause-table : goal.unbar-requires-clause-table
unbar-requires-clause-table c = (c.args.self.now.own, subst (λ n. c.args.file < n) c.args.self.now.wide (its_bar c.args.self.now.pass.view c.args.file c.requires.had).0)

pub unbar-requires-clause-had : goal.unbar-requires-clause-had
unbar-requires-clause-had c = (its_bar c.args.self.now.pass.view c.args.file c.requires.had).1

pub invariant_of-self-clause-own : goal.invariant_of-self-clause-own
invariant_of-self-clause-own c = table_same _ _ _ _ _ (unbarred c.args.self.now.pass c.unbar.new.self c.args.file (its_bar c.args.self.now.pass.view c.args.file c.requires.had).0 c.unbar.ensures) ∙ c.args.self.now.own

pub invariant_of-self-clause-wide : goal.invariant_of-self-clause-wide
invariant_of-self-clause-wide c = count_same _ _ _ _ _ (unbarred c.args.self.now.pass c.unbar.new.self c.args.file (its_bar c.args.self.now.pass.view c.args.file c.requires.had).0 c.unbar.ensures) ∙ c.args.self.now.wide

pub invariant_of-self-clause-floored : goal.invariant_of-self-clause-floored
invariant_of-self-clause-floored c = unbars_floored c.args.self.now.pass c.unbar.new.self c.args.file (its_bar c.args.self.now.pass.view c.args.file c.requires.had).0 c.unbar.ensures c.args.self.now.floored

pub returns : goal.returns
returns c = bar_returned c.args.self.now.pass c.unbar.new.self c.args.file (its_bar c.args.self.now.pass.view c.args.file c.requires.had).0 c.unbar.ensures (its_bar c.args.self.now.pass.view c.args.file c.requires.had).1
