use Rattle.std.proofs.Common.{◌∙◌}
use Rattle.file_share.proofs.Boarding.{inside, near_is, count_same, table_same, no_turn}
use Rattle.file_share.proofs.BoardsTurns.{taken, enters, enters_floored}
use Rattle.file_share.proofs.boards.SharedFilesFileTurns.enter.Goals as goal

pub enter-requires-clause-table : goal.enter-requires-clause-table
enter-requires-clause-table g c = (c.args.self.now.own, inside c.args.self.now.pass c.args.file c.args.self.now.table.now.slots c.requires.file c.args.self.now.wide)

pub enter-requires-clause-free : goal.enter-requires-clause-free
enter-requires-clause-free g c = no_turn c.args.self.now.pass.view c.requires.free

pub invariant_of-self-clause-own : goal.invariant_of-self-clause-own
invariant_of-self-clause-own g c = table_same _ _ _ _ _ (taken c.args.self.now.pass c.enter.new.self c.args.file (near_is c.args.self.now.pass c.args.file c.requires.file) c.enter.ensures.deed c.enter.ensures.entered) ∙ c.args.self.now.own

pub invariant_of-self-clause-wide : goal.invariant_of-self-clause-wide
invariant_of-self-clause-wide g c = count_same _ _ _ _ _ (taken c.args.self.now.pass c.enter.new.self c.args.file (near_is c.args.self.now.pass c.args.file c.requires.file) c.enter.ensures.deed c.enter.ensures.entered) ∙ c.args.self.now.wide

pub invariant_of-self-clause-floored : goal.invariant_of-self-clause-floored
invariant_of-self-clause-floored g c = enters_floored c.args.self.now.pass c.enter.new.self c.args.file (near_is c.args.self.now.pass c.args.file c.requires.file) c.enter.ensures.deed c.enter.ensures.entered c.args.self.now.floored

pub returns : goal.returns
returns g c = enters c.args.self.now.pass c.enter.new.self c.args.file (near_is c.args.self.now.pass c.args.file c.requires.file) c.enter.ensures.deed c.enter.ensures.entered c.requires.free
