use Rattle.std.proofs.Common.{◌∙◌, subst, ◌<◌}
use Rattle.file_share.proofs.Boarding.{inside, near_is, count_same, table_same, part_leases}
use Rattle.file_share.proofs.BoardsTurns.{returned, returns_lease, returns_floored}
use Rattle.file_share.proofs.boards.SharedFilesFileTurns.unlease.Goals as goal

pub unlease-requires-clause-table : goal.unlease-requires-clause-table
unlease-requires-clause-table c = (c.args.self.now.own, inside c.args.self.now.pass c.args.file c.args.self.now.table.now.slots c.requires.file c.args.self.now.wide)

pub unlease-requires-clause-had : goal.unlease-requires-clause-had
unlease-requires-clause-had c = subst (λ n. 0 < n) (part_leases c.args.self.now.pass.view c.args.file) c.requires.had

pub invariant_of-self-clause-own : goal.invariant_of-self-clause-own
invariant_of-self-clause-own c = table_same _ _ _ _ _ (returned c.args.self.now.pass c.unlease.new.self c.args.file (near_is c.args.self.now.pass c.args.file c.requires.file) c.unlease.ensures (subst (λ n. 0 < n) (part_leases c.args.self.now.pass.view c.args.file) c.requires.had)) ∙ c.args.self.now.own

pub invariant_of-self-clause-wide : goal.invariant_of-self-clause-wide
invariant_of-self-clause-wide c = count_same _ _ _ _ _ (returned c.args.self.now.pass c.unlease.new.self c.args.file (near_is c.args.self.now.pass c.args.file c.requires.file) c.unlease.ensures (subst (λ n. 0 < n) (part_leases c.args.self.now.pass.view c.args.file) c.requires.had)) ∙ c.args.self.now.wide

pub invariant_of-self-clause-floored : goal.invariant_of-self-clause-floored
invariant_of-self-clause-floored c = returns_floored c.args.self.now.pass c.unlease.new.self c.args.file (near_is c.args.self.now.pass c.args.file c.requires.file) c.unlease.ensures (subst (λ n. 0 < n) (part_leases c.args.self.now.pass.view c.args.file) c.requires.had) c.args.self.now.floored

pub returns : goal.returns
returns c = returns_lease c.args.self.now.pass c.unlease.new.self c.args.file (near_is c.args.self.now.pass c.args.file c.requires.file) c.unlease.ensures (subst (λ n. 0 < n) (part_leases c.args.self.now.pass.view c.args.file) c.requires.had)
