use Rattle.std.proofs.Common.{rules, tests, int_eq, pos, ◌∙◌}
use Rattle.std.proofs.lemmas.Iterator.{YieldsList-from_slice}
use Rattle.std.proofs.lemmas.Iterator.Search.{find_from_yields_List}
use Rattle.fuse_wire.specs.Errno.{errno_number, errors}
use Rattle.fuse_wire.proofs.ErrorNumbers.{find_of_number}
use Rattle.fuse_wire.proofs.errno.Errno.of.Goals as goal

pub returns-clause-only : goal.returns-clause-only
returns-clause-only c e h =
    let first = find_from_yields_List (λ x. int_eq (pos (errno_number x)) c.args.number) _ _ c.find.result c.find.ensures.ran (YieldsList-from_slice errors cc) (λ x b q k. search (rules, tests)) in
    c.copied.ensures ∙ first ∙ find_of_number c.args.number e h
