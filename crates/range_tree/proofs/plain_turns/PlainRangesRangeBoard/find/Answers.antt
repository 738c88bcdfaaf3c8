use Rattle.std.proofs.Common.{◌≡◌, ◌∙◌, ap, sym, subst, Option}
use Rattle.page_map.specs.declared.ranges.Placed.{Placed}
use Rattle.page_map.specs.Logs.{placed_at}
use Rattle.range_tree.specs.Logs.{Finds}
use Rattle.range_tree.specs.Plain.{entries_of}
use Rattle.range_tree.proofs.OneGuest.{parts_of}
use Rattle.range_tree.proofs.Seeing.{get_or-any}
use Rattle.range_tree.proofs.Moves.{tree-known}
use Rattle.range_tree.proofs.Living.{finds-placed}
use Rattle.range_tree.proofs.plain_turns.PlainRangesRangeBoard.find.Goals as goal

pub returns-clause-live : goal.returns-clause-live
returns-clause-live c =
    let p = parts_of c.self.inside in
    let file = c.in-Some.file in
    let known = tree-known p file c.self.invariant c.in-Some.is in
    let log : c.index.result.now ≡ entries_of p file = c.index.ensures ∙ get_or-any p.logs file _ _ known in
    let at : c.find.result ≡ placed_at (entries_of p file) c.args.chunk = c.find.ensures.placed ∙ ap (λ l. placed_at l c.args.chunk) log in
    rw (← c.self.view_is, c.in-Some.is) (subst (λ (o : Option Placed). Finds (entries_of p file) c.args.chunk o) (sym at) (finds-placed _ (entries_of p file) c.args.chunk (c.self.invariant.logs file known)))
