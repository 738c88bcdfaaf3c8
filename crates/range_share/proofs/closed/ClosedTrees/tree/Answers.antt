use Rattle.std.proofs.Common.{sym, ap, ◌∙◌, ◌≡◌, ◌<◌, List, Option, Some, None, arith, length}
use Rattle.std.specs.Slots.{slots_items, slots_len, slots_counts}
use lib.ListN.{get_elem?}
use mathlib.Core.Option.{some}
use Rattle.page_map.specs.declared.ranges.LogEntry.{LogEntry}
use Rattle.range_share.proofs.Ending.{get_at, in_range}
use Rattle.range_share.proofs.closed.ClosedTrees.tree.Goals as goal

clash : (o : Option (List LogEntry)) (h : List LogEntry) → o ≡ None → o ≡ Some h → ⊥
clash o h p q = cc

pub get-requires : goal.get-requires
get-requires c = let row = c.self.inside.closed.slots in let there = ap (λ l. get_elem? l c.args.file) c.self.view_is ∙ c.requires.there.1 in
    let near : c.args.file < slots_len row = (let n = (slots_counts row).0 in let m : c.args.file < length (slots_items row) = in_range (slots_items row) c.args.file _ there in omega arith) in
    (near, c.self.invariant c.args.file (omega arith) near)

pub unreachable-requires : goal.unreachable-requires
unreachable-requires c = let there = ap (λ l. get_elem? l c.args.file) c.self.view_is ∙ c.requires.there.1 in
    clash c.get.result.now c.requires.there.0 c.in_default.is (c.get.ensures ∙ get_at (slots_items c.self.inside.closed.slots) c.args.file (Some c.requires.there.0) c.get.result.now there)

pub returns : goal.returns
returns c = let there = ap (λ l. get_elem? l c.args.file) c.self.view_is ∙ c.requires.there.1 in
    let same = c.get.ensures ∙ get_at (slots_items c.self.inside.closed.slots) c.args.file (Some c.requires.there.0) c.get.result.now there in
    c.requires.there.1 ∙ ap some (sym same ∙ c.in-Some.is)
