use Rattle.std.proofs.Common.{◌≡◌, ◌∙◌, ◌++◌, ◌∷◌, [], ap, sym, refl, subst, Option, Some, None, List, length, arith}
use Rattle.std.specs.Prelude.{IfSome, IsSome}
use Rattle.page_map.specs.declared.ranges.LogEntry.{LogEntry}
use Rattle.page_map.specs.declared.ranges.Placed.{Placed}
use Rattle.page_map.specs.Logs.{placed_at}
use Rattle.range_tree.specs.Trees.{IsReading, upgrade_entry}
use Rattle.range_tree.specs.Ranges.{CanUpgrade}
use Rattle.range_tree.specs.Plain.{plain_view, entries_of}
use Rattle.range_tree.proofs.OneGuest.{parts_of}
use Rattle.range_tree.proofs.Seeing.{get_or-any}
use Rattle.range_tree.proofs.Whole.{within-owned}
use Rattle.range_tree.proofs.Moves.{tree-known, found-owner, IsReadingIn, raisable-parts, reading-mode, IsUpgrade, inv-upgrade, upgrades-one}
use Rattle.range_tree.proofs.plain_turns.PlainRangesRangeBoard.upgrade.Goals as goal

pub unreachable-requires-in_default-find : goal.unreachable-requires-in_default-find
unreachable-requires-in_default-find c =
    let p = parts_of c.self.inside in
    let file = c.in-Some.file in
    let log : c.index.result.now ≡ entries_of p file = c.index.ensures ∙ get_or-any p.logs file _ _ (tree-known p file c.self.invariant c.in-Some.is) in
    let can : CanUpgrade (plain_view p) c.args.chunk = rw (← c.self.view_is) at c.requires in
    let at : placed_at (entries_of p file) c.args.chunk ≡ None = ap (λ l. placed_at l c.args.chunk) (sym log) ∙ (sym c.find.ensures.placed ∙ c.in_default-find.is) in
    let some = (raisable-parts p file c.args.chunk None c.in-Some.is can at).0 in
    let none : IsSome {T = Placed} None = some in
    cc

pub upgrade-requires-clause-reading : goal.upgrade-requires-clause-reading
upgrade-requires-clause-reading c =
    let p = parts_of c.self.inside in
    let file = c.in-Some.file in
    let log : c.index.result.now ≡ entries_of p file = c.index.ensures ∙ get_or-any p.logs file _ _ (tree-known p file c.self.invariant c.in-Some.is) in
    let log_mut : c.index_mut.result.now ≡ entries_of p file = c.index_mut.ensures.value ∙ get_or-any p.logs file _ _ (tree-known p file c.self.invariant c.in-Some.is) in
    let can : CanUpgrade (plain_view p) c.args.chunk = rw (← c.self.view_is) at c.requires in
    let at : placed_at (entries_of p file) c.args.chunk ≡ Some c.in-Some-find.placed = ap (λ l. placed_at l c.args.chunk) (sym log) ∙ (sym c.find.ensures.placed ∙ c.in-Some-find.is) in
    let r : IsReadingIn p file c.args.chunk c.in-Some-find.placed = (raisable-parts p file c.args.chunk (Some c.in-Some-find.placed) c.in-Some.is can at).1 in
    subst (λ (o : Option Placed). IfSome o IsReading) (sym (ap (λ l. placed_at l c.args.chunk) log_mut ∙ at)) (reading-mode c.in-Some-find.placed.mode r.reading)

pub index_mut-requires-2 : goal.index_mut-requires-2
index_mut-requires-2 c =
    let p = parts_of c.self.inside in
    let file = c.in-Some.file in
    let known = tree-known p file c.self.invariant c.in-Some.is in
    let log : c.index.result.now ≡ entries_of p file = c.index.ensures ∙ get_or-any p.logs file _ _ known in
    let at : placed_at (entries_of p file) c.args.chunk ≡ Some c.in-Some-find.placed = ap (λ l. placed_at l c.args.chunk) (sym log) ∙ (sym c.find.ensures.placed ∙ c.in-Some-find.is) in
    let owner = found-owner p file c.args.chunk c.in-Some-find.placed c.self.invariant known at in
    let within = within-owned p c.in-Some-find.placed.range c.self.invariant (rw owner refl) in
    let long = c.self.invariant.owners in
    omega (arith, within, long)

-- the upgrade that was made
upgrade_made : (c : goal.After-self-2-1) → IsUpgrade (parts_of c.self.inside) c.in-Some.file c.args.chunk c.in-Some-find.placed c.upgrade.new.self
upgrade_made c =
    let p = parts_of c.self.inside in
    let file = c.in-Some.file in
    let placed = c.in-Some-find.placed in
    let known = tree-known p file c.self.invariant c.in-Some.is in
    let log : c.index.result.now ≡ entries_of p file = c.index.ensures ∙ get_or-any p.logs file _ _ known in
    let log_mut : c.index_mut.result.now ≡ entries_of p file = c.index_mut.ensures.value ∙ get_or-any p.logs file _ _ known in
    let can : CanUpgrade (plain_view p) c.args.chunk = rw (← c.self.view_is) at c.requires in
    let at : placed_at (entries_of p file) c.args.chunk ≡ Some placed = ap (λ l. placed_at l c.args.chunk) (sym log) ∙ (sym c.find.ensures.placed ∙ c.in-Some-find.is) in
    let r : IsReadingIn p file c.args.chunk placed = (raisable-parts p file c.args.chunk (Some placed) c.in-Some.is can at).1 in
    let owner = found-owner p file c.args.chunk placed c.self.invariant known at in
    let done : c.upgrade.new.self ≡ c.index_mut.result.now ++ upgrade_entry placed.range ∷ [] =
    subst (λ (o : Option Placed). IfSome o (λ x. c.upgrade.new.self ≡ c.index_mut.result.now ++ upgrade_entry x.range ∷ [])) (ap (λ l. placed_at l c.args.chunk) log_mut ∙ at) c.upgrade.ensures.log in
    record {
      tree = c.in-Some.is;
      found = at;
      mapped = r.mapped;
      is = done ∙ ap (λ (l : List LogEntry). l ++ upgrade_entry placed.range ∷ []) log_mut;
      stays = rw log_mut at c.upgrade.ensures.sound (length p.pins);
      within = within-owned p placed.range c.self.invariant (rw owner refl);
    }

pub invariant_of-self : goal.invariant_of-self
invariant_of-self c = inv-upgrade {s = parts_of c.self.inside} c.in-Some.file c.args.chunk c.in-Some-find.placed c.upgrade.new.self c.self.invariant (upgrade_made c)

pub returns : goal.returns
returns c = rw (← c.self.view_is) (upgrades-one (parts_of c.self.inside) c.in-Some.file c.args.chunk c.in-Some-find.placed c.upgrade.new.self (upgrade_made c))
