use Rattle.std.proofs.Common.{◌≡◌, ◌∙◌, ◌++◌, ◌∷◌, [], ap, refl, Some, List, length, arith}
use Rattle.std.specs.Prelude.{unwrap_or}
use Rattle.page_map.specs.declared.ranges.LogEntry.{LogEntry}
use Rattle.page_map.specs.Logs.{slot_in}
use Rattle.range_tree.specs.declared.plain.Owner.{Owner}
use Rattle.range_tree.specs.Trees.{place_entry}
use Rattle.range_tree.specs.Ranges.{Settles, IsMapped}
use Rattle.range_tree.specs.Plain.{plain_view, entries_of, owned_target, IsMoved}
use Rattle.range_tree.proofs.OneGuest.{parts_of, slot_for-none}
use Rattle.range_tree.proofs.Seeing.{get_or-any}
use Rattle.range_tree.proofs.Moves.{tree-known, IsPlace, inv-place, settles-place, settles-not, same-parts}
use Rattle.range_tree.proofs.plain_turns.PlainRangesRangeBoard.settle_mapped.Goals as goal

pub place-requires-clause-range : goal.place-requires-clause-range
place-requires-clause-range c =
    let m : IsMoved (parts_of c.self.inside) c.in-Some-Some.range = c.self.invariant.moves c.in-Some-Some.range c.in-Some-Some.is-1 in
    let within = m.within in
    let few = c.self.invariant.few in
    omega (arith, within, few)

pub place-requires-clause-free_range : goal.place-requires-clause-free_range
place-requires-clause-free_range c =
    let p = parts_of c.self.inside in
    let file = c.in-Some-Some.file in
    let range = c.in-Some-Some.range in
    let m : IsMoved p range = c.self.invariant.moves range c.in-Some-Some.is-1 in
    let log : c.index_mut.result.now ≡ entries_of p file = c.index_mut.ensures.value ∙ get_or-any p.logs file _ _ (tree-known p file c.self.invariant c.in-Some-Some.is-0) in
    ap (λ l. slot_in l range) log ∙ (c.self.invariant.slots file range ∙ (ap (λ o. Rattle.range_tree.specs.Plain.slot_for file range o) m.empty ∙ slot_for-none file range))

pub returns-in_err-entry : goal.returns-in_err-entry
returns-in_err-entry c =
    let p = parts_of c.self.inside in
    let file = c.in-Some-Some.file in
    let log : c.place.new.self ≡ entries_of p file = c.in_err-entry.ensures.err ∙ (c.index_mut.ensures.value ∙ get_or-any p.logs file _ _ (tree-known p file c.self.invariant c.in-Some-Some.is-0)) in
    settles-not _ _ _ _ c.from_residual.result c.from_residual.ensures.0 (same-parts p file c.place.new.self log ∙ c.self.view_is)

pub index_mut-requires-2 : goal.index_mut-requires-2
index_mut-requires-2 c =
    let m : IsMoved (parts_of c.self.inside) c.in-Some-Some.range = c.self.invariant.moves c.in-Some-Some.range c.in-Some-Some.is-1 in
    let within = m.within in
    let long = c.self.invariant.owners in
    omega (arith, within, long)

-- what was placed
abbrev pub owner_of : goal.After-self-3-1 → Owner
owner_of c = record { file = c.in-Some-Some.file; chunk = c.args.chunk; mode = c.args.mode; entry = c.in_ok-entry.entry }

place_of : (c : goal.After-self-3-1) → IsPlace (parts_of c.self.inside) c.in-Some-Some.file c.in-Some-Some.range (owner_of c) c.place.new.self
place_of c =
    let p = parts_of c.self.inside in
    let file = c.in-Some-Some.file in
    let range = c.in-Some-Some.range in
    let m : IsMoved p range = c.self.invariant.moves range c.in-Some-Some.is-1 in
    let within = m.within in
    let few = c.self.invariant.few in
    let log : c.index_mut.result.now ≡ entries_of p file = c.index_mut.ensures.value ∙ get_or-any p.logs file _ _ (tree-known p file c.self.invariant c.in-Some-Some.is-0) in
    let mapped : IsMapped (plain_view p) (unwrap_or p.moves 0) (Some (record { file = unwrap_or p.tree 0; chunk = c.args.chunk; mode = c.args.mode })) = rw (← c.self.view_is) at c.requires.mapped in
    record {
      own = refl;
      tree = c.in-Some-Some.is-0;
      moves = c.in-Some-Some.is-1;
      small = c.requires.small;
      mapped = rw (c.in-Some-Some.is-0, c.in-Some-Some.is-1) at mapped;
      at = c.in_ok-entry.ensures.entry ∙ ap (λ (l : List LogEntry). length l) log;
      is = c.in_ok-entry.ensures.ok ∙ ap (λ (l : List LogEntry). l ++ place_entry c.args.chunk range c.args.mode ∷ []) log;
      stays = rw log at c.in_ok-entry.ensures.sound (length p.pins) within;
    }

pub invariant_of-self-2 : goal.invariant_of-self-2
invariant_of-self-2 c = inv-place {s = parts_of c.self.inside} c.in-Some-Some.file c.in-Some-Some.range (owner_of c) c.place.new.self c.self.invariant (place_of c)

pub returns : goal.returns
unfolding Settles
returns c = rw (← c.self.view_is) (settles-place (parts_of c.self.inside) c.in-Some-Some.file c.in-Some-Some.range (owner_of c) c.place.new.self (place_of c))
