use Rattle.std.proofs.Common.{◌≡◌, ◌∙◌, ap, sym, subst, ◌∷◌, ◌++◌, [], false, List, Option, IfSome, IsSome, arith}
use Rattle.std.specs.List.{find}
use Rattle.page_map.specs.declared.ranges.LogEntry.{LogEntry}
use Rattle.page_map.specs.declared.ranges.Placed.{Placed}
use Rattle.page_map.specs.Logs.{is_of, is_writable}
use Rattle.range_tree.specs.declared.slots.Spot.{Spot}
use Rattle.range_tree.specs.Trees.{Agrees, IsReading, slots_in, upgrade_entry}
use Rattle.range_tree.proofs.Agreeing.{IsFound, agrees_raised, keeps_raised, placed_found, is_found}
use Rattle.range_tree.proofs.Rooms.{needed_after_raised}
use Rattle.range_tree.proofs.trees.Tree.upgrade.Goals as goal

pub spot_of-spot-requires : goal.spot_of-spot-requires
spot_of-spot-requires c = let agrees : Agrees (slots_in c.self.inside.spots.items) c.args.self.now = rw (sym c.self.view_is) c.self.invariant.0 in
    subst (λ (xs : List Spot). IsSome (find (is_of c.args.chunk) (slots_in xs))) (sym c.deref.ensures.value) (is_found c.self.inside.spots.items c.args.self.now c.args.chunk agrees c.requires.placed)

found : (c : goal.After-add) → IsFound c.self.inside.spots.items c.args.self.now c.args.chunk c.spot_of-spot.result
found c = record {
  agrees = rw (sym c.self.view_is) c.self.invariant.0;
  found = c.spot_of-spot.ensures ∙ ap (λ (xs : List Spot). find (is_of c.args.chunk) (slots_in xs)) c.deref.ensures.value;
}

longer : (c : goal.After-add) → c.add.new.log.items ≡ c.args.self.now ++ upgrade_entry c.spot_of-spot.result.range ∷ []
longer c = c.add.ensures.items ∙ ap (λ (xs : List LogEntry). xs ++ upgrade_entry c.spot_of-spot.result.range ∷ []) c.self.view_is

low : (c : goal.After-add) → is_writable c.spot_of-spot.result.mode ≡ false
low c = subst (λ (o : Option Placed). IfSome o IsReading) (placed_found c.self.inside.spots.items c.args.self.now c.args.chunk c.spot_of-spot.result (found c)) c.requires.reading

pub add-requires : goal.add-requires
add-requires c = let less = needed_after_raised c.self.inside.spots.items c.args.chunk c.spot_of-spot.result (c.spot_of-spot.ensures ∙ ap (λ (xs : List Spot). find (is_of c.args.chunk) (slots_in xs)) c.deref.ensures.value) (subst (λ (o : Option Placed). IfSome o IsReading) (placed_found c.self.inside.spots.items c.args.self.now c.args.chunk c.spot_of-spot.result (record { agrees = rw (sym c.self.view_is) c.self.invariant.0; found = (c.spot_of-spot.ensures ∙ ap (λ (xs : List Spot). find (is_of c.args.chunk) (slots_in xs)) c.deref.ensures.value) })) c.requires.reading) in let room = c.self.invariant.1 in omega arith

pub invariant_of-self : goal.invariant_of-self
invariant_of-self c =
    (agrees_raised c.self.inside.spots.items c.upgrade.new.spots.items c.args.self.now c.add.new.log.items c.args.chunk c.spot_of-spot.result (found c) (low c) c.upgrade.ensures.slots (longer c), (let less = needed_after_raised c.self.inside.spots.items c.args.chunk c.spot_of-spot.result (found c).found (low c) in let room = c.self.invariant.1 in let a = c.add.ensures in rw c.upgrade.ensures.spots (omega arith)))

pub returns-clause-log : goal.returns-clause-log
returns-clause-log c = subst (λ (o : Option Placed). IfSome o (λ p. c.add.new.log.items ≡ c.args.self.now ++ upgrade_entry p.range ∷ [])) (sym (placed_found c.self.inside.spots.items c.args.self.now c.args.chunk c.spot_of-spot.result (found c))) (longer c)

pub returns-clause-sound : goal.returns-clause-sound
returns-clause-sound c = λ ranges. keeps_raised ranges c.self.inside.spots.items c.args.self.now c.add.new.log.items c.args.chunk c.spot_of-spot.result (found c) (low c) (longer c)
