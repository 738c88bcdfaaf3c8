use Rattle.std.proofs.Common.{◌≡◌, ◌∙◌, ◌+◌, ◌<◌, ap, sym, refl, subst, Option, Some, None, length, sum, slice_set, arith}
use Rattle.std.specs.Prelude.{IfSome, IsSome}
use Rattle.range_tree.specs.declared.plain.Owner.{Owner}
use Rattle.range_tree.specs.Ranges.{tree_slot}
use Rattle.range_tree.specs.Plain.{plain_view, owner_at, pins_at, owned_target, IsMoved}
use Rattle.range_tree.proofs.OneGuest.{parts_of}
use Rattle.range_tree.proofs.Seeing.{get_or-any}
use Rattle.range_tree.proofs.Moves.{same-target}
use Rattle.range_tree.proofs.Whole.{placed-some, within-owned, pins-sum, inv-pins, pins-one}
use Rattle.range_tree.proofs.plain_turns.PlainRangesRangeBoard.pin.Goals as goal

pub index-requires : goal.index-requires
index-requires c =
    let p = parts_of c.self.inside in
    let had : IsSome (tree_slot (plain_view p) c.args.range) = rw (← c.self.view_is) at c.requires.had in
    let within = within-owned p c.args.range c.self.invariant (placed-some p c.args.range p.tree (owner_at p c.args.range) c.self.invariant refl refl had).1 in
    let long = c.self.invariant.owners in
    omega (arith, within, long)

pub unreachable-requires : goal.unreachable-requires
unreachable-requires c =
    let p = parts_of c.self.inside in
    let had : IsSome (tree_slot (plain_view p) c.args.range) = rw (← c.self.view_is) at c.requires.had in
    let some = (placed-some p c.args.range p.tree (owner_at p c.args.range) c.self.invariant refl refl had).1 in
    let within = within-owned p c.args.range c.self.invariant some in
    let long : length p.owners ≡ length p.pins = c.self.invariant.owners in
    let owner : owner_at p c.args.range ≡ None = sym (c.index.ensures ∙ get_or-any p.owners c.args.range _ _ (omega (arith, within, long))) ∙ c.in_default.is in
    let none : IsSome {T = Owner} None = subst (λ (o : Option Owner). IsSome o) owner some in
    cc

pub index_mut-requires : goal.index_mut-requires
index_mut-requires c =
    let p = parts_of c.self.inside in
    let had : IsSome (tree_slot (plain_view p) c.args.range) = rw (← c.self.view_is) at c.requires.had in
    let within = within-owned p c.args.range c.self.invariant (placed-some p c.args.range p.tree (owner_at p c.args.range) c.self.invariant refl refl had).1 in
    omega (arith, within)

pub overflow_add-index_mut : goal.overflow_add-index_mut
overflow_add-index_mut c =
    let p = parts_of c.self.inside in
    let had : IsSome (tree_slot (plain_view p) c.args.range) = rw (← c.self.view_is) at c.requires.had in
    let few : sum p.pins < 64 = rw (← c.self.view_is) at c.requires.few in
    let within = within-owned p c.args.range c.self.invariant (placed-some p c.args.range p.tree (owner_at p c.args.range) c.self.invariant refl refl had).1 in
    let count : c.index_mut.result.now ≡ pins_at p c.args.range = c.index_mut.ensures.value ∙ get_or-any p.pins c.args.range _ _ within in
    let most = pins-sum p.pins c.args.range within in
    record { fits = omega (arith, count, most, few) }

pub index_mut-requires-2 : goal.index_mut-requires-2
index_mut-requires-2 c =
    let p = parts_of c.self.inside in
    let had : IsSome (tree_slot (plain_view p) c.args.range) = rw (← c.self.view_is) at c.requires.had in
    let within = within-owned p c.args.range c.self.invariant (placed-some p c.args.range p.tree (owner_at p c.args.range) c.self.invariant refl refl had).1 in
    let long = c.self.invariant.pinned in
    omega (arith, within, long)

-- what is placed in the range, of the tree that is had
pub record IsPlacedIn (c : goal.After-self-2-1) : Type 0 where
  pub within : c.args.range < length (parts_of c.self.inside).pins
  pub owner : owner_at (parts_of c.self.inside) c.args.range ≡ Some c.in-Some.o
  pub tree : (parts_of c.self.inside).tree ≡ Some c.in-Some.o.file
  pub count : c.index_mut.result.now ≡ pins_at (parts_of c.self.inside) c.args.range

placed_in : (c : goal.After-self-2-1) → IsPlacedIn c
placed_in c =
    let p = parts_of c.self.inside in
    let had : IsSome (tree_slot (plain_view p) c.args.range) = rw (← c.self.view_is) at c.requires.had in
    let placed = placed-some p c.args.range p.tree (owner_at p c.args.range) c.self.invariant refl refl had in
    let within = within-owned p c.args.range c.self.invariant placed.1 in
    let long : length p.owners ≡ length p.pins = c.self.invariant.owners in
    let owner : owner_at p c.args.range ≡ Some c.in-Some.o = sym (c.index.ensures ∙ get_or-any p.owners c.args.range _ _ (omega (arith, within, long))) ∙ c.in-Some.is in
    record {
      within = within;
      owner = owner;
      tree = subst (λ (o : Option Owner). IfSome o (λ own. p.tree ≡ Some own.file)) owner placed.0;
      count = c.index_mut.ensures.value ∙ get_or-any p.pins c.args.range _ _ within;
    }

pub invariant_of-self : goal.invariant_of-self
invariant_of-self c =
    let p = parts_of c.self.inside in
    let placed = placed_in c in
    inv-pins {s = p} c.args.range (c.index_mut.result.now + 1) (owned_target c.in-Some.o) c.self.invariant placed.within
    (λ some. record { own = c.in-Some.o; placed = placed.owner; enough = same-target (owned_target c.in-Some.o) })
    (λ e. absurd (let m : IsMoved p c.args.range = c.self.invariant.moves c.args.range e in let k : None ≡ Some c.in-Some.o = sym m.empty ∙ placed.owner in cc))

pub returns : goal.returns
returns c =
    let p = parts_of c.self.inside in
    let placed = placed_in c in
    rw (← c.self.view_is) (ap (λ n. plain_view (record p { pins = slice_set p.pins c.args.range (n + 1); pinned = slice_set p.pinned c.args.range (owned_target c.in-Some.o) })) placed.count ∙ pins-one p c.args.range c.in-Some.o c.self.invariant placed.tree placed.owner)
