use Rattle.std.proofs.Common.{◌≡◌, ◌∙◌, ◌<◌, ap, sym, refl, subst, Option, Some, None, true, length, arith}
use Rattle.std.specs.Prelude.{IsSome}
use Rattle.page_map.specs.declared.ranges.Placed.{Placed}
use Rattle.page_map.specs.Logs.{placed_at}
use Rattle.range_tree.specs.Ranges.{Takes, is_takeable}
use Rattle.range_tree.specs.Plain.{owner_at, pins_at, entries_of, plain_word, word_of}
use Rattle.range_tree.proofs.OneGuest.{parts_of}
use Rattle.range_tree.proofs.Seeing.{get_or-any, IsRead, looks-read, takes-free, takeable-owned}
use Rattle.range_tree.proofs.Moves.{owner-found, removed-log, IsRemoval, inv-removal, takes-removal}
use Rattle.range_tree.proofs.plain_turns.PlainRangesRangeBoard.take.Goals as goal

pub returns-then-not-is_takeable : goal.returns-then-not-is_takeable
unfolding Takes
returns-then-not-is_takeable c =
    let s = c.self.inside in
    let p = parts_of s in
    let r = c.args.range in
    let within : r < length p.pins = rw (← c.self.view_is) at c.requires.range in
    let long : length p.owners ≡ length p.pins = c.self.invariant.owners in
    let own : c.index-own.result.now ≡ pins_at p r = c.index-own.ensures ∙ get_or-any s.pins.items r _ _ within in
    let owner : c.index-owner.result.now ≡ owner_at p r = c.index-owner.ensures ∙ get_or-any s.owners.items r _ _ (omega (arith, within, long)) in
    let read : IsRead p r c.index-own.result.now c.word_of-word.result = record {
      pins = own;
      said = c.word_of-word.ensures ∙ ap (λ n. plain_word s.moves s.guest r n c.index-owner.result.now) own ∙ ap (plain_word s.moves s.guest r (pins_at p r)) owner;
    } in
    rw (← c.self.view_is) (record { untakeable = sym c.is_takeable.ensures ∙ c.if-not-is_takeable.true; looks = looks-read p s.looks.items r c.index-own.result.now c.word_of-word.result c.self.invariant read refl })

pub returns-in_default : goal.returns-in_default
unfolding Takes
returns-in_default c =
    let s = c.self.inside in
    let p = parts_of s in
    let r = c.args.range in
    let within : r < length p.pins = rw (← c.self.view_is) at c.requires.range in
    let long : length p.owners ≡ length p.pins = c.self.invariant.owners in
    let owner : c.index-owner.result.now ≡ owner_at p r = c.index-owner.ensures ∙ get_or-any s.owners.items r _ _ (omega (arith, within, long)) in
    let still : p.moves ≡ None = rw (← c.self.view_is) at c.requires.free in
    rw (← c.self.view_is) (takes-free p r c.self.invariant still (sym owner ∙ c.in_default.is))

pub index_mut-requires-2 : goal.index_mut-requires-2
index_mut-requires-2 c =
    let s = c.self.inside in
    let p = parts_of s in
    let r = c.args.range in
    let within : r < length p.pins = rw (← c.self.view_is) at c.requires.range in
    let long : length p.owners ≡ length p.pins = c.self.invariant.owners in
    let owner : c.index-owner.result.now ≡ owner_at p r = c.index-owner.ensures ∙ get_or-any s.owners.items r _ _ (omega (arith, within, long)) in
    let known = (c.self.invariant.owned r c.in-Some.o (sym owner ∙ c.in-Some.is)).known in
    omega (arith, known)

pub remove-requires : goal.remove-requires
remove-requires c =
    let s = c.self.inside in
    let p = parts_of s in
    let r = c.args.range in
    let within : r < length p.pins = rw (← c.self.view_is) at c.requires.range in
    let long : length p.owners ≡ length p.pins = c.self.invariant.owners in
    let owner : c.index-owner.result.now ≡ owner_at p r = c.index-owner.ensures ∙ get_or-any s.owners.items r _ _ (omega (arith, within, long)) in
    let e : owner_at p r ≡ Some c.in-Some.o = sym owner ∙ c.in-Some.is in
    let known = (c.self.invariant.owned r c.in-Some.o e).known in
    let log : c.index_mut-2.result.now ≡ entries_of p c.in-Some.o.file = c.index_mut-2.ensures.value ∙ get_or-any p.logs c.in-Some.o.file _ _ known in
    subst (λ (o : Option Placed). IsSome o) (sym (ap (λ l. placed_at l c.in-Some.o.chunk) log ∙ owner-found p r c.in-Some.o c.self.invariant e)) refl

-- the removal that was made
removal_of : (c : goal.After-self-4-1) → IsRemoval (parts_of c.self.inside) c.args.range c.in-Some.o c.remove.new.self
removal_of c =
    let s = c.self.inside in
    let p = parts_of s in
    let r = c.args.range in
    let within : r < length p.pins = rw (← c.self.view_is) at c.requires.range in
    let long : length p.owners ≡ length p.pins = c.self.invariant.owners in
    let own : c.index-own.result.now ≡ pins_at p r = c.index-own.ensures ∙ get_or-any s.pins.items r _ _ within in
    let owner : c.index-owner.result.now ≡ owner_at p r = c.index-owner.ensures ∙ get_or-any s.owners.items r _ _ (omega (arith, within, long)) in
    let e : owner_at p r ≡ Some c.in-Some.o = sym owner ∙ c.in-Some.is in
    let known = (c.self.invariant.owned r c.in-Some.o e).known in
    let log : c.index_mut-2.result.now ≡ entries_of p c.in-Some.o.file = c.index_mut-2.ensures.value ∙ get_or-any p.logs c.in-Some.o.file _ _ known in
    let said : c.word_of-word.result ≡ word_of p r = c.word_of-word.ensures ∙ ap (λ n. plain_word s.moves s.guest r n c.index-owner.result.now) own ∙ ap (plain_word s.moves s.guest r (pins_at p r)) owner in
    let takeable : is_takeable p.tree (word_of p r) ≡ true = sym (ap (is_takeable p.tree) said) ∙ (sym c.is_takeable.ensures ∙ c.if-not-is_takeable.false) in
    let still : p.moves ≡ None = rw (← c.self.view_is) at c.requires.free in
    record {
      within = within;
      owner = e;
      unpinned = (takeable-owned p r c.in-Some.o still e takeable).1;
      is = removed-log p r c.in-Some.o c.index_mut-2.result.now c.remove.new.self c.self.invariant e log c.remove.ensures.log;
      stays = rw log at c.remove.ensures.sound (length p.pins);
    }

pub invariant_of-self-2 : goal.invariant_of-self-2
invariant_of-self-2 c = inv-removal {s = parts_of c.self.inside} c.args.range c.in-Some.o c.remove.new.self c.self.invariant (removal_of c)

pub returns : goal.returns
unfolding Takes
returns c =
    let s = c.self.inside in
    let p = parts_of s in
    let r = c.args.range in
    let removed = removal_of c in
    let own : c.index-own.result.now ≡ pins_at p r = c.index-own.ensures ∙ get_or-any s.pins.items r _ _ removed.within in
    let owner : c.index-owner.result.now ≡ owner_at p r = c.in-Some.is ∙ sym removed.owner in
    let said : c.word_of-word.result ≡ word_of p r = c.word_of-word.ensures ∙ ap (λ n. plain_word s.moves s.guest r n c.index-owner.result.now) own ∙ ap (plain_word s.moves s.guest r (pins_at p r)) owner in
    let takeable : is_takeable p.tree (word_of p r) ≡ true = sym (ap (is_takeable p.tree) said) ∙ (sym c.is_takeable.ensures ∙ c.if-not-is_takeable.false) in
    let still : p.moves ≡ None = rw (← c.self.view_is) at c.requires.free in
    rw (← c.self.view_is) (takes-removal p r c.in-Some.o c.remove.new.self c.self.invariant removed still (takeable-owned p r c.in-Some.o still removed.owner takeable).0)
