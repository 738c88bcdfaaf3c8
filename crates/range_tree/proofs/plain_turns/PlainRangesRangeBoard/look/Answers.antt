use Rattle.std.proofs.Common.{◌≡◌, ◌∙◌, ◌<◌, ap, sym, refl, length, arith}
use Rattle.std.proofs.lemmas.List.{length-map, length-set}
use Rattle.range_tree.specs.Plain.{owner_at, pins_at, plain_word}
use Rattle.range_tree.proofs.OneGuest.{parts_of, inv-looks}
use Rattle.range_tree.proofs.Seeing.{get_or-any, IsRead, looks-read}
use Rattle.range_tree.proofs.plain_turns.PlainRangesRangeBoard.look.Goals as goal

pub invariant_of-self : goal.invariant_of-self
invariant_of-self c = inv-looks _ _ _ c.self.invariant (length-map _ _ ∙ length-set _ _ _ ∙ sym (length-map _ _) ∙ c.self.invariant.looks)

pub returns : goal.returns
returns c =
    let s = c.self.inside in
    let p = parts_of s in
    let r = c.args.range in
    let within : r < length p.pins = rw (← c.self.view_is) at c.requires in
    let long : length p.owners ≡ length p.pins = c.self.invariant.owners in
    let own : c.index-own.result.now ≡ pins_at p r = c.index-own.ensures ∙ get_or-any s.pins.items r _ _ within in
    let owner : c.index-owner.result.now ≡ owner_at p r = c.index-owner.ensures ∙ get_or-any s.owners.items r _ _ (omega (arith, within, long)) in
    let read : IsRead p r c.index-own.result.now c.word_of-word.result = record {
      pins = own;
      said = c.word_of-word.ensures ∙ ap (λ n. plain_word s.moves s.guest r n c.index-owner.result.now) own ∙ ap (plain_word s.moves s.guest r (pins_at p r)) owner;
    } in
    rw (← c.self.view_is) (looks-read p s.looks.items r c.index-own.result.now c.word_of-word.result c.self.invariant read refl)
