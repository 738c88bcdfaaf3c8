use Rattle.std.proofs.Common.{rules, ◌≡◌, ◌<◌, length, sym, subst, ap, ◌∙◌, arith}
use Rattle.range_share.specs.Steps.{AtRest, ranges_of}
use Rattle.range_share.specs.Known.{Known, known, Refused, Took}
use Rattle.range_share.proofs.Calling.{sound_refused, refused_is, sound_found, found_is, has_chunk, sound_took, took_is, may_take_is}
use Rattle.range_share.proofs.table.RangePass.take.Goals as goal

pub invariant_of-self : goal.invariant_of-self
invariant_of-self c = let s = c.self.inside in let w = c.peek_at-seen in
    let may = sym (may_take_is s.seat s.file s.hand w.result c.self.invariant.in_hand) ∙ sym c.if-not-may_take.ensures in
    let near : c.args.range < 256 = (let e = ap (λ (k : Known). ranges_of k.view) c.self.view_is in let few = c.self.invariant.stands.few_ranges in let l = c.requires.range in omega arith) in
    let long : length s.looks ≡ 256 = search rules in
    sound_refused s.seat w.new.seat s.hand s.file s.guest s.moves s.ranges s.files s.looks c.self.invariant w.ensures.table c.args.range w.result w.ensures.deed may (omega arith)

pub returns-then-not-may_take : goal.returns-then-not-may_take
returns-then-not-may_take c = let s = c.self.inside in let w = c.peek_at-seen in
    let may = sym (may_take_is s.seat s.file s.hand w.result c.self.invariant.in_hand) ∙ sym c.if-not-may_take.ensures in
    subst (λ (k : Known). Refused c.args.range w.result k (known w.new.seat)) c.self.view_is
    (refused_is s.seat w.new.seat s.hand s.file s.guest s.moves s.ranges s.files s.looks c.self.invariant w.ensures.table c.args.range w.result w.ensures.deed w.ensures.tells may)

pub invariant_of-self-in-Some : goal.invariant_of-self-in-Some
invariant_of-self-in-Some c = let s = c.self.inside in let w = c.peek_at-seen in let t = c.try_take-found in let f = c.in-Some.ensures.deed in
    let may = sym (may_take_is s.seat s.file s.hand w.result c.self.invariant.in_hand) ∙ sym c.if-not-may_take.ensures in
    let near : c.args.range < 256 = (let e = ap (λ (k : Known). ranges_of k.view) c.self.view_is in let few = c.self.invariant.stands.few_ranges in let l = c.requires.range in omega arith) in
    let long : length s.looks ≡ 256 = search rules in
    sound_found s.seat w.new.seat s.hand s.file s.guest s.moves s.ranges s.files s.looks c.self.invariant w.ensures.table c.args.range w.result w.ensures.deed w.ensures.tells may t.new.seat t.ensures.table c.in-Some.word f.0 f.1 f.2 (omega arith)

pub returns-in-Some : goal.returns-in-Some
returns-in-Some c = let s = c.self.inside in let w = c.peek_at-seen in let t = c.try_take-found in let f = c.in-Some.ensures.deed in
    let may = sym (may_take_is s.seat s.file s.hand w.result c.self.invariant.in_hand) ∙ sym c.if-not-may_take.ensures in
    subst (λ (k : Known). Refused c.args.range c.in-Some.word k (known t.new.seat)) c.self.view_is
    (found_is s.seat w.new.seat s.hand s.file s.guest s.moves s.ranges s.files s.looks c.self.invariant w.ensures.table c.args.range w.result w.ensures.deed w.ensures.tells may t.new.seat t.ensures.table c.in-Some.word f.0 f.1 f.2)

pub remove-requires : goal.remove-requires
remove-requires c = let s = c.self.inside in let w = c.peek_at-seen in let t = c.try_take-found in let d = c.in_default.ensures.deed in
    let may = sym (may_take_is s.seat s.file s.hand w.result c.self.invariant.in_hand) ∙ sym c.if-not-may_take.ensures in
    has_chunk s.seat w.new.seat s.hand s.file s.guest s.moves s.ranges s.files s.looks c.self.invariant w.ensures.table c.args.range w.result w.ensures.deed w.ensures.tells may t.new.seat t.ensures.table d

pub invariant_of-self-2 : goal.invariant_of-self-2
invariant_of-self-2 c = let s = c.self.inside in let w = c.peek_at-seen in let t = c.try_take-found in let d = c.in_default.ensures.deed in
    let may = sym (may_take_is s.seat s.file s.hand w.result c.self.invariant.in_hand) ∙ sym c.if-not-may_take.ensures in
    sound_took s.seat w.new.seat s.hand s.file s.guest s.moves s.ranges s.files s.looks c.self.invariant w.ensures.table c.args.range w.result w.ensures.deed w.ensures.tells may t.new.seat t.ensures.table d
    c.remove.new.hand c.remove.ensures (subst (λ (k : Known). AtRest k.view) (sym c.self.view_is) c.requires.free)
    (let e = ap (λ (k : Known). ranges_of k.view) c.self.view_is in let l = c.requires.range in omega arith)

pub returns : goal.returns
returns c = let s = c.self.inside in let w = c.peek_at-seen in let t = c.try_take-found in let d = c.in_default.ensures.deed in
    let may = sym (may_take_is s.seat s.file s.hand w.result c.self.invariant.in_hand) ∙ sym c.if-not-may_take.ensures in
    subst (λ (k : Known). Took c.args.range k (known t.new.seat)) c.self.view_is
    (took_is s.seat w.new.seat s.hand s.file s.guest s.moves s.ranges s.files s.looks c.self.invariant w.ensures.table c.args.range w.result w.ensures.deed w.ensures.tells may t.new.seat t.ensures.table d)
