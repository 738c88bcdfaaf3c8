use Rattle.std.proofs.Common.{refl, sym, ap, ◌∙◌, subst, Some, None, Option, List, length, arith}
use Rattle.page_map.specs.declared.ranges.LogEntry.{LogEntry}
use Rattle.window_core.specs.Window.{settle_mapped}
use Rattle.range_share.specs.Steps.{Always, branch_of, moves_at, ranges_of}
use Rattle.range_share.specs.Known.{Known, known, IsDeed, Sound}
use Rattle.range_share.proofs.Calling.{sound_settled, range_unplaced, deed_of, guest_small, hand_log}
use Rattle.range_share.proofs.table.RangePass.settle_mapped.Goals as goal

pub place-requires-clause-free_range : goal.place-requires-clause-free_range
place-requires-clause-free_range c = let s = c.self.inside in
    let ok = subst (λ (o : Option (List LogEntry)). Sound s.seat o s.file s.guest s.moves s.ranges s.files s.looks) c.in-Some.is c.self.invariant in
    range_unplaced s.seat s.seat c.in-Some.tree s.file s.guest s.moves s.ranges s.files s.looks ok refl c.args.range c.args.file
    (ap (λ (k : Known). (branch_of k.view c.args.file).had) c.self.view_is ∙ c.requires.had.0)
    (ap (λ (k : Known). moves_at k.view c.args.range) c.self.view_is ∙ c.requires.range.1)

pub invariant_of-self-2 : goal.invariant_of-self-2
invariant_of-self-2 c = let s = c.self.inside in let t = c.settle_in.new.seat in
    let ok = subst (λ (o : Option (List LogEntry)). Sound s.seat o s.file s.guest s.moves s.ranges s.files s.looks) c.in-Some.is c.self.invariant in
    subst (λ (l : List LogEntry). Sound t (Some l) s.file s.guest None s.ranges s.files s.looks) (sym c.in_ok-place.ensures.ok)
    (sound_settled s.seat t c.in-Some.tree s.file s.guest s.moves s.ranges s.files s.looks ok c.settle_in.ensures.table c.args.range c.args.file c.args.chunk c.args.mode c.settle_in.ensures.deed
    (ap (λ (k : Known). (branch_of k.view c.args.file).had) c.self.view_is ∙ c.requires.had.0)
    (ap (λ (k : Known). moves_at k.view c.args.range) c.self.view_is ∙ c.requires.range.1)
    (let e = ap (λ (k : Known). ranges_of k.view) c.self.view_is in let l = c.requires.range.0 in omega arith))

pub returns : goal.returns
returns c = let s = c.self.inside in let t = c.settle_in.new.seat in let d = settle_mapped c.args.range c.args.file c.args.chunk c.args.mode in
    let ok = subst (λ (o : Option (List LogEntry)). Sound s.seat o s.file s.guest s.moves s.ranges s.files s.looks) c.in-Some.is c.self.invariant in (
      c.in_ok-place.ensures.entry ∙ (ap (λ (l : List LogEntry). length l) (hand_log s.seat s.seat c.in-Some.tree s.file s.guest s.moves s.ranges s.files s.looks ok refl c.args.file (ap (λ (k : Known). (branch_of k.view c.args.file).had) c.self.view_is ∙ c.requires.had.0))
          ∙ ap (λ (k : Known). length (branch_of k.view c.args.file).seen) c.self.view_is),
      subst (λ (k : Known). IsDeed d k.view.noted Always k (known t)) c.self.view_is
          (deed_of s.seat t d s.seat.me.0.noted Always c.settle_in.ensures.table (guest_small s.seat t s.hand s.file s.guest s.moves s.ranges s.files s.looks c.self.invariant c.settle_in.ensures.table) c.settle_in.ensures.deed.0),
    )
