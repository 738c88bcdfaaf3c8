use Rattle.std.proofs.Common.{◌≡◌, ◌<◌, ◌++◌, ◌∷◌, [], sym, ap, ◌∙◌, subst, Some, Option, List}
use Rattle.std.specs.Prelude.{IfSome}
use Rattle.page_map.specs.declared.ranges.LogEntry.{LogEntry}
use Rattle.page_map.specs.declared.ranges.Placed.{Placed}
use Rattle.page_map.specs.Logs.{placed_at}
use Rattle.range_tree.specs.Trees.{IsReading, upgrade_entry}
use Rattle.window_core.specs.Window.{upgrade}
use Rattle.window_core.proofs.Reading.{reads}
use Rattle.range_share.specs.Steps.{Always, HasIn, ranges_of}
use Rattle.range_share.specs.Known.{Known, known, IsDeed, Sound}
use Rattle.range_share.proofs.Calling.{sound_upgraded, deed_of, guest_small, hand_has, placed_near, same_placed, if_placed}
use Rattle.range_share.proofs.table.RangePass.upgrade.Goals as goal

pub upgrade-requires-clause-reading : goal.upgrade-requires-clause-reading
upgrade-requires-clause-reading c = let s = c.self.inside in let q = c.requires.had in
    let ok = subst (λ (o : Option (List LogEntry)). Sound s.seat o s.file s.guest s.moves s.ranges s.files s.looks) c.in-Some.is c.self.invariant in
    let has = subst (λ (k : Known). HasIn k.view.mine c.args.file c.args.chunk q.0) (sym c.self.view_is) q.1 in
    subst (λ (o : Option Placed). IfSome o IsReading) (sym (hand_has s.seat c.in-Some.tree s.file s.guest s.moves s.ranges s.files s.looks ok c.args.file c.args.chunk q.0 has)) (reads q.0.mode q.2)

pub raise-requires-clause-range : goal.raise-requires-clause-range
raise-requires-clause-range c = let s = c.self.inside in let q = c.requires.had in
    let ok = subst (λ (o : Option (List LogEntry)). Sound s.seat o s.file s.guest s.moves s.ranges s.files s.looks) c.in-Some.is c.self.invariant in
    let has = subst (λ (k : Known). HasIn k.view.mine c.args.file c.args.chunk q.0) (sym c.self.view_is) q.1 in
    let there = hand_has s.seat c.in-Some.tree s.file s.guest s.moves s.ranges s.files s.looks ok c.args.file c.args.chunk q.0 has in
    let same = same_placed c.in-Some-find.placed q.0 (sym c.in-Some-find.is ∙ (c.find.ensures.placed ∙ there)) in
    subst (λ (p : Placed). p.range < ranges_of s.seat.me.0) (sym same) (placed_near s.seat s.hand s.file s.guest s.moves s.ranges s.files s.looks c.self.invariant c.args.file c.args.chunk q.0 has)

pub invariant_of-self : goal.invariant_of-self
invariant_of-self c = let s = c.self.inside in let q = c.requires.had in let t = c.raise.new.seat in
    let ok = subst (λ (o : Option (List LogEntry)). Sound s.seat o s.file s.guest s.moves s.ranges s.files s.looks) c.in-Some.is c.self.invariant in
    let has = subst (λ (k : Known). HasIn k.view.mine c.args.file c.args.chunk q.0) (sym c.self.view_is) q.1 in
    let there = hand_has s.seat c.in-Some.tree s.file s.guest s.moves s.ranges s.files s.looks ok c.args.file c.args.chunk q.0 has in
    let same = same_placed c.in-Some-find.placed q.0 (sym c.in-Some-find.is ∙ (c.find.ensures.placed ∙ there)) in
    let d = c.raise.ensures.deed c.args.file c.args.chunk q.0 has (ap (λ (p : Placed). p.range) (sym same)) in
    subst (λ (l : List LogEntry). Sound t (Some l) s.file s.guest s.moves s.ranges s.files s.looks)
    (sym (if_placed (placed_at c.in-Some.tree c.args.chunk) q.0 (λ p. c.upgrade.new.self ≡ c.in-Some.tree ++ upgrade_entry p.range ∷ []) there c.upgrade.ensures.log))
    (sound_upgraded s.seat t c.in-Some.tree s.file s.guest s.moves s.ranges s.files s.looks ok c.raise.ensures.table c.args.file c.args.chunk q.0 d has.had)

pub returns : goal.returns
returns c p has = let s = c.self.inside in let q = c.requires.had in let t = c.raise.new.seat in
    let ok = subst (λ (o : Option (List LogEntry)). Sound s.seat o s.file s.guest s.moves s.ranges s.files s.looks) c.in-Some.is c.self.invariant in
    let has' = subst (λ (k : Known). HasIn k.view.mine c.args.file c.args.chunk p) (sym c.self.view_is) has in
    let there = hand_has s.seat c.in-Some.tree s.file s.guest s.moves s.ranges s.files s.looks ok c.args.file c.args.chunk p has' in
    let same = same_placed c.in-Some-find.placed p (sym c.in-Some-find.is ∙ (c.find.ensures.placed ∙ there)) in
    let d = c.raise.ensures.deed c.args.file c.args.chunk p has' (ap (λ (x : Placed). x.range) (sym same)) in
    subst (λ (k : Known). IsDeed (upgrade c.args.file c.args.chunk p) k.view.noted Always k (known t)) c.self.view_is
    (deed_of s.seat t (upgrade c.args.file c.args.chunk p) s.seat.me.0.noted Always c.raise.ensures.table (guest_small s.seat t s.hand s.file s.guest s.moves s.ranges s.files s.looks c.self.invariant c.raise.ensures.table) d.0)
