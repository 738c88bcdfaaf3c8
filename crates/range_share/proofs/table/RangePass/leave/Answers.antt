use Rattle.std.proofs.Common.{sym, subst, ap, ◌∙◌, Option, List}
use Rattle.page_map.specs.declared.ranges.LogEntry.{LogEntry}
use Rattle.window_core.specs.Window.{leave}
use Rattle.range_share.specs.Steps.{Always, branch_of}
use Rattle.range_share.specs.Known.{Known, known, IsDeed, Sound}
use Rattle.range_share.proofs.Calling.{sound_left, deed_of, guest_small}
use Rattle.range_share.proofs.table.RangePass.leave.Goals as goal

pub invariant_of-self : goal.invariant_of-self
invariant_of-self c = let s = c.self.inside in let t = c.put_tree.new.seat in let d = c.put_tree.ensures.deed in
    let held = subst (λ (o : Option (List LogEntry)). Sound s.seat o s.file s.guest s.moves s.ranges s.files s.looks) (sym c.take.ensures.value ∙ c.in-Some.is) c.self.invariant in
    subst (λ (o : Option (List LogEntry)). Sound t o s.file s.guest s.moves s.ranges s.files s.looks) (sym c.take.ensures.after)
    (sound_left s.seat t c.in-Some.tree s.file s.guest s.moves s.ranges s.files s.looks held c.put_tree.ensures.table c.args.file d.0 d.1 (ap (λ (k : Known). (branch_of k.view c.args.file).had) c.self.view_is ∙ c.requires.had))

pub returns : goal.returns
returns c = let s = c.self.inside in let t = c.put_tree.new.seat in let d = c.put_tree.ensures.deed in
    subst (λ (k : Known). IsDeed (leave c.args.file) k.view.noted Always k (known t)) c.self.view_is
    (deed_of s.seat t (leave c.args.file) s.seat.me.0.noted Always c.put_tree.ensures.table (guest_small s.seat t s.hand s.file s.guest s.moves s.ranges s.files s.looks c.self.invariant c.put_tree.ensures.table) d.0)
