use Rattle.std.proofs.Common.{◌<◌, ◌∙◌, sym, ap, arith, length}
use Rattle.page_map.specs.declared.ranges.Placed.{Placed}
use Rattle.page_map.specs.Logs.{placed_at}
use Rattle.window_core.specs.declared.states.RangeState.TheVariants as ranges
use Rattle.window_core.specs.Window.{Side, no_side}
use Rattle.window_core.specs.Machine.{window_of}
use Rattle.window_core.proofs.Places.{at_default}
use Rattle.window_core.proofs.Placing.{some_same}
use Rattle.window_core.proofs.Reading.{far_nowhere, mapped_near}
use Rattle.window_core.proofs.window.CoreWindow.find.Goals as goal

pub returns-then-at-len : goal.returns-then-at-len
returns-then-at-len c = far_nowhere (window_of c.args.self.now) c.requires c.args.guest c.args.range (let a = c.if-at-len.true in let b = c.len.ensures in let v = c.args.self.now.states.ok.0 in omega arith)

pub index-side-requires : goal.index-side-requires
index-side-requires c = let states = c.args.self.now.states in let sides = c.args.self.now.sides in
    let near : c.args.range < length states.items = (let a = c.if-at-len.false in let b = c.len.ensures in let v = states.ok.0 in omega arith) in
    let st = at_default states.items c.args.range c.index.result.now ranges.Free near c.index.ensures ∙ c.in-Mapped.is in
    let l = mapped_near (window_of c.args.self.now) c.requires c.args.range c.in-Mapped.file c.in-Mapped.chunk c.in-Mapped.mode st in let v = sides.ok.0 in omega arith

pub returns : goal.returns
returns c = let states = c.args.self.now.states in let sides = c.args.self.now.sides in let h = window_of c.args.self.now in let f = c.in-Mapped.file in let k = c.in-Mapped.chunk in
    let near : c.args.range < length states.items = (let a = c.if-at-len.false in let b = c.len.ensures in let v = states.ok.0 in omega arith) in
    let st = at_default states.items c.args.range c.index.result.now ranges.Free near c.index.ensures ∙ c.in-Mapped.is in
    let is = at_default sides.items f c.index-side.result.now no_side (mapped_near h c.requires c.args.range f k c.in-Mapped.mode st) c.index-side.ensures in
    let found = ap (λ (s : Side). placed_at s.log k) is ∙ (sym c.find.ensures ∙ c.in-Some.is) in
    let q = c.requires.2.mapped_placed c.args.range f k c.in-Mapped.mode st in
    (ap (λ (s : Side). s.holder) is ∙ c.if-not-has_tree.ensures, found, ap (λ (p : Placed). p.range) (some_same c.in-Some.placed q.0 (sym found ∙ q.1)) ∙ q.2)
