use Rattle.std.proofs.Common.{◌<◌, refl, sym, ◌∙◌, inl, arith, length}
use Rattle.window_core.specs.declared.states.RangeState.TheVariants as ranges
use Rattle.window_core.specs.Window.{take_free}
use Rattle.window_core.specs.Machine.{window_of}
use Rattle.window_core.proofs.Places.{at_default}
use Rattle.window_core.proofs.Reading.{did_take, when_none}
use Rattle.window_core.proofs.window.CoreWindow.take.Goals as goal

pub returns-in-Free : goal.returns-in-Free
returns-in-Free c = let r = c.args.range in let states = c.args.self.now.states in
    let near : r < length states.items = (let a = c.if-range-len.false in let b = c.len.ensures in let v = states.ok.0 in omega arith) in
    (take_free r, inl refl, (near, at_default states.items r c.index.result.now ranges.Free near c.index.ensures ∙ c.in-Free.is, when_none c.moved_by.result _ _ (sym c.if-is_some.ensures) c.moved_by.ensures), refl)

pub returns-in-Mapped : goal.returns-in-Mapped
returns-in-Mapped c = let r = c.args.range in let states = c.args.self.now.states in
    let near : r < length states.items = (let a = c.if-range-len.false in let b = c.len.ensures in let v = states.ok.0 in omega arith) in
    did_take (window_of c.args.self.now) c.args.guest r c.in-Mapped.file c.in-Mapped.chunk c.in-Mapped.mode c.take_mapped.result (window_of c.take_mapped.new.self)
    (at_default states.items r c.index.result.now ranges.Free near c.index.ensures ∙ c.in-Mapped.is) c.take_mapped.ensures
