use Rattle.std.proofs.Common.{◌≡◌, ◌<◌, ◌∙◌, List, [], ◌∷◌, ◌++◌, refl, sym, ap, arith, length, set}
use Rattle.page_map.specs.declared.ranges.LogEntry.{LogEntry}
use Rattle.window_core.specs.Window.{Side, no_side, pin, side, pins, new_pin}
use Rattle.window_core.specs.Machine.{window_of}
use Rattle.window_core.proofs.Places.{at_default}
use Rattle.window_core.proofs.Keeps.{side_inside}
use Rattle.window_core.proofs.window.CoreWindow.pin.Goals as goal

pub returns : goal.returns
returns c = let h = window_of c.args.self.now in let g = c.args.guest in let x = c.in-Some.found in let there = c.in-Some.ensures in
    let near : g < length h.pins = (let l = c.requires.1 in let n = c.requires.3.pins_all in omega arith) in
    let row = at_default h.pins g c.index_mut.result.now [] near c.index_mut.ensures.value in
    let file = at_default h.sides x.file c.index.result.now no_side (side_inside h x.file g there.0) c.index.ensures in
    let log : c.log.result.now ≡ (side h x.file).log = c.log.ensures.log ∙ (c.tree.ensures ∙ ap (λ (s : Side). s.log) (sym file)) in
    let upto = ap (λ (l : List LogEntry). length l) log in
    let pushed : c.push.new.self ≡ pins h g ++ new_pin (side h x.file) x.file x.chunk x.placed ∷ [] = c.in_ok-push.ensures.ok ∙ (let r = sym row in let n = sym there.2 in λ i. r i ++ record { range = n i; file = x.file; chunk = x.chunk; mode = x.placed.mode; through = record { entry = x.placed.entry; upto = upto i } } ∷ []) in
    (pin x.file x.chunk x.placed, (x.file, x.chunk, x.placed, there.2, refl), (there.0, there.1, c.if-not-has_room.ensures), (λ i. record h { pins = set h.pins g (pushed i) }))
