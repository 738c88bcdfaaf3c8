use Rattle.std.proofs.Common.{◌≡◌, ◌∙◌, ap, sym, subst, true}
use Rattle.fuse_device.specs.State.{State, World, with_open}
use Rattle.fuse_device.specs.Checks.{may_open}
use Rattle.daxrun.proofs.Opening.{is_found}
use Rattle.daxrun.proofs.sessions.open_named.Goals as goal

pub look_up-requires-clause-there : goal.look_up-requires-clause-there
look_up-requires-clause-there g c = (c.requires.there.0, c.requires.there.1.found, c.requires.small c.requires.there.0)

pub open_file-requires-clause-started : goal.open_file-requires-clause-started
open_file-requires-clause-started g c =
    let h = c.requires.there in
    let s = ap (λ (w : World). w.state) (c.in_ok-node.ensures.left h.0 h.1.found) in
    subst (λ (x : State). x.started ≡ true) (sym s) (is_found c.args.name.now h.0 (g.W.Wire.wire c.args.client.now.wire).state h.1).started

pub open_file-requires-clause-known : goal.open_file-requires-clause-known
open_file-requires-clause-known g c =
    let h = c.requires.there in
    let s = ap (λ (w : World). w.state) (c.in_ok-node.ensures.left h.0 h.1.found) in
    let n = c.in_ok-node.ensures.node h.0 h.1.found in
    rw (s, n) (is_found c.args.name.now h.0 (g.W.Wire.wire c.args.client.now.wire).state h.1).known

pub open_file-requires-clause-made : goal.open_file-requires-clause-made
open_file-requires-clause-made g c =
    let h = c.requires.there in
    let s = ap (λ (w : World). w.state) (c.in_ok-node.ensures.left h.0 h.1.found) in
    let n = c.in_ok-node.ensures.node h.0 h.1.found in
    rw (s, n) (is_found c.args.name.now h.0 (g.W.Wire.wire c.args.client.now.wire).state h.1).made

pub open_file-requires-clause-may : goal.open_file-requires-clause-may
open_file-requires-clause-may g c =
    let h = c.requires.there in
    let s = ap (λ (w : World). w.state) (c.in_ok-node.ensures.left h.0 h.1.found) in
    subst (λ (x : State). may_open x ≡ true) (sym s) (is_found c.args.name.now h.0 (g.W.Wire.wire c.args.client.now.wire).state h.1).may

pub returns-clause-at : goal.returns-clause-at
returns-clause-at g c = λ file there.
    let h = c.requires.there in
    let s = ap (λ (w : World). w.state.next_fh) (c.in_ok-node.ensures.left file there.found) in
    (λ j. record { node = c.in_ok-node.ensures.node file there.found j; fh = (c.in_ok-fh.ensures.handle ∙ s) j })

pub returns-clause-state : goal.returns-clause-state
returns-clause-state g c = λ file there.
    let s = ap (λ (w : World). w.state) (c.in_ok-node.ensures.left file there.found) in
    let n = c.in_ok-node.ensures.node file there.found in
    ap (λ (w : World). w.state) c.in_ok-fh.ensures.left ∙ (λ j. with_open (s j) (n j))

pub returns-clause-files : goal.returns-clause-files
returns-clause-files g c =
    let h = c.requires.there in
    ap (λ (w : World). w.files) c.in_ok-fh.ensures.left ∙ ap (λ (w : World). w.files) (c.in_ok-node.ensures.left h.0 h.1.found)

pub returns-clause-map : goal.returns-clause-map
returns-clause-map g c =
    let h = c.requires.there in
    ap (λ (w : World). w.map) c.in_ok-fh.ensures.left ∙ ap (λ (w : World). w.map) (c.in_ok-node.ensures.left h.0 h.1.found)
