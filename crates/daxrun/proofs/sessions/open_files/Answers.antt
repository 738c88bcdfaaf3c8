use Rattle.std.proofs.Common.{◌∙◌, ap, sym, subst, ℕ, ◌+◌, ◌<◌, List, [], ◌∷◌, length, arith, length-append}
use Rattle.fuse_device.specs.State.{State}
use Rattle.guest_wire.specs.declared.driver.FileRef.{FileRef}
use Rattle.dax_script.specs.declared.scripts.FileLine.{FileLine}
use Rattle.daxrun.specs.Carried.{names_of}
use Rattle.daxrun.specs.Session.{IsSession, AreOpen}
use Rattle.guest_run.proofs.Places.{at_index, map_at}
use Rattle.daxrun.proofs.Opening.{is_there, session_more, open_next}
use Rattle.daxrun.proofs.sessions.open_files.Goals as goal

pub open_named-requires-clause-there : goal.open_named-requires-clause-there
open_named-requires-clause-there g c =
    let i = c.loop-file.file-index in
    let lt : i < length c.args.named.now = omega arith in
    let at = map_at (λ (f : FileLine). f.name) c.args.named.now i c.file-item.result (at_index c.args.named.now i c.file-item.result lt c.file-item.is) in
    (i, is_there (names_of c.args.named.now) i i c.file-item.result.name _ c.loop-file.invariant.session c.requires.different at (let f = c.requires.few in omega arith))

pub loop-file-preserved : goal.loop-file-preserved
loop-file-preserved g c =
    let i = c.loop-file.file-index in
    let s = (g.W.Wire.wire c.loop-file.client.wire).state in
    let lt : i < length c.args.named.now = omega arith in
    let at = map_at (λ (f : FileLine). f.name) c.args.named.now i c.file-item.result (at_index c.args.named.now i c.file-item.result lt c.file-item.is) in
    let there = is_there (names_of c.args.named.now) i i c.file-item.result.name s c.loop-file.invariant.session c.requires.different at (let f = c.requires.few in omega arith) in
    let state = c.in_ok-at.ensures.state i there in
    let handle = c.in_ok-at.ensures.at i there in
    let inv = c.loop-file.invariant in
    let more = open_next c.file-item.result.name c.loop-file.opened.items i s c.in_ok-at.at inv.count there inv.handles handle in
    record {
      count = ap length c.in_ok-push.ensures.items ∙ length-append c.loop-file.opened.items (c.in_ok-at.at ∷ []) ∙ ap (λ (n : ℕ). n + 1) inv.count;
      live = c.in_ok-at.ensures.live;
      session = subst (IsSession (names_of c.args.named.now) (i + 1)) (sym state) (session_more (names_of c.args.named.now) i s inv.session);
      handles = subst (λ (z : List FileRef × State). AreOpen z.0 z.1) (λ j. (sym c.in_ok-push.ensures.items j, sym state j)) more;
      same = c.in_ok-at.ensures.files ∙ inv.same;
      window = c.in_ok-at.ensures.map ∙ inv.window;
    }
