use Rattle.std.proofs.Common.{◌∙◌, ap, refl, ◌*◌}
use Rattle.plain_file.specs.Board.{BoardView}
use Rattle.page_map.specs.Plain.{range_pages}
use Rattle.guest_wire.specs.Wires.{WireView}
use Rattle.daxrun.specs.Session.{empty_firsts}
use Rattle.daxrun.proofs.Opening.{small_new, empty_small}
use Rattle.daxrun.proofs.Playing.{servable_new}
use Rattle.daxrun.proofs.sessions.open_session.Goals as goal

pub start_session-requires-clause-live : goal.start_session-requires-clause-live
start_session-requires-clause-live g c =
    let state = ap (λ d. d.wire.daemon) c.new-client.ensures ∙ ap (λ (v : WireView). v.state) c.in_ok-new.ensures.wire ∙ c.requires.new in
    record {
      honest = refl;
      whole = refl;
      alone = ap (λ (v : BoardView). v.over) c.in_ok-files.ensures;
      servable = servable_new (range_pages * c.args.ranges) c.args.named.now _ c.in_ok-files.files c.in_ok-map.map state c.in_ok-files.ensures c.in_ok-map.ensures.new c.requires.files.few;
    }

pub start_session-requires-clause-small : goal.start_session-requires-clause-small
start_session-requires-clause-small g c = small_new empty_firsts c.in_ok-files.files c.in_ok-files.ensures (empty_small 16)
