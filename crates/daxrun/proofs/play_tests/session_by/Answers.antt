use Rattle.std.proofs.Common.{ap, ◌*◌}
use Rattle.plain_file.specs.Board.{BoardView}
use Rattle.page_map.specs.Plain.{range_pages}
use Rattle.daxrun.specs.Session.{empty_firsts}
use Rattle.daxrun.proofs.Opening.{small_new, empty_small}
use Rattle.daxrun.proofs.Playing.{servable_new}
use Rattle.daxrun.proofs.play_tests.session_by.Goals as goal

pub start_session-requires-clause-live : goal.start_session-requires-clause-live
start_session-requires-clause-live g c =
    let s = c.args.script.now in
    record {
      honest = c.requires.honest;
      whole = c.requires.whole;
      alone = ap (λ (v : BoardView). v.over) c.in_ok-files.ensures;
      servable = servable_new (range_pages * s.ranges) s.files _ c.in_ok-files.files c.in_ok-map.map c.requires.new c.in_ok-files.ensures c.in_ok-map.ensures.new c.requires.playable.files.few;
    }

pub start_session-requires-clause-small : goal.start_session-requires-clause-small
start_session-requires-clause-small g c = small_new empty_firsts c.in_ok-files.files c.in_ok-files.ensures (empty_small 16)
