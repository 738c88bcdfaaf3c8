use Rattle.std.proofs.Common.{◌≡◌, ◌∙◌, ap, sym, subst, ℕ, ◌*◌, ◌<◌, ◌≤◌, List, length, replicate, slice_get, Option, Some, None, arith}
use Rattle.std.proofs.lemmas.List.{length-replicate}
use Rattle.plain_file.specs.Plain.{new_board}
use Rattle.page_map.specs.declared.pages.Page.{Page}
use Rattle.page_map.specs.Plain.{range_pages}
use Rattle.range_tree.specs.Plain.{new_ranges}
use Rattle.range_tree.specs.Ranges.{range_count}
use Rattle.dax_script.specs.declared.scripts.Call.{Call}
use Rattle.dax_script.specs.declared.scripts.FileLine.{FileLine}
use Rattle.guest_wire.specs.declared.driver.FileRef.{FileRef}
use Rattle.guest_run.specs.Working.{AreCalls, max_calls}
use Rattle.guest_run.proofs.Places.{at_index, map_len}
use Rattle.daxrun.specs.Carried.{names_of}
use Rattle.daxrun.specs.Requests.{IsLive}
use Rattle.daxrun.specs.Session.{IsOpened, firsts_of, opening_boards}
use Rattle.daxrun.proofs.PlainGuest.{idle_new}
use Rattle.daxrun.proofs.play_tests.calls_by.Goals as goal

pub worker-requires-clause-idle : goal.worker-requires-clause-idle
worker-requires-clause-idle g c =
    let s = c.args.script.now in
    let e = c.in_ok-guest.ensures in
    let w = g.W.Wire.wire c.args.client.wire.inner in
    let o = c.requires.opened in
    let lines = c.as_slice-lines.ensures in
    let board = e.files ∙ ap (λ (fs : List FileLine). new_board 0 (firsts_of fs)) lines in
    let ranged = e.ranges ∙ ap (λ (fs : List FileLine). new_ranges s.ranges (length fs) 0) lines in
    let live : IsLive w (opening_boards s.ranges) = record { honest = c.requires.honest; whole = c.requires.whole; alone = o.live.alone; servable = o.live.servable } in
    let opened : IsOpened (names_of s.files) c.args.opened.items w (opening_boards s.ranges) = record { live = live; session = o.session; handles = o.handles } in
    let pages : length (opening_boards s.ranges).map.table ≡ range_pages * s.ranges = map_len {A = Option Page} Some (replicate (range_pages * s.ranges) None) ∙ length-replicate {A = Option Page} (range_pages * s.ranges) None in
    rw (e.driver, e.refs, e.holds) (idle_new s.ranges s.files c.args.opened.items w c.in_ok-guest.guest.dax.files c.in_ok-guest.guest.dax.ranges (opening_boards s.ranges).files (opening_boards s.ranges).map c.requires.playable.ranges c.requires.count opened pages board ranged)

pub worker-requires-clause-few : goal.worker-requires-clause-few
worker-requires-clause-few g c =
    let lt : 0 < length c.as_slice.result.now = omega (arith, c.in-len1-up.len_at_least) in
    let at = ap (λ (gs : List (List Call)). slice_get gs 0) (sym c.as_slice.ensures) ∙ at_index c.as_slice.result.now 0 c.calls-item.result lt c.calls-item.is in
    subst (λ (cs : List Call). length cs ≤ max_calls) (sym c.as_slice-2.ensures) (c.requires.playable.guests.few 0 c.calls-item.result at)

pub worker-requires-clause-calls : goal.worker-requires-clause-calls
worker-requires-clause-calls g c =
    let s = c.args.script.now in
    let lt : 0 < length c.as_slice.result.now = omega (arith, c.in-len1-up.len_at_least) in
    let at = ap (λ (gs : List (List Call)). slice_get gs 0) (sym c.as_slice.ensures) ∙ at_index c.as_slice.result.now 0 c.calls-item.result lt c.calls-item.is in
    let refs : length c.in_ok-guest.guest.dax.refs ≡ length s.files = ap (λ (l : List FileRef). length l) c.in_ok-guest.ensures.refs ∙ c.requires.count in
    let ranges : range_count c.in_ok-guest.guest.dax.ranges ≡ s.ranges = ap range_count c.in_ok-guest.ensures.ranges ∙ length-replicate s.ranges 0 in
    subst (λ (z : ℕ × ℕ × List Call). AreCalls z.0 z.1 z.2) (λ i. (sym refs i, sym ranges i, sym c.as_slice-2.ensures i)) (c.requires.playable.guests.calls 0 c.calls-item.result at)
