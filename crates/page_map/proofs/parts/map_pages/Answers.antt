use Rattle.std.proofs.Common.{◌≡◌, ◌∙◌, ◌+◌, ◌-◌, ◌≤◌, ap, length, List, Option, arith}
use Rattle.std.proofs.lemmas.Grind.{common_steps}
use Rattle.page_map.specs.declared.pages.Page.{Page}
use Rattle.page_map.specs.Board.{replaced}
use Rattle.page_map.specs.Plain.{page_behind, pages_of}
use Rattle.page_map.proofs.Keeping.{HasRoom-fewer, IsKept-replaced, replaced_further, length-pages_of}
use Rattle.page_map.proofs.parts.map_pages.Goals as goal

pub loop-done-preserved : goal.loop-done-preserved
loop-done-preserved c =
    let kept = c.args.parts.now.items in
    let table = c.args.table.now.items in
    let first = c.args.first in
    let at = c.args.at in
    let done = c.loop-done.done in
    let piece = c.min-piece.result in
    let new_kept = c.map_in_range.new.parts.items in
    let new_table = c.map_in_range.new.table.items in
    let step : Option Page → List (Option Page) → List (Option Page) = λ o pages. replaced (λ page. page_behind o (page - (at + done))) pages (at + done) piece in
    let below : piece ≤ c.args.count - done = grind (arith, common_steps) in
    let fits : at + (done + piece) ≤ length (pages_of kept table) = rw length-pages_of (omega arith) in
    let same : pages_of new_kept new_table ≡ replaced (λ page. page_behind first (page - at)) (pages_of kept table) at (done + piece) =
    c.map_in_range.ensures.pages
    ∙ ap (λ o. step o (pages_of c.loop-done.parts.items c.loop-done.table.items)) c.behind.ensures
    ∙ ap (step (page_behind first done)) c.loop-done.invariant.pages
    ∙ replaced_further (pages_of kept table) first at done piece fits in
    let long : length new_table ≡ length table = c.map_in_range.ensures.table ∙ c.loop-done.invariant.long in
    let parted : length new_kept ≡ length kept = omega (arith, c.map_in_range.ensures.parts, c.loop-done.invariant.kept.parted, c.requires.kept.parted, c.loop-done.invariant.long) in
    record {
      kept = IsKept-replaced kept table new_kept new_table first at (done + piece) c.requires.kept (omega arith) (HasRoom-fewer first (done + piece) c.args.count c.requires.room (omega arith)) same parted long;
      pages = same;
      upto = omega arith;
      long = long;
    }
