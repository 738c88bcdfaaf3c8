use Rattle.std.proofs.Common.{◌≡◌, ◌∙◌, ◌+◌, ◌-◌, ap, None, slice_set, List, Option, ℕ, arith}
use Rattle.page_map.specs.declared.pages.Page.{Page}
use Rattle.page_map.specs.Board.{replaced}
use Rattle.page_map.specs.Plain.{page_behind}
use Rattle.page_map.proofs.Replacing.{replaced_more}
use Rattle.page_map.proofs.parts.paint.Goals as goal

pub loop-k-preserved : goal.loop-k-preserved
loop-k-preserved c =
    let first = c.args.first in
    let old = c.args.table.now.items in
    let f : ℕ → Option Page = λ page. page_behind first (page - c.args.at) in
    let k = c.loop-k.k in
    let there = c.args.at + k in
    let e : k ≡ there - c.args.at = omega arith in
    ap (λ (l : List (Option Page)). slice_set l there c.behind.result) c.loop-k.invariant
    ∙ ap (λ o. slice_set (replaced f old c.args.at k) there o) (c.behind.ensures ∙ ap (page_behind first) e)
    ∙ replaced_more f None old c.args.at k (omega arith)
