use Rattle.std.proofs.Common.{◌≡◌, ◌∙◌, ◌-◌, ap, length, Option, ℕ, arith}
use Rattle.page_map.specs.declared.pages.Page.{Page}
use Rattle.page_map.specs.Board.{replaced}
use Rattle.page_map.specs.Plain.{page_behind, pages_of}
use Rattle.page_map.proofs.Replacing.{length-replaced}
use Rattle.page_map.proofs.Keeping.{pages_of-whole, pages_of-painted}
use Rattle.page_map.proofs.parts.map_in_range.Goals as goal

pub returns-then-count-eq-RANGE_PAGES-clause-pages : goal.returns-then-count-eq-RANGE_PAGES-clause-pages
returns-then-count-eq-RANGE_PAGES-clause-pages c =
    let kept = c.args.parts.now.items in
    let table = c.args.table.now.items in
    let at = c.args.at in
    let full : 512 ≡ c.args.count = omega arith in
    pages_of-whole kept table at c.args.first c.requires.kept.parted (omega arith) (omega arith)
    ∙ ap (λ n. replaced (λ page. page_behind c.args.first (page - at)) (pages_of kept table) at n) full

pub returns-clause-pages : goal.returns-clause-pages
returns-clause-pages c =
    let kept = c.split.new.parts.items in
    let table = c.split.new.table.items in
    let at = c.args.at in
    let f : ℕ → Option Page = λ page. page_behind c.args.first (page - at) in
    ap (pages_of kept) c.paint.ensures
    ∙ pages_of-painted f kept table at c.args.count (omega arith) c.requires.piece c.split.ensures.split
    ∙ ap (λ pages. replaced f pages at c.args.count) c.split.ensures.same

pub returns-clause-table : goal.returns-clause-table
returns-clause-table c =
    let at = c.args.at in
    ap length c.paint.ensures ∙ length-replaced (λ page. page_behind c.args.first (page - at)) c.split.new.table.items at c.args.count (omega arith) ∙ c.split.ensures.table
