use Rattle.std.proofs.Common.{◌≡◌, ◌∙◌, ◌-◌, ◌*◌, ◌/◌, ◌<◌, ap, sym, length, set, arith}
use Rattle.std.proofs.lemmas.List.{get_or_read}
use Rattle.page_map.specs.declared.parts.Part.TheVariants as parts
use Rattle.page_map.specs.Plain.{page_behind, pages_of}
use Rattle.page_map.proofs.Replacing.{length-replaced}
use Rattle.page_map.proofs.Keeping.{HasRoom-whole, pages_of-split}
use Rattle.page_map.proofs.parts.split.Goals as goal

pub paint-requires-clause-room : goal.paint-requires-clause-room
paint-requires-clause-room c =
    let kept = c.args.parts.now.items in
    let known : c.args.range < length kept = omega arith in
    HasRoom-whole kept c.args.table.now.items c.args.range c.in-Whole.first c.requires known (sym (get_or_read kept c.args.range c.index.result.now known c.index.ensures parts.Pages) ∙ c.in-Whole.is)

pub returns-in-Whole-clause-same : goal.returns-in-Whole-clause-same
returns-in-Whole-clause-same c =
    let kept = c.args.parts.now.items in
    let table = c.args.table.now.items in
    let known : c.args.range < length kept = omega arith in
    let parted : length kept ≡ length table / 512 = c.requires.parted in
    ap (pages_of (set kept c.args.range parts.Pages)) c.paint.ensures
    ∙ pages_of-split kept table c.args.range c.in-Whole.first known (omega arith) (sym (get_or_read kept c.args.range c.index.result.now known c.index.ensures parts.Pages) ∙ c.in-Whole.is)

pub returns-in-Whole-clause-table : goal.returns-in-Whole-clause-table
returns-in-Whole-clause-table c =
    let table = c.args.table.now.items in
    let at = c.args.range * 512 in
    let parted : length c.args.parts.now.items ≡ length table / 512 = c.requires.parted in
    ap length c.paint.ensures ∙ length-replaced (λ page. page_behind c.in-Whole.first (page - at)) table at 512 (omega arith)
