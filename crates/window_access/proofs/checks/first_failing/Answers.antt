use Rattle.std.proofs.Common.{◌∙◌, ◌≡◌, sym, ap, arith, Some, None}
use Rattle.plain_file.specs.Board.{BoardView}
use Rattle.window_access.proofs.Below.{below_more}
use Rattle.window_access.proofs.Finding.{find_later, find_sooner}
use Rattle.window_access.specs.Access.{fails, first_failing}
use Rattle.window_access.proofs.checks.first_failing.Goals as goal

pub returns-in-Some-clause-value : goal.returns-in-Some-clause-value
returns-in-Some-clause-value g c =
    let v = g.F.FileBoard.board c.args.files.now in
    let same : g.F.FileBoard.board c.loop-left.files ≡ v = c.loop-left.invariant.same in
    let here : first_failing v c.args.map.now c.args.cause c.loop-left.at c.in_page-n.result ≡ Some c.in-Some.found =
    ap (λ (w : BoardView). first_failing w c.args.map.now c.args.cause c.loop-left.at c.in_page-n.result) (sym same) ∙ sym c.first_in_page.ensures.value ∙ c.in-Some.is in
    sym (c.loop-left.invariant.rest ∙ find_sooner (fails v c.args.map.now c.args.cause) c.loop-left.at c.in_page-n.result c.loop-left.left c.in-Some.found c.in_page-n.ensures.within here)

pub loop-left-preserved : goal.loop-left-preserved
loop-left-preserved g c =
    let v = g.F.FileBoard.board c.args.files.now in
    let same : g.F.FileBoard.board c.loop-left.files ≡ v = c.loop-left.invariant.same in
    let here : first_failing v c.args.map.now c.args.cause c.loop-left.at c.in_page-n.result ≡ None =
    ap (λ (w : BoardView). first_failing w c.args.map.now c.args.cause c.loop-left.at c.in_page-n.result) (sym same) ∙ sym c.first_in_page.ensures.value ∙ c.in_default.is in
    record {
      same = c.first_in_page.ensures.same ∙ same;
      place = omega (arith, c.in_page-n.ensures.within, c.loop-left.invariant.place);
      below = λ past. below_more c.args.map.now c.args.moffset c.loop-left.at c.in_page-n.result (c.loop-left.invariant.below past) (c.first_in_page.ensures.below past c.in_default.is);
      rest = c.loop-left.invariant.rest ∙ find_later (fails v c.args.map.now c.args.cause) c.loop-left.at c.in_page-n.result c.loop-left.left c.in_page-n.ensures.within here;
    }
