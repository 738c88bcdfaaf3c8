use Rattle.std.proofs.Common.{◌∙◌, ap, sym}
use Rattle.page_map.specs.Board.{is_moved}
use Rattle.range_share.proofs.BoardsMaps.{moves_told, clear_is, clear_held}
use Rattle.range_share.proofs.boards.SeatMapMapBoard.may_clear.Goals as goal

pub returns-clause-answer : goal.returns-clause-answer
returns-clause-answer c =
    let p = c.args.self.now.pass in
    c.is_moved.ensures ∙ (ap (λ o. is_moved o c.args.moffset c.args.len) (moves_told p c.moved.result c.sound.ensures.showing c.moved.ensures) ∙ sym (clear_is p c.args.moffset c.args.len))

pub returns-clause-held : goal.returns-clause-held
returns-clause-held c may = clear_held c.args.self.now.pass c.args.moffset c.args.len c.sound.ensures.showing (sym (returns-clause-answer c) ∙ may)
