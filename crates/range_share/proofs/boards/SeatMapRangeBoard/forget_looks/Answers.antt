use Rattle.std.proofs.Common.{◌∙◌, ap, sym, subst, ◌<◌}
use Rattle.range_share.specs.Known.{Known}
use Rattle.range_share.specs.Boards.{board_of, PinsSeen}
use Rattle.range_share.proofs.BoardsCalls.{forgets}
use Rattle.range_share.proofs.boards.SeatMapRangeBoard.forget_looks.Goals as goal

pub invariant_of-self : goal.invariant_of-self
invariant_of-self c =
    let e = c.forget_looks.ensures in
    record {
      own = ap (λ (k : Known). k.table) e ∙ c.args.self.now.own;
      may = subst (λ (k : Known). k.view.guest < k.view.mine.movers) (sym e) c.args.self.now.may;
      pinned = subst (λ (k : Known). PinsSeen k.view) (sym e) c.args.self.now.pinned;
    }

pub returns : goal.returns
returns c = ap board_of c.forget_looks.ensures ∙ forgets c.args.self.now.pass
