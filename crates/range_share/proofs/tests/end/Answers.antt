use Rattle.std.proofs.Common.{rules, ◌≡◌, None, subst, Option, ℕ}
use Rattle.range_share.specs.Boards.{board_of}
use Rattle.range_share.specs.Turns.{Has}
use Rattle.range_share.proofs.TestTurns.{has_idle}
use Rattle.range_share.proofs.tests.end.Goals as goal

pub returns-clause-idle : goal.returns-clause-idle
returns-clause-idle g c =
    let p = c.args.guest.board.pass in
    let tree : c.args.guest.tree ≡ None = search rules in
    let pins : c.args.guest.pins ≡ 0 = search rules in
    let moves : (board_of p).hands.moves ≡ None = search rules in
    has_idle p c.args.guest.range c.sound.ensures.showing (subst (λ (x : Option ℕ × ℕ). Has (board_of p) x.0 c.args.guest.range x.1) (λ i. (tree i, pins i)) c.args.guest.has) moves
