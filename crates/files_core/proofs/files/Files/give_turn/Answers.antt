use Rattle.std.proofs.Common.{◌≡◌, List, Some, sym, subst, set}
use Rattle.std.specs.Prelude.{MatchResult}
use Rattle.files_core.specs.Files.{FileState, give_turn, file, DidOne}
use Rattle.files_core.proofs.Places.{turn_inside, did_result}
use Rattle.files_core.proofs.files.Files.give_turn.Goals as goal

pub returns : goal.returns
returns c = let cs = c.self.inside.files.items in let f = c.in-Some.at in let g = c.args.guest in
    let turn = subst (λ (xs : List FileState). (file xs f).turn ≡ Some g) (sym c.self.view_is) c.in-Some.ensures in
    let good = c.requires.2 in
    subst (λ (xs : List FileState). MatchResult c.give_turn.result (λ b. DidOne b xs g give_turn (set cs f c.give_turn.new.self)) (λ _. set cs f c.give_turn.new.self ≡ xs)) c.self.view_is
    (did_result cs g f give_turn (turn_inside cs f g turn) (λ f' a. good.one_turn f' f g (subst (λ (xs : List FileState). (file xs f').turn ≡ Some g) c.self.view_is a.may) c.in-Some.ensures) tt c.give_turn.result c.index_mut.result.now c.give_turn.new.self c.index_mut.ensures.value c.give_turn.ensures)
