use Rattle.std.proofs.Common.{◌≡◌, List, Some, sym, subst, set}
use Rattle.std.specs.Prelude.{MatchResult}
use Rattle.files_core.specs.Files.{FileState, set_size, file, DidOne}
use Rattle.files_core.proofs.Places.{turn_inside, did_result}
use Rattle.files_core.proofs.files.Files.set_size.Goals as goal

pub returns : goal.returns
returns c = let cs = c.self.inside.files.items in let f = c.in-Some.at in let g = c.args.guest in
    let turn = subst (λ (xs : List FileState). (file xs f).turn ≡ Some g) (sym c.self.view_is) c.in-Some.ensures in
    let good = c.requires.2 in
    subst (λ (xs : List FileState). MatchResult c.set_size.result (λ b. DidOne b xs g (set_size c.args.entry.now) (set cs f c.set_size.new.self)) (λ _. set cs f c.set_size.new.self ≡ xs)) c.self.view_is
    (did_result cs g f (set_size c.args.entry.now) (turn_inside cs f g turn) (λ f' a. good.one_turn f' f g (subst (λ (xs : List FileState). (file xs f').turn ≡ Some g) c.self.view_is a.may.turn) c.in-Some.ensures) tt c.set_size.result c.index_mut.result.now c.set_size.new.self c.index_mut.ensures.value c.set_size.ensures)
