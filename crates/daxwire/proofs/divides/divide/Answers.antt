use Rattle.std.proofs.Common.{◌≡◌, List, [], ◌∷◌, ℕ, Option, MatchOption, IfSome, subst, rules}
use Rattle.std.specs.Borrow.{Bor}
use Rattle.plain_text.specs.Words.{parts, line_end}
use Rattle.daxwire.proofs.Divided.{line_passed}
use Rattle.daxwire.proofs.divides.divide.Goals as goal

pub loop-line-preserved : goal.loop-line-preserved
loop-line-preserved c =
    let rest = c.loop-line.rest.now in
    let line = c.cut.result.0.now in
    let cut = subst (λ (o : Option (Bor (List ℕ))). MatchOption o (parts line_end rest ≡ line ∷ []) (λ r. parts line_end rest ≡ line ∷ parts line_end r.now)) c.in-Some-after.is c.cut.ensures.parts in
    let more = subst (λ (o : Option (Bor (List ℕ))). IfSome o (λ r. (next : List ℕ) × (others : List (List ℕ)) × (parts line_end r.now ≡ next ∷ others))) c.in-Some-after.is c.cut.ensures.more in
    line_passed c.args.input.now rest c.loop-line.passed line c.in-Some-after.after.now more.0 more.1 c.loop-line.invariant cut more.2 (search rules)
