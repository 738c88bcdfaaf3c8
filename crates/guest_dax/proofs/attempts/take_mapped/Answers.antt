use Rattle.std.proofs.Common.{◌∙◌, ap, arith}
use Rattle.page_map.specs.Board.{MapView, Hands}
use Rattle.guest_dax.proofs.Searching.{Attempted-parts, Attempted-left, Attempted-refused, Searches-enter, hands-enter, refused-one, had-tree, taken-ok, refused-err}
use Rattle.guest_dax.proofs.attempts.take_mapped.Goals as goal

pub part-requires : goal.part-requires
part-requires g c = ap (λ (m : MapView). m.hands.tree) (taken-ok _ c.args.range tt _ c.in-Ok.ensures).becomes.rest ∙ ap (λ (m : MapView). m.hands.tree) c.enter.ensures.becomes.rest

pub leave-requires : goal.leave-requires
leave-requires g c = record { had = had-tree _ c.args.file (ap (λ (m : MapView). m.hands.tree) (refused-err _ c.args.range c.in-Err.word _ c.in-Err.ensures).looks.noted ∙ ap (λ (m : MapView). m.hands.tree) c.enter.ensures.becomes.rest) }

pub returns-in-Ok : goal.returns-in-Ok
returns-in-Ok g c = Attempted-parts _ c.args.file c.args.range c.log_len-before.result _ _ c.part.result _ c.requires.tree c.requires.file c.enter.ensures (taken-ok _ c.args.range tt _ c.in-Ok.ensures) c.log_len-before.ensures c.part.ensures c.requires.seen

pub returns-in-Err : goal.returns-in-Err
returns-in-Err g c =
    let s = Searches-enter _ c.args.file c.args.range _ c.enter.ensures in
    let h = hands-enter _ c.args.file _ c.enter.ensures in
    let moves = ap (λ (k : Hands). k.moves) h ∙ c.requires.moves in
    let long = s.looks in
    let looks = (refused-err _ c.args.range c.in-Err.word _ c.in-Err.ensures).looks in
    let one = refused-one c.in-Err.word c.refused.result c.refused.ensures.blocked c.refused.ensures.again in
    Attempted-left _ c.args.file c.args.range _ c.refused.result _ _ c.requires.tree c.enter.ensures one
    (Attempted-refused _ c.args.range c.in-Err.word c.refused.result _ (omega (arith, c.requires.range, c.requires.looks, long)) moves looks c.refused.ensures.blocked c.refused.ensures.again)
    c.leave.ensures
