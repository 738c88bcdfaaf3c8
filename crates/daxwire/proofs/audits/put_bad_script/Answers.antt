use Rattle.std.proofs.Common.{◌∙◌, ◌∷◌, ◌++◌, ap, codes, decimal, append_assoc}
use Rattle.plain_text.specs.Printed.{joined}
use Rattle.dax_script.specs.Whys.{why_word}
use Rattle.daxwire.proofs.audits.put_bad_script.Goals as goal

pub returns : goal.returns
unfolding joined
returns c =
    c.in_ok-put_why.ensures
    ∙ ap (λ t. t ++ 32 ∷ why_word c.args.why ++ codes "\n") (c.in_ok-put_number.ensures ∙ ap (λ t. t ++ decimal c.args.line) c.in_ok-put.ensures)
    ∙ simp append_assoc
