use Rattle.std.proofs.Common.{◌∙◌, ap}
use Rattle.plain_text.specs.Numbers.{number_after}
use Rattle.plain_text.proofs.Numerals.{last_digit}
use Rattle.plain_text.proofs.numbers.all_digits.Goals as goal

pub returns-clause-value : goal.returns-clause-value
returns-clause-value c = c.with_digit.ensures.value ∙ last_digit c.args.word.now c.in_ok-n.n c.requires (c.in_ok-n.ensures.value ∙ ap (λ w. number_after 0 w) c.split_at.ensures.front)
