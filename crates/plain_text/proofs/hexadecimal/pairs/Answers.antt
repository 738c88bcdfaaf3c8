use Rattle.std.proofs.Common.{length, sym, ◌/◌, ◌∙◌, arith}
use Rattle.plain_text.proofs.HexPairs.{odd_refused, others_refused}
use Rattle.plain_text.proofs.hexadecimal.pairs.Goals as goal

pub returns-then-word-half : goal.returns-then-word-half
returns-then-word-half c = sym (odd_refused _ (length c.args.word.now / 2) (omega arith))

pub returns-then-not-are_digits : goal.returns-then-not-are_digits
returns-then-not-are_digits c = sym (others_refused _ (sym c.are_digits.ensures ∙ c.if-not-are_digits.true))
