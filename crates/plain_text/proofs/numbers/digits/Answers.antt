use Rattle.std.proofs.Common.{◌∙◌, sym, slice_index_or, arith}
use Rattle.plain_text.proofs.Numerals.{begun_small, begun_next, begun_done, digit_small}
use Rattle.plain_text.proofs.numbers.digits.Goals as goal

pub overflow_mul-n : goal.overflow_mul-n
overflow_mul-n c = let small = begun_small _ _ _ c.requires c.in-len1-up.len_at_least c.loop-rest.invariant in omega (arith, small)

pub overflow_add-n : goal.overflow_add-n
overflow_add-n c =
    let small = begun_small _ _ _ c.requires c.in-len1-up.len_at_least c.loop-rest.invariant in
    let digit = digit_small (slice_index_or c.loop-rest.rest.now 0 0) (sym c.is_ascii_digit.ensures.value ∙ c.if-not-is_ascii_digit.false) in
    omega (arith, small, digit)

pub loop-rest-preserved : goal.loop-rest-preserved
loop-rest-preserved c = begun_next _ _ _ c.in-len1-up.len_at_least (sym c.is_ascii_digit.ensures.value ∙ c.if-not-is_ascii_digit.false) c.loop-rest.invariant

pub returns-clause-value : goal.returns-clause-value
returns-clause-value c = (begun_done _ _ _ c.requires c.in_default.len_below c.loop-rest.invariant).0

pub returns-clause-most : goal.returns-clause-most
returns-clause-most c = (begun_done _ _ _ c.requires c.in_default.len_below c.loop-rest.invariant).1
