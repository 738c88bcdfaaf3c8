use Rattle.std.proofs.Common.{◌≡◌, take}
use Rattle.std.specs.List.{list_all}
use Rattle.plain_text.specs.Hexadecimal.{is_digit}
use Rattle.plain_text.proofs.hexadecimal.are_digits.Given as goal

abbrev pub invariant-loop-i : goal.invariant-loop-i
invariant-loop-i l = l.all ≡ list_all is_digit (take l.i l.word)
