use Rattle.std.proofs.Common.{◌≡◌, ◌*◌, take, drop}
use Rattle.plain_text.specs.Hexadecimal.{hex_pairs}
use Rattle.plain_text.proofs.HexPairs.{behind}
use Rattle.plain_text.proofs.hexadecimal.write_pairs.Given as goal

-- what stands already, and the bytes of the rest behind it
abbrev pub invariant-loop-i : goal.invariant-loop-i
invariant-loop-i l = behind (take l.i l.bytes) (hex_pairs (drop (2 * l.i) l.word)) ≡ hex_pairs l.word
