use Rattle.std.proofs.Common.{◌≡◌, ◌∷◌, take}
use Rattle.file_share.specs.Known.{start_words}
use Rattle.file_share.proofs.share.words_of.Given as goal

abbrev pub invariant-loop-first : goal.invariant-loop-first
invariant-loop-first l = l.words.items ≡ 0 ∷ start_words (take l.first-index l.firsts)
