use Rattle.std.proofs.Common.{rules, ◌∙◌}
use Rattle.file_share.proofs.Opened.{start_more}
use Rattle.file_share.proofs.share.words_of.Goals as goal

pub loop-first-preserved : goal.loop-first-preserved
loop-first-preserved c = c.in_ok-push_words.ensures ∙ start_more c.args.firsts.now c.loop-first.first-index _ (search rules) c.loop-first.words.items c.loop-first.invariant
