use Rattle.std.proofs.Common.{ap, length, map, ◌∷◌, ◌∙◌}
use lib.ListN.{length-map}
use Rattle.file_share.specs.Known.{start_body, start_words}
use Rattle.file_share.proofs.Opened.{opens_files, words_count}
use Rattle.file_share.proofs.share.open.Goals as goal

pub new-requires : goal.new-requires
new-requires c = let o = c.args.opening.now in opens_files o.firsts o.leasers c.as_slice-3.result.now c.in_ok-bodies.bodies.items c.requires.small
    (c.as_slice-3.ensures.value ∙ (c.in_ok-words.ensures ∙ ap (λ l. 0 ∷ start_words l) c.as_slice.ensures)) (c.in_ok-bodies.ensures ∙ ap (map start_body) c.as_slice-2.ensures)

pub returns-in-Ok-clause-counts : goal.returns-in-Ok-clause-counts
returns-in-Ok-clause-counts c = let e = c.in-Ok.ensures.ok in let firsts = c.args.opening.now.firsts in (
  e.0 ∙ (ap length (c.as_slice-3.ensures.value ∙ (c.in_ok-words.ensures ∙ ap (λ l. 0 ∷ start_words l) c.as_slice.ensures)) ∙ words_count firsts),
  e.1 ∙ (ap length (c.in_ok-bodies.ensures ∙ ap (map start_body) c.as_slice-2.ensures) ∙ length-map firsts start_body),
)
