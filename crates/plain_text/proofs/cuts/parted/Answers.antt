use Rattle.std.proofs.Common.{◌∙◌, sym}
use Rattle.plain_text.proofs.Parts.{parts_alone, parts_first, parts_some}
use Rattle.plain_text.proofs.cuts.parted.Goals as goal

pub returns-in-None-clause-parts : goal.returns-in-None-clause-parts
returns-in-None-clause-parts c = parts_alone _ _ (sym c.requires.value ∙ c.in-None.is)

pub returns-in-Some-clause-parts : goal.returns-in-Some-clause-parts
returns-in-Some-clause-parts c =
    rw (c.split_at.ensures.front, c.split_at-in-Some.ensures.back, c.split_at.ensures.back) (parts_first _ _ c.in-Some.at (sym c.requires.value ∙ c.in-Some.is))

pub returns-in-Some-clause-more : goal.returns-in-Some-clause-more
returns-in-Some-clause-more c = parts_some c.args.separator c.split_at-in-Some.result.1.now
