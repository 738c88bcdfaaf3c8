use Rattle.plain_text.proofs.FirstPlaces.{first_place}
use Rattle.plain_text.proofs.cuts.place_of.Goals as goal

pub returns-clause-value : goal.returns-clause-value
returns-clause-value c = first_place _ c.args.bytes.now c.memchr.result c.memchr.ensures
