use Rattle.std.proofs.Common.{arith}
use Rattle.fuse_codec.specs.Dirents.{fitting}
use Rattle.fuse_codec.proofs.LongestPrefix.{fitting_prefix, fitting_within, fitting_longest, clean_dirents_len}
use Rattle.fuse_codec.proofs.laws.fitting_is_the_longest_prefix.Goals as goal

pub returns-clause-prefix : goal.returns-clause-prefix
returns-clause-prefix c = fitting_prefix

pub returns-clause-within : goal.returns-clause-within
returns-clause-within c = λ size ds. omega (arith, fitting_within size ds, clean_dirents_len (fitting size ds))

pub returns-clause-longest : goal.returns-clause-longest
returns-clause-longest c = λ size longer more le. fitting_longest size longer more (omega (arith, le, clean_dirents_len longer))
