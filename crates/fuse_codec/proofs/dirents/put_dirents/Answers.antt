use Rattle.std.proofs.Common.{rules, ◌≡◌, length, ap, arith}
use Rattle.fuse_codec.specs.Dirents.{clean_dirents, fitting}
use Rattle.fuse_codec.proofs.DirentLaws.{one_list}
use Rattle.fuse_codec.proofs.LongestPrefix.{fitting_within, clean_dirents_len}
use Rattle.fuse_codec.proofs.dirents.put_dirents.Goals as goal

pub returns-clause-within : goal.returns-clause-within
returns-clause-within c =
    let text : c.from_vec.result ≡ clean_dirents (fitting c.args.size c.args.names.now) = search rules in
    omega (arith, ap length text, clean_dirents_len (fitting c.args.size c.args.names.now), fitting_within c.args.size c.args.names.now)

pub returns-clause-spelled : goal.returns-clause-spelled
returns-clause-spelled c = search rules

pub returns-clause-again : goal.returns-clause-again
returns-clause-again c = λ ds s. one_list ds (fitting c.args.size c.args.names.now) c.from_vec.result s (returns-clause-spelled c)
