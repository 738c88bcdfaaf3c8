use Rattle.std.proofs.Common.{rules, ◌≡◌}
use Rattle.fuse_codec.specs.Grammar.{clean_message}
use Rattle.fuse_codec.proofs.RequestLaws.{message_again}
use Rattle.fuse_codec.proofs.encoding.encode_request.Goals as goal

pub returns-clause-again : goal.returns-clause-again
returns-clause-again c =
    let e : c.from_vec.result ≡ clean_message c.args.message.now = search rules in
    rw e (message_again c.args.message.now (clean_message c.args.message.now) c.numbers_fit.ensures)
