use Rattle.std.proofs.Common.{rules, subst, sym, ◌≡◌}
use Rattle.fuse_codec.specs.Replies.{SpellsReply, clean_reply}
use Rattle.fuse_codec.proofs.ReplyLaws.{reply_again}
use Rattle.fuse_codec.proofs.reply_encoding.encode_reply.Goals as goal

pub returns-clause-again : goal.returns-clause-again
returns-clause-again c = λ form formed.
    let e : c.from_vec.result ≡ clean_reply c.args.unique c.args.reply.now = search rules in
    reply_again form c.args.unique c.args.reply.now c.from_vec.result (subst (λ b. SpellsReply form c.args.unique c.args.reply.now b) (sym e) (c.put_reply.ensures.spelled form formed))
