-- What a client receives: the bytes that answer a request which succeeds are read as its reply.
use Rattle.std.proofs.Common.{◌≡◌, refl, ℕ, ◌<◌, ◌^◌, false, true≢false, Some, Ok}
use Rattle.fuse_codec.specs.Grammar.{kind_of}
use Rattle.fuse_codec.specs.Opcodes.{reply_form}
use Rattle.fuse_codec.specs.Replies.{clean_reply, answered}
use Rattle.fuse_codec.specs.ReplyReading.{reply_of}
use Rattle.fuse_codec.specs.declared.messages.Request.{Request}
use Rattle.fuse_codec.specs.declared.messages.Request.TheVariants as asks
use Rattle.fuse_codec.specs.declared.replies.Reply.{Reply}
use Rattle.fuse_codec.proofs.CleanReplies.{clean_is_spelled}
use Rattle.fuse_codec.proofs.CleanReading.{header_fits}
use Rattle.fuse_codec.proofs.ReplyLaws.{reply_again}
use Rattle.fuse_device.specs.State.{World}
use Rattle.fuse_device.specs.Requests.{is_forget}
use Rattle.fuse_device.specs.OpenFiles.{Succeeds}

-- the form of the replies to a request
pub form_again : (q : Request) → is_forget q ≡ false → answered (reply_form (kind_of q)) ≡ Some (reply_form (kind_of q))
unfolding answered reply_form kind_of is_forget
form_again (asks.Lookup name) h = refl
form_again (asks.Forget n) h = absurd (true≢false h)
form_again (asks.Getattr r) h = refl
form_again (asks.Setattr r) h = refl
form_again (asks.Unlink name) h = refl
form_again (asks.OpenFile r) h = refl
form_again (asks.Read r) h = refl
form_again (asks.Write r bytes) h = refl
form_again (asks.Release r) h = refl
form_again (asks.Fsync r) h = refl
form_again (asks.Flush r) h = refl
form_again (asks.Init r) h = refl
form_again (asks.OpenDir r) h = refl
form_again (asks.ReadDir r) h = refl
form_again (asks.ReleaseDir r) h = refl
form_again (asks.Create r name) h = refl
form_again asks.Destroy h = refl
form_again (asks.BatchForget ones) h = absurd (true≢false h)
form_again (asks.Fallocate r) h = refl
form_again (asks.Setup r) h = refl
form_again (asks.Remove ones) h = refl

-- the bytes are read as the reply
pub clean_reply_again : (q : Request) (unique : ℕ) (w : World) (node : ℕ) (reply : Reply) (new : World) → Succeeds w node q reply new → unique < 2 ^ 64 → reply_of (reply_form (kind_of q)) (clean_reply unique reply) ≡ Ok (unique, reply)
clean_reply_again q unique w node reply new h narrow =
    reply_again (reply_form (kind_of q)) unique reply (clean_reply unique reply) (clean_is_spelled unique reply h.good h.fits (header_fits unique reply narrow h.good) (reply_form (kind_of q)) h.formed)
