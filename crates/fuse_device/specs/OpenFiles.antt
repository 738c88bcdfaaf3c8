-- What a client of the device rests on: an open file, and a request that succeeds.
use Rattle.std.specs.Prelude.{◌≡◌, ℕ, true, false, ◌||◌, Ok}
use Rattle.fuse_wire.specs.Layout.{FitsParts}
use Rattle.fuse_codec.specs.Grammar.{kind_of}
use Rattle.fuse_codec.specs.Opcodes.{reply_form}
use Rattle.fuse_codec.specs.Replies.{reply_parts, is_reply, HasForm}
use Rattle.fuse_codec.specs.declared.messages.Request.{Request}
use Rattle.fuse_codec.specs.declared.replies.Reply.{Reply}
use Rattle.fuse_device.specs.State.{State, World, is_made}
use Rattle.fuse_device.specs.Checks.{is_handle}
use Rattle.fuse_device.specs.Requests.{answered, is_init, is_forget}

-- in a started session, an open handle of a file that was made
pub record HasOpenFile (s : State) (node fh : ℕ) : Type 0 where
  pub started : s.started ≡ true
  pub made : is_made s node ≡ true
  pub handle : is_handle s fh node ≡ true

-- This request about a node may be asked now, and is answered this reply, which goes over the wire.
pub record Succeeds (w : World) (node : ℕ) (q : Request) (reply : Reply) (new : World) : Type 0 where
  pub may_ask : (w.state.started || is_init q) ≡ true
  pub has_reply : is_forget q ≡ false
  pub gives : answered w node q ≡ (Ok reply, new)
  pub good : is_reply reply ≡ true
  pub formed : HasForm (reply_form (kind_of q)) reply
  pub fits : FitsParts (reply_parts reply)
