-- The form as which an answer is read.
use Rattle.std.proofs.Common.{◌≡◌, ◌∙◌, refl, ℕ, Some, None}
use Rattle.fuse_codec.specs.Opcodes.{number, opcode_of, reply_form}
use Rattle.fuse_codec.specs.Replies.{answered, answer_form}
use Rattle.fuse_codec.specs.declared.opcodes.ReplyForm.TheVariants as forms
use Rattle.dax_device.specs.Answers.{read_form}

flush_form : answer_form 25 ≡ Some forms.Done
unfolding answer_form opcode_of number reply_form answered
flush_form = refl

-- what has no form is read as what answers FLUSH
pub read_form_none : (opcode : ℕ) → answer_form opcode ≡ None → answer_form 25 ≡ Some (read_form opcode)
unfolding read_form
read_form_none opcode e = flush_form ∙ rw e refl
