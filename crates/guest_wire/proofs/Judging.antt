-- What decoding a reply says of it.
use Rattle.std.proofs.Common.{◌≡◌, ◌∙◌, sym, ap, subst, ℕ, List, Option, Some, None, Result, Ok, Err}
use Rattle.std.specs.Prelude.{IsSome, IfSome, IfOk}
use Rattle.fuse_codec.specs.Opcodes.{number, reply_form}
use Rattle.fuse_codec.specs.Replies.{answer_form, answer_to, answered, form_of, HasForm, SpellsAnswer}
use Rattle.fuse_codec.specs.ReplyReading.{reply_of, GivesReply, AnswerGives}
use Rattle.fuse_codec.specs.declared.errors.BadReply.{BadReply}
use Rattle.fuse_codec.specs.declared.opcodes.Opcode.{Opcode}
use Rattle.fuse_codec.specs.declared.opcodes.ReplyForm.{ReplyForm}
use Rattle.fuse_codec.specs.declared.opcodes.ReplyForm.TheVariants as forms
use Rattle.fuse_codec.specs.declared.replies.Reply.{Reply}
use Rattle.fuse_codec.proofs.RequestLaws.{opcode_again}

-- the form of what answers an operation
pub answer_form-number : (k : Opcode) → answer_form (number k) ≡ answered (reply_form k)
unfolding answer_form
answer_form-number k = ap answer_to (opcode_again k)

answered_is : (f g : ReplyForm) → answered f ≡ Some g → g ≡ f
unfolding answered
answered_is forms.Entry g e = cc
answered_is forms.Attr g e = cc
answered_is forms.Opened g e = cc
answered_is forms.Created g e = cc
answered_is forms.Bytes g e = cc
answered_is forms.Wrote g e = cc
answered_is forms.Init g e = cc
answered_is forms.Done g e = cc
answered_is forms.Unanswered g e = absurd cc

-- it is the operation's own form
form_is : (k : Opcode) (form : ReplyForm) → answer_form (number k) ≡ Some form → form ≡ reply_form k
form_is k form e = answered_is (reply_form k) form (sym (answer_form-number k) ∙ e)

pub some_answer : (k : Opcode) (n : ℕ) → n ≡ number k → IsSome (answered (reply_form k)) → IsSome (answer_form n)
some_answer k n e h = rw (e, answer_form-number k) h

-- what was decoded for an operation is what reading its form gives
pub read_by_form : (k : Opcode) (n : ℕ) (bytes : List ℕ) (r : Result (ℕ × Reply) BadReply) → n ≡ number k → AnswerGives r n bytes → GivesReply r (reply_of (reply_form k) bytes)
read_by_form k n bytes r e (form, is, given) = subst (λ (f : ReplyForm). GivesReply r (reply_of f bytes)) (form_is k form (ap answer_form (sym e) ∙ is)) given

-- and has that form
formed : (k : Opcode) (bytes : List ℕ) (a : ℕ × Reply) → SpellsAnswer (number k) a.0 a.1 bytes → HasForm (reply_form k) a.1
formed k bytes a (form, is, spelled) = subst (λ (f : ReplyForm). HasForm f a.1) (form_is k form is) spelled.formed

formed_ok : (k : Opcode) (bytes : List ℕ) (r : Result (ℕ × Reply) BadReply) → IfOk r (λ a. SpellsAnswer (number k) a.0 a.1 bytes) → IfOk r (λ a. HasForm (reply_form k) a.1)
formed_ok k bytes (Ok a) h = formed k bytes a h
formed_ok k bytes (Err e) h = tt

pub decoded_form : (k : Opcode) (n : ℕ) (bytes : List ℕ) (r : Result (ℕ × Reply) BadReply) → n ≡ number k → IfOk r (λ a. SpellsAnswer n a.0 a.1 bytes) → IfOk r (λ a. HasForm (reply_form k) a.1)
decoded_form k n bytes r e h = formed_ok k bytes r (subst (λ x. IfOk r (λ a. SpellsAnswer x a.0 a.1 bytes)) e h)

-- a success has a form, which is the one that goes with it
its_form : (o : Option ReplyForm) (form : ReplyForm) → IfSome o (λ f. f ≡ form) → IsSome o → o ≡ Some form
its_form None form h some = search some
its_form (Some f) form h some = ap Some h

pub success_form : (form : ReplyForm) (reply : Reply) → HasForm form reply → IsSome (form_of reply) → form_of reply ≡ Some form
success_form form reply h some = its_form (form_of reply) form h some
