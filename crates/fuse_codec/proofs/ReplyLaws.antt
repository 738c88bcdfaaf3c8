-- Replies: what is read is spelled, and what is spelled is read.
use Rattle.std.proofs.Common.{◌≡◌, ℕ, ◌≤◌, Bool, true, false, not, cond, eqb, leb, ltb, ◌||◌, List, [], ◌++◌, length, take, drop, Option, Some, None, Result, Ok, Err, refl, sym, subst, ◌∙◌, ap, arith, inl, inr, ◌⊎◌}
use Rattle.std.specs.Prelude.{ℤ, pos, neg_ℤ, int_lt, IfOk, option_map}
use Rattle.std.proofs.Math.IntN.{neg_ℤ-neg_ℤ}
use Rattle.std.proofs.lemmas.Int.{ints}
use Rattle.std.proofs.lemmas.Bool.{eq-eqb, eqb-true, not-false, ltb-false, le-ltb}
use Rattle.std.proofs.lemmas.List.{length-take, length-append, take-append-drop, take_at, drop_at, nil_from_length}
use Rattle.plain_file.specs.Limits.{max_transfer}
use Rattle.fuse_wire.specs.Layout.{Part, AreSpelled}
use Rattle.fuse_wire.specs.Records.{out_header, out_header_at, out_header_of, write_out, write_out_of}
use Rattle.fuse_wire.specs.Attributes.{entry_out, entry_out_at, entry_out_of, attr_out, attr_out_of}
use Rattle.fuse_wire.specs.Opens.{open_out, open_out_of}
use Rattle.fuse_wire.specs.Inits.{init_out, init_out_of}
use Rattle.fuse_wire.specs.declared.records.OutHeader.{OutHeader}
use Rattle.fuse_wire.specs.declared.attributes.EntryOut.{EntryOut}
use Rattle.fuse_wire.specs.declared.opens.OpenOut.{OpenOut}
use Rattle.fuse_wire.proofs.Laws.{IsBytes, IsBytes-take, IsBytes-drop, joined, split, one_text, one_text_is, nothing, nothing_is}
use Rattle.fuse_wire.proofs.RecordLaws.{IsRecord, cond_some, out_header_law, write_out_law}
use Rattle.fuse_wire.proofs.AttributeLaws.{entry_out_law, attr_out_law}
use Rattle.fuse_wire.proofs.OpenLaws.{open_out_law}
use Rattle.fuse_wire.proofs.InitLaws.{init_out_law}
use Rattle.fuse_codec.specs.declared.opcodes.ReplyForm.{ReplyForm}
use Rattle.fuse_codec.specs.declared.opcodes.ReplyForm.TheVariants as forms
use Rattle.fuse_codec.specs.declared.replies.Reply.{Reply}
use Rattle.fuse_codec.specs.declared.replies.Reply.TheVariants as replies
use Rattle.fuse_codec.specs.declared.errors.BadReply.{BadReply}
use Rattle.fuse_codec.specs.declared.errors.BadReply.TheVariants as bad_replies
use Rattle.fuse_codec.specs.Replies.{form_of, reply_parts, error_of, is_error_number, is_reply, HasForm, reply_header, SpellsReply, answer_form, SpellsAnswer}
use Rattle.fuse_codec.specs.ReplyReading.{created_of, success_of, reply_body_of, reply_with, reply_after, reply_of, GivesReply, AnswerGives}
use Rattle.fuse_codec.proofs.Steps.{mapped_some, went_on}

-- ---- bodies

-- a body that was read, as a reply of a form after a header with this error
pub record IsBody (form : ReplyForm) (error : ℤ) (reply : Reply) (bytes : List ℕ) : Type 0 where
  pub known : error_of reply ≡ error
  pub bounded : is_reply reply ≡ true
  pub formed : HasForm form reply
  pub parts : AreSpelled (reply_parts reply) bytes

-- a record that is the whole body
record_found : {R : Type 0} (size : ℕ) (parts : R → List Part) (of : List ℕ → Option R) → IsRecord size parts of → (make : R → Reply) (bytes : List ℕ) (reply : Reply) → IsBytes bytes → option_map make (of bytes) ≡ Some reply
    → (r : R) × AreSpelled (parts r) bytes × (make r ≡ reply)
record_found size parts of law make bytes reply fits e =
    let m = mapped_some make (of bytes) reply e in
    (m.0, law.found bytes m.0 fits m.1, m.2)

created_found : (bytes : List ℕ) (reply : Reply) → IsBytes bytes → created_of bytes ≡ Some reply → IsBody forms.Created (pos 0) reply bytes
unfolding created_of form_of error_of is_reply reply_parts entry_out_of
created_found bytes reply fits e =
    let h = entry_out_at (take 128 bytes) in
    let long = went_on (ltb (length bytes) 128) (option_map (replies.Created h) (open_out_of (drop 128 bytes))) reply e in
    let le : 128 ≤ length bytes = ltb-false _ _ long.0 in
    let m = mapped_some (replies.Created h) (open_out_of (drop 128 bytes)) reply long.1 in
    let front : length (take 128 bytes) ≡ 128 = omega (arith, length-take 128 bytes) in
    let first : AreSpelled (entry_out h) (take 128 bytes) = entry_out_law.found (take 128 bytes) h (IsBytes-take 128 bytes fits) (rw (eq-eqb (length (take 128 bytes)) 128 front) refl) in
    let second : AreSpelled (open_out m.0) (drop 128 bytes) = open_out_law.found (drop 128 bytes) m.0 (IsBytes-drop 128 bytes fits) m.1 in
    let all : AreSpelled (entry_out h ++ open_out m.0) bytes = subst (λ (xs : List ℕ). AreSpelled (entry_out h ++ open_out m.0) xs) (take-append-drop 128 bytes) (joined (entry_out h) (open_out m.0) (take 128 bytes) (drop 128 bytes) first second) in
    subst (λ (x : Reply). IsBody forms.Created (pos 0) x bytes) m.2 (record { known = refl; bounded = refl; formed = refl; parts = all })

created_again : (entry : EntryOut) (opened : OpenOut) (bytes : List ℕ) → AreSpelled (entry_out entry ++ open_out opened) bytes → created_of bytes ≡ Some (replies.Created entry opened)
unfolding created_of entry_out_of
created_again entry opened bytes h =
    let s = split (entry_out entry) (open_out opened) bytes h in
    let len : length s.front ≡ 128 = entry_out_law.len entry s.front s.front_spelled in
    let front : take 128 bytes ≡ s.front = ap (take 128) s.whole ∙ take_at s.front s.back 128 len in
    let back : drop 128 bytes ≡ s.back = ap (drop 128) s.whole ∙ drop_at s.front s.back 128 len in
    let read = cond_some (eqb (length s.front) 128) (entry_out_at s.front) entry (entry_out_law.again entry s.front s.front_spelled) in
    let long : ltb (length bytes) 128 ≡ false = le-ltb _ _ (omega (arith, ap length s.whole, length-append s.front s.back)) in
    let head : entry_out_at (take 128 bytes) ≡ entry = ap entry_out_at front ∙ read.1 in
    rw (long, back, open_out_law.again opened s.back s.back_spelled) (subst (λ (x : EntryOut). Some (replies.Created x opened) ≡ Some (replies.Created entry opened)) (sym head) refl)

success_found : (form : ReplyForm) (bytes : List ℕ) (reply : Reply) → IsBytes bytes → success_of form bytes ≡ Some reply → IsBody form (pos 0) reply bytes
unfolding success_of form_of error_of is_reply reply_parts
success_found forms.Entry bytes reply fits e =
    let r = record_found 128 entry_out entry_out_of entry_out_law replies.Entry bytes reply fits e in
    subst (λ (x : Reply). IsBody forms.Entry (pos 0) x bytes) r.2 (record { known = refl; bounded = refl; formed = refl; parts = r.1 })
success_found forms.Attr bytes reply fits e =
    let r = record_found 104 attr_out attr_out_of attr_out_law replies.Attr bytes reply fits e in
    subst (λ (x : Reply). IsBody forms.Attr (pos 0) x bytes) r.2 (record { known = refl; bounded = refl; formed = refl; parts = r.1 })
success_found forms.Opened bytes reply fits e =
    let r = record_found 16 open_out open_out_of open_out_law replies.Opened bytes reply fits e in
    subst (λ (x : Reply). IsBody forms.Opened (pos 0) x bytes) r.2 (record { known = refl; bounded = refl; formed = refl; parts = r.1 })
success_found forms.Created bytes reply fits e = created_found bytes reply fits e
success_found forms.Bytes bytes reply fits e =
    let g = cond_some (leb (length bytes) max_transfer) (replies.Bytes bytes) reply e in
    subst (λ (x : Reply). IsBody forms.Bytes (pos 0) x bytes) g.1 (record { known = refl; bounded = g.0; formed = refl; parts = one_text bytes bytes refl })
success_found forms.Wrote bytes reply fits e =
    let r = record_found 8 write_out write_out_of write_out_law replies.Wrote bytes reply fits e in
    subst (λ (x : Reply). IsBody forms.Wrote (pos 0) x bytes) r.2 (record { known = refl; bounded = refl; formed = refl; parts = r.1 })
success_found forms.Init bytes reply fits e =
    let r = record_found 64 init_out init_out_of init_out_law replies.Init bytes reply fits e in
    subst (λ (x : Reply). IsBody forms.Init (pos 0) x bytes) r.2 (record { known = refl; bounded = refl; formed = refl; parts = r.1 })
success_found forms.Done bytes reply fits e =
    let g = cond_some (eqb (length bytes) 0) replies.Done reply e in
    subst (λ (x : Reply). IsBody forms.Done (pos 0) x bytes) g.1 (record { known = refl; bounded = refl; formed = refl; parts = subst (λ (xs : List ℕ). AreSpelled [] xs) (sym (nil_from_length bytes (eqb-true _ _ g.0))) nothing })
success_found forms.Unanswered bytes reply fits e = absurd cc

-- one way or the other
either_way : {A : Type 0} (b : Bool) (x y z : Option A) → cond b x y ≡ z → ((b ≡ true) × (x ≡ z)) ⊎ ((b ≡ false) × (y ≡ z))
either_way true x y z e = inl (refl, e)
either_way false x y z e = inr (refl, e)

negated : (error : ℤ) → int_lt error (pos 0) ≡ true → int_lt error (neg_ℤ (pos 4095)) ≡ false → is_error_number (neg_ℤ error) ≡ true
negated error below within = grind (arith, ints)

zero_between : (error : ℤ) → int_lt error (pos 0) ≡ false → int_lt (pos 0) error ≡ false → error ≡ pos 0
zero_between error not_below not_above = grind (arith, ints)

pub below_zero : (number : ℤ) → is_error_number number ≡ true → int_lt (neg_ℤ number) (pos 0) ≡ true
below_zero number h = grind (arith, ints)

body_found : (form : ReplyForm) (error : ℤ) (bytes : List ℕ) (reply : Reply) → IsBytes bytes → int_lt (pos 0) error ≡ false → int_lt error (neg_ℤ (pos 4095)) ≡ false → reply_body_of form error bytes ≡ Some reply → IsBody form error reply bytes
unfolding reply_body_of form_of error_of is_reply reply_parts
body_found form error bytes reply fits not_above within e =
    elim (either_way (int_lt error (pos 0)) (cond (eqb (length bytes) 0) (Some (replies.Error (neg_ℤ error))) None) (success_of form bytes) (Some reply) e) [
      | inl h ↦
          let g = cond_some (eqb (length bytes) 0) (replies.Error (neg_ℤ error)) reply h.1 in
          subst (λ (x : Reply). IsBody form error x bytes) g.1 (record { known = neg_ℤ-neg_ℤ error; bounded = negated error h.0 within; formed = tt; parts = subst (λ (xs : List ℕ). AreSpelled [] xs) (sym (nil_from_length bytes (eqb-true _ _ g.0))) nothing })
      | inr h ↦ subst (λ (z : ℤ). IsBody form z reply bytes) (sym (zero_between error h.0 not_above)) (success_found form bytes reply fits h.1)
    ]

body_again : (form : ReplyForm) (reply : Reply) (bytes : List ℕ) → is_reply reply ≡ true → HasForm form reply → AreSpelled (reply_parts reply) bytes → reply_body_of form (error_of reply) bytes ≡ Some reply
unfolding reply_body_of success_of form_of error_of is_reply reply_parts
body_again form (replies.Error number) bytes bounded formed h = rw (below_zero number bounded, nothing_is bytes h, neg_ℤ-neg_ℤ number) refl
body_again form (replies.Entry r) bytes bounded formed h = subst (λ (f : ReplyForm). success_of f bytes ≡ Some (replies.Entry r)) formed (ap (option_map replies.Entry) (entry_out_law.again r bytes h))
body_again form (replies.Attr r) bytes bounded formed h = subst (λ (f : ReplyForm). success_of f bytes ≡ Some (replies.Attr r)) formed (ap (option_map replies.Attr) (attr_out_law.again r bytes h))
body_again form (replies.Opened r) bytes bounded formed h = subst (λ (f : ReplyForm). success_of f bytes ≡ Some (replies.Opened r)) formed (ap (option_map replies.Opened) (open_out_law.again r bytes h))
body_again form (replies.Created entry opened) bytes bounded formed h = subst (λ (f : ReplyForm). success_of f bytes ≡ Some (replies.Created entry opened)) formed (created_again entry opened bytes h)
body_again form (replies.Bytes text) bytes bounded formed h = subst (λ (f : ReplyForm). success_of f bytes ≡ Some (replies.Bytes text)) formed (rw (one_text_is text bytes h, bounded) refl)
body_again form (replies.Wrote r) bytes bounded formed h = subst (λ (f : ReplyForm). success_of f bytes ≡ Some (replies.Wrote r)) formed (ap (option_map replies.Wrote) (write_out_law.again r bytes h))
body_again form (replies.Init r) bytes bounded formed h = subst (λ (f : ReplyForm). success_of f bytes ≡ Some (replies.Init r)) formed (ap (option_map replies.Init) (init_out_law.again r bytes h))
body_again form replies.Done bytes bounded formed h = subst (λ (f : ReplyForm). success_of f bytes ≡ Some replies.Done) formed (rw (nothing_is bytes h) refl)

-- ---- whole replies

ok_after : {A : Type 0} (b : Bool) (d : BadReply) (x : Result A BadReply) (y : A) → cond b (Err d) x ≡ Ok y → (b ≡ false) × (x ≡ Ok y)
ok_after true d x y e = absurd cc
ok_after false d x y e = (refl, e)

neither : (a b : Bool) → (a || b) ≡ false → (a ≡ false) × (b ≡ false)
neither true b e = absurd cc
neither false b e = (refl, e)

reply_with_ok : (unique : ℕ) (o : Option Reply) (answer : ℕ × Reply) → reply_with unique o ≡ Ok answer → (reply : Reply) × (o ≡ Some reply) × ((unique, reply) ≡ answer)
reply_with_ok unique None answer e = absurd cc
reply_with_ok unique (Some reply) answer e = (reply, refl, cc)

-- what is read is spelled
pub reply_found : (form : ReplyForm) (bytes : List ℕ) (answer : ℕ × Reply) → IsBytes bytes → reply_of form bytes ≡ Ok answer → SpellsReply form answer.0 answer.1 bytes
unfolding reply_of reply_after out_header_of
reply_found form bytes answer fits e =
    let h = out_header_at (take 16 bytes) in
    let had = length bytes in
    let body = drop 16 bytes in
    let read = reply_with h.unique (reply_body_of form h.error body) in
    let wrong = int_lt (pos 0) h.error || int_lt h.error (neg_ℤ (pos 4095)) in
    let long = ok_after (ltb had 16) bad_replies.Short (reply_after form h had body) answer e in
    let le : 16 ≤ length bytes = ltb-false _ _ long.0 in
    let said = ok_after (not (eqb h.len had)) (bad_replies.Length h.len had) (cond wrong (Err (bad_replies.ErrorCode h.error)) read) answer long.1 in
    let known = ok_after wrong (bad_replies.ErrorCode h.error) read answer said.1 in
    let within = neither (int_lt (pos 0) h.error) (int_lt h.error (neg_ℤ (pos 4095))) known.0 in
    let got = reply_with_ok h.unique (reply_body_of form h.error body) answer known.1 in
    let b = body_found form h.error body got.0 (IsBytes-drop 16 bytes fits) within.0 within.1 got.1 in
    let front : length (take 16 bytes) ≡ 16 = omega (arith, length-take 16 bytes) in
    let first : AreSpelled (out_header h) (take 16 bytes) = out_header_law.found (take 16 bytes) h (IsBytes-take 16 bytes fits) (rw (eq-eqb (length (take 16 bytes)) 16 front) refl) in
    let len : h.len ≡ had = eqb-true _ _ (not-false _ said.0) in
    let same : reply_header had h.unique got.0 ≡ h = λ i. record { len = sym len i; error = b.known i; unique = h.unique } in
    let header : AreSpelled (out_header (reply_header had h.unique got.0)) (take 16 bytes) = subst (λ (x : OutHeader). AreSpelled (out_header x) (take 16 bytes)) (sym same) first in
    subst (λ (x : ℕ × Reply). SpellsReply form x.0 x.1 bytes) got.2 (record { header = take 16 bytes; body = body; whole = sym (take-append-drop 16 bytes); bounded = b.bounded; formed = b.formed; header_spelled = header; body_spelled = b.parts })

-- an error field that a reply has
pub error_within : (reply : Reply) → is_reply reply ≡ true → (int_lt (pos 0) (error_of reply) || int_lt (error_of reply) (neg_ℤ (pos 4095))) ≡ false
unfolding is_reply error_of
error_within (replies.Error number) h = grind (arith, ints)
error_within (replies.Entry r) h = refl
error_within (replies.Attr r) h = refl
error_within (replies.Opened r) h = refl
error_within (replies.Created entry opened) h = refl
error_within (replies.Bytes bytes) h = refl
error_within (replies.Wrote r) h = refl
error_within (replies.Init r) h = refl
error_within replies.Done h = refl

-- what is spelled is read
pub reply_again : (form : ReplyForm) (unique : ℕ) (reply : Reply) (bytes : List ℕ) → SpellsReply form unique reply bytes → reply_of form bytes ≡ Ok (unique, reply)
unfolding reply_of reply_after out_header_of
reply_again form unique reply bytes s =
    let had = length bytes in
    let h = reply_header had unique reply in
    let len : length s.header ≡ 16 = out_header_law.len h s.header s.header_spelled in
    let front : take 16 bytes ≡ s.header = ap (take 16) s.whole ∙ take_at s.header s.body 16 len in
    let back : drop 16 bytes ≡ s.body = ap (drop 16) s.whole ∙ drop_at s.header s.body 16 len in
    let read = cond_some (eqb (length s.header) 16) (out_header_at s.header) h (out_header_law.again h s.header s.header_spelled) in
    let long : ltb had 16 ≡ false = le-ltb _ _ (omega (arith, ap length s.whole, length-append s.header s.body, len)) in
    let header : out_header_at (take 16 bytes) ≡ h = ap out_header_at front ∙ read.1 in
    let after : reply_after form h had s.body ≡ Ok (unique, reply) = rw (eq-eqb had had refl, error_within reply s.bounded, body_again form reply s.body s.bounded s.formed s.body_spelled) refl in
    rw (long, back) (subst (λ (x : OutHeader). reply_after form x had s.body ≡ Ok (unique, reply)) (sym header) after)

-- ---- what decoding returned

found_in : (form : ReplyForm) (bytes : List ℕ) (r : Result (ℕ × Reply) BadReply) → IsBytes bytes → GivesReply r (reply_of form bytes) → IfOk r (λ a. SpellsReply form a.0 a.1 bytes)
found_in form bytes (Ok a) fits given = reply_found form bytes a fits given
found_in form bytes (Err e) fits given = tt

spelled_answer : (form : ReplyForm) (opcode : ℕ) (bytes : List ℕ) (r : Result (ℕ × Reply) BadReply) → answer_form opcode ≡ Some form → IfOk r (λ a. SpellsReply form a.0 a.1 bytes) → IfOk r (λ a. SpellsAnswer opcode a.0 a.1 bytes)
spelled_answer form opcode bytes (Ok a) e h = (form, e, h)
spelled_answer form opcode bytes (Err x) e h = tt

pub answer_found : (opcode : ℕ) (bytes : List ℕ) (r : Result (ℕ × Reply) BadReply) → IsBytes bytes → AnswerGives r opcode bytes → IfOk r (λ a. SpellsAnswer opcode a.0 a.1 bytes)
answer_found opcode bytes r fits (form, is, given) = spelled_answer form opcode bytes r is (found_in form bytes r fits given)

same_some : {A : Type 0} (x y : A) (o : Option A) → o ≡ Some x → o ≡ Some y → x ≡ y
same_some x y o e f = cc

pub answer_again : (opcode : ℕ) (bytes : List ℕ) (r : Result (ℕ × Reply) BadReply) → AnswerGives r opcode bytes → (unique : ℕ) (reply : Reply) → SpellsAnswer opcode unique reply bytes → GivesReply r (Ok (unique, reply))
answer_again opcode bytes r (form, is, given) unique reply (form', is', spells) =
    let s = subst (λ (f : ReplyForm). SpellsReply f unique reply bytes) (same_some form' form (answer_form opcode) is' is) spells in
    subst (λ read. GivesReply r read) (reply_again form unique reply bytes s) given

pub memory_alone : (unique : ℕ) (reply : Reply) (e : BadReply) → GivesReply (Err e) (Ok (unique, reply)) → e ≡ bad_replies.Memory
memory_alone unique reply bad_replies.Short given = absurd cc
memory_alone unique reply (bad_replies.Length said had) given = absurd cc
memory_alone unique reply (bad_replies.ErrorCode n) given = absurd cc
memory_alone unique reply bad_replies.Body given = absurd cc
memory_alone unique reply bad_replies.Memory given = refl
