-- Bytes that are heard as the reply to a request are no more than a transfer.
use Rattle.std.proofs.Common.{◌≡◌, ◌∙◌, ap, sym, refl, ℕ, Bool, true, false, nat_le, List, length, Option, Some, None, Result, Ok, Err}
use Rattle.std.specs.Prelude.{ℤ, pos, neg_ℤ, int_lt, ◌==◌, ◌||◌, not, nat_lt, take, drop, option_map, if◌then◌else◌}
use Rattle.plain_file.specs.Limits.{max_transfer}
use Rattle.fuse_wire.specs.Records.{out_header_at, write_out_of}
use Rattle.fuse_wire.specs.Attributes.{entry_out_at, entry_out_of, attr_out_of}
use Rattle.fuse_wire.specs.Opens.{open_out_of}
use Rattle.fuse_wire.specs.Inits.{init_out_of}
use Rattle.fuse_wire.specs.declared.records.OutHeader.{OutHeader}
use Rattle.fuse_codec.specs.Replies.{is_reply}
use Rattle.fuse_codec.specs.ReplyReading.{reply_of, reply_after, reply_with, reply_body_of, success_of, created_of}
use Rattle.fuse_codec.specs.declared.errors.BadReply.{BadReply}
use Rattle.fuse_codec.specs.declared.errors.BadReply.TheVariants as bad_replies
use Rattle.fuse_codec.specs.declared.messages.Message.{Message}
use Rattle.fuse_codec.specs.declared.opcodes.ReplyForm.{ReplyForm}
use Rattle.fuse_codec.specs.declared.opcodes.ReplyForm.TheVariants as forms
use Rattle.fuse_codec.specs.declared.replies.Reply.{Reply}
use Rattle.fuse_codec.specs.declared.replies.Reply.TheVariants as replies
use Rattle.fuse_codec.specs.Grammar.{kind_of}
use Rattle.fuse_codec.specs.Opcodes.{reply_form}
use Rattle.fuse_device.specs.Steps.{wanted_room}
use Rattle.guest_wire.specs.Answers.{heard, heard_as, numbered}

abbrev Good : List ℕ → Type 0
Good v = nat_le (length v) max_transfer ≡ true

pick-option : (b : Bool) (x y : Option Reply) (v : List ℕ) → (x ≡ Some (replies.Bytes v) → Good v) → (y ≡ Some (replies.Bytes v) → Good v) → (if b then x else y) ≡ Some (replies.Bytes v) → Good v
pick-option true x y v h k e = h e
pick-option false x y v h k e = k e

pick-result : (b : Bool) (x y : Result (ℕ × Reply) BadReply) (u : ℕ) (v : List ℕ) → (x ≡ Ok (u, replies.Bytes v) → Good v) → (y ≡ Ok (u, replies.Bytes v) → Good v) → (if b then x else y) ≡ Ok (u, replies.Bytes v) → Good v
pick-result true x y u v h k e = h e
pick-result false x y u v h k e = k e

mapped : {A : Type 0} (f : A → Reply) (o : Option A) (v : List ℕ) → ((a : A) → f a ≡ replies.Bytes v → ⊥) → option_map f o ≡ Some (replies.Bytes v) → Good v
mapped f None v apart e = absurd cc
mapped f (Some a) v apart e = absurd (apart a cc)

own-bytes : (b : Bool) (body v : List ℕ) → b ≡ nat_le (length body) max_transfer → (if b then Some (replies.Bytes body) else None) ≡ Some (replies.Bytes v) → Good v
own-bytes false body v is e = absurd cc
own-bytes true body v is e =
    let same : body ≡ v = cc in
    ap (λ (l : List ℕ). nat_le (length l) max_transfer) (sym same) ∙ sym is

in-success : (form : ReplyForm) (body v : List ℕ) → success_of form body ≡ Some (replies.Bytes v) → Good v
unfolding success_of created_of
in-success forms.Entry body v e = mapped replies.Entry (entry_out_of body) v (λ a d. cc) e
in-success forms.Attr body v e = mapped replies.Attr (attr_out_of body) v (λ a d. cc) e
in-success forms.Opened body v e = mapped replies.Opened (open_out_of body) v (λ a d. cc) e
in-success forms.Created body v e = pick-option (nat_lt (length body) 128) None (option_map (replies.Created (entry_out_at (take 128 body))) (open_out_of (drop 128 body))) v (λ d. absurd cc) (λ d. mapped (replies.Created (entry_out_at (take 128 body))) (open_out_of (drop 128 body)) v (λ a f. cc) d) e
in-success forms.Bytes body v e = own-bytes (nat_le (length body) max_transfer) body v refl e
in-success forms.Wrote body v e = mapped replies.Wrote (write_out_of body) v (λ a d. cc) e
in-success forms.Init body v e = mapped replies.Init (init_out_of body) v (λ a d. cc) e
in-success forms.Done body v e = pick-option (length body == 0) (Some replies.Done) None v (λ d. absurd cc) (λ d. absurd cc) e
in-success forms.Unanswered body v e = absurd cc

in-body : (form : ReplyForm) (error : ℤ) (body v : List ℕ) → reply_body_of form error body ≡ Some (replies.Bytes v) → Good v
unfolding reply_body_of
in-body form error body v e =
    let failed : Option Reply = if length body == 0 then Some (replies.Error (neg_ℤ error)) else None in
    pick-option (int_lt error (pos 0)) failed (success_of form body) v
    (λ d. pick-option (length body == 0) (Some (replies.Error (neg_ℤ error))) None v (λ f. absurd cc) (λ f. absurd cc) d)
    (λ d. in-success form body v d) e

ok-is : (p q : ℕ × Reply) → ◌≡◌ {A = Result (ℕ × Reply) BadReply} (Ok p) (Ok q) → p ≡ q
ok-is p q e = cc

in-with : (unique u : ℕ) (o : Option Reply) (v : List ℕ) → (o ≡ Some (replies.Bytes v) → Good v) → reply_with unique o ≡ Ok (u, replies.Bytes v) → Good v
in-with unique u None v h e = absurd cc
in-with unique u (Some r) v h e = h (ap (λ (t : ℕ × Reply). Some t.1) (ok-is (unique, r) (u, replies.Bytes v) e))

in-reply : (form : ReplyForm) (bytes : List ℕ) (u : ℕ) (v : List ℕ) → reply_of form bytes ≡ Ok (u, replies.Bytes v) → Good v
unfolding reply_of reply_after
in-reply form bytes u v e =
    let h : OutHeader = out_header_at (take 16 bytes) in
    let body = drop 16 bytes in
    let told : Result (ℕ × Reply) BadReply = reply_with h.unique (reply_body_of form h.error body) in
    let coded : Result (ℕ × Reply) BadReply = if int_lt (pos 0) h.error || int_lt h.error (neg_ℤ (pos 4095)) then Err (bad_replies.ErrorCode h.error) else told in
    pick-result (nat_lt (length bytes) 16) (Err bad_replies.Short) (reply_after form h (length bytes) body) u v (λ d. absurd cc)
    (λ d. pick-result (not (h.len == length bytes)) (Err (bad_replies.Length h.len (length bytes))) coded u v (λ f. absurd cc)
    (λ f. pick-result (int_lt (pos 0) h.error || int_lt h.error (neg_ℤ (pos 4095))) (Err (bad_replies.ErrorCode h.error)) told u v (λ k. absurd cc)
    (λ k. in-with h.unique u (reply_body_of form h.error body) v (in-body form h.error body v) k) f) d) e

in-numbered : (unique : ℕ) (form : ReplyForm) (bytes : List ℕ) (r : Result (ℕ × Reply) BadReply) (v : List ℕ) → r ≡ reply_of form bytes → numbered unique r ≡ Some (replies.Bytes v) → Good v
unfolding numbered
in-numbered unique form bytes (Err bad) v is e = absurd cc
in-numbered unique form bytes (Ok (n, r)) v is e =
    pick-option (n == unique) (Some r) None v
    (λ d. let same : r ≡ replies.Bytes v = cc in in-reply form bytes n v (sym is ∙ ap (λ (x : Reply). Ok (n, x)) same))
    (λ d. absurd cc) e

pub good-heard : (m : Message) (bytes : List ℕ) (r : Reply) (v : List ℕ) → heard m bytes ≡ Some r → r ≡ replies.Bytes v → is_reply (replies.Bytes v) ≡ true
unfolding heard_as is_reply
good-heard m bytes r v e is =
    pick-option (nat_lt (wanted_room m.body) (length bytes)) None (numbered m.head.unique (reply_of (reply_form (kind_of m.body)) bytes)) v (λ d. absurd cc)
    (λ d. in-numbered m.head.unique (reply_form (kind_of m.body)) bytes (reply_of (reply_form (kind_of m.body)) bytes) v refl d)
    (e ∙ ap (λ (x : Reply). Some x) is)
