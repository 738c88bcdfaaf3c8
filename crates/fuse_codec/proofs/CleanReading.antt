-- A reply's clean spelling is read as a reply of its form to its request, whatever numbers stand in it.
use Rattle.std.proofs.Common.{◌≡◌, ◌∙◌, ◌^◌, sym, refl, subst, ap, arith, ◌<◌, ℕ, ◌==◌, eqb, ltb, true, false, List, [], ◌∷◌, ◌++◌, length, take, drop, Option, Some, None, Ok, if◌then◌else◌}
use Rattle.std.specs.Prelude.{IsSome, option_map, FitsSigned}
use Rattle.std.specs.Int.{w32}
use Rattle.std.proofs.lemmas.Int.{ints}
use Rattle.std.proofs.lemmas.Bool.{eq-eqb, le-ltb}
use Rattle.std.proofs.lemmas.List.{length-drop, length-append, append-nil, take_at, drop_at}
use Rattle.fuse_wire.specs.Layout.{Bytes, AreSpelled, FitsParts, clean}
use Rattle.fuse_wire.specs.Records.{out_header, out_header_at, out_header_of, write_out, write_out_at, write_out_of}
use Rattle.fuse_wire.specs.Attributes.{entry_out, entry_out_at, entry_out_of, attr_out, attr_out_at, attr_out_of}
use Rattle.fuse_wire.specs.Opens.{open_out, open_out_at, open_out_of}
use Rattle.fuse_wire.specs.Inits.{init_out, init_out_at, init_out_of}
use Rattle.fuse_wire.specs.declared.records.OutHeader.{OutHeader}
use Rattle.fuse_wire.specs.declared.attributes.EntryOut.{EntryOut}
use Rattle.fuse_wire.specs.declared.opens.OpenOut.{OpenOut}
use Rattle.fuse_wire.proofs.Laws.{clean_spells, clean_len}
use Rattle.fuse_wire.proofs.RecordLaws.{cond_some, out_header_law}
use Rattle.fuse_codec.specs.Replies.{form_of, reply_parts, error_of, is_reply, HasForm, reply_header, reply_len, clean_reply}
use Rattle.fuse_codec.specs.ReplyReading.{created_of, success_of, reply_body_of, reply_with, reply_after, reply_of}
use Rattle.fuse_codec.specs.declared.opcodes.ReplyForm.{ReplyForm}
use Rattle.fuse_codec.specs.declared.replies.Reply.{Reply}
use Rattle.fuse_codec.specs.declared.replies.Reply.TheVariants as gives
use Rattle.fuse_codec.proofs.CleanReplies.{entry_sized, attr_sized, opened_sized, wrote_sized, init_sized, created_sized, reply_bound}
use Rattle.fuse_codec.proofs.ReplyLaws.{below_zero, error_within}

-- the error field of a reply's header
error_fits : (reply : Reply) → is_reply reply ≡ true → FitsSigned w32 (error_of reply)
unfolding is_reply error_of
error_fits (gives.Error number) h = grind (arith, ints)
error_fits (gives.Entry r) h = grind (arith, ints)
error_fits (gives.Attr r) h = grind (arith, ints)
error_fits (gives.Opened r) h = grind (arith, ints)
error_fits (gives.Created entry opened) h = grind (arith, ints)
error_fits (gives.Bytes bytes) h = grind (arith, ints)
error_fits (gives.Wrote r) h = grind (arith, ints)
error_fits (gives.Init r) h = grind (arith, ints)
error_fits gives.Done h = grind (arith, ints)

-- a body of the right length is read, whatever numbers stand in it
sized : {R : Type 0} (make : R → Reply) (n : ℕ) (at : List ℕ → R) (bytes : List ℕ) → length bytes ≡ n → IsSome (option_map make (if length bytes == n then Some (at bytes) else None))
sized make n at bytes h = rw (eq-eqb (length bytes) n h) refl

created_read : (entry : EntryOut) (opened : OpenOut) → IsSome (created_of (clean (entry_out entry ++ open_out opened)))
unfolding created_of open_out_of
created_read entry opened =
    let body = clean (entry_out entry ++ open_out opened) in
    let len : length body ≡ 144 = clean_len (entry_out entry ++ open_out opened) ∙ created_sized entry opened in
    let long : ltb (length body) 128 ≡ false = le-ltb _ _ (omega (arith, len)) in
    let rest : length (drop 128 body) ≡ 16 = omega (arith, length-drop 128 body, len) in
    rw (long, eq-eqb (length (drop 128 body)) 16 rest) refl

body_read : (form : ReplyForm) (reply : Reply) → is_reply reply ≡ true → HasForm form reply → IsSome (reply_body_of form (error_of reply) (clean (reply_parts reply)))
unfolding reply_body_of success_of form_of error_of is_reply reply_parts entry_out_of attr_out_of open_out_of write_out_of init_out_of
body_read form (gives.Error number) good formed = rw (below_zero number good) refl
body_read form (gives.Entry r) good formed = subst (λ (f : ReplyForm). IsSome (success_of f (clean (entry_out r)))) formed (sized gives.Entry 128 entry_out_at (clean (entry_out r)) (clean_len (entry_out r) ∙ entry_sized r))
body_read form (gives.Attr r) good formed = subst (λ (f : ReplyForm). IsSome (success_of f (clean (attr_out r)))) formed (sized gives.Attr 104 attr_out_at (clean (attr_out r)) (clean_len (attr_out r) ∙ attr_sized r))
body_read form (gives.Opened r) good formed = subst (λ (f : ReplyForm). IsSome (success_of f (clean (open_out r)))) formed (sized gives.Opened 16 open_out_at (clean (open_out r)) (clean_len (open_out r) ∙ opened_sized r))
body_read form (gives.Created entry opened) good formed = subst (λ (f : ReplyForm). IsSome (success_of f (clean (entry_out entry ++ open_out opened)))) formed (created_read entry opened)
body_read form (gives.Bytes bytes) good formed = subst (λ (f : ReplyForm). IsSome (success_of f (clean (Bytes bytes ∷ [])))) formed (rw (append-nil bytes, good) refl)
body_read form (gives.Wrote r) good formed = subst (λ (f : ReplyForm). IsSome (success_of f (clean (write_out r)))) formed (sized gives.Wrote 8 write_out_at (clean (write_out r)) (clean_len (write_out r) ∙ wrote_sized r))
body_read form (gives.Init r) good formed = subst (λ (f : ReplyForm). IsSome (success_of f (clean (init_out r)))) formed (sized gives.Init 64 init_out_at (clean (init_out r)) (clean_len (init_out r) ∙ init_sized r))
body_read form gives.Done good formed = subst (λ (f : ReplyForm). IsSome (success_of f [])) formed refl

-- bytes are read as a reply to the request of this number
abbrev pub ReadsTo : ReplyForm → ℕ → List ℕ → Type 0
ReadsTo form unique bytes = (reply : Reply) × (reply_of form bytes ≡ Ok (unique, reply))

with_some : (unique : ℕ) (o : Option Reply) → IsSome o → (reply : Reply) × (reply_with unique o ≡ Ok (unique, reply))
with_some unique (Some reply) h = (reply, refl)
with_some unique None h = absurd cc

pub header_fits : (unique : ℕ) (reply : Reply) → unique < 2 ^ 64 → is_reply reply ≡ true → FitsParts (out_header (reply_header (reply_len reply) unique reply))
unfolding FitsParts out_header
header_fits unique reply within good = (omega (arith, reply_bound reply good), (error_fits reply good, (within, tt)))

pub length-clean_reply : (unique : ℕ) (reply : Reply) → length (clean_reply unique reply) ≡ reply_len reply
length-clean_reply unique reply =
    let h = out_header (reply_header (reply_len reply) unique reply) in
    omega (arith, length-append (clean h) (clean (reply_parts reply)), clean_len h, out_header_law.sized (reply_header (reply_len reply) unique reply), clean_len (reply_parts reply))

-- a reply's clean spelling is read as a reply of its form
pub clean_reply_read : (form : ReplyForm) (unique : ℕ) (reply : Reply) → unique < 2 ^ 64 → is_reply reply ≡ true → HasForm form reply → ReadsTo form unique (clean_reply unique reply)
unfolding reply_of reply_after out_header_of
clean_reply_read form unique reply within good formed =
    let h = reply_header (reply_len reply) unique reply in
    let header = clean (out_header h) in
    let body = clean (reply_parts reply) in
    let bytes = header ++ body in
    let spelled : AreSpelled (out_header h) header = clean_spells (out_header h) (header_fits unique reply within good) in
    let len : length header ≡ 16 = out_header_law.len h header spelled in
    let front : take 16 bytes ≡ header = take_at header body 16 len in
    let back : drop 16 bytes ≡ body = drop_at header body 16 len in
    let had : length bytes ≡ reply_len reply = length-clean_reply unique reply in
    let read = cond_some (eqb (length header) 16) (out_header_at header) h (out_header_law.again h header spelled) in
    let is : out_header_at (take 16 bytes) ≡ h = ap out_header_at front ∙ read.1 in
    let long : ltb (length bytes) 16 ≡ false = le-ltb _ _ (omega (arith, length-append header body, len)) in
    let after : (r : Reply) × (reply_after form h (reply_len reply) body ≡ Ok (unique, r)) = rw (eq-eqb (reply_len reply) (reply_len reply) refl, error_within reply good) (with_some unique (reply_body_of form (error_of reply) body) (body_read form reply good formed)) in
    rw (long, back, had) (subst (λ (x : OutHeader). (r : Reply) × (reply_after form x (reply_len reply) body ≡ Ok (unique, r))) (sym is) after)
