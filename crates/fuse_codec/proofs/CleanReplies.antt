-- Clean spellings of replies.
use Rattle.std.proofs.Common.{◌≡◌, ℕ, ◌≤◌, true, List, [], ◌∷◌, ◌++◌, length, refl, sym, subst, ◌∙◌, ap, arith}
use Rattle.std.proofs.lemmas.Bool.{leb-true}
use Rattle.std.proofs.lemmas.List.{append-nil, append_assoc, length-append}
use Rattle.plain_file.specs.Limits.{max_transfer}
use Rattle.fuse_wire.specs.Layout.{Bytes, AreSpelled, FitsParts, clean, parts_len}
use Rattle.fuse_wire.specs.Records.{out_header, write_out}
use Rattle.fuse_wire.specs.Attributes.{entry_out, attr_out}
use Rattle.fuse_wire.specs.Opens.{open_out}
use Rattle.fuse_wire.specs.Inits.{init_out}
use Rattle.fuse_wire.specs.declared.records.WriteOut.{WriteOut}
use Rattle.fuse_wire.specs.declared.attributes.EntryOut.{EntryOut}
use Rattle.fuse_wire.specs.declared.attributes.AttrOut.{AttrOut}
use Rattle.fuse_wire.specs.declared.opens.OpenOut.{OpenOut}
use Rattle.fuse_wire.specs.declared.inits.InitOut.{InitOut}
use Rattle.fuse_wire.proofs.Laws.{clean_append, clean_spells, clean_len, parts_len_append}
use Rattle.fuse_wire.proofs.RecordLaws.{out_header_law, write_out_law}
use Rattle.fuse_wire.proofs.AttributeLaws.{entry_out_law, attr_out_law}
use Rattle.fuse_wire.proofs.OpenLaws.{open_out_law}
use Rattle.fuse_wire.proofs.InitLaws.{init_out_law}
use Rattle.fuse_codec.specs.declared.opcodes.ReplyForm.{ReplyForm}
use Rattle.fuse_codec.specs.declared.replies.Reply.{Reply}
use Rattle.fuse_codec.specs.declared.replies.Reply.TheVariants as replies
use Rattle.fuse_codec.specs.Replies.{reply_parts, is_reply, HasForm, reply_header, SpellsReply, reply_len, clean_reply}

-- ---- how many bytes the records take

pub entry_sized : (r : EntryOut) → parts_len (entry_out r) ≡ 128
entry_sized = entry_out_law.sized

pub attr_sized : (r : AttrOut) → parts_len (attr_out r) ≡ 104
attr_sized = attr_out_law.sized

pub opened_sized : (r : OpenOut) → parts_len (open_out r) ≡ 16
opened_sized = open_out_law.sized

pub wrote_sized : (r : WriteOut) → parts_len (write_out r) ≡ 8
wrote_sized = write_out_law.sized

pub init_sized : (r : InitOut) → parts_len (init_out r) ≡ 64
init_sized = init_out_law.sized

pub created_sized : (entry : EntryOut) (opened : OpenOut) → parts_len (entry_out entry ++ open_out opened) ≡ 144
created_sized entry opened = omega (arith, parts_len_append (entry_out entry) (open_out opened), entry_sized entry, opened_sized opened)

pub ruleset body_sizes = (entry_sized, attr_sized, opened_sized, wrote_sized, init_sized, created_sized)

pub reply_bound : (reply : Reply) → is_reply reply ≡ true → reply_len reply ≤ 1048592
unfolding is_reply reply_parts
reply_bound (replies.Error number) h = omega arith
reply_bound (replies.Entry r) h = omega (arith, entry_sized r)
reply_bound (replies.Attr r) h = omega (arith, attr_sized r)
reply_bound (replies.Opened r) h = omega (arith, opened_sized r)
reply_bound (replies.Created entry opened) h = omega (arith, created_sized entry opened)
reply_bound (replies.Bytes text) h = omega (arith, leb-true (length text) max_transfer h)
reply_bound (replies.Wrote r) h = omega (arith, wrote_sized r)
reply_bound (replies.Init r) h = omega (arith, init_sized r)
reply_bound replies.Done h = omega arith

-- ---- the spelling

pub created_text : (out : List ℕ) (entry : EntryOut) (opened : OpenOut) → (out ++ clean (entry_out entry)) ++ clean (open_out opened) ≡ out ++ clean (entry_out entry ++ open_out opened)
created_text out entry opened = append_assoc out (clean (entry_out entry)) (clean (open_out opened)) ∙ ap (λ (xs : List ℕ). out ++ xs) (sym (clean_append (entry_out entry) (open_out opened)))

pub bytes_text : (out text : List ℕ) → out ++ text ≡ out ++ clean (Bytes text ∷ [])
bytes_text out text = ap (λ (xs : List ℕ). out ++ xs) (sym (append-nil text))

pub ruleset body_texts = (created_text, bytes_text)

pub clean_is_spelled : (unique : ℕ) (reply : Reply) → is_reply reply ≡ true → FitsParts (reply_parts reply) → FitsParts (out_header (reply_header (reply_len reply) unique reply))
    → (form : ReplyForm) → HasForm form reply → SpellsReply form unique reply (clean_reply unique reply)
clean_is_spelled unique reply bounded fits header_fits form formed =
    let h = out_header (reply_header (reply_len reply) unique reply) in
    let body = clean (reply_parts reply) in
    let len : length (clean h ++ body) ≡ reply_len reply = omega (arith, length-append (clean h) body, clean_len h, out_header_law.sized (reply_header (reply_len reply) unique reply), clean_len (reply_parts reply)) in
    record {
      header = clean h;
      body = body;
      whole = refl;
      bounded = bounded;
      formed = formed;
      header_spelled = subst (λ (n : ℕ). AreSpelled (out_header (reply_header n unique reply)) (clean h)) (sym len) (clean_spells h header_fits);
      body_spelled = clean_spells (reply_parts reply) fits;
    }
