-- The requests about a file's bytes and its size.
use Rattle.std.proofs.Common.{◌≡◌, ◌∙◌, ap, sym, refl, subst, arith, ℕ, ◌+◌, ◌-◌, ◌<◌, ◌≤◌, ◌^◌, Bool, true, false, List, length, Option, length-take, take, drop, Ok, is_some, if◌then◌else◌}
use Rattle.std.proofs.lemmas.Bool.{le-leb}
use Rattle.plain_file.specs.declared.operations.Op.TheVariants as ops
use Rattle.plain_file.specs.File.{max_file, answer}
use Rattle.plain_file.specs.Limits.{max_transfer}
use Rattle.plain_file.specs.Board.{file_at, bytes_now, size_of, applied, file_answer}
use Rattle.fuse_wire.specs.Layout.{FitsParts}
use Rattle.fuse_wire.specs.Attributes.{attr_rec, attr_out}
use Rattle.fuse_wire.specs.Records.{write_out}
use Rattle.fuse_codec.specs.Grammar.{kind_of}
use Rattle.fuse_codec.specs.Opcodes.{reply_form}
use Rattle.fuse_codec.specs.Replies.{form_of, reply_parts, is_reply}
use Rattle.fuse_codec.specs.declared.replies.Reply.{Reply}
use Rattle.fuse_codec.specs.declared.replies.Reply.TheVariants as replies
use Rattle.fuse_device.specs.State.{State, World, made_at}
use Rattle.fuse_device.specs.DataSteps.{is_data, is_on_file}
use Rattle.fuse_device.specs.Requests.{answered, getattr, size_in, is_forget}
use Rattle.fuse_device.specs.Entries.{file_attr, attr_out_of}
use Rattle.fuse_device.specs.OpenFiles.{HasOpenFile, Succeeds}
use Rattle.fuse_device.proofs.Allowed.{may_apply_size}
use Rattle.fuse_device.proofs.OpenHandles.{is_file, is_known-open, read_succeeds, write_succeeds}
use Rattle.guest_wire.specs.declared.driver.FileRef.{FileRef}
use Rattle.guest_wire.specs.Requests.{message, getattr_request, read_request, write_request, write_at}
use Rattle.guest_dax.specs.Stands.{Stand, Stands, ref_at}
use Rattle.guest_io.specs.Requests.{answer_in}
use Rattle.guest_io.proofs.Asked.{IsOnFile, GoesOver}

handle-at : (s : State) (at : FileRef) (file : ℕ) → at.node ≡ file + 2 → HasOpenFile s (file + 2) at.fh → HasOpenFile s at.node at.fh
handle-at s at file e h = subst (λ n. HasOpenFile s n at.fh) (sym e) h

-- the handle by which a file is asked about, over an honest wire
pub record IsHandle (s : State) (at : FileRef) (file : ℕ) : Type 0 where
  pub node : at.node ≡ file + 2
  pub handle : HasOpenFile s (file + 2) at.fh

pub handle-of : (s : Stand) (refs : List FileRef) (at : FileRef) (file : ℕ) → Stands s refs → file < length refs → at ≡ ref_at refs file → s.wire.honest ≡ true → IsHandle s.wire.state at file
handle-of s refs at file h within is honest =
    let k = h.serving honest in
    record {
      node = ap (λ (r : FileRef). r.node) is ∙ k.nodes file within;
      handle = subst (λ n. HasOpenFile s.wire.state (file + 2) n) (sym (ap (λ (r : FileRef). r.fh) is)) (k.handles file within);
    }

-- ---- its size

pub size_reply : ℕ → ℕ → World → Reply
size_reply node file w = replies.Attr (attr_out_of (file_attr w.state node (size_of (file_at w.files file))))

pub links_fit : (b : Bool) → (if b then 1 else 0) < 2 ^ 32
links_fit true = omega arith
links_fit false = omega arith

size-over : (w : World) (unique : ℕ) (at : FileRef) (file : ℕ) → at.node < 2 ^ 64 → size_of (file_at w.files file) ≤ max_file → GoesOver (message unique at.node (getattr_request at)) (size_reply at.node file w)
unfolding size_reply file_attr kind_of reply_form form_of is_reply reply_parts attr_out attr_rec FitsParts
size-over w unique at file low small = record {
  good = refl;
  formed = refl;
  fits = (omega arith, (omega arith, (tt, (omega arith, (omega arith, (omega arith, (omega arith, (omega arith, (omega arith, (omega arith, (omega arith, (omega arith, (omega arith, (links_fit (is_some (made_at w.state at.node).name), (omega arith, (omega arith, (omega arith, (omega arith, (omega arith, tt)))))))))))))))))));
}

size-gives : (w : World) (at : FileRef) (file : ℕ) → at.node ≡ file + 2 → HasOpenFile w.state at.node at.fh → answered w at.node (getattr_request at) ≡ (Ok (size_reply at.node file w), record w { files = applied w.files file ops.Size })
unfolding size_reply answered getattr file_answer answer size_in
size-gives w at file e h =
    let n : at.node - 2 ≡ file = omega (arith, e) in
    let known = is_known-open w.state at.node at.fh h in
    let on = is_file w.state at.node h.made in
    let allowed = may_apply_size w.files (at.node - 2) in
    subst (λ f. answered w at.node (getattr_request at) ≡ (Ok (replies.Attr (attr_out_of (file_attr w.state at.node (size_of (file_at w.files f))))), record w { files = applied w.files f ops.Size })) n (rw (known, h.handle, on, allowed) refl)

pub size-on : {bar : Option ℕ} (s : State) (unique : ℕ) (at : FileRef) (file : ℕ) → IsHandle s at file → IsOnFile s bar (message unique at.node (getattr_request at)) file ops.Size (size_reply at.node file)
unfolding size_reply is_data is_on_file is_forget answer_in file_answer answer form_of file_attr
size-on s unique at file h =
    let e = h.node in
    let k = handle-at s at file e h.handle in
    record {
      taken = refl;
      on = refl;
      has_reply = refl;
      node = e;
      started = k.started;
      known = is_known-open s at.node at.fh k;
      gives = λ w same barred. size-gives w at file e (subst (λ d. HasOpenFile d at.node at.fh) (sym same) k);
      over = λ w low small. size-over w unique at file low (small refl);
      answers = λ w. refl;
      success = λ w. refl;
    }

-- ---- its bytes

pub read_reply : ℕ → ℕ → ℕ → World → Reply
read_reply file off len w = replies.Bytes (take len (drop off (bytes_now (file_at w.files file))))

read-succeeds : (w : World) (at : FileRef) (file off len : ℕ) → at.node ≡ file + 2 → HasOpenFile w.state at.node at.fh → len ≤ max_transfer → Succeeds w at.node (read_request at off len) (read_reply file off len w) (record w { files = applied w.files file (ops.Read off len) })
unfolding read_reply
read-succeeds w at file off len e h small =
    let n : at.node - 2 ≡ file = omega (arith, e) in
    subst (λ f. Succeeds w at.node (read_request at off len) (replies.Bytes (take len (drop off (bytes_now (file_at w.files f))))) (record w { files = applied w.files f (ops.Read off len) })) n
    (read_succeeds w at.node (record { fh = at.fh; offset = off; size = len; read_flags = 0; lock_owner = 0; flags = 0 }) h small)

read-over : (w : World) (unique : ℕ) (at : FileRef) (file off len : ℕ) → len ≤ max_transfer → GoesOver (message unique at.node (read_request at off len)) (read_reply file off len w)
unfolding read_reply kind_of reply_form form_of is_reply reply_parts FitsParts
read-over w unique at file off len small = record {
  good = le-leb _ _ (omega (arith, small, length-take len (drop off (bytes_now (file_at w.files file)))));
  formed = refl;
  fits = (tt, tt);
}

pub read-on : {bar : Option ℕ} (s : State) (unique : ℕ) (at : FileRef) (file off len : ℕ) → len ≤ max_transfer → IsHandle s at file → IsOnFile s bar (message unique at.node (read_request at off len)) file (ops.Read off len) (read_reply file off len)
unfolding read_reply is_data is_on_file is_forget answer_in file_answer answer form_of
read-on s unique at file off len small h =
    let e = h.node in
    let k = handle-at s at file e h.handle in
    record {
      taken = refl;
      on = refl;
      has_reply = refl;
      node = e;
      started = k.started;
      known = is_known-open s at.node at.fh k;
      gives = λ w same barred. (read-succeeds w at file off len e (subst (λ d. HasOpenFile d at.node at.fh) (sym same) k) small).gives;
      over = λ w low size. read-over w unique at file off len small;
      answers = λ w. refl;
      success = λ w. refl;
    }

-- ---- bytes that are written

pub write_reply : List ℕ → World → Reply
write_reply bytes w = replies.Wrote (record { size = length bytes })

write-succeeds : (w : World) (at : FileRef) (file off : ℕ) (bytes : List ℕ) → at.node ≡ file + 2 → HasOpenFile w.state at.node at.fh → length bytes ≤ max_transfer → off + length bytes ≤ max_file → Succeeds w at.node (write_request at off bytes) (write_reply bytes w) (record w { files = applied w.files file (ops.Write off bytes) })
unfolding write_reply
write-succeeds w at file off bytes e h small within =
    let n : at.node - 2 ≡ file = omega (arith, e) in
    subst (λ f. Succeeds w at.node (write_request at off bytes) (replies.Wrote (record { size = length bytes })) (record w { files = applied w.files f (ops.Write off bytes) })) n
    (write_succeeds w at.node (write_at at.fh off (length bytes)) bytes h small within)

write-over : (w : World) (unique : ℕ) (at : FileRef) (off : ℕ) (bytes : List ℕ) → length bytes ≤ max_transfer → GoesOver (message unique at.node (write_request at off bytes)) (write_reply bytes w)
unfolding write_reply kind_of reply_form form_of is_reply reply_parts write_out FitsParts
write-over w unique at off bytes small = record { good = refl; formed = refl; fits = (omega (arith, small), (tt, tt)) }

pub write-on : {bar : Option ℕ} (s : State) (unique : ℕ) (at : FileRef) (file off : ℕ) (bytes : List ℕ) → length bytes ≤ max_transfer → off + length bytes ≤ max_file → IsHandle s at file → IsOnFile s bar (message unique at.node (write_request at off bytes)) file (ops.Write off bytes) (write_reply bytes)
unfolding write_reply is_data is_on_file is_forget answer_in file_answer answer form_of
write-on s unique at file off bytes small within h =
    let e = h.node in
    let k = handle-at s at file e h.handle in
    record {
      taken = refl;
      on = refl;
      has_reply = refl;
      node = e;
      started = k.started;
      known = is_known-open s at.node at.fh k;
      gives = λ w same barred. (write-succeeds w at file off bytes e (subst (λ d. HasOpenFile d at.node at.fh) (sym same) k) small within).gives;
      over = λ w low size. write-over w unique at off bytes small;
      answers = λ w. refl;
      success = λ w. refl;
    }
