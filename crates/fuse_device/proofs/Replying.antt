-- What a request is answered is an error, or a reply of the request's form, for which the room that it wants is enough.
use Rattle.std.proofs.Common.{◌≡◌, ◌^◌, ◌&&◌, sym, refl, arith, ◌≤◌, ℕ, ◌+◌, ◌-◌, ◌==◌, Bool, true, false, not, List, length, take, drop, Option, Some, None, Ok, Err, nat_lt, ◌||◌, if◌then◌else◌}
use Rattle.std.specs.Prelude.{IfOk, unwrap_or}
use Rattle.std.proofs.lemmas.Bool.{le-leb, ltb-false}
use Rattle.std.proofs.lemmas.List.{length-take}
use Rattle.plain_file.specs.Limits.{max_transfer}
use Rattle.fuse_wire.specs.declared.errno.Errno.{Errno}
use Rattle.fuse_wire.specs.declared.errno.Errno.TheVariants as errnos
use Rattle.fuse_wire.specs.declared.records.WriteOut.{WriteOut}
use Rattle.fuse_wire.specs.declared.records.WriteIn.{WriteIn}
use Rattle.fuse_wire.specs.declared.records.ReadIn.{ReadIn}
use Rattle.fuse_wire.specs.declared.mappings.SetupIn.{SetupIn}
use Rattle.fuse_wire.specs.declared.attributes.EntryOut.{EntryOut}
use Rattle.fuse_wire.specs.declared.attributes.AttrOut.{AttrOut}
use Rattle.fuse_wire.specs.declared.opens.OpenOut.{OpenOut}
use Rattle.fuse_wire.specs.declared.inits.InitOut.{InitOut}
use Rattle.fuse_codec.specs.Grammar.{kind_of, form_room, asked}
use Rattle.fuse_codec.specs.Opcodes.{reply_form}
use Rattle.fuse_codec.specs.Replies.{form_of, reply_parts, is_reply, HasForm, reply_len, answered}
use Rattle.fuse_codec.specs.declared.messages.Message.{Message}
use Rattle.fuse_codec.specs.declared.messages.Request.{Request}
use Rattle.fuse_codec.specs.declared.messages.Request.TheVariants as asks
use Rattle.fuse_codec.specs.declared.opcodes.ReplyForm.{ReplyForm}
use Rattle.fuse_codec.specs.declared.opcodes.ReplyForm.TheVariants as forms
use Rattle.fuse_codec.specs.declared.replies.Reply.{Reply}
use Rattle.fuse_codec.specs.declared.replies.Reply.TheVariants as gives
use Rattle.fuse_codec.proofs.CleanReplies.{entry_sized, attr_sized, opened_sized, wrote_sized, init_sized, created_sized}
use Rattle.fuse_codec.proofs.LongestPrefix.{clean_dirents_len, fitting_within}
use Rattle.plain_file.specs.Board.{file_at, file_answer, may_apply, applied, bytes_now}
use Rattle.plain_file.specs.File.{answer}
use Rattle.plain_file.specs.declared.operations.Answer.{Answer}
use Rattle.plain_file.specs.declared.operations.Op.{Op}
use Rattle.plain_file.specs.declared.operations.Op.TheVariants as ops
use Rattle.fuse_device.specs.State.{World, State, grants}
use Rattle.fuse_device.specs.Entries.{entries, listed}
use Rattle.fuse_codec.specs.Dirents.{fitting}
use Rattle.page_map.specs.Board.{painted}
use Rattle.fuse_device.specs.Checks.{Outcome, refuse, is_known, is_handle, is_past, on_file, on_dir, on_handle, on_handle_if}
use Rattle.fuse_device.specs.Requests.{span_of, is_bad_setup, done, applies, bytes_reply, attr_of, opens, closes, found, unlinked, opens_entry, makes_entry, created, resizes, init, destroy, getattr, setattr, open_file, open_dir, release, release_dir, sync, fallocate, read, write, lookup, unlink, create, forget, batch_forget, read_dir, setup, remove, is_forget, is_init, served}
use Rattle.fuse_device.specs.Requests as requests
use Rattle.fuse_device.specs.Steps.{wanted_room}

-- ---- a request's reply

-- the form of what answers a request; what answers a forget has no body
abbrev pub request_form : Request → ReplyForm
request_form q = unwrap_or (answered (reply_form (kind_of q))) forms.Done

-- a reply to a request, within the room that it wants
pub record Fits (q : Request) (reply : Reply) : Type 0 where
  pub good : is_reply reply ≡ true
  pub formed : HasForm (request_form q) reply
  pub room : reply_len reply ≤ wanted_room q

-- an outcome's reply is one
pub record Replies (q : Request) (o : Outcome) : Type 0 where
  pub all : IfOk o.0 (Fits q)

done_fits : (q : Request) → request_form q ≡ forms.Done → 16 ≤ wanted_room q → Fits q gives.Done
unfolding is_reply form_of reply_parts
done_fits q form room = record { good = refl; formed = sym form; room = room }

attr_fits : (q : Request) (r : AttrOut) → request_form q ≡ forms.Attr → 120 ≤ wanted_room q → Fits q (gives.Attr r)
unfolding is_reply form_of reply_parts
attr_fits q r form room = record { good = refl; formed = sym form; room = omega (arith, attr_sized r, room) }

entry_fits : (q : Request) (r : EntryOut) → request_form q ≡ forms.Entry → 144 ≤ wanted_room q → Fits q (gives.Entry r)
unfolding is_reply form_of reply_parts
entry_fits q r form room = record { good = refl; formed = sym form; room = omega (arith, entry_sized r, room) }

opened_fits : (q : Request) (r : OpenOut) → request_form q ≡ forms.Opened → 32 ≤ wanted_room q → Fits q (gives.Opened r)
unfolding is_reply form_of reply_parts
opened_fits q r form room = record { good = refl; formed = sym form; room = omega (arith, opened_sized r, room) }

created_fits : (q : Request) (r : EntryOut) (s : OpenOut) → request_form q ≡ forms.Created → 160 ≤ wanted_room q → Fits q (gives.Created r s)
unfolding is_reply form_of reply_parts
created_fits q r s form room = record { good = refl; formed = sym form; room = omega (arith, created_sized r s, room) }

wrote_fits : (q : Request) (r : WriteOut) → request_form q ≡ forms.Wrote → 24 ≤ wanted_room q → Fits q (gives.Wrote r)
unfolding is_reply form_of reply_parts
wrote_fits q r form room = record { good = refl; formed = sym form; room = omega (arith, wrote_sized r, room) }

init_fits : (q : Request) (r : InitOut) → request_form q ≡ forms.Init → 80 ≤ wanted_room q → Fits q (gives.Init r)
unfolding is_reply form_of reply_parts
init_fits q r form room = record { good = refl; formed = sym form; room = omega (arith, init_sized r, room) }

bytes_fits : (q : Request) (bytes : List ℕ) (size : ℕ) → request_form q ≡ forms.Bytes → 16 + size ≤ wanted_room q → size ≤ max_transfer → length bytes ≤ size → Fits q (gives.Bytes bytes)
unfolding is_reply form_of reply_parts
bytes_fits q bytes size form room most within = record { good = le-leb (length bytes) max_transfer (omega (arith, most, within)); formed = sym form; room = omega (arith, room, within) }

-- ---- the parts of an outcome

ok : (q : Request) (w : World) (reply : Reply) → Fits q reply → Replies q (Ok reply, w)
ok q w reply h = record { all = h }

error : (q : Request) (w : World) (e : Errno) → Replies q (Err e, w)
error q w e = record { all = tt }

either : (q : Request) (b : Bool) (x y : Outcome) → Replies q x → Replies q y → Replies q (if b then x else y)
either q true x y h k = h
either q false x y h k = k

either_by : (q : Request) (b : Bool) (x y : Outcome) → Replies q x → (b ≡ false → Replies q y) → Replies q (if b then x else y)
either_by q true x y h k = h
either_by q false x y h k = k refl

refuse_ok : (q : Request) (bad : Bool) (e : Errno) (w : World) (rest : Outcome) → Replies q rest → Replies q (refuse bad e w rest)
refuse_ok q bad e w rest h = either q bad (Err e, w) rest (error q w e) h

refuse_by : (q : Request) (bad : Bool) (e : Errno) (w : World) (rest : Outcome) → (bad ≡ false → Replies q rest) → Replies q (refuse bad e w rest)
refuse_by q bad e w rest h = either_by q bad (Err e, w) rest (error q w e) h

applies_ok : (q : Request) (w : World) (node : ℕ) (op : Op) (reply : Answer → Reply) → Fits q (reply (file_answer (file_at w.files (node - 2)) op).answer) → Replies q (applies w node op reply)
applies_ok q w node op reply h =
    either q (may_apply w.files (node - 2) op) (Ok (reply (file_answer (file_at w.files (node - 2)) op).answer), record w { files = applied w.files (node - 2) op }) (Err errnos.EBUSY, w) (record { all = h }) (record { all = tt })

attr_ok : (q : Request) (w : World) (node : ℕ) → ((r : AttrOut) → Fits q (gives.Attr r)) → Replies q (attr_of w node)
attr_ok q w node h = search (either, applies_ok, ok, h)

-- ---- each request

bytes_reply_fits : (q : Request) (f : List ℕ) (offset size : ℕ) → request_form q ≡ forms.Bytes → 16 + size ≤ wanted_room q → size ≤ max_transfer → Fits q (bytes_reply (answer f (ops.Read offset size)))
unfolding bytes_reply answer
bytes_reply_fits q f offset size form room most = bytes_fits q (take size (drop offset f)) size form room most (omega (arith, length-take size (drop offset f)))

read_ok : (q : Request) (w : World) (node offset size : ℕ) → request_form q ≡ forms.Bytes → 16 + size ≤ wanted_room q → nat_lt max_transfer size ≡ false → Replies q (applies w node (ops.Read offset size) bytes_reply)
unfolding file_answer
read_ok q w node offset size form room most = applies_ok q w node (ops.Read offset size) bytes_reply (bytes_reply_fits q (bytes_now (file_at w.files (node - 2))) offset size form room (ltb-false _ _ most))

listed_fits : (q : Request) (s : State) (offset size : ℕ) → request_form q ≡ forms.Bytes → 16 + size ≤ wanted_room q → nat_lt max_transfer size ≡ false → Fits q (gives.Bytes (listed s offset size))
listed_fits q s offset size form room most =
    bytes_fits q (listed s offset size) size form room (ltb-false _ _ most) (omega (arith, clean_dirents_len (fitting size (drop offset (entries s))), fitting_within size (drop offset (entries s))))

created_ok : (q : Request) (i : Option ℕ) (exclusive : Bool) (w : World) (name : List ℕ) → ((r : EntryOut) (s : OpenOut) → Fits q (gives.Created r s)) → Replies q (created i exclusive w name)
created_ok q (Some i) exclusive w name h = search (refuse_ok, ok, h)
created_ok q None exclusive w name h = search (refuse_ok, ok, h)

found_ok : (q : Request) (i : Option ℕ) (w : World) → ((r : EntryOut) → Fits q (gives.Entry r)) → Replies q (found i w)
found_ok q (Some i) w h = search (ok, h)
found_ok q None w h = error q w errnos.ENOENT

unlinked_ok : (q : Request) (i : Option ℕ) (w : World) → Fits q gives.Done → Replies q (unlinked i w)
unlinked_ok q (Some i) w h = search (ok, h)
unlinked_ok q None w h = error q w errnos.ENOENT

resizes_ok : (q : Request) (w : World) (node size : ℕ) → ((r : AttrOut) → Fits q (gives.Attr r)) → Replies q (resizes w node size)
resizes_ok q w node size h = search (refuse_ok, applies_ok, h)

on_file_ok : (q : Request) (w : World) (node : ℕ) (rest : Outcome) → Replies q rest → Replies q (on_file w node rest)
on_file_ok q w node rest h = refuse_ok q (not (is_known w.state node)) errnos.ENOENT w (refuse (node == 1) errnos.EISDIR w rest) (refuse_ok q (node == 1) errnos.EISDIR w rest h)

on_dir_ok : (q : Request) (w : World) (node : ℕ) (rest : Outcome) → Replies q rest → Replies q (on_dir w node rest)
on_dir_ok q w node rest h = refuse_ok q (not (is_known w.state node)) errnos.ENOENT w (refuse (not (node == 1)) errnos.ENOTDIR w rest) (refuse_ok q (not (node == 1)) errnos.ENOTDIR w rest h)

write_ok : (w : World) (node : ℕ) (r : WriteIn) (bytes : List ℕ) → Replies (asks.Write r bytes) (write w node r bytes)
unfolding write kind_of reply_form answered form_room
write_ok w node r bytes =
    let q = asks.Write r bytes in
    let reply : Reply = gives.Wrote (record { size = r.size }) in
    let all : Outcome = applies w node (ops.Write r.offset bytes) (λ _. reply) in
    let some : Outcome = refuse (is_past r.offset r.size) errnos.EFBIG w all in
    on_file_ok q w node (on_handle w r.fh node some) (
    refuse_ok q (not (is_handle w.state r.fh node)) errnos.EBADF w some (
    refuse_ok q (is_past r.offset r.size) errnos.EFBIG w all (
    applies_ok q w node (ops.Write r.offset bytes) (λ _. reply) (wrote_fits q (record { size = r.size }) refl (omega arith)))))

read_dir_ok : (w : World) (node : ℕ) (r : ReadIn) → Replies (asks.ReadDir r) (read_dir w node r)
unfolding read_dir kind_of reply_form answered form_room asked
read_dir_ok w node r =
    let q = asks.ReadDir r in
    let all : Outcome = (Ok (gives.Bytes (listed w.state r.offset r.size)), w) in
    let some : Outcome = refuse (nat_lt max_transfer r.size) errnos.EINVAL w all in
    on_dir_ok q w node (on_handle w r.fh node some) (
    refuse_ok q (not (is_handle w.state r.fh node)) errnos.EBADF w some (
    refuse_by q (nat_lt max_transfer r.size) errnos.EINVAL w all (λ most.
    ok q w (gives.Bytes (listed w.state r.offset r.size)) (listed_fits q w.state r.offset r.size refl (omega arith) most))))

setup_ok : (w : World) (node : ℕ) (r : SetupIn) → Replies (asks.Setup r) (setup w node r)
unfolding setup kind_of reply_form answered form_room
setup_ok w node r =
    let q = asks.Setup r in
    let after : World = record w { map = painted w.map (span_of node r) } in
    let all : Outcome = refuse (not ((grants w).may_set (span_of node r))) errnos.EBUSY w (done after) in
    let whole : Outcome = refuse (is_bad_setup w.state.pages r) errnos.EINVAL w all in
    let some : Outcome = refuse (is_past r.foffset r.len) errnos.EFBIG w whole in
    let named : Bool = not (r.fh == 2 ^ 64 - 1) in
    on_file_ok q w node (on_handle_if named w r.fh node some) (
    refuse_ok q (named && not (is_handle w.state r.fh node)) errnos.EBADF w some (
    refuse_ok q (is_past r.foffset r.len) errnos.EFBIG w whole (
    refuse_ok q (is_bad_setup w.state.pages r) errnos.EINVAL w all (
    refuse_ok q (not ((grants w).may_set (span_of node r))) errnos.EBUSY w (done after) (
    ok q after gives.Done (done_fits q refl (omega arith)))))))

-- every request's outcome
answered_ok : (w : World) (node : ℕ) (q : Request) → Replies q (requests.answered w node q)
unfolding requests.answered getattr setattr open_file open_dir release release_dir sync fallocate read write lookup unlink create forget batch_forget read_dir setup remove init destroy kind_of reply_form answered form_room asked
answered_ok w node (asks.Lookup name) = let h = λ (r : EntryOut). entry_fits (asks.Lookup name) r refl (omega arith) in search (refuse_ok, found_ok, h)
answered_ok w node (asks.Forget n) = let h = done_fits (asks.Forget n) refl (omega arith) in search (ok, h)
answered_ok w node (asks.Getattr r) = let h = λ (a : AttrOut). attr_fits (asks.Getattr r) a refl (omega arith) in search (refuse_ok, attr_ok, h)
answered_ok w node (asks.Setattr r) = let h = λ (a : AttrOut). attr_fits (asks.Setattr r) a refl (omega arith) in search (refuse_ok, either, attr_ok, resizes_ok, h)
answered_ok w node (asks.Unlink name) = let h = done_fits (asks.Unlink name) refl (omega arith) in search (refuse_ok, unlinked_ok, h)
answered_ok w node (asks.OpenFile r) = let h = λ (o : OpenOut). opened_fits (asks.OpenFile r) o refl (omega arith) in search (refuse_ok, ok, h)
answered_ok w node (asks.Read r) = let h = read_ok (asks.Read r) w node r.offset r.size refl (omega arith) in search (refuse_ok, refuse_by, h)
answered_ok w node (asks.Write r bytes) = write_ok w node r bytes
answered_ok w node (asks.Release r) = let h = done_fits (asks.Release r) refl (omega arith) in search (refuse_ok, ok, h)
answered_ok w node (asks.Fsync r) = let h = done_fits (asks.Fsync r) refl (omega arith) in search (refuse_ok, ok, h)
answered_ok w node (asks.Flush r) = let h = done_fits (asks.Flush r) refl (omega arith) in search (refuse_ok, ok, h)
answered_ok w node (asks.Init r) = let h = λ (o : InitOut). init_fits (asks.Init r) o refl (omega arith) in search (refuse_ok, ok, h)
answered_ok w node (asks.OpenDir r) = let h = λ (o : OpenOut). opened_fits (asks.OpenDir r) o refl (omega arith) in search (refuse_ok, ok, h)
answered_ok w node (asks.ReadDir r) = read_dir_ok w node r
answered_ok w node (asks.ReleaseDir r) = let h = done_fits (asks.ReleaseDir r) refl (omega arith) in search (refuse_ok, ok, h)
answered_ok w node (asks.Create r name) = let h = λ (e : EntryOut) (o : OpenOut). created_fits (asks.Create r name) e o refl (omega arith) in search (refuse_ok, created_ok, h)
answered_ok w node asks.Destroy = let h = done_fits asks.Destroy refl (omega arith) in search (ok, h)
answered_ok w node (asks.BatchForget ones) = let h = done_fits (asks.BatchForget ones) refl (omega arith) in search (ok, h)
answered_ok w node (asks.Fallocate r) = search (refuse_ok, error)
answered_ok w node (asks.Setup r) = setup_ok w node r
answered_ok w node (asks.Remove ones) = let h = done_fits (asks.Remove ones) refl (omega arith) in search (refuse_ok, ok, h)

forget_fits : (q : Request) → is_forget q ≡ true → Fits q gives.Done
unfolding is_forget kind_of reply_form answered form_room
forget_fits (asks.Forget n) h = done_fits (asks.Forget n) refl (omega arith)
forget_fits (asks.BatchForget ones) h = done_fits (asks.BatchForget ones) refl (omega arith)
forget_fits (asks.Lookup name) h = absurd cc
forget_fits (asks.Getattr r) h = absurd cc
forget_fits (asks.Setattr r) h = absurd cc
forget_fits (asks.Unlink name) h = absurd cc
forget_fits (asks.OpenFile r) h = absurd cc
forget_fits (asks.Read r) h = absurd cc
forget_fits (asks.Write r bytes) h = absurd cc
forget_fits (asks.Release r) h = absurd cc
forget_fits (asks.Fsync r) h = absurd cc
forget_fits (asks.Flush r) h = absurd cc
forget_fits (asks.Init r) h = absurd cc
forget_fits (asks.OpenDir r) h = absurd cc
forget_fits (asks.ReadDir r) h = absurd cc
forget_fits (asks.ReleaseDir r) h = absurd cc
forget_fits (asks.Create r name) h = absurd cc
forget_fits asks.Destroy h = absurd cc
forget_fits (asks.Fallocate r) h = absurd cc
forget_fits (asks.Setup r) h = absurd cc
forget_fits (asks.Remove ones) h = absurd cc

either_true : (q : Request) (b : Bool) (x y : Outcome) → (b ≡ true → Replies q x) → Replies q y → Replies q (if b then x else y)
either_true q true x y h k = h refl
either_true q false x y h k = k

pub served_ok : (w : World) (m : Message) → Replies m.body (served w m)
unfolding served
served_ok w m =
    either m.body (w.state.started || is_init m.body) (requests.answered w m.head.nodeid m.body) (if is_forget m.body then done w else (Err errnos.EIO, w)) (answered_ok w m.head.nodeid m.body)
    (either_true m.body (is_forget m.body) (done w) (Err errnos.EIO, w) (λ h. ok m.body w gives.Done (forget_fits m.body h)) (error m.body w errnos.EIO))
