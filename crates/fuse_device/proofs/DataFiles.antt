-- What the device that stays as it is makes of its boards: one operation on the file that a chain names, if any.
use Rattle.std.proofs.Common.{◌≡◌, ◌⊎◌, ◌∙◌, sym, ap, refl, ℕ, ◌-◌, ◌==◌, Bool, true, false, true≢false, not, nat_lt, List, [], length, Option, Some, None, Result, Ok, Err, inl, inr, if◌then◌else◌}
use Rattle.std.proofs.lemmas.Bool.{cases_Bool}
use Rattle.fuse_codec.specs.Reading.{message_of}
use Rattle.fuse_codec.specs.declared.errors.BadRequest.{BadRequest}
use Rattle.fuse_codec.specs.declared.messages.Message.{Message}
use Rattle.fuse_codec.specs.declared.messages.Request.{Request}
use Rattle.fuse_codec.specs.declared.messages.Request.TheVariants as asks
use Rattle.fuse_codec.specs.declared.replies.Reply.{Reply}
use Rattle.fuse_wire.specs.declared.errno.Errno.{Errno}
use Rattle.fuse_wire.specs.declared.errno.Errno.TheVariants.{EBUSY, EINVAL, ENOSYS}
use Rattle.page_map.specs.Board.{MapView}
use Rattle.plain_file.specs.Board.{BoardView, file_at, file_answer, may_apply, applied}
use Rattle.plain_file.specs.declared.operations.Answer.{Answer}
use Rattle.plain_file.specs.declared.operations.Op.{Op}
use Rattle.fuse_device.specs.State.{State, World}
use Rattle.fuse_device.specs.Checks.{Outcome, is_known, refuse}
use Rattle.fuse_device.specs.Requests.{done, applies, attr_of, resizes, getattr, setattr, sync, read, write, setup, remove, answered, served}
use Rattle.fuse_device.specs.Steps.{Step, is_forget_number, header_at, judged_message, replied, device_step}
use Rattle.fuse_device.specs.DataSteps.{is_data, is_on_file, file_of, file_in, named_file, data_judged_message, data_judged, data_step}
use Rattle.fuse_device.proofs.DataLaws.{data_step-device_step}

-- the file that is named has one operation more
pub record OnFile (old : BoardView) (named : Option ℕ) (new : BoardView) : Type 0 where
  pub file : ℕ
  pub op : Op
  pub is : named ≡ Some file
  pub after : new ≡ applied old file op

-- ---- one request

-- the files after an outcome, where a file is named
record Files (w : World) (named : Option ℕ) (o : Outcome) : Type 0 where
  after : (o.1.files ≡ w.files) ⊎ OnFile w.files named o.1.files

same_files : (w : World) (named : Option ℕ) (r : Result Reply Errno) → Files w named (r, w)
same_files w named r = record { after = inl refl }

if_files : (w : World) (named : Option ℕ) (b : Bool) (x y : Outcome) → (b ≡ true → Files w named x) → (b ≡ false → Files w named y) → Files w named (if b then x else y)
if_files w named true x y h k = h refl
if_files w named false x y h k = k refl

refuse_files : (w : World) (named : Option ℕ) (bad : Bool) (e : Errno) (rest : Outcome) → (bad ≡ false → Files w named rest) → Files w named (refuse bad e w rest)
refuse_files w named bad e rest k = if_files w named bad (Err e, w) rest (λ _. same_files w named (Err e)) k

not_false : (b : Bool) → not b ≡ false → b ≡ true
not_false true h = refl
not_false false h = absurd (true≢false h)

-- the file of a node that is known, and no directory
is_of : (s : State) (node : ℕ) → not (is_known s node) ≡ false → (node == 1) ≡ false → file_of s node ≡ Some (node - 2)
is_of s node known other = rw (other, not_false (is_known s node) known) refl

applies_files : (w : World) (node : ℕ) (op : Op) (reply : Answer → Reply) → not (is_known w.state node) ≡ false → (node == 1) ≡ false → Files w (file_of w.state node) (applies w node op reply)
applies_files w node op reply known other =
    let is = is_of w.state node known other in
    if_files w (file_of w.state node) (may_apply w.files (node - 2) op) (Ok (reply (file_answer (file_at w.files (node - 2)) op).answer), record w { files = applied w.files (node - 2) op }) (Err EBUSY, w)
    (λ _. record { after = inr (record { file = node - 2; op = op; is = is; after = refl }) })
    (λ _. same_files w (file_of w.state node) (Err EBUSY))

attr_files : (w : World) (node : ℕ) → not (is_known w.state node) ≡ false → Files w (file_of w.state node) (attr_of w node)
attr_files w node known = search (if_files, applies_files, same_files, known)

resizes_files : (w : World) (node size : ℕ) → not (is_known w.state node) ≡ false → Files w (file_of w.state node) (resizes w node size)
resizes_files w node size known = search (refuse_files, applies_files, known)

-- the file that a request names, by its node
abbrev named_by : World → ℕ → Request → Option ℕ
named_by w node q = if is_on_file q then file_of w.state node else None

no_file_files : (w : World) (named : Option ℕ) (r : Result Reply Errno) (map : MapView) → Files w named (r, record w { map = map })
no_file_files w named r map = record { after = inl refl }

maps_files : (w : World) (named : Option ℕ) (bad may : Bool) (map : MapView) → Files w named (refuse bad EINVAL w (refuse may EBUSY w (done (record w { map = map }))))
maps_files w named bad may map = search (refuse_files, no_file_files)

answered_files : (w : World) (node : ℕ) (q : Request) → is_data q ≡ true → Files w (named_by w node q) (answered w node q)
unfolding answered is_data is_on_file getattr setattr sync read write setup remove
answered_files w node (asks.Getattr r) h = search (refuse_files, attr_files)
answered_files w node (asks.Setattr r) h = search (refuse_files, if_files, attr_files, resizes_files)
answered_files w node (asks.Read r) h = search (refuse_files, applies_files)
answered_files w node (asks.Write r bytes) h = search (refuse_files, applies_files)
answered_files w node (asks.Fsync r) h = search (refuse_files, same_files)
answered_files w node (asks.Flush r) h = search (refuse_files, same_files)
answered_files w node (asks.Setup r) h = search (refuse_files, maps_files)
answered_files w node (asks.Remove ones) h = search (refuse_files, no_file_files)
answered_files w node (asks.Lookup name) h = absurd (true≢false (sym h))
answered_files w node (asks.Forget n) h = absurd (true≢false (sym h))
answered_files w node (asks.Unlink name) h = absurd (true≢false (sym h))
answered_files w node (asks.OpenFile r) h = absurd (true≢false (sym h))
answered_files w node (asks.Release r) h = absurd (true≢false (sym h))
answered_files w node (asks.Init r) h = absurd (true≢false (sym h))
answered_files w node (asks.OpenDir r) h = absurd (true≢false (sym h))
answered_files w node (asks.ReadDir r) h = absurd (true≢false (sym h))
answered_files w node (asks.ReleaseDir r) h = absurd (true≢false (sym h))
answered_files w node (asks.Create r name) h = absurd (true≢false (sym h))
answered_files w node asks.Destroy h = absurd (true≢false (sym h))
answered_files w node (asks.BatchForget ones) h = absurd (true≢false (sym h))
answered_files w node (asks.Fallocate r) h = absurd (true≢false (sym h))

served_files : (w : World) (m : Message) → is_data m.body ≡ true → Files w (named_by w m.head.nodeid m.body) (served w m)
unfolding served
served_files w m h =
    let answers = answered_files w m.head.nodeid m.body h in
    search (if_files, same_files, answers)

judged_files : (w : World) (room : ℕ) (d : Result Message BadRequest) → Files w (file_in w.state d) (data_judged w room d)
unfolding judged_message data_judged_message
judged_files w room (Err bad) = record { after = inl refl }
judged_files w room (Ok m) = refuse_files w (named_by w m.head.nodeid m.body) (not (is_data m.body)) ENOSYS (judged_message w room m) (λ h.
    let served : Files w (named_by w m.head.nodeid m.body) (served w m) = served_files w m (not_false (is_data m.body) h) in
    search (refuse_files, served))

-- ---- one step

step_files : (old : BoardView) (named : Option ℕ) (b : Bool) (x y : Step) → (x.0.files ≡ old) → ((y.0.files ≡ old) ⊎ OnFile old named y.0.files)
    → ((if b then x else y).0.files ≡ old) ⊎ OnFile old named (if b then x else y).0.files
step_files old named true x y h k = inl h
step_files old named false x y h k = k

-- the files are as they were, or the file that the chain names has one operation more
pub data_step_files : (w : World) (readable : List ℕ) (room : ℕ) → ((data_step w readable room).0.files ≡ w.files) ⊎ OnFile w.files (named_file w.state readable) (data_step w readable room).0.files
unfolding data_step named_file
data_step_files w readable room =
    let none : Step = (w, []) in
    let reply : Step = replied (header_at readable).unique (data_judged w room (message_of readable)) in
    let roomy : Step = if nat_lt room 16 then none else reply in
    let long : Step = if is_forget_number (header_at readable).opcode then none else roomy in
    let named : Option ℕ = file_in w.state (message_of readable) in
    step_files w.files named (nat_lt (length readable) 40) none long refl (
    step_files w.files named (is_forget_number (header_at readable).opcode) none roomy refl (
    step_files w.files named (nat_lt room 16) none reply refl (judged_files w room (message_of readable)).after))

-- ---- what isn't carried out changes nothing

refused_same : (w : World) (room : ℕ) (d : Result Message BadRequest) → ((m : Message) → d ≡ Ok m → is_data m.body ≡ false) → (data_judged w room d).1 ≡ w
unfolding data_judged_message
refused_same w room (Err bad) h = refl
refused_same w room (Ok m) h = rw (h m refl) refl

same_world : (w : World) (b : Bool) (x y : Step) → x.0 ≡ w → y.0 ≡ w → (if b then x else y).0 ≡ w
same_world w true x y h k = h
same_world w false x y h k = k

data_step_none : (w : World) (readable : List ℕ) (room : ℕ) → ((m : Message) → message_of readable ≡ Ok m → is_data m.body ≡ false) → (data_step w readable room).0 ≡ w
unfolding data_step
data_step_none w readable room h =
    let none : Step = (w, []) in
    let reply : Step = replied (header_at readable).unique (data_judged w room (message_of readable)) in
    let roomy : Step = if nat_lt room 16 then none else reply in
    let long : Step = if is_forget_number (header_at readable).opcode then none else roomy in
    same_world w (nat_lt (length readable) 40) none long refl (
    same_world w (is_forget_number (header_at readable).opcode) none roomy refl (
    same_world w (nat_lt room 16) none reply refl (refused_same w room (message_of readable) h)))

no_message : (d : Result Message BadRequest) (bad : BadRequest) (m : Message) → d ≡ Err bad → d ≡ Ok m → ⊥
no_message d bad m e h = cc

same_message : (d : Result Message BadRequest) (n m : Message) → d ≡ Ok n → d ≡ Ok m → n ≡ m
same_message d n m e h = cc

either_step : (w : World) (readable : List ℕ) (room : ℕ) (d : Result Message BadRequest) → message_of readable ≡ d → ((data_step w readable room).0 ≡ w) ⊎ (data_step w readable room ≡ device_step w readable room)
either_step w readable room (Err bad) e = inl (data_step_none w readable room (λ m is. absurd (no_message (message_of readable) bad m e is)))
either_step w readable room (Ok m) e = elim (cases_Bool (is_data m.body)) [
  | inl carried ↦ inr (data_step-device_step w readable room m e carried)
  | inr other ↦ inl (data_step_none w readable room (λ n is. ap (λ (x : Message). is_data x.body) (same_message (message_of readable) n m is e) ∙ other))
]

-- all is as it was, or as the whole device's step leaves it
pub data_step_either : (w : World) (readable : List ℕ) (room : ℕ) → ((data_step w readable room).0 ≡ w) ⊎ (data_step w readable room ≡ device_step w readable room)
data_step_either w readable room = either_step w readable room (message_of readable) refl
