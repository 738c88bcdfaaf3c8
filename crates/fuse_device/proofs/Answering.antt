-- What the device answers has room in the chain, and is nothing or is read as a reply to the request.
use Rattle.std.proofs.Common.{◌≡◌, ◌∙◌, ◌^◌, sym, refl, subst, ap, arith, ◌<◌, ◌≤◌, ℕ, eqb, Bool, true, false, not, List, [], length, take, Ok, Err, Result, nat_lt, ◌||◌, ◌⊎◌, inl, inr, if◌then◌else◌}
use Rattle.std.specs.Prelude.{pos, IfOk, unwrap_or}
use Rattle.std.proofs.lemmas.Bool.{eq-eqb, ltb-false, le-ltb}
use Rattle.std.proofs.lemmas.List.{length-take, take_at}
use Rattle.plain_file.specs.Limits.{max_part}
use Rattle.fuse_wire.specs.Layout.{AreSpelled, FitsParts}
use Rattle.fuse_wire.specs.Errno.{errno_number}
use Rattle.fuse_wire.specs.Records.{in_header, in_header_of, in_header_at}
use Rattle.fuse_wire.specs.declared.errno.Errno.{Errno}
use Rattle.fuse_wire.specs.declared.errno.Errno.TheVariants as errnos
use Rattle.fuse_wire.specs.declared.records.InHeader.{InHeader}
use Rattle.fuse_wire.proofs.Laws.{IsBytes, IsBytes-take, spelled_fits}
use Rattle.fuse_wire.proofs.RecordLaws.{cond_some, in_header_law}
use Rattle.fuse_codec.specs.Grammar.{kind_of, header_of, asked, Spells}
use Rattle.fuse_codec.specs.Opcodes.{reply_form}
use Rattle.fuse_codec.specs.Reading.{message_of}
use Rattle.fuse_codec.specs.Replies.{form_of, reply_parts, is_reply, HasForm, reply_len, answer_form}
use Rattle.fuse_codec.specs.declared.errors.BadRequest.{BadRequest}
use Rattle.fuse_codec.specs.declared.messages.Message.{Message}
use Rattle.fuse_codec.specs.declared.messages.Request.{Request}
use Rattle.fuse_codec.specs.declared.opcodes.ReplyForm.{ReplyForm}
use Rattle.fuse_codec.specs.declared.opcodes.ReplyForm.TheVariants as forms
use Rattle.fuse_codec.specs.declared.replies.Reply.{Reply}
use Rattle.fuse_codec.specs.declared.replies.Reply.TheVariants as gives
use Rattle.fuse_codec.proofs.CleanReading.{ReadsTo, length-clean_reply, clean_reply_read}
use Rattle.fuse_codec.proofs.RequestLaws.{message_found, message_again, opcode_again}
use Rattle.fuse_device.specs.State.{World}
use Rattle.fuse_device.specs.Checks.{Outcome, refuse}
use Rattle.fuse_device.specs.Requests.{is_init, is_forget, served}
use Rattle.fuse_device.specs.DataSteps.{is_data, data_judged_message, data_judged, data_step}
use Rattle.fuse_device.specs.Steps.{Step, wanted_room, reply_to, errno_of, judged_message, judged, replied, header_at, is_forget_number, forgot, device_step}
use Rattle.fuse_device.proofs.OpenHandles.{header_at-spelled, length-spelled, forget_number, least_room}
use Rattle.fuse_device.proofs.Receiving.{form_again}
use Rattle.fuse_device.proofs.Replying.{request_form, Replies, served_ok}

-- ---- the request's form

-- the form as which an answer to readable bytes is read; what no operation has, and what has no reply, is answered by a header alone
abbrev pub read_form : List ℕ → ReplyForm
read_form readable = unwrap_or (answer_form (header_at readable).opcode) forms.Done

-- what operation a request is of, its header's number tells
form_known : (readable : List ℕ) (m : Message) → IsBytes readable → length readable ≤ max_part → message_of readable ≡ Ok m → request_form m.body ≡ read_form readable
unfolding answer_form in_header_of
form_known readable m fits within e =
    let s = message_found readable m fits within e in
    let h = header_of (length readable) m in
    let len : length s.header ≡ 40 = in_header_law.len h s.header s.header_spelled in
    let front : take 40 readable ≡ s.header = ap (take 40) s.whole ∙ take_at s.header s.body 40 len in
    let read = cond_some (eqb (length s.header) 40) (in_header_at s.header) h (in_header_law.again h s.header s.header_spelled) in
    let is : header_at readable ≡ h = ap in_header_at front ∙ read.1 in
    sym (ap (λ (x : InHeader). unwrap_or (answer_form x.opcode) forms.Done) is ∙ rw (opcode_again (kind_of m.body)) refl)

-- ---- one step

has_sixteen : (e : Errno) → is_reply (gives.Error (pos (errno_number e))) ≡ true
unfolding is_reply errno_number
has_sixteen errnos.ENOENT = refl
has_sixteen errnos.EIO = refl
has_sixteen errnos.EBADF = refl
has_sixteen errnos.EBUSY = refl
has_sixteen errnos.EEXIST = refl
has_sixteen errnos.ENOTDIR = refl
has_sixteen errnos.EISDIR = refl
has_sixteen errnos.EINVAL = refl
has_sixteen errnos.EMFILE = refl
has_sixteen errnos.EFBIG = refl
has_sixteen errnos.ENOSPC = refl
has_sixteen errnos.ENOSYS = refl
has_sixteen errnos.EPROTO = refl
has_sixteen errnos.EOPNOTSUPP = refl

-- a reply of a form, within this room
record IsReplyTo (form : ReplyForm) (room : ℕ) (reply : Reply) : Type 0 where
  pub good : is_reply reply ≡ true
  pub formed : HasForm form reply
  pub fits : reply_len reply ≤ room

refused_to : (form : ReplyForm) (room : ℕ) (e : Errno) → 16 ≤ room → IsReplyTo form room (reply_to (Err e))
unfolding reply_to form_of reply_parts
refused_to form room e roomy = record { good = has_sixteen e; formed = tt; fits = roomy }

outcome_to : (form : ReplyForm) (room : ℕ) (q : Request) (o : Outcome) → 16 ≤ room → request_form q ≡ form → wanted_room q ≤ room → Replies q o → IsReplyTo form room (reply_to o.0)
unfolding reply_to
outcome_to form room q (Ok reply, w) roomy is wants h = record { good = h.all.good; formed = subst (λ (f : ReplyForm). HasForm f reply) is h.all.formed; fits = omega (arith, h.all.room, wants) }
outcome_to form room q (Err e, w) roomy is wants h = refused_to form room e roomy

either_to : (form : ReplyForm) (room : ℕ) (bad : Bool) (e : Errno) (w : World) (rest : Outcome) → 16 ≤ room → (bad ≡ false → IsReplyTo form room (reply_to rest.0)) → IsReplyTo form room (reply_to (refuse bad e w rest).0)
either_to form room true e w rest roomy h = refused_to form room e roomy
either_to form room false e w rest roomy h = h refl

judged_to : (form : ReplyForm) (w : World) (room : ℕ) (d : Result Message BadRequest) → 16 ≤ room → IfOk d (λ m. request_form m.body ≡ form) → IsReplyTo form room (reply_to (judged w room d).0)
unfolding judged_message
judged_to form w room (Err bad) roomy is = refused_to form room (errno_of bad) roomy
judged_to form w room (Ok m) roomy is =
    let small : Outcome = refuse (nat_lt room (wanted_room m.body)) errnos.EINVAL w (served w m) in
    either_to form room (not (w.state.started || is_init m.body)) errnos.EIO w small roomy (λ started.
    either_to form room (nat_lt room (wanted_room m.body)) errnos.EINVAL w (served w m) roomy (λ enough.
    outcome_to form room m.body (served w m) roomy is (ltb-false _ _ enough) (served_ok w m)))

-- the same where the device stays as it is
data_judged_to : (form : ReplyForm) (w : World) (room : ℕ) (d : Result Message BadRequest) → 16 ≤ room → IfOk d (λ m. request_form m.body ≡ form) → IsReplyTo form room (reply_to (data_judged w room d).0)
unfolding data_judged_message
data_judged_to form w room (Err bad) roomy is = refused_to form room (errno_of bad) roomy
data_judged_to form w room (Ok m) roomy is = either_to form room (not (is_data m.body)) errnos.ENOSYS w (judged_message w room m) roomy (λ _. judged_to form w room (Ok m) roomy is)

-- ---- how long an answer is

judged_fits : (w : World) (room : ℕ) (d : Result Message BadRequest) → 16 ≤ room → reply_len (reply_to (judged w room d).0) ≤ room
judged_fits w room (Err bad) roomy = (judged_to forms.Done w room (Err bad) roomy tt).fits
judged_fits w room (Ok m) roomy = (judged_to (request_form m.body) w room (Ok m) roomy refl).fits

data_judged_fits : (w : World) (room : ℕ) (d : Result Message BadRequest) → 16 ≤ room → reply_len (reply_to (data_judged w room d).0) ≤ room
data_judged_fits w room (Err bad) roomy = (data_judged_to forms.Done w room (Err bad) roomy tt).fits
data_judged_fits w room (Ok m) roomy = (data_judged_to (request_form m.body) w room (Ok m) roomy refl).fits

replied_fits : (unique room : ℕ) (o : Outcome) → reply_len (reply_to o.0) ≤ room → length (replied unique o).1 ≤ room
replied_fits unique room o h = omega (arith, length-clean_reply unique (reply_to o.0), h)

if_fits : (room : ℕ) (b : Bool) (x y : Step) → length x.1 ≤ room → (b ≡ false → length y.1 ≤ room) → length (if b then x else y).1 ≤ room
if_fits room true x y h k = h
if_fits room false x y h k = k refl

-- an answer has at most as many bytes as it was given room for
pub device_step_fits : (w : World) (readable : List ℕ) (room : ℕ) → length (device_step w readable room).1 ≤ room
unfolding device_step
device_step_fits w readable room =
    let none : Step = (w, []) in
    let forget : Step = (forgot w (message_of readable), []) in
    let reply : Step = replied (header_at readable).unique (judged w room (message_of readable)) in
    let roomy : Step = if nat_lt room 16 then none else reply in
    let long : Step = if is_forget_number (header_at readable).opcode then forget else roomy in
    let zero_fits : 0 ≤ room = omega arith in
    if_fits room (nat_lt (length readable) 40) none long zero_fits (λ _.
    if_fits room (is_forget_number (header_at readable).opcode) forget roomy zero_fits (λ _.
    if_fits room (nat_lt room 16) none reply zero_fits (λ r. replied_fits (header_at readable).unique room (judged w room (message_of readable)) (judged_fits w room (message_of readable) (ltb-false _ _ r)))))

-- the same where the device stays as it is
pub data_step_fits : (w : World) (readable : List ℕ) (room : ℕ) → length (data_step w readable room).1 ≤ room
unfolding data_step
data_step_fits w readable room =
    let none : Step = (w, []) in
    let reply : Step = replied (header_at readable).unique (data_judged w room (message_of readable)) in
    let roomy : Step = if nat_lt room 16 then none else reply in
    let long : Step = if is_forget_number (header_at readable).opcode then none else roomy in
    let zero_fits : 0 ≤ room = omega arith in
    if_fits room (nat_lt (length readable) 40) none long zero_fits (λ _.
    if_fits room (is_forget_number (header_at readable).opcode) none roomy zero_fits (λ _.
    if_fits room (nat_lt room 16) none reply zero_fits (λ r. replied_fits (header_at readable).unique room (data_judged w room (message_of readable)) (data_judged_fits w room (message_of readable) (ltb-false _ _ r)))))

-- ---- what an answer is

ok_forms : (form : ReplyForm) (d : Result Message BadRequest) → ((m : Message) → d ≡ Ok m → request_form m.body ≡ form) → IfOk d (λ m. request_form m.body ≡ form)
ok_forms form (Ok m) h = h m refl
ok_forms form (Err bad) h = tt

unique_within : (readable : List ℕ) → IsBytes readable → 40 ≤ length readable → (header_at readable).unique < 2 ^ 64
unfolding FitsParts in_header in_header_of
unique_within readable fits long =
    let front : length (take 40 readable) ≡ 40 = omega (arith, length-take 40 readable, long) in
    let h = header_at readable in
    let spelled : AreSpelled (in_header h) (take 40 readable) = in_header_law.found (take 40 readable) h (IsBytes-take 40 readable fits) (rw (eq-eqb (length (take 40 readable)) 40 front) refl) in
    (spelled_fits (in_header h) (take 40 readable) spelled).1.1.0

-- no bytes, or a reply to the request whose header is at the front of the readable bytes
abbrev pub AnswersTo : List ℕ → List ℕ → Type 0
AnswersTo readable answer = (answer ≡ []) ⊎ ((40 ≤ length readable) × ReadsTo (read_form readable) (header_at readable).unique answer)

replied_reads : (w : World) (readable : List ℕ) (room : ℕ) → IsBytes readable → length readable ≤ max_part → 40 ≤ length readable → 16 ≤ room
    → AnswersTo readable (replied (header_at readable).unique (judged w room (message_of readable))).1
replied_reads w readable room fits within long roomy =
    let form = read_form readable in
    let unique = (header_at readable).unique in
    let reply = reply_to (judged w room (message_of readable)).0 in
    let h = judged_to form w room (message_of readable) roomy (ok_forms form (message_of readable) (λ m e. form_known readable m fits within e)) in
    inr (long, clean_reply_read form unique reply (unique_within readable fits long) h.good h.formed)

if_reads : (readable : List ℕ) (b : Bool) (x y : Step) → AnswersTo readable x.1 → (b ≡ false → AnswersTo readable y.1) → AnswersTo readable (if b then x else y).1
if_reads readable true x y h k = h
if_reads readable false x y h k = k refl

-- an answer is read as a reply to the request
pub device_step_replies : (w : World) (readable : List ℕ) (room : ℕ) → IsBytes readable → length readable ≤ max_part → AnswersTo readable (device_step w readable room).1
unfolding device_step
device_step_replies w readable room fits within =
    let none : Step = (w, []) in
    let forget : Step = (forgot w (message_of readable), []) in
    let reply : Step = replied (header_at readable).unique (judged w room (message_of readable)) in
    let roomy : Step = if nat_lt room 16 then none else reply in
    let long : Step = if is_forget_number (header_at readable).opcode then forget else roomy in
    if_reads readable (nat_lt (length readable) 40) none long (inl refl) (λ l.
    if_reads readable (is_forget_number (header_at readable).opcode) forget roomy (inl refl) (λ f.
    if_reads readable (nat_lt room 16) none reply (inl refl) (λ r.
    replied_reads w readable room fits within (ltb-false _ _ l) (ltb-false _ _ r))))

-- ---- an answer to a spelled request, with room for its reply

-- its header is long enough, has its number and no forget's, and there is room for a reply's header
record HasFront (m : Message) (readable : List ℕ) (room : ℕ) : Type 0 where
  pub long : nat_lt (length readable) 40 ≡ false
  pub forget : is_forget_number (header_at readable).opcode ≡ false
  pub some : nat_lt room 16 ≡ false
  pub roomy : 16 ≤ room
  pub read : message_of readable ≡ Ok m
  pub unique : (header_at readable).unique ≡ m.head.unique
  pub own : request_form m.body ≡ reply_form (kind_of m.body)

has_front : (m : Message) (readable : List ℕ) (room : ℕ) → Spells m readable → is_forget m.body ≡ false → wanted_room m.body ≤ room → HasFront m readable room
has_front m readable room s has_reply fits =
    let roomy : 16 ≤ room = omega (arith, fits, least_room (reply_form (kind_of m.body)) (asked m.body)) in
    let head = header_at-spelled m readable s in
    record {
      long = le-ltb _ _ (length-spelled m readable s);
      forget = ap (λ (h : InHeader). is_forget_number h.opcode) head ∙ forget_number m.body ∙ has_reply;
      some = le-ltb _ _ roomy;
      roomy = roomy;
      read = message_again m readable s;
      unique = ap (λ (h : InHeader). h.unique) head;
      own = rw (form_again m.body has_reply) refl;
    }

-- it is read as a reply to the request
pub device_step_answers : (w : World) (m : Message) (readable : List ℕ) (room : ℕ) → Spells m readable → is_forget m.body ≡ false → wanted_room m.body ≤ room → m.head.unique < 2 ^ 64
    → ReadsTo (reply_form (kind_of m.body)) m.head.unique (device_step w readable room).1
unfolding device_step
device_step_answers w m readable room s has_reply fits narrow =
    let f = has_front m readable room s has_reply fits in
    let h = judged_to (reply_form (kind_of m.body)) w room (Ok m) f.roomy f.own in
    rw (f.long, f.forget, f.some, f.read, f.unique) (clean_reply_read (reply_form (kind_of m.body)) m.head.unique (reply_to (judged w room (Ok m)).0) narrow h.good h.formed)

-- the same where the device stays as it is
pub data_step_answers : (w : World) (m : Message) (readable : List ℕ) (room : ℕ) → Spells m readable → is_forget m.body ≡ false → wanted_room m.body ≤ room → m.head.unique < 2 ^ 64
    → ReadsTo (reply_form (kind_of m.body)) m.head.unique (data_step w readable room).1
unfolding data_step
data_step_answers w m readable room s has_reply fits narrow =
    let f = has_front m readable room s has_reply fits in
    let h = data_judged_to (reply_form (kind_of m.body)) w room (Ok m) f.roomy f.own in
    rw (f.long, f.forget, f.some, f.read, f.unique) (clean_reply_read (reply_form (kind_of m.body)) m.head.unique (reply_to (data_judged w room (Ok m)).0) narrow h.good h.formed)
