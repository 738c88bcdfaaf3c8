-- The device that stays as it is: what it carries out is what the whole device does, and what it asks of its boards.
use Rattle.std.proofs.Common.{◌≡◌, ◌≢◌, ◌⊎◌, ◌∙◌, ap, subst, sym, refl, arith, ℕ, ◌-◌, ◌<◌, ◌==◌, cond, Bool, true, false, true≢false, not, ◌&&◌, ◌||◌, ◌*◌, nat_lt, nat_le, List, [], length, drop, take, ◌≤◌, Option, Some, None, option_map, Result, Ok, Err, OnOk, OnErr, inl, inr, if◌then◌else◌}
use Rattle.std.proofs.lemmas.Bool.{cases_Bool, eqb-true, eq-eqb, ne_eqb, lt-ltb, le-ltb, not_from_true, not_from_false}
use Rattle.std.specs.Prelude.{is_some}
use Rattle.std.proofs.lemmas.Grind.{common_steps}
use Rattle.plain_file.specs.Limits.{max_transfer}
use Rattle.fuse_codec.specs.Opcodes.{number, opcode_of}
use Rattle.fuse_codec.specs.Reading.{records_at, name_of, write_with, write_of, create_of, forgets_with, forgets_of, remove_with, remove_of, body_of, forget_of, message_with, message_as, message_after, message_of}
use Rattle.fuse_codec.specs.declared.errors.BadRequest.{BadRequest}
use Rattle.fuse_codec.specs.declared.errors.BadRequest.TheVariants as bad_requests
use Rattle.fuse_codec.specs.declared.messages.Message.{Message}
use Rattle.fuse_codec.specs.declared.messages.Request.{Request}
use Rattle.fuse_codec.specs.declared.messages.Request.TheVariants as asks
use Rattle.fuse_codec.specs.declared.opcodes.Opcode.{Opcode}
use Rattle.fuse_codec.specs.declared.opcodes.Opcode.TheVariants as opcodes
use Rattle.fuse_codec.proofs.RequestLaws.{opcode_again, made}
use Rattle.fuse_codec.specs.declared.replies.Reply.{Reply}
use Rattle.fuse_wire.specs.declared.errno.Errno.{Errno}
use Rattle.fuse_wire.specs.declared.errno.Errno.TheVariants.{EIO, EBUSY, EINVAL, ENOSYS}
use Rattle.fuse_wire.specs.declared.forgets.ForgetIn.{ForgetIn}
use Rattle.fuse_wire.specs.declared.forgets.ForgetOne.{ForgetOne}
use Rattle.fuse_wire.specs.declared.records.InHeader.{InHeader}
use Rattle.fuse_wire.specs.declared.records.WriteIn.{WriteIn}
use Rattle.fuse_wire.specs.Records.{u32_at, read_in_of, write_in_at}
use Rattle.fuse_wire.specs.Attributes.{getattr_in_of, setattr_in_of}
use Rattle.fuse_wire.specs.Opens.{open_in_of, create_in_at, release_in_of, flush_in_of, fsync_in_of, fallocate_in_of}
use Rattle.fuse_wire.specs.Inits.{init_in_of}
use Rattle.fuse_wire.specs.Forgets.{forget_in_of, forget_one_at}
use Rattle.fuse_wire.specs.Mappings.{setup_in_of, remove_one_at}
use Rattle.page_map.specs.Board.{MapView, NamesFiles}
use Rattle.plain_file.specs.Board.{BoardView, may_apply}
use Rattle.plain_file.specs.declared.operations.Answer.{Answer}
use Rattle.plain_file.specs.declared.refusals.Memory.{Memory}
use Rattle.plain_file.specs.declared.operations.Op.{Op}
use Rattle.fuse_device.specs.State.{State, World, is_made}
use Rattle.fuse_device.specs.Checks.{Outcome, is_known, refuse}
use Rattle.fuse_device.specs.Requests.{done, applies, attr_of, resizes, getattr, setattr, sync, read, write, setup, remove, answered, is_init, is_forget, served}
use Rattle.fuse_device.specs.Steps.{Step, is_forget_number, header_at, judged_message, judged, replied, forgot, device_step}
use Rattle.fuse_device.specs.Promises.{CanServe, IsServable, world}
use Rattle.fuse_device.specs.DataSteps.{is_data, is_on_file, is_file_body, is_body_on_file, file_of, named_in, file_in, named_file, CanServeData, CanStepData, data_judged_message, data_judged, data_step}
use Rattle.fuse_device.proofs.Servable.{Serves, refuse_keeps, judged_keeps, step_keeps, not_false}
use Rattle.fuse_device.proofs.Mapped.{AreNamed, Names, refuse_names, judged_names, step_names}

-- ---- the file that a chain names

-- a request where there is one, and it is on a file
abbrev is_on_file_in : Option Request → Bool
is_on_file_in None = false
is_on_file_in (Some q) = is_on_file q

on_mapped : {A : Type 0} (f : A → Request) (o : Option A) → ((x : A) → is_on_file (f x) ≡ true) → is_on_file_in (option_map f o) ≡ is_some o
on_mapped f None h = refl
on_mapped f (Some x) h = h x

off_mapped : {A : Type 0} (f : A → Request) (o : Option A) → ((x : A) → is_on_file (f x) ≡ false) → is_on_file_in (option_map f o) ≡ false
off_mapped f None h = refl
off_mapped f (Some x) h = h x

on_cases : (b c : Bool) (q : Request) → is_on_file q ≡ true → is_on_file_in (if b then None else if c then Some q else None) ≡ is_some (if b then None else if c then Some q else None)
on_cases true c q h = refl
on_cases false true q h = h
on_cases false false q h = refl

off_cases : (b c : Bool) (q : Request) → is_on_file q ≡ false → is_on_file_in (if b then None else if c then Some q else None) ≡ false
off_cases true c q h = refl
off_cases false true q h = h
off_cases false false q h = refl

off_else : (b : Bool) (o : Option Request) → is_on_file_in o ≡ false → is_on_file_in (if b then None else o) ≡ false
off_else true o h = refl
off_else false o h = h

off_then : (b : Bool) (q : Request) → is_on_file q ≡ false → is_on_file_in (if b then Some q else None) ≡ false
off_then true q h = h
off_then false q h = refl

-- the body of an operation is on a file where it is such an operation's
same_body : (k : Opcode) (body : List ℕ) → is_on_file_in (body_of k body) ≡ is_file_body k body
unfolding body_of is_file_body is_on_file write_of write_with create_of forgets_of forgets_with remove_of remove_with
same_body opcodes.Lookup body = off_mapped asks.Lookup (name_of body) (λ x. refl)
same_body opcodes.Forget body = off_mapped forget_of (forget_in_of body) (λ x. refl)
same_body opcodes.Getattr body = on_mapped asks.Getattr (getattr_in_of body) (λ x. refl)
same_body opcodes.Setattr body = on_mapped asks.Setattr (setattr_in_of body) (λ x. refl)
same_body opcodes.Unlink body = off_mapped asks.Unlink (name_of body) (λ x. refl)
same_body opcodes.OpenFile body = off_mapped asks.OpenFile (open_in_of body) (λ x. refl)
same_body opcodes.Read body = on_mapped asks.Read (read_in_of body) (λ x. refl)
same_body opcodes.Write body =
    let h : WriteIn = write_in_at (take 40 body) in
    on_cases (nat_lt (length body) 40) ((h.size == length (drop 40 body)) && nat_le (length (drop 40 body)) max_transfer) (asks.Write h (drop 40 body)) refl
same_body opcodes.Release body = off_mapped asks.Release (release_in_of body) (λ x. refl)
same_body opcodes.Fsync body = off_mapped asks.Fsync (fsync_in_of body) (λ x. refl)
same_body opcodes.Flush body = off_mapped asks.Flush (flush_in_of body) (λ x. refl)
same_body opcodes.Init body = off_mapped asks.Init (init_in_of body) (λ x. refl)
same_body opcodes.OpenDir body = off_mapped asks.OpenDir (open_in_of body) (λ x. refl)
same_body opcodes.ReadDir body = off_mapped asks.ReadDir (read_in_of body) (λ x. refl)
same_body opcodes.ReleaseDir body = off_mapped asks.ReleaseDir (release_in_of body) (λ x. refl)
same_body opcodes.Create body = off_else (nat_lt (length body) 16) (option_map (asks.Create (create_in_at (take 16 body))) (name_of (drop 16 body))) (off_mapped (asks.Create (create_in_at (take 16 body))) (name_of (drop 16 body)) (λ x. refl))
same_body opcodes.Destroy body = off_then (length body == 0) asks.Destroy refl
same_body opcodes.BatchForget body =
    let count : ℕ = u32_at body 0 in
    off_cases (nat_lt (length body) 8) (length (drop 8 body) == 16 * count) (asks.BatchForget (records_at forget_one_at count (drop 8 body))) refl
same_body opcodes.Fallocate body = off_mapped asks.Fallocate (fallocate_in_of body) (λ x. refl)
same_body opcodes.Setup body = off_mapped asks.Setup (setup_in_of body) (λ x. refl)
same_body opcodes.Remove body =
    let count : ℕ = u32_at body 0 in
    off_cases (nat_lt (length body) 4) (nat_le count 256 && (length (drop 4 body) == 16 * count)) (asks.Remove (records_at remove_one_at count (drop 4 body))) refl

in_body : (s : State) (h : InHeader) (q : Option Request) → file_in s (message_with h q) ≡ (if is_on_file_in q then file_of s h.nodeid else None)
in_body s h None = refl
in_body s h (Some q) = refl

pub file_in_message : (s : State) (h : InHeader) (k : Option Opcode) (body : List ℕ) → file_in s (message_as h k body) ≡ (if is_body_on_file k body then file_of s h.nodeid else None)
file_in_message s h None body = refl
file_in_message s h (Some k) body = in_body s h (body_of k body) ∙ ap (λ b. if b then file_of s h.nodeid else None) (same_body k body)

refused_by : (s : State) (b : Bool) (bad : BadRequest) (rest : Result Message BadRequest) → b ≡ true → None ≡ file_in s (if b then Err bad else rest)
refused_by s true bad rest h = refl
refused_by s false bad rest h = absurd (true≢false (sym h))

passed_by : (s : State) (b : Bool) (bad : BadRequest) (rest : Result Message BadRequest) → None ≡ file_in s rest → None ≡ file_in s (if b then Err bad else rest)
passed_by s true bad rest h = refl
passed_by s false bad rest h = h

went_on : (b : Bool) (bad : BadRequest) (rest : Result Message BadRequest) → b ≡ false → (if b then Err bad else rest) ≡ rest
went_on true bad rest h = absurd (true≢false h)
went_on false bad rest h = refl

-- a header that doesn't fit its chain
abbrev is_wrong : InHeader → ℕ → Type 0
is_wrong h had = (h.len ≢ had) ⊎ (h.total_extlen ≢ 0)

-- what is left after the header was judged
abbrev extended : InHeader → List ℕ → Result Message BadRequest
extended h readable = if not (h.total_extlen == 0) then Err (bad_requests.Extended h.total_extlen) else message_as h (opcode_of h.opcode) (drop 40 readable)

abbrev sized : InHeader → List ℕ → Result Message BadRequest
sized h readable = if not (h.len == length readable) then Err (bad_requests.Length h.len (length readable)) else extended h readable

pub short_named : (s : State) (readable : List ℕ) → length readable < 40 → None ≡ named_file s readable
unfolding named_file message_of message_after
short_named s readable h = refused_by s (nat_lt (length readable) 40) bad_requests.Short (sized (header_at readable) readable) (lt-ltb (length readable) 40 h)

wrong_named : (s : State) (h : InHeader) (readable : List ℕ) → is_wrong h (length readable) → None ≡ file_in s (sized h readable)
wrong_named s h readable (inl len) = refused_by s (not (h.len == length readable)) (bad_requests.Length h.len (length readable)) (extended h readable) (not_from_false (h.len == length readable) (ne_eqb h.len (length readable) len))
wrong_named s h readable (inr more) =
    passed_by s (not (h.len == length readable)) (bad_requests.Length h.len (length readable)) (extended h readable)
    (refused_by s (not (h.total_extlen == 0)) (bad_requests.Extended h.total_extlen) (message_as h (opcode_of h.opcode) (drop 40 readable)) (not_from_false (h.total_extlen == 0) (ne_eqb h.total_extlen 0 more)))

pub wrong_header_named : (s : State) (readable : List ℕ) (h : InHeader) → h ≡ header_at readable → (h.len ≢ length readable) ⊎ (h.total_extlen ≢ 0) → None ≡ named_file s readable
unfolding named_file message_of message_after
wrong_header_named s readable h e wrong =
    passed_by s (nat_lt (length readable) 40) bad_requests.Short (sized (header_at readable) readable)
    (wrong_named s (header_at readable) readable (subst (λ (x : InHeader). is_wrong x (length readable)) e wrong))

whole_message : (readable : List ℕ) → 40 ≤ length readable → (header_at readable).len ≡ length readable → (header_at readable).total_extlen ≡ 0
    → message_of readable ≡ message_as (header_at readable) (opcode_of (header_at readable).opcode) (drop 40 readable)
unfolding message_of message_after
whole_message readable long len plain =
    let h : InHeader = header_at readable in
    went_on (nat_lt (length readable) 40) bad_requests.Short (sized h readable) (le-ltb (length readable) 40 long)
    ∙ went_on (not (h.len == length readable)) (bad_requests.Length h.len (length readable)) (extended h readable) (not_from_true (h.len == length readable) (eq-eqb h.len (length readable) len))
    ∙ went_on (not (h.total_extlen == 0)) (bad_requests.Extended h.total_extlen) (message_as h (opcode_of h.opcode) (drop 40 readable)) (not_from_true (h.total_extlen == 0) (eq-eqb h.total_extlen 0 plain))

pub whole_named : (s : State) (readable : List ℕ) (h : InHeader) (body : List ℕ) → 40 ≤ length readable → h ≡ header_at readable → body ≡ drop 40 readable → h.len ≡ length readable → h.total_extlen ≡ 0 → named_in s h body ≡ named_file s readable
unfolding named_file
whole_named s readable h body long e b len plain =
    let front : InHeader = header_at readable in
    ap (λ (x : InHeader). named_in s x body) e
    ∙ ap (λ l. named_in s front l) b
    ∙ sym (file_in_message s front (opcode_of front.opcode) (drop 40 readable))
    ∙ sym (ap (file_in s) (whole_message readable long (subst (λ (x : InHeader). x.len ≡ length readable) e len) (subst (λ (x : InHeader). x.total_extlen ≡ 0) e plain)))

-- ---- boards

-- the file of a known node is made
known_within : (s : State) (node : ℕ) → node ≢ 1 → is_known s node ≡ true → node - 2 < length s.made
unfolding is_known is_made
known_within s node other known = grind (arith, common_steps, other, known)

known_file : (s : State) (node : ℕ) → node ≢ 1 → is_known s node ≡ true → file_of s node ≡ Some (node - 2)
known_file s node other known = grind (arith, common_steps, other, known)

-- boards that are ready for a request of any kind
pub serves_data : (s : State) (files : BoardView) (map : MapView) (node : ℕ) (q : Request) → CanServe s files map q → CanServeData s files map node q
serves_data s files map node q h = record {
  file = λ on. record {
    there = h.made.there;
    ready = λ other known. h.made.ready (node - 2) (known_within s node other known);
  };
  pages = h.pages;
}

pub file_named : (s : State) (m : Message) → is_on_file m.body ≡ true → m.head.nodeid ≢ 1 → is_known s m.head.nodeid ≡ true → file_in s (Ok m) ≡ Some (m.head.nodeid - 2)
file_named s m on other known = rw on (known_file s m.head.nodeid other known)

-- boards that are ready for a chain
pub serves_step : (s : State) (files : BoardView) (map : MapView) (readable : List ℕ) (m : Message) → CanStepData s files map readable → message_of readable ≡ Ok m → CanServeData s files map m.head.nodeid m.body
unfolding named_file
serves_step s files map readable m h e = record {
  file = λ on. record {
    there = h.there;
    ready = λ other known. h.ready (m.head.nodeid - 2) (ap (file_in s) e ∙ file_named s m on other known);
  };
  pages = h.pages;
}

-- ---- what is carried out

ok_after : {A : Type 0} (b : Bool) (d : BadRequest) (x : Result A BadRequest) (y : A) → cond b (Err d) x ≡ Ok y → x ≡ Ok y
ok_after true d x y e = absurd cc
ok_after false d x y e = e

-- a message has a header, an operation with the header's number, and its body
pub with_header : (readable : List ℕ) (m : Message) → message_of readable ≡ Ok m → message_as (header_at readable) (opcode_of (header_at readable).opcode) (drop 40 readable) ≡ Ok m
unfolding message_of message_after
with_header readable m e =
    let h : InHeader = header_at readable in
    let body : Result Message BadRequest = message_as h (opcode_of h.opcode) (drop 40 readable) in
    let extended : Result Message BadRequest = if not (h.total_extlen == 0) then Err (bad_requests.Extended h.total_extlen) else body in
    let long : Result Message BadRequest = if not (h.len == length readable) then Err (bad_requests.Length h.len (length readable)) else extended in
    ok_after (not (h.total_extlen == 0)) (bad_requests.Extended h.total_extlen) body m (
    ok_after (not (h.len == length readable)) (bad_requests.Length h.len (length readable)) extended m (
    ok_after (nat_lt (length readable) 40) bad_requests.Short long m e))

-- what holds of each FORGET and each BATCH_FORGET holds of a message with a number of these
forget_body : (P : Request → Type 0) (h : InHeader) (o : Option ForgetIn) (m : Message) → ((n : ℕ) → P (asks.Forget n)) → message_with h (option_map forget_of o) ≡ Ok m → P m.body
forget_body P h None m one e = absurd cc
forget_body P h (Some r) m one e =
    let same : made h (forget_of r) ≡ m = cc in
    subst (λ (x : Message). P x.body) same (one r.nlookup)

forgets_alone : (P : Request → Type 0) (h : InHeader) (o : Option Request) (m : Message) → ((q : Request) → o ≡ Some q → P q) → message_with h o ≡ Ok m → P m.body
forgets_alone P h None m each e = absurd cc
forgets_alone P h (Some q) m each e =
    let same : made h q ≡ m = cc in
    subst (λ (x : Message). P x.body) same (each q refl)

some_forgets : (P : Request → Type 0) (b : Bool) (ones : List ForgetOne) (q : Request) → P (asks.BatchForget ones) → (if b then Some (asks.BatchForget ones) else None) ≡ Some q → P q
some_forgets P true ones q h e =
    let same : asks.BatchForget ones ≡ q = cc in
    subst P same h
some_forgets P false ones q h e = absurd cc

by_length : (P : Request → Type 0) (b c : Bool) (ones : List ForgetOne) (q : Request) → P (asks.BatchForget ones) → (if b then None else (if c then Some (asks.BatchForget ones) else None)) ≡ Some q → P q
by_length P true c ones q h e = absurd cc
by_length P false c ones q h e = some_forgets P c ones q h e

forgets_body : (P : Request → Type 0) → ((ones : List ForgetOne) → P (asks.BatchForget ones)) → (body : List ℕ) (q : Request) → forgets_of body ≡ Some q → P q
unfolding forgets_of forgets_with
forgets_body P many body q e = by_length P (nat_lt (length body) 8) _ _ q (many _) e

as_forget : (P : Request → Type 0) → ((n : ℕ) → P (asks.Forget n)) → (h : InHeader) (body : List ℕ) (m : Message) → message_as h (Some opcodes.Forget) body ≡ Ok m → P m.body
unfolding body_of
as_forget P one h body m e = forget_body P h _ m one e

as_forgets : (P : Request → Type 0) → ((ones : List ForgetOne) → P (asks.BatchForget ones)) → (h : InHeader) (body : List ℕ) (m : Message) → message_as h (Some opcodes.BatchForget) body ≡ Ok m → P m.body
unfolding body_of
as_forgets P many h body m e = forgets_alone P h (forgets_of body) m (forgets_body P many body) e

-- the number of an operation in a header, where a message has it
as_number : (h : InHeader) (k : Opcode) (body : List ℕ) (m : Message) → h.opcode ≡ number k → message_as h (opcode_of h.opcode) body ≡ Ok m → message_as h (Some k) body ≡ Ok m
as_number h k body m is e = ap (λ o. message_as h o body) (sym (ap opcode_of is ∙ opcode_again k)) ∙ e

by_number : (P : Request → Type 0) → ((n : ℕ) → P (asks.Forget n)) → ((ones : List ForgetOne) → P (asks.BatchForget ones)) → (h : InHeader) (body : List ℕ) (m : Message)
    → message_as h (opcode_of h.opcode) body ≡ Ok m → (a b : Bool) → (h.opcode == number opcodes.Forget) ≡ a → (h.opcode == number opcodes.BatchForget) ≡ b → a || b ≡ true → P m.body
by_number P one many h body m e true b x y either = as_forget P one h body m (as_number h opcodes.Forget body m (eqb-true _ _ x) e)
by_number P one many h body m e false true x y either = as_forgets P many h body m (as_number h opcodes.BatchForget body m (eqb-true _ _ y) e)
by_number P one many h body m e false false x y either = absurd (true≢false (sym either))

pub forget_like : (P : Request → Type 0) → ((n : ℕ) → P (asks.Forget n)) → ((ones : List ForgetOne) → P (asks.BatchForget ones)) → (readable : List ℕ) (m : Message)
    → message_of readable ≡ Ok m → is_forget_number (header_at readable).opcode ≡ true → P m.body
forget_like P one many readable m e number_of =
    by_number P one many (header_at readable) (drop 40 readable) m (with_header readable m e) _ _ refl refl number_of

-- no forget is carried out
not_forget : (readable : List ℕ) (m : Message) → message_of readable ≡ Ok m → is_data m.body ≡ true → is_forget_number (header_at readable).opcode ≡ false
unfolding is_data
not_forget readable m e carried = elim (cases_Bool (is_forget_number (header_at readable).opcode)) [
  | inl forget ↦ absurd (true≢false (sym carried ∙ forget_like (λ q. is_data q ≡ false) (λ n. refl) (λ ones. refl) readable m e forget))
  | inr other ↦ other
]

same_judged : (w : World) (room : ℕ) (d : Result Message BadRequest) (m : Message) → d ≡ Ok m → is_data m.body ≡ true → data_judged w room d ≡ judged w room d
unfolding data_judged_message
same_judged w room (Err bad) m e carried = absurd cc
same_judged w room (Ok n) m e carried =
    let same : n ≡ m = cc in
    rw (ap (λ (x : Message). is_data x.body) same ∙ carried) refl

same_choice : (short forget few : Bool) (none forgotten reply answer : Step) → forget ≡ false → reply ≡ answer →
    (if short then none else if forget then none else if few then none else reply) ≡ (if short then none else if forget then forgotten else if few then none else answer)
same_choice short true few none forgotten reply answer f e = absurd (true≢false f)
same_choice short false few none forgotten reply answer f e = rw e refl

-- what is carried out is what the whole device does
pub data_step-device_step : (w : World) (readable : List ℕ) (room : ℕ) (m : Message) → message_of readable ≡ Ok m → is_data m.body ≡ true → data_step w readable room ≡ device_step w readable room
unfolding data_step device_step
data_step-device_step w readable room m e carried =
    same_choice (nat_lt (length readable) 40) (is_forget_number (header_at readable).opcode) (nat_lt room 16) (w, []) (forgot w (message_of readable), [])
    (replied (header_at readable).unique (data_judged w room (message_of readable))) (replied (header_at readable).unique (judged w room (message_of readable)))
    (not_forget readable m e carried) (ap (replied (header_at readable).unique) (same_judged w room (message_of readable) m e carried))

-- ---- the device stays as it is

pub record Stays (s : State) (o : Outcome) : Type 0 where
  pub state : o.1.state ≡ s

stays : (w : World) (r : Result Reply Errno) → Stays w.state (r, w)
stays w r = record { state = refl }

if_stays : (s : State) (b : Bool) (x y : Outcome) → Stays s x → Stays s y → Stays s (if b then x else y)
if_stays s true x y h k = h
if_stays s false x y h k = k

refuse_stays : (bad : Bool) (e : Errno) (w : World) (rest : Outcome) → Stays w.state rest → Stays w.state (refuse bad e w rest)
refuse_stays bad e w rest k = if_stays w.state bad (Err e, w) rest (stays w (Err e)) k

applies_stays : (w : World) (node : ℕ) (op : Op) (reply : Answer → Reply) → Stays w.state (applies w node op reply)
applies_stays w node op reply = if_stays w.state (may_apply w.files (node - 2) op) _ _ (record { state = refl }) (record { state = refl })

attr_stays : (w : World) (node : ℕ) → Stays w.state (attr_of w node)
attr_stays w node = search (if_stays, stays, applies_stays)

resizes_stays : (w : World) (node size : ℕ) → Stays w.state (resizes w node size)
resizes_stays w node size = search (refuse_stays, applies_stays)

mapped_stays : (w : World) (map : MapView) → Stays w.state (done (record w { map = map }))
mapped_stays w map = record { state = refl }

maps_stays : (w : World) (bad may : Bool) (map : MapView) → Stays w.state (refuse bad EINVAL w (refuse may EBUSY w (done (record w { map = map }))))
maps_stays w bad may map = search (refuse_stays, mapped_stays)

answered_stays : (w : World) (node : ℕ) (q : Request) → is_data q ≡ true → Stays w.state (answered w node q)
unfolding answered is_data getattr setattr sync read write setup remove
answered_stays w node (asks.Getattr r) h = search (refuse_stays, attr_stays)
answered_stays w node (asks.Setattr r) h = search (refuse_stays, if_stays, attr_stays, resizes_stays)
answered_stays w node (asks.Read r) h = search (refuse_stays, applies_stays)
answered_stays w node (asks.Write r bytes) h = search (refuse_stays, applies_stays)
answered_stays w node (asks.Fsync r) h = search (refuse_stays, stays)
answered_stays w node (asks.Flush r) h = search (refuse_stays, stays)
answered_stays w node (asks.Setup r) h = search (refuse_stays, maps_stays)
answered_stays w node (asks.Remove ones) h = search (refuse_stays, mapped_stays)
answered_stays w node (asks.Lookup name) h = absurd (true≢false (sym h))
answered_stays w node (asks.Forget n) h = absurd (true≢false (sym h))
answered_stays w node (asks.Unlink name) h = absurd (true≢false (sym h))
answered_stays w node (asks.OpenFile r) h = absurd (true≢false (sym h))
answered_stays w node (asks.Release r) h = absurd (true≢false (sym h))
answered_stays w node (asks.Init r) h = absurd (true≢false (sym h))
answered_stays w node (asks.OpenDir r) h = absurd (true≢false (sym h))
answered_stays w node (asks.ReadDir r) h = absurd (true≢false (sym h))
answered_stays w node (asks.ReleaseDir r) h = absurd (true≢false (sym h))
answered_stays w node (asks.Create r name) h = absurd (true≢false (sym h))
answered_stays w node asks.Destroy h = absurd (true≢false (sym h))
answered_stays w node (asks.BatchForget ones) h = absurd (true≢false (sym h))
answered_stays w node (asks.Fallocate r) h = absurd (true≢false (sym h))

served_stays : (w : World) (m : Message) → is_data m.body ≡ true → Stays w.state (served w m)
unfolding served
served_stays w m h =
    if_stays w.state (w.state.started || is_init m.body) _ _ (answered_stays w m.head.nodeid m.body h)
    (if_stays w.state (is_forget m.body) _ _ (record { state = refl }) (record { state = refl }))

carried_stays : (bad : Bool) (w : World) (rest : Outcome) → (bad ≡ false → Stays w.state rest) → Stays w.state (refuse bad ENOSYS w rest)
carried_stays true w rest k = record { state = refl }
carried_stays false w rest k = k refl

judged_stays : (w : World) (room : ℕ) (d : Result Message BadRequest) → Stays w.state (data_judged w room d)
unfolding judged_message data_judged_message
judged_stays w room (Err bad) = record { state = refl }
judged_stays w room (Ok m) =
    carried_stays (not (is_data m.body)) w _ (λ h. refuse_stays _ EIO w _ (refuse_stays _ EINVAL w _ (served_stays w m (not_false (is_data m.body) h))))

same_state : (s : State) (b : Bool) (x y : Step) → x.0.state ≡ s → y.0.state ≡ s → (if b then x else y).0.state ≡ s
same_state s true x y h k = h
same_state s false x y h k = k

pub data_step-state : (w : World) (readable : List ℕ) (room : ℕ) → (data_step w readable room).0.state ≡ w.state
unfolding data_step
data_step-state w readable room =
    let none : Step = (w, []) in
    let reply : Step = replied (header_at readable).unique (data_judged w room (message_of readable)) in
    let roomy : Step = if nat_lt room 16 then none else reply in
    let long : Step = if is_forget_number (header_at readable).opcode then none else roomy in
    same_state w.state (nat_lt (length readable) 40) none long refl (
    same_state w.state (is_forget_number (header_at readable).opcode) none roomy refl (
    same_state w.state (nat_lt room 16) none reply refl (judged_stays w room (message_of readable)).state))

-- ---- boards that one caller has for itself

of_within : (s : State) (node file : ℕ) → file_of s node ≡ Some file → file < length s.made
unfolding is_known is_made
of_within s node file e = grind (arith, common_steps, e)

on_within : (s : State) (on : Bool) (node file : ℕ) → (if on then file_of s node else None) ≡ Some file → file < length s.made
on_within s true node file e = of_within s node file e
on_within s false node file e = absurd cc

in_within : (s : State) (d : Result Message BadRequest) (file : ℕ) → file_in s d ≡ Some file → file < length s.made
in_within s (Err bad) file e = absurd cc
in_within s (Ok m) file e = on_within s (is_on_file m.body) m.head.nodeid file e

-- the file that a chain names is made
pub named_within : (s : State) (readable : List ℕ) (file : ℕ) → named_file s readable ≡ Some file → file < length s.made
unfolding named_file
named_within s readable file e = in_within s (message_of readable) file e

pub servable_data : (s : State) (files : BoardView) (map : MapView) (readable : List ℕ) → IsServable (world s files map) → CanStepData s files map readable
servable_data s files map readable h = record {
  there = omega (arith, h.few, h.enough);
  pages = h.pages;
  ready = λ file e. h.ready file (omega (arith, named_within s readable file e, h.few, h.enough));
}

judged_serves : (w : World) (room : ℕ) (d : Result Message BadRequest) → IsServable w → Serves (data_judged w room d)
unfolding data_judged_message
judged_serves w room (Err bad) h = record { after = h }
judged_serves w room (Ok m) h = refuse_keeps (not (is_data m.body)) ENOSYS w (judged_message w room m) h (judged_keeps w room (Ok m) h)

pub IsServable-data_step : (w : World) (readable : List ℕ) (room : ℕ) → IsServable w → IsServable (data_step w readable room).0
unfolding data_step
IsServable-data_step w readable room h =
    let none : Step = (w, []) in
    let reply : Step = replied (header_at readable).unique (data_judged w room (message_of readable)) in
    let roomy : Step = if nat_lt room 16 then none else reply in
    let long : Step = if is_forget_number (header_at readable).opcode then none else roomy in
    step_keeps (nat_lt (length readable) 40) none long h (
    step_keeps (is_forget_number (header_at readable).opcode) none roomy h (
    step_keeps (nat_lt room 16) none reply h (judged_serves w room (message_of readable) h).after))

-- so one chain can be served after the other
pub IsServable-serve_chain_data : (old new : World) (readable : List ℕ) (room : ℕ) (result : Result (List ℕ) Memory)
    → OnOk result (new ≡ (data_step old readable room).0) → OnErr result (new ≡ old) → IsServable old → IsServable new
IsServable-serve_chain_data old new readable room (Ok reply) step memory h = rw step (IsServable-data_step old readable room h)
IsServable-serve_chain_data old new readable room (Err e) step memory h = rw memory h

-- ---- the window maps made files alone

judged_named : (w : World) (room : ℕ) (d : Result Message BadRequest) → AreNamed w → Names (data_judged w room d)
unfolding data_judged_message
judged_named w room (Err bad) h = record { after = h.named }
judged_named w room (Ok m) h = refuse_names (not (is_data m.body)) ENOSYS w (judged_message w room m) h (judged_names w room (Ok m) h)

pub NamesFiles-data_step : (w : World) (readable : List ℕ) (room : ℕ) → length w.map.table ≡ w.state.pages → NamesFiles (length w.state.made) w.map
    → NamesFiles (length (data_step w readable room).0.state.made) (data_step w readable room).0.map
unfolding data_step
NamesFiles-data_step w readable room pages h =
    let none : Step = (w, []) in
    let reply : Step = replied (header_at readable).unique (data_judged w room (message_of readable)) in
    let roomy : Step = if nat_lt room 16 then none else reply in
    let long : Step = if is_forget_number (header_at readable).opcode then none else roomy in
    step_names (nat_lt (length readable) 40) none long h (
    step_names (is_forget_number (header_at readable).opcode) none roomy h (
    step_names (nat_lt room 16) none reply h (judged_named w room (message_of readable) (record { pages = pages; named = h })).after))
