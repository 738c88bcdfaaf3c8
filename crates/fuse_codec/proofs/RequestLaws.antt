-- Whole requests: bytes are read as a request exactly where they spell it.
use Rattle.std.proofs.Common.{◌≡◌, ℕ, ◌≤◌, Bool, true, false, not, cond, eqb, ltb, List, [], ◌∷◌, length, take, drop, Option, Some, None, Result, Ok, Err, refl, sym, subst, ◌∙◌, ap, arith}
use Rattle.std.specs.Prelude.{IfOk}
use Rattle.std.specs.List.{find}
use Rattle.std.proofs.lemmas.Bool.{eq-eqb, eqb-true, not-false, ltb-false, le-ltb}
use Rattle.std.proofs.lemmas.List.{length-take, length-drop, length-append, take-append-drop, take_at, drop_at}
use Rattle.plain_file.specs.Limits.{max_part}
use Rattle.fuse_wire.specs.Layout.{AreSpelled}
use Rattle.fuse_wire.specs.Records.{in_header, in_header_at, in_header_of}
use Rattle.fuse_wire.specs.declared.records.InHeader.{InHeader}
use Rattle.fuse_wire.proofs.Laws.{IsBytes, IsBytes-take, IsBytes-drop}
use Rattle.fuse_wire.proofs.RecordLaws.{cond_some, in_header_law}
use Rattle.fuse_codec.specs.declared.opcodes.Opcode.{Opcode}
use Rattle.fuse_codec.specs.declared.opcodes.Opcode.TheVariants as opcodes
use Rattle.fuse_codec.specs.declared.messages.Request.{Request}
use Rattle.fuse_codec.specs.declared.messages.Message.{Message}
use Rattle.fuse_codec.specs.declared.errors.BadRequest.{BadRequest}
use Rattle.fuse_codec.specs.declared.errors.BadRequest.TheVariants as bad_requests
use Rattle.fuse_codec.specs.Opcodes.{number, operations, opcode_of}
use Rattle.fuse_codec.specs.Grammar.{kind_of, header_of, Spells}
use Rattle.fuse_codec.specs.Reading.{body_of, message_with, message_as, message_after, message_of, Gives}
use Rattle.fuse_codec.proofs.Bodies.{body_found, body_again}

-- ---- operations and their numbers

pub opcode_again : (k : Opcode) → opcode_of (number k) ≡ Some k
unfolding opcode_of number
opcode_again opcodes.Lookup = refl
opcode_again opcodes.Forget = refl
opcode_again opcodes.Getattr = refl
opcode_again opcodes.Setattr = refl
opcode_again opcodes.Unlink = refl
opcode_again opcodes.OpenFile = refl
opcode_again opcodes.Read = refl
opcode_again opcodes.Write = refl
opcode_again opcodes.Release = refl
opcode_again opcodes.Fsync = refl
opcode_again opcodes.Flush = refl
opcode_again opcodes.Init = refl
opcode_again opcodes.OpenDir = refl
opcode_again opcodes.ReadDir = refl
opcode_again opcodes.ReleaseDir = refl
opcode_again opcodes.Create = refl
opcode_again opcodes.Destroy = refl
opcode_again opcodes.BatchForget = refl
opcode_again opcodes.Fallocate = refl
opcode_again opcodes.Setup = refl
opcode_again opcodes.Remove = refl

passes_by : {A : Type 0} (b : Bool) (y x : A) (rest : Option A) (test : A → Bool) → test y ≡ b → cond b (Some y) rest ≡ Some x → (rest ≡ Some x → test x ≡ true) → test x ≡ true
passes_by true y x rest test is e more = ap test (sym cc) ∙ is
passes_by false y x rest test is e more = more e

-- what is found passes the test
found_passes : {A : Type 0} (test : A → Bool) (xs : List A) (x : A) → find test xs ≡ Some x → test x ≡ true
found_passes test [] x e = absurd cc
found_passes {A} test (y ∷ ys) x e = passes_by (test y) y x (find test ys) test refl e (found_passes test ys x)

pub opcode_found : (n : ℕ) (k : Opcode) → opcode_of n ≡ Some k → number k ≡ n
unfolding opcode_of
opcode_found n k e = eqb-true _ _ (found_passes (λ k. eqb (number k) n) operations k e)

-- ---- steps that did not fail

ok_after : {A : Type 0} (b : Bool) (d : BadRequest) (x : Result A BadRequest) (y : A) → cond b (Err d) x ≡ Ok y → (b ≡ false) × (x ≡ Ok y)
ok_after true d x y e = absurd cc
ok_after false d x y e = (refl, e)

message_as_ok : (h : InHeader) (o : Option Opcode) (body : List ℕ) (m : Message) → message_as h o body ≡ Ok m → (k : Opcode) × (o ≡ Some k) × (message_with h (body_of k body) ≡ Ok m)
message_as_ok h None body m e = absurd cc
message_as_ok h (Some k) body m e = (k, refl, e)

-- the message of a header and a body
abbrev pub made : InHeader → Request → Message
made h q = record { head = record { unique = h.unique; nodeid = h.nodeid; uid = h.uid; gid = h.gid; pid = h.pid }; body = q }

message_with_ok : (h : InHeader) (o : Option Request) (m : Message) → message_with h o ≡ Ok m → (q : Request) × (o ≡ Some q) × (made h q ≡ m)
message_with_ok h None m e = absurd cc
message_with_ok h (Some q) m e = (q, refl, cc)

-- ---- the laws

same_header : (h : InHeader) (len : ℕ) (q : Request) → h.len ≡ len → h.opcode ≡ number (kind_of q) → h.total_extlen ≡ 0 → header_of len (made h q) ≡ h
same_header h len q a b c = λ i. record { len = sym a i; opcode = sym b i; unique = h.unique; nodeid = h.nodeid; uid = h.uid; gid = h.gid; pid = h.pid; total_extlen = sym c i }

-- bytes that are read as a request spell it
pub message_found : (bytes : List ℕ) (m : Message) → IsBytes bytes → length bytes ≤ max_part → message_of bytes ≡ Ok m → Spells m bytes
unfolding message_of message_after in_header_of
message_found bytes m fits within e =
    let h = in_header_at (take 40 bytes) in
    let had = length bytes in
    let body = drop 40 bytes in
    let long = ok_after (ltb had 40) bad_requests.Short (message_after h had body) m e in
    let le : 40 ≤ length bytes = ltb-false _ _ long.0 in
    let said = ok_after (not (eqb h.len had)) (bad_requests.Length h.len had) (cond (not (eqb h.total_extlen 0)) (Err (bad_requests.Extended h.total_extlen)) (message_as h (opcode_of h.opcode) body)) m long.1 in
    let plain = ok_after (not (eqb h.total_extlen 0)) (bad_requests.Extended h.total_extlen) (message_as h (opcode_of h.opcode) body) m said.1 in
    let known = message_as_ok h (opcode_of h.opcode) body m plain.1 in
    let read = message_with_ok h (body_of known.0 body) m known.2 in
    let b = body_found known.0 body read.0 (IsBytes-drop 40 bytes fits) (omega (arith, length-drop 40 bytes)) read.1 in
    let opcode : h.opcode ≡ number (kind_of read.0) = sym (opcode_found h.opcode known.0 known.1) ∙ ap number (sym b.0) in
    let front : length (take 40 bytes) ≡ 40 = omega (arith, length-take 40 bytes) in
    let first : AreSpelled (in_header h) (take 40 bytes) = in_header_law.found (take 40 bytes) h (IsBytes-take 40 bytes fits) (rw (eq-eqb (length (take 40 bytes)) 40 front) refl) in
    let same : header_of had (made h read.0) ≡ h = same_header h had read.0 (eqb-true _ _ (not-false _ said.0)) opcode (eqb-true _ _ (not-false _ plain.0)) in
    let header : AreSpelled (in_header (header_of had (made h read.0))) (take 40 bytes) = subst (λ (x : InHeader). AreSpelled (in_header x) (take 40 bytes)) (sym same) first in
    subst (λ (x : Message). Spells x bytes) read.2 (record { header = take 40 bytes; body = body; whole = sym (take-append-drop 40 bytes); within = within; header_spelled = header; body_spelled = b.1 })

-- bytes that spell a request are read as it
pub message_again : (m : Message) (bytes : List ℕ) → Spells m bytes → message_of bytes ≡ Ok m
unfolding message_of message_after in_header_of
message_again m bytes s =
    let had = length bytes in
    let h = header_of had m in
    let len : length s.header ≡ 40 = in_header_law.len h s.header s.header_spelled in
    let front : take 40 bytes ≡ s.header = ap (take 40) s.whole ∙ take_at s.header s.body 40 len in
    let back : drop 40 bytes ≡ s.body = ap (drop 40) s.whole ∙ drop_at s.header s.body 40 len in
    let read = cond_some (eqb (length s.header) 40) (in_header_at s.header) h (in_header_law.again h s.header s.header_spelled) in
    let long : ltb had 40 ≡ false = le-ltb _ _ (omega (arith, ap length s.whole, length-append s.header s.body, len)) in
    let header : in_header_at (take 40 bytes) ≡ h = ap in_header_at front ∙ read.1 in
    let after : message_after h had s.body ≡ Ok m = rw (eq-eqb had had refl, opcode_again (kind_of m.body), body_again m.body s.body s.body_spelled) refl in
    rw (long, back) (subst (λ (x : InHeader). message_after x had s.body ≡ Ok m) (sym header) after)

-- ---- for `decode_request`

pub found_by : (bytes : List ℕ) (r : Result Message BadRequest) → IsBytes bytes → length bytes ≤ max_part → Gives r (message_of bytes) → IfOk r (λ m. Spells m bytes)
found_by bytes (Ok m) fits within given = message_found bytes m fits within given
found_by bytes (Err e) fits within given = tt

pub memory_alone : (m : Message) (e : BadRequest) → Gives (Err e) (Ok m) → e ≡ bad_requests.Memory
memory_alone m bad_requests.Short given = absurd cc
memory_alone m (bad_requests.Length said had) given = absurd cc
memory_alone m (bad_requests.Extended n) given = absurd cc
memory_alone m (bad_requests.Opcode n) given = absurd cc
memory_alone m (bad_requests.Body k) given = absurd cc
memory_alone m bad_requests.Memory given = refl
