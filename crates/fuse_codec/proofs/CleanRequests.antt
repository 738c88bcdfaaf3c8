-- The spelling of a request with zeros where any bytes may stand.
use Rattle.std.proofs.Common.{◌≡◌, ℕ, ◌+◌, ◌*◌, ◌<◌, ◌≤◌, ◌^◌, true, List, [], ◌∷◌, ◌++◌, length, Option, Some, None, refl, sym, subst, ◌∙◌, ap, arith, eqb}
use Rattle.std.specs.List.{flat_map}
use Rattle.std.proofs.lemmas.Bool.{leb-true, le-leb, eq-eqb, ltb-false, and_parts}
use Rattle.std.proofs.lemmas.List.{append-nil, append_assoc, length-append}
use Rattle.plain_file.specs.Limits.{max_part}
use Rattle.plain_file.specs.Names.{is_name}
use Rattle.fuse_wire.specs.Layout.{Bytes, AreSpelled, FitsParts, clean, parts_len}
use Rattle.fuse_wire.specs.Records.{in_header, write_in}
use Rattle.fuse_wire.specs.Opens.{create_in}
use Rattle.fuse_wire.specs.Inits.{init_in, init_more}
use Rattle.fuse_wire.specs.Forgets.{forget_one}
use Rattle.fuse_wire.specs.Mappings.{remove_one}
use Rattle.fuse_wire.proofs.Laws.{clean_append, clean_spells, clean_len, parts_len_append}
use Rattle.fuse_wire.proofs.RecordLaws.{in_header_law, read_in_law, write_in_law}
use Rattle.fuse_wire.proofs.AttributeLaws.{getattr_in_law, setattr_in_law}
use Rattle.fuse_wire.proofs.OpenLaws.{open_in_law, create_in_law, release_in_law, flush_in_law, fsync_in_law, fallocate_in_law}
use Rattle.fuse_wire.proofs.ForgetLaws.{forget_in_law, forget_one_law}
use Rattle.fuse_wire.proofs.MappingLaws.{setup_in_law, remove_one_law}
use Rattle.fuse_wire.specs.declared.records.WriteIn.{WriteIn}
use Rattle.fuse_wire.specs.declared.opens.CreateIn.{CreateIn}
use Rattle.fuse_wire.specs.declared.inits.InitIn.{InitIn}
use Rattle.fuse_wire.specs.declared.forgets.ForgetOne.{ForgetOne}
use Rattle.fuse_wire.specs.declared.mappings.RemoveOne.{RemoveOne}
use Rattle.fuse_codec.specs.declared.messages.Request.{Request}
use Rattle.fuse_codec.specs.declared.messages.Request.TheVariants as requests
use Rattle.fuse_codec.specs.declared.messages.Head.{Head}
use Rattle.fuse_codec.specs.declared.messages.Message.{Message}
use Rattle.fuse_codec.specs.declared.opcodes.Opcode.TheVariants as opcodes
use Rattle.fuse_codec.specs.Grammar.{body_parts, is_bounded, kind_of, named, header_of, header_with, write_message, clean_message, Spells}
use Rattle.fuse_codec.proofs.Ones.{ones_len}

-- ---- how many bytes a body has

name_len : (name : List ℕ) → is_name name ≡ true → length name ≤ 255
name_len name h = grind (arith, ltb-false (255) (length name))

more_len : (flags2 : Option ℕ) → 16 + parts_len (init_more flags2) ≤ 64
more_len None = omega arith
more_len (Some n) = omega arith

init_len : (r : InitIn) → parts_len (init_in r) ≤ 64
unfolding init_in
init_len r = omega (arith, more_len r.flags2)

pub forgets_parts : (ones : List ForgetOne) → parts_len (flat_map forget_one ones) ≡ 16 * length ones
forgets_parts ones = ones_len forget_one forget_one_law ones

pub removes_parts : (ones : List RemoveOne) → parts_len (flat_map remove_one ones) ≡ 16 * length ones
removes_parts ones = ones_len remove_one remove_one_law ones

pub forgets_len : (ones : List ForgetOne) → length (clean (flat_map forget_one ones)) ≡ 16 * length ones
forgets_len ones = clean_len (flat_map forget_one ones) ∙ forgets_parts ones

pub removes_len : (ones : List RemoveOne) → length (clean (flat_map remove_one ones)) ≡ 16 * length ones
removes_len ones = clean_len (flat_map remove_one ones) ∙ removes_parts ones

pub write_len : (h : WriteIn) (text : List ℕ) → length (clean (write_in h ++ Bytes text ∷ [])) ≡ 40 + length text
write_len h text = omega (arith, clean_len (write_in h ++ Bytes text ∷ []), write_in_law.sized h, parts_len_append (write_in h) (Bytes text ∷ []))

pub create_len : (h : CreateIn) (name : List ℕ) → length (clean (create_in h ++ named name)) ≡ 16 + length name + 1
create_len h name = omega (arith, clean_len (create_in h ++ named name), create_in_law.sized h, parts_len_append (create_in h) (named name))

pub parts_within : (q : Request) → is_bounded q ≡ true → 40 + parts_len (body_parts q) ≤ max_part
unfolding body_parts is_bounded
parts_within (requests.Lookup name) h = omega (arith, name_len name h)
parts_within (requests.Forget nlookup) h = omega (arith, forget_in_law.sized (record { nlookup = nlookup }))
parts_within (requests.Getattr r) h = omega (arith, getattr_in_law.sized r)
parts_within (requests.Setattr r) h = omega (arith, setattr_in_law.sized r)
parts_within (requests.Unlink name) h = omega (arith, name_len name h)
parts_within (requests.OpenFile r) h = omega (arith, open_in_law.sized r)
parts_within (requests.Read r) h = omega (arith, read_in_law.sized r)
parts_within (requests.Write h text) e = omega (arith, leb-true (length text) 1048576 (and_parts _ _ e).1, write_in_law.sized h, parts_len_append (write_in h) (Bytes text ∷ []))
parts_within (requests.Release r) h = omega (arith, release_in_law.sized r)
parts_within (requests.Fsync r) h = omega (arith, fsync_in_law.sized r)
parts_within (requests.Flush r) h = omega (arith, flush_in_law.sized r)
parts_within (requests.Init r) h = omega (arith, init_len r)
parts_within (requests.OpenDir r) h = omega (arith, open_in_law.sized r)
parts_within (requests.ReadDir r) h = omega (arith, read_in_law.sized r)
parts_within (requests.ReleaseDir r) h = omega (arith, release_in_law.sized r)
parts_within (requests.Create h name) e = omega (arith, name_len name e, create_in_law.sized h, parts_len_append (create_in h) (named name))
parts_within requests.Destroy h = omega arith
parts_within (requests.BatchForget ones) h = omega (arith, leb-true _ _ h, forgets_parts ones)
parts_within (requests.Fallocate r) h = omega (arith, fallocate_in_law.sized r)
parts_within (requests.Setup r) h = omega (arith, setup_in_law.sized r)
parts_within (requests.Remove ones) h = omega (arith, leb-true (length ones) 256 h, removes_parts ones)

pub body_within : (q : Request) → is_bounded q ≡ true → 40 + length (clean (body_parts q)) ≤ max_part
body_within q h = omega (arith, clean_len (body_parts q), parts_within q h)

-- ---- for `body_len`

pub write_within : (q : Request) (h : WriteIn) (text : List ℕ) → is_bounded q ≡ true → q ≡ requests.Write h text → length text ≤ 1048576
unfolding is_bounded
write_within q h text e is = leb-true (length text) 1048576 (and_parts (eqb h.size (length text)) _ (subst (λ (x : Request). is_bounded x ≡ true) is e)).1

pub forgets_within : (q : Request) (ones : List ForgetOne) → is_bounded q ≡ true → q ≡ requests.BatchForget ones → 40 + 8 + 16 * length ones ≤ 1052672
unfolding is_bounded
forgets_within q ones e is = leb-true (40 + 8 + 16 * length ones) 1052672 (subst (λ (x : Request). is_bounded x ≡ true) is e)

pub removes_within : (q : Request) (ones : List RemoveOne) → is_bounded q ≡ true → q ≡ requests.Remove ones → length ones ≤ 256
unfolding is_bounded
removes_within q ones e is = leb-true (length ones) 256 (subst (λ (x : Request). is_bounded x ≡ true) is e)

-- ---- a spelling

-- a header of another length
header_fits : (n k : ℕ) (m : Message) → k < 2 ^ 32 → FitsParts (in_header (header_of n m)) → FitsParts (in_header (header_of k m))
unfolding FitsParts in_header
header_fits n k m lt h = (lt, h.1)

pub clean_is_spelled : (m : Message) (n : ℕ) → is_bounded m.body ≡ true → FitsParts (body_parts m.body) → FitsParts (in_header (header_of n m)) → Spells m (clean_message m)
clean_is_spelled m n bounded fits head =
    let body = clean (body_parts m.body) in
    let within : 40 + length body ≤ max_part = body_within m.body bounded in
    let h = in_header (header_of (40 + length body) m) in
    let head' : FitsParts h = header_fits n (40 + length body) m (omega arith) head in
    let len : length (clean h ++ body) ≡ 40 + length body = omega (arith, length-append (clean h) body, clean_len h, in_header_law.sized (header_of (40 + length body) m)) in
    record {
      header = clean h;
      body = body;
      whole = refl;
      within = omega arith;
      header_spelled = subst (λ (n : ℕ). AreSpelled (in_header (header_of n m)) (clean h)) (sym len) (clean_spells h head');
      body_spelled = record { bounded = bounded; parts = clean_spells (body_parts m.body) fits };
    }

-- ---- for `put_request`, `put_body` and `body_fits`

pub message_text : (out : List ℕ) (m : Message) (len : ℕ) → len ≡ parts_len (body_parts m.body) → (out ++ clean (in_header (header_of (40 + len) m))) ++ clean (body_parts m.body) ≡ out ++ clean_message m
message_text out m len e =
    let body = clean (body_parts m.body) in
    let is : length body ≡ len = clean_len (body_parts m.body) ∙ sym e in
    subst (λ (n : ℕ). (out ++ clean (in_header (header_of (40 + n) m))) ++ body ≡ out ++ clean_message m) is (append_assoc out (clean (in_header (header_of (40 + length body) m))) body)

pub write_text : (out : List ℕ) (h : WriteIn) (text : List ℕ) → (out ++ clean (write_in h)) ++ text ≡ out ++ clean (write_in h ++ Bytes text ∷ [])
write_text out h text = append_assoc out (clean (write_in h)) text ∙ ap (λ (xs : List ℕ). out ++ xs) (sym (clean_append (write_in h) (Bytes text ∷ []) ∙ ap (λ (xs : List ℕ). clean (write_in h) ++ xs) (append-nil text)))

pub written_message : (head : Head) (h : WriteIn) (text : List ℕ) (n : ℕ) → n ≡ 80 + length text → clean (in_header (header_with n head opcodes.Write)) ++ clean (write_in h ++ Bytes text ∷ []) ≡ clean_message (write_message head h text)
unfolding body_parts kind_of
written_message head h text n e =
    let body = clean (write_in h ++ Bytes text ∷ []) in
    let len : 40 + length text ≡ parts_len (write_in h ++ Bytes text ∷ []) = omega (arith, write_in_law.sized h, parts_len_append (write_in h) (Bytes text ∷ [])) in
    let is : 40 + (40 + length text) ≡ n = omega (arith, e) in
    subst (λ (k : ℕ). clean (in_header (header_with k head opcodes.Write)) ++ body ≡ clean_message (write_message head h text)) is (message_text [] (write_message head h text) (40 + length text) len)

pub write_is_spelled : (head : Head) (h : WriteIn) (text : List ℕ) (n : ℕ) → h.size ≡ length text → length text ≤ 1048576 → FitsParts (write_in h ++ Bytes text ∷ []) → FitsParts (in_header (header_with n head opcodes.Write)) → Spells (write_message head h text) (clean_message (write_message head h text))
unfolding body_parts kind_of is_bounded
write_is_spelled head h text n size most fits front = clean_is_spelled (write_message head h text) n (grind (arith, eq-eqb h.size (length text) size, le-leb (length text) 1048576 most)) fits front

pub create_text : (out : List ℕ) (h : CreateIn) (name : List ℕ) → ((out ++ clean (create_in h)) ++ name) ++ 0 ∷ [] ≡ out ++ clean (create_in h ++ named name)
create_text out h name = append_assoc (out ++ clean (create_in h)) name (0 ∷ []) ∙ append_assoc out (clean (create_in h)) (name ++ 0 ∷ []) ∙ ap (λ (xs : List ℕ). out ++ xs) (sym (clean_append (create_in h) (named name)))

pub count_fits : (ones : List ForgetOne) → is_bounded (requests.BatchForget ones) ≡ true → length ones < 2 ^ 32
unfolding is_bounded
count_fits ones h = omega (arith, leb-true _ _ h)
