-- Bodies: what is read is spelled, and what is spelled is read.
use Rattle.std.proofs.Common.{◌≡◌, ℕ, ◌+◌, ◌-◌, ◌*◌, ◌≤◌, true, false, cond, eqb, leb, ltb, ◌&&◌, List, [], ◌∷◌, ◌++◌, length, take, drop, Option, Some, None, refl, sym, subst, ◌∙◌, ap, arith}
use Rattle.std.specs.Prelude.{option_map}
use Rattle.std.specs.List.{flat_map}
use Rattle.std.specs.Str.{bytes_eq}
use Rattle.std.proofs.lemmas.Bool.{eq-eqb, eqb-true, ne_eqb, ltb-false, le-ltb, le-leb, and_parts, and_from}
use Rattle.std.proofs.lemmas.List.{length-take, length-drop, length-append, take-append-drop, take_at, drop_at, drop-drop, nil_from_length}
use Rattle.std.proofs.lemmas.Slice.Eq.{bytes_eq-Decides}
use Rattle.plain_file.specs.Limits.{max_part}
use Rattle.plain_file.specs.Names.{is_name, checked_name}
use Rattle.fuse_wire.specs.Layout.{Part, U32, Unused, Bytes, AreSpelled}
use Rattle.fuse_wire.specs.Records.{u32_at, write_in, write_in_at, write_in_of}
use Rattle.fuse_wire.specs.Opens.{create_in, create_in_at, create_in_of}
use Rattle.fuse_wire.specs.Inits.{init_in_of}
use Rattle.fuse_wire.specs.Forgets.{forget_one, forget_one_at, forget_one_of}
use Rattle.fuse_wire.specs.Mappings.{remove_one, remove_one_at, remove_one_of}
use Rattle.fuse_wire.specs.declared.records.WriteIn.{WriteIn}
use Rattle.fuse_wire.specs.declared.opens.CreateIn.{CreateIn}
use Rattle.fuse_wire.specs.declared.forgets.ForgetOne.{ForgetOne}
use Rattle.fuse_wire.specs.declared.mappings.RemoveOne.{RemoveOne}
use Rattle.fuse_wire.proofs.Laws.{IsBytes, IsBytes-take, IsBytes-drop, joined, split, two_texts, two_texts_are, one_text, one_text_is, nothing, nothing_is, number_first, number_first_is}
use Rattle.fuse_wire.proofs.RecordLaws.{IsRecord, when, cond_some, read_in_law, write_in_law}
use Rattle.fuse_wire.proofs.AttributeLaws.{getattr_in_law, setattr_in_law}
use Rattle.fuse_wire.proofs.OpenLaws.{open_in_law, create_in_law, release_in_law, flush_in_law, fsync_in_law, fallocate_in_law}
use Rattle.fuse_wire.proofs.InitLaws.{init_in_found, init_in_read}
use Rattle.fuse_wire.proofs.ForgetLaws.{forget_in_law, forget_one_law}
use Rattle.fuse_wire.proofs.MappingLaws.{setup_in_law, remove_one_law}
use Rattle.fuse_codec.specs.declared.opcodes.Opcode.{Opcode}
use Rattle.fuse_codec.specs.declared.opcodes.Opcode.TheVariants as opcodes
use Rattle.fuse_codec.specs.declared.messages.Request.{Request}
use Rattle.fuse_codec.specs.declared.messages.Request.TheVariants as requests
use Rattle.fuse_codec.specs.Grammar.{kind_of, body_parts, is_bounded, named, SpellsBody}
use Rattle.fuse_codec.specs.Reading.{name_of, forget_of, write_with, write_of, create_of, records_at, forgets_with, forgets_of, remove_with, remove_of, body_of}
use Rattle.fuse_codec.proofs.Steps.{mapped_some, went_on, held}
use Rattle.fuse_codec.proofs.Ones.{ones_found, ones_again}

-- ---- names

name_found : (bytes name : List ℕ) → name_of bytes ≡ Some name → (is_name name ≡ true) × AreSpelled (named name) bytes
unfolding name_of
name_found bytes name e =
    let some = went_on (eqb (length bytes) 0) (cond (bytes_eq (drop (length bytes - 1) bytes) (0 ∷ [])) (checked_name (take (length bytes - 1) bytes)) None) name e in
    let zero = held (bytes_eq (drop (length bytes - 1) bytes) (0 ∷ [])) (checked_name (take (length bytes - 1) bytes)) name some.1 in
    let named = cond_some (is_name (take (length bytes - 1) bytes)) (take (length bytes - 1) bytes) name zero.1 in
    let end : drop (length bytes - 1) bytes ≡ 0 ∷ [] = (bytes_eq-Decides (drop (length bytes - 1) bytes) (0 ∷ [])).0 zero.0 in
    let whole : bytes ≡ name ++ 0 ∷ [] = sym (take-append-drop (length bytes - 1) bytes) ∙ ap (λ (xs : List ℕ). xs ++ drop (length bytes - 1) bytes) named.1 ∙ ap (λ (xs : List ℕ). name ++ xs) end in
    (subst (λ (xs : List ℕ). is_name xs ≡ true) named.1 named.0, two_texts name (0 ∷ []) bytes whole)

name_again : (bytes name : List ℕ) → is_name name ≡ true → AreSpelled (named name) bytes → name_of bytes ≡ Some name
unfolding name_of
name_again bytes name fine h =
    let whole : bytes ≡ name ++ 0 ∷ [] = two_texts_are name (0 ∷ []) bytes h in
    let len : length bytes ≡ length name + 1 = ap length whole ∙ length-append name (0 ∷ []) in
    let less : length bytes - 1 ≡ length name = omega arith in
    let front : take (length bytes - 1) bytes ≡ name = rw less (ap (take (length name)) whole ∙ take_at name (0 ∷ []) (length name) refl) in
    let end : drop (length bytes - 1) bytes ≡ 0 ∷ [] = rw less (ap (drop (length name)) whole ∙ drop_at name (0 ∷ []) (length name) refl) in
    let some : eqb (length bytes) 0 ≡ false = ne_eqb (length bytes) 0 (λ z. omega arith) in
    let same : bytes_eq (drop (length bytes - 1) bytes) (0 ∷ []) ≡ true = (bytes_eq-Decides (drop (length bytes - 1) bytes) (0 ∷ [])).1 end in
    rw (some, same, front, fine) refl

-- ---- a record that is the whole body

-- what every body's reading has to show
abbrev pub IsFound : Opcode → List ℕ → Request → Type 0
IsFound k bytes q = (kind_of q ≡ k) × SpellsBody q bytes

record_found : {R : Type 0} {size : ℕ} {parts : R → List Part} {of : List ℕ → Option R} → IsRecord size parts of → (make : R → Request) (k : Opcode) (bytes : List ℕ) (q : Request) → IsBytes bytes
    → ((r : R) → (kind_of (make r) ≡ k) × (is_bounded (make r) ≡ true) × (body_parts (make r) ≡ parts r)) → option_map make (of bytes) ≡ Some q → IsFound k bytes q
record_found {of} law make k bytes q fits known e =
    let m = mapped_some make (of bytes) q e in
    let s = law.found bytes m.0 fits m.1 in
    let is = known m.0 in
    subst (λ (x : Request). IsFound k bytes x) m.2 (is.0, record { bounded = is.1; parts = subst (λ (ps : List Part). AreSpelled ps bytes) (sym is.2) s })

named_found : (make : List ℕ → Request) (k : Opcode) (bytes : List ℕ) (q : Request)
    → ((name : List ℕ) → (kind_of (make name) ≡ k) × (is_bounded (make name) ≡ is_name name) × (body_parts (make name) ≡ named name)) → option_map make (name_of bytes) ≡ Some q → IsFound k bytes q
named_found make k bytes q known e =
    let m = mapped_some make (name_of bytes) q e in
    let n = name_found bytes m.0 m.1 in
    let is = known m.0 in
    subst (λ (x : Request). IsFound k bytes x) m.2 (is.0, record { bounded = is.1 ∙ n.0; parts = subst (λ (ps : List Part). AreSpelled ps bytes) (sym is.2) n.1 })

-- ---- WRITE

write_found : (bytes : List ℕ) (q : Request) → IsBytes bytes → write_of bytes ≡ Some q → IsFound opcodes.Write bytes q
unfolding write_of write_with kind_of body_parts is_bounded write_in_of
write_found bytes q fits e =
    let long = went_on (ltb (length bytes) 40) (write_with (write_in_at (take 40 bytes)) (drop 40 bytes)) q e in
    let le : 40 ≤ length bytes = ltb-false _ _ long.0 in
    let h = write_in_at (take 40 bytes) in
    let made = cond_some (eqb h.size (length (drop 40 bytes)) && leb (length (drop 40 bytes)) 1048576) (requests.Write h (drop 40 bytes)) q long.1 in
    let front : length (take 40 bytes) ≡ 40 = omega (arith, length-take 40 bytes) in
    let first : AreSpelled (write_in h) (take 40 bytes) = write_in_law.found (take 40 bytes) h (IsBytes-take 40 bytes fits) (rw (eq-eqb (length (take 40 bytes)) 40 front) refl) in
    let both = joined (write_in h) (Bytes (drop 40 bytes) ∷ []) (take 40 bytes) (drop 40 bytes) first (one_text (drop 40 bytes) (drop 40 bytes) refl) in
    let all : AreSpelled (write_in h ++ Bytes (drop 40 bytes) ∷ []) bytes = subst (λ (xs : List ℕ). AreSpelled (write_in h ++ Bytes (drop 40 bytes) ∷ []) xs) (take-append-drop 40 bytes) both in
    subst (λ (x : Request). IsFound opcodes.Write bytes x) made.1 (refl, record { bounded = made.0; parts = all })

write_again : (h : WriteIn) (text bytes : List ℕ) → SpellsBody (requests.Write h text) bytes → write_of bytes ≡ Some (requests.Write h text)
unfolding write_of write_with body_parts is_bounded write_in_of
write_again h text bytes p =
    let s = split (write_in h) (Bytes text ∷ []) bytes p.parts in
    let len : length s.front ≡ 40 = write_in_law.len h s.front s.front_spelled in
    let front : take 40 bytes ≡ s.front = ap (take 40) s.whole ∙ take_at s.front s.back 40 len in
    let back : drop 40 bytes ≡ text = ap (drop 40) s.whole ∙ drop_at s.front s.back 40 len ∙ one_text_is text s.back s.back_spelled in
    let read = cond_some (eqb (length s.front) 40) (write_in_at s.front) h (write_in_law.again h s.front s.front_spelled) in
    let long : ltb (length bytes) 40 ≡ false = le-ltb _ _ (omega (arith, ap length s.whole, length-append s.front s.back)) in
    let head : write_in_at (take 40 bytes) ≡ h = ap write_in_at front ∙ read.1 in
    rw (long, back) (subst (λ (x : WriteIn). write_with x text ≡ Some (requests.Write h text)) (sym head) (rw p.bounded refl))

-- ---- CREATE

create_found : (bytes : List ℕ) (q : Request) → IsBytes bytes → create_of bytes ≡ Some q → IsFound opcodes.Create bytes q
unfolding create_of kind_of body_parts is_bounded create_in_of
create_found bytes q fits e =
    let h = create_in_at (take 16 bytes) in
    let long = went_on (ltb (length bytes) 16) (option_map (requests.Create h) (name_of (drop 16 bytes))) q e in
    let le : 16 ≤ length bytes = ltb-false _ _ long.0 in
    let m = mapped_some (requests.Create h) (name_of (drop 16 bytes)) q long.1 in
    let n = name_found (drop 16 bytes) m.0 m.1 in
    let front : length (take 16 bytes) ≡ 16 = omega (arith, length-take 16 bytes) in
    let first : AreSpelled (create_in h) (take 16 bytes) = create_in_law.found (take 16 bytes) h (IsBytes-take 16 bytes fits) (rw (eq-eqb (length (take 16 bytes)) 16 front) refl) in
    let both = joined (create_in h) (named m.0) (take 16 bytes) (drop 16 bytes) first n.1 in
    let all : AreSpelled (create_in h ++ named m.0) bytes = subst (λ (xs : List ℕ). AreSpelled (create_in h ++ named m.0) xs) (take-append-drop 16 bytes) both in
    subst (λ (x : Request). IsFound opcodes.Create bytes x) m.2 (refl, record { bounded = n.0; parts = all })

create_again : (h : CreateIn) (name bytes : List ℕ) → SpellsBody (requests.Create h name) bytes → create_of bytes ≡ Some (requests.Create h name)
unfolding create_of body_parts is_bounded create_in_of
create_again h name bytes p =
    let s = split (create_in h) (named name) bytes p.parts in
    let len : length s.front ≡ 16 = create_in_law.len h s.front s.front_spelled in
    let front : take 16 bytes ≡ s.front = ap (take 16) s.whole ∙ take_at s.front s.back 16 len in
    let back : drop 16 bytes ≡ s.back = ap (drop 16) s.whole ∙ drop_at s.front s.back 16 len in
    let read = cond_some (eqb (length s.front) 16) (create_in_at s.front) h (create_in_law.again h s.front s.front_spelled) in
    let long : ltb (length bytes) 16 ≡ false = le-ltb _ _ (omega (arith, ap length s.whole, length-append s.front s.back)) in
    let head : create_in_at (take 16 bytes) ≡ h = ap create_in_at front ∙ read.1 in
    rw (long, back, name_again s.back name p.bounded s.back_spelled) (subst (λ (x : CreateIn). Some (requests.Create x name) ≡ Some (requests.Create h name)) (sym head) refl)

-- ---- BATCH_FORGET

padding_first : (k : ℕ) (ps : List Part) (bytes : List ℕ) → k ≤ length bytes → AreSpelled ps (drop k bytes) → AreSpelled (Unused k ∷ ps) bytes
unfolding AreSpelled
padding_first k ps bytes le h = (take k bytes, drop k bytes, omega (arith, length-take k bytes), sym (take-append-drop k bytes), h)

padding_first_is : (k : ℕ) (ps : List Part) (bytes : List ℕ) → AreSpelled (Unused k ∷ ps) bytes → (k ≤ length bytes) × AreSpelled ps (drop k bytes)
unfolding AreSpelled
padding_first_is k ps bytes (front, rest, len, whole, more) =
    let back : drop k bytes ≡ rest = ap (drop k) whole ∙ drop_at front rest k len in
    (omega (arith, ap length whole, length-append front rest), rw back more)

pairs : IsRecord 16 forget_one (when 16 forget_one_at)
unfolding forget_one_of
pairs = forget_one_law

forgets_found : (bytes : List ℕ) (q : Request) → IsBytes bytes → 40 + length bytes ≤ max_part → forgets_of bytes ≡ Some q → IsFound opcodes.BatchForget bytes q
unfolding forgets_of forgets_with kind_of body_parts is_bounded
forgets_found bytes q fits within e =
    let n = u32_at bytes 0 in
    let read = records_at forget_one_at n (drop 8 bytes) in
    let long = went_on (ltb (length bytes) 8) (forgets_with n (drop 8 bytes)) q e in
    let le : 8 ≤ length bytes = ltb-false _ _ long.0 in
    let made = cond_some (eqb (length (drop 8 bytes)) (16 * n)) (requests.BatchForget read) q long.1 in
    let ones = ones_found forget_one forget_one_at pairs n (drop 8 bytes) (IsBytes-drop 8 bytes fits) (eqb-true _ _ made.0) in
    let rest : AreSpelled (flat_map forget_one read) (drop 4 (drop 4 bytes)) = rw (drop-drop 4 4 bytes) ones.1 in
    let padded = padding_first 4 (flat_map forget_one read) (drop 4 bytes) (omega (arith, length-drop 4 bytes)) rest in
    let all = number_first n (Unused 4 ∷ flat_map forget_one read) bytes fits (omega arith) refl padded in
    let all' : AreSpelled (U32 (length read) ∷ Unused 4 ∷ flat_map forget_one read) bytes = subst (λ (k : ℕ). AreSpelled (U32 k ∷ Unused 4 ∷ flat_map forget_one read) bytes) (sym ones.0) all in
    let bounded : leb (40 + 8 + 16 * length read) 1052672 ≡ true = le-leb _ _ (omega (arith, ones.0, eqb-true _ _ made.0, length-drop 8 bytes)) in
    subst (λ (x : Request). IsFound opcodes.BatchForget bytes x) made.1 (refl, record { bounded = bounded; parts = all' })

forgets_again : (ones : List ForgetOne) (bytes : List ℕ) → SpellsBody (requests.BatchForget ones) bytes → forgets_of bytes ≡ Some (requests.BatchForget ones)
unfolding forgets_of forgets_with body_parts
forgets_again ones bytes p =
    let s = number_first_is (length ones) (Unused 4 ∷ flat_map forget_one ones) bytes p.parts in
    let t = padding_first_is 4 (flat_map forget_one ones) (drop 4 bytes) s.2 in
    let rest : AreSpelled (flat_map forget_one ones) (drop 8 bytes) = rw (← drop-drop 4 4 bytes) t.1 in
    let o = ones_again forget_one forget_one_at pairs ones (drop 8 bytes) rest in
    let long : ltb (length bytes) 8 ≡ false = le-ltb _ _ (omega (arith, s.0, t.0, length-drop 4 bytes)) in
    let count : u32_at bytes 0 ≡ length ones = sym s.1 in
    rw long (subst (λ (k : ℕ). forgets_with k (drop 8 bytes) ≡ Some (requests.BatchForget ones)) (sym count) (rw (eq-eqb _ _ o.0, o.1) refl))

-- ---- REMOVEMAPPING

intervals : IsRecord 16 remove_one (when 16 remove_one_at)
unfolding remove_one_of
intervals = remove_one_law

remove_found : (bytes : List ℕ) (q : Request) → IsBytes bytes → remove_of bytes ≡ Some q → IsFound opcodes.Remove bytes q
unfolding remove_of remove_with kind_of body_parts is_bounded
remove_found bytes q fits e =
    let n = u32_at bytes 0 in
    let read = records_at remove_one_at n (drop 4 bytes) in
    let long = went_on (ltb (length bytes) 4) (remove_with n (drop 4 bytes)) q e in
    let le : 4 ≤ length bytes = ltb-false _ _ long.0 in
    let made = cond_some (leb n 256 && eqb (length (drop 4 bytes)) (16 * n)) (requests.Remove read) q long.1 in
    let tests = and_parts (leb n 256) (eqb (length (drop 4 bytes)) (16 * n)) made.0 in
    let ones = ones_found remove_one remove_one_at intervals n (drop 4 bytes) (IsBytes-drop 4 bytes fits) (eqb-true _ _ tests.1) in
    let all = number_first n (flat_map remove_one read) bytes fits le refl ones.1 in
    let all' : AreSpelled (U32 (length read) ∷ flat_map remove_one read) bytes = subst (λ (k : ℕ). AreSpelled (U32 k ∷ flat_map remove_one read) bytes) (sym ones.0) all in
    let bounded : leb (length read) 256 ≡ true = subst (λ (k : ℕ). leb k 256 ≡ true) (sym ones.0) tests.0 in
    subst (λ (x : Request). IsFound opcodes.Remove bytes x) made.1 (refl, record { bounded = bounded; parts = all' })

remove_again : (ones : List RemoveOne) (bytes : List ℕ) → SpellsBody (requests.Remove ones) bytes → remove_of bytes ≡ Some (requests.Remove ones)
unfolding remove_of remove_with body_parts is_bounded
remove_again ones bytes p =
    let s = number_first_is (length ones) (flat_map remove_one ones) bytes p.parts in
    let o = ones_again remove_one remove_one_at intervals ones (drop 4 bytes) s.2 in
    let long : ltb (length bytes) 4 ≡ false = le-ltb _ _ s.0 in
    let count : u32_at bytes 0 ≡ length ones = sym s.1 in
    let fine : (leb (length ones) 256 && eqb (length (drop 4 bytes)) (16 * length ones)) ≡ true = and_from _ _ p.bounded (eq-eqb _ _ o.0) in
    rw long (subst (λ (k : ℕ). remove_with k (drop 4 bytes) ≡ Some (requests.Remove ones)) (sym count) (rw (fine, o.1) refl))

-- ---- INIT and DESTROY

init_found : (bytes : List ℕ) (q : Request) → IsBytes bytes → option_map requests.Init (init_in_of bytes) ≡ Some q → IsFound opcodes.Init bytes q
unfolding kind_of body_parts is_bounded
init_found bytes q fits e =
    let m = mapped_some requests.Init (init_in_of bytes) q e in
    subst (λ (x : Request). IsFound opcodes.Init bytes x) m.2 (refl, record { bounded = refl; parts = init_in_found bytes m.0 fits m.1 })

destroy_found : (bytes : List ℕ) (q : Request) → cond (eqb (length bytes) 0) (Some requests.Destroy) None ≡ Some q → IsFound opcodes.Destroy bytes q
unfolding kind_of body_parts is_bounded
destroy_found bytes q e =
    let g = cond_some (eqb (length bytes) 0) requests.Destroy q e in
    let nil = nil_from_length bytes (eqb-true _ _ g.0) in
    subst (λ (x : Request). IsFound opcodes.Destroy bytes x) g.1 (refl, record { bounded = refl; parts = subst (λ (xs : List ℕ). AreSpelled [] xs) (sym nil) nothing })

-- ---- all operations

-- a body that is read is one of its operation, and the bytes spell it
pub body_found : (k : Opcode) (bytes : List ℕ) (q : Request) → IsBytes bytes → 40 + length bytes ≤ max_part → body_of k bytes ≡ Some q → IsFound k bytes q
unfolding body_of kind_of body_parts is_bounded
body_found opcodes.Lookup bytes q fits within e = named_found requests.Lookup opcodes.Lookup bytes q (λ name. (refl, refl, refl)) e
body_found opcodes.Forget bytes q fits within e = record_found forget_in_law forget_of opcodes.Forget bytes q fits (λ r. (refl, refl, refl)) e
body_found opcodes.Getattr bytes q fits within e = record_found getattr_in_law requests.Getattr opcodes.Getattr bytes q fits (λ r. (refl, refl, refl)) e
body_found opcodes.Setattr bytes q fits within e = record_found setattr_in_law requests.Setattr opcodes.Setattr bytes q fits (λ r. (refl, refl, refl)) e
body_found opcodes.Unlink bytes q fits within e = named_found requests.Unlink opcodes.Unlink bytes q (λ name. (refl, refl, refl)) e
body_found opcodes.OpenFile bytes q fits within e = record_found open_in_law requests.OpenFile opcodes.OpenFile bytes q fits (λ r. (refl, refl, refl)) e
body_found opcodes.Read bytes q fits within e = record_found read_in_law requests.Read opcodes.Read bytes q fits (λ r. (refl, refl, refl)) e
body_found opcodes.Write bytes q fits within e = write_found bytes q fits e
body_found opcodes.Release bytes q fits within e = record_found release_in_law requests.Release opcodes.Release bytes q fits (λ r. (refl, refl, refl)) e
body_found opcodes.Fsync bytes q fits within e = record_found fsync_in_law requests.Fsync opcodes.Fsync bytes q fits (λ r. (refl, refl, refl)) e
body_found opcodes.Flush bytes q fits within e = record_found flush_in_law requests.Flush opcodes.Flush bytes q fits (λ r. (refl, refl, refl)) e
body_found opcodes.Init bytes q fits within e = init_found bytes q fits e
body_found opcodes.OpenDir bytes q fits within e = record_found open_in_law requests.OpenDir opcodes.OpenDir bytes q fits (λ r. (refl, refl, refl)) e
body_found opcodes.ReadDir bytes q fits within e = record_found read_in_law requests.ReadDir opcodes.ReadDir bytes q fits (λ r. (refl, refl, refl)) e
body_found opcodes.ReleaseDir bytes q fits within e = record_found release_in_law requests.ReleaseDir opcodes.ReleaseDir bytes q fits (λ r. (refl, refl, refl)) e
body_found opcodes.Create bytes q fits within e = create_found bytes q fits e
body_found opcodes.Destroy bytes q fits within e = destroy_found bytes q e
body_found opcodes.BatchForget bytes q fits within e = forgets_found bytes q fits within e
body_found opcodes.Fallocate bytes q fits within e = record_found fallocate_in_law requests.Fallocate opcodes.Fallocate bytes q fits (λ r. (refl, refl, refl)) e
body_found opcodes.Setup bytes q fits within e = record_found setup_in_law requests.Setup opcodes.Setup bytes q fits (λ r. (refl, refl, refl)) e
body_found opcodes.Remove bytes q fits within e = remove_found bytes q fits e

-- bytes that spell a body are read as it
pub body_again : (q : Request) (bytes : List ℕ) → SpellsBody q bytes → body_of (kind_of q) bytes ≡ Some q
unfolding body_of kind_of body_parts is_bounded
body_again (requests.Lookup name) bytes p = ap (option_map requests.Lookup) (name_again bytes name p.bounded p.parts)
body_again (requests.Forget nlookup) bytes p = ap (option_map forget_of) (forget_in_law.again (record { nlookup = nlookup }) bytes p.parts)
body_again (requests.Getattr r) bytes p = ap (option_map requests.Getattr) (getattr_in_law.again r bytes p.parts)
body_again (requests.Setattr r) bytes p = ap (option_map requests.Setattr) (setattr_in_law.again r bytes p.parts)
body_again (requests.Unlink name) bytes p = ap (option_map requests.Unlink) (name_again bytes name p.bounded p.parts)
body_again (requests.OpenFile r) bytes p = ap (option_map requests.OpenFile) (open_in_law.again r bytes p.parts)
body_again (requests.Read r) bytes p = ap (option_map requests.Read) (read_in_law.again r bytes p.parts)
body_again (requests.Write h text) bytes p = write_again h text bytes p
body_again (requests.Release r) bytes p = ap (option_map requests.Release) (release_in_law.again r bytes p.parts)
body_again (requests.Fsync r) bytes p = ap (option_map requests.Fsync) (fsync_in_law.again r bytes p.parts)
body_again (requests.Flush r) bytes p = ap (option_map requests.Flush) (flush_in_law.again r bytes p.parts)
body_again (requests.Init r) bytes p = ap (option_map requests.Init) (init_in_read r bytes p.parts)
body_again (requests.OpenDir r) bytes p = ap (option_map requests.OpenDir) (open_in_law.again r bytes p.parts)
body_again (requests.ReadDir r) bytes p = ap (option_map requests.ReadDir) (read_in_law.again r bytes p.parts)
body_again (requests.ReleaseDir r) bytes p = ap (option_map requests.ReleaseDir) (release_in_law.again r bytes p.parts)
body_again (requests.Create h name) bytes p = create_again h name bytes p
body_again requests.Destroy bytes p = rw (nothing_is bytes p.parts) refl
body_again (requests.BatchForget ones) bytes p = forgets_again ones bytes p
body_again (requests.Fallocate r) bytes p = ap (option_map requests.Fallocate) (fallocate_in_law.again r bytes p.parts)
body_again (requests.Setup r) bytes p = ap (option_map requests.Setup) (setup_in_law.again r bytes p.parts)
body_again (requests.Remove ones) bytes p = remove_again ones bytes p
