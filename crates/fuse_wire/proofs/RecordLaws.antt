-- Reading a record at the offsets is the inverse of its layout.
use Rattle.std.proofs.Common.{rules, ◌≡◌, ℕ, Bool, true, false, cond, eqb, List, length, Option, Some, None, refl, sym, subst, ◌∙◌}
use Rattle.std.proofs.lemmas.Bool.{eqb-true, eq-eqb}
use Rattle.fuse_wire.specs.Layout.{Part, AreSpelled, FitsParts, clean, parts_len}
use Rattle.fuse_wire.specs.Records.{in_header, in_header_at, in_header_of, out_header, out_header_at, out_header_of, read_in, read_in_at, read_in_of, write_in, write_in_at, write_in_of, write_out, write_out_at, write_out_of}
use Rattle.fuse_wire.specs.declared.records.InHeader.{InHeader}
use Rattle.fuse_wire.specs.declared.records.OutHeader.{OutHeader}
use Rattle.fuse_wire.specs.declared.records.ReadIn.{ReadIn}
use Rattle.fuse_wire.specs.declared.records.WriteIn.{WriteIn}
use Rattle.fuse_wire.specs.declared.records.WriteOut.{WriteOut}
use Rattle.fuse_wire.proofs.Laws.{IsBytes, AreAt, spelled, placed, spelled_len, clean_spells}

-- what is read is spelled, and what is spelled is read
pub record IsRecord {R : Type 0} (size : ℕ) (parts : R → List Part) (of : List ℕ → Option R) : Type 0 where
  pub sized : (r : R) → parts_len (parts r) ≡ size
  pub len : (r : R) (bytes : List ℕ) → AreSpelled (parts r) bytes → length bytes ≡ size
  pub found : (bytes : List ℕ) (r : R) → IsBytes bytes → of bytes ≡ Some r → AreSpelled (parts r) bytes
  pub again : (r : R) (bytes : List ℕ) → AreSpelled (parts r) bytes → of bytes ≡ Some r

abbrev pub when : {R : Type 0} → ℕ → (List ℕ → R) → List ℕ → Option R
when size at bytes = cond (eqb (length bytes) size) (Some (at bytes)) None

pub cond_some : {R : Type 0} (b : Bool) (x y : R) → cond b (Some x) None ≡ Some y → (b ≡ true) × (x ≡ y)
cond_some true x y e = (refl, cc)
cond_some false x y e = absurd cc

pub is_record : {R : Type 0} (parts : R → List Part) (at : List ℕ → R) (size : ℕ) → ((r : R) → parts_len (parts r) ≡ size)
    → ((bytes : List ℕ) → AreAt (parts (at bytes)) 0 bytes) → ((r : R) (bytes : List ℕ) → AreAt (parts r) 0 bytes → at bytes ≡ r)
    → IsRecord size parts (when size at)
is_record {R} parts at size sized whole unique = record {
  sized = sized;
  len = λ r bytes h. spelled_len (parts r) bytes h ∙ sized r;
  found = λ bytes r fits e.
      let g = cond_some (eqb (length bytes) size) (at bytes) r e in
      let len : length bytes ≡ parts_len (parts (at bytes)) = eqb-true _ _ g.0 ∙ sym (sized (at bytes)) in
      subst (λ (x : R). AreSpelled (parts x) bytes) g.1 (spelled (parts (at bytes)) bytes fits len (whole bytes));
  again = λ r bytes h.
      let len : length bytes ≡ size = spelled_len (parts r) bytes h ∙ sized r in
      rw (len, eq-eqb size size refl, unique r bytes (placed (parts r) bytes h)) refl;
}

pub in_header_law : IsRecord 40 in_header in_header_of
unfolding in_header_of in_header
in_header_law = is_record in_header in_header_at 40 (λ r. refl) (λ b. search rules) (λ r b h. search rules)

pub read_in_law : IsRecord 40 read_in read_in_of
unfolding read_in_of read_in
read_in_law = is_record read_in read_in_at 40 (λ r. refl) (λ b. search rules) (λ r b h. search rules)

pub write_in_law : IsRecord 40 write_in write_in_of
unfolding write_in_of write_in
write_in_law = is_record write_in write_in_at 40 (λ r. refl) (λ b. search rules) (λ r b h. search rules)

pub out_header_law : IsRecord 16 out_header out_header_of
unfolding out_header_of out_header
out_header_law = is_record out_header out_header_at 16 (λ r. refl) (λ b. search rules) (λ r b h. search rules)

pub write_out_law : IsRecord 8 write_out write_out_of
unfolding write_out_of write_out
write_out_law = is_record write_out write_out_at 8 (λ r. refl) (λ b. search rules) (λ r b h. search rules)

-- ---- reading a record's clean spelling gives the record back

pub clean_again : {R : Type 0} {size : ℕ} {parts : R → List Part} {of : List ℕ → Option R} → IsRecord size parts of
    → (r : R) (bytes : List ℕ) → bytes ≡ clean (parts r) → FitsParts (parts r) → of bytes ≡ Some r
clean_again {parts} law r bytes e fits = law.again r bytes (rw e (clean_spells (parts r) fits))

pub in_header_again : (r : InHeader) (bytes : List ℕ) → bytes ≡ clean (in_header r) → FitsParts (in_header r) → in_header_of bytes ≡ Some r
in_header_again = clean_again in_header_law

pub read_in_again : (r : ReadIn) (bytes : List ℕ) → bytes ≡ clean (read_in r) → FitsParts (read_in r) → read_in_of bytes ≡ Some r
read_in_again = clean_again read_in_law

pub write_in_again : (r : WriteIn) (bytes : List ℕ) → bytes ≡ clean (write_in r) → FitsParts (write_in r) → write_in_of bytes ≡ Some r
write_in_again = clean_again write_in_law

pub out_header_again : (r : OutHeader) (bytes : List ℕ) → bytes ≡ clean (out_header r) → FitsParts (out_header r) → out_header_of bytes ≡ Some r
out_header_again = clean_again out_header_law

pub write_out_again : (r : WriteOut) (bytes : List ℕ) → bytes ≡ clean (write_out r) → FitsParts (write_out r) → write_out_of bytes ≡ Some r
write_out_again = clean_again write_out_law
