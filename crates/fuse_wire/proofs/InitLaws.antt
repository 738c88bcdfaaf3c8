-- Reading the two records of INIT at the offsets is the inverse of their layouts.
use Rattle.std.proofs.Common.{rules, ◌≡◌, ℕ, List, length, refl, sym, Bool, true, false, cond, eqb, Option, Some, None, subst, ◌∷◌, inl, inr, ◌⊎◌}
use Rattle.std.proofs.lemmas.Bool.{eqb-true}
use Rattle.fuse_wire.specs.Layout.{U32, AreSpelled, FitsParts, clean}
use Rattle.fuse_wire.specs.Inits.{init_out, init_out_at, init_out_of, init_in, init_in_at, init_in_of, init_more}
use Rattle.fuse_wire.specs.Records.{u32_at}
use Rattle.fuse_wire.proofs.Laws.{IsBytes, spelled, placed, spelled_len, clean_spells}
use Rattle.fuse_wire.specs.declared.inits.InitOut.{InitOut}
use Rattle.fuse_wire.specs.declared.inits.InitIn.{InitIn}
use Rattle.fuse_wire.proofs.RecordLaws.{IsRecord, is_record, clean_again, cond_some}

pub init_out_law : IsRecord 64 init_out init_out_of
unfolding init_out_of init_out
init_out_law = is_record init_out init_out_at 64 (λ r. refl) (λ b. search rules depth 40) (λ r b h. λ i. record { major = sym h.0 i; minor = sym h.1.0 i; max_readahead = sym h.1.1.0 i; flags = sym h.1.1.1.0 i; max_background = sym h.1.1.1.1.0 i; congestion_threshold = sym h.1.1.1.1.1.0 i; max_write = sym h.1.1.1.1.1.1.0 i; time_gran = sym h.1.1.1.1.1.1.1.0 i; max_pages = sym h.1.1.1.1.1.1.1.1.0 i; map_alignment = sym h.1.1.1.1.1.1.1.1.1.0 i; flags2 = sym h.1.1.1.1.1.1.1.1.1.1.0 i })

pub init_out_len : (r : InitOut) (bytes : List ℕ) → AreSpelled (init_out r) bytes → length bytes ≡ 64
init_out_len = init_out_law.len

pub init_out_again : (r : InitOut) (bytes : List ℕ) → bytes ≡ clean (init_out r) → FitsParts (init_out r) → init_out_of bytes ≡ Some r
init_out_again = clean_again init_out_law

-- ---- the record of two lengths

either : {R : Type 0} (b : Bool) (x y : R) (rest : Option R) → cond b (Some x) rest ≡ Some y → ((b ≡ true) × (x ≡ y)) ⊎ ((b ≡ false) × (rest ≡ Some y))
either true x y rest e = inl (refl, cc)
either false x y rest e = inr (refl, e)

-- what is read is spelled
pub init_in_found : (bytes : List ℕ) (r : InitIn) → IsBytes bytes → init_in_of bytes ≡ Some r → AreSpelled (init_in r) bytes
unfolding init_in_of init_in
init_in_found bytes r fits e =
    let short = init_in_at bytes None in
    let long = init_in_at bytes (Some (u32_at bytes 16)) in
    elim (either (eqb (length bytes) 16) short r (cond (eqb (length bytes) 64) (Some long) None) e) [
      | inl h ↦ subst (λ (x : InitIn). AreSpelled (init_in x) bytes) h.1 (spelled (init_in short) bytes fits (eqb-true _ _ h.0) (search rules))
      | inr h ↦
          let g = cond_some (eqb (length bytes) 64) long r h.1 in
          subst (λ (x : InitIn). AreSpelled (init_in x) bytes) g.1 (spelled (init_in long) bytes fits (eqb-true _ _ g.0) (search rules))
    ]

read_by : (o : Option ℕ) (r : InitIn) (bytes : List ℕ) → r.flags2 ≡ o → AreSpelled (init_in r) bytes → init_in_of bytes ≡ Some r
unfolding init_in_of init_in
read_by None r bytes is h =
    let h' = subst (λ (x : Option ℕ). AreSpelled (U32 r.major ∷ U32 r.minor ∷ U32 r.max_readahead ∷ U32 r.flags ∷ init_more x) bytes) is h in
    let len : length bytes ≡ 16 = spelled_len _ bytes h' in
    let p = placed _ bytes h' in
    rw len (search (rules, p, is))
read_by (Some flags2) r bytes is h =
    let h' = subst (λ (x : Option ℕ). AreSpelled (U32 r.major ∷ U32 r.minor ∷ U32 r.max_readahead ∷ U32 r.flags ∷ init_more x) bytes) is h in
    let len : length bytes ≡ 64 = spelled_len _ bytes h' in
    let p = placed _ bytes h' in
    rw len (search (rules, p, is))

-- what is spelled is read
pub init_in_read : (r : InitIn) (bytes : List ℕ) → AreSpelled (init_in r) bytes → init_in_of bytes ≡ Some r
init_in_read r bytes h = read_by r.flags2 r bytes refl h

pub init_in_again : (r : InitIn) (bytes : List ℕ) → bytes ≡ clean (init_in r) → FitsParts (init_in r) → init_in_of bytes ≡ Some r
init_in_again r bytes e fits = init_in_read r bytes (rw e (clean_spells (init_in r) fits))
