-- Records of 16 bytes one after another: reading them and writing them.
use Rattle.std.proofs.Common.{◌≡◌, ℕ, zero, suc, ◌+◌, ◌-◌, ◌*◌, ◌<◌, ◌≤◌, eqb, List, [], ◌∷◌, ◌++◌, length, get_or, take, drop, Option, Some, refl, sym, subst, ◌∙◌, ap, append_assoc, arith}
use Rattle.std.specs.List.{flat_map}
use Rattle.std.proofs.lemmas.Bool.{eq-eqb}
use Rattle.std.proofs.lemmas.List.{append-nil, nil_from_length, length-take, length-drop, drop_more, drop_all, take_more, take_all, length-append, take-append-drop, take_at, drop_at}
use Rattle.std.proofs.lemmas.List.Concat.{flat_map-cons}
use Rattle.std.proofs.lemmas.Grind.{flat_map-append}
use Rattle.fuse_wire.specs.Layout.{Part, AreSpelled, clean, FitsParts, parts_len}
use Rattle.fuse_wire.proofs.Laws.{clean_append, FitsParts_append, parts_len_append, IsBytes, IsBytes-take, IsBytes-drop, joined, split, nothing, nothing_is}
use Rattle.fuse_wire.proofs.RecordLaws.{IsRecord, when, cond_some}
use Rattle.fuse_codec.specs.Reading.{records_at}

-- ---- reading, from turn to turn

pub read_more : {R : Type 0} (at : List ℕ → R) (front : List R) (count i : ℕ) (bytes : List ℕ) (total : List R) → i < count → front ++ records_at at (count - i) bytes ≡ total
    → (front ++ at (take 16 bytes) ∷ []) ++ records_at at (count - (i + 1)) (drop 16 bytes) ≡ total
unfolding records_at
read_more at front count i bytes total lt so_far =
    let k : count - i ≡ suc (count - (i + 1)) = omega arith in
    let opened : front ++ records_at at (suc (count - (i + 1))) bytes ≡ total = rw k at so_far in
    append_assoc front (at (take 16 bytes) ∷ []) (records_at at (count - (i + 1)) (drop 16 bytes)) ∙ opened

pub read_end : {R : Type 0} (at : List ℕ → R) (front : List R) (count i : ℕ) (bytes : List ℕ) (total : List R) → count ≤ i → front ++ records_at at (count - i) bytes ≡ total → front ≡ total
unfolding records_at
read_end at front count i bytes total le so_far =
    let k : count - i ≡ 0 = omega arith in
    let opened : front ++ records_at at 0 bytes ≡ total = rw k at so_far in
    sym (append-nil front) ∙ opened

-- the same, with the record as it was read
pub read_step : {R : Type 0} (at : List ℕ → R) (front : List R) (count i : ℕ) (bytes head : List ℕ) (one : R) (total : List R) → i < count → head ≡ take 16 bytes → when 16 at head ≡ Some one
    → front ++ records_at at (count - i) bytes ≡ total → (front ++ one ∷ []) ++ records_at at (count - (i + 1)) (drop 16 bytes) ≡ total
read_step {R} at front count i bytes head one total lt head-is e so_far =
    let g = cond_some (eqb (length head) 16) (at head) one e in
    let is : at (take 16 bytes) ≡ one = subst (λ (xs : List ℕ). at xs ≡ one) head-is g.1 in
    subst (λ (x : R). (front ++ x ∷ []) ++ records_at at (count - (i + 1)) (drop 16 bytes) ≡ total) is (read_more at front count i bytes total lt so_far)

-- ---- what is read is spelled, and what is spelled is read

pub ones_found : {R : Type 0} (parts : R → List Part) (at : List ℕ → R) → IsRecord 16 parts (when 16 at) → (count : ℕ) (bytes : List ℕ) → IsBytes bytes → length bytes ≡ 16 * count
    → (length (records_at at count bytes) ≡ count) × AreSpelled (flat_map parts (records_at at count bytes)) bytes
unfolding records_at
ones_found parts at law zero bytes fits len = (refl, subst (λ (xs : List ℕ). AreSpelled [] xs) (sym (nil_from_length bytes (omega arith))) nothing)
ones_found parts at law (suc n) bytes fits len =
    let front : length (take 16 bytes) ≡ 16 = omega (arith, length-take 16 bytes) in
    let first : AreSpelled (parts (at (take 16 bytes))) (take 16 bytes) = law.found (take 16 bytes) (at (take 16 bytes)) (IsBytes-take 16 bytes fits) (rw (eq-eqb (length (take 16 bytes)) 16 front) refl) in
    let more = ones_found parts at law n (drop 16 bytes) (IsBytes-drop 16 bytes fits) (omega (arith, length-drop 16 bytes)) in
    let both = joined (parts (at (take 16 bytes))) (flat_map parts (records_at at n (drop 16 bytes))) (take 16 bytes) (drop 16 bytes) first more.1 in
    (ap suc more.0, rw flat_map-cons (subst (λ (xs : List ℕ). AreSpelled (parts (at (take 16 bytes)) ++ flat_map parts (records_at at n (drop 16 bytes))) xs) (take-append-drop 16 bytes) both))

pub ones_again : {R : Type 0} (parts : R → List Part) (at : List ℕ → R) → IsRecord 16 parts (when 16 at) → (ones : List R) (bytes : List ℕ) → AreSpelled (flat_map parts ones) bytes
    → (length bytes ≡ 16 * length ones) × (records_at at (length ones) bytes ≡ ones)
unfolding records_at
ones_again parts at law [] bytes h = (ap length (nothing_is bytes h), refl)
ones_again parts at law (x ∷ xs) bytes h =
    let s = split (parts x) (flat_map parts xs) bytes h in
    let len : length s.front ≡ 16 = law.len x s.front s.front_spelled in
    let g = cond_some (eqb (length s.front) 16) (at s.front) x (law.again x s.front s.front_spelled) in
    let more = ones_again parts at law xs s.back s.back_spelled in
    let front : take 16 bytes ≡ s.front = ap (take 16) s.whole ∙ take_at s.front s.back 16 len in
    let back : drop 16 bytes ≡ s.back = ap (drop 16) s.whole ∙ drop_at s.front s.back 16 len in
    (omega (arith, ap length s.whole, length-append s.front s.back, more.0, len), rw (front, back, g.1, more.1) refl)

-- ---- writing, from turn to turn

pub put_more : {R : Type 0} (parts : R → List Part) (out : List ℕ) (ones : List R) (i : ℕ) (one : R) (total : List ℕ) → i < length ones → out ++ clean (flat_map parts (drop i ones)) ≡ total
    → (out ++ clean (parts (get_or ones i one))) ++ clean (flat_map parts (drop (i + 1) ones)) ≡ total
put_more {R} parts out ones i one total lt so_far =
    let x = get_or ones i one in
    let rest = drop (i + 1) ones in
    let opened : clean (flat_map parts (drop i ones)) ≡ clean (parts x) ++ clean (flat_map parts rest) =
    ap (λ (xs : List R). clean (flat_map parts xs)) (drop_more ones i one lt) ∙ ap clean (flat_map-cons parts x rest) ∙ clean_append (parts x) (flat_map parts rest) in
    append_assoc out (clean (parts x)) (clean (flat_map parts rest)) ∙ ap (λ (xs : List ℕ). out ++ xs) (sym opened) ∙ so_far

pub put_end : {R : Type 0} (parts : R → List Part) (out : List ℕ) (ones : List R) (i : ℕ) (total : List ℕ) → length ones ≤ i → out ++ clean (flat_map parts (drop i ones)) ≡ total → out ≡ total
put_end parts out ones i total le so_far =
    let opened : out ++ clean (flat_map parts []) ≡ total = rw (drop_all i ones le) at so_far in
    sym (append-nil out) ∙ opened

-- ---- the numbers of records, from turn to turn

pub fits_none : FitsParts []
unfolding FitsParts
fits_none = tt

pub fits_more : {R : Type 0} (parts : R → List Part) (ones : List R) (i : ℕ) (one : R) → i < length ones → FitsParts (flat_map parts (take i ones)) → FitsParts (parts (get_or ones i one)) → FitsParts (flat_map parts (take (i + 1) ones))
fits_more parts ones i one lt before now =
    let x = get_or ones i one in
    let both = FitsParts_append (flat_map parts (take i ones)) (parts x) before now in
    let last : flat_map parts (x ∷ []) ≡ parts x = flat_map-cons parts x [] ∙ append-nil (parts x) in
    rw (take_more ones i one lt, flat_map-append parts (take i ones) (x ∷ []), last) both

pub fits_all : {R : Type 0} (parts : R → List Part) (ones : List R) (i : ℕ) → length ones ≤ i → FitsParts (flat_map parts (take i ones)) → FitsParts (flat_map parts ones)
fits_all parts ones i le h = rw (take_all i ones le) at h

-- ---- how many bytes they take

pub ones_len : {R : Type 0} {of : List ℕ → Option R} (parts : R → List Part) → IsRecord 16 parts of → (ones : List R) → parts_len (flat_map parts ones) ≡ 16 * length ones
ones_len parts law [] = refl
ones_len parts law (x ∷ xs) = omega (arith, ap parts_len (flat_map-cons parts x xs), parts_len_append (parts x) (flat_map parts xs), law.sized x, ones_len parts law xs)
