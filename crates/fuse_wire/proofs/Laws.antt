-- What is read at the offsets is what is spelled.
use Rattle.std.proofs.Common.{◌≡◌, ℕ, ◌+◌, ◌^◌, ◌<◌, ◌≤◌, List, [], ◌∷◌, ◌++◌, length, get_or, take, drop, refl, sym, ap, subst, ◌∙◌, append_assoc, arith, inl, inr}
use Rattle.std.specs.Prelude.{ℤ, FitsSigned}
use Rattle.std.proofs.lemmas.Int.{ints, to_z-of_z, of_z-to_z}
use Rattle.std.specs.Int.{cast_signed, cast_unsigned, w16, w32, w64, from_le_bytes}
use Rattle.std.proofs.lemmas.List.{append-nil, take_at, drop_at, take-append-drop, length-append, length-take, length-drop, get_or-drop, get_or-take, get_or_past, drop-drop, length-replicate, drop_all}
use Rattle.std.proofs.lemmas.Bool.{cases_lt}
use Rattle.std.proofs.lemmas.Nat.{le_bytes_2, le_bytes_4, le_bytes_8, from_le_bytes-to_le_bytes_2, from_le_bytes-to_le_bytes_4, from_le_bytes-to_le_bytes_8}
use Rattle.fuse_wire.specs.Layout.{Part, U16, U32, U64, I32, Unused, Bytes, Spells, AreSpelled, clean_part, clean, part_len, parts_len, FitsPart, FitsParts}

abbrev pub IsBytes : List ℕ → Type 0
IsBytes bytes = (i : ℕ) → get_or bytes i 0 < 256

pub IsBytes-drop : (n : ℕ) (bytes : List ℕ) → IsBytes bytes → IsBytes (drop n bytes)
IsBytes-drop n bytes h i = rw get_or-drop (h (n + i))

pub IsBytes-take : (n : ℕ) (bytes : List ℕ) → IsBytes bytes → IsBytes (take n bytes)
IsBytes-take n bytes h i =
    elim (cases_lt i n) [
      | inl lt ↦ rw (get_or-take n bytes i 0 lt) (h i)
      | inr le ↦ rw (get_or_past (take n bytes) i 0 (omega (arith, length-take n bytes))) (omega arith)
    ]

-- the value at the front is the part's
abbrev pub IsFirst : Part → List ℕ → Type 0
IsFirst (U16 n) bytes = n ≡ from_le_bytes w16 (take 2 bytes)
IsFirst (U32 n) bytes = n ≡ from_le_bytes w32 (take 4 bytes)
IsFirst (U64 n) bytes = n ≡ from_le_bytes w64 (take 8 bytes)
IsFirst (I32 z) bytes = z ≡ cast_signed w32 (from_le_bytes w32 (take 4 bytes))
IsFirst (Unused k) bytes = Unit {0}
IsFirst (Bytes xs) bytes = xs ≡ take (length xs) bytes

-- each part's value stands at its place
abbrev pub AreAt : List Part → ℕ → List ℕ → Type 0
AreAt [] at bytes = Unit {0}
AreAt (p ∷ ps) at bytes = IsFirst p (drop at bytes) × AreAt ps (at + part_len p) bytes

pub part_len-Spells : (p : Part) (front : List ℕ) → Spells p front → length front ≡ part_len p
part_len-Spells (U16 n) front h = ap length h.1
part_len-Spells (U32 n) front h = ap length h.1
part_len-Spells (U64 n) front h = ap length h.1
part_len-Spells (I32 z) front h = ap length h.1
part_len-Spells (Unused k) front h = h
part_len-Spells (Bytes xs) front h = ap length h

pub spelled_len : (ps : List Part) (bytes : List ℕ) → AreSpelled ps bytes → length bytes ≡ parts_len ps
unfolding AreSpelled
spelled_len [] bytes h = ap length h
spelled_len (p ∷ ps) bytes (front, rest, one, whole, more) =
    omega (arith, ap length whole, length-append front rest, part_len-Spells p front one, spelled_len ps rest more)

bits_below : (z : ℤ) → FitsSigned w32 z → cast_unsigned w32 z < 2 ^ 32
bits_below z h = omega (arith, ints)

cast_fits : (n : ℕ) → n < 2 ^ 32 → FitsSigned w32 (cast_signed w32 n)
cast_fits n h = omega (arith, ints)

-- the part at the front of bytes
pub front_of : (p : Part) (front rest : List ℕ) → Spells p front → IsFirst p (front ++ rest)
front_of (U16 n) front rest h = subst (λ (xs : List ℕ). IsFirst (U16 n) (xs ++ rest)) (sym h.1) (sym (from_le_bytes-to_le_bytes_2 n h.0))
front_of (U32 n) front rest h = subst (λ (xs : List ℕ). IsFirst (U32 n) (xs ++ rest)) (sym h.1) (sym (from_le_bytes-to_le_bytes_4 n h.0))
front_of (U64 n) front rest h = subst (λ (xs : List ℕ). IsFirst (U64 n) (xs ++ rest)) (sym h.1) (sym (from_le_bytes-to_le_bytes_8 n h.0))
front_of (I32 z) front rest h = subst (λ (xs : List ℕ). IsFirst (I32 z) (xs ++ rest)) (sym h.1) (sym (ap (cast_signed w32) (from_le_bytes-to_le_bytes_4 (cast_unsigned w32 z) (bits_below z h.0)) ∙ to_z-of_z w32 z h.0))
front_of (Unused k) front rest h = tt
front_of (Bytes xs) front rest h = rw (h, take_at xs rest (length xs) refl) refl

placed_after : (ps : List Part) (before bytes : List ℕ) (at : ℕ) → length before ≡ at → AreSpelled ps bytes → AreAt ps at (before ++ bytes)
unfolding AreSpelled
placed_after [] before bytes at len h = tt
placed_after (p ∷ ps) before bytes at len (front, rest, one, whole, more) =
    let first : IsFirst p (drop at (before ++ bytes)) = rw (drop_at before bytes at len, whole) (front_of p front rest one) in
    let regrouped : (before ++ front) ++ rest ≡ before ++ bytes = append_assoc before front rest ∙ ap (λ (xs : List ℕ). before ++ xs) (sym whole) in
    let len' : length (before ++ front) ≡ at + part_len p = omega (arith, length-append before front, part_len-Spells p front one) in
    (first, subst (λ (xs : List ℕ). AreAt ps (at + part_len p) xs) regrouped (placed_after ps (before ++ front) rest (at + part_len p) len' more))

-- What is spelled stands at its places.
pub placed : (ps : List Part) (bytes : List ℕ) → AreSpelled ps bytes → AreAt ps 0 bytes
placed ps bytes h = placed_after ps [] bytes 0 refl h

below16 : (bytes : List ℕ) → IsBytes bytes → from_le_bytes w16 bytes < 2 ^ 16
below16 bytes fits = omega (arith, fits 0, fits 1)

below32 : (bytes : List ℕ) → IsBytes bytes → from_le_bytes w32 bytes < 2 ^ 32
below32 bytes fits = omega (arith, fits 0, fits 1, fits 2, fits 3)

below64 : (bytes : List ℕ) → IsBytes bytes → from_le_bytes w64 bytes < 2 ^ 64
below64 bytes fits = omega (arith, fits 0, fits 1, fits 2, fits 3, fits 4, fits 5, fits 6, fits 7)

-- the front of bytes spells a part whose value it has
pub spells_front : (p : Part) (bytes : List ℕ) → IsBytes bytes → part_len p ≤ length bytes → IsFirst p bytes → Spells p (take (part_len p) bytes)
spells_front (U16 n) bytes fits le e =
    (rw e (below16 (take 2 bytes) (IsBytes-take 2 bytes fits)), sym (le_bytes_2 (take 2 bytes) n (omega (arith, length-take 2 bytes)) (IsBytes-take 2 bytes fits) e))
spells_front (U32 n) bytes fits le e =
    (rw e (below32 (take 4 bytes) (IsBytes-take 4 bytes fits)), sym (le_bytes_4 (take 4 bytes) n (omega (arith, length-take 4 bytes)) (IsBytes-take 4 bytes fits) e))
spells_front (U64 n) bytes fits le e =
    (rw e (below64 (take 8 bytes) (IsBytes-take 8 bytes fits)), sym (le_bytes_8 (take 8 bytes) n (omega (arith, length-take 8 bytes)) (IsBytes-take 8 bytes fits) e))
spells_front (I32 z) bytes fits le e =
    let n = from_le_bytes w32 (take 4 bytes) in
    let lt = below32 (take 4 bytes) (IsBytes-take 4 bytes fits) in
    let same : cast_unsigned w32 z ≡ n = ap (cast_unsigned w32) e ∙ of_z-to_z w32 n lt in
    (rw e (cast_fits n lt), sym (le_bytes_4 (take 4 bytes) (cast_unsigned w32 z) (omega (arith, length-take 4 bytes)) (IsBytes-take 4 bytes fits) same))
spells_front (Unused k) bytes fits le e = omega (arith, length-take k bytes)
spells_front (Bytes xs) bytes fits le e = sym e

spelled_from : (ps : List Part) (at : ℕ) (bytes : List ℕ) → IsBytes bytes → at + parts_len ps ≡ length bytes → AreAt ps at bytes → AreSpelled ps (drop at bytes)
unfolding AreSpelled
spelled_from [] at bytes fits len h = drop_all at bytes (omega arith)
spelled_from (p ∷ ps) at bytes fits len h =
    let long : part_len p ≤ length (drop at bytes) = omega (arith, length-drop at bytes) in
    let one = spells_front p (drop at bytes) (IsBytes-drop at bytes fits) long h.0 in
    let more = spelled_from ps (at + part_len p) bytes fits (omega arith) h.1 in
    let rest : AreSpelled ps (drop (part_len p) (drop at bytes)) = rw (drop-drop (part_len p) at bytes) more in
    (take (part_len p) (drop at bytes), drop (part_len p) (drop at bytes), one, sym (take-append-drop (part_len p) (drop at bytes)), rest)

-- What stands at its places, with nothing after it, is spelled.
pub spelled : (ps : List Part) (bytes : List ℕ) → ((i : ℕ) → get_or bytes i 0 < 256) → length bytes ≡ parts_len ps → AreAt ps 0 bytes → AreSpelled ps bytes
spelled ps bytes fits len h = spelled_from ps 0 bytes fits (omega arith) h

-- ---- the places of a tail

pub tail_places : (ps : List Part) (from at : ℕ) (bytes : List ℕ) → AreAt ps at (drop from bytes) → AreAt ps (from + at) bytes
tail_places [] from at bytes h = tt
tail_places (p ∷ ps) from at bytes h = (
  subst (λ (xs : List ℕ). IsFirst p xs) (drop-drop at from bytes) h.0,
  subst (λ (n : ℕ). AreAt ps n bytes) (omega arith) (tail_places ps from (at + part_len p) bytes h.1),
)

pub places_of_tail : (ps : List Part) (from at : ℕ) (bytes : List ℕ) → AreAt ps (from + at) bytes → AreAt ps at (drop from bytes)
places_of_tail [] from at bytes h = tt
places_of_tail (p ∷ ps) from at bytes h = (
  subst (λ (xs : List ℕ). IsFirst p xs) (sym (drop-drop at from bytes)) h.0,
  places_of_tail ps from (at + part_len p) bytes (subst (λ (n : ℕ). AreAt ps n bytes) (omega arith) h.1),
)

-- ---- parts after parts

pub joined : (ps qs : List Part) (a b : List ℕ) → AreSpelled ps a → AreSpelled qs b → AreSpelled (ps ++ qs) (a ++ b)
unfolding AreSpelled
joined [] qs a b h k = subst (λ (xs : List ℕ). AreSpelled qs (xs ++ b)) (sym h) k
joined (p ∷ ps) qs a b (front, rest, one, whole, more) k =
    (front, rest ++ b, one, ap (λ (xs : List ℕ). xs ++ b) whole ∙ append_assoc front rest b, joined ps qs rest b more k)

-- bytes that spell some parts and then others
pub record Split (ps qs : List Part) (bytes : List ℕ) : Type 0 where
  pub front : List ℕ
  pub back : List ℕ
  pub whole : bytes ≡ front ++ back
  pub front_spelled : AreSpelled ps front
  pub back_spelled : AreSpelled qs back

split_more : (p : Part) (ps qs : List Part) (bytes front rest : List ℕ) → Spells p front → bytes ≡ front ++ rest → Split ps qs rest → Split (p ∷ ps) qs bytes
unfolding AreSpelled
split_more p ps qs bytes front rest one whole s = record {
  front = front ++ s.front;
  back = s.back;
  whole = whole ∙ ap (λ (xs : List ℕ). front ++ xs) s.whole ∙ sym (append_assoc front s.front s.back);
  front_spelled = (front, s.front, one, refl, s.front_spelled);
  back_spelled = s.back_spelled;
}

pub split : (ps qs : List Part) (bytes : List ℕ) → AreSpelled (ps ++ qs) bytes → Split ps qs bytes
unfolding AreSpelled
split [] qs bytes h = record { front = []; back = bytes; whole = refl; front_spelled = refl; back_spelled = h }
split (p ∷ ps) qs bytes (front, rest, one, whole, more) = split_more p ps qs bytes front rest one whole (split ps qs rest more)

-- ---- bytes as parts

pub one_text : (xs bytes : List ℕ) → bytes ≡ xs → AreSpelled (Bytes xs ∷ []) bytes
unfolding AreSpelled
one_text xs bytes e = (bytes, [], e, sym (append-nil bytes), refl)

pub one_text_is : (xs bytes : List ℕ) → AreSpelled (Bytes xs ∷ []) bytes → bytes ≡ xs
unfolding AreSpelled
one_text_is xs bytes (front, rest, one, whole, more) = whole ∙ ap (λ (ys : List ℕ). front ++ ys) more ∙ append-nil front ∙ one

pub two_texts : (xs ys bytes : List ℕ) → bytes ≡ xs ++ ys → AreSpelled (Bytes xs ∷ Bytes ys ∷ []) bytes
two_texts xs ys bytes e = subst (λ (zs : List ℕ). AreSpelled (Bytes xs ∷ Bytes ys ∷ []) zs) (sym e) (joined (Bytes xs ∷ []) (Bytes ys ∷ []) xs ys (one_text xs xs refl) (one_text ys ys refl))

pub two_texts_are : (xs ys bytes : List ℕ) → AreSpelled (Bytes xs ∷ Bytes ys ∷ []) bytes → bytes ≡ xs ++ ys
two_texts_are xs ys bytes h =
    let s = split (Bytes xs ∷ []) (Bytes ys ∷ []) bytes h in
    s.whole ∙ ap (λ (zs : List ℕ). zs ++ s.back) (one_text_is xs s.front s.front_spelled) ∙ ap (λ (zs : List ℕ). xs ++ zs) (one_text_is ys s.back s.back_spelled)

pub nothing : AreSpelled [] []
unfolding AreSpelled
nothing = refl

pub nothing_is : (bytes : List ℕ) → AreSpelled [] bytes → bytes ≡ []
unfolding AreSpelled
nothing_is bytes h = h

-- ---- a number at the front

pub number_first : (n : ℕ) (ps : List Part) (bytes : List ℕ) → IsBytes bytes → 4 ≤ length bytes → n ≡ from_le_bytes w32 (take 4 bytes) → AreSpelled ps (drop 4 bytes) → AreSpelled (U32 n ∷ ps) bytes
unfolding AreSpelled
number_first n ps bytes fits le e h = (take 4 bytes, drop 4 bytes, spells_front (U32 n) bytes fits le e, sym (take-append-drop 4 bytes), h)

pub number_first_is : (n : ℕ) (ps : List Part) (bytes : List ℕ) → AreSpelled (U32 n ∷ ps) bytes → (4 ≤ length bytes) × (n ≡ from_le_bytes w32 (take 4 bytes)) × AreSpelled ps (drop 4 bytes)
unfolding AreSpelled
number_first_is n ps bytes (front, rest, one, whole, more) =
    let len : length front ≡ 4 = part_len-Spells (U32 n) front one in
    let back : drop 4 bytes ≡ rest = rw (whole, drop_at front rest 4 len) refl in
    (omega (arith, ap length whole, length-append front rest), subst (λ (xs : List ℕ). IsFirst (U32 n) xs) (sym whole) (front_of (U32 n) front rest one), rw back more)

-- ---- the clean spelling

clean_one : (p : Part) → FitsPart p → Spells p (clean_part p)
clean_one (U16 n) h = (h, refl)
clean_one (U32 n) h = (h, refl)
clean_one (U64 n) h = (h, refl)
clean_one (I32 z) h = (h, refl)
clean_one (Unused k) h = length-replicate k 0
clean_one (Bytes xs) h = refl

pub clean_spells : (ps : List Part) → FitsParts ps → AreSpelled ps (clean ps)
unfolding AreSpelled FitsParts
clean_spells [] h = refl
clean_spells (p ∷ ps) h = (clean_part p, clean ps, clean_one p h.0, refl, clean_spells ps h.1)

pub clean_append : (ps qs : List Part) → clean (ps ++ qs) ≡ clean ps ++ clean qs
clean_append [] qs = refl
clean_append (p ∷ ps) qs = ap (λ (xs : List ℕ). clean_part p ++ xs) (clean_append ps qs) ∙ sym (append_assoc (clean_part p) (clean ps) (clean qs))

pub FitsParts_append : (ps qs : List Part) → FitsParts ps → FitsParts qs → FitsParts (ps ++ qs)
unfolding FitsParts
FitsParts_append [] qs h k = k
FitsParts_append (p ∷ ps) qs h k = (h.0, FitsParts_append ps qs h.1 k)

-- what has a spelling fits
part_fits : (p : Part) (bytes : List ℕ) → Spells p bytes → FitsPart p
part_fits (U16 n) bytes h = h.0
part_fits (U32 n) bytes h = h.0
part_fits (U64 n) bytes h = h.0
part_fits (I32 z) bytes h = h.0
part_fits (Unused k) bytes h = tt
part_fits (Bytes xs) bytes h = tt

pub spelled_fits : (ps : List Part) (bytes : List ℕ) → AreSpelled ps bytes → FitsParts ps
unfolding AreSpelled FitsParts
spelled_fits [] bytes h = tt
spelled_fits (p ∷ ps) bytes (front, rest, one, whole, more) = (part_fits p front one, spelled_fits ps rest more)

clean_part_len : (p : Part) → length (clean_part p) ≡ part_len p
clean_part_len (U16 n) = refl
clean_part_len (U32 n) = refl
clean_part_len (U64 n) = refl
clean_part_len (I32 z) = refl
clean_part_len (Unused k) = length-replicate k 0
clean_part_len (Bytes xs) = refl

pub clean_len : (ps : List Part) → length (clean ps) ≡ parts_len ps
clean_len [] = refl
clean_len (p ∷ ps) = omega (arith, length-append (clean_part p) (clean ps), clean_part_len p, clean_len ps)

pub parts_len_append : (ps qs : List Part) → parts_len (ps ++ qs) ≡ parts_len ps + parts_len qs
parts_len_append [] qs = omega arith
parts_len_append (p ∷ ps) qs = omega (arith, parts_len_append ps qs)

pub text_fits : (xs : List ℕ) → FitsParts (Bytes xs ∷ [])
unfolding FitsParts
text_fits xs = (tt, tt)
