-- The bytes of digits: which words have none, and a byte more of a word that has.
use Rattle.std.proofs.Common.{◌≡◌, ◌∙◌, ap, sym, refl, ℕ, zero, suc, ◌+◌, ◌*◌, ◌<◌, ◌≤◌, Bool, true, false, true≢false, ◌&&◌, List, [], ◌∷◌, ◌++◌, length, slice_index, slice_set, take, drop, Option, Some, None, is_some, append-nil, append_assoc, arith}
use Rattle.std.specs.List.{list_all}
use Rattle.std.proofs.lemmas.List.{drop_all, take_all, take_more_set}
use Rattle.hex.proofs.Pairs.{drop-pair}
use Rattle.plain_text.specs.Options.{◌>>=◌}
use Rattle.plain_text.specs.Hexadecimal.{hex_digit, is_digit, hex_pair, hex_pairs}

-- ---- words that write no bytes

abbrev no_bytes : Option (List ℕ)
no_bytes = None

nothing_behind : (o : Option ℕ) → (o >>= λ b. no_bytes) ≡ no_bytes
nothing_behind None = refl
nothing_behind (Some b) = refl

pub odd_refused : (word : List ℕ) (n : ℕ) → length word ≡ 2 * n + 1 → hex_pairs word ≡ None
unfolding hex_pairs
odd_refused [] n e = absurd (omega (arith, e))
odd_refused (a ∷ []) n e = refl
odd_refused (a ∷ b ∷ word) zero e = absurd (omega (arith, e))
odd_refused (a ∷ b ∷ word) (suc n) e = rw (odd_refused word n (omega (arith, e))) (nothing_behind (hex_pair a b))

no_pair : (o p : Option ℕ) → is_some o && is_some p ≡ false → (o >>= λ h. p >>= λ l. Some (h * 16 + l)) ≡ None
no_pair None p e = refl
no_pair (Some h) None e = refl
no_pair (Some h) (Some l) e = absurd (true≢false e)

rest_fails : (s t u : Bool) → s && t ≡ true → s && (t && u) ≡ false → u ≡ false
rest_fails true true u h e = e
rest_fails true false u h e = absurd (true≢false (sym h))
rest_fails false t u h e = absurd (true≢false (sym h))

pub others_refused : (word : List ℕ) → list_all is_digit word ≡ false → hex_pairs word ≡ None
unfolding hex_pairs
others_refused [] e = absurd (true≢false e)
others_refused (a ∷ []) e = refl
others_refused (a ∷ b ∷ word) e = elim (is_digit a && is_digit b) as (λ t. is_digit a && is_digit b ≡ t → hex_pairs (a ∷ b ∷ word) ≡ None) [
  | false ↦ λ f. rw (no_pair (hex_digit a) (hex_digit b) f) refl
  | true ↦ λ t. rw (others_refused word (rest_fails (is_digit a) (is_digit b) (list_all is_digit word) t e)) (nothing_behind (hex_pair a b))
] refl

-- ---- digits, two a byte

-- bytes behind those that stand already
abbrev pub behind : List ℕ → Option (List ℕ) → Option (List ℕ)
behind out bytes = bytes >>= λ bs. Some (out ++ bs)

one_behind : (out : List ℕ) (b : ℕ) (o : Option (List ℕ)) → behind (out ++ b ∷ []) o ≡ behind out (o >>= λ bs. Some (b ∷ bs))
one_behind out b None = refl
one_behind out b (Some bs) = ap Some (append_assoc out (b ∷ []) bs)

one_read : (a b h l : ℕ) (rest : List ℕ) → hex_digit a ≡ Some h → hex_digit b ≡ Some l → hex_pairs (a ∷ b ∷ rest) ≡ (hex_pairs rest >>= λ bs. Some ((h * 16 + l) ∷ bs))
unfolding hex_pairs
one_read a b h l rest e f = rw (e, f) refl

pub pairs_more : (word bytes : List ℕ) (i h l : ℕ) → 2 * i + 1 < length word → i < length bytes → hex_digit (slice_index word (2 * i)) ≡ Some h → hex_digit (slice_index word (2 * i + 1)) ≡ Some l
    → behind (take i bytes) (hex_pairs (drop (2 * i) word)) ≡ hex_pairs word
    → behind (take (i + 1) (slice_set bytes i (h * 16 + l))) (hex_pairs (drop (2 * (i + 1)) word)) ≡ hex_pairs word
pairs_more word bytes i h l within room e f before =
    let front = take_more_set bytes i (h * 16 + l) room in
    let rest : List ℕ = drop (2 * (i + 1)) word in
    rw front (one_behind (take i bytes) (h * 16 + l) (hex_pairs rest)
    ∙ ap (λ o. behind (take i bytes) o) (sym (ap hex_pairs (drop-pair word i within) ∙ one_read _ _ h l rest e f)) ∙ before)

pub pairs_done : (word bytes : List ℕ) (i : ℕ) → length bytes ≤ i → length word ≡ 2 * length bytes
    → behind (take i bytes) (hex_pairs (drop (2 * i) word)) ≡ hex_pairs word → hex_pairs word ≡ Some bytes
unfolding hex_pairs
pairs_done word bytes i all len before =
    let none = drop_all (2 * i) word (omega (arith, all, len)) in
    let whole = take_all i bytes all in
    let last : behind (take i bytes) (hex_pairs (drop (2 * i) word)) ≡ Some bytes = rw (none, whole) (ap Some (append-nil bytes)) in
    sym before ∙ last
