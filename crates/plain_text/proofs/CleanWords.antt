-- The words that are printed have no space and no line end, and are read as what they say.
use Rattle.std.proofs.Common.{◌≡◌, ◌∙◌, ap, refl, ℕ, zero, suc, ◌+◌, ◌*◌, ◌-◌, ◌/◌, ◌%◌, ◌<◌, ◌≤◌, ◌^◌, ◌==◌, ◌&&◌, Bool, true, false, List, [], ◌∷◌, length, get_or, slice_index, nat_lt, Option, Some, None, decimal, inl, inr, arith, tests}
use Rattle.std.proofs.lemmas.Grind.{common_steps}
use Rattle.std.proofs.lemmas.Bool.{and_parts, cases_lt}
use Rattle.std.specs.List.{AllByRecursion, list_all}
use Rattle.std.specs.Char.{is_ascii_digit, digit_value}
use Rattle.std.specs.Str.{bytes_eq}
use Rattle.std.specs.Str.Parse.{digits_value_after, AllDigits}
use Rattle.std.proofs.lemmas.Fmt.{decimal_is_IsNumeral, first_decimal, decimal_digit, length-decimal-le}
use Rattle.std.proofs.lemmas.Str.{digit_value_digit}
use Rattle.std.proofs.lemmas.Str.Parse.{digit_from_value}
use Rattle.hex.specs.Hex.{encode_with, encode_lower, lower_digits}
use Rattle.plain_text.specs.Numbers.{number_of, number_after, number_within}
use Rattle.plain_text.specs.Hexadecimal.{hex_digit, hex_pair, hex_pairs, hex_of, hex_byte_of}

-- each byte is behind the space
abbrev pub IsCleanWord : List ℕ → Type 0
IsCleanWord w = AllByRecursion (λ b. 32 < b) w

-- a word all of whose bytes pass a test that only such bytes pass
pub clean_from_test : (test : ℕ → Bool) → ((b : ℕ) → test b ≡ true → 32 < b) → (w : List ℕ) → list_all test w ≡ true → IsCleanWord w
clean_from_test test h [] e = tt
clean_from_test test h (b ∷ w) e = let parts = and_parts (test b) (list_all test w) e in (h b parts.0, clean_from_test test h w parts.1)

behind_space : (b : ℕ) → nat_lt 32 b ≡ true → 32 < b
behind_space b e = grind (arith, tests)

-- a literal word, by a test that computes
pub clean_literal : (w : List ℕ) → list_all (λ b. nat_lt 32 b) w ≡ true → IsCleanWord w
clean_literal w e = clean_from_test (λ b. nat_lt 32 b) behind_space w e

-- ---- numbers

clean_digits : (ds : List ℕ) → AllDigits 10 ds → IsCleanWord ds
clean_digits [] h = tt
clean_digits (c ∷ ds) h = let r = digit_from_value c h.0 in (omega arith, clean_digits ds h.1)

pub clean_decimal : (n : ℕ) → n < 2 ^ 64 → IsCleanWord (decimal n)
clean_decimal n h = clean_digits (decimal n) (decimal_is_IsNumeral n h).0.1

-- a number is no word that begins with a letter
digits_differ : (w : List ℕ) → 0 < length w → AllDigits 10 w → (c : ℕ) (cs : List ℕ) → 57 < c → bytes_eq w (c ∷ cs) ≡ false
digits_differ [] some h c cs letter = absurd (omega arith)
digits_differ (d ∷ ds) some h c cs letter =
    let r = digit_from_value d h.0 in
    let differs : (d == c) ≡ false = grind arith in
    rw differs refl

pub decimal_differs : (n : ℕ) → n < 2 ^ 64 → (c : ℕ) (cs : List ℕ) → 57 < c → bytes_eq (decimal n) (c ∷ cs) ≡ false
decimal_differs n h c cs letter = let numeral = (decimal_is_IsNumeral n h).0 in digits_differ (decimal n) numeral.0 numeral.1 c cs letter

-- a digit is read as its value
digit_is : (c : ℕ) → digit_value c < 10 → (is_ascii_digit c ≡ true) × (c - 48 ≡ digit_value c)
digit_is c h =
    let r = digit_from_value c h in
    let d : digit_value c + 48 ≡ c = digit_value_digit c r in
    (grind (arith, common_steps, tests), omega (arith, d))

-- the digits of a number are read as its value
number_after_is : (n : ℕ) (ds : List ℕ) → AllDigits 10 ds → number_after n ds ≡ Some (digits_value_after 10 n ds)
number_after_is n [] h = refl
number_after_is n (c ∷ ds) h =
    let (is, v) = digit_is c h.0 in
    rw is (ap (λ d. number_after (n * 10 + d) ds) v ∙ number_after_is (n * 10 + digit_value c) ds h.1)

number_of_is : (w : List ℕ) → 0 < length w → length w ≤ 20 → (get_or w 0 0 ≡ 48 → length w ≡ 1) → number_of w ≡ number_after 0 w
unfolding number_of
number_of_is w some few first = grind (arith, common_steps, tests)

first_of_decimal : (n : ℕ) → n < 2 ^ 64 → get_or (decimal n) 0 0 ≡ 48 → length (decimal n) ≡ 1
first_of_decimal zero h e = ap length (decimal_digit 0 (omega arith))
first_of_decimal (suc n) h e = absurd (omega (arith, first_decimal (suc n) (omega arith) h, e))

pub number_of-decimal : (n : ℕ) → n < 2 ^ 64 → number_of (decimal n) ≡ Some n
number_of-decimal n h =
    let (numeral, value) = decimal_is_IsNumeral n h in
    number_of_is (decimal n) numeral.0 (length-decimal-le 20 n (omega arith) (omega arith) h) (first_of_decimal n h)
    ∙ number_after_is 0 (decimal n) numeral.1 ∙ ap Some value

pub number_within-decimal : (n limit : ℕ) → n ≤ limit → n < 2 ^ 64 → number_within (decimal n) limit ≡ Some n
unfolding number_within
number_within-decimal n limit fits h =
    let below : nat_lt limit n ≡ false = grind (arith, tests) in
    rw (number_of-decimal n h, below) refl

-- ---- bytes in hexadecimal

-- the first n numbers pass a test
abbrev all_below : (ℕ → Bool) → ℕ → Bool
all_below test zero = true
all_below test (suc n) = test n && all_below test n

all_below-at : (test : ℕ → Bool) (n k : ℕ) → all_below test n ≡ true → k < n → test k ≡ true
all_below-at test zero k h lt = absurd (omega arith)
all_below-at test (suc n) k h lt =
    let parts = and_parts (test n) (all_below test n) h in
    elim (cases_lt k n) [
      | inl below ↦ all_below-at test n k parts.1 below
      | inr top ↦
          let e : k ≡ n = omega arith in
          rw e parts.0
    ]

-- a digit of 0 to 15 is behind the space, and reads as itself
lower_clean : (d : ℕ) → d < 16 → 32 < slice_index lower_digits d
lower_clean d h = behind_space (slice_index lower_digits d) (all_below-at (λ k. nat_lt 32 (slice_index lower_digits k)) 16 d refl h)

abbrev is_digit_of : ℕ → Option ℕ → Bool
is_digit_of d None = false
is_digit_of d (Some v) = v == d

digit_of : (d : ℕ) (o : Option ℕ) → is_digit_of d o ≡ true → o ≡ Some d
digit_of d None e = grind arith
digit_of d (Some v) e = let same : v ≡ d = grind arith in ap Some same

hex_digit-lower : (d : ℕ) → d < 16 → hex_digit (slice_index lower_digits d) ≡ Some d
hex_digit-lower d h = digit_of d (hex_digit (slice_index lower_digits d)) (all_below-at (λ k. is_digit_of k (hex_digit (slice_index lower_digits k))) 16 d refl h)

hex_pair-lower : (b : ℕ) → b < 256 → hex_pair (slice_index lower_digits (b / 16)) (slice_index lower_digits (b % 16)) ≡ Some b
hex_pair-lower b h =
    let same : b / 16 * 16 + b % 16 ≡ b = omega arith in
    rw (hex_digit-lower (b / 16) (omega (arith, h)), hex_digit-lower (b % 16) (omega arith)) (ap Some same)

pub clean_hex : (bytes : List ℕ) → AllByRecursion (λ b. b < 256) bytes → IsCleanWord (encode_lower bytes)
unfolding encode_with
clean_hex [] h = tt
clean_hex (b ∷ bytes) h = (lower_clean (b / 16) (omega (arith, h.0)), (lower_clean (b % 16) (omega arith), clean_hex bytes h.1))

pub hex_pairs-encode_lower : (bytes : List ℕ) → AllByRecursion (λ x. x < 256) bytes → hex_pairs (encode_lower bytes) ≡ Some bytes
unfolding encode_with hex_pairs
hex_pairs-encode_lower [] h = refl
hex_pairs-encode_lower (b ∷ bytes) h = rw (hex_pair-lower b h.0, hex_pairs-encode_lower bytes h.1) refl

some_digits : (b : ℕ) (bytes : List ℕ) → (length (encode_lower (b ∷ bytes)) == 0) ≡ false
unfolding encode_with
some_digits b bytes = grind arith

pub hex_of-encode_lower : (b : ℕ) (bytes : List ℕ) → AllByRecursion (λ x. x < 256) (b ∷ bytes) → hex_of (encode_lower (b ∷ bytes)) ≡ Some (b ∷ bytes)
unfolding hex_of
hex_of-encode_lower b bytes h = rw (some_digits b bytes) (hex_pairs-encode_lower (b ∷ bytes) h)

pub hex_byte_of-encode_lower : (b : ℕ) → b < 256 → hex_byte_of (encode_lower (b ∷ [])) ≡ Some b
unfolding hex_byte_of encode_with
hex_byte_of-encode_lower b h = hex_pair-lower b h
