-- What number digits write, and how large it is.
use Rattle.std.proofs.Common.{◌≡◌, ◌∙◌, ap, sym, refl, ℕ, suc, ◌+◌, ◌*◌, ◌-◌, ◌<◌, ◌≤◌, ◌^◌, true, false, List, [], ◌∷◌, ◌++◌, length, get_or, take, drop, Some, None, IfSome, if◌then◌else◌, arith, tests}
use Rattle.std.proofs.Math.Seq.{drop-cons}
use Rattle.std.proofs.Math.ListN.{drop_of_length-le}
use Rattle.std.proofs.lemmas.List.{take-append-drop, take_all}
use Rattle.std.proofs.lemmas.Option.{IfSome_then}
use Rattle.std.proofs.Math.Nat.{mul_assoc, pow-succ', pow-le-pow_right, mul-le-mul_right}
use Rattle.std.specs.Char.{is_ascii_digit}
use Rattle.plain_text.specs.Options.{◌>>=◌}
use Rattle.plain_text.specs.Numbers.{number_after}

pub digit_small : (c : ℕ) → is_ascii_digit c ≡ true → c - 48 ≤ 9
digit_small c is = grind (arith, tests)

-- digits behind those of n write less than n + 1 with so many zeros
pub number_below : (n : ℕ) (w : List ℕ) → IfSome (number_after n w) (λ m. m < (n + 1) * 10 ^ length w)
number_below n [] = omega arith
number_below n (c ∷ cs) =
    elim (is_ascii_digit c) as (λ b. is_ascii_digit c ≡ b → IfSome (if b then number_after (n * 10 + (c - 48)) cs else None) (λ m. m < (n + 1) * 10 ^ length (c ∷ cs))) [
      | true ↦ λ is. IfSome_then (number_after (n * 10 + (c - 48)) cs) (number_below (n * 10 + (c - 48)) cs) (λ m h.
          let front : n * 10 + (c - 48) + 1 ≤ (n + 1) * 10 = omega (arith, digit_small c is) in
          let more : (n * 10 + (c - 48) + 1) * 10 ^ length cs ≤ (n + 1) * 10 * 10 ^ length cs = mul-le-mul_right (10 ^ length cs) front in
          let whole : (n + 1) * 10 ^ length (c ∷ cs) ≡ (n + 1) * 10 * 10 ^ length cs = ap (λ k. (n + 1) * k) (pow-succ' 10 (length cs)) ∙ sym (mul_assoc (n + 1) 10 (10 ^ length cs)) in
          omega (arith, h, more, whole))
      | false ↦ λ _. tt
    ] refl

-- so many digits that come before others of a word of 19 at most write a number that takes one more
abbrev pub IsBegun : List ℕ → List ℕ → ℕ → Type 0
IsBegun w rest n = (k : ℕ) × (k + length rest ≡ length w) × (n < 10 ^ k) × (number_after n rest ≡ number_after 0 w)

pub begun_small : (w rest : List ℕ) (n : ℕ) → length w ≤ 19 → 1 ≤ length rest → IsBegun w rest n → n < 10 ^ 18
begun_small w rest n short some (k, e, below, h) =
    let few : k ≤ 18 = omega (arith, e, short, some) in
    let small : 10 ^ k ≤ 10 ^ 18 = pow-le-pow_right (omega arith) few in
    omega (arith, below, small)

begun_more : (w rest : List ℕ) (c n : ℕ) → is_ascii_digit c ≡ true → IsBegun w (c ∷ rest) n → IsBegun w rest (n * 10 + (c - 48))
begun_more w rest c n is (k, e, below, h) =
    let one : k + 1 ≡ suc k = omega arith in
    let more : 10 ^ (k + 1) ≡ 10 * 10 ^ k = ap (λ j. 10 ^ j) one ∙ pow-succ' 10 k in
    let read : number_after n (c ∷ rest) ≡ number_after (n * 10 + (c - 48)) rest = rw is refl in
    (k + 1, omega (arith, e), omega (arith, below, more, digit_small c is), sym read ∙ h)

pub begun_next : (w rest : List ℕ) (n : ℕ) → 1 ≤ length rest → is_ascii_digit (get_or rest 0 0) ≡ true → IsBegun w rest n → IsBegun w (take (length rest - 1) (drop 1 rest)) (n * 10 + (get_or rest 0 0 - 48))
begun_next w [] n some is begun = absurd (omega (arith, some))
begun_next w (c ∷ cs) n some is begun = rw (take_all (length (c ∷ cs) - 1) cs (omega arith)) (begun_more w cs c n is begun)

pub begun_done : (w rest : List ℕ) (n : ℕ) → length w ≤ 19 → length rest < 1 → IsBegun w rest n → (Some n ≡ number_after 0 w) × (n < 10 ^ 19)
begun_done w (c ∷ cs) n short none begun = absurd (omega (arith, none))
begun_done w [] n short none (k, e, below, h) =
    let few : k ≤ 19 = omega (arith, e, short) in
    let small : 10 ^ k ≤ 10 ^ 19 = pow-le-pow_right (omega arith) few in
    (h, omega (arith, below, small))

number_after-append : (n : ℕ) (xs ys : List ℕ) → number_after n (xs ++ ys) ≡ number_after n xs >>= λ m. number_after m ys
number_after-append n [] ys = refl
number_after-append n (c ∷ xs) ys =
    elim (is_ascii_digit c) as (λ b. (if b then number_after (n * 10 + (c - 48)) (xs ++ ys) else None) ≡ ((if b then number_after (n * 10 + (c - 48)) xs else None) >>= λ m. number_after m ys)) [
      | true ↦ number_after-append (n * 10 + (c - 48)) xs ys
      | false ↦ refl
    ]

-- the number of 20 digits is that of the first 19 with the last one behind it
pub last_digit : (w : List ℕ) (n : ℕ) → length w ≡ 20 → Some n ≡ number_after 0 (take 19 w) → number_after n (get_or w 19 0 ∷ []) ≡ number_after 0 w
last_digit w n twenty e =
    let past : drop 20 w ≡ [] = drop_of_length-le w {i = 20} (omega (arith, twenty)) in
    let last : drop 19 w ≡ get_or w 19 0 ∷ [] = drop-cons w 19 0 (omega (arith, twenty)) ∙ ap (λ xs. get_or w 19 0 ∷ xs) past in
    let whole : number_after 0 w ≡ (number_after 0 (take 19 w) >>= λ m. number_after m (drop 19 w)) = ap (λ xs. number_after 0 xs) (sym (take-append-drop 19 w)) ∙ number_after-append 0 (take 19 w) (drop 19 w) in
    sym (rw (← e, last) at whole)
