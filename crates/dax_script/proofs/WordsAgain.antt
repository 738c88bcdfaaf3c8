-- Words that are printed are read as what they say.
use Rattle.std.proofs.Common.{◌≡◌, ◌∙◌, ap, refl, ℕ, zero, suc, ◌+◌, ◌<◌, ◌^◌, ◌&&◌, not, Bool, true, false, nat_lt, nat_le, List, [], ◌∷◌, ◌++◌, length, decimal, Some, Ok, arith, tests}
use Rattle.std.proofs.lemmas.Grind.{common_steps}
use Rattle.std.proofs.lemmas.Bool.{and_parts}
use Rattle.std.specs.List.{AllByRecursion, list_any, position_from}
use Rattle.std.specs.Str.{bytes_eq}
use Rattle.hex.specs.Hex.{encode_lower}
use Rattle.plain_file.specs.Limits.{max_transfer}
use Rattle.plain_text.proofs.CleanWords.{number_of-decimal, hex_of-encode_lower, hex_byte_of-encode_lower}
use Rattle.page_map.specs.declared.pages.Mode.{Mode}
use Rattle.page_map.specs.declared.pages.Mode.TheVariants as modes
use Rattle.dax_script.specs.declared.scripts.FileLine.{FileLine}
use Rattle.dax_script.specs.ScriptWords.{number, between, hex, byte, mode, is_called, file_named}
use Rattle.dax_script.specs.ScriptPrinted.{mode_word, name_at}
use Rattle.dax_script.specs.Fits.{are_bytes, file_fits, files_fit}

pub number_again : (n : ℕ) → n < 2 ^ 64 → number (decimal n) ≡ Ok n
unfolding number
number_again n h = rw (number_of-decimal n h) refl

pub between_again : (low high n : ℕ) → n < 2 ^ 64 → nat_le low n && nat_le n high ≡ true → between low high (decimal n) ≡ Ok n
unfolding between
between_again low high n h e = rw (number_again n h, e) refl

pub all_bytes : (bytes : List ℕ) → are_bytes bytes ≡ true → AllByRecursion (λ b. b < 256) bytes
all_bytes [] e = tt
all_bytes (b ∷ bytes) e =
    let parts = and_parts (nat_lt b 256) (are_bytes bytes) e in
    let small : b < 256 = grind (arith, tests, parts.0) in
    (small, all_bytes bytes parts.1)

pub hex_again : (bytes : List ℕ) → are_bytes bytes ≡ true → nat_le 1 (length bytes) ≡ true → nat_le (length bytes) max_transfer ≡ true → hex (encode_lower bytes) ≡ Ok bytes
unfolding hex
hex_again [] e some few = absurd (grind (arith, tests, some))
hex_again (b ∷ bytes) e some few = rw (hex_of-encode_lower b bytes (all_bytes (b ∷ bytes) e), few) refl

pub byte_again : (b : ℕ) → nat_lt b 256 ≡ true → byte (encode_lower (b ∷ [])) ≡ Ok b
unfolding byte
byte_again b e = let small : b < 256 = grind (arith, tests, e) in rw (hex_byte_of-encode_lower b small) refl

pub mode_again : (m : Mode) → mode (mode_word m) ≡ Ok m
unfolding mode mode_word
mode_again modes.R = refl
mode_again modes.W = refl

-- ---- names of files, of which no two are one

name_itself : (w : List ℕ) → bytes_eq w w ≡ true
name_itself [] = refl
name_itself (b ∷ w) = grind (arith, tests, name_itself w)

any_front : (f : FileLine → Bool) (xs : List FileLine) (x : FileLine) → list_any f (xs ++ x ∷ []) ≡ false → (list_any f xs ≡ false) × (f x ≡ false)
any_front f xs x e = (grind (arith, common_steps, e), grind (arith, common_steps, e))

-- a later file has no name of one before it
absent : (before files : List FileLine) (i : ℕ) → files_fit before files ≡ true → i < length files → list_any (is_called (name_at files i)) before ≡ false
absent before [] i e h = absurd (omega (arith, h))
absent before (f ∷ files) zero e h =
    let parts = and_parts (file_fits f && not (list_any (is_called f.name) before)) (files_fit (before ++ f ∷ []) files) e in
    let own = and_parts (file_fits f) (not (list_any (is_called f.name) before)) parts.0 in
    grind (arith, tests, own.1)
absent before (f ∷ files) (suc i) e h =
    let parts = and_parts (file_fits f && not (list_any (is_called f.name) before)) (files_fit (before ++ f ∷ []) files) e in
    (any_front (is_called (name_at files i)) before f (absent (before ++ f ∷ []) files i parts.1 (omega (arith, h)))).0

place_again : (before files : List FileLine) (n i : ℕ) → files_fit before files ≡ true → i < length files → position_from (is_called (name_at files i)) n files ≡ Some (n + i)
place_again before [] n i e h = absurd (omega (arith, h))
place_again before (f ∷ files) n zero e h = let same : n ≡ n + 0 = omega arith in rw (name_itself f.name) (ap Some same)
place_again before (f ∷ files) n (suc i) e h =
    let parts = and_parts (file_fits f && not (list_any (is_called f.name) before)) (files_fit (before ++ f ∷ []) files) e in
    let other : is_called (name_at files i) f ≡ false = (any_front (is_called (name_at files i)) before f (absent (before ++ f ∷ []) files i parts.1 (omega (arith, h)))).1 in
    let same : n + 1 + i ≡ n + suc i = omega arith in
    rw other (place_again (before ++ f ∷ []) files (n + 1) i parts.1 (omega (arith, h)) ∙ ap Some same)

pub file_again : (files : List FileLine) (i : ℕ) → files_fit [] files ≡ true → i < length files → file_named files (name_at files i) ≡ Ok i
unfolding file_named
file_again files i e h = let same : 0 + i ≡ i = omega arith in rw (place_again [] files 0 i e h) (ap Ok same)
