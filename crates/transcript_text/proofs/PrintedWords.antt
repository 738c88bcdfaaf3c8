-- The words and lines of a transcript that are printed are read as what they say.
use Rattle.std.proofs.Common.{◌≡◌, ◌∙◌, ap, refl, ℕ, ◌+◌, ◌-◌, ◌<◌, ◌^◌, ◌==◌, ◌&&◌, Bool, true, false, not, List, [], ◌∷◌, ◌++◌, length, map, nat_le, Option, Some, None, Result, codes, decimal, arith, tests}
use Rattle.std.proofs.lemmas.Bool.{and_parts}
use Rattle.std.specs.List.{AllByRecursion, list_all}
use Rattle.std.specs.Str.{bytes_eq}
use Rattle.hex.specs.Hex.{encode_with, encode_lower}
use Rattle.plain_text.specs.Printed.{joined}
use Rattle.plain_text.proofs.CleanWords.{IsCleanWord, clean_from_test, clean_hex, number_within-decimal, hex_of-encode_lower}
use Rattle.plain_text.proofs.PrintedLines.{IsCleanLine, words-joined}
use Rattle.dax_script.specs.ScriptWords.{is_script_name, is_script_name_byte}
use Rattle.transcript_text.specs.declared.transcripts.Transcript.{Transcript}
use Rattle.transcript_text.specs.TranscriptText.{bytes_word}
use Rattle.transcript_text.specs.TranscriptReading.{number_32, number_64, bytes_of, Reading, line_read, or_line, whole, transcript_from}

name_byte : (b : ℕ) → is_script_name_byte b ≡ true → 32 < b
name_byte b e = grind (arith, tests)

pub clean_name : (w : List ℕ) → is_script_name w ≡ true → IsCleanWord w
clean_name w e =
    let rest = and_parts (not (length w == 0) && nat_le (length w) 32) (list_all is_script_name_byte w) e in
    clean_from_test is_script_name_byte name_byte w rest.1

pub number_32-decimal : (n : ℕ) → n < 2 ^ 32 → number_32 (decimal n) ≡ Some n
unfolding number_32
number_32-decimal n h = number_within-decimal n (2 ^ 32 - 1) (omega arith) (omega arith)

pub number_64-decimal : (n : ℕ) → n < 2 ^ 64 → number_64 (decimal n) ≡ Some n
unfolding number_64
number_64-decimal n h = number_within-decimal n (2 ^ 64 - 1) (omega arith) h

pub clean_bytes : (bytes : List ℕ) → AllByRecursion (λ b. b < 256) bytes → IsCleanWord (bytes_word bytes)
clean_bytes [] h = (omega arith, tt)
clean_bytes (b ∷ bytes) h = clean_hex (b ∷ bytes) h

and_false : (b : Bool) → (b && false) ≡ false
and_false true = refl
and_false false = refl

no_dash : (b : ℕ) (bytes : List ℕ) → bytes_eq (encode_lower (b ∷ bytes)) (codes "-") ≡ false
unfolding encode_with
no_dash b bytes = and_false _

pub bytes_of-bytes_word : (bytes : List ℕ) → AllByRecursion (λ b. b < 256) bytes → bytes_of (bytes_word bytes) ≡ Some bytes
unfolding bytes_of
bytes_of-bytes_word [] h = refl
bytes_of-bytes_word (b ∷ bytes) h = rw (no_dash b bytes) (hex_of-encode_lower b bytes h)

-- a fold over lines of words
abbrev pub words_from : ℕ → Reading → List (List (List ℕ)) → Result Transcript ℕ
words_from n r [] = whole n r
words_from n r (ws ∷ lss) = or_line n (line_read r ws) (λ next. words_from (n + 1) next lss)

line_same : {A B : Type 0} (n : ℕ) (o : Option A) (f g : A → Result B ℕ) → ((x : A) → f x ≡ g x) → or_line n o f ≡ or_line n o g
line_same n (Some x) f g h = h x
line_same n None f g h = refl

pub read_printed : (n : ℕ) (r : Reading) (lss : List (List (List ℕ))) → AllByRecursion IsCleanLine lss → transcript_from n r (map joined lss ++ [] ∷ []) ≡ words_from n r lss
read_printed n r [] h = refl
read_printed n r (ws ∷ []) h =
    ap (λ words. or_line n (line_read r words) (λ next. transcript_from (n + 1) next ([] ∷ []))) (words-joined ws h.0)
    ∙ line_same n (line_read r ws) _ _ (λ next. read_printed (n + 1) next [] tt)
read_printed n r (ws ∷ vs ∷ lss) h =
    ap (λ words. or_line n (line_read r words) (λ next. transcript_from (n + 1) next (joined vs ∷ map joined lss ++ [] ∷ []))) (words-joined ws h.0)
    ∙ line_same n (line_read r ws) _ _ (λ next. read_printed (n + 1) next (vs ∷ lss) h.1)
