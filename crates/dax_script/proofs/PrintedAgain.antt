-- Each line of a printed script that fits has words that print as they are.
use Rattle.std.proofs.Common.{◌≡◌, refl, ℕ, zero, suc, ◌<◌, ◌^◌, ◌==◌, ◌&&◌, not, true, false, nat_lt, nat_le, List, [], ◌∷◌, ◌++◌, length, slice_get, codes, decimal, arith, tests}
use Rattle.std.proofs.lemmas.Bool.{and_parts}
use Rattle.std.proofs.lemmas.Fmt.{decimal_is_IsNumeral}
use Rattle.std.specs.List.{AllByRecursion, list_all, list_any}
use Rattle.hex.specs.Hex.{encode_with, encode_lower}
use Rattle.plain_file.specs.File.{max_file}
use Rattle.plain_text.specs.Words.{is_word}
use Rattle.plain_text.specs.Printed.{joined}
use Rattle.plain_text.proofs.CleanWords.{IsCleanWord, clean_from_test, clean_literal, clean_decimal, clean_hex}
use Rattle.plain_text.proofs.PrintedLines.{HasBytes}
use Rattle.page_map.specs.declared.pages.Mode.{Mode}
use Rattle.page_map.specs.declared.pages.Mode.TheVariants as modes
use Rattle.dax_script.specs.declared.scripts.Call.{Call}
use Rattle.dax_script.specs.declared.scripts.Call.TheVariants as calls
use Rattle.dax_script.specs.declared.scripts.FileLine.{FileLine}
use Rattle.dax_script.specs.Asks.{chunk_size}
use Rattle.dax_script.specs.ScriptWords.{is_called, is_writing, is_script_name, is_script_name_byte}
use Rattle.dax_script.specs.ScriptText.{is_comment, max_chunk, max_holds}
use Rattle.dax_script.specs.ScriptPrinted.{name_at, mode_word, call_words, file_words}
use Rattle.dax_script.specs.Fits.{are_bytes, is_within, call_fits, file_fits, files_fit}
use Rattle.dax_script.proofs.WordsAgain.{all_bytes}
use Rattle.dax_script.proofs.CallsAgain.{holds_le, holds_lt, inside, len_small, off_small, writing_within}
use Rattle.dax_script.proofs.ReadLines.{IsPrintedLine}

-- a word with bytes, all behind the space
abbrev pub IsGood : List ℕ → Type 0
IsGood w = IsCleanWord w × HasBytes w

all_clean : (ws : List (List ℕ)) → AllByRecursion IsGood ws → AllByRecursion IsCleanWord ws
all_clean [] h = tt
all_clean (w ∷ ws) h = (h.0.0, all_clean ws h.1)

all_some : (ws : List (List ℕ)) → AllByRecursion IsGood ws → AllByRecursion HasBytes ws
all_some [] h = tt
all_some (w ∷ ws) h = (h.0.1, all_some ws h.1)

pub printed : (w : List ℕ) (ws : List (List ℕ)) → AllByRecursion IsGood (w ∷ ws) → is_comment (joined (w ∷ ws)) ≡ false → IsPrintedLine (w ∷ ws)
printed w ws h e = record { clean = (h.0.0, all_clean ws h.1); some = all_some (w ∷ ws) h; open_ = e }

pub good_literal : (w : List ℕ) → list_all (λ b. nat_lt 32 b) w ≡ true → is_word w ≡ true → IsGood w
good_literal w e s = (clean_literal w e, s)

some_bytes : (w : List ℕ) → 0 < length w → is_word w ≡ true
some_bytes w h = grind (arith, tests)

pub good_number : (n : ℕ) → n < 2 ^ 64 → IsGood (decimal n)
good_number n h = (clean_decimal n h, some_bytes (decimal n) (decimal_is_IsNumeral n h).0.0)

hex_some : (b : ℕ) (bytes : List ℕ) → is_word (encode_lower (b ∷ bytes)) ≡ true
unfolding encode_with
hex_some b bytes = grind (arith, tests)

pub good_hex : (bytes : List ℕ) → are_bytes bytes ≡ true → nat_le 1 (length bytes) ≡ true → IsGood (encode_lower bytes)
good_hex [] e some = absurd (grind (arith, tests, some))
good_hex (b ∷ bytes) e some = (clean_hex (b ∷ bytes) (all_bytes (b ∷ bytes) e), hex_some b bytes)

good_byte : (b : ℕ) → nat_lt b 256 ≡ true → IsGood (encode_lower (b ∷ []))
good_byte b e = let small : b < 256 = holds_lt b 256 e in (clean_hex (b ∷ []) (small, tt), hex_some b [])

name_byte : (b : ℕ) → is_script_name_byte b ≡ true → 32 < b
name_byte b e = grind (arith, tests)

pub good_name : (w : List ℕ) → is_script_name w ≡ true → IsGood w
good_name w e =
    let rest = and_parts (not (length w == 0) && nat_le (length w) 32) (list_all is_script_name_byte w) e in
    let some = and_parts (not (length w == 0)) (nat_le (length w) 32) rest.0 in
    (clean_from_test is_script_name_byte name_byte w rest.1, some.0)

file_name : (f : FileLine) → file_fits f ≡ true → is_script_name f.name ≡ true
file_name f e =
    let all = and_parts (is_script_name f.name && nat_le f.first.size max_file) (nat_lt f.first.fill 256) e in
    (and_parts (is_script_name f.name) (nat_le f.first.size max_file) all.0).0

good_name_at : (before files : List FileLine) (i : ℕ) → files_fit before files ≡ true → i < length files → IsGood (name_at files i)
good_name_at before [] i e h = absurd (omega (arith, h))
good_name_at before (f ∷ files) zero e h =
    let all = and_parts (file_fits f && not (list_any (is_called f.name) before)) (files_fit (before ++ f ∷ []) files) e in
    good_name f.name (file_name f (and_parts (file_fits f) (not (list_any (is_called f.name) before)) all.0).0)
good_name_at before (f ∷ files) (suc i) e h =
    let all = and_parts (file_fits f && not (list_any (is_called f.name) before)) (files_fit (before ++ f ∷ []) files) e in
    good_name_at (before ++ f ∷ []) files i all.1 (omega (arith, h))

good_mode : (m : Mode) → IsGood (mode_word m)
unfolding mode_word
good_mode modes.R = good_literal (codes "r") refl refl
good_mode modes.W = good_literal (codes "w") refl refl

small_len : (room off len : ℕ) → is_within room off len ≡ true → IsGood (decimal len)
small_len room off len e = good_number len (len_small room off len (inside room off len e))

small_off : (room off len : ℕ) → room < 2 ^ 32 → is_within room off len ≡ true → IsGood (decimal off)
small_off room off len r e = good_number off (off_small room off len r (inside room off len e))

within_bytes : (room off : ℕ) (bytes : List ℕ) → is_within room off (length bytes) ≡ true → are_bytes bytes ≡ true → IsGood (encode_lower bytes)
within_bytes room off bytes e b = good_hex bytes b (inside room off (length bytes) e).some

named : (files : List FileLine) (file : ℕ) → files_fit [] files ≡ true → nat_lt file (length files) ≡ true → IsGood (name_at files file)
named files file fs e = good_name_at [] files file fs (holds_lt file (length files) e)

pub printed_call : (files : List FileLine) (held : List Mode) (c : Call) → files_fit [] files ≡ true → length held < 2 ^ 64 → call_fits files held c ≡ true → IsPrintedLine (call_words files c)
unfolding call_words call_fits joined
printed_call files held (calls.Read file off len) fs few e =
    let p = and_parts (nat_lt file (length files)) (is_within max_file off len) e in
    printed (codes "read") _ (good_literal (codes "read") refl refl, (named files file fs p.0, (small_off max_file off len (omega arith) p.1, (small_len max_file off len p.1, tt)))) refl
printed_call files held (calls.Write file off bytes) fs few e =
    let all = and_parts (nat_lt file (length files) && is_within max_file off (length bytes)) (are_bytes bytes) e in
    let p = and_parts (nat_lt file (length files)) (is_within max_file off (length bytes)) all.0 in
    printed (codes "write") _ (good_literal (codes "write") refl refl, (named files file fs p.0, (small_off max_file off (length bytes) (omega arith) p.1, (within_bytes max_file off bytes p.1 all.1, tt)))) refl
printed_call files held (calls.Fill file off len b) fs few e =
    let all = and_parts (nat_lt file (length files) && is_within max_file off len) (nat_lt b 256) e in
    let p = and_parts (nat_lt file (length files)) (is_within max_file off len) all.0 in
    printed (codes "fill") _ (good_literal (codes "fill") refl refl, (named files file fs p.0, (small_off max_file off len (omega arith) p.1, (small_len max_file off len p.1, (good_byte b all.1, tt))))) refl
printed_call files held (calls.Size file) fs few e =
    printed (codes "size") _ (good_literal (codes "size") refl refl, (named files file fs e, tt)) refl
printed_call files held (calls.Truncate file size) fs few e =
    let p = and_parts (nat_lt file (length files)) (nat_le size max_file) e in
    printed (codes "truncate") _ (good_literal (codes "truncate") refl refl, (named files file fs p.0, (good_number size (omega (arith, holds_le size max_file p.1)), tt))) refl
printed_call files held (calls.Hold file chunk m) fs few e =
    let all = and_parts (nat_lt file (length files) && nat_le chunk max_chunk) (nat_lt (length held) max_holds) e in
    let p = and_parts (nat_lt file (length files)) (nat_le chunk max_chunk) all.0 in
    printed (codes "hold") _ (good_literal (codes "hold") refl refl, (named files file fs p.0, (good_number chunk (omega (arith, holds_le chunk max_chunk p.1)), (good_mode m, tt)))) refl
printed_call files held (calls.Load h off len) fs few e =
    let p = and_parts (nat_lt h (length held)) (is_within chunk_size off len) e in
    printed (codes "load") _ (good_literal (codes "load") refl refl, (good_number h (omega (arith, few, holds_lt h (length held) p.0)), (small_off chunk_size off len (omega arith) p.1, (small_len chunk_size off len p.1, tt)))) refl
printed_call files held (calls.Store h off bytes) fs few e =
    let all = and_parts (is_writing (slice_get held h) && is_within chunk_size off (length bytes)) (are_bytes bytes) e in
    let p = and_parts (is_writing (slice_get held h)) (is_within chunk_size off (length bytes)) all.0 in
    printed (codes "store") _ (good_literal (codes "store") refl refl, (good_number h (omega (arith, few, writing_within held h p.0)), (small_off chunk_size off (length bytes) (omega arith) p.1, (within_bytes chunk_size off bytes p.1 all.1, tt)))) refl
printed_call files held (calls.Release h) fs few e =
    printed (codes "release") _ (good_literal (codes "release") refl refl, (good_number h (omega (arith, few, holds_lt h (length held) e)), tt)) refl

pub printed_file : (f : FileLine) → file_fits f ≡ true → IsPrintedLine (file_words f)
unfolding joined
printed_file f e =
    let all = and_parts (is_script_name f.name && nat_le f.first.size max_file) (nat_lt f.first.fill 256) e in
    let p = and_parts (is_script_name f.name) (nat_le f.first.size max_file) all.0 in
    printed (codes "file") _ (good_literal (codes "file") refl refl, (good_name f.name p.0, (good_number f.first.size (omega (arith, holds_le f.first.size max_file p.1)), (good_byte f.first.fill all.1, tt)))) refl

pub printed_guest : IsPrintedLine (codes "guest" ∷ [])
unfolding joined
printed_guest = printed (codes "guest") [] (good_literal (codes "guest") refl refl, tt) refl

pub printed_ranges : (n : ℕ) → n < 2 ^ 64 → IsPrintedLine (codes "ranges" ∷ decimal n ∷ [])
unfolding joined
printed_ranges n h = printed (codes "ranges") _ (good_literal (codes "ranges") refl refl, (good_number n h, tt)) refl

pub printed_background : (n : ℕ) → n < 2 ^ 64 → IsPrintedLine (codes "background" ∷ decimal n ∷ [])
unfolding joined
printed_background n h = printed (codes "background") _ (good_literal (codes "background") refl refl, (good_number n h, tt)) refl
