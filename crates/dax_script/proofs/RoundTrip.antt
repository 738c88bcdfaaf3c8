-- A script that fits is what its printed form reads as.
use Rattle.std.proofs.Common.{◌≡◌, ◌∙◌, ap, sym, ℕ, ◌+◌, ◌<◌, ◌≤◌, ◌^◌, ◌==◌, ◌&&◌, ◌||◌, not, true, nat_le, List, [], ◌∷◌, ◌++◌, map, length, append-nil, length-append, None, Ok, arith, tests}
use Rattle.std.proofs.lemmas.Bool.{and_parts}
use Rattle.std.specs.List.{AllByRecursion, list_all, list_any, sum_by, flat_map}
use Rattle.plain_file.specs.Limits.{max_files}
use Rattle.plain_text.proofs.PrintedLines.{IsCleanLine, all_append, lines-printed}
use Rattle.dax_script.specs.declared.scripts.Call.{Call}
use Rattle.dax_script.specs.declared.scripts.FileLine.{FileLine}
use Rattle.dax_script.specs.declared.scripts.Script.{Script}
use Rattle.dax_script.specs.ScriptWords.{hold_modes, is_ranges, is_called}
use Rattle.dax_script.specs.ScriptText.{start, moved, max_calls, max_moved, max_background, max_guests, are_few, has_window, script_from, script_of}
use Rattle.dax_script.specs.ScriptPrinted.{call_words, file_words, guest_lines, script_lines, text_of}
use Rattle.dax_script.specs.Fits.{call_fits, calls_fit, file_fits, files_fit, fits}
use Rattle.dax_script.proofs.PrintedScript.{ranges_words, background_words}
use Rattle.dax_script.proofs.ReadLines.{IsPrintedLine, read_lines, words_from, ReadsOn, reads_one, reads_both}
use Rattle.dax_script.proofs.CallsAgain.{holds_le, ranges_again, background_again}
use Rattle.dax_script.proofs.ScriptAgain.{sum_next, holds_few, files_again, KeepsAll, guests_again, after_guests, ended}
use Rattle.dax_script.proofs.PrintedAgain.{printed_call, printed_file, printed_guest, printed_ranges, printed_background}

-- the tests of a script that fits
pub record Fitting (s : Script) : Type 0 where
  pub ranges : is_ranges s.ranges ≡ true
  pub background : nat_le s.background max_background ≡ true
  pub window : not (s.ranges == 0) || s.background == 0 ≡ true
  pub few_files : nat_le (length s.files) max_files ≡ true
  pub files : files_fit [] s.files ≡ true
  pub few_guests : nat_le (length s.guests) max_guests ≡ true
  pub guests : list_all (calls_fit s.files s.ranges []) s.guests ≡ true
  pub few_calls : nat_le (sum_by length s.guests) max_calls ≡ true
  pub few_bytes : nat_le (sum_by moved s.guests) max_moved ≡ true

pub fitting : (s : Script) → fits s ≡ true → Fitting s
unfolding fits
fitting s e =
    let p1 = and_parts (is_ranges s.ranges && nat_le s.background max_background && (not (s.ranges == 0) || s.background == 0) && nat_le (length s.files) max_files && files_fit [] s.files && nat_le (length s.guests) max_guests && list_all (calls_fit s.files s.ranges []) s.guests) (are_few s.guests) e in
    let p2 = and_parts (is_ranges s.ranges && nat_le s.background max_background && (not (s.ranges == 0) || s.background == 0) && nat_le (length s.files) max_files && files_fit [] s.files && nat_le (length s.guests) max_guests) (list_all (calls_fit s.files s.ranges []) s.guests) p1.0 in
    let p3 = and_parts (is_ranges s.ranges && nat_le s.background max_background && (not (s.ranges == 0) || s.background == 0) && nat_le (length s.files) max_files && files_fit [] s.files) (nat_le (length s.guests) max_guests) p2.0 in
    let p4 = and_parts (is_ranges s.ranges && nat_le s.background max_background && (not (s.ranges == 0) || s.background == 0) && nat_le (length s.files) max_files) (files_fit [] s.files) p3.0 in
    let p5 = and_parts (is_ranges s.ranges && nat_le s.background max_background && (not (s.ranges == 0) || s.background == 0)) (nat_le (length s.files) max_files) p4.0 in
    let p6 = and_parts (is_ranges s.ranges && nat_le s.background max_background) (not (s.ranges == 0) || s.background == 0) p5.0 in
    let p7 = and_parts (is_ranges s.ranges) (nat_le s.background max_background) p6.0 in
    let p8 = and_parts (nat_le (sum_by length s.guests) max_calls) (nat_le (sum_by moved s.guests) max_moved) p1.1 in
    record { ranges = p7.0; background = p7.1; window = p6.1; few_files = p5.1; files = p4.1; few_guests = p3.1; guests = p2.1; few_calls = p8.0; few_bytes = p8.1 }

-- ---- the lines

calls_printed : (files : List FileLine) (r : ℕ) (made cs : List Call) → files_fit [] files ≡ true → calls_fit files r made cs ≡ true → length made + length cs ≤ max_calls → AllByRecursion IsPrintedLine (map (call_words files) cs)
calls_printed files r made [] fs e few = tt
calls_printed files r made (c ∷ cs) fs e few =
    let all = and_parts (call_fits files (hold_modes made) c && has_window r c) (calls_fit files r (made ++ c ∷ []) cs) e in
    let own = and_parts (call_fits files (hold_modes made) c) (has_window r c) all.0 in
    (printed_call files (hold_modes made) c fs (omega (arith, few, holds_few made)) own.0, calls_printed files r (made ++ c ∷ []) cs fs all.1 (omega (arith, few, length-append made (c ∷ []))))

guests_printed : (files : List FileLine) (r : ℕ) (gs : List (List Call)) → files_fit [] files ≡ true → list_all (calls_fit files r []) gs ≡ true → sum_by length gs ≤ max_calls → AllByRecursion IsPrintedLine (flat_map (guest_lines files) gs)
guests_printed files r [] fs e few = tt
guests_printed files r (g ∷ gs) fs e few =
    let all = and_parts (calls_fit files r [] g) (list_all (calls_fit files r []) gs) e in
    let sums = sum_next length g gs in
    all_append IsPrintedLine (guest_lines files g) (flat_map (guest_lines files) gs) (printed_guest, calls_printed files r [] g fs all.0 (omega (arith, few, sums))) (guests_printed files r gs fs all.1 (omega (arith, few, sums)))

files_printed : (before files : List FileLine) → files_fit before files ≡ true → AllByRecursion IsPrintedLine (map file_words files)
files_printed before [] e = tt
files_printed before (f ∷ files) e =
    let all = and_parts (file_fits f && not (list_any (is_called f.name) before)) (files_fit (before ++ f ∷ []) files) e in
    (printed_file f (and_parts (file_fits f) (not (list_any (is_called f.name) before)) all.0).0, files_printed (before ++ f ∷ []) files all.1)

ranges_small : (r : ℕ) → is_ranges r ≡ true → r < 2 ^ 64
ranges_small r e = grind (arith, tests, e)

script_printed : (s : Script) → Fitting s → AllByRecursion IsPrintedLine (script_lines s)
unfolding script_lines
script_printed s f =
    let files = files_printed [] s.files f.files in
    let guests = guests_printed s.files s.ranges s.guests f.files f.guests (holds_le _ _ f.few_calls) in (
      printed_ranges s.ranges (ranges_small s.ranges f.ranges),
      (printed_background s.background (omega (arith, holds_le s.background max_background f.background)), all_append IsPrintedLine (map file_words s.files) (flat_map (guest_lines s.files) s.guests) files guests),
    )

all_clean : (lss : List (List (List ℕ))) → AllByRecursion IsPrintedLine lss → AllByRecursion IsCleanLine lss
all_clean [] h = tt
all_clean (ws ∷ lss) h = (h.0.clean, all_clean lss h.1)

-- ---- the whole

script_reads : (s : Script) → Fitting s → ReadsOn start (script_lines s) (after_guests s.ranges s.background s.files [] None s.guests)
unfolding script_lines
script_reads s f =
    let r = reads_one start _ (ranges_words s) (ranges_again s.ranges f.ranges (ranges_small s.ranges f.ranges)) in
    let b = reads_one _ _ (background_words s) (background_again s.ranges s.background f.background f.window) in
    let files = files_again s.ranges s.background [] s.files f.files (omega (arith, holds_le (length s.files) max_files f.few_files)) in
    let keeps : KeepsAll [] s.guests = record {
      few = omega (arith, holds_le (sum_by length s.guests) max_calls f.few_calls);
      small = omega (arith, holds_le (sum_by moved s.guests) max_moved f.few_bytes);
      guests = omega (arith, holds_le (length s.guests) max_guests f.few_guests);
    } in
    let guests = guests_again s.ranges s.background s.files [] None s.guests f.files f.guests keeps in
    reads_both _ _ _ (ranges_words s ∷ []) (background_words s ∷ (map file_words s.files ++ flat_map (guest_lines s.files) s.guests)) r
    (reads_both _ _ _ (background_words s ∷ []) (map file_words s.files ++ flat_map (guest_lines s.files) s.guests) b
    (reads_both _ _ _ (map file_words s.files) (flat_map (guest_lines s.files) s.guests) files guests))

pub script_again : (s : Script) → fits s ≡ true → script_of (text_of s) ≡ Ok s
unfolding script_of text_of
script_again s e =
    let f = fitting s e in
    let printed = script_printed s f in
    ap (λ ls. script_from 1 start ls) (lines-printed (script_lines s) (all_clean (script_lines s) printed))
    ∙ read_lines 1 start (script_lines s) printed
    ∙ ap (λ lss. words_from 1 start lss) (sym (append-nil (script_lines s)))
    ∙ script_reads s f 1 []
    ∙ ended (1 + length (script_lines s)) s.ranges s.background s.files [] None s.guests
