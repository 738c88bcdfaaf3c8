-- A script that some text gives keeps the limits of scripts.
use Rattle.std.proofs.Common.{◌≡◌, ◌↔◌, ◌∙◌, ap, sym, subst, refl, ℕ, ◌+◌, ◌≤◌, ◌==◌, ◌&&◌, ◌||◌, not, Bool, true, false, nat_lt, nat_le, List, [], ◌∷◌, ◌++◌, length, append_assoc, length-append, append-nil, codes, Option, Some, None, is_none, unwrap_or, Result, Ok, Err, if◌then◌else◌, arith, tests}
use Rattle.std.proofs.lemmas.Bool.{and_parts, and_from, or_right}
use Rattle.std.proofs.lemmas.List.Folds.{list_all-append}
use Rattle.std.specs.Result.{IfOk}
use Rattle.std.proofs.lemmas.Result.{IfOk-at_ok}
use Rattle.std.specs.List.{list_all, list_any, sum_by}
use Rattle.std.specs.Str.{bytes_eq}
use Rattle.plain_file.specs.File.{max_file}
use Rattle.plain_file.specs.Limits.{max_files}
use Rattle.plain_text.specs.Words.{parts, words_of, line_end}
use Rattle.dax_script.specs.declared.scripts.Call.{Call}
use Rattle.dax_script.specs.declared.scripts.FileLine.{FileLine}
use Rattle.dax_script.specs.declared.scripts.Script.{Script}
use Rattle.dax_script.specs.declared.whys.Why.{Why}
use Rattle.dax_script.specs.declared.whys.Why.TheVariants as whys
use Rattle.dax_script.specs.declared.whys.BadScript.{BadScript}
use Rattle.dax_script.specs.declared.whys.BadScript.TheVariants as bads
use Rattle.dax_script.specs.Steps.{◌then◌, where_holds, none, one, two, three}
use Rattle.dax_script.specs.ScriptWords.{between, ranges_number, is_script_name, new_name, byte, hold_modes, is_ranges, is_called}
use Rattle.dax_script.specs.ScriptText.{Draft, start, guests_with, moved, max_calls, max_moved, are_few, has_window, call_of, call_added, call_line, ranges_line, max_background, background_line, zeros_file, filled_file, file_of_words, file_line, max_guests, guest_line, is_first, later_line, worded_line, worded, is_comment, line_read, BadLine, or_bad, finished, script_from, script_of}
use Rattle.dax_script.specs.ScriptPrinted.{text_of}
use Rattle.dax_script.specs.Halts.{Parses}
use Rattle.dax_script.specs.Fits.{call_fits, calls_fit, file_fits, files_fit, fits}
use Rattle.dax_script.proofs.Totals.{sum_last}
use Rattle.dax_script.proofs.CallsAgain.{holds_le, holds_lt}
use Rattle.dax_script.proofs.RoundTrip.{Fitting, script_again}
use Rattle.dax_script.proofs.ReadWords.{any_value, then_yields, where_yields, if_yields, between_yields, ranges_number_yields, new_name_yields, byte_yields}
use Rattle.dax_script.proofs.ReadCalls.{call_yields}

is_le : (a b : ℕ) → a ≤ b → nat_le a b ≡ true
is_le a b h = grind (arith, tests)

pub fits_from : (s : Script) → Fitting s → fits s ≡ true
unfolding fits
fits_from s f = rw (f.ranges, f.background, f.window, f.few_files, f.files, f.few_guests, f.guests, f.few_calls, f.few_bytes) refl

-- ---- one more at the end

calls_more : (files : List FileLine) (ranges : ℕ) (made cs : List Call) (c : Call) → calls_fit files ranges made cs ≡ true → call_fits files (hold_modes (made ++ cs)) c ≡ true → has_window ranges c ≡ true →
    calls_fit files ranges made (cs ++ c ∷ []) ≡ true
calls_more files ranges made [] c e fit window =
    let all : made ++ [] ≡ made = append-nil made in
    let own : call_fits files (hold_modes made) c ≡ true = subst (λ ms. call_fits files (hold_modes ms) c ≡ true) all fit in
    rw (own, window) refl
calls_more files ranges made (d ∷ cs) c e fit window =
    let parts = and_parts (call_fits files (hold_modes made) d && has_window ranges d) (calls_fit files ranges (made ++ d ∷ []) cs) e in
    let later : call_fits files (hold_modes ((made ++ d ∷ []) ++ cs)) c ≡ true = subst (λ ms. call_fits files (hold_modes ms) c ≡ true) (sym (append_assoc made (d ∷ []) cs)) fit in
    and_from _ _ parts.0 (calls_more files ranges (made ++ d ∷ []) cs c parts.1 later window)

files_more : (before files : List FileLine) (f : FileLine) → files_fit before files ≡ true → file_fits f ≡ true → not (list_any (is_called f.name) (before ++ files)) ≡ true → files_fit before (files ++ f ∷ []) ≡ true
files_more before [] f e fit fresh =
    let own : not (list_any (is_called f.name) before) ≡ true = subst (λ fs. not (list_any (is_called f.name) fs) ≡ true) (append-nil before) fresh in
    and_from _ _ (and_from _ _ fit own) refl
files_more before (g ∷ files) f e fit fresh =
    let parts = and_parts (file_fits g && not (list_any (is_called g.name) before)) (files_fit (before ++ g ∷ []) files) e in
    let later : not (list_any (is_called f.name) ((before ++ g ∷ []) ++ files)) ≡ true = subst (λ fs. not (list_any (is_called f.name) fs) ≡ true) (sym (append_assoc before (g ∷ []) files)) fresh in
    and_from _ _ parts.0 (files_more (before ++ g ∷ []) files f parts.1 fit later)

guests_more : (files : List FileLine) (ranges : ℕ) (done : List (List Call)) (g : List Call) → list_all (calls_fit files ranges []) done ≡ true → calls_fit files ranges [] g ≡ true → list_all (calls_fit files ranges []) (done ++ g ∷ []) ≡ true
guests_more files ranges done g e fit = list_all-append (calls_fit files ranges []) done (g ∷ []) ∙ and_from _ _ e (and_from _ _ fit refl)

guests_parts : (files : List FileLine) (ranges : ℕ) (done : List (List Call)) (g : List Call) → list_all (calls_fit files ranges []) (done ++ g ∷ []) ≡ true → (list_all (calls_fit files ranges []) done ≡ true) × (calls_fit files ranges [] g ≡ true)
guests_parts files ranges done g e =
    let parts = and_parts (list_all (calls_fit files ranges []) done) (list_all (calls_fit files ranges []) (g ∷ [])) (sym (list_all-append (calls_fit files ranges []) done (g ∷ [])) ∙ e) in
    (parts.0, (and_parts (calls_fit files ranges [] g) true parts.1).0)

-- ---- the script so far

-- the script that the text would give if it ended here
abbrev so_far : Draft → Script
so_far d = record { ranges = unwrap_or d.ranges 0; background = unwrap_or d.background 0; files = d.files; guests = guests_with d.done d.calls }

record DraftFits (d : Draft) : Type 0 where
  whole : Fitting (so_far d)
  -- no guest stands before the first `guest` line, and no line before `ranges`
  no_guest : d.calls ≡ None → d.done ≡ []
  no_line : d.ranges ≡ None → d ≡ start

start_fits : DraftFits start
start_fits = record {
  whole = record { ranges = refl; background = refl; window = refl; few_files = refl; files = refl; few_guests = refl; guests = refl; few_calls = refl; few_bytes = refl };
  no_guest = λ e. refl;
  no_line = λ e. refl;
}

ranges_yields : (words : List (List ℕ)) → IfOk (ranges_line start words) DraftFits
unfolding ranges_line
ranges_yields words =
    then_yields (λ _. Unit {0}) _ (one words) _ (any_value (one words))
    (λ w _. then_yields (λ n. is_ranges n ≡ true) _ (ranges_number w) _ (ranges_number_yields w)
    (λ n e. record {
      whole = record { ranges = e; background = refl; window = or_right (not (n == 0)) true refl; few_files = refl; files = refl; few_guests = refl; guests = refl; few_calls = refl; few_bytes = refl };
      no_guest = λ _. refl;
      no_line = λ e. absurd (cc);
    }))

background_yields : (d : Draft) (ranges : ℕ) (words : List (List ℕ)) → d.ranges ≡ Some ranges → DraftFits d → IfOk (background_line d ranges words) DraftFits
unfolding background_line
background_yields d ranges words is f =
    then_yields (λ _. Unit {0}) _ (one words) _ (any_value (one words))
    (λ w _. then_yields (λ n. (nat_le 0 n ≡ true) × (nat_le n max_background ≡ true)) _ (between 0 max_background w) _ (between_yields 0 max_background w)
    (λ n m. where_yields _ (not (ranges == 0) || n == 0) _ (record d { background = Some n })
    (λ e. record {
      whole = record {
        ranges = f.whole.ranges;
        background = m.1;
        window = rw is e;
        few_files = f.whole.few_files;
        files = f.whole.files;
        few_guests = f.whole.few_guests;
        guests = f.whole.guests;
        few_calls = f.whole.few_calls;
        few_bytes = f.whole.few_bytes;
      };
      no_guest = f.no_guest;
      no_line = λ u. absurd (cc);
    })))

-- a file that may come behind these
abbrev IsNext : List FileLine → FileLine → Type 0
IsNext files f = (file_fits f ≡ true) × (not (list_any (is_called f.name) files) ≡ true)

zeros_yields : (files : List FileLine) (words : List (List ℕ)) → IfOk (zeros_file files words) (IsNext files)
unfolding zeros_file
zeros_yields files words =
    then_yields (λ _. Unit {0}) _ (two words) _ (any_value (two words))
    (λ w _. then_yields (λ name. (is_script_name name ≡ true) × (not (list_any (is_called name) files) ≡ true)) _ (new_name files w.0) _ (new_name_yields files w.0)
    (λ name h. then_yields (λ n. (nat_le 0 n ≡ true) × (nat_le n max_file ≡ true)) _ (between 0 max_file w.1) _ (between_yields 0 max_file w.1)
    (λ size m. (rw (h.0, m.1) refl, h.1))))

filled_yields : (files : List FileLine) (w : List ℕ × List ℕ × List ℕ) → IfOk (filled_file files w) (IsNext files)
unfolding filled_file
filled_yields files w =
    then_yields (λ name. (is_script_name name ≡ true) × (not (list_any (is_called name) files) ≡ true)) _ (new_name files w.0) _ (new_name_yields files w.0)
    (λ name h. then_yields (λ n. (nat_le 0 n ≡ true) × (nat_le n max_file ≡ true)) _ (between 0 max_file w.1) _ (between_yields 0 max_file w.1)
    (λ size m. then_yields (λ b. nat_lt b 256 ≡ true) _ (byte w.2) _ (byte_yields w.2)
    (λ fill e. (rw (h.0, m.1, e) refl, h.1))))

file_yields : (files : List FileLine) (words : List (List ℕ)) (r : Result (List ℕ × List ℕ × List ℕ) Why) → IfOk (file_of_words files words r) (IsNext files)
unfolding file_of_words
file_yields files words (Ok w) = filled_yields files w
file_yields files words (Err why) = zeros_yields files words

one_longer : {X : Type 0} (limit : ℕ) (xs : List X) (x : X) → nat_lt (length xs) limit ≡ true → nat_le (length (xs ++ x ∷ [])) limit ≡ true
one_longer limit xs x e = is_le _ _ (omega (arith, holds_lt (length xs) limit e, length-append xs (x ∷ [])))

none_of : {X : Type 0} (o : Option X) → is_none o ≡ true → o ≡ None
none_of None e = refl
none_of (Some x) e = absurd (cc)

-- with no guest, the guests fit whatever the files are
guests_none : (files : List FileLine) (ranges : ℕ) (done : List (List Call)) (calls : Option (List Call)) → calls ≡ None → done ≡ [] → list_all (calls_fit files ranges []) (guests_with done calls) ≡ true
guests_none files ranges done calls e is = rw (e, is) refl

file_line_yields : (d : Draft) (ranges : ℕ) (words : List (List ℕ)) → d.ranges ≡ Some ranges → is_none d.calls ≡ true → DraftFits d → IfOk (file_line d words) DraftFits
unfolding file_line
file_line_yields d ranges words is none f =
    let no_calls = none_of d.calls none in
    then_yields (IsNext d.files) _ (file_of_words d.files words (three words)) _ (file_yields d.files words (three words))
    (λ file next. where_yields _ (nat_lt (length d.files) max_files) _ (record d { files = d.files ++ file ∷ [] })
    (λ e. record {
      whole = record {
        ranges = f.whole.ranges;
        background = f.whole.background;
        window = f.whole.window;
        few_files = one_longer max_files d.files file e;
        files = files_more [] d.files file f.whole.files next.0 next.1;
        few_guests = f.whole.few_guests;
        guests = guests_none _ _ d.done d.calls no_calls (f.no_guest no_calls);
        few_calls = f.whole.few_calls;
        few_bytes = f.whole.few_bytes;
      };
      no_guest = f.no_guest;
      no_line = λ u. absurd (cc);
    }))

guest_line_yields : (d : Draft) (ranges : ℕ) (words : List (List ℕ)) → d.ranges ≡ Some ranges → DraftFits d → IfOk (guest_line d words) DraftFits
unfolding guest_line
guest_line_yields d ranges words is f =
    then_yields (λ _. Unit {0}) _ (none words) _ (any_value (none words))
    (λ _ _. where_yields _ (nat_lt (length (guests_with d.done d.calls)) max_guests) _ (record d { done = guests_with d.done d.calls; calls = Some [] })
    (λ e. record {
      whole = record {
        ranges = f.whole.ranges;
        background = f.whole.background;
        window = f.whole.window;
        few_files = f.whole.few_files;
        files = f.whole.files;
        few_guests = one_longer max_guests (guests_with d.done d.calls) [] e;
        guests = guests_more d.files (unwrap_or d.ranges 0) (guests_with d.done d.calls) [] f.whole.guests refl;
        few_calls = is_le _ _ (omega (arith, sum_last length (guests_with d.done d.calls) [], holds_le _ _ f.whole.few_calls));
        few_bytes = is_le _ _ (omega (arith, sum_last moved (guests_with d.done d.calls) [], holds_le _ _ f.whole.few_bytes));
      };
      no_guest = λ u. absurd (cc);
      no_line = λ u. absurd (cc);
    }))

-- a call more of the guest at hand
one_call_more : (d : Draft) (ranges : ℕ) (cs : List Call) (c : Call) → d.ranges ≡ Some ranges → d.calls ≡ Some cs → DraftFits d → call_fits d.files (hold_modes cs) c ≡ true →
    are_few (guests_with d.done (Some (cs ++ c ∷ []))) ≡ true → has_window ranges c ≡ true → DraftFits (record d { calls = Some (cs ++ c ∷ []) })
one_call_more d ranges cs c is at f fit few window =
    let known : list_all (calls_fit d.files ranges []) (guests_with d.done d.calls) ≡ true = subst (λ o. list_all (calls_fit d.files (unwrap_or o 0) []) (guests_with d.done d.calls) ≡ true) is f.whole.guests in
    let before = guests_parts d.files ranges d.done cs (subst (λ o. list_all (calls_fit d.files ranges []) (guests_with d.done o) ≡ true) at known) in
    let all : calls_fit d.files ranges [] (cs ++ c ∷ []) ≡ true = calls_more d.files ranges [] cs c before.1 fit window in
    let sums = and_parts (nat_le (sum_by length (guests_with d.done (Some (cs ++ c ∷ [])))) max_calls) (nat_le (sum_by moved (guests_with d.done (Some (cs ++ c ∷ [])))) max_moved) few in
    let count : length (guests_with d.done d.calls) ≡ length d.done + 1 = ap (λ o. length (guests_with d.done o)) at ∙ length-append d.done (cs ∷ []) in
    record {
      whole = record {
        ranges = f.whole.ranges;
        background = f.whole.background;
        window = f.whole.window;
        few_files = f.whole.few_files;
        files = f.whole.files;
        few_guests = is_le _ _ (omega (arith, count, length-append d.done ((cs ++ c ∷ []) ∷ []), holds_le _ _ f.whole.few_guests));
        guests = subst (λ o. list_all (calls_fit d.files (unwrap_or o 0) []) (d.done ++ (cs ++ c ∷ []) ∷ []) ≡ true) (sym is) (guests_more d.files ranges d.done (cs ++ c ∷ []) before.0 all);
        few_calls = sums.0;
        few_bytes = sums.1;
      };
      no_guest = λ u. absurd (cc);
      no_line = λ u. absurd (cc);
    }

added_yields : (d : Draft) (ranges : ℕ) (cs : List Call) (c : Call) → d.ranges ≡ Some ranges → d.calls ≡ Some cs → DraftFits d → call_fits d.files (hold_modes cs) c ≡ true → IfOk (call_added d ranges cs c) DraftFits
unfolding call_added
added_yields d ranges cs c is at f fit =
    then_yields (λ k. (k ≡ c) × (are_few (guests_with d.done (Some (cs ++ c ∷ []))) ≡ true)) _ (where_holds (are_few (guests_with d.done (Some (cs ++ c ∷ [])))) _ c) _
    (where_yields _ (are_few (guests_with d.done (Some (cs ++ c ∷ [])))) _ c (λ e. (refl, e)))
    (λ k h. where_yields _ (has_window ranges k) _ (record d { calls = Some (cs ++ k ∷ []) }) (λ e. one_call_more d ranges cs k is at f (rw h.0 fit) (rw h.0 h.1) e))

line_of_call : (d : Draft) (ranges : ℕ) (calls : Option (List Call)) (verb : List ℕ) (words : List (List ℕ)) → d.ranges ≡ Some ranges → d.calls ≡ calls → DraftFits d → IfOk (call_line d ranges calls verb words) DraftFits
unfolding call_line
line_of_call d ranges None verb words is at f = tt
line_of_call d ranges (Some cs) verb words is at f =
    then_yields (λ c. call_fits d.files (hold_modes cs) c ≡ true) _ (call_of d.files (hold_modes cs) verb words) _ (call_yields d.files (hold_modes cs) verb words)
    (λ c fit. added_yields d ranges cs c is at f fit)

-- ---- lines, and the whole

if_both : {A : Type 0} (P : A → Type 0) (t : Bool) (r s : Result A Why) → (t ≡ true → IfOk r P) → IfOk s P → IfOk (if t then r else s) P
if_both P true r s h k = h refl
if_both P false r s h k = k

later_yields : (d : Draft) (ranges : ℕ) (verb : List ℕ) (words : List (List ℕ)) → d.ranges ≡ Some ranges → DraftFits d → IfOk (later_line d ranges verb words) DraftFits
unfolding later_line
later_yields d ranges verb words is f =
    if_yields _ (bytes_eq verb (codes "background")) (if is_first d then background_line d ranges words else Err whys.Order) _
    (if_yields _ (is_first d) (background_line d ranges words) _ (background_yields d ranges words is f) tt)
    (if_yields _ (bytes_eq verb (codes "file")) (if is_none d.calls then file_line d words else Err whys.Order) _
    (if_both _ (is_none d.calls) (file_line d words) _ (λ e. file_line_yields d ranges words is e f) tt)
    (if_yields _ (bytes_eq verb (codes "guest")) (guest_line d words) _ (guest_line_yields d ranges words is f)
    (line_of_call d ranges d.calls verb words is refl f)))

worded_line_yields : (d : Draft) (ranges : Option ℕ) (verb : List ℕ) (words : List (List ℕ)) → d.ranges ≡ ranges → DraftFits d → IfOk (worded_line d ranges verb words) DraftFits
unfolding worded_line
worded_line_yields d None verb words is f =
    if_yields _ (bytes_eq verb (codes "ranges")) (ranges_line d words) _ (subst (λ e. IfOk (ranges_line e words) DraftFits) (sym (f.no_line is)) (ranges_yields words)) tt
worded_line_yields d (Some ranges) verb words is f = later_yields d ranges verb words is f

worded_yields : (d : Draft) (words : List (List ℕ)) → DraftFits d → IfOk (worded d words) DraftFits
unfolding worded
worded_yields d [] f = f
worded_yields d (verb ∷ words) f = worded_line_yields d d.ranges verb words refl f

line_yields : (d : Draft) (line : List ℕ) → DraftFits d → IfOk (line_read d line) DraftFits
unfolding line_read
line_yields d line f = if_yields _ (is_comment line) (Ok d) _ f (worded_yields d (words_of line) f)

or_bad_yields : {A B : Type 0} (Q : A → Type 0) (P : B → Type 0) (n : ℕ) (r : Result A Why) (f : A → Result B BadLine) → IfOk r Q → ((x : A) → Q x → IfOk (f x) P) → IfOk (or_bad n r f) P
or_bad_yields Q P n (Ok x) f h k = k x h
or_bad_yields Q P n (Err why) f h k = tt

abbrev KeepsLimits : Script → Type 0
KeepsLimits s = fits s ≡ true

finished_yields : (n : ℕ) (d : Draft) (ranges : Option ℕ) → d.ranges ≡ ranges → DraftFits d → IfOk (finished n d ranges) KeepsLimits
unfolding finished
finished_yields n d None is f = tt
finished_yields n d (Some ranges) is f =
    subst (λ r. fits (record { ranges = r; background = unwrap_or d.background 0; files = d.files; guests = guests_with d.done d.calls }) ≡ true) (ap (λ o. unwrap_or o 0) is) (fits_from (so_far d) f.whole)

if_bad : {A : Type 0} (P : A → Type 0) (t : Bool) (r s : Result A BadLine) → IfOk r P → IfOk s P → IfOk (if t then r else s) P
if_bad P true r s h k = h
if_bad P false r s h k = k

from_yields : (n : ℕ) (d : Draft) (ls : List (List ℕ)) → DraftFits d → IfOk (script_from n d ls) KeepsLimits
from_yields n d [] f = finished_yields n d d.ranges refl f
from_yields n d (l ∷ []) f =
    if_bad _ (length l == 0) (finished n d d.ranges) _ (finished_yields n d d.ranges refl f)
    (or_bad_yields DraftFits _ n (line_read d l) _ (line_yields d l f) (λ e g. finished_yields (n + 1) e e.ranges refl g))
from_yields n d (l ∷ m ∷ ls) f =
    or_bad_yields DraftFits _ n (line_read d l) _ (line_yields d l f) (λ e g. from_yields (n + 1) e (m ∷ ls) g)

pub text_fits : (text : List ℕ) → IfOk (script_of text) (λ s. fits s ≡ true)
unfolding script_of
text_fits text = from_yields 1 start (parts line_end text) start_fits

pub parsed_fits : (r : Result Script BadScript) (text : List ℕ) → Parses r (script_of text) → IfOk r KeepsLimits
parsed_fits (Ok s) text e = IfOk-at_ok KeepsLimits e (text_fits text)
parsed_fits (Err bads.Memory) text h = tt
parsed_fits (Err (bads.Line line why)) text h = tt

-- a script fits exactly if some text gives it, and then its printed form does
pub fits_exactly : (s : Script) → (fits s ≡ true) ↔ ((text : List ℕ) × (script_of text ≡ Ok s))
fits_exactly s = (λ e. (text_of s, script_again s e), λ w. IfOk-at_ok KeepsLimits w.1 (text_fits w.0))
