-- The printed form of a script that fits is read as the script.
use Rattle.std.proofs.Common.{◌≡◌, ◌∙◌, ap, sym, refl, ℕ, ◌+◌, ◌<◌, ◌≤◌, ◌^◌, ◌&&◌, not, true, nat_lt, nat_le, List, [], ◌∷◌, ◌++◌, map, length, codes, append-nil, append_assoc, length-append, subst, Option, Some, None, Ok, arith, tests}
use Rattle.std.proofs.lemmas.Bool.{and_parts}
use Rattle.std.specs.List.{list_all, list_any, sum_by, flat_map}
use Rattle.std.proofs.lemmas.List.Sums.{sum_by-append}
use Rattle.plain_file.specs.Limits.{max_files}
use Rattle.dax_script.specs.declared.scripts.Call.{Call}
use Rattle.dax_script.specs.declared.scripts.FileLine.{FileLine}
use Rattle.dax_script.specs.ScriptWords.{held_mode, hold_modes, is_called}
use Rattle.dax_script.specs.ScriptText.{Draft, finished, guests_with, moved_by, moved, max_calls, max_moved, max_guests, are_few, has_window}
use Rattle.dax_script.specs.ScriptPrinted.{call_words, file_words, guest_lines}
use Rattle.dax_script.specs.Fits.{call_fits, calls_fit, file_fits, files_fit}
use Rattle.dax_script.proofs.Totals.{sum_one, sum_last}
use Rattle.dax_script.proofs.ReadLines.{ReadsOn, words_from, reads_none, reads_one, reads_both}
use Rattle.dax_script.proofs.CallsAgain.{draft, call_again, guest_again, file_line_again}

pub sum_next : {X : Type 0} (f : X → ℕ) (x : X) (xs : List X) → sum_by f (x ∷ xs) ≡ f x + sum_by f xs
sum_next f x xs = sum_by-append f (x ∷ []) xs ∙ ap (λ n. n + sum_by f xs) (sum_one f x)

pub holds_few : (cs : List Call) → length (hold_modes cs) ≤ length cs
holds_few [] = omega arith
holds_few (c ∷ cs) = elim (held_mode c) as (λ o. o ≡ held_mode c → length (hold_modes (c ∷ cs)) ≤ length (c ∷ cs)) [
  | None ↦ λ e. rw (← e) (omega (arith, holds_few cs))
  | Some m ↦ λ e. rw (← e) (omega (arith, holds_few cs))
] refl

is_le : (a b : ℕ) → a ≤ b → nat_le a b ≡ true
is_le a b h = grind (arith, tests)

is_lt : (a b : ℕ) → a < b → nat_lt a b ≡ true
is_lt a b h = grind (arith, tests)

-- the calls so far and those to come keep the limits of a script
record Keeps (done : List (List Call)) (made rest : List Call) : Type 0 where
  few : sum_by length done + (length made + length rest) ≤ max_calls
  small : sum_by moved done + (moved made + moved rest) ≤ max_moved

keeps_more : (done : List (List Call)) (made : List Call) (c : Call) (rest : List Call) → Keeps done made (c ∷ rest) → Keeps done (made ++ c ∷ []) rest
keeps_more done made c rest k = record {
  few = omega (arith, k.few, length-append made (c ∷ []));
  small = omega (arith, k.small, sum_last moved_by made c, sum_next moved_by c rest);
}

few_now : (done : List (List Call)) (made rest : List Call) → Keeps done made rest → are_few (guests_with done (Some made)) ≡ true
few_now done made rest k =
    let calls : nat_le (sum_by length (guests_with done (Some made))) max_calls ≡ true = is_le _ _ (omega (arith, k.few, sum_last length done made)) in
    let bytes : nat_le (sum_by moved (guests_with done (Some made))) max_moved ≡ true = is_le _ _ (omega (arith, k.small, sum_last moved done made)) in
    rw (calls, bytes) refl

calls_again : (r b : ℕ) (files : List FileLine) (done : List (List Call)) (made cs : List Call) → files_fit [] files ≡ true → calls_fit files r made cs ≡ true → Keeps done made cs →
    ReadsOn (draft r b files done (Some made)) (map (call_words files) cs) (draft r b files done (Some (made ++ cs)))
calls_again r b files done made [] fs e k = subst (λ ms. ReadsOn (draft r b files done (Some made)) [] (draft r b files done (Some ms))) (sym (append-nil made)) (reads_none _)
calls_again r b files done made (c ∷ cs) fs e k =
    let all = and_parts (call_fits files (hold_modes made) c && has_window r c) (calls_fit files r (made ++ c ∷ []) cs) e in
    let own = and_parts (call_fits files (hold_modes made) c) (has_window r c) all.0 in
    let later = keeps_more done made c cs k in
    let held : length (hold_modes made) < 2 ^ 64 = omega (arith, holds_few made, k.few) in
    let first = call_again r b files done made c fs held own.0 (few_now done (made ++ c ∷ []) cs later) own.1 in
    let onward = subst (λ ms. ReadsOn (draft r b files done (Some (made ++ c ∷ []))) (map (call_words files) cs) (draft r b files done (Some ms))) (append_assoc made (c ∷ []) cs) (calls_again r b files done (made ++ c ∷ []) cs fs all.1 later) in
    reads_both _ _ _ (call_words files c ∷ []) (map (call_words files) cs) (reads_one _ _ (call_words files c) first) onward

pub files_again : (r b : ℕ) (before files : List FileLine) → files_fit before files ≡ true → length before + length files ≤ max_files →
    ReadsOn (draft r b before [] None) (map file_words files) (draft r b (before ++ files) [] None)
files_again r b before [] e few = subst (λ fs. ReadsOn (draft r b before [] None) [] (draft r b fs [] None)) (sym (append-nil before)) (reads_none _)
files_again r b before (f ∷ files) e few =
    let all = and_parts (file_fits f && not (list_any (is_called f.name) before)) (files_fit (before ++ f ∷ []) files) e in
    let own = and_parts (file_fits f) (not (list_any (is_called f.name) before)) all.0 in
    let room : nat_lt (length before) max_files ≡ true = is_lt _ _ (omega (arith, few)) in
    let count : length (before ++ f ∷ []) + length files ≤ max_files = omega (arith, few, length-append before (f ∷ [])) in
    let onward = subst (λ fs. ReadsOn (draft r b (before ++ f ∷ []) [] None) (map file_words files) (draft r b fs [] None)) (append_assoc before (f ∷ []) files) (files_again r b (before ++ f ∷ []) files all.1 count) in
    reads_both _ _ _ (file_words f ∷ []) (map file_words files) (reads_one _ _ (file_words f) (file_line_again r b before f own.0 own.1 room)) onward

-- ---- guests

pub record KeepsAll (before gs : List (List Call)) : Type 0 where
  pub few : sum_by length before + sum_by length gs ≤ max_calls
  pub small : sum_by moved before + sum_by moved gs ≤ max_moved
  pub guests : length before + length gs ≤ max_guests

all_more : (before : List (List Call)) (g : List Call) (gs : List (List Call)) → KeepsAll before (g ∷ gs) → KeepsAll (before ++ g ∷ []) gs
all_more before g gs k = record {
  few = omega (arith, k.few, sum_last length before g, sum_next length g gs);
  small = omega (arith, k.small, sum_last moved before g, sum_next moved g gs);
  guests = omega (arith, k.guests, length-append before (g ∷ []));
}

keeps_first : (before : List (List Call)) (g : List Call) (gs : List (List Call)) → KeepsAll before (g ∷ gs) → Keeps before [] g
keeps_first before g gs k = record { few = omega (arith, k.few, sum_next length g gs); small = omega (arith, k.small, sum_next moved g gs) }

-- the guests read, of which the last is at hand
abbrev pub after_guests : ℕ → ℕ → List FileLine → List (List Call) → Option (List Call) → List (List Call) → Draft
after_guests r b files done cs [] = draft r b files done cs
after_guests r b files done cs (g ∷ gs) = after_guests r b files (guests_with done cs) (Some g) gs

pub guests_again : (r b : ℕ) (files : List FileLine) (done : List (List Call)) (cs : Option (List Call)) (gs : List (List Call)) → files_fit [] files ≡ true →
    list_all (calls_fit files r []) gs ≡ true → KeepsAll (guests_with done cs) gs →
    ReadsOn (draft r b files done cs) (flat_map (guest_lines files) gs) (after_guests r b files done cs gs)
guests_again r b files done cs [] fs e k = reads_none _
guests_again r b files done cs (g ∷ gs) fs e k =
    let all = and_parts (calls_fit files r [] g) (list_all (calls_fit files r []) gs) e in
    let room : nat_lt (length (guests_with done cs)) max_guests ≡ true = is_lt _ _ (omega (arith, k.guests)) in
    let head = reads_one _ _ (codes "guest" ∷ []) (guest_again r b files done cs room) in
    let own = calls_again r b files (guests_with done cs) [] g fs all.0 (keeps_first (guests_with done cs) g gs k) in
    let guest = reads_both _ _ _ ((codes "guest" ∷ []) ∷ []) (map (call_words files) g) head own in
    reads_both _ _ _ (guest_lines files g) (flat_map (guest_lines files) gs) guest (guests_again r b files (guests_with done cs) (Some g) gs fs all.1 (all_more (guests_with done cs) g gs k))

-- what the end makes of it
pub ended : (n r b : ℕ) (files : List FileLine) (done : List (List Call)) (cs : Option (List Call)) (gs : List (List Call)) →
    words_from n (after_guests r b files done cs gs) [] ≡ Ok (record { ranges = r; background = b; files = files; guests = guests_with done cs ++ gs })
unfolding finished
ended n r b files done cs [] = ap (λ all. Ok (record { ranges = r; background = b; files = files; guests = all })) (sym (append-nil (guests_with done cs)))
ended n r b files done cs (g ∷ gs) = ended n r b files (guests_with done cs) (Some g) gs ∙ ap (λ all. Ok (record { ranges = r; background = b; files = files; guests = all })) (append_assoc (guests_with done cs) (g ∷ []) gs)
