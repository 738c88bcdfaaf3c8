-- A hold more of a guest whose calls fit.
use Rattle.std.proofs.Common.{◌≡◌, ◌∙◌, ap, sym, refl, ℕ, suc, ◌+◌, ◌<◌, ◌≤◌, ◌&&◌, true, nat_lt, nat_le, List, [], ◌∷◌, ◌++◌, length, get_or, take, drop, Fits, w8, Option, arith, tests}
use Rattle.std.proofs.lemmas.Grind.{take_at_read}
use Rattle.std.proofs.lemmas.List.{length-take-le}
use Rattle.std.proofs.Math.Seq.{drop-cons}
use Rattle.std.proofs.lemmas.Bool.{and_parts}
use Rattle.page_map.specs.declared.pages.Mode.{Mode}
use Rattle.dax_script.specs.declared.scripts.Call.{Call}
use Rattle.dax_script.specs.declared.scripts.Call.TheVariants as calls
use Rattle.dax_script.specs.declared.scripts.FileLine.{FileLine}
use Rattle.dax_script.specs.ScriptWords.{held_mode, hold_modes}
use Rattle.dax_script.specs.ScriptText.{max_chunk, max_holds, has_window}
use Rattle.dax_script.specs.Totals.{modes_of}
use Rattle.dax_script.specs.Fits.{are_bytes, call_fits, calls_fit}
use Rattle.dax_script.proofs.Totals.{held_more}
use Rattle.dax_script.proofs.CallsAgain.{holds_lt}

pub room_for : (files : List FileLine) (held : List Mode) (c : Call) → length held ≤ max_holds → call_fits files held c ≡ true → length held + length (modes_of (held_mode c)) ≤ max_holds
unfolding call_fits held_mode
room_for files held (calls.Hold file chunk m) few e =
    let all = and_parts (nat_lt file (length files) && nat_le chunk max_chunk) (nat_lt (length held) max_holds) e in
    omega (arith, holds_lt (length held) max_holds all.1)
room_for files held (calls.Read file off len) few e = omega (arith, few)
room_for files held (calls.Write file off bytes) few e = omega (arith, few)
room_for files held (calls.Fill file off len b) few e = omega (arith, few)
room_for files held (calls.Size file) few e = omega (arith, few)
room_for files held (calls.Truncate file size) few e = omega (arith, few)
room_for files held (calls.Load h off len) few e = omega (arith, few)
room_for files held (calls.Store h off bytes) few e = omega (arith, few)
room_for files held (calls.Release h) few e = omega (arith, few)

pub below_256 : (bytes : List ℕ) → ((k : ℕ) → Fits w8 (get_or bytes k 0)) → are_bytes bytes ≡ true
below_256 [] h = refl
below_256 (b ∷ bytes) h = let low : b < 256 = omega (arith, h 0) in
    let small : nat_lt b 256 ≡ true = grind (arith, tests, low) in rw small (below_256 bytes (λ k. h (suc k)))

-- the same, by what the loop keeps
pub room_now : (files : List FileLine) (r : ℕ) (held part : List Mode) (count : ℕ) (c : Call) (mode : Option Mode) → count ≤ 32 → length held ≡ 32 → part ≡ take count held → mode ≡ held_mode c →
    call_fits files part c && has_window r c ≡ true → count + length (modes_of mode) ≤ 32
room_now files r held part count c mode few long front is e =
    let own = and_parts (call_fits files part c) (has_window r c) e in
    let len : length part ≡ count = ap length front ∙ length-take-le count held (omega (arith, few, long)) in
    rw is (omega (arith, len, room_for files part c (omega (arith, len, few)) own.0))

-- the calls behind one more that fits
pub calls_step : (files : List FileLine) (r : ℕ) (cs : List Call) (i : ℕ) (c : Call) (held : List Mode) → i < length cs → c ≡ get_or cs i c → held ≡ hold_modes (take i cs) →
    call_fits files held c && has_window r c ≡ true → calls_fit files r (take (i + 1) cs) (drop (i + 1) cs) ≡ calls_fit files r (take i cs) (drop i cs)
calls_step files r cs i c held inside at is e =
    let one : suc i ≡ i + 1 = omega arith in
    let next : drop i cs ≡ c ∷ drop (i + 1) cs = drop-cons cs i c inside ∙ ap (λ k. get_or cs i c ∷ drop k cs) one ∙ ap (λ x. x ∷ drop (i + 1) cs) (sym at) in
    let more : take (i + 1) cs ≡ take i cs ++ c ∷ [] = (take_at_read cs i c inside).1 ∙ ap (λ x. take i cs ++ x ∷ []) (sym at) in
    let fit : call_fits files (hold_modes (take i cs)) c && has_window r c ≡ true = rw (← is) e in
    rw (next, more, fit) refl

-- the modes behind one call more
pub modes_step : (cs : List Call) (i : ℕ) (c : Call) (held new : List Mode) (mode : Option Mode) → i < length cs → c ≡ get_or cs i c → held ≡ hold_modes (take i cs) → mode ≡ held_mode c →
    new ≡ held ++ modes_of mode → new ≡ hold_modes (take (i + 1) cs)
modes_step cs i c held new mode inside at is m e =
    let more : take (i + 1) cs ≡ take i cs ++ c ∷ [] = (take_at_read cs i c inside).1 ∙ ap (λ x. take i cs ++ x ∷ []) (sym at) in
    rw (e, is, m, more) (sym (held_more (take i cs) c))
