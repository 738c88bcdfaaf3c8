-- What is known of a script that keeps its limits: its calls are on files and holds of it, and what they do ends within the
-- largest file.
use Rattle.std.proofs.Common.{◌≡◌, ap, subst, refl, ℕ, zero, suc, ◌+◌, ◌<◌, ◌≤◌, ◌&&◌, Bool, true, nat_lt, nat_le, List, [], ◌∷◌, ◌++◌, length, slice_get, not, append_assoc, length-append, Option, Some, None, option_map, unwrap_or, IfSome, arith}
use Rattle.std.proofs.lemmas.Bool.{and_parts}
use Rattle.std.proofs.lemmas.Option.{none-some}
use Rattle.std.proofs.lemmas.List.{length-replicate}
use Rattle.std.proofs.lemmas.List.Elements.{filter_map-append}
use Rattle.std.specs.List.{list_all, list_any}
use Rattle.page_map.specs.declared.pages.Mode.{Mode}
use Rattle.plain_file.specs.File.{max_file}
use Rattle.plain_text.specs.Options.{◌>>=◌}
use Rattle.dax_script.specs.declared.asks.Held.{Held}
use Rattle.dax_script.specs.declared.scripts.Call.{Call}
use Rattle.dax_script.specs.declared.scripts.Call.TheVariants as calls
use Rattle.dax_script.specs.declared.scripts.FileLine.{FileLine}
use Rattle.dax_script.specs.declared.scripts.Script.{Script}
use Rattle.dax_script.specs.Asks.{chunk_size, held_of, is_hold, hold_places, place_of_hold, held_by, chunk_of_held, target, op_from, op_of, calls_of, hold_in}
use Rattle.dax_script.specs.Fits.{is_within, are_bytes, call_fits, calls_fit, file_fits, files_fit, fits}
use Rattle.dax_script.specs.ScriptText.{max_chunk, max_holds, has_window}
use Rattle.dax_script.specs.ScriptWords.{held_mode, hold_modes, is_called, is_script_name, is_writing}
use Rattle.dax_script.proofs.CallsAgain.{holds_le, holds_lt, inside, writing_within}
use Rattle.dax_script.proofs.RoundTrip.{fitting}
use Rattle.dax_audit.specs.Tables.{end_of, deed_from, IsSound}

-- ---- the calls of a guest

-- a call that fits behind some of its guest's holds
record IsFit (files : List FileLine) (cs : List Call) (c : Call) : Type 0 where
  held : List Mode
  few : length held ≤ length (hold_modes cs)
  fit : call_fits files held c ≡ true

call_there : (files : List FileLine) (r : ℕ) (made cs : List Call) (i : ℕ) (c : Call) → calls_fit files r made cs ≡ true → slice_get cs i ≡ Some c → IsFit files (made ++ cs) c
call_there files r made [] i c e at = absurd (none-some c at)
call_there files r made (d ∷ cs) zero c e at =
    let all = and_parts (call_fits files (hold_modes made) d && has_window r d) (calls_fit files r (made ++ d ∷ []) cs) e in
    let own = and_parts (call_fits files (hold_modes made) d) (has_window r d) all.0 in
    let same : d ≡ c = cc in
    record {
      held = hold_modes made;
      few = omega (arith, ap length (filter_map-append held_mode made (d ∷ cs)), length-append (hold_modes made) (hold_modes (d ∷ cs)));
      fit = subst (λ x. call_fits files (hold_modes made) x ≡ true) same own.0;
    }
call_there files r made (d ∷ cs) (suc i) c e at =
    let all = and_parts (call_fits files (hold_modes made) d && has_window r d) (calls_fit files r (made ++ d ∷ []) cs) e in
    subst (λ xs. IsFit files xs c) (append_assoc made (d ∷ []) cs) (call_there files r (made ++ d ∷ []) cs i c all.1 at)

abbrev AreFit : List FileLine → List Call → Type 0
AreFit files cs = (i : ℕ) (c : Call) → slice_get cs i ≡ Some c → IsFit files cs c

calls_there : (files : List FileLine) (r : ℕ) (o : Option (List Call)) → ((cs : List Call) → o ≡ Some cs → calls_fit files r [] cs ≡ true) → AreFit files (unwrap_or o [])
calls_there files r None h = λ i c at. absurd (none-some c at)
calls_there files r (Some cs) h = λ i c at. call_there files r [] cs i c (h cs refl) at

all_at : {X : Type 0} (p : X → Bool) (xs : List X) (n : ℕ) (x : X) → list_all p xs ≡ true → slice_get xs n ≡ Some x → p x ≡ true
all_at p [] n x all at = absurd (none-some x at)
all_at p (y ∷ xs) zero x all at = let same : y ≡ x = cc in subst (λ z. p z ≡ true) same (and_parts (p y) (list_all p xs) all).0
all_at p (y ∷ xs) (suc n) x all at = all_at p xs n x (and_parts (p y) (list_all p xs) all).1 at

guests_there : (s : Script) → list_all (calls_fit s.files s.ranges []) s.guests ≡ true → (guest : ℕ) → AreFit s.files (calls_of s guest)
guests_there s e guest = calls_there s.files s.ranges (slice_get s.guests guest) (λ cs at. all_at (calls_fit s.files s.ranges []) s.guests guest cs e at)

-- ---- holds

holds_counted : (n : ℕ) (cs : List Call) → length (hold_places n cs) ≡ length (hold_modes cs)
unfolding hold_places is_hold held_mode
holds_counted n [] = refl
holds_counted n (calls.Hold file chunk m ∷ cs) = ap suc (holds_counted (n + 1) cs)
holds_counted n (calls.Read file off len ∷ cs) = holds_counted (n + 1) cs
holds_counted n (calls.Write file off bytes ∷ cs) = holds_counted (n + 1) cs
holds_counted n (calls.Fill file off len byte ∷ cs) = holds_counted (n + 1) cs
holds_counted n (calls.Size file ∷ cs) = holds_counted (n + 1) cs
holds_counted n (calls.Truncate file size ∷ cs) = holds_counted (n + 1) cs
holds_counted n (calls.Load h off len ∷ cs) = holds_counted (n + 1) cs
holds_counted n (calls.Store h off bytes ∷ cs) = holds_counted (n + 1) cs
holds_counted n (calls.Release h ∷ cs) = holds_counted (n + 1) cs

then_some : {X Y : Type 0} (o : Option X) (f : X → Option Y) (y : Y) → (o >>= f) ≡ Some y → (x : X) × (o ≡ Some x) × (f x ≡ Some y)
then_some None f y e = absurd (none-some y e)
then_some (Some x) f y e = (x, refl, e)

-- a held chunk is one of a file of the script
abbrev IsHeld : List FileLine → Held → Type 0
IsHeld files held = (held.file < length files) × (held.chunk ≤ 31)

held_fits : (files : List FileLine) (ms : List Mode) (c : Call) (held : Held) → call_fits files ms c ≡ true → held_of c ≡ Some held → IsHeld files held
unfolding call_fits held_of
held_fits files ms (calls.Hold file chunk mode) held e is =
    let all = and_parts (nat_lt file (length files) && nat_le chunk max_chunk) (nat_lt (length ms) max_holds) e in
    let own = and_parts (nat_lt file (length files)) (nat_le chunk max_chunk) all.0 in
    let same : record { file = file; chunk = chunk; mode = mode } ≡ held = cc in
    subst (λ (k : Held). IsHeld files k) same (holds_lt file (length files) own.0, holds_le chunk max_chunk own.1)
held_fits files ms (calls.Read file off len) held e is = absurd (none-some held is)
held_fits files ms (calls.Write file off bytes) held e is = absurd (none-some held is)
held_fits files ms (calls.Fill file off len byte) held e is = absurd (none-some held is)
held_fits files ms (calls.Size file) held e is = absurd (none-some held is)
held_fits files ms (calls.Truncate file size) held e is = absurd (none-some held is)
held_fits files ms (calls.Load h off len) held e is = absurd (none-some held is)
held_fits files ms (calls.Store h off bytes) held e is = absurd (none-some held is)
held_fits files ms (calls.Release h) held e is = absurd (none-some held is)

held_there : (files : List FileLine) (cs : List Call) → AreFit files cs → (h : ℕ) (held : Held) → held_by cs h ≡ Some held → IsHeld files held
held_there files cs all h held e =
    let place = then_some (place_of_hold cs h) (λ at. slice_get cs at >>= held_of) held e in
    let call = then_some (slice_get cs place.0) held_of held place.2 in
    let own = all place.0 call.0 call.1 in
    held_fits files own.held call.0 held own.fit call.2

-- ---- the file of a call

held_file : (n : ℕ) (o : Option Held) → ((held : Held) → o ≡ Some held → held.file < n) → IfSome (option_map chunk_of_held o) (λ x. x.file < n)
held_file n None h = tt
held_file n (Some held) h = h held refl

file_there : (files : List FileLine) (cs : List Call) → AreFit files cs → (ms : List Mode) (c : Call) → call_fits files ms c ≡ true → IfSome (target cs c) (λ x. x.file < length files)
unfolding call_fits target
file_there files cs all ms (calls.Read file off len) e = holds_lt file (length files) (and_parts (nat_lt file (length files)) (is_within max_file off len) e).0
file_there files cs all ms (calls.Write file off bytes) e =
    let both = and_parts (nat_lt file (length files) && is_within max_file off (length bytes)) (are_bytes bytes) e in
    holds_lt file (length files) (and_parts (nat_lt file (length files)) (is_within max_file off (length bytes)) both.0).0
file_there files cs all ms (calls.Fill file off len byte) e =
    let both = and_parts (nat_lt file (length files) && is_within max_file off len) (nat_lt byte 256) e in
    holds_lt file (length files) (and_parts (nat_lt file (length files)) (is_within max_file off len) both.0).0
file_there files cs all ms (calls.Size file) e = holds_lt file (length files) e
file_there files cs all ms (calls.Truncate file size) e = holds_lt file (length files) (and_parts (nat_lt file (length files)) (nat_le size max_file) e).0
file_there files cs all ms (calls.Hold file chunk mode) e =
    let both = and_parts (nat_lt file (length files) && nat_le chunk max_chunk) (nat_lt (length ms) max_holds) e in
    holds_lt file (length files) (and_parts (nat_lt file (length files)) (nat_le chunk max_chunk) both.0).0
file_there files cs all ms (calls.Load h off len) e = held_file (length files) (held_by cs h) (λ held is. (held_there files cs all h held is).0)
file_there files cs all ms (calls.Store h off bytes) e = held_file (length files) (held_by cs h) (λ held is. (held_there files cs all h held is).0)
file_there files cs all ms (calls.Release h) e = held_file (length files) (held_by cs h) (λ held is. (held_there files cs all h held is).0)

-- ---- the hold of a call

hold_there : (files : List FileLine) (cs : List Call) (c : Call) → IsFit files cs c → IfSome (hold_in c) (λ h. h < length (hold_places 0 cs))
unfolding call_fits hold_in
hold_there files cs (calls.Load h off len) f =
    let own = and_parts (nat_lt h (length f.held)) (is_within chunk_size off len) f.fit in
    omega (arith, holds_lt h (length f.held) own.0, f.few, holds_counted 0 cs)
hold_there files cs (calls.Store h off bytes) f =
    let all = and_parts (is_writing (slice_get f.held h) && is_within chunk_size off (length bytes)) (are_bytes bytes) f.fit in
    let own = and_parts (is_writing (slice_get f.held h)) (is_within chunk_size off (length bytes)) all.0 in
    omega (arith, writing_within f.held h own.0, f.few, holds_counted 0 cs)
hold_there files cs (calls.Release h) f = omega (arith, holds_lt h (length f.held) f.fit, f.few, holds_counted 0 cs)
hold_there files cs (calls.Read file off len) f = tt
hold_there files cs (calls.Write file off bytes) f = tt
hold_there files cs (calls.Fill file off len byte) f = tt
hold_there files cs (calls.Size file) f = tt
hold_there files cs (calls.Truncate file size) f = tt
hold_there files cs (calls.Hold file chunk mode) f = tt

-- ---- where a call ends

within_room : (room off len : ℕ) → is_within room off len ≡ true → off + len ≤ room
within_room room off len e = holds_le (off + len) room (inside room off len e).end

load_ends : (o : Option Held) (h off len : ℕ) → ((held : Held) → o ≡ Some held → held.chunk ≤ 31) → off + len ≤ chunk_size →
    end_of (deed_from (option_map chunk_of_held o >>= λ to. op_from to.start (calls.Load h off len))) ≤ max_file
unfolding op_from end_of
load_ends None h off len low e = omega arith
load_ends (Some held) h off len low e = omega (arith, low held refl)

store_ends : (o : Option Held) (h off : ℕ) (bytes : List ℕ) → ((held : Held) → o ≡ Some held → held.chunk ≤ 31) → off + length bytes ≤ chunk_size →
    end_of (deed_from (option_map chunk_of_held o >>= λ to. op_from to.start (calls.Store h off bytes))) ≤ max_file
unfolding op_from end_of
store_ends None h off bytes low e = omega arith
store_ends (Some held) h off bytes low e = omega (arith, low held refl)

release_ends : (o : Option Held) (h : ℕ) → end_of (deed_from (option_map chunk_of_held o >>= λ to. op_from to.start (calls.Release h))) ≤ max_file
unfolding op_from end_of
release_ends None h = omega arith
release_ends (Some held) h = omega arith

end_there : (files : List FileLine) (cs : List Call) → AreFit files cs → (ms : List Mode) (c : Call) → call_fits files ms c ≡ true → end_of (deed_from (op_of cs c)) ≤ max_file
unfolding call_fits target op_from end_of
end_there files cs all ms (calls.Read file off len) e = omega (arith, within_room max_file off len (and_parts (nat_lt file (length files)) (is_within max_file off len) e).1)
end_there files cs all ms (calls.Write file off bytes) e =
    let both = and_parts (nat_lt file (length files) && is_within max_file off (length bytes)) (are_bytes bytes) e in
    omega (arith, within_room max_file off (length bytes) (and_parts (nat_lt file (length files)) (is_within max_file off (length bytes)) both.0).1)
end_there files cs all ms (calls.Fill file off len byte) e =
    let both = and_parts (nat_lt file (length files) && is_within max_file off len) (nat_lt byte 256) e in
    omega (arith, length-replicate len byte, within_room max_file off len (and_parts (nat_lt file (length files)) (is_within max_file off len) both.0).1)
end_there files cs all ms (calls.Size file) e = omega arith
end_there files cs all ms (calls.Truncate file size) e = holds_le size max_file (and_parts (nat_lt file (length files)) (nat_le size max_file) e).1
end_there files cs all ms (calls.Hold file chunk mode) e = omega arith
end_there files cs all ms (calls.Load h off len) e =
    load_ends (held_by cs h) h off len (λ held is. (held_there files cs all h held is).1) (within_room chunk_size off len (and_parts (nat_lt h (length ms)) (is_within chunk_size off len) e).1)
end_there files cs all ms (calls.Store h off bytes) e =
    let both = and_parts (is_writing (slice_get ms h) && is_within chunk_size off (length bytes)) (are_bytes bytes) e in
    store_ends (held_by cs h) h off bytes (λ held is. (held_there files cs all h held is).1) (within_room chunk_size off (length bytes) (and_parts (is_writing (slice_get ms h)) (is_within chunk_size off (length bytes)) both.0).1)
end_there files cs all ms (calls.Release h) e = release_ends (held_by cs h) h

-- ---- files

size_there : (before files : List FileLine) (n : ℕ) (f : FileLine) → files_fit before files ≡ true → slice_get files n ≡ Some f → f.first.size ≤ max_file
size_there before [] n f e at = absurd (none-some f at)
size_there before (g ∷ files) zero f e at =
    let all = and_parts (file_fits g && not (list_any (is_called g.name) before)) (files_fit (before ++ g ∷ []) files) e in
    let own = and_parts (file_fits g) (not (list_any (is_called g.name) before)) all.0 in
    let small = and_parts (is_script_name g.name && nat_le g.first.size max_file) (nat_lt g.first.fill 256) own.0 in
    let low : g.first.size ≤ max_file = holds_le g.first.size max_file (and_parts (is_script_name g.name) (nat_le g.first.size max_file) small.0).1 in
    let same : g ≡ f = cc in
    subst (λ (x : FileLine). x.first.size ≤ max_file) same low
size_there before (g ∷ files) (suc n) f e at =
    let all = and_parts (file_fits g && not (list_any (is_called g.name) before)) (files_fit (before ++ g ∷ []) files) e in
    size_there (before ++ g ∷ []) files n f all.1 at

pub fits_sound : (s : Script) → fits s ≡ true → IsSound s
fits_sound s e =
    let whole = fitting s e in
    let all = guests_there s whole.guests in
    record {
      within = record { each = λ guest call c at. let own = all guest call c at in end_there s.files (calls_of s guest) (all guest) own.held c own.fit };
      files = λ guest call c at. let own = all guest call c at in file_there s.files (calls_of s guest) (all guest) own.held c own.fit;
      holds = λ guest call c at. hold_there s.files (calls_of s guest) c (all guest call c at);
      sizes = λ file f at. size_there [] s.files file f whole.files at;
    }
