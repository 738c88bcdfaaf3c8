-- Single places of what a transcript tells for a script.
use Rattle.std.proofs.Common.{◌≡◌, ◌∙◌, ap, sym, refl, ℕ, zero, suc, Bool, true, false, if◌then◌else◌, ◌&&◌, ◌||◌, eqb, List, [], ◌∷◌, map, zip, slice_get, Option, Some, None, option_map, unwrap_or}
use Rattle.std.specs.Prelude.{Vec}
use Rattle.std.specs.declared.alloc.Global.{Global}
use Rattle.std.proofs.lemmas.Option.{none-some, slice_get-map}
use Rattle.range_tree.specs.Logs.{unsound_at}
use Rattle.dax_script.specs.declared.scripts.Call.{Call}
use Rattle.dax_script.specs.declared.scripts.Script.{Script}
use Rattle.dax_script.specs.declared.asks.Target.{Target}
use Rattle.plain_text.specs.Options.{◌>>=◌}
use Rattle.dax_script.specs.Asks.{target, hold_places, calls_of}
use Rattle.transcript_text.specs.declared.transcripts.EntryLine.{EntryLine}
use Rattle.transcript_text.specs.declared.transcripts.FilePart.{FilePart}
use Rattle.transcript_text.specs.declared.transcripts.Numbered.{Numbered}
use Rattle.transcript_text.specs.declared.transcripts.Transcript.{Transcript}
use Rattle.dax_audit.specs.Guests.{place_of, is_file, place_on, done_by}
use Rattle.dax_audit.specs.Rules.{is_at, is_done_at, past_of, pasts, past_at, entry_at, entry_in, names, names_line, has_entry}
use Rattle.dax_audit.specs.Tables.{AreHolds}

-- ---- pairs of calls and lines

pub zip_some : {A B : Type 0} (xs : List A) (ys : List B) (i : ℕ) (x : A) (y : B) → slice_get xs i ≡ Some x → slice_get ys i ≡ Some y → slice_get (zip xs ys) i ≡ Some (x, y)
zip_some [] ys i x y h k = absurd (none-some x h)
zip_some (a ∷ xs) [] i x y h k = absurd (none-some y k)
zip_some (a ∷ xs) (b ∷ ys) zero x y h k = let p : a ≡ x = cc in let q : b ≡ y = cc in λ i. Some (p i, q i)
zip_some (a ∷ xs) (b ∷ ys) (suc i) x y h k = zip_some xs ys i x y h k

pub zip_none_left : {A B : Type 0} (xs : List A) (ys : List B) (i : ℕ) → slice_get xs i ≡ None → slice_get (zip xs ys) i ≡ None
zip_none_left [] ys i h = refl
zip_none_left (a ∷ xs) [] i h = refl
zip_none_left (a ∷ xs) (b ∷ ys) zero h = absurd (none-some a (sym h))
zip_none_left (a ∷ xs) (b ∷ ys) (suc i) h = zip_none_left xs ys i h

pub zip_none_right : {A B : Type 0} (xs : List A) (ys : List B) (i : ℕ) → slice_get ys i ≡ None → slice_get (zip xs ys) i ≡ None
zip_none_right [] ys i h = refl
zip_none_right (a ∷ xs) [] i h = refl
zip_none_right (a ∷ xs) (b ∷ ys) zero h = absurd (none-some b (sym h))
zip_none_right (a ∷ xs) (b ∷ ys) (suc i) h = zip_none_right xs ys i h

-- ---- whether a call is done at a place

done_by_is : (to : Option Target) (at : Option ℕ) (file place : ℕ) → is_at place (Some (if is_file file to then at else None)) ≡ done_by to at file place
unfolding done_by
done_by_is None at file place = refl
done_by_is (Some to) None file place = elim (eqb to.file file) as (λ b. is_at place (Some (if b then None else None)) ≡ false) [ true ↦ refl | false ↦ refl ]
done_by_is (Some to) (Some p) file place = elim (eqb to.file file) as (λ b. is_at place (Some (if b then Some p else None)) ≡ (b && eqb p place)) [ true ↦ refl | false ↦ refl ]

pub done_some : (cs : List Call) (ls : List Numbered) (file call place : ℕ) (c : Call) (n : Numbered) → slice_get cs call ≡ Some c → slice_get ls call ≡ Some n →
    is_done_at cs ls file call place ≡ done_by (target cs c) (place_of n.line) file place
unfolding is_done_at
done_some cs ls file call place c n h k =
    ap (is_at place) (slice_get-map (place_on cs file) (zip cs ls) call ∙ ap (option_map (place_on cs file)) (zip_some cs ls call c n h k)) ∙ done_by_is (target cs c) (place_of n.line) file place

pub done_no_call : (cs : List Call) (ls : List Numbered) (file call place : ℕ) → slice_get cs call ≡ None → is_done_at cs ls file call place ≡ false
unfolding is_done_at
done_no_call cs ls file call place h = ap (is_at place) (slice_get-map (place_on cs file) (zip cs ls) call ∙ ap (option_map (place_on cs file)) (zip_none_left cs ls call h))

pub done_no_line : (cs : List Call) (ls : List Numbered) (file call place : ℕ) → slice_get ls call ≡ None → is_done_at cs ls file call place ≡ false
unfolding is_done_at
done_no_line cs ls file call place h = ap (is_at place) (slice_get-map (place_on cs file) (zip cs ls) call ∙ ap (option_map (place_on cs file)) (zip_none_right cs ls call h))

-- ---- an entry of the history

past_found : (s : Script) (o : Option FilePart) (place : ℕ) → slice_get (unwrap_or (option_map (past_of s) o) (record { first = record { size = 0; fill = 0 }; history = []; log = [] })).history place ≡ option_map (entry_in s) (o >>= λ part. slice_get part.entries place)
past_found s None place = refl
past_found s (Some part) place = slice_get-map (entry_in s) part.entries place

pub entry_of_past : (s : Script) (t : Transcript) (file place : ℕ) → slice_get (past_at (pasts s t) file).history place ≡ option_map (entry_in s) (entry_at t file place)
entry_of_past s t file place = rw (slice_get-map (past_of s) t.files file) (past_found s (slice_get t.files file) place)

abbrev has_line : Transcript → ℕ → ℕ → Option Target → Option ℕ → Bool
has_line t guest call to None = true
has_line t guest call None (Some place) = false
has_line t guest call (Some to) (Some place) = names_line guest call (entry_at t to.file place)

names_mapped : (s : Script) (guest call : ℕ) (o : Option EntryLine) → names guest call (option_map (entry_in s) o) ≡ names_line guest call o
names_mapped s guest call None = refl
names_mapped s guest call (Some e) = refl

pub has_entry_is : (s : Script) (t : Transcript) (guest call : ℕ) (to : Target) (place : ℕ) → has_entry (pasts s t) guest call (Some to) (Some place) ≡ names_line guest call (entry_at t to.file place)
has_entry_is s t guest call to place = ap (names guest call) (entry_of_past s t to.file place) ∙ names_mapped s guest call (entry_at t to.file place)

pub or_nothing : (b : Bool) → (b || false) ≡ b
or_nothing true = refl
or_nothing false = refl

-- ---- where hold calls stand

held_there : (o : Option (List Call)) (xs : List ℕ) → option_map (hold_places 0) o ≡ Some xs → xs ≡ hold_places 0 (unwrap_or o [])
held_there None xs h = absurd (none-some xs h)
held_there (Some cs) xs h = cc

held_nowhere : (o : Option (List Call)) → option_map (hold_places 0) o ≡ None → [] ≡ hold_places 0 (unwrap_or o [])
unfolding hold_places
held_nowhere None h = refl
held_nowhere (Some cs) h = absurd (none-some _ (sym h))

pub holds_some : (s : Script) (holds : List (Vec ℕ Global)) (guest : ℕ) (v : Vec ℕ Global) → AreHolds s holds → slice_get holds guest ≡ Some v → v.items ≡ hold_places 0 (calls_of s guest)
unfolding hold_places
holds_some s holds guest v h at =
    let e : option_map (hold_places 0) (slice_get s.guests guest) ≡ Some v.items =
    sym (slice_get-map (hold_places 0) s.guests guest) ∙ ap (λ (xs : List (List ℕ)). slice_get xs guest) (sym h) ∙ slice_get-map (λ (w : Vec ℕ Global). w.items) holds guest ∙ ap (option_map (λ (w : Vec ℕ Global). w.items)) at in
    held_there (slice_get s.guests guest) v.items e

pub holds_none : (s : Script) (holds : List (Vec ℕ Global)) (guest : ℕ) → AreHolds s holds → slice_get holds guest ≡ None → [] ≡ hold_places 0 (calls_of s guest)
unfolding hold_places
holds_none s holds guest h at =
    let e : option_map (hold_places 0) (slice_get s.guests guest) ≡ None =
    sym (slice_get-map (hold_places 0) s.guests guest) ∙ ap (λ (xs : List (List ℕ)). slice_get xs guest) (sym h) ∙ slice_get-map (λ (w : Vec ℕ Global). w.items) holds guest ∙ ap (option_map (λ (w : Vec ℕ Global). w.items)) at in
    held_nowhere (slice_get s.guests guest) e

-- ---- where a log is unsound

unsound_of : (ranges : ℕ) (o : Option FilePart) → option_map (λ (part : FilePart). unsound_at ranges part.log) o ≡ None → (o >>= λ part. unsound_at ranges part.log) ≡ None
unsound_of ranges None h = refl
unsound_of ranges (Some part) h = absurd (none-some _ (sym h))

unsound_is : (ranges : ℕ) (o : Option FilePart) (q : Option ℕ) → option_map (λ (part : FilePart). unsound_at ranges part.log) o ≡ Some q → (o >>= λ part. unsound_at ranges part.log) ≡ q
unsound_is ranges None q h = absurd (none-some q h)
unsound_is ranges (Some part) q h = cc

pub unsound_there : (t : Transcript) (places : List (Option ℕ)) (file : ℕ) (q : Option ℕ) → places ≡ map (λ (part : FilePart). unsound_at t.ranges part.log) t.files → slice_get places file ≡ Some q → (slice_get t.files file >>= λ part. unsound_at t.ranges part.log) ≡ q
unsound_there t places file q h at =
    unsound_is t.ranges (slice_get t.files file) q (sym (slice_get-map (λ (part : FilePart). unsound_at t.ranges part.log) t.files file) ∙ ap (λ (xs : List (Option ℕ)). slice_get xs file) (sym h) ∙ at)

pub unsound_nowhere : (t : Transcript) (places : List (Option ℕ)) (file : ℕ) → places ≡ map (λ (part : FilePart). unsound_at t.ranges part.log) t.files → slice_get places file ≡ None → (slice_get t.files file >>= λ part. unsound_at t.ranges part.log) ≡ None
unsound_nowhere t places file h at =
    unsound_of t.ranges (slice_get t.files file) (sym (slice_get-map (λ (part : FilePart). unsound_at t.ranges part.log) t.files file) ∙ ap (λ (xs : List (Option ℕ)). slice_get xs file) (sym h) ∙ at)
