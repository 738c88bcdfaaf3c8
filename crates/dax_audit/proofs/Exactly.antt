-- A transcript is legal exactly where it has no fault.
use Rattle.std.proofs.Common.{◌≡◌, ◌∙◌, ap, sym, refl, subst, ℕ, zero, suc, ◌+◌, ◌-◌, ◌<◌, ◌≤◌, ◌↔◌, Bool, true, false, ◌&&◌, ltb, eqb, List, [], ◌∷◌, length, map, Option, Some, None, slice_get, option_map, unwrap_or, is_none, bytes_eq, zero-add, true≢false, inl, inr, arith}
use Rattle.std.proofs.lemmas.Bool.{cases_Bool, cases_lt, not-false, not_from_true, and_parts, and_from, or_parts, or_from, eqb-true, eq-eqb, ltb-false, le-ltb, ltb-true, lt-ltb}
use Rattle.std.proofs.lemmas.Option.{none-some, slice_get-map, slice_get_within, same_Some}
use Rattle.std.proofs.lemmas.Slice.Eq.{bytes_eq-Decides}
use Rattle.std.specs.List.{position_from, range_with_len}
use Rattle.page_map.specs.declared.ranges.LogEntry.{LogEntry}
use Rattle.page_map.specs.Logs.{Slot, may_follow, next_slots}
use Rattle.range_tree.specs.Logs.{first_unsound, unsound_at}
use Rattle.dax_script.specs.declared.scripts.Call.{Call}
use Rattle.dax_script.specs.declared.scripts.FileLine.{FileLine}
use Rattle.dax_script.specs.declared.scripts.Script.{Script}
use Rattle.dax_script.specs.Asks.{calls_of}
use Rattle.transcript_text.specs.declared.transcripts.EntryLine.{EntryLine}
use Rattle.transcript_text.specs.declared.transcripts.FilePart.{FilePart}
use Rattle.transcript_text.specs.declared.transcripts.GuestPart.{GuestPart}
use Rattle.transcript_text.specs.declared.transcripts.Line.{Line}
use Rattle.transcript_text.specs.declared.transcripts.Numbered.{Numbered}
use Rattle.transcript_text.specs.declared.transcripts.Transcript.{Transcript}
use Rattle.dax_audit.specs.Items.{Item, Head, Ranges, File, Entry, Log, Guest, Call as call_item, End, items}
use Rattle.dax_audit.specs.Rules.{lines_of, line_at, entry_at, is_file_line, is_line_of_file, breaks_files, lacks_lines, breaks_guests, is_place, breaks_logs, breaks_call, breaks_entry, breaks_forms, breaks_entries, breaks_order, breaks_replies, breaks_ways, breaks_tales, fits_at, has_entry_at, rises_at, replies_right, tells_at, is_named, came_right}
use Rattle.plain_file.specs.File.{max_file}
use Rattle.dax_audit.specs.Tables.{AreNamed, HaveEntries}
use Rattle.dax_audit.specs.Legal.{the_rules, Fault, fault_or, first_fault, fault, file_line, IsLegal}
use Rattle.dax_audit.proofs.Lines.{passes, none_broken, EachLine, each_line, line_each, at_line, line_there, at_entry, entry_there}

-- ---- the rules one by one

-- no line breaks a test
abbrev Kept : Transcript → (Item → Bool) → Type 0
Kept t test = EachLine (λ i. test i ≡ false) t

fault_none : (n : ℕ) (o : Option ℕ) (later : Option Fault) → fault_or n o later ≡ None → (o ≡ None) × (later ≡ None)
fault_none n None later h = (refl, h)
fault_none n (Some line) later h = absurd (none-some _ (sym h))

kept : (t : Transcript) (test : Item → Bool) → position_from test 1 (items t) ≡ None → Kept t test
kept t test h = each_line (λ i. test i ≡ false) t (passes test 1 (items t) h)

no_line : (t : Transcript) (test : Item → Bool) → Kept t test → position_from test 1 (items t) ≡ None
no_line t test h = none_broken test 1 (items t) (line_each (λ i. test i ≡ false) t h)

-- the rules that only look at calls' lines
calls_kept : (t : Transcript) (test : ℕ → ℕ → Line → Bool) → Kept t (breaks_call test) → (g c : ℕ) (l : Line) → line_at t g c ≡ Some l → test g c l ≡ true
unfolding breaks_call
calls_kept t test h g c l at =
    let there = at_line t g c l at in
    subst (λ m. test g c m ≡ true) there.4 (not-false _ (h.call g there.0 there.2 c there.1 there.3))

kept_calls : (t : Transcript) (test : ℕ → ℕ → Line → Bool) → ((g c : ℕ) (l : Line) → line_at t g c ≡ Some l → test g c l ≡ true) → Kept t (breaks_call test)
unfolding breaks_call
kept_calls t test h = record {
  head = refl;
  ranges = refl;
  file = λ f part at. refl;
  entry = λ f part at n e there. refl;
  log = λ f part at n e there. refl;
  guest = λ g part at. refl;
  call = λ g part at c n there. not_from_true _ (h g c n.line (line_there t g c part n at there));
  end = refl;
}

-- the rules that only look at entries
entries_kept : (t : Transcript) (test : ℕ → ℕ → EntryLine → Bool) → Kept t (breaks_entry test) → (f p : ℕ) (e : EntryLine) → entry_at t f p ≡ Some e → test f p e ≡ true
unfolding breaks_entry
entries_kept t test h f p e at = let there = at_entry t f p e at in not-false _ (h.entry f there.0 there.1 p e there.2)

kept_entries : (t : Transcript) (test : ℕ → ℕ → EntryLine → Bool) → ((f p : ℕ) (e : EntryLine) → entry_at t f p ≡ Some e → test f p e ≡ true) → Kept t (breaks_entry test)
unfolding breaks_entry
kept_entries t test h = record {
  head = refl;
  ranges = refl;
  file = λ f part at. refl;
  entry = λ f part at n e there. not_from_true _ (h f n e (entry_there t f n part e at there));
  log = λ f part at n e there. refl;
  guest = λ g part at. refl;
  call = λ g part at c n there. refl;
  end = refl;
}

-- two tests at once
each_of : (t : Transcript) (P Q : Item → Type 0) → ((i : Item) → P i → Q i) → EachLine P t → EachLine Q t
each_of t P Q k h = record {
  head = k Head h.head;
  ranges = k Ranges h.ranges;
  file = λ f part at. k (File f part) (h.file f part at);
  entry = λ f part at n e there. k (Entry f n e) (h.entry f part at n e there);
  log = λ f part at n e there. k (Log f n e) (h.log f part at n e there);
  guest = λ g part at. k (Guest g part) (h.guest g part at);
  call = λ g part at c n there. k (call_item g c n) (h.call g part at c n there);
  end = k End h.end;
}

both_of : (t : Transcript) (P Q R : Item → Type 0) → ((i : Item) → P i → Q i → R i) → EachLine P t → EachLine Q t → EachLine R t
both_of t P Q R k h m = record {
  head = k Head h.head m.head;
  ranges = k Ranges h.ranges m.ranges;
  file = λ f part at. k (File f part) (h.file f part at) (m.file f part at);
  entry = λ f part at n e there. k (Entry f n e) (h.entry f part at n e there) (m.entry f part at n e there);
  log = λ f part at n e there. k (Log f n e) (h.log f part at n e there) (m.log f part at n e there);
  guest = λ g part at. k (Guest g part) (h.guest g part at) (m.guest g part at);
  call = λ g part at c n there. k (call_item g c n) (h.call g part at c n there) (m.call g part at c n there);
  end = k End h.end m.end;
}

-- ---- 1: ranges and files

bytes_same : (a b : List ℕ) → bytes_eq a b ≡ true → a ≡ b
bytes_same a b h = (bytes_eq-Decides a b).0 h

same_bytes : (a : List ℕ) → bytes_eq a a ≡ true
same_bytes a = (bytes_eq-Decides a a).1 refl

file_same : (f : FileLine) (p : FilePart) → is_file_line f p ≡ true → file_line p ≡ f
file_same f p h =
    let rest = and_parts _ _ h in
    let front = and_parts _ _ rest.0 in
    let a = bytes_same p.name f.name front.0 in
    let b = eqb-true p.first.size f.first.size front.1 in
    let c = eqb-true p.first.fill f.first.fill rest.1 in
    λ i. record { name = a i; first = record { size = b i; fill = c i } }

files_same : (fs : List FileLine) (ps : List FilePart) → ((i : ℕ) (p : FilePart) → slice_get ps i ≡ Some p → is_line_of_file (slice_get fs i) p ≡ true) → length fs ≤ length ps → map file_line ps ≡ fs
files_same [] [] h k = refl
files_same [] (p ∷ ps) h k = let e : false ≡ true = h zero p refl in absurd cc
files_same (f ∷ fs) [] h k = absurd (omega arith)
files_same (f ∷ fs) (p ∷ ps) h k =
    let e = file_same f p (h zero p refl) in
    let rest = files_same fs ps (λ i q at. h (suc i) q at) (omega arith) in
    λ i. e i ∷ rest i

same_file : (fs : List FileLine) (ps : List FilePart) → map file_line ps ≡ fs → (i : ℕ) (p : FilePart) → slice_get ps i ≡ Some p → is_line_of_file (slice_get fs i) p ≡ true
same_file fs ps h i p at =
    let there : slice_get fs i ≡ Some (file_line p) = ap (λ (xs : List FileLine). slice_get xs i) (sym h) ∙ slice_get-map file_line ps i ∙ ap (option_map file_line) at in
    rw there (and_from _ _ (and_from _ _ (same_bytes p.name) (eq-eqb p.first.size p.first.size refl)) (eq-eqb p.first.fill p.first.fill refl))

map_length : {X Y : Type 0} (v : X → Y) (xs : List X) → length (map v xs) ≡ length xs
map_length v [] = refl
map_length v (x ∷ xs) = ap suc (map_length v xs)

files_kept : (s : Script) (t : Transcript) → Kept t (breaks_files s t) → (t.ranges ≡ s.ranges) × (map file_line t.files ≡ s.files)
unfolding breaks_files
files_kept s t h = (
  eqb-true t.ranges s.ranges (not-false _ h.ranges),
  files_same s.files t.files (λ i p at. not-false _ (h.file i p at)) (ltb-false (length t.files) (length s.files) h.end),
)

kept_files : (s : Script) (t : Transcript) → t.ranges ≡ s.ranges → map file_line t.files ≡ s.files → Kept t (breaks_files s t)
unfolding breaks_files
kept_files s t r f =
    let many : length s.files ≤ length t.files = omega (arith, ap length f, map_length file_line t.files) in
    let enough = le-ltb (length t.files) (length s.files) many in
    record {
      head = refl;
      ranges = not_from_true _ (eq-eqb t.ranges s.ranges r);
      file = λ i part at. not_from_true _ (same_file s.files t.files f i part at);
      entry = λ i part at n e there. refl;
      log = λ i part at n e there. refl;
      guest = λ g part at. enough;
      call = λ g part at c n there. refl;
      end = enough;
    }

-- ---- 2: guests and their lines

there_at : {X : Type 0} (xs : List X) (i : ℕ) → i < length xs → (x : X) × (slice_get xs i ≡ Some x)
there_at [] i h = absurd (omega arith)
there_at (x ∷ xs) zero h = (x, refl)
there_at (x ∷ xs) (suc i) h = there_at xs i (omega arith)

some_at : {X : Type 0} (xs : List X) (i : ℕ) → i < length xs → is_none (slice_get xs i) ≡ false
some_at xs i h = let x = there_at xs i h in rw x.1 refl

within_at : {X : Type 0} (xs : List X) (i : ℕ) → is_none (slice_get xs i) ≡ false → i < length xs
within_at [] i h = let e : true ≡ false = h in absurd cc
within_at (x ∷ xs) zero h = omega arith
within_at (x ∷ xs) (suc i) h = omega (arith, within_at xs i h)

counted : {X : Type 0} (f : X → ℕ) (xs : List X) (a : ℕ) → ((i : ℕ) (x : X) → slice_get xs i ≡ Some x → f x ≡ a + i) → map f xs ≡ range_with_len a (length xs)
counted f [] a h = refl
counted f (x ∷ xs) a h =
    let first : f x ≡ a = omega (arith, h zero x refl) in
    let rest = counted f xs (a + 1) (λ i y at. let e = h (suc i) y at in omega arith) in
    λ i. first i ∷ rest i

map_same : {X Y Z : Type 0} (f : X → Z) (g : Y → Z) (xs : List X) (ys : List Y) → length xs ≡ length ys → ((i : ℕ) (x : X) (y : Y) → slice_get xs i ≡ Some x → slice_get ys i ≡ Some y → f x ≡ g y) → map f xs ≡ map g ys
map_same f g [] [] e h = refl
map_same f g [] (y ∷ ys) e h = absurd (omega arith)
map_same f g (x ∷ xs) [] e h = absurd (omega arith)
map_same f g (x ∷ xs) (y ∷ ys) e h =
    let first = h zero x y refl refl in
    let rest = map_same f g xs ys (omega arith) (λ i v w at there. h (suc i) v w at there) in
    λ i. first i ∷ rest i

in_numbers : (a n i x : ℕ) → slice_get (range_with_len a n) i ≡ Some x → (i < n) × (x ≡ a + i)
in_numbers a zero i x h = absurd (none-some x h)
in_numbers a (suc n) zero x h = let e : a ≡ x = cc in (omega arith, omega arith)
in_numbers a (suc n) (suc i) x h = let r = in_numbers (a + 1) n i x h in (omega arith, omega arith)

range_length : (a n : ℕ) → length (range_with_len a n) ≡ n
range_length a zero = refl
range_length a (suc n) = ap suc (range_length (a + 1) n)

enough_lines : (s : Script) (t : Transcript) (g : ℕ) → lacks_lines s t (g + 1) ≡ false → length (calls_of s g) ≤ length (lines_of t g)
enough_lines s t g h =
    let k : g + 1 - 1 ≡ g = omega arith in
    let moved = subst (λ m. (ltb 0 (g + 1) && ltb (length (lines_of t m)) (length (calls_of s m))) ≡ false) k h in
    let up : ltb 0 (g + 1) ≡ true = lt-ltb 0 (g + 1) (omega arith) in
    ltb-false (length (lines_of t g)) (length (calls_of s g)) (rw up at moved)

lacks_none : (s : Script) (t : Transcript) (g : ℕ) → ((m : ℕ) → length (calls_of s m) ≤ length (lines_of t m)) → lacks_lines s t g ≡ false
lacks_none s t zero h = refl
lacks_none s t (suc g) h =
    let k : g ≡ suc g - 1 = omega arith in
    let few = le-ltb (length (lines_of t g)) (length (calls_of s g)) (h g) in
    subst (λ m. (ltb 0 (suc g) && ltb (length (lines_of t m)) (length (calls_of s m))) ≡ false) k (rw few (elim (ltb 0 (suc g)) as (λ b. (b && false) ≡ false) [ true ↦ refl | false ↦ refl ]))

call_number : Numbered → ℕ
call_number n = n.call

abbrev numbers_of : GuestPart → List ℕ
numbers_of g = map (λ n. n.call) g.lines

abbrev numbers_for : List Call → List ℕ
numbers_for cs = range_with_len 0 (length cs)

AreGuests : Script → Transcript → Type 0
AreGuests s t = (map (λ g. g.guest) t.guests ≡ range_with_len 0 (length s.guests)) × (map numbers_of t.guests ≡ map numbers_for s.guests)

guests_kept : (s : Script) (t : Transcript) → Kept t (breaks_guests s t) → AreGuests s t
unfolding breaks_guests AreGuests
guests_kept s t h =
    let ends = or_parts _ _ h.end in
    let many : length s.guests ≤ length t.guests = ltb-false (length t.guests) (length s.guests) ends.0 in
    let guest = λ (g : ℕ) (part : GuestPart) (at : slice_get t.guests g ≡ Some part). or_parts _ _ (h.guest g part at) in
    let number = λ (g : ℕ) (part : GuestPart) (at : slice_get t.guests g ≡ Some part). or_parts _ _ (guest g part at).0 in
    let small = λ (g : ℕ) (part : GuestPart) (at : slice_get t.guests g ≡ Some part). ltb-true g (length s.guests) (not-false _ (number g part at).1) in
    let few : length t.guests ≤ length s.guests = elim (cases_lt (length s.guests) (length t.guests)) [
      | inl more ↦ let last = there_at t.guests (length s.guests) more in absurd (omega (arith, small (length s.guests) last.0 last.1))
      | inr le ↦ le
    ] in
    let same : length t.guests ≡ length s.guests = omega arith in
    let named = counted (λ (g : GuestPart). g.guest) t.guests 0 (λ i part at. eqb-true part.guest i (not-false _ (number i part at).0) ∙ sym (zero-add i)) in
    let lines = map_same numbers_of numbers_for t.guests s.guests same (λ i part cs at there.
    let calls : calls_of s i ≡ cs = rw there refl in
    let own : lines_of t i ≡ part.lines = rw at refl in
    let test = λ (c : ℕ) (n : Numbered) (here : slice_get part.lines c ≡ Some n). or_parts _ _ (h.call i part at c n here) in
    let short = λ (c : ℕ) (n : Numbered) (here : slice_get part.lines c ≡ Some n). within_at cs c (subst (λ (xs : List Call). is_none (slice_get xs c) ≡ false) calls (test c n here).1) in
    let not_more : length part.lines ≤ length cs = elim (cases_lt (length cs) (length part.lines)) [
      | inl more ↦ let last = there_at part.lines (length cs) more in absurd (omega (arith, short (length cs) last.0 last.1))
      | inr le ↦ le
    ] in
    let lacks : lacks_lines s t (i + 1) ≡ false = elim (cases_lt (i + 1) (length t.guests)) [
      | inl more ↦ let next = there_at t.guests (i + 1) more in (guest (i + 1) next.0 next.1).1
      | inr le ↦ let k : length t.guests ≡ i + 1 = (let w = slice_get_within t.guests i part at in omega arith) in subst (λ m. lacks_lines s t m ≡ false) k ends.1
    ] in
    let not_less : length cs ≤ length part.lines = omega (arith, enough_lines s t i lacks, ap length calls, ap length own) in
    let e : length part.lines ≡ length cs = omega arith in
    counted (λ (n : Numbered). n.call) part.lines 0 (λ c n here. eqb-true n.call c (not-false _ (test c n here).0) ∙ sym (zero-add c)) ∙ ap (range_with_len 0) e) in
    (named ∙ ap (range_with_len 0) same, lines)

option_lengths : (o : Option GuestPart) (q : Option (List Call)) → option_map numbers_of o ≡ option_map numbers_for q → length (unwrap_or (option_map (λ p. p.lines) o) []) ≡ length (unwrap_or q [])
option_lengths None None h = refl
option_lengths None (Some cs) h = absurd (none-some _ h)
option_lengths (Some part) None h = absurd (none-some _ (sym h))
option_lengths (Some part) (Some cs) h =
    let e : numbers_of part ≡ numbers_for cs = cc in
    sym (map_length (λ n. n.call) part.lines) ∙ ap length e ∙ range_length 0 (length cs)

option_calls : (part : GuestPart) (q : Option (List Call)) → Some (numbers_of part) ≡ option_map numbers_for q → (c : ℕ) (n : Numbered) → slice_get part.lines c ≡ Some n → (n.call ≡ c) × (is_none (slice_get (unwrap_or q []) c) ≡ false)
option_calls part None h c n at = absurd (none-some _ (sym h))
option_calls part (Some cs) h c n at =
    let e : numbers_of part ≡ numbers_for cs = cc in
    let there : slice_get (numbers_for cs) c ≡ Some n.call = ap (λ (xs : List ℕ). slice_get xs c) (sym e) ∙ slice_get-map (λ n. n.call) part.lines c ∙ ap (option_map (λ n. n.call)) at in
    let r = in_numbers 0 (length cs) c n.call there in
    (r.1 ∙ zero-add c, some_at cs c r.0)

kept_guests : (s : Script) (t : Transcript) → AreGuests s t → Kept t (breaks_guests s t)
unfolding breaks_guests AreGuests
kept_guests s t h =
    let same : length t.guests ≡ length s.guests = sym (map_length (λ (g : GuestPart). g.guest) t.guests) ∙ ap length h.0 ∙ range_length 0 (length s.guests) in
    let at_guest = λ (m : ℕ). sym (slice_get-map numbers_of t.guests m) ∙ ap (λ (xs : List (List ℕ)). slice_get xs m) h.1 ∙ slice_get-map numbers_for s.guests m in
    let enough = λ (m : ℕ). let e = option_lengths (slice_get t.guests m) (slice_get s.guests m) (at_guest m) in let le : length (calls_of s m) ≤ length (lines_of t m) = omega arith in le in
    let number = λ (g : ℕ) (part : GuestPart) (at : slice_get t.guests g ≡ Some part).
    in_numbers 0 (length s.guests) g part.guest (ap (λ (xs : List ℕ). slice_get xs g) (sym h.0) ∙ slice_get-map (λ (p : GuestPart). p.guest) t.guests g ∙ ap (option_map (λ (p : GuestPart). p.guest)) at) in
    let call = λ (g : ℕ) (part : GuestPart) (at : slice_get t.guests g ≡ Some part). option_calls part (slice_get s.guests g) (sym (ap (option_map numbers_of) at) ∙ at_guest g) in
    record {
      head = refl;
      ranges = refl;
      file = λ i part at. refl;
      entry = λ f part at n e there. refl;
      log = λ f part at n e there. refl;
      guest = λ g part at. or_from _ _ (or_from _ _ (not_from_true _ (eq-eqb part.guest g ((number g part at).1 ∙ zero-add g))) (not_from_true _ (lt-ltb g (length s.guests) (number g part at).0))) (lacks_none s t g enough);
      call = λ g part at c n there. or_from _ _ (not_from_true _ (eq-eqb n.call c (call g part at c n there).0)) (call g part at c n there).1;
      end = or_from _ _ (le-ltb (length t.guests) (length s.guests) (omega arith)) (lacks_none s t (length t.guests) enough);
    }

-- ---- 9: logs

unsound_within : (r n : ℕ) (slots : List Slot) (es : List LogEntry) (k : ℕ) → first_unsound r n slots es ≡ Some k → (n ≤ k) × (k < n + length es)
unfolding first_unsound
unsound_within r n slots [] k h = absurd (none-some k h)
unsound_within r n slots (e ∷ es) k h = elim (cases_Bool (may_follow r slots e)) [
  | inl fine ↦ let rest = unsound_within r (n + 1) (next_slots n slots e) es k (rw fine at h) in (omega arith, omega arith)
  | inr bad ↦ let at : n ≡ k = same_Some n k (rw bad at h) in (omega arith, omega arith)
]

none_there : (o : Option ℕ) → ((k : ℕ) → o ≡ Some k → ⊥) → o ≡ None
none_there None h = refl
none_there (Some k) h = absurd (h k refl)

logs_kept : (s : Script) (t : Transcript) → Kept t (breaks_logs s t) → (f : ℕ) (part : FilePart) → slice_get t.files f ≡ Some part → unsound_at t.ranges part.log ≡ None
unfolding breaks_logs
logs_kept s t h f part at = none_there (unsound_at t.ranges part.log) (λ k e.
    let w = unsound_within t.ranges 0 [] part.log k e in
    let there = there_at part.log k (omega arith) in
    let test = h.log f part at k there.0 there.1 in
    let found : is_place k (unsound_at t.ranges part.log) ≡ false = rw at at test in
    let same : eqb k k ≡ false = rw e at found in
    absurd (true≢false (sym (eq-eqb k k refl) ∙ same)))

kept_logs : (s : Script) (t : Transcript) → ((f : ℕ) (part : FilePart) → slice_get t.files f ≡ Some part → unsound_at t.ranges part.log ≡ None) → Kept t (breaks_logs s t)
unfolding breaks_logs
kept_logs s t h = record {
  head = refl;
  ranges = refl;
  file = λ i part at. refl;
  entry = λ f part at n e there. refl;
  log = λ f part at n e there. rw (at, h f part at) refl;
  guest = λ g part at. refl;
  call = λ g part at c n there. refl;
  end = refl;
}

-- ---- all of them

pub no_fault : (s : Script) (t : Transcript) → fault s t ≡ None → IsLegal s t
unfolding fault the_rules first_fault AreGuests
no_fault s t h =
    let a = fault_none 1 _ _ h in
    let b = fault_none 2 _ _ a.1 in
    let c = fault_none 3 _ _ b.1 in
    let d = fault_none 4 _ _ c.1 in
    let e = fault_none 5 _ _ d.1 in
    let f = fault_none 6 _ _ e.1 in
    let g = fault_none 7 _ _ f.1 in
    let i = fault_none 8 _ _ g.1 in
    let j = fault_none 9 _ _ i.1 in
    let files = files_kept s t (kept t (breaks_files s t) a.0) in
    let guests = guests_kept s t (kept t (breaks_guests s t) b.0) in
    let entries = kept t (breaks_entries s t) d.0 in
    record {
      ranges = files.0;
      files = files.1;
      guests = guests.0;
      calls = guests.1;
      fitting = calls_kept t (fits_at s) (kept t (breaks_forms s t) c.0);
      entries = calls_kept t (has_entry_at s t) (each_of t _ _ (λ x k. (or_parts _ _ k).1) entries);
      rising = calls_kept t (rises_at s t) (kept t (breaks_order s t) e.0);
      replies = calls_kept t (replies_right s t) (kept t (breaks_replies s t) f.0);
      telling = calls_kept t (tells_at s t) (kept t (breaks_tales s t) i.0);
      named = entries_kept t (is_named s t) (each_of t _ _ (λ x k. (or_parts _ _ k).0) entries);
      ways = entries_kept t (came_right s t) (kept t (breaks_ways s t) g.0);
      sound = logs_kept s t (kept t (breaks_logs s t) j.0);
    }

pub legal : (s : Script) (t : Transcript) → IsLegal s t → fault s t ≡ None
unfolding fault the_rules first_fault AreGuests
legal s t h =
    let a = no_line t (breaks_files s t) (kept_files s t h.ranges h.files) in
    let b = no_line t (breaks_guests s t) (kept_guests s t (h.guests, h.calls)) in
    let c = no_line t (breaks_forms s t) (kept_calls t (fits_at s) h.fitting) in
    let d = no_line t (breaks_entries s t) (both_of t _ _ _ (λ x k m. or_from _ _ k m) (kept_entries t (is_named s t) h.named) (kept_calls t (has_entry_at s t) h.entries)) in
    let e = no_line t (breaks_order s t) (kept_calls t (rises_at s t) h.rising) in
    let f = no_line t (breaks_replies s t) (kept_calls t (replies_right s t) h.replies) in
    let g = no_line t (breaks_ways s t) (kept_entries t (came_right s t) h.ways) in
    let i = no_line t (breaks_tales s t) (kept_calls t (tells_at s t) h.telling) in
    let j = no_line t (breaks_logs s t) (kept_logs s t h.sound) in
    rw (a, b, c, d, e, f, g, i, j) refl

pub legal_exactly : (s : Script) (t : Transcript) → IsLegal s t ↔ (fault s t ≡ None)
legal_exactly s t = (legal s t, no_fault s t)

-- ---- what the audit learns on its way

pub are_named : (s : Script) (t : Transcript) → None ≡ position_from (breaks_entries s t) 1 (items t) → AreNamed s t
are_named s t h = record { each = entries_kept t (is_named s t) (each_of t _ _ (λ x k. (or_parts _ _ k).0) (kept t (breaks_entries s t) (sym h))) }

pub have_entries : (s : Script) (t : Transcript) → None ≡ position_from (breaks_entries s t) 1 (items t) → HaveEntries s t
have_entries s t h = record { each = calls_kept t (has_entry_at s t) (each_of t _ _ (λ x k. (or_parts _ _ k).1) (kept t (breaks_entries s t) (sym h))) }

pub small_files : (s : Script) (t : Transcript) → None ≡ position_from (breaks_files s t) 1 (items t) → ((file : ℕ) (f : FileLine) → slice_get s.files file ≡ Some f → f.first.size ≤ max_file) →
    (file : ℕ) (p : FilePart) → slice_get t.files file ≡ Some p → p.first.size ≤ max_file
small_files s t h small file p at =
    let same = (files_kept s t (kept t (breaks_files s t) (sym h))).1 in
    let there : slice_get s.files file ≡ Some (file_line p) = ap (λ (xs : List FileLine). slice_get xs file) (sym same) ∙ slice_get-map file_line t.files file ∙ ap (option_map file_line) at in
    small file (file_line p) there
