-- What holds of each line of a transcript, part by part.
use Rattle.std.proofs.Common.{◌≡◌, sym, refl, subst, ℕ, zero, suc, ◌+◌, Bool, false, List, [], ◌∷◌, ◌++◌, Option, Some, None, slice_get, option_map, unwrap_or, zero-add, inl, inr, arith}
use Rattle.std.proofs.lemmas.Bool.{cases_Bool}
use Rattle.std.proofs.lemmas.Option.{none-some}
use Rattle.std.specs.List.{AllByRecursion, position_from}
use Rattle.page_map.specs.declared.ranges.LogEntry.{LogEntry}
use Rattle.plain_text.specs.Options.{◌>>=◌}
use Rattle.transcript_text.specs.declared.transcripts.EntryLine.{EntryLine}
use Rattle.transcript_text.specs.declared.transcripts.FilePart.{FilePart}
use Rattle.transcript_text.specs.declared.transcripts.GuestPart.{GuestPart}
use Rattle.transcript_text.specs.declared.transcripts.Line.{Line}
use Rattle.transcript_text.specs.declared.transcripts.Numbered.{Numbered}
use Rattle.transcript_text.specs.declared.transcripts.Transcript.{Transcript}
use Rattle.dax_audit.specs.Items.{Item, Head, Ranges, File, Entry, Log, Guest, Call, End, each_from, parts_from, file_items, guest_items, items}
use Rattle.dax_audit.specs.Guests.{line_in}
use Rattle.dax_audit.specs.Rules.{line_at, entry_at}

-- ---- no line breaks a test

abbrev pub Passes : {X : Type 0} → (X → Bool) → List X → Type 0
Passes test xs = AllByRecursion (λ x. test x ≡ false) xs

pub passes : {X : Type 0} (test : X → Bool) (n : ℕ) (xs : List X) → position_from test n xs ≡ None → Passes test xs
passes test n [] h = tt
passes test n (x ∷ xs) h = elim (cases_Bool (test x)) [
  | inl e ↦ absurd (none-some n (sym (rw e at h)))
  | inr e ↦ (e, passes test (n + 1) xs (rw e at h))
]

pub none_broken : {X : Type 0} (test : X → Bool) (n : ℕ) (xs : List X) → Passes test xs → position_from test n xs ≡ None
none_broken test n [] h = refl
none_broken test n (x ∷ xs) h = rw h.0 (none_broken test (n + 1) xs h.1)

-- ---- lists of lines

pub all_left : {X : Type 0} (P : X → Type 0) (xs ys : List X) → AllByRecursion P (xs ++ ys) → AllByRecursion P xs
all_left P [] ys h = tt
all_left P (x ∷ xs) ys h = (h.0, all_left P xs ys h.1)

pub all_right : {X : Type 0} (P : X → Type 0) (xs ys : List X) → AllByRecursion P (xs ++ ys) → AllByRecursion P ys
all_right P [] ys h = h
all_right P (x ∷ xs) ys h = all_right P xs ys h.1

pub all_append : {X : Type 0} (P : X → Type 0) (xs ys : List X) → AllByRecursion P xs → AllByRecursion P ys → AllByRecursion P (xs ++ ys)
all_append P [] ys h k = k
all_append P (x ∷ xs) ys h k = (h.0, all_append P xs ys h.1 k)

pub each_item : {X : Type 0} (P : Item → Type 0) (item : ℕ → X → Item) (n : ℕ) (xs : List X) → AllByRecursion P (each_from item n xs) → (i : ℕ) (x : X) → slice_get xs i ≡ Some x → P (item (n + i) x)
each_item P item n [] h i x at = absurd (none-some x at)
each_item P item n (y ∷ ys) h zero x at =
    let e : y ≡ x = cc in
    let k : n ≡ n + zero = omega arith in
    subst (λ m. P (item m x)) k (subst (λ z. P (item n z)) e h.0)
each_item P item n (y ∷ ys) h (suc i) x at =
    let k : n + 1 + i ≡ n + suc i = omega arith in
    subst (λ m. P (item m x)) k (each_item P item (n + 1) ys h.1 i x at)

pub items_each : {X : Type 0} (P : Item → Type 0) (item : ℕ → X → Item) (n : ℕ) (xs : List X) → ((i : ℕ) (x : X) → slice_get xs i ≡ Some x → P (item (n + i) x)) → AllByRecursion P (each_from item n xs)
items_each P item n [] h = tt
items_each P item n (y ∷ ys) h =
    let k : n + zero ≡ n = omega arith in
    let first = subst (λ m. P (item m y)) k (h zero y refl) in
    (first, items_each P item (n + 1) ys (λ i x at. let e : n + suc i ≡ n + 1 + i = omega arith in subst (λ m. P (item m x)) e (h (suc i) x at)))

pub each_part : {X : Type 0} (P : Item → Type 0) (part : ℕ → X → List Item) (n : ℕ) (xs : List X) → AllByRecursion P (parts_from part n xs) → (i : ℕ) (x : X) → slice_get xs i ≡ Some x → AllByRecursion P (part (n + i) x)
each_part P part n [] h i x at = absurd (none-some x at)
each_part P part n (y ∷ ys) h zero x at =
    let e : y ≡ x = cc in
    let k : n ≡ n + zero = omega arith in
    subst (λ m. AllByRecursion P (part m x)) k (subst (λ z. AllByRecursion P (part n z)) e (all_left P (part n y) (parts_from part (n + 1) ys) h))
each_part P part n (y ∷ ys) h (suc i) x at =
    let k : n + 1 + i ≡ n + suc i = omega arith in
    subst (λ m. AllByRecursion P (part m x)) k (each_part P part (n + 1) ys (all_right P (part n y) (parts_from part (n + 1) ys) h) i x at)

pub parts_each : {X : Type 0} (P : Item → Type 0) (part : ℕ → X → List Item) (n : ℕ) (xs : List X) → ((i : ℕ) (x : X) → slice_get xs i ≡ Some x → AllByRecursion P (part (n + i) x)) → AllByRecursion P (parts_from part n xs)
parts_each P part n [] h = tt
parts_each P part n (y ∷ ys) h =
    let k : n + zero ≡ n = omega arith in
    let first = subst (λ m. AllByRecursion P (part m y)) k (h zero y refl) in
    let rest = parts_each P part (n + 1) ys (λ i x at. let e : n + suc i ≡ n + 1 + i = omega arith in subst (λ m. AllByRecursion P (part m x)) e (h (suc i) x at)) in
    all_append P (part n y) (parts_from part (n + 1) ys) first rest

-- ---- the lines of a transcript

pub record EachLine (P : Item → Type 0) (t : Transcript) : Type 0 where
  pub head : P Head
  pub ranges : P Ranges
  pub file : (f : ℕ) (part : FilePart) → slice_get t.files f ≡ Some part → P (File f part)
  pub entry : (f : ℕ) (part : FilePart) → slice_get t.files f ≡ Some part → (n : ℕ) (e : EntryLine) → slice_get part.entries n ≡ Some e → P (Entry f n e)
  pub log : (f : ℕ) (part : FilePart) → slice_get t.files f ≡ Some part → (n : ℕ) (e : LogEntry) → slice_get part.log n ≡ Some e → P (Log f n e)
  pub guest : (g : ℕ) (part : GuestPart) → slice_get t.guests g ≡ Some part → P (Guest g part)
  pub call : (g : ℕ) (part : GuestPart) → slice_get t.guests g ≡ Some part → (c : ℕ) (n : Numbered) → slice_get part.lines c ≡ Some n → P (Call g c n)
  pub end : P End

at_zero : (P : ℕ → Type 0) (n : ℕ) → P (0 + n) → P n
at_zero P n h = subst P (zero-add n) h

from_zero : (P : ℕ → Type 0) (n : ℕ) → P n → P (0 + n)
from_zero P n h = subst P (sym (zero-add n)) h

pub each_line : (P : Item → Type 0) (t : Transcript) → AllByRecursion P (items t) → EachLine P t
unfolding items
each_line P t h =
    let files = parts_from file_items 0 t.files in
    let guests = parts_from guest_items 0 t.guests in
    let in_files = all_left P files (guests ++ End ∷ []) h.1.1 in
    let behind = all_right P files (guests ++ End ∷ []) h.1.1 in
    let in_guests = all_left P guests (End ∷ []) behind in
    let last = all_right P guests (End ∷ []) behind in
    let file = λ (f : ℕ) (part : FilePart) (at : slice_get t.files f ≡ Some part). at_zero (λ k. AllByRecursion P (file_items k part)) f (each_part P file_items 0 t.files in_files f part at) in
    let guest = λ (g : ℕ) (part : GuestPart) (at : slice_get t.guests g ≡ Some part). at_zero (λ k. AllByRecursion P (guest_items k part)) g (each_part P guest_items 0 t.guests in_guests g part at) in
    record {
      head = h.0;
      ranges = h.1.0;
      file = λ f part at. (file f part at).0;
      entry = λ f part at n e there. at_zero (λ k. P (Entry f k e)) n (each_item P (Entry f) 0 part.entries (all_left P (each_from (Entry f) 0 part.entries) (each_from (Log f) 0 part.log) (file f part at).1) n e there);
      log = λ f part at n e there. at_zero (λ k. P (Log f k e)) n (each_item P (Log f) 0 part.log (all_right P (each_from (Entry f) 0 part.entries) (each_from (Log f) 0 part.log) (file f part at).1) n e there);
      guest = λ g part at. (guest g part at).0;
      call = λ g part at c n there. at_zero (λ k. P (Call g k n)) c (each_item P (Call g) 0 part.lines (guest g part at).1 c n there);
      end = last.0;
    }

pub line_each : (P : Item → Type 0) (t : Transcript) → EachLine P t → AllByRecursion P (items t)
unfolding items
line_each P t h =
    let file = λ (f : ℕ) (part : FilePart) (at : slice_get t.files f ≡ Some part). from_zero (λ k. AllByRecursion P (file_items k part)) f (
      h.file f part at,
      all_append P (each_from (Entry f) 0 part.entries) (each_from (Log f) 0 part.log)
          (items_each P (Entry f) 0 part.entries (λ n e there. from_zero (λ k. P (Entry f k e)) n (h.entry f part at n e there)))
          (items_each P (Log f) 0 part.log (λ n e there. from_zero (λ k. P (Log f k e)) n (h.log f part at n e there))),
    ) in
    let guest = λ (g : ℕ) (part : GuestPart) (at : slice_get t.guests g ≡ Some part). from_zero (λ k. AllByRecursion P (guest_items k part)) g (
      h.guest g part at,
      items_each P (Call g) 0 part.lines (λ c n there. from_zero (λ k. P (Call g k n)) c (h.call g part at c n there)),
    ) in (
      h.head,
      (
        h.ranges,
        all_append P (parts_from file_items 0 t.files) _ (parts_each P file_items 0 t.files file)
            (all_append P (parts_from guest_items 0 t.guests) (End ∷ []) (parts_each P guest_items 0 t.guests guest) (h.end, tt)),
      ),
    )

-- ---- a call's line, and an entry

line_mapped : (o : Option Numbered) (l : Line) → option_map (λ n. n.line) o ≡ Some l → (n : Numbered) × (o ≡ Some n) × (n.line ≡ l)
line_mapped None l h = absurd (none-some l h)
line_mapped (Some n) l h = let e : n.line ≡ l = cc in (n, refl, e)

line_found : (o : Option GuestPart) (c : ℕ) (l : Line) → line_in (unwrap_or (option_map (λ p. p.lines) o) []) c ≡ Some l →
    (part : GuestPart) × (n : Numbered) × (o ≡ Some part) × (slice_get part.lines c ≡ Some n) × (n.line ≡ l)
line_found None c l h = absurd (none-some l h)
line_found (Some part) c l h = let r = line_mapped (slice_get part.lines c) l h in (part, r.0, refl, r.1, r.2)

pub at_line : (t : Transcript) (g c : ℕ) (l : Line) → line_at t g c ≡ Some l → (part : GuestPart) × (n : Numbered) × (slice_get t.guests g ≡ Some part) × (slice_get part.lines c ≡ Some n) × (n.line ≡ l)
at_line t g c l h = line_found (slice_get t.guests g) c l h

pub line_there : (t : Transcript) (g c : ℕ) (part : GuestPart) (n : Numbered) → slice_get t.guests g ≡ Some part → slice_get part.lines c ≡ Some n → line_at t g c ≡ Some n.line
line_there t g c part n at there = rw (at, there) refl

entry_found : (o : Option FilePart) (p : ℕ) (e : EntryLine) → (o >>= λ part. slice_get part.entries p) ≡ Some e → (part : FilePart) × (o ≡ Some part) × (slice_get part.entries p ≡ Some e)
entry_found None p e h = absurd (none-some e h)
entry_found (Some part) p e h = (part, refl, h)

pub at_entry : (t : Transcript) (f p : ℕ) (e : EntryLine) → entry_at t f p ≡ Some e → (part : FilePart) × (slice_get t.files f ≡ Some part) × (slice_get part.entries p ≡ Some e)
at_entry t f p e h = entry_found (slice_get t.files f) p e h

pub entry_there : (t : Transcript) (f p : ℕ) (part : FilePart) (e : EntryLine) → slice_get t.files f ≡ Some part → slice_get part.entries p ≡ Some e → entry_at t f p ≡ Some e
entry_there t f p part e at there = rw (at, there) refl
