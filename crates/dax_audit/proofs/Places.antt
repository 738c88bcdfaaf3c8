-- The first line of lists of lines, one after another.
use Rattle.std.proofs.Common.{◌≡◌, ◌∙◌, ap, sym, refl, ℕ, zero, suc, ◌+◌, ◌<◌, Bool, true, false, if◌then◌else◌, List, [], ◌∷◌, ◌++◌, length, drop, get_or, Option, Some, None, length-append, inl, inr, arith}
use Rattle.std.proofs.lemmas.Bool.{cases_Bool}
use Rattle.std.specs.List.{position_from}
use Rattle.transcript_text.specs.declared.transcripts.FilePart.{FilePart}
use Rattle.transcript_text.specs.declared.transcripts.GuestPart.{GuestPart}
use Rattle.transcript_text.specs.declared.transcripts.Transcript.{Transcript}
use Rattle.dax_audit.specs.Items.{Item, Head, Ranges, File, Entry, Log, Call, End, items, each_from, parts_from, file_items, guest_items}

pub drop_cons_at : {X : Type 0} (xs : List X) (i : ℕ) (x : X) → i < length xs → x ≡ get_or xs i x → drop i xs ≡ x ∷ drop (i + 1) xs
drop_cons_at [] i x within at = absurd (omega arith)
drop_cons_at (y ∷ ys) zero x within at = ap (λ z. z ∷ ys) (sym at)
drop_cons_at (y ∷ ys) (suc i) x within at = let k : suc i + 1 ≡ suc (i + 1) = omega arith in rw k (drop_cons_at ys i x (omega arith) at)

-- the first of two, where there is one
abbrev pub or_else : Option ℕ → Option ℕ → Option ℕ
or_else None o = o
or_else (Some n) o = Some n

pub position_append : (test : Item → Bool) (n : ℕ) (xs ys : List Item) → position_from test n (xs ++ ys) ≡ or_else (position_from test n xs) (position_from test (n + length xs) ys)
position_append test n [] ys = let e : n ≡ n + 0 = omega arith in ap (λ m. position_from test m ys) e
position_append test n (x ∷ xs) ys = elim (cases_Bool (test x)) [
  | inl hit ↦ rw hit refl
  | inr miss ↦ let e : n + 1 + length xs ≡ n + suc (length xs) = omega arith in rw miss (position_append test (n + 1) xs ys ∙ ap (λ m. or_else (position_from test (n + 1) xs) (position_from test m ys)) e)
]

pub each_length : {X : Type 0} (item : ℕ → X → Item) (n : ℕ) (xs : List X) → length (each_from item n xs) ≡ length xs
each_length item n [] = refl
each_length item n (x ∷ xs) = ap suc (each_length item (n + 1) xs)

pub file_length : (f : ℕ) (p : FilePart) → length (file_items f p) ≡ 1 + length p.entries + length p.log
file_length f p = omega (arith, length-append (each_from (Entry f) 0 p.entries) (each_from (Log f) 0 p.log), each_length (Entry f) 0 p.entries, each_length (Log f) 0 p.log)

pub guest_length : (g : ℕ) (p : GuestPart) → length (guest_items g p) ≡ 1 + length p.lines
guest_length g p = omega (arith, each_length (Call g) 0 p.lines)

pub file_position : (test : Item → Bool) (n f : ℕ) (p : FilePart) → test (File f p) ≡ false →
    position_from test n (file_items f p) ≡ or_else (position_from test (n + 1) (each_from (Entry f) 0 p.entries)) (position_from test (n + 1 + length p.entries) (each_from (Log f) 0 p.log))
file_position test n f p miss =
    let e = each_length (Entry f) 0 p.entries in
    rw miss (position_append test (n + 1) (each_from (Entry f) 0 p.entries) (each_from (Log f) 0 p.log) ∙ ap (λ m. or_else (position_from test (n + 1) (each_from (Entry f) 0 p.entries)) (position_from test (n + 1 + m) (each_from (Log f) 0 p.log))) e)

-- the parts from the i-th on
pub parts_step : {X : Type 0} (test : Item → Bool) (part : ℕ → X → List Item) (n i : ℕ) (xs : List X) (x : X) → i < length xs → x ≡ get_or xs i x →
    position_from test n (parts_from part i (drop i xs)) ≡ or_else (position_from test n (part i x)) (position_from test (n + length (part i x)) (parts_from part (i + 1) (drop (i + 1) xs)))
parts_step test part n i xs x within at =
    let e : drop i xs ≡ x ∷ drop (i + 1) xs = drop_cons_at xs i x within at in
    ap (λ ys. position_from test n (parts_from part i ys)) e ∙ position_append test n (part i x) (parts_from part (i + 1) (drop (i + 1) xs))

pub parts_length : {X : Type 0} (part : ℕ → X → List Item) (i : ℕ) (xs : List X) (x : X) → i < length xs → x ≡ get_or xs i x →
    length (parts_from part i (drop i xs)) ≡ length (part i x) + length (parts_from part (i + 1) (drop (i + 1) xs))
parts_length part i xs x within at =
    let e : drop i xs ≡ x ∷ drop (i + 1) xs = drop_cons_at xs i x within at in
    ap (λ ys. length (parts_from part i ys)) e ∙ length-append (part i x) (parts_from part (i + 1) (drop (i + 1) xs))

pub parts_hit : {X : Type 0} (test : Item → Bool) (part : ℕ → X → List Item) (n i j found : ℕ) (xs : List X) (x : X) (whole : Option ℕ) → j ≡ i → i < length xs → x ≡ get_or xs i x →
    position_from test n (parts_from part i (drop i xs)) ≡ whole → Some found ≡ position_from test n (part j x) → Some found ≡ whole
parts_hit test part n i j found xs x whole same within at so hit =
    let here : position_from test n (part i x) ≡ Some found = ap (λ k. position_from test n (part k x)) (sym same) ∙ sym hit in
    sym (rw here at (parts_step test part n i xs x within at)) ∙ so

pub parts_miss : {X : Type 0} (test : Item → Bool) (part : ℕ → X → List Item) (n i j m : ℕ) (xs : List X) (x : X) (whole : Option ℕ) → j ≡ i → i < length xs → x ≡ get_or xs i x →
    position_from test n (parts_from part i (drop i xs)) ≡ whole → None ≡ position_from test n (part j x) → m ≡ n + length (part i x) → position_from test m (parts_from part (i + 1) (drop (i + 1) xs)) ≡ whole
parts_miss test part n i j m xs x whole same within at so miss next =
    let here : position_from test n (part i x) ≡ None = ap (λ k. position_from test n (part k x)) (sym same) ∙ sym miss in
    ap (λ k. position_from test k (parts_from part (i + 1) (drop (i + 1) xs))) next ∙ sym (rw here at (parts_step test part n i xs x within at)) ∙ so

-- the whole of a transcript
pub whole_head : (test : Item → Bool) (t : Transcript) → test Head ≡ true → position_from test 1 (items t) ≡ Some 1
unfolding items
whole_head test t hit = rw hit refl

pub whole_position : (test : Item → Bool) (t : Transcript) → test Head ≡ false →
    position_from test 1 (items t) ≡ (if test Ranges then Some 2 else
    or_else (position_from test 3 (parts_from file_items 0 t.files)) (or_else (position_from test (3 + length (parts_from file_items 0 t.files)) (parts_from guest_items 0 t.guests))
    (if test End then Some (3 + length (parts_from file_items 0 t.files) + length (parts_from guest_items 0 t.guests)) else None)))
unfolding items
whole_position test t miss = elim (cases_Bool (test Ranges)) [
  | inl hit ↦ rw (miss, hit) refl
  | inr miss_ranges ↦
      let files = parts_from file_items 0 t.files in
      let guests = parts_from guest_items 0 t.guests in
      rw (miss, miss_ranges) (position_append test 3 files (guests ++ End ∷ []) ∙ ap (or_else (position_from test 3 files)) (position_append test (3 + length files) guests (End ∷ [])))
]

pub whole_length : (t : Transcript) → length (items t) ≡ 3 + length (parts_from file_items 0 t.files) + length (parts_from guest_items 0 t.guests)
unfolding items
whole_length t =
    let files = parts_from file_items 0 t.files in
    let guests = parts_from guest_items 0 t.guests in
    omega (arith, length-append files (guests ++ End ∷ []), length-append guests (End ∷ []))
