-- A change of one guest's row in every file, which no word shows: a pass comes, or goes.
use Rattle.std.proofs.Common.{◌≡◌, ◌≢◌, ℕ, zero, suc, ◌+◌, ◌*◌, ◌<◌, ◌≤◌, max, leb, cond, Bool, true, false, List, [], ◌∷◌, ◌++◌, map, length, take, drop, get_or, set, slice_get, Some, refl, sym, ap, ◌∙◌, subst, arith, length-set}
use lib.ListN.{length-map}
use Rattle.std.proofs.lemmas.List.{append-nil, take-append-drop, length-take-le}
use Rattle.std.proofs.lemmas.Bool.Decides.{nat_tests}
use Rattle.seats.specs.Views.{root, guests}
use Rattle.plain_file.specs.declared.operations.Entry.{Entry}
use Rattle.files_core.specs.declared.rows.Note.{Note}
use Rattle.files_core.specs.Files.{Row, FileState, blank, row, no_file, file, leases, whole, with_row}
use Rattle.files_core.specs.Good.{GoodFile, GoodFiles}
use Rattle.files_core.specs.Laws.{Begins}
use Rattle.files_core.specs.Shown.{Shown, shown_of, shown}
use Rattle.files_core.proofs.Keeps.{same_leases, rows_put, notes_put}
use Rattle.file_share.specs.Table.{Core, ShowsFile, ShowsWords, number_of, home, Mine, mine, unseen, in_list, nothing_of, all_unseen, first_of, introduced_file, informed_file, longer, merged_files}
use Rattle.file_share.proofs.Places.{get_map, row_else}

pub map_map : {A B C : Type 0} (F : A → B) (G : B → C) (l : List A) → map G (map F l) ≡ map (λ a. G (F a)) l
map_map F G [] = refl
map_map F G (x ∷ xs) = ap (λ t. G (F x) ∷ t) (map_map F G xs)

pub map_same : {A B : Type 0} (F G : A → B) (l : List A) (d : A) → ((i : ℕ) → i < length l → F (get_or l i d) ≡ G (get_or l i d)) → map F l ≡ map G l
map_same F G [] d h = refl
map_same F G (x ∷ xs) d h = λ k. h 0 (omega arith) k ∷ map_same F G xs d (λ i l. h (suc i) (omega arith)) k

-- what holds of a row before, and of the one that is put there, holds after
pub put_either : (P : Row → Type 0) (l : List Row) (i j : ℕ) (r : Row) → P (get_or l j blank) → (j ≡ i → P r) → P (get_or (set l i r) j blank)
put_either P [] i j r was now = was
put_either P (x ∷ xs) zero zero r was now = now refl
put_either P (x ∷ xs) zero (suc j) r was now = was
put_either P (x ∷ xs) (suc i) zero r was now = was
put_either P (x ∷ xs) (suc i) (suc j) r was now = put_either P xs i j r was (λ e. now (ap suc e))

-- another guest is shown the same
same_shown : (c : FileState) (g n : ℕ) (x : Row) → n ≢ g → shown_of n (with_row c g x) ≡ shown_of n c
same_shown c g n x ne = let e = row_else c g n x ne in λ i. record (shown_of n c) { seen = take (e i).seen c.history; leases = (e i).leases; noted = (e i).noted; notes = (e i).notes }

module _ (g : ℕ) (R : FileState → Row) where
  abbrev pub changed : FileState → FileState
  changed c = with_row c g (R c)

  pub file_changed : (cs : List FileState) (f : ℕ) → file (map changed cs) f ≡ changed (file cs f)
  file_changed cs f = get_map changed cs f no_file

  pub frame : (cs : List FileState) (n : ℕ) → n ≢ g → shown n (map changed cs) ≡ shown n cs
  frame cs n ne = map_map changed (shown_of n) cs ∙ map_same (λ c. shown_of n (changed c)) (shown_of n) cs no_file (λ i l. same_shown (file cs i) g n (R (file cs i)) ne)

  pub blank_frame : (cs : List FileState) → map nothing_of (map changed cs) ≡ map nothing_of cs
  blank_frame cs = map_map changed nothing_of cs

  pub first_frame : (cs : List FileState) → map first_of (map changed cs) ≡ map first_of cs
  first_frame cs = map_map changed first_of cs

  pub home_frame : (cs : List FileState) → map home (map changed cs) ≡ map home cs
  home_frame cs = map_map changed home cs

  file_words : (ws : List ℕ) (f : ℕ) (c : FileState) → leases (changed c) ≡ leases c → ShowsFile ws f c → ShowsFile ws f (changed c)
  file_words ws f c same w = record { turn = w.turn; size = w.size; lease = w.lease ∙ ap (λ (z : ℕ). z + 65536 * number_of c.bar) (sym same) }

  pub words_frame : (ws : List ℕ) (c : Core) → ((f : ℕ) → f < length c.files → leases (changed (file c.files f)) ≡ leases (file c.files f)) → ShowsWords ws c → ShowsWords ws (record c { files = map changed c.files })
  words_frame ws c same w = let long = length-map c.files changed in record {
    wide = w.wide ∙ ap (λ m. 16 * m + 1) (sym long);
    each = λ f near. let near' : f < length c.files = omega arith in subst (ShowsFile ws f) (sym (file_changed c.files f)) (file_words ws f (file c.files f) (same f near') (w.each f near'));
  }

  pub good_frame : (cs : List FileState) → GoodFiles guests cs → ((f : ℕ) → f < length cs → GoodFile guests (changed (file cs f))) → GoodFiles guests (map changed cs)
  good_frame cs good each = let long = length-map cs changed in record {
    files_ok = λ f near. let near' : f < length cs = omega arith in subst (GoodFile guests) (sym (file_changed cs f)) (each f near');
    one_turn = λ f f' g p q. good.one_turn f f' g (ap (λ (c : FileState). c.turn) (sym (file_changed cs f)) ∙ p) (ap (λ (c : FileState). c.turn) (sym (file_changed cs f')) ∙ q);
    one_bar = λ f f' g p q. good.one_bar f f' g (ap (λ (c : FileState). c.bar) (sym (file_changed cs f)) ∙ p) (ap (λ (c : FileState). c.bar) (sym (file_changed cs f')) ∙ q);
  }

  -- a guest without leases is left without
  pub bare_frame : (cs : List FileState) (f n : ℕ) → (row (file cs f) n).leases ≡ 0 → (n ≡ g → (R (file cs f)).leases ≡ 0) → (row (file (map changed cs) f) n).leases ≡ 0
  bare_frame cs f n was now = subst (λ (c : FileState). (row c n).leases ≡ 0) (sym (file_changed cs f)) (put_either (λ r. r.leases ≡ 0) (file cs f).rows g n (R (file cs f)) was now)

-- ---- what is seen

no_note : (k : ℕ) (n : Note) → slice_get [] k ≡ Some n → ⊥
no_note k n at = cc

no_entry : (k : ℕ) (e : Entry) → slice_get [] k ≡ Some e → ⊥
no_entry k e at = cc

pub zero_take : (n : ℕ) (h : List Entry) → n ≤ length h → take n h ≡ [] → n ≡ 0
zero_take zero h l e = refl
zero_take (suc n) [] l e = absurd (omega arith)
zero_take (suc n) (x ∷ xs) l e = absurd (cc)

begins_shorter : (a b ra rb : List Entry) → a ++ ra ≡ b ++ rb → length a ≤ length b → Begins a b
begins_shorter [] b ra rb e l = (b, refl)
begins_shorter (x ∷ a) [] ra rb e l = absurd (omega arith)
begins_shorter (x ∷ a) (y ∷ b) ra rb e l = let t : a ++ ra ≡ b ++ rb = cc in let h : x ≡ y = cc in let r = begins_shorter a b ra rb t (omega arith) in (r.0, λ k. h k ∷ r.1 k)

-- of two beginnings of one history the longer is begun by both
pub both_begin : (a b h : List Entry) → Begins a h → Begins b h → Begins a (longer a b) × Begins b (longer a b)
both_begin a b h p q = go (leb (length a) (length b)) refl
  where
    go : (t : Bool) → leb (length a) (length b) ≡ t → Begins a (cond t b a) × Begins b (cond t b a)
    go true is = (begins_shorter a b p.0 q.0 (p.1 ∙ sym q.1) (grind (arith, nat_tests)), ([], append-nil b))
    go false is = (([], append-nil a), begins_shorter b a q.0 p.0 (q.1 ∙ sym p.1) (grind (arith, nat_tests)))

pub take_begins : (n : ℕ) (h : List Entry) → Begins (take n h) h
take_begins n h = (drop n h, take-append-drop n h)

-- the longer of two beginnings is the beginning of the greater length
pub longer_take : (a b : ℕ) (h : List Entry) → a ≤ length h → b ≤ length h → longer (take a h) (take b h) ≡ take (max a b) h
longer_take a b h la lb = let x : length (take a h) ≡ a = length-take-le a h la in let y : length (take b h) ≡ b = length-take-le b h lb in
    (λ i. cond (leb (x i) (y i)) (take b h) (take a h)) ∙ go (leb a b) refl
  where
    go : (t : Bool) → leb a b ≡ t → cond t (take b h) (take a h) ≡ take (max a b) h
    go true is = ap (λ n. take n h) (grind (arith, nat_tests))
    go false is = ap (λ n. take n h) (grind (arith, nat_tests))

-- an entry of a beginning is the same of the whole
pub begun_at : (xs ys : List Entry) → Begins xs ys → (k : ℕ) (e : Entry) → slice_get xs k ≡ Some e → slice_get ys k ≡ Some e
begun_at xs ys b k e at = subst (λ (l : List Entry). slice_get l k ≡ Some e) b.1 (go xs b.0 k at)
  where
    go : (xs ys : List Entry) (k : ℕ) → slice_get xs k ≡ Some e → slice_get (xs ++ ys) k ≡ Some e
    go [] ys k at = absurd (no_entry k e at)
    go (x ∷ xs) ys zero at = at
    go (x ∷ xs) ys (suc k) at = go xs ys k at

-- of a guest that never came the files show nothing
pub nothing_at : (c : Core) (n : ℕ) → mine n c ≡ all_unseen c → (f : ℕ) → shown_of n (file c.files f) ≡ unseen
nothing_at c n bare f = sym (get_map (shown_of n) c.files f no_file) ∙ (ap (λ (m : Mine). in_list m.files f) bare ∙ get_map nothing_of c.files f no_file)

-- what is seen of a file after a join
pub merged_at : (cs : List FileState) (g n f : ℕ) → in_list (merged_files (shown g cs) (shown n cs)) f ≡ record (shown_of g (file cs f)) { seen = longer (shown_of g (file cs f)).seen (shown_of n (file cs f)).seen }
merged_at [] g n f = refl
merged_at (c ∷ cs) g n zero = refl
merged_at (c ∷ cs) g n (suc f) = merged_at cs g n f

pub merged_map : (M N R : FileState → Shown) (cs : List FileState) (d : FileState) → ((i : ℕ) → i < length cs → record (M (get_or cs i d)) { seen = longer (M (get_or cs i d)).seen (N (get_or cs i d)).seen } ≡ R (get_or cs i d)) → merged_files (map M cs) (map N cs) ≡ map R cs
merged_map M N R [] d h = refl
merged_map M N R (c ∷ cs) d h = λ k. h 0 (omega arith) k ∷ merged_map M N R cs d (λ i l. h (suc i) (omega arith)) k

-- ---- the two changes

-- a guest that never came may be shown what the first guest has seen
pub introduced_keeps : (c : FileState) (g : ℕ) → g < guests → GoodFile guests c → c.turn ≢ Some g → (row c g).leases ≡ 0 → (row c g).seen ≡ 0 → GoodFile guests (introduced_file g c)
introduced_keeps c g l good no_turn no_lease no_seen = let x : Row = record blank { seen = (row c root).seen } in let sized = good.rows_all in let first = good.rows_ok root (omega arith) in let mine = good.rows_ok g l in record {
  rows_all = length-set c.rows g x ∙ good.rows_all;
  first_small = good.first_small;
  size_small = good.size_small;
  entries_small = good.entries_small;
  turn_small = good.turn_small;
  bar_small = good.bar_small;
  size_is = good.size_is;
  applied_is = good.applied_is;
  barred = λ b. same_leases c g x (omega arith) (sym no_lease) ∙ good.barred b;
  notes_ok = notes_put c c.first (whole c) g x (omega arith) (λ k n at. absurd (no_note k n at)) good.notes_ok;
  rows_ok = rows_put c guests c.turn c.history c.size g x (omega arith)
      record { seen = first.seen; at_turn = λ t. absurd (no_turn t); own = λ k e a is. absurd (let u = mine.own k e a is in omega arith); noted = tt; few = omega arith } (λ i few _. good.rows_ok i few);
}

-- the first guest may be shown what another has seen
pub informed_keeps : (c : FileState) (g : ℕ) → g < guests → GoodFile guests c → c.turn ≢ Some root → GoodFile guests (informed_file g c)
informed_keeps c g l good no_turn = let x : Row = record (row c root) { seen = max (row c root).seen (row c g).seen } in let sized = good.rows_all in let me = good.rows_ok root (omega arith) in let them = good.rows_ok g l in let a = me.seen in let b = them.seen in record {
  rows_all = length-set c.rows root x ∙ good.rows_all;
  first_small = good.first_small;
  size_small = good.size_small;
  entries_small = good.entries_small;
  turn_small = good.turn_small;
  bar_small = good.bar_small;
  size_is = good.size_is;
  applied_is = good.applied_is;
  barred = λ d. same_leases c root x (omega arith) refl ∙ good.barred d;
  notes_ok = notes_put c c.first (whole c) root x (omega arith) (good.notes_ok root) good.notes_ok;
  rows_ok = rows_put c guests c.turn c.history c.size root x (omega arith)
      record { seen = omega arith; at_turn = λ t. absurd (no_turn t); own = λ k e at is. let u = me.own k e at is in omega arith; noted = me.noted; few = me.few } (λ i few _. good.rows_ok i few);
}
