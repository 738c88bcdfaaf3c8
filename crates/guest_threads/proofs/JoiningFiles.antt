-- A pass of the files' table that has nothing in hand, as its board shows it, and the first pass that takes it in.
use Rattle.std.proofs.Common.{◌≡◌, ◌≢◌, ◌∙◌, ap, sym, subst, refl, ℕ, zero, suc, ◌<◌, ◌≤◌, arith, false, List, [], ◌∷◌, length, map, set, get_or, slice_get, sum, Some, None, lt_of_not-le}
use Rattle.std.proofs.lemmas.List.{get_or_past}
use Rattle.std.proofs.lemmas.List.Sums.{get_or-le-sum_by}
use Rattle.std.proofs.lemmas.Option.{none-some, same_Some}
use mathlib.Core.Logic.{dite}
use mathlib.Core.Option.{some}
use native.Mathlib.Decide.{dec_le}
use lib.ListN.{get_elem?}
use Rattle.atomic_table.specs.Seated.{TableId}
use Rattle.atomic_table.proofs.Lists.{set_else}
use Rattle.seats.specs.Views.{out, back, root}
use Rattle.seats.proofs.Seating.{set_there}
use Rattle.plain_file.specs.declared.operations.Entry.{Entry}
use Rattle.plain_file.specs.Board.{Note, FileView, no_file, file_at}
use Rattle.files_core.specs.declared.rows.Note.{Note as CoreNote}
use Rattle.files_core.specs.Files.{with_entry}
use Rattle.files_core.specs.Good.{Within}
use Rattle.files_core.specs.Laws.{Begins}
use Rattle.files_core.specs.Shown.{Shown}
use Rattle.file_share.specs.Table.{unseen, in_list, part, first_at, merged_files}
use Rattle.file_share.specs.Known.{Known, IsIdle, IsSoundPart, TookIn}
use Rattle.file_share.specs.Boards.{listed, numbers_of, note_of, refusals_of, has_turn, has_bar, leases_had, file_view, board_of}
use Rattle.file_share.proofs.Listing.{listed_at, length_listed, none_true}
use Rattle.file_share.proofs.Places.{get_map}
use Rattle.guest_run.proofs.Places.{in_front}

-- ---- the board of a pass

-- numbers whose sum is 0
sum_zero : (xs : List ℕ) → sum xs ≡ 0 → (i : ℕ) → get_or xs i 0 ≡ 0
sum_zero xs z i = dite (dec_le (length xs) i)
    (λ far. get_or_past xs i 0 far)
    (λ not_far. let near : i < length xs = lt_of_not-le not_far in let l = get_or-le-sum_by (λ (k : ℕ). k) xs i 0 near in omega (arith, l, z))

-- the numbers and names of a table tell it
pub same_table : (t u : TableId) → Some (numbers_of t) ≡ Some (numbers_of u) → t ≡ u
same_table t u e =
    let a : t.words ≡ u.words = cc in
    let b : t.slots ≡ u.slots = cc in
    let c : t.views_name ≡ u.views_name = cc in
    let d : t.atom ≡ u.atom = cc in
    let f : t.block ≡ u.block = cc in
    let g : t.offset ≡ u.offset = cc in
    let h : t.slot_names ≡ u.slot_names = cc in
    λ i. record { words = a i; slots = b i; views_name = c i; atom = d i; block = f i; offset = g i; slot_names = h i }

-- it has no turn, lease or bar where its board has none
pub files_idle : (p : Known) → (board_of p).hands.turn ≡ None → (board_of p).hands.bar ≡ None → sum (board_of p).hands.leases ≡ 0 → IsIdle p.view
files_idle p turn bar leases f = let files : List Shown = p.view.mine.files in (
  sym (get_map has_turn files f unseen) ∙ none_true (map has_turn files) turn f,
  sym (get_map leases_had files f unseen) ∙ sum_zero (map leases_had files) leases f,
  sym (get_map has_bar files f unseen) ∙ none_true (map has_bar files) bar f,
)

module _ (p : Known) (f : ℕ) where
  -- a file within, and one past the last
  near_is : f < length p.view.mine.files → file_at (board_of p) f ≡ file_view p.view f
  near_is near = listed_at (file_view p.view) (length p.view.mine.files) f no_file near

  far_is : length p.view.mine.files ≤ f → file_at (board_of p) f ≡ no_file
  far_is far = let long = length_listed (file_view p.view) (length p.view.mine.files) in get_or_past (listed (file_view p.view) (length p.view.mine.files)) f no_file (omega (arith, far, long))

  -- without a turn, the board shows what the pass has seen
  pub seen_shown : IsIdle p.view → ((i : ℕ) → i < length p.view.mine.files → IsSoundPart (first_at p.view i) (part p.view i)) → (file_at (board_of p) f).history ≡ (part p.view f).seen
  seen_shown idle parts = dite (dec_le (length p.view.mine.files) f)
      (λ far. ap (λ (v : FileView). v.history) (far_is far) ∙ sym (ap (λ (m : Shown). m.seen) (get_or_past p.view.mine.files f unseen far)))
      (λ not_far. let near : f < length p.view.mine.files = lt_of_not-le not_far in
      ap (λ (v : FileView). v.history) (near_is near) ∙ ap (with_entry (part p.view f).seen) ((parts f near).bare (idle f).0))

  -- the board shows the refused bars that it noted
  pub refusals_shown : f < length p.view.mine.files → refusals_of f p.view.noted ≡ (file_at (board_of p) f).refusals
  refusals_shown near = sym (ap (λ (v : FileView). v.refusals) (near_is near))

  -- what it noted is what the board shows
  pub note_shown : (k : ℕ) (m : Note) → slice_get (file_at (board_of p) f).notes k ≡ Some m → (c : CoreNote) × (slice_get (part p.view f).notes k ≡ Some c) × (note_of c ≡ m)
  note_shown k m at = dite (dec_le (length p.view.mine.files) f)
      (λ far. absurd (none-some m (ap (λ (v : FileView). slice_get v.notes k) (sym (far_is far)) ∙ at)))
      (λ not_far. go (part p.view f).notes k (ap (λ (v : FileView). slice_get v.notes k) (sym (near_is (lt_of_not-le not_far))) ∙ at))
    where
      go : (ns : List CoreNote) (k : ℕ) → slice_get (map note_of ns) k ≡ Some m → (c : CoreNote) × (slice_get ns k ≡ Some c) × (note_of c ≡ m)
      go [] k e = absurd (none-some m e)
      go (n ∷ ns) zero e = (n, refl, same_Some (note_of n) m e)
      go (n ∷ ns) (suc k) e = go ns k e

-- ---- the first pass

merged_long : (ms ns : List Shown) → length (merged_files ms ns) ≡ length ms
merged_long [] ns = refl
merged_long (m ∷ ms) [] = refl
merged_long (m ∷ ms) (n ∷ ns) = ap suc (merged_long ms ns)

-- what is in hand of a file stays
abbrev IsFree : Shown → Type 0
IsFree m = (m.turn ≡ false) × (m.leases ≡ 0) × (m.bar ≡ false)

merged_free : (ms ns : List Shown) → ((f : ℕ) → IsFree (in_list ms f)) → (f : ℕ) → IsFree (in_list (merged_files ms ns) f)
merged_free [] ns free f = free f
merged_free (m ∷ ms) [] free f = free f
merged_free (m ∷ ms) (n ∷ ns) free zero = free 0
merged_free (m ∷ ms) (n ∷ ns) free (suc f) = merged_free ms ns (λ i. free (suc i)) f

-- an entry of a longer history within the shorter is the shorter's
begun_get : (xs ys : List Entry) → Begins xs ys → (k : ℕ) (e : Entry) → slice_get ys k ≡ Some e → k < length xs → slice_get xs k ≡ Some e
begun_get xs ys b k e at near = in_front xs b.0 k e (subst (λ (l : List Entry). slice_get l k ≡ Some e) (sym b.1) at) near

module _ (p o q : Known) (t : TookIn p o q) where
  pub files_table : q.table ≡ p.table
  files_table = ap (λ (k : Known). k.table) t.is

  pub files_guest : q.view.guest ≡ p.view.guest
  files_guest = ap (λ (k : Known). k.view.guest) t.is

  pub files_long : length q.view.mine.files ≡ length p.view.mine.files
  files_long = ap (λ (k : Known). length k.view.mine.files) t.is ∙ merged_long p.view.mine.files o.view.mine.files

  pub files_still : IsIdle p.view → IsIdle q.view
  files_still idle = subst (λ (k : Known). IsIdle k.view) (sym t.is) (merged_free p.view.mine.files o.view.mine.files idle)

  -- the first guest has no entry, also in what is seen now
  pub files_own : p.view.guest ≡ root → ((f : ℕ) → Within root 0 (part p.view f).seen) → (f : ℕ) → Within root 0 (part q.view f).seen
  files_own first own f k e at whose =
      let grown = t.grown.1 f in
      let before = grown.1 k e at (whose ∙ sym first) in
      own f k e (begun_get (part p.view f).seen (part q.view f).seen grown.0 k e at before) whose

  pub files_back : (n : ℕ) → get_elem? p.view.numbers n ≡ some out → o.view.guest ≡ n → get_elem? q.view.numbers n ≡ some (back o.view.mine o.view.noted)
  files_back n is_out who = ap (λ (k : Known). get_elem? k.view.numbers n) t.is
      ∙ (ap (λ i. get_elem? (set p.view.numbers i (back o.view.mine o.view.noted)) n) who ∙ set_there p.view.numbers n out (back o.view.mine o.view.noted) is_out)

  pub files_else : (n : ℕ) → o.view.guest ≡ n → (i : ℕ) → i ≢ n → get_elem? q.view.numbers i ≡ get_elem? p.view.numbers i
  files_else n who i ne = ap (λ (k : Known). get_elem? k.view.numbers i) t.is ∙ set_else p.view.numbers o.view.guest i (back o.view.mine o.view.noted) (λ e. ne (e ∙ who))
