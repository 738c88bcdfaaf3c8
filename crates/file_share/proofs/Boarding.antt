-- What a deed on one file changes of a pass, and so of its board.
use Rattle.std.proofs.Common.{◌≡◌, ◌≢◌, ◌∙◌, ap, sym, subst, refl, ℕ, ◌+◌, ◌<◌, ◌==◌, ◌&&◌, Bool, true, false, List, [], ◌∷◌, ◌++◌, map, length, set, get_or, Some, None, nat_lt, if◌then◌else◌, length-set, get_or-set_same, get_or-set_other, ne_eqb}
use Rattle.std.specs.Prelude.{⊤}
use lib.Seq.{set-get_or, map-set}
use Rattle.std.proofs.lemmas.List.{length-map}
use mathlib.Core.Logic.{dite}
use native.Mathlib.Decide.{ℕ_discrete}
use Rattle.plain_file.specs.Board.{FileView, FileHands, file_at, no_file}
use Rattle.files_core.specs.Files.{Deed, FileDeed, on}
use Rattle.files_core.specs.Shown.{Shown}
use Rattle.file_share.specs.Table.{Mine, Knows, part, unseen, in_list, first_at, first_in}
use Rattle.file_share.specs.Steps.{others_may}
use Rattle.file_share.specs.Known.{Known, IsDeed, IsShown}
use Rattle.file_share.specs.Boards.{listed, first_true, numbers_of, file_of, file_view, has_turn, has_bar, leases_had, hands_of, board_of, notes_before, notes_by, is_lease, is_note, IsFloored, Floored}
use Rattle.file_share.proofs.Places.{get_map}
use Rattle.file_share.proofs.Listing.{length_listed, listed_at, listed_set, none_true, first_within, set_first, set_none}

-- ---- a board read at a file

pub count_is : (p : Known) → length (board_of p).files ≡ length p.view.mine.files
count_is p = length_listed (file_view p.view) (length p.view.mine.files)

pub near_is : (p : Known) (f : ℕ) → f < length (board_of p).files → f < length p.view.mine.files
near_is p f near = subst (λ n. f < n) (count_is p) near

pub file_is : (p : Known) (f : ℕ) → f < length p.view.mine.files → file_at (board_of p) f ≡ file_view p.view f
file_is p f near = listed_at (file_view p.view) (length p.view.mine.files) f no_file near

-- a file of the board is one of the table's
pub inside : (p : Known) (f n : ℕ) → f < length (board_of p).files → length p.view.mine.files ≡ n → f < n
inside p f n near wide = subst (λ k. f < k) (count_is p ∙ wide) near

module _ {B : Type 0} (F : Shown → B) where
  pub in_map : (v : Knows) (f : ℕ) → get_or (map F v.mine.files) f (F unseen) ≡ F (part v f)
  in_map v f = get_map F v.mine.files f unseen

  pub map_same : (v : Knows) (f : ℕ) (m : Shown) → F m ≡ F (part v f) → map F (set v.mine.files f m) ≡ map F v.mine.files
  map_same v f m same = map-set F v.mine.files f m ∙ (ap (set (map F v.mine.files) f) (same ∙ sym (in_map v f)) ∙ set-get_or (map F v.mine.files) f (F unseen))

-- ---- what is changed

-- the pass is shown this of one file, and did these deeds besides, the newest first
pub record Changed (p q : Known) (f : ℕ) (m : Shown) (ds : List FileDeed) : Type 0 where
  pub near : f < length p.view.mine.files
  pub kept : q ≡ record p { view = q.view }
  pub guest : q.view.guest ≡ p.view.guest
  pub noted : q.view.noted ≡ p.view.noted
  pub shown : IsShown f m p.view q.view
  pub did : q.view.did ≡ ds ++ p.view.did

pub changed : (p q : Known) (f : ℕ) (d : Deed) (m : Shown) → f < length p.view.mine.files → IsDeed f d p q → IsShown f m p.view q.view → Changed p q f m (on f d ∷ [])
changed p q f d m near deed shown = record {
  near = near;
  kept = deed.kept;
  guest = ap (λ (v : Knows). v.guest) deed.does.is;
  noted = ap (λ (v : Knows). v.noted) deed.does.is;
  shown = shown;
  did = ap (λ (v : Knows). v.did) deed.does.is;
}

-- none of the deeds is on another file
abbrev pub AllOn : ℕ → List FileDeed → Type 0
AllOn f [] = ⊤
AllOn f (d ∷ ds) = (d.at ≡ f) × AllOn f ds

and_false : (a b : Bool) → b ≡ false → (a && b) ≡ false
and_false true b e = e
and_false false b e = refl

module _ (f i : ℕ) (ne : i ≢ f) (old : List FileDeed) where
  apart : (n : ℕ) → n ≡ f → (n == i) ≡ false
  apart n at = ne_eqb n i (λ e. ne (sym e ∙ at))

  pub by_else : (ds : List FileDeed) → AllOn f ds → notes_by i (ds ++ old) ≡ notes_by i old
  by_else [] all = refl
  by_else (d ∷ ds) (at, all) = ap (λ b. if b then notes_by i (ds ++ old) + 1 else notes_by i (ds ++ old)) (and_false (is_note d.deed) (d.at == i) (apart d.at at)) ∙ by_else ds all

  pub before_else : (ds : List FileDeed) → AllOn f ds → notes_before i (ds ++ old) ≡ notes_before i old
  before_else [] all = refl
  before_else (d ∷ ds) (at, all) = ap (λ b. if b then notes_by i (ds ++ old) else notes_before i (ds ++ old)) (and_false (is_lease d.deed) (d.at == i) (apart d.at at)) ∙ before_else ds all

pub same_floored : (a b k l : ℕ) (m n : Shown) → a ≡ b → k ≡ l → m ≡ n → IsFloored a k m → IsFloored b l n
same_floored a b k l m n ab kl mn h = subst (λ (x : Shown). IsFloored b l x) mn (subst (λ x. IsFloored b x m) kl (subst (λ x. IsFloored x k m) ab h))

module _ (p q : Known) (f : ℕ) (m : Shown) (ds : List FileDeed) (c : Changed p q f m ds) where
  pub part_here : part q.view f ≡ m
  part_here = ap (λ (x : Mine). in_list x.files f) c.shown ∙ get_or-set_same p.view.mine.files f m unseen c.near

  pub part_else : (i : ℕ) → i ≢ f → part q.view i ≡ part p.view i
  part_else i ne = ap (λ (x : Mine). in_list x.files i) c.shown ∙ get_or-set_other p.view.mine.files f i m unseen ne

  pub first_same : (i : ℕ) → first_at q.view i ≡ first_at p.view i
  first_same i = ap (λ (x : Mine). first_in x.firsts i) c.shown

  pub count_same : length q.view.mine.files ≡ length p.view.mine.files
  count_same = ap (λ (x : Mine). length x.files) c.shown ∙ length-set p.view.mine.files f m

  -- the file as the board shows it
  pub file_here : file_view q.view f ≡ file_of p.view.guest (first_at p.view f) m (notes_before f (ds ++ p.view.did)) f p.view.noted
  file_here = λ i. file_of (c.guest i) (first_same f i) (part_here i) (notes_before f (c.did i)) f (c.noted i)

  pub file_else : AllOn f ds → (i : ℕ) → i ≢ f → file_view q.view i ≡ file_view p.view i
  file_else all i ne =
      let before = ap (notes_before i) c.did ∙ before_else f i ne p.view.did ds all in
      λ j. file_of (c.guest j) (first_same i j) (part_else i ne j) (before j) i (c.noted j)

  pub files_now : AllOn f ds → (board_of q).files ≡ set (board_of p).files f (file_of p.view.guest (first_at p.view f) m (notes_before f (ds ++ p.view.did)) f p.view.noted)
  files_now all = ap (listed (file_view q.view)) count_same
      ∙ (listed_set (file_view p.view) (file_view q.view) (length p.view.mine.files) f (file_else all) ∙ ap (set (board_of p).files f) file_here)

  pub maps_now : {B : Type 0} (F : Shown → B) → map F q.view.mine.files ≡ set (map F p.view.mine.files) f (F m)
  maps_now F = ap (λ (x : Mine). map F x.files) c.shown ∙ map-set F p.view.mine.files f m

  pub maps_kept : {B : Type 0} (F : Shown → B) → F m ≡ F (part p.view f) → map F q.view.mine.files ≡ map F p.view.mine.files
  maps_kept F same = ap (λ (x : Mine). map F x.files) c.shown ∙ map_same F p.view f m same

  -- the board, where that is what it has in hand and that is the file
  pub board_now : AllOn f ds → (hands : FileHands) (x : FileView) → hands_of q.view ≡ hands → file_of p.view.guest (first_at p.view f) m (notes_before f (ds ++ p.view.did)) f p.view.noted ≡ x
      → board_of q ≡ record (board_of p) { hands = hands; files = set (board_of p).files f x }
  board_now all hands x has is =
      let over = ap (λ (k : Known). Some (numbers_of k.table)) c.kept in
      let mark = ap (λ (k : Known). k.mark) c.kept in
      let leasers = ap (λ (y : Mine). y.leasers) c.shown in
      let files = files_now all ∙ ap (set (board_of p).files f) is in
      λ i. record {
        guest = c.guest i;
        mark = mark i;
        plain = false;
        over = over i;
        may_lease = nat_lt (c.guest i) (leasers i);
        others = others_may (c.guest i) (leasers i);
        hands = has i;
        files = files i;
      }

  -- ---- what is in hand

  module _ (F : Shown → Bool) (off : F unseen ≡ false) where
    was_at : (i : ℕ) → get_or (map F p.view.mine.files) i false ≡ F (part p.view i)
    was_at i = ap (get_or (map F p.view.mine.files) i) (sym off) ∙ in_map F p.view i

    long : f < length (map F p.view.mine.files)
    long = subst (λ n. f < n) (sym (length-map p.view.mine.files F)) c.near

    pub first_now : F m ≡ true → ((i : ℕ) → i ≢ f → F (part p.view i) ≡ false) → first_true 0 (map F q.view.mine.files) ≡ Some f
    first_now on others = ap (first_true 0) (maps_now F ∙ ap (set (map F p.view.mine.files) f) on) ∙ set_first (map F p.view.mine.files) f long (λ i ne. was_at i ∙ others i ne)

    pub none_now : F m ≡ false → ((i : ℕ) → i ≢ f → F (part p.view i) ≡ false) → first_true 0 (map F q.view.mine.files) ≡ None
    none_now on others = ap (first_true 0) (maps_now F ∙ ap (set (map F p.view.mine.files) f) on) ∙ set_none (map F p.view.mine.files) f long (λ i ne. was_at i ∙ others i ne)

  pub turn_kept : m.turn ≡ (part p.view f).turn → (hands_of q.view).turn ≡ (hands_of p.view).turn
  turn_kept same = ap (first_true 0) (maps_kept has_turn same)

  pub bar_kept : m.bar ≡ (part p.view f).bar → (hands_of q.view).bar ≡ (hands_of p.view).bar
  bar_kept same = ap (first_true 0) (maps_kept has_bar same)

  pub leases_kept : m.leases ≡ (part p.view f).leases → (hands_of q.view).leases ≡ (hands_of p.view).leases
  leases_kept same = maps_kept leases_had same

  pub hands_now : (h : FileHands) → (hands_of q.view).turn ≡ h.turn → (hands_of q.view).bar ≡ h.bar → (hands_of q.view).leases ≡ h.leases → hands_of q.view ≡ h
  hands_now h turn bar leases = λ i. record { turn = turn i; bar = bar i; leases = leases i }

  -- ---- what was noted

  pub floored_now : AllOn f ds → Floored p.view → IsFloored (notes_by f (ds ++ p.view.did)) (notes_before f (ds ++ p.view.did)) m → Floored q.view
  floored_now all was here i near = dite (ℕ_discrete i f)
      (λ z. subst (λ n. IsFloored (notes_by n q.view.did) (notes_before n q.view.did) (part q.view n)) (sym z)
      (same_floored (notes_by f (ds ++ p.view.did)) (notes_by f q.view.did) (notes_before f (ds ++ p.view.did)) (notes_before f q.view.did) m (part q.view f)
      (ap (notes_by f) (sym c.did)) (ap (notes_before f) (sym c.did)) (sym part_here) here))
      (λ ne. same_floored (notes_by i p.view.did) (notes_by i q.view.did) (notes_before i p.view.did) (notes_before i q.view.did) (part p.view i) (part q.view i)
      (sym (ap (notes_by i) c.did ∙ by_else f i ne p.view.did ds all)) (sym (ap (notes_before i) c.did ∙ before_else f i ne p.view.did ds all)) (sym (part_else i ne))
      (was i (subst (λ n. i < n) count_same near)))

  pub table_same : q.table ≡ p.table
  table_same = ap (λ (k : Known). k.table) c.kept

-- ---- what is in hand tells of the parts

pub part_turn : (v : Knows) (i : ℕ) → get_or (map has_turn v.mine.files) i false ≡ (part v i).turn
part_turn v i = in_map has_turn v i

pub part_bar : (v : Knows) (i : ℕ) → get_or (map has_bar v.mine.files) i false ≡ (part v i).bar
part_bar v i = in_map has_bar v i

pub part_leases : (v : Knows) (i : ℕ) → get_or (map leases_had v.mine.files) i 0 ≡ (part v i).leases
part_leases v i = in_map leases_had v i

pub no_turn : (v : Knows) → (hands_of v).turn ≡ None → (i : ℕ) → (part v i).turn ≡ false
no_turn v e i = sym (part_turn v i) ∙ none_true (map has_turn v.mine.files) e i

pub no_bar : (v : Knows) → (hands_of v).bar ≡ None → (i : ℕ) → (part v i).bar ≡ false
no_bar v e i = sym (part_bar v i) ∙ none_true (map has_bar v.mine.files) e i

pub its_turn : (v : Knows) (f : ℕ) → (hands_of v).turn ≡ Some f → (part v f).turn ≡ true
its_turn v f e = sym (part_turn v f) ∙ (first_within (map has_turn v.mine.files) f e).1

pub its_bar : (v : Knows) (f : ℕ) → (hands_of v).bar ≡ Some f → (f < length v.mine.files) × ((part v f).bar ≡ true)
its_bar v f e = let both = first_within (map has_bar v.mine.files) f e in (subst (λ n. f < n) (length-map v.mine.files has_bar) both.0, sym (part_bar v f) ∙ both.1)
