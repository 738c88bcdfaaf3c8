-- Words of a table that shows a core: what is found there, and one is written while all else is shown as before.
use Rattle.std.proofs.Common.{◌≡◌, ◌≢◌, ℕ, ◌+◌, ◌*◌, ◌<◌, List, map, length, set, get_or, true, Option, Some, sym, ap, ◌∙◌, subst, arith, length-set, get_or-set_other, get_or-set_same}
use mathlib.Core.Logic.{dite}
use native.Mathlib.Decide.{ℕ_discrete}
use lib.ListN.{get_elem?, length-map}
use lib.Seq.{map-set_same}
use mathlib.Core.Option.{some}
use Rattle.atomic_table.specs.Table.{State}
use Rattle.seats.specs.Seats.{Shows}
use Rattle.page_map.specs.declared.ranges.LogEntry.{LogEntry}
use Rattle.window_core.specs.Window.{Side, Window, no_side, target, side, word_at, HasTree}
use Rattle.range_share.specs.Packed.{control_word, map_word}
use Rattle.range_share.specs.Table.{Core, Knows, mine, number_of, tree_at, control_at, map_at, ShowsWords, home, at_home, window_kit}

module _ (F : ℕ) (ws : List ℕ) (c c' : Core) (was : F ≡ length c.window.sides) (now : F ≡ length c'.window.sides) (same : length c'.window.states ≡ length c.window.states) (w : ShowsWords ws c) where
  pub control_was : (r : ℕ) → r < length c.window.states → get_or ws (control_at F r) 0 ≡ control_word (word_at c.window r)
  control_was r l = ap (λ k. get_or ws (control_at k r) 0) was ∙ w.controls r l

  pub map_was : (r : ℕ) → r < length c.window.states → get_or ws (map_at F r) 0 ≡ map_word (target c.window r)
  map_was r l = ap (λ k. get_or ws (map_at k r) 0) was ∙ w.maps r l

  wide_now : (i n : ℕ) → length (set ws i n) ≡ 8 * length c'.window.sides + 8 * length c'.window.states + 8
  wide_now i n = let a = length-set ws i n in let b = w.wide in omega arith

  -- the control word of a range
  pub put_control : (r n : ℕ) → r < length c.window.states → n ≡ control_word (word_at c'.window r) → ((a : ℕ) → a ≢ r → word_at c'.window a ≡ word_at c.window a) → ((a : ℕ) → target c'.window a ≡ target c.window a)
      → ((f : ℕ) → (side c'.window f).holder ≡ (side c.window f).holder) → ShowsWords (set ws (control_at F r) n) c'
  put_control r n near is words targets holders = let wide = w.wide in record {
    wide = wide_now (control_at F r) n;
    trees = λ f l. get_or-set_other ws (control_at F r) (tree_at f) n 0 (λ e. omega arith) ∙ (w.trees f (omega arith) ∙ sym (ap number_of (holders f)));
    controls = λ a l. ap (λ k. get_or (set ws (control_at F r) n) (control_at k a) 0) (sym now) ∙ dite (ℕ_discrete a r)
        (λ e. ap (λ k. get_or (set ws (control_at F r) n) (control_at F k) 0) e ∙ (get_or-set_same ws (control_at F r) n 0 (omega arith) ∙ (is ∙ ap (λ k. control_word (word_at c'.window k)) (sym e))))
        (λ ne. get_or-set_other ws (control_at F r) (control_at F a) n 0 (λ e. ne (omega arith)) ∙ (control_was a (omega arith) ∙ sym (ap control_word (words a ne))));
    maps = λ a l. ap (λ k. get_or (set ws (control_at F r) n) (map_at k a) 0) (sym now) ∙ (get_or-set_other ws (control_at F r) (map_at F a) n 0 (λ e. omega arith) ∙ (map_was a (omega arith) ∙ sym (ap map_word (targets a))));
  }

  -- the map word of a range
  pub put_map : (r n : ℕ) → r < length c.window.states → n ≡ map_word (target c'.window r) → ((a : ℕ) → a ≢ r → target c'.window a ≡ target c.window a) → ((a : ℕ) → word_at c'.window a ≡ word_at c.window a)
      → ((f : ℕ) → (side c'.window f).holder ≡ (side c.window f).holder) → ShowsWords (set ws (map_at F r) n) c'
  put_map r n near is targets words holders = let wide = w.wide in record {
    wide = wide_now (map_at F r) n;
    trees = λ f l. get_or-set_other ws (map_at F r) (tree_at f) n 0 (λ e. omega arith) ∙ (w.trees f (omega arith) ∙ sym (ap number_of (holders f)));
    controls = λ a l. ap (λ k. get_or (set ws (map_at F r) n) (control_at k a) 0) (sym now) ∙ (get_or-set_other ws (map_at F r) (control_at F a) n 0 (λ e. omega arith) ∙ (control_was a (omega arith) ∙ sym (ap control_word (words a))));
    maps = λ a l. ap (λ k. get_or (set ws (map_at F r) n) (map_at k a) 0) (sym now) ∙ dite (ℕ_discrete a r)
        (λ e. ap (λ k. get_or (set ws (map_at F r) n) (map_at F k) 0) e ∙ (get_or-set_same ws (map_at F r) n 0 (omega arith) ∙ (is ∙ ap (λ k. map_word (target c'.window k)) (sym e))))
        (λ ne. get_or-set_other ws (map_at F r) (map_at F a) n 0 (λ e. ne (omega arith)) ∙ (map_was a (omega arith) ∙ sym (ap map_word (targets a ne))));
  }

  -- the word of a file's tree
  pub put_tree : (f n : ℕ) → f < length c.window.sides → n ≡ number_of (side c'.window f).holder → ((a : ℕ) → a ≢ f → (side c'.window a).holder ≡ (side c.window a).holder) → ((a : ℕ) → word_at c'.window a ≡ word_at c.window a)
      → ((a : ℕ) → target c'.window a ≡ target c.window a) → ShowsWords (set ws (tree_at f) n) c'
  put_tree f n near is holders words targets = let wide = w.wide in record {
    wide = wide_now (tree_at f) n;
    trees = λ a l. dite (ℕ_discrete a f)
        (λ e. ap (λ k. get_or (set ws (tree_at f) n) (tree_at k) 0) e ∙ (get_or-set_same ws (tree_at f) n 0 (omega arith) ∙ (is ∙ ap (λ k. number_of (side c'.window k).holder) (sym e))))
        (λ ne. get_or-set_other ws (tree_at f) (tree_at a) n 0 (λ e. ne (omega arith)) ∙ (w.trees a (omega arith) ∙ sym (ap number_of (holders a ne))));
    controls = λ a l. ap (λ k. get_or (set ws (tree_at f) n) (control_at k a) 0) (sym now) ∙ (get_or-set_other ws (tree_at f) (control_at F a) n 0 (λ e. omega arith) ∙ (control_was a (omega arith) ∙ sym (ap control_word (words a))));
    maps = λ a l. ap (λ k. get_or (set ws (tree_at f) n) (map_at k a) 0) (sym now) ∙ (get_or-set_other ws (tree_at f) (map_at F a) n 0 (λ e. omega arith) ∙ (map_was a (omega arith) ∙ sym (ap map_word (targets a))));
  }

-- one file is another, with the same holder
pub holders_put : (h : Window) (f : ℕ) (s : Side) → f < length h.sides → s.holder ≡ (side h f).holder → (i : ℕ) → (get_or (set h.sides f s) i no_side).holder ≡ (side h i).holder
holders_put h f s near same i = dite (ℕ_discrete i f)
    (λ e. ap (λ k. (get_or (set h.sides f s) k no_side).holder) e ∙ (ap (λ (x : Side). x.holder) (get_or-set_same h.sides f s no_side near) ∙ (same ∙ ap (λ (k : ℕ). (side h k).holder) (sym e))))
    (λ ne. ap (λ (x : Side). x.holder) (get_or-set_other h.sides f i s no_side ne))

-- a tree that is had before and after stays away
pub homes_put : (h : Window) (f g : ℕ) (s : Side) → HasTree h g f → s.holder ≡ Some g → map home (set h.sides f s) ≡ map home h.sides
homes_put h f g s had had' = map-set_same home h.sides f s no_side (ap (λ (o : Option ℕ). at_home o s.log) had' ∙ sym (ap (λ (o : Option ℕ). at_home o (side h f).log) had))

-- ---- what a step finds

abbrev pub St : Type 0
St = State (Option (List LogEntry)) Knows

-- a table that shows a core, with so many slots, and a live pass's view
module _ (s : St) (r : Shows window_kit s) (slots id : ℕ) (v : Knows) (live : v.live ≡ true) (deep : length s.homes ≡ slots) (at : get_elem? s.views id ≡ some v) where
  pub part : v.mine ≡ mine v.guest r.core
  part = (r.views_fit id v at live).part

  pub small : v.guest < 34
  small = (r.views_fit id v at live).small

  pub files : slots ≡ length r.core.window.sides
  files = sym deep ∙ (ap length r.homes_are ∙ length-map r.core.window.sides home)

  pub found_tree : (f : ℕ) → f < length r.core.window.sides → get_or s.words (tree_at f) 0 ≡ number_of (side r.core.window f).holder
  found_tree f l = r.words.trees f l

  pub found_control : (a : ℕ) → a < length r.core.window.states → get_or s.words (control_at slots a) 0 ≡ control_word (word_at r.core.window a)
  found_control a l = ap (λ k. get_or s.words (control_at k a) 0) files ∙ r.words.controls a l

  pub found_map : (a : ℕ) → a < length r.core.window.states → get_or s.words (map_at slots a) 0 ≡ map_word (target r.core.window a)
  found_map a l = ap (λ k. get_or s.words (map_at k a) 0) files ∙ r.words.maps a l

-- a word is one file's, or one range's
pub by_tree : (G : ℕ → Type 0) (f : ℕ) → G f → (f' : ℕ) → tree_at f ≡ tree_at f' → G f'
by_tree G f a f' e = let same : f ≡ f' = omega arith in subst G same a

pub by_control : (G : ℕ → Type 0) (F r : ℕ) → G r → (r' : ℕ) → control_at F r ≡ control_at F r' → G r'
by_control G F r a r' e = let same : r ≡ r' = omega arith in subst G same a

pub by_map : (G : ℕ → Type 0) (F r : ℕ) → G r → (r' : ℕ) → map_at F r ≡ map_at F r' → G r'
by_map G F r a r' e = let same : r ≡ r' = omega arith in subst G same a
