-- What a pass's board lets be set and cleared, and what that makes of it.
use Rattle.std.proofs.Common.{◌≡◌, ◌∙◌, ap, sym, subst, refl, ℕ, ◌+◌, ◌-◌, ◌*◌, ◌/◌, ◌%◌, ◌<◌, ◌==◌, ◌&&◌, ◌||◌, arith, Bool, true, false, true≢false, nat_lt, nat_le, List, [], ◌∷◌, map, length, set, Option, Some, None, inl, inr}
use Rattle.std.specs.Prelude.{IsSome, MatchOption}
use Rattle.std.specs.List.{list_any}
use Rattle.std.proofs.lemmas.Bool.{cases_Bool, and_parts, eqb-true, ltb-true, leb-true}
use Rattle.page_map.specs.declared.pages.Mode.{Mode}
use Rattle.page_map.specs.declared.pages.Mode.TheVariants as modes
use Rattle.page_map.specs.declared.pages.Span.{Span}
use Rattle.page_map.specs.declared.ranges.Placed.{Placed}
use Rattle.page_map.specs.declared.ranges.Target.{Target}
use Rattle.page_map.specs.Logs.{Slot, is_writable, slots_of, slot_in, placed_of}
use Rattle.page_map.specs.Window.{set as set_act, clear}
use Rattle.page_map.specs.Board.{MapView, HoldsPages, AddsAct, KeepsOthers, is_range, is_moved, is_chunk_of, chunk_in, placed_in, is_at_chunk, may_set, may_clear, is_whole, painted, wiped, known_files, log_at}
use Rattle.page_map.proofs.Showing.{AddsAct-painted, AddsAct-wiped, KeepsOthers-painted, KeepsOthers-wiped}
use Rattle.page_map.proofs.Sizes.{length-painted, length-wiped}
use Rattle.range_tree.proofs.Apart.{IsApart, apart_of}
use Rattle.std.specs.List.{AllByRecursion}
use Rattle.range_tree.specs.Ranges.{tree_of}
use Rattle.window_core.specs.Window.{set_map, target}
use Rattle.window_core.specs.Shown.{map_held}
use Rattle.range_share.specs.Table.{Mine, Knows}
use Rattle.range_share.specs.Steps.{Always, IsShowing, HasIn, MaySetIn, AtRest, Treeless, branch_of, moves_at, ranges_of, files_of}
use Rattle.range_share.specs.Known.{Known, IsDeed, HasSpan}
use Rattle.range_share.specs.Boards.{first_true, has_tree, log_of, hands_of, ranges_view, board_of, table_of, PinsSeen}
use Rattle.range_share.proofs.Parts.{length_listed, ranges_are}
use Rattle.range_share.proofs.Boarding.{stays, hands_now, pins_kept, but_table, ranges_logs, log_is, files_count, its_tree, tree_is, none_is, its_move, move_is, no_tree, rest_is, tree_of_is}
use Rattle.range_share.proofs.BoardsCore.{tree_near, moves_near, moved_shown, placed_shown, placed_near, in_tree, InTree, seen_sound}
use Rattle.range_share.proofs.BoardsPages.{IsRange, IsChunk, span_target, table_painted, table_wiped, holds_pages, length_table}
use Rattle.range_share.proofs.BoardsSeen.{same_grows, pins_grow}

-- ---- as many maps as ranges

pub maps_long : (v : Knows) → IsShowing v → length v.mine.shown.maps ≡ ranges_of v
maps_long v s = ap (λ (m : Mine). length m.shown.maps) s.part ∙ (length_listed (map_held v.guest s.core.window) (length s.core.window.states) ∙ sym (ranges_are v s.core s.part))

pub pages_long : (p : Known) → IsShowing p.view → length (board_of p).table ≡ 512 * ranges_of p.view
pages_long p s = length_table p.view.mine.shown.maps ∙ ap (λ n. 512 * n) (maps_long p.view s)

-- ---- what is in hand

-- the moved range, as the pass tells it
pub moves_told : (p : Known) (o : Option ℕ) → IsShowing p.view → MatchOption o (AtRest p.view) (λ r. moves_at p.view r ≡ true) → o ≡ (hands_of p.view).moves
moves_told p None s rest = sym (rest_is p.view rest)
moves_told p (Some r) s m = sym (move_is p.view r s (moves_near p.view s r m) m)

pub tree_told : (p : Known) (o : Option ℕ) → IsShowing p.view → MatchOption o (Treeless p.view) (λ f. (branch_of p.view f).had ≡ true) → o ≡ (hands_of p.view).tree
tree_told p None s bare = sym (none_is p.view bare)
tree_told p (Some f) s had = sym (tree_is p.view f s (tree_near p.view s f had) had)

-- an interval that is a range
pub record IsAt (r moffset len : ℕ) : Type 0 where
  pub at : moffset ≡ r * 2097152
  pub long : len ≡ 2097152
  pub range : moffset / 2097152 ≡ r

range_at : (r moffset len : ℕ) → is_range r moffset len ≡ true → IsAt r moffset len
range_at r moffset len h =
    let p = and_parts (moffset == r * 2097152) (len == 2097152) h in
    let at : moffset ≡ r * 2097152 = eqb-true moffset (r * 2097152) p.0 in
    record { at = at; long = eqb-true len 2097152 p.1; range = omega (arith, at) }

-- the range that is moved
pub record IsMovedAt (p : Known) (moffset len : ℕ) : Type 0 where
  pub range : ℕ
  pub moved : moves_at p.view range ≡ true
  pub at : IsAt range moffset len

moved_at : (p : Known) (moffset len : ℕ) (o : Option ℕ) → (hands_of p.view).moves ≡ o → is_moved o moffset len ≡ true → IsMovedAt p moffset len
unfolding is_moved
moved_at p moffset len None e h = absurd (true≢false (sym h))
moved_at p moffset len (Some r) e h = record { range = r; moved = (its_move p.view r e).1; at = range_at r moffset len h }

pub clears : (p : Known) (moffset len : ℕ) → may_clear (board_of p) moffset len ≡ true → IsMovedAt p moffset len
unfolding may_clear
clears p moffset len h = moved_at p moffset len (hands_of p.view).moves refl h

-- the pages of the moved range are held
pub moved_pages : (p : Known) (moffset len : ℕ) → IsShowing p.view → IsMovedAt p moffset len → HoldsPages (board_of p) moffset len
moved_pages p moffset len s m = holds_pages p m.range moffset len (target s.core.window m.range) m.at.at m.at.long (moved_shown p.view s m.range m.moved)

pub clear_held : (p : Known) (moffset len : ℕ) → IsShowing p.view → may_clear (board_of p) moffset len ≡ true → HoldsPages (board_of p) moffset len
clear_held p moffset len s h = moved_pages p moffset len s (clears p moffset len h)

-- ---- a span that is a placed chunk

pub record IsThere (f : ℕ) (v : Knows) (span : Span) : Type 0 where
  pub placed : Placed
  pub chunk : ℕ
  pub has : HasIn v.mine f chunk placed
  pub at : IsAt placed.range span.moffset span.len
  pub node : f + 2 ≡ span.node
  pub begins : chunk * 2097152 ≡ span.foffset

there_in : (v : Knows) (f : ℕ) (span : Span) → IsShowing v → (branch_of v f).had ≡ true → (ss : List Slot) → AllByRecursion (IsApart (slots_of (branch_of v f).seen)) ss → list_any (is_chunk_of span) (map (chunk_in f) ss) ≡ true → IsThere f v span
unfolding slot_in
there_in v f span s had [] all h = absurd (true≢false (sym h))
there_in v f span s had (t ∷ ss) all h = elim (cases_Bool (is_chunk_of span (chunk_in f t))) [
  | inl hit ↦
      let p = and_parts (is_range t.range span.moffset span.len && f + 2 == span.node) (t.chunk * 2097152 == span.foffset) hit in
      let q = and_parts (is_range t.range span.moffset span.len) (f + 2 == span.node) p.0 in
      let x : InTree v s f t.range t = in_tree v s f t.range t had all.0.range in
      record {
        placed = placed_of t;
        chunk = t.chunk;
        has = x.has;
        at = range_at t.range span.moffset span.len q.0;
        node = eqb-true (f + 2) span.node q.1;
        begins = eqb-true (t.chunk * 2097152) span.foffset p.1;
      }
  | inr miss ↦ there_in v f span s had ss all.1 (rw miss at h)
]

there : (p : Known) (span : Span) (o : Option ℕ) → IsShowing p.view → (hands_of p.view).tree ≡ o → list_any (is_chunk_of span) (placed_in o (board_of p).ranges.logs) ≡ true → (f : ℕ) × IsThere f p.view span
unfolding placed_in
there p span None s e h = absurd (true≢false (sym h))
there p span (Some f) s e h =
    let had = (its_tree p.view f e).1 in
    let log = (branch_of p.view f).seen in (
      f,
      there_in p.view f span s had (slots_of log) (apart_of (ranges_of p.view) log (seen_sound p.view s f (tree_near p.view s f had)))
          (subst (λ l. list_any (is_chunk_of span) (map (chunk_in f) (slots_of l)) ≡ true) (log_is p f) h),
    )

-- what the pass says of a span is what the board says
pub has_span_is : (p : Known) (span : Span) (b : Bool) → HasSpan p.view span b → b ≡ list_any (is_chunk_of span) (placed_in (hands_of p.view).tree (board_of p).ranges.logs)
unfolding placed_in
has_span_is p span b (had, none) = go (hands_of p.view).tree refl
  where
    go : (o : Option ℕ) → (hands_of p.view).tree ≡ o → b ≡ list_any (is_chunk_of span) (placed_in o (board_of p).ranges.logs)
    go None e = none (no_tree p.view e)
    go (Some f) e = had f (its_tree p.view f e).1 ∙ sym (ap (λ l. list_any (is_chunk_of span) (map (chunk_in f) (slots_of l))) (log_is p f))

-- ---- a span that may be set

pub record IsAtChunk (files : ℕ) (span : Span) : Type 0 where
  pub chunk : IsChunk span
  pub known : span.node - 2 < files
  pub small : span.foffset / 2097152 < 32

at_chunk : (files : ℕ) (span : Span) → is_at_chunk files span ≡ true → IsAtChunk files span
at_chunk files span h =
    let a = and_parts (nat_le 2 span.node && nat_lt (span.node - 2) files && span.foffset % 2097152 == 0) (nat_lt (span.foffset / 2097152) 32) h in
    let b = and_parts (nat_le 2 span.node && nat_lt (span.node - 2) files) (span.foffset % 2097152 == 0) a.0 in
    let c = and_parts (nat_le 2 span.node) (nat_lt (span.node - 2) files) b.0 in
    record { chunk = record { node = leb-true 2 span.node c.0; begins = eqb-true (span.foffset % 2097152) 0 b.1 }; known = ltb-true (span.node - 2) files c.1; small = ltb-true (span.foffset / 2097152) 32 a.1 }

mode_w : (m : Mode) → is_writable m ≡ true → m ≡ modes.W
unfolding is_writable
mode_w modes.R e = absurd (true≢false (sym e))
mode_w modes.W e = refl

-- what the pass may set then
pub record IsSettable (p : Known) (span : Span) : Type 0 where
  pub at : IsAtChunk (files_of p.view) span
  pub near : span.moffset / 2097152 < ranges_of p.view
  pub range : IsRange p.view.mine.shown.maps (span.moffset / 2097152) span.moffset span.len
  pub may : MaySetIn p.view.mine (span.moffset / 2097152) (Some (span_target span))
  pub held : HoldsPages (board_of p) span.moffset span.len

range_is : (p : Known) (r moffset len : ℕ) → IsShowing p.view → r < ranges_of p.view → IsAt r moffset len → IsRange p.view.mine.shown.maps (moffset / 2097152) moffset len
range_is p r moffset len s near x =
    let n = maps_long p.view s in
    let e = x.range in
    let a = x.at in
    record { near = omega (arith, n, e, near); at = omega (arith, a, e); long = x.long }

settable_moved : (p : Known) (span : Span) → IsShowing p.view → IsAtChunk (files_of p.view) span → IsMovedAt p span.moffset span.len → IsSettable p span
settable_moved p span s a m =
    let near = moves_near p.view s m.range m.moved in
    let e = m.at.range in
    record {
      at = a;
      near = omega (arith, near, e);
      range = range_is p m.range span.moffset span.len s near m.at;
      may = inl (ap (moves_at p.view) e ∙ m.moved);
      held = moved_pages p span.moffset span.len s m;
    }

settable_placed : (p : Known) (span : Span) (f : ℕ) → IsShowing p.view → IsAtChunk (files_of p.view) span → span.mode ≡ modes.W → IsThere f p.view span → IsSettable p span
settable_placed p span f s a w t =
    let near = placed_near p.view s f t.chunk t.placed t.has in
    let e = t.at.range in
    let node = t.node in
    let begins = t.begins in
    let file : f ≡ span.node - 2 = omega (arith, node) in
    let chunk : t.chunk ≡ span.foffset / 2097152 = omega (arith, begins) in
    record {
      at = a;
      near = omega (arith, near, e);
      range = range_is p t.placed.range span.moffset span.len s near t.at;
      may = inr (w, (t.placed, subst (λ c. HasIn p.view.mine (span.node - 2) c t.placed) chunk (subst (λ i. HasIn p.view.mine i t.chunk t.placed) file t.has), sym e));
      held = holds_pages p t.placed.range span.moffset span.len (target s.core.window t.placed.range) t.at.at t.at.long (placed_shown p.view s f t.chunk t.placed t.has);
    }

pub sets : (p : Known) (span : Span) → IsShowing p.view → may_set (board_of p) span ≡ true → IsSettable p span
unfolding may_set
sets p span s h =
    let any : Bool = list_any (is_chunk_of span) (placed_in (hands_of p.view).tree (board_of p).ranges.logs) in
    let moved : Bool = is_moved (hands_of p.view).moves span.moffset span.len in
    let both = and_parts (is_at_chunk (known_files (board_of p)) span) (moved || (is_writable span.mode && any)) h in
    let a = at_chunk (files_of p.view) span (subst (λ n. is_at_chunk n span ≡ true) (files_count p) both.0) in
    elim (cases_Bool moved) [
      | inl on ↦ settable_moved p span s a (moved_at p span.moffset span.len (hands_of p.view).moves refl on)
      | inr off ↦
          let q = and_parts (is_writable span.mode) any (rw off at both.1) in
          let t = there p span (hands_of p.view).tree s refl q.1 in
          settable_placed p span t.0 s a (mode_w span.mode q.0) t.1
    ]

-- ---- what a set map makes of the board

module _ (p q : Known) (r : ℕ) (t : Option Target) (d : IsDeed (set_map r t) p.view.noted Always p q) where
  pub set_board : board_of q ≡ record (board_of p) { table = table_of (set p.view.mine.shown.maps r (Some t)) }
  set_board =
      let st = stays (set_map r t) p.view.noted Always p q d in
      let e = d.effect in
      let has = hands_now p.view.noted p q st (hands_of p.view) (ap (λ (m : Mine). first_true 0 (map has_tree m.shown.branches)) e) (ap (λ (m : Mine). first_true 0 m.shown.moving) e)
      (pins_kept p.view.noted p q st (ap (λ (m : Mine). m.shown.pins) e)) in
      let is = ranges_logs p q st (map log_of p.view.mine.shown.branches) (ap (λ (m : Mine). map log_of m.shown.branches) e) in
      but_table p.view.noted p q st (hands_of p.view) (ranges_view p.view) has is ∙ ap (λ (m : Mine). record (board_of p) { table = table_of m.shown.maps }) e

  pub set_pins : PinsSeen p.view → PinsSeen q.view
  set_pins was = pins_grow p.view q.view (ap (λ (m : Mine). m.shown.pins) d.effect) (same_grows p.view.mine q.view.mine (ap (λ (m : Mine). m.shown.branches) d.effect)) was

pub paints : (p q : Known) (span : Span) → IsSettable p span → IsDeed (set_map (span.moffset / 2097152) (Some (span_target span))) p.view.noted Always p q → board_of q ≡ painted (board_of p) span
paints p q span x d = set_board p q (span.moffset / 2097152) (Some (span_target span)) d ∙ ap (λ t. record (board_of p) { table = t }) (table_painted p (span.moffset / 2097152) span x.range x.at.chunk)

pub wipes : (p q : Known) (moffset len : ℕ) → IsShowing p.view → IsMovedAt p moffset len → IsDeed (set_map (moffset / 2097152) None) p.view.noted Always p q → board_of q ≡ wiped (board_of p) moffset len
wipes p q moffset len s m d =
    set_board p q (moffset / 2097152) None d ∙ ap (λ t. record (board_of p) { table = t }) (table_wiped p (moffset / 2097152) moffset len (range_is p m.range moffset len s (moves_near p.view s m.range m.moved) m.at))

pub clear_near : (p : Known) (moffset len : ℕ) → IsShowing p.view → IsMovedAt p moffset len → (moffset / 2097152 < ranges_of p.view) × (moves_at p.view (moffset / 2097152) ≡ true)
clear_near p moffset len s m = let near = moves_near p.view s m.range m.moved in let e = m.at.range in (omega (arith, near, e), ap (moves_at p.view) e ∙ m.moved)

-- ---- what the trait says of both

pub record Acts (v w : MapView) (span : Span) : Type 0 where
  pub adds : AddsAct v w (set_act span)
  pub others : KeepsOthers v w (set_act span)
  pub pages : length w.table ≡ length v.table

pub acts : (v w : MapView) (span : Span) → is_whole (length v.table) span.moffset span.len ≡ true → w ≡ painted v span → Acts v w span
acts v w span whole e = subst (λ x. Acts v x span) (sym e) (record { adds = AddsAct-painted v span whole; others = KeepsOthers-painted v span whole; pages = length-painted v span whole })

pub record Wipes (v w : MapView) (moffset len : ℕ) : Type 0 where
  pub adds : AddsAct v w (clear moffset len)
  pub others : KeepsOthers v w (clear moffset len)
  pub pages : length w.table ≡ length v.table

pub acts_clear : (v w : MapView) (moffset len : ℕ) → is_whole (length v.table) moffset len ≡ true → w ≡ wiped v moffset len → Wipes v w moffset len
acts_clear v w moffset len whole e = subst (λ x. Wipes v x moffset len) (sym e) (record { adds = AddsAct-wiped v moffset len whole; others = KeepsOthers-wiped v moffset len whole; pages = length-wiped v moffset len whole })

-- ---- what the board lets be set, by its parts

pub may_is : (p : Known) (span : Span) (a m w t : Bool) → is_at_chunk (known_files (board_of p)) span ≡ a → is_moved (hands_of p.view).moves span.moffset span.len ≡ m → is_writable span.mode ≡ w →
    list_any (is_chunk_of span) (placed_in (hands_of p.view).tree (board_of p).ranges.logs) ≡ t → may_set (board_of p) span ≡ (a && (m || (w && t)))
unfolding may_set
may_is p span a m w t at moved written any = λ i. at i && (moved i || (written i && any i))

pub clear_is : (p : Known) (moffset len : ℕ) → may_clear (board_of p) moffset len ≡ is_moved (hands_of p.view).moves moffset len
unfolding may_clear
clear_is p moffset len = refl

pub files_known : (p : Known) (n m : ℕ) → n ≡ m → p.table.slots ≡ m → files_of p.view ≡ p.table.slots → n ≡ known_files (board_of p)
files_known p n m e own size = e ∙ (sym own ∙ (sym size ∙ sym (files_count p)))

pub true_stays : (m : Bool) → (true && (true || m)) ≡ true
true_stays m = refl

-- no tree is had where the pass tells of none, and no range moved
pub some_tree : (p : Known) (o : Option ℕ) → IsShowing p.view → MatchOption o (Treeless p.view) (λ f. (branch_of p.view f).had ≡ true) → o ≡ None → IsSome (hands_of p.view).tree → ⊥
some_tree p o s m e h = none_some (subst (λ (x : Option ℕ). IsSome x) (sym (tree_told p o s m) ∙ e) h)
  where
    none_some : ◌≡◌ {A = Bool} false true → ⊥
    none_some h = true≢false (sym h)

pub some_move : (p : Known) (o : Option ℕ) → IsShowing p.view → MatchOption o (AtRest p.view) (λ r. moves_at p.view r ≡ true) → o ≡ None → IsSome (hands_of p.view).moves → ⊥
some_move p o s m e h = none_some (subst (λ (x : Option ℕ). IsSome x) (sym (moves_told p o s m) ∙ e) h)
  where
    none_some : ◌≡◌ {A = Bool} false true → ⊥
    none_some h = true≢false (sym h)

-- the log of the tree that is had
pub tree_log : (p : Known) (f : ℕ) → (hands_of p.view).tree ≡ Some f → log_at (board_of p) (tree_of (board_of p)) ≡ (branch_of p.view f).seen
tree_log p f e = ap (log_at (board_of p)) (tree_of_is p f e) ∙ log_is p f
