-- The pages of a pass's board: which it holds, what is mapped there, and what a set map makes of them.
use Rattle.std.proofs.Common.{◌≡◌, ◌≢◌, ◌∙◌, ap, sym, refl, subst, ℕ, ◌+◌, ◌-◌, ◌*◌, ◌/◌, ◌%◌, ◌<◌, ◌≤◌, true, false, List, length, get_or, set, length-set, get_or-set_same, get_or-set_other, Option, Some, None, inl, inr, arith}
use Rattle.std.specs.Prelude.{IsSome}
use Rattle.std.specs.Option.{option_map}
use Rattle.std.proofs.lemmas.Grind.{common_steps}
use Rattle.std.proofs.lemmas.Bool.{cases_eq, cases_lt}
use Rattle.std.proofs.lemmas.List.{ext_get_or, get_or_past}
use Rattle.std.proofs.lemmas.List.FromFn.{length-map-range_with_len, get_or-map-range_with_len}
use Rattle.page_map.specs.declared.pages.Page.{Page}
use Rattle.page_map.specs.declared.pages.Span.{Span}
use Rattle.page_map.specs.declared.ranges.Target.{Target}
use Rattle.page_map.specs.Window.{is_within, page_of}
use Rattle.page_map.specs.Board.{MapView, HoldsPages, is_whole, painted, wiped}
use Rattle.page_map.proofs.Showing.{held_at-painted, held_at-painted_other, held_at-wiped, held_at-wiped_other}
use Rattle.page_map.proofs.Sizes.{length-painted, length-wiped}
use Rattle.range_tree.specs.Ranges.{target_page, HoldsRange, IsMapped, KeepsHeld}
use Rattle.range_share.specs.Steps.{map_shown}
use Rattle.range_share.specs.Known.{Known, KeepsMaps}
use Rattle.range_share.specs.Boards.{board_of, shown_page, table_of}

abbrev Maps : Type 0
Maps = List (Option (Option Target))

-- what a page so far behind the start of a range shows, where the range is shown so
abbrev pub paged : ℕ → Option (Option Target) → Option (Option Page)
paged i o = option_map (option_map (target_page i)) o

pub length_table : (maps : Maps) → length (table_of maps) ≡ 512 * length maps
length_table maps = length-map-range_with_len (shown_page maps) 0 (512 * length maps)

-- what is held at a page
pub table_page : (maps : Maps) (page : ℕ) → get_or (table_of maps) page None ≡ shown_page maps page
table_page maps page = elim (cases_lt page (512 * length maps)) [
  | inl near ↦ get_or-map-range_with_len (shown_page maps) 0 (512 * length maps) page page None near (omega arith)
  | inr past ↦
      let n = length_table maps in
      let far : length maps ≤ page / 512 = omega (arith, past) in
      get_or_past (table_of maps) page None (omega (arith, n, past)) ∙ sym (ap (paged (page % 512)) (get_or_past maps (page / 512) None far))
]

pub table_range : (maps : Maps) (r i : ℕ) → i < 512 → get_or (table_of maps) (512 * r + i) None ≡ paged i (get_or maps r None)
table_range maps r i small =
    let q : (512 * r + i) / 512 ≡ r = omega (arith, small) in
    let m : (512 * r + i) % 512 ≡ i = omega (arith, small) in
    table_page maps (512 * r + i) ∙ (ap (λ n. paged n (get_or maps ((512 * r + i) / 512) None)) m ∙ ap (λ n. paged i (get_or maps n None)) q)

-- ---- what is held

pub is_mapped : (p : Known) (r : ℕ) (t : Option Target) → map_shown p.view.mine r ≡ Some t → IsMapped (board_of p) r t
is_mapped p r t e i small = table_range p.view.mine.shown.maps r i small ∙ ap (paged i) e

some_page : (i : ℕ) (o : Option (Option Target)) → IsSome (paged i o) → (t : Option Target) × (o ≡ Some t)
some_page i None h = absurd (cc)
some_page i (Some t) h = (t, refl)

pub range_shown : (p : Known) (r : ℕ) → HoldsRange (board_of p) r → (t : Option Target) × (map_shown p.view.mine r ≡ Some t)
range_shown p r h = some_page 0 (map_shown p.view.mine r) (subst (λ (o : Option (Option Page)). IsSome o) (table_range p.view.mine.shown.maps r 0 (omega arith)) (h 0 (omega arith)))

pub holds_range : (p : Known) (r : ℕ) (t : Option Target) → map_shown p.view.mine r ≡ Some t → HoldsRange (board_of p) r
holds_range p r t e i small = subst (λ (o : Option (Option Page)). IsSome o) (sym (is_mapped p r t e i small)) refl

same_page : (s t : Option Target) → option_map (target_page 0) s ≡ option_map (target_page 0) t → s ≡ t
same_page None None e = refl
same_page None (Some t) e = absurd (cc)
same_page (Some s) None e = absurd (cc)
same_page (Some s) (Some t) e =
    let at : target_page 0 s ≡ target_page 0 t = cc in
    let node : s.file + 2 ≡ t.file + 2 = ap (λ (x : Page). x.node) at in
    let off : 2097152 * s.chunk + 4096 * 0 ≡ 2097152 * t.chunk + 4096 * 0 = ap (λ (x : Page). x.foffset) at in
    let file : s.file ≡ t.file = omega (arith, node) in
    let chunk : s.chunk ≡ t.chunk = omega (arith, off) in
    let mode : s.mode ≡ t.mode = ap (λ (x : Page). x.mode) at in
    λ i. Some (record { file = file i; chunk = chunk i; mode = mode i })

mapped_so : (o : Option (Option Target)) (t : Option Target) → paged 0 o ≡ Some (option_map (target_page 0) t) → o ≡ Some t
mapped_so None t e = absurd (cc)
mapped_so (Some s) t e = ap (λ x. Some x) (same_page s t (cc))

-- what is mapped at a range that is held is what is shown of it
pub mapped_is : (p : Known) (r : ℕ) (t : Option Target) → IsMapped (board_of p) r t → map_shown p.view.mine r ≡ Some t
mapped_is p r t m = mapped_so (map_shown p.view.mine r) t (sym (table_range p.view.mine.shown.maps r 0 (omega arith)) ∙ m 0 (omega arith))

-- what stays held stays as it was
kept_page : (i : ℕ) (o n : Option (Option Target)) → ((s t : Option Target) → o ≡ Some s → n ≡ Some t → t ≡ s) → IsSome (paged i o) → IsSome (paged i n) → paged i n ≡ paged i o
kept_page i None n h a b = absurd (cc)
kept_page i (Some s) None h a b = absurd (cc)
kept_page i (Some s) (Some t) h a b = ap (λ x. paged i (Some x)) (h s t refl refl)

pub keeps_held : (p q : Known) → length q.view.mine.shown.maps ≡ length p.view.mine.shown.maps → KeepsMaps p.view.mine q.view.mine → KeepsHeld (board_of p) (board_of q)
keeps_held p q long kept =
    let ms : Maps = p.view.mine.shown.maps in
    let ns : Maps = q.view.mine.shown.maps in
    record {
      count = length_table ns ∙ (ap (λ n. 512 * n) long ∙ sym (length_table ms));
      held = λ page a b.
          table_page ns page
          ∙ (kept_page (page % 512) (get_or ms (page / 512) None) (get_or ns (page / 512) None) (kept (page / 512))
          (subst (λ (o : Option (Option Page)). IsSome o) (table_page ms page) a)
          (subst (λ (o : Option (Option Page)). IsSome o) (table_page ns page) b)
          ∙ sym (table_page ms page));
    }

-- ---- setting and clearing

-- an interval is a whole range of the window
pub record IsRange (maps : Maps) (r moffset len : ℕ) : Type 0 where
  pub near : r < length maps
  pub at : moffset ≡ r * 2097152
  pub long : len ≡ 2097152

pub range_whole : (p : Known) (r moffset len : ℕ) → IsRange p.view.mine.shown.maps r moffset len → is_whole (length (board_of p).table) moffset len ≡ true
unfolding is_whole
range_whole p r moffset len x = rw (x.at, x.long, length_table p.view.mine.shown.maps) (grind (arith, common_steps, x.near))

page_inside : (r page moffset len : ℕ) → moffset ≡ r * 2097152 → len ≡ 2097152 → page / 512 ≡ r → is_within moffset len page ≡ true
page_inside r page moffset len at long e = rw (at, long) (grind (arith, common_steps, e))

page_outside : (r page moffset len : ℕ) → moffset ≡ r * 2097152 → len ≡ 2097152 → page / 512 ≢ r → is_within moffset len page ≡ false
page_outside r page moffset len at long ne = rw (at, long) (grind (arith, common_steps, ne))

set_here : (maps : Maps) (r page : ℕ) (t : Option Target) → r < length maps → page / 512 ≡ r → shown_page (set maps r (Some t)) page ≡ Some (option_map (target_page (page % 512)) t)
set_here maps r page t near e = ap (λ n. paged (page % 512) (get_or (set maps r (Some t)) n None)) e ∙ ap (paged (page % 512)) (get_or-set_same maps r (Some t) None near)

set_else : (maps : Maps) (r page : ℕ) (t : Option Target) → page / 512 ≢ r → shown_page (set maps r (Some t)) page ≡ shown_page maps page
set_else maps r page t ne = ap (paged (page % 512)) (get_or-set_other maps r (page / 512) (Some t) None ne)

-- what a span maps its range to
abbrev pub span_target : Span → Target
span_target span = record { file = span.node - 2; chunk = span.foffset / 2097152; mode = span.mode }

-- the span begins with a chunk of a file
pub record IsChunk (span : Span) : Type 0 where
  pub node : 2 ≤ span.node
  pub begins : span.foffset % 2097152 ≡ 0

span_page : (r page : ℕ) (span : Span) → IsChunk span → span.moffset ≡ r * 2097152 → page / 512 ≡ r → target_page (page % 512) (span_target span) ≡ page_of span page
span_page r page span h at e =
    let t : Target = span_target span in
    let b = h.begins in
    let n = h.node in
    let node : t.file + 2 ≡ span.node = omega (arith, n) in
    let off : 2097152 * t.chunk + 4096 * (page % 512) ≡ span.foffset + (4096 * page - span.moffset) = omega (arith, b, at, e) in
    λ i. record { node = node i; foffset = off i; mode = span.mode }

pub table_painted : (p : Known) (r : ℕ) (span : Span) → IsRange p.view.mine.shown.maps r span.moffset span.len → IsChunk span →
    table_of (set p.view.mine.shown.maps r (Some (Some (span_target span)))) ≡ (painted (board_of p) span).table
table_painted p r span x h =
    let v : MapView = board_of p in
    let maps : Maps = p.view.mine.shown.maps in
    let t : Option Target = Some (span_target span) in
    let more : Maps = set maps r (Some t) in
    let whole = range_whole p r span.moffset span.len x in
    ext_get_or None (table_of more) (painted v span).table
    (length_table more ∙ (ap (λ n. 512 * n) (length-set maps r (Some t)) ∙ (sym (length_table maps) ∙ sym (length-painted v span whole))))
    (λ page near. table_page more page ∙ (elim (cases_eq (page / 512) r) [
      | inl e ↦ set_here maps r page t x.near e ∙ (ap (λ o. Some (Some o)) (span_page r page span h x.at e)
          ∙ sym (held_at-painted v span page whole (page_inside r page span.moffset span.len x.at x.long e)))
      | inr ne ↦ set_else maps r page t ne ∙ (sym (table_page maps page)
          ∙ sym (held_at-painted_other v span page whole (page_outside r page span.moffset span.len x.at x.long ne)))
    ]))

pub table_wiped : (p : Known) (r moffset len : ℕ) → IsRange p.view.mine.shown.maps r moffset len →
    table_of (set p.view.mine.shown.maps r (Some None)) ≡ (wiped (board_of p) moffset len).table
table_wiped p r moffset len x =
    let v : MapView = board_of p in
    let maps : Maps = p.view.mine.shown.maps in
    let more : Maps = set maps r (Some None) in
    let whole = range_whole p r moffset len x in
    ext_get_or None (table_of more) (wiped v moffset len).table
    (length_table more ∙ (ap (λ n. 512 * n) (length-set maps r (Some None)) ∙ (sym (length_table maps) ∙ sym (length-wiped v moffset len whole))))
    (λ page near. table_page more page ∙ (elim (cases_eq (page / 512) r) [
      | inl e ↦ set_here maps r page None x.near e ∙ sym (held_at-wiped v moffset len page whole (page_inside r page moffset len x.at x.long e))
      | inr ne ↦ set_else maps r page None ne ∙ (sym (table_page maps page)
          ∙ sym (held_at-wiped_other v moffset len page whole (page_outside r page moffset len x.at x.long ne)))
    ]))

-- the pages of an interval that is a range that is held
pub holds_pages : (p : Known) (r moffset len : ℕ) (t : Option Target) → moffset ≡ r * 2097152 → len ≡ 2097152 → map_shown p.view.mine r ≡ Some t → HoldsPages (board_of p) moffset len
holds_pages p r moffset len t at long e page near inside = elim (cases_eq (page / 512) r) [
  | inl is ↦ subst (λ (o : Option (Option Page)). IsSome o) (sym (table_page p.view.mine.shown.maps page ∙ (ap (λ n. paged (page % 512) (map_shown p.view.mine n)) is ∙ ap (paged (page % 512)) e))) refl
  | inr ne ↦ absurd (let off = page_outside r page moffset len at long ne in let on = inside in cc)
]
