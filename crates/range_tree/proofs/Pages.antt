-- The pages of the board of one guest.
use Rattle.std.proofs.Common.{◌≡◌, ◌≢◌, ◌∙◌, ap, sym, refl, subst, ℕ, ◌+◌, ◌-◌, ◌*◌, ◌/◌, ◌%◌, ◌<◌, true, false, List, length, get_or, slice_set, replicate, Option, Some, None, inl, inr, arith}
use Rattle.std.specs.Prelude.{IfSome, IsSome}
use Rattle.std.specs.Option.{option_map}
use Rattle.std.proofs.lemmas.Grind.{common_steps}
use Rattle.std.proofs.lemmas.Bool.{cases_eq}
use Rattle.std.proofs.lemmas.List.{ext_get_or, length-set, get_or-set_same, get_or-set_other, get_or-replicate, length-replicate}
use Rattle.std.proofs.lemmas.List.FromFn.{length-map-range_with_len, get_or-map-range_with_len}
use Rattle.page_map.specs.declared.pages.Mode.{Mode}
use Rattle.page_map.specs.declared.pages.Mode.TheVariants as modes
use Rattle.page_map.specs.declared.pages.Span.{Span}
use Rattle.page_map.specs.declared.ranges.Target.{Target}
use Rattle.page_map.specs.Window.{is_within, page_of}
use Rattle.page_map.specs.Board.{HoldsPages, held_at, is_whole, painted, wiped}
use Rattle.page_map.proofs.Showing.{held_at-painted, held_at-painted_other, held_at-wiped, held_at-wiped_other}
use Rattle.page_map.proofs.Sizes.{length-painted, length-wiped}
use Rattle.range_tree.specs.Ranges.{target_page, is_enough, IsAtLeast, HoldsRange, IsMapped, Targets, targeted}
use Rattle.range_tree.specs.Plain.{Parts, plain_view, map_at, pins_at, pinned_at, owner_at, shown_page, table_of, IsPinTarget, IsOwned, IsPlainRanges}

pub length-table : (maps : List (Option Target)) → length (table_of maps) ≡ 512 * length maps
length-table maps = length-map-range_with_len (shown_page maps) 0 (512 * length maps)

-- what is held at a page
pub table-page : (maps : List (Option Target)) (page : ℕ) → page < 512 * length maps → get_or (table_of maps) page None ≡ shown_page maps page
table-page maps page within = get_or-map-range_with_len (shown_page maps) 0 (512 * length maps) page page None within (omega arith)

-- and so many pages behind the start of a range
pub table-range : (maps : List (Option Target)) (range i : ℕ) → range < length maps → i < 512 → get_or (table_of maps) (512 * range + i) None ≡ Some (option_map (target_page i) (get_or maps range None))
table-range maps range i within small =
    let q : (512 * range + i) / 512 ≡ range = omega arith in
    let r : (512 * range + i) % 512 ≡ i = omega arith in
    table-page maps (512 * range + i) (omega (arith, within, small)) ∙ ap (λ n. Some (option_map (target_page n) (get_or maps ((512 * range + i) / 512) None))) r ∙ ap (λ n. Some (option_map (target_page i) (get_or maps n None))) q

-- each page is held
pub holds-page : (s : Parts) (page : ℕ) → page < length (plain_view s).table → IsSome (held_at (plain_view s) page)
holds-page s page within = let below : page < 512 * length s.maps = omega (arith, within, length-table s.maps) in rw (table-page s.maps page below) refl

pub holds-pages : (s : Parts) (moffset len : ℕ) → HoldsPages (plain_view s) moffset len
holds-pages s moffset len page within inside = holds-page s page within

pub holds-range : (s : Parts) (range : ℕ) → range < length s.maps → HoldsRange (plain_view s) range
holds-range s range within i small = rw (table-range s.maps range i within small) refl

pub is-mapped : (s : Parts) (range : ℕ) → range < length s.maps → IsMapped (plain_view s) range (map_at s range)
is-mapped s range within i small = table-range s.maps range i within small

-- ---- targets

through : (a b c : Mode) → is_enough a b ≡ true → is_enough b c ≡ true → is_enough a c ≡ true
unfolding is_enough
through modes.R b c h k = refl
through modes.W modes.R c h k = absurd (cc)
through modes.W modes.W c h k = k

pub at-least-through : (a b c : Target) → IsAtLeast a b → IsAtLeast b c → IsAtLeast a c
at-least-through a b c h k = record { same_file = k.same_file ∙ h.same_file; same_chunk = k.same_chunk ∙ h.same_chunk; enough = through a.mode b.mode c.mode h.enough k.enough }

pinned-mapped : (s : Parts) (range : ℕ) → IsPlainRanges s → 0 < pins_at s range → IsSome (map_at s range) × IfSome (map_at s range) (IsAtLeast (pinned_at s range))
pinned-mapped s range i h =
    let p : IsPinTarget (owner_at s range) (pinned_at s range) = i.pins range h in
    let w : IsOwned (length s.logs) (map_at s range) p.own = i.owned range p.own p.placed in
    rw w.mapped (refl, at-least-through (pinned_at s range) _ w.target p.enough w.enough)

pub targets-map : (s : Parts) (range : ℕ) → IsPlainRanges s → range < length s.pins → Targets (plain_view s) range (map_at s range) (targeted (plain_view s) range (map_at s range))
targets-map s range i within = record {
  held = λ h. is-mapped s range (omega (arith, within, i.maps));
  some = λ h. (pinned-mapped s range i h).0;
  pinned = λ h. (pinned-mapped s range i h).1;
  counted = refl;
}

-- ---- setting and clearing

-- an interval is a whole range of the window
pub record IsRange (s : Parts) (range moffset len : ℕ) : Type 0 where
  pub within : range < length s.maps
  pub at : moffset ≡ range * 2097152
  pub long : len ≡ 2097152

range-whole : (s : Parts) (range moffset len : ℕ) → IsRange s range moffset len → is_whole (length (plain_view s).table) moffset len ≡ true
unfolding is_whole
range-whole s range moffset len r = rw (r.at, r.long, length-table s.maps) (grind (arith, common_steps, r.within))

page-within : (range page : ℕ) → page / 512 ≡ range → is_within (range * 2097152) 2097152 page ≡ true
page-within range page e = grind (arith, common_steps, e)

page-outside : (range page : ℕ) → page / 512 ≢ range → is_within (range * 2097152) 2097152 page ≡ false
page-outside range page ne = grind (arith, common_steps, ne)

-- what a page shows after a range is mapped otherwise
shown-same : (s : Parts) (range page : ℕ) (t : Option Target) → range < length s.maps → page / 512 ≡ range → shown_page (slice_set s.maps range t) page ≡ Some (option_map (target_page (page % 512)) t)
shown-same s range page t within e = ap (λ n. Some (option_map (target_page (page % 512)) (get_or (slice_set s.maps range t) n None))) e ∙ ap (λ m. Some (option_map (target_page (page % 512)) m)) (get_or-set_same s.maps range t None within)

shown-other : (s : Parts) (range page : ℕ) (t : Option Target) → page / 512 ≢ range → shown_page (slice_set s.maps range t) page ≡ shown_page s.maps page
shown-other s range page t ne = ap (λ m. Some (option_map (target_page (page % 512)) m)) (get_or-set_other s.maps range (page / 512) t None ne)

-- a span maps the whole of a range to a target
pub record IsSpan (span : Span) (t : Target) : Type 0 where
  pub node : t.file + 2 ≡ span.node
  pub begins : t.chunk * 2097152 ≡ span.foffset
  pub mode : t.mode ≡ span.mode

span-page : (range page : ℕ) (span : Span) (t : Target) → IsSpan span t → span.moffset ≡ range * 2097152 → page / 512 ≡ range → target_page (page % 512) t ≡ page_of span page
span-page range page span t h at e =
    let off : 2097152 * t.chunk + 4096 * (page % 512) ≡ span.foffset + (4096 * page - span.moffset) = (let b = h.begins in omega (arith, b, at, e)) in
    ap (λ n. record { node = n; foffset = 2097152 * t.chunk + 4096 * (page % 512); mode = t.mode }) h.node
    ∙ ap (λ n. record { node = span.node; foffset = n; mode = t.mode }) off
    ∙ ap (λ m. record { node = span.node; foffset = span.foffset + (4096 * page - span.moffset); mode = m }) h.mode

pub table-painted : (s : Parts) (range : ℕ) (span : Span) (t : Target) → IsRange s range span.moffset span.len → IsSpan span t → plain_view (record s { maps = slice_set s.maps range (Some t) }) ≡ painted (plain_view s) span
table-painted s range span t r h =
    let v = plain_view s in
    let maps = slice_set s.maps range (Some t) in
    let whole = range-whole s range span.moffset span.len r in
    let count : length maps ≡ length s.maps = length-set s.maps range (Some t) in
    ap (λ l. record v { table = l }) (ext_get_or None (table_of maps) (painted v span).table
    (length-table maps ∙ ap (λ n. 512 * n) count ∙ sym (length-table s.maps) ∙ sym (length-painted v span whole))
    (λ page within.
    let below : page < 512 * length maps = omega (arith, within, length-table maps) in
    let below_old : page < 512 * length s.maps = omega (arith, below, count) in
    table-page maps page below ∙ (elim (cases_eq (page / 512) range) [
      | inl e ↦ shown-same s range page (Some t) r.within e ∙ ap (λ p. Some (Some p)) (span-page range page span t h r.at e)
          ∙ sym (held_at-painted v span page whole (subst (λ x. is_within x span.len page ≡ true) (sym r.at) (subst (λ x. is_within (range * 2097152) x page ≡ true) (sym r.long) (page-within range page e))))
      | inr ne ↦ shown-other s range page (Some t) ne ∙ sym (table-page s.maps page below_old)
          ∙ sym (held_at-painted_other v span page whole (subst (λ x. is_within x span.len page ≡ false) (sym r.at) (subst (λ x. is_within (range * 2097152) x page ≡ false) (sym r.long) (page-outside range page ne))))
    ])))

pub table-wiped : (s : Parts) (range moffset len : ℕ) → IsRange s range moffset len → plain_view (record s { maps = slice_set s.maps range None }) ≡ wiped (plain_view s) moffset len
table-wiped s range moffset len r =
    let v = plain_view s in
    let maps = slice_set s.maps range None in
    let whole = range-whole s range moffset len r in
    let count : length maps ≡ length s.maps = length-set s.maps range None in
    ap (λ l. record v { table = l }) (ext_get_or None (table_of maps) (wiped v moffset len).table
    (length-table maps ∙ ap (λ n. 512 * n) count ∙ sym (length-table s.maps) ∙ sym (length-wiped v moffset len whole))
    (λ page within.
    let below : page < 512 * length maps = omega (arith, within, length-table maps) in
    let below_old : page < 512 * length s.maps = omega (arith, below, count) in
    table-page maps page below ∙ (elim (cases_eq (page / 512) range) [
      | inl e ↦ shown-same s range page None r.within e
          ∙ sym (held_at-wiped v moffset len page whole (subst (λ x. is_within x len page ≡ true) (sym r.at) (subst (λ x. is_within (range * 2097152) x page ≡ true) (sym r.long) (page-within range page e))))
      | inr ne ↦ shown-other s range page None ne ∙ sym (table-page s.maps page below_old)
          ∙ sym (held_at-wiped_other v moffset len page whole (subst (λ x. is_within x len page ≡ false) (sym r.at) (subst (λ x. is_within (range * 2097152) x page ≡ false) (sym r.long) (page-outside range page ne))))
    ])))

-- ---- a window of which nothing is mapped

pub table-new : (ranges : ℕ) → table_of (replicate ranges None) ≡ replicate (512 * ranges) (Some None)
table-new ranges =
    let maps : List (Option Target) = replicate ranges None in
    let count : length maps ≡ ranges = length-replicate ranges None in
    ext_get_or None (table_of maps) (replicate (512 * ranges) (Some None))
    (length-table maps ∙ ap (λ n. 512 * n) count ∙ sym (length-replicate (512 * ranges) (Some None)))
    (λ page within.
    let below : page < 512 * length maps = omega (arith, within, length-table maps) in
    let inside : page / 512 < ranges = omega (arith, below, count) in
    table-page maps page below ∙ ap (λ m. Some (option_map (target_page (page % 512)) m)) (get_or-replicate ranges (page / 512) None None inside)
    ∙ sym (get_or-replicate (512 * ranges) page (Some None) None (omega (arith, below, count))))
