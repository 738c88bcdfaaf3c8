-- A window that keeps whole ranges as one mapping, and its pages after some of them are mapped.
use Rattle.std.proofs.Common.{◌≡◌, ◌≢◌, ◌∙◌, ap, sym, subst, refl, true, ℕ, ◌+◌, ◌-◌, ◌*◌, ◌/◌, ◌%◌, ◌<◌, ◌≤◌, ◌^◌, List, Option, Some, None, length, get_or, set, replicate, map, take, drop, [], ◌∷◌, ◌++◌, inl, inr, arith}
use Rattle.std.proofs.lemmas.Bool.{cases_lt}
use Rattle.std.proofs.lemmas.List.{ext_get_or, get_or-set_same, get_or-set_other, get_or-replicate, length-replicate, get_or_past, length-map}
use Rattle.std.proofs.lemmas.List.FromFn.{length-map-range_with_len, get_or-map-range_with_len}
use Rattle.std.specs.List.{range_with_len}
use Rattle.std.specs.Option.{option_map}
use Rattle.page_map.specs.declared.pages.Page.{Page}
use Rattle.page_map.specs.declared.pages.Span.{Span}
use Rattle.page_map.specs.declared.parts.Part.{Part}
use Rattle.page_map.specs.declared.parts.Part.TheVariants as parts
use Rattle.page_map.specs.Window.{page_of}
use Rattle.page_map.specs.Board.{MapView, byte_behind, mapped_byte, is_whole, replaced}
use Rattle.page_map.specs.Plain.{plain_map, page_behind, page_in, page_at, pages_of, HasRoom, IsKept}
use Rattle.page_map.proofs.Replacing.{length-replaced, get_or-replaced, get_or-replaced_before, get_or-replaced_behind}
use Rattle.page_map.proofs.Tables.{IsTable-replaced}
use Rattle.page_map.proofs.Whole.{WholePages, whole_pages}
use Rattle.page_map.proofs.Showing.{mapped_at-plain}

pub length-pages_of : (kept : List Part) (table : List (Option Page)) → length (pages_of kept table) ≡ length table
length-pages_of kept table = length-map-range_with_len (page_at kept table) 0 (length table)

pub get_or-pages_of : (kept : List Part) (table : List (Option Page)) (page : ℕ) → page < length table → get_or (pages_of kept table) page None ≡ page_at kept table page
get_or-pages_of kept table page within = get_or-map-range_with_len (page_at kept table) 0 (length table) page page None within (omega arith)

-- the pages are such a list where each of them is what stands there
pages_are : (kept : List Part) (table xs : List (Option Page)) → length table ≡ length xs → ((page : ℕ) → page < length table → page_at kept table page ≡ get_or xs page None) → pages_of kept table ≡ xs
pages_are kept table xs long same =
    ext_get_or None (pages_of kept table) xs (length-pages_of kept table ∙ long) (λ page within.
    let below : page < length table = rw (length-pages_of kept table) at within in
    get_or-pages_of kept table page below ∙ same page below)

-- pages are replaced where those of the interval are what f says, and the others are as they were
pages_replaced : (f : ℕ → Option Page) (kept : List Part) (table : List (Option Page)) (kept' : List Part) (table' : List (Option Page)) (at n : ℕ) → at + n ≤ length table → length table' ≡ length table →
    ((page : ℕ) → at ≤ page → page < at + n → page_at kept' table' page ≡ f page) →
    ((page : ℕ) → page < at → page_at kept' table' page ≡ page_at kept table page) →
    ((page : ℕ) → at + n ≤ page → page < length table → page_at kept' table' page ≡ page_at kept table page) →
    pages_of kept' table' ≡ replaced f (pages_of kept table) at n
pages_replaced f kept table kept' table' at n within long inside before behind =
    let old = pages_of kept table in
    let fits : at + n ≤ length old = rw (length-pages_of kept table) within in
    pages_are kept' table' (replaced f old at n) (long ∙ sym (length-pages_of kept table) ∙ sym (length-replaced f old at n fits)) (λ page below.
    elim (cases_lt page at) [
      | inl left ↦ before page left ∙ sym (get_or-pages_of kept table page (omega arith)) ∙ sym (get_or-replaced_before f old at n page None fits left)
      | inr from ↦ elim (cases_lt page (at + n)) [
        | inl to ↦ inside page from to ∙ sym (get_or-replaced f old at n page None fits from to)
        | inr right ↦ behind page right (omega arith) ∙ sym (get_or-pages_of kept table page (omega arith)) ∙ sym (get_or-replaced_behind f old at n page None fits right)
      ]
    ])

-- a page of another range is what it was
in_other_range : (kept : List Part) (table : List (Option Page)) (range : ℕ) (part : Part) (page : ℕ) → page / 512 ≢ range → page_at (set kept range part) table page ≡ page_at kept table page
in_other_range kept table range part page other =
    ap (λ (p : Part). page_in p (page % 512) (get_or table page None)) (get_or-set_other kept range (page / 512) part parts.Pages other)

in_this_range : (kept : List Part) (table : List (Option Page)) (range : ℕ) (part : Part) (page : ℕ) → range < length kept → page / 512 ≡ range → page_at (set kept range part) table page ≡ page_in part (page % 512) (get_or table page None)
in_this_range kept table range part page within this =
    ap (λ n. page_in (get_or (set kept range part) n parts.Pages) (page % 512) (get_or table page None)) this
    ∙ ap (λ (p : Part). page_in p (page % 512) (get_or table page None)) (get_or-set_same kept range part parts.Pages within)

-- a whole range becomes one mapping
pub pages_of-whole : (kept : List Part) (table : List (Option Page)) (at : ℕ) (first : Option Page) → length kept ≡ length table / 512 → at + 512 ≤ length table → at % 512 ≡ 0 →
    pages_of (set kept (at / 512) (parts.Whole first)) table ≡ replaced (λ page. page_behind first (page - at)) (pages_of kept table) at 512
pages_of-whole kept table at first parted within aligned =
    let range = at / 512 in
    pages_replaced (λ page. page_behind first (page - at)) kept table (set kept range (parts.Whole first)) table at 512 within refl
    (λ page from to.
    let this : page / 512 ≡ range = omega arith in
    let e : page % 512 ≡ page - at = omega arith in
    in_this_range kept table range (parts.Whole first) page (omega arith) this ∙ ap (page_behind first) e)
    (λ page left. in_other_range kept table range (parts.Whole first) page (λ e. omega arith))
    (λ page right below. in_other_range kept table range (parts.Whole first) page (λ e. omega arith))

-- entries of a range that is kept page by page are replaced
pub pages_of-painted : (f : ℕ → Option Page) (kept : List Part) (table : List (Option Page)) (at n : ℕ) → at + n ≤ length table → at % 512 + n ≤ 512 → get_or kept (at / 512) parts.Pages ≡ parts.Pages →
    pages_of kept (replaced f table at n) ≡ replaced f (pages_of kept table) at n
pages_of-painted f kept table at n within piece split =
    let new = replaced f table at n in
    let as_page : ℕ → Option Page → Option Page = λ page o. page_in (get_or kept (page / 512) parts.Pages) (page % 512) o in
    pages_replaced f kept table kept new at n within (length-replaced f table at n within)
    (λ page from to.
    let this : page / 512 ≡ at / 512 = omega arith in
    ap (λ k. page_in (get_or kept k parts.Pages) (page % 512) (get_or new page None)) this
    ∙ ap (λ (p : Part). page_in p (page % 512) (get_or new page None)) split
    ∙ get_or-replaced f table at n page None within from to)
    (λ page left. ap (as_page page) (get_or-replaced_before f table at n page None within left))
    (λ page right below. ap (as_page page) (get_or-replaced_behind f table at n page None within right))

-- the entries of a range that is kept as one mapping are written out
pub pages_of-split : (kept : List Part) (table : List (Option Page)) (range : ℕ) (first : Option Page) → range < length kept → range * 512 + 512 ≤ length table → get_or kept range parts.Pages ≡ parts.Whole first →
    pages_of (set kept range parts.Pages) (replaced (λ page. page_behind first (page - range * 512)) table (range * 512) 512) ≡ pages_of kept table
pages_of-split kept table range first known within whole =
    let at = range * 512 in
    let f : ℕ → Option Page = λ page. page_behind first (page - at) in
    let new = replaced f table at 512 in
    let as_page : ℕ → Option Page → Option Page = λ page o. page_in (get_or kept (page / 512) parts.Pages) (page % 512) o in
    pages_are (set kept range parts.Pages) new (pages_of kept table) (length-replaced f table at 512 within ∙ sym (length-pages_of kept table)) (λ page below.
    let there : page < length table = rw (length-replaced f table at 512 within) at below in
    elim (cases_lt page at) [
      | inl left ↦
          in_other_range kept new range parts.Pages page (λ e. omega arith)
          ∙ ap (as_page page) (get_or-replaced_before f table at 512 page None within left)
          ∙ sym (get_or-pages_of kept table page there)
      | inr from ↦ elim (cases_lt page (at + 512)) [
        | inl to ↦
            let this : page / 512 ≡ range = omega arith in
            let e : page - at ≡ page % 512 = omega arith in
            in_this_range kept new range parts.Pages page known this
            ∙ get_or-replaced f table at 512 page None within from to
            ∙ ap (page_behind first) e
            ∙ sym (ap (λ (p : Part). page_in p (page % 512) (get_or table page None)) (ap (λ k. get_or kept k parts.Pages) this ∙ whole))
            ∙ sym (get_or-pages_of kept table page there)
        | inr right ↦
            in_other_range kept new range parts.Pages page (λ e. omega arith)
            ∙ ap (as_page page) (get_or-replaced_behind f table at 512 page None within right)
            ∙ sym (get_or-pages_of kept table page there)
      ]
    ])

-- behind what lies behind
behind_behind : (first : Option Page) (m n k : ℕ) → m + n ≡ k → page_behind (page_behind first m) n ≡ page_behind first k
behind_behind None m n k e = refl
behind_behind (Some p) m n k e =
    let sum : p.foffset + 4096 * m + 4096 * n ≡ p.foffset + 4096 * k = omega arith in
    ap (λ f. Some (record p { foffset = f })) sum

-- pages that are mapped behind those that were
pub replaced_further : (xs : List (Option Page)) (first : Option Page) (at done n : ℕ) → at + (done + n) ≤ length xs →
    replaced (λ page. page_behind (page_behind first done) (page - (at + done))) (replaced (λ page. page_behind first (page - at)) xs at done) (at + done) n ≡ replaced (λ page. page_behind first (page - at)) xs at (done + n)
replaced_further xs first at done n within =
    let f : ℕ → Option Page = λ page. page_behind first (page - at) in
    let g : ℕ → Option Page = λ page. page_behind (page_behind first done) (page - (at + done)) in
    let mid = replaced f xs at done in
    let w : at + done ≤ length xs = omega arith in
    let long : length mid ≡ length xs = length-replaced f xs at done w in
    let w' : at + done + n ≤ length mid = omega arith in
    let all : length (replaced g mid (at + done) n) ≡ length (replaced f xs at (done + n)) = length-replaced g mid (at + done) n w' ∙ long ∙ sym (length-replaced f xs at (done + n) within) in
    ext_get_or None (replaced g mid (at + done) n) (replaced f xs at (done + n)) all (λ page below.
    elim (cases_lt page at) [
      | inl left ↦
          get_or-replaced_before g mid (at + done) n page None w' (omega arith)
          ∙ get_or-replaced_before f xs at done page None w left
          ∙ sym (get_or-replaced_before f xs at (done + n) page None within left)
      | inr from ↦ elim (cases_lt page (at + (done + n))) [
        | inl to ↦ elim (cases_lt page (at + done)) [
          | inl early ↦
              get_or-replaced_before g mid (at + done) n page None w' early
              ∙ get_or-replaced f xs at done page None w from early
              ∙ sym (get_or-replaced f xs at (done + n) page None within from to)
          | inr late ↦
              get_or-replaced g mid (at + done) n page None w' late (omega arith)
              ∙ behind_behind first done (page - (at + done)) (page - at) (omega arith)
              ∙ sym (get_or-replaced f xs at (done + n) page None within from to)
        ]
        | inr right ↦
            get_or-replaced_behind g mid (at + done) n page None w' (omega arith)
            ∙ get_or-replaced_behind f xs at done page None w (omega arith)
            ∙ sym (get_or-replaced_behind f xs at (done + n) page None within right)
      ]
    ])

-- a page behind another lies where that one's room says
pub HasRoom-behind : (first : Option Page) (done n all : ℕ) → HasRoom first all → done + n ≤ all → HasRoom (page_behind first done) n
HasRoom-behind None done n all room fits p e = absurd (cc)
HasRoom-behind (Some q) done n all room fits p e =
    let r : q.foffset + 4096 * all ≤ 2 ^ 64 = room q refl in
    let same : q.foffset + 4096 * done ≡ p.foffset = ap (λ (o : Option Page). elim o [ None ↦ 0 | Some x ↦ x.foffset ]) e in
    omega arith

-- fewer pages have room too
pub HasRoom-fewer : (first : Option Page) (m n : ℕ) → HasRoom first n → m ≤ n → HasRoom first m
HasRoom-fewer first m n room fewer p e =
    let r : p.foffset + 4096 * n ≤ 2 ^ 64 = room p e in
    omega arith

-- what is kept is a table afterwards
pub IsKept-replaced : (kept : List Part) (table : List (Option Page)) (kept' : List Part) (table' : List (Option Page)) (first : Option Page) (at n : ℕ) → IsKept kept table → at + n ≤ length table → HasRoom first n →
    pages_of kept' table' ≡ replaced (λ page. page_behind first (page - at)) (pages_of kept table) at n → length kept' ≡ length kept → length table' ≡ length table → IsKept kept' table'
IsKept-replaced kept table kept' table' first at n is within room same count long = record {
  parted = count ∙ is.parted ∙ ap (λ k. k / 512) (sym long);
  pages = rw same (IsTable-replaced (λ page. page_behind first (page - at)) (pages_of kept table) at n is.pages (rw (length-pages_of kept table) within) (λ page p from to e.
      let r : p.foffset + 4096 * 1 ≤ 2 ^ 64 = HasRoom-behind first (page - at) 1 n room (omega arith) p e in
      omega arith));
}

-- each page of what is kept has room
pub HasRoom-kept : (kept : List Part) (table : List (Option Page)) (page : ℕ) → IsKept kept table → page < length table → HasRoom (page_at kept table page) 1
HasRoom-kept kept table page is within p e =
    let r : p.foffset + 4096 ≤ 2 ^ 64 = is.pages.fits page p (get_or-pages_of kept table page within ∙ e) in
    omega arith

-- and so has a whole range
pub HasRoom-whole : (kept : List Part) (table : List (Option Page)) (range : ℕ) (first : Option Page) → IsKept kept table → range < length kept → get_or kept range parts.Pages ≡ parts.Whole first → HasRoom first 512
HasRoom-whole kept table range first is known whole p e =
    let last = range * 512 + 511 in
    let parted = is.parted in
    let this : last / 512 ≡ range = omega arith in
    let behind : last % 512 ≡ 511 = omega arith in
    let at : page_at kept table last ≡ Some (byte_behind p (4096 * 511)) =
    ap (λ (q : Part). page_in q (last % 512) (get_or table last None)) (ap (λ k. get_or kept k parts.Pages) this ∙ whole)
    ∙ ap (λ k. page_behind first k) behind ∙ ap (λ o. page_behind o 511) e in
    let r : p.foffset + 4096 * 511 + 4096 * 1 ≤ 2 ^ 64 = HasRoom-kept kept table last is (omega arith) (byte_behind p (4096 * 511)) at in
    omega arith

-- a new window keeps every page by itself
abbrev no_page : Option Page
no_page = None

new_page : (ranges range behind : ℕ) (own : Option Page) → page_in (get_or (replicate ranges parts.Pages) range parts.Pages) behind own ≡ own
new_page ranges range behind own = elim (cases_lt range ranges) [
  | inl within ↦ ap (λ (p : Part). page_in p behind own) (get_or-replicate ranges range parts.Pages parts.Pages within)
  | inr past ↦ ap (λ (p : Part). page_in p behind own) (get_or_past (replicate ranges parts.Pages) range parts.Pages (rw (length-replicate ranges parts.Pages) past))
]

pub pages_of-new : (ranges pages : ℕ) → pages_of (replicate ranges parts.Pages) (replicate pages no_page) ≡ replicate pages no_page
pages_of-new ranges pages =
    pages_are (replicate ranges parts.Pages) (replicate pages no_page) (replicate pages no_page) refl (λ page within.
    new_page ranges (page / 512) (page % 512) (get_or (replicate pages no_page) page None))

-- what is known of a byte of a page of the window, and of one past it
pub mapped_byte-kept : (kept : List Part) (table : List (Option Page)) (moffset : ℕ) → moffset / 4096 < length table → mapped_byte (plain_map (pages_of kept table)) moffset ≡ option_map (λ p. byte_behind p (moffset % 4096)) (page_at kept table (moffset / 4096))
mapped_byte-kept kept table moffset within =
    ap (λ (o : Option Page). option_map (λ p. byte_behind p (moffset % 4096)) o) (mapped_at-plain (pages_of kept table) (moffset / 4096) ∙ get_or-pages_of kept table (moffset / 4096) within)

pub mapped_byte-past : (kept : List Part) (table : List (Option Page)) (moffset : ℕ) → length table ≤ moffset / 4096 → mapped_byte (plain_map (pages_of kept table)) moffset ≡ None
mapped_byte-past kept table moffset past =
    ap (λ (o : Option Page). option_map (λ p. byte_behind p (moffset % 4096)) o) (mapped_at-plain (pages_of kept table) (moffset / 4096) ∙ get_or_past (pages_of kept table) (moffset / 4096) None (rw (length-pages_of kept table) past))

none_there : (pages page : ℕ) (p : Page) → get_or (replicate pages no_page) page None ≡ Some p → ⊥
none_there pages page p e = elim (cases_lt page pages) [
  | inl within ↦ let none : None ≡ Some p = sym (get_or-replicate pages page no_page None within) ∙ e in cc
  | inr past ↦ let none : None ≡ Some p = sym (get_or_past (replicate pages no_page) page None (rw (length-replicate pages no_page) past)) ∙ e in cc
]

-- a new window is kept
pub IsKept-new : (pages : ℕ) → pages < 2 ^ 32 → IsKept (replicate (pages / 512) parts.Pages) (replicate pages no_page)
IsKept-new pages few = record {
  parted = length-replicate (pages / 512) parts.Pages ∙ sym (ap (λ k. k / 512) (length-replicate pages no_page));
  pages = rw (pages_of-new (pages / 512) pages) (record {
    few = rw (length-replicate pages no_page) few;
    fits = λ page p e. absurd (none_there pages page p e);
  });
}

-- a set span maps its pages to those behind its first one
map_agrees : {X : Type 0} (f g : ℕ → X) → ((n : ℕ) → f n ≡ g n) → (ns : List ℕ) → map f ns ≡ map g ns
map_agrees f g same [] = refl
map_agrees f g same (n ∷ ns) = ap (λ x. x ∷ map f ns) (same n) ∙ ap (λ xs. g n ∷ xs) (map_agrees f g same ns)

abbrev pub first_page : Span → Option Page
first_page s = Some (record { node = s.node; foffset = s.foffset; mode = s.mode })

behind_first : (s : Span) (page : ℕ) → s.moffset ≡ 4096 * (s.moffset / 4096) → page_behind (first_page s) (page - s.moffset / 4096) ≡ Some (page_of s page)
behind_first s page whole =
    let e : s.foffset + 4096 * (page - s.moffset / 4096) ≡ s.foffset + (4096 * page - s.moffset) = omega arith in
    ap (λ n. Some (record { node = s.node; foffset = n; mode = s.mode })) e

pub replaced-span : (s : Span) (xs : List (Option Page)) (n : ℕ) → s.moffset ≡ 4096 * (s.moffset / 4096) →
    replaced (λ page. page_behind (first_page s) (page - s.moffset / 4096)) xs (s.moffset / 4096) n ≡ replaced (λ page. Some (page_of s page)) xs (s.moffset / 4096) n
replaced-span s xs n whole =
    let at = s.moffset / 4096 in
    ap (λ ys. (take at xs ++ ys) ++ drop (at + n) xs) (map_agrees (λ page. page_behind (first_page s) (page - at)) (λ page. Some (page_of s page)) (λ page. behind_first s page whole) (range_with_len at n))

pub HasRoom-span : (s : Span) (n : ℕ) → s.foffset + 4096 * n ≤ 2 ^ 64 → HasRoom (first_page s) n
HasRoom-span s n room p e =
    let same : s.foffset ≡ p.foffset = ap (λ (o : Option Page). elim o [ None ↦ 0 | Some x ↦ x.foffset ]) e in
    omega arith

-- a split range keeps the window
pub IsKept-split : (kept : List Part) (table : List (Option Page)) (kept' : List Part) (table' : List (Option Page)) → IsKept kept table → pages_of kept' table' ≡ pages_of kept table → length kept' ≡ length kept → length table' ≡ length table → IsKept kept' table'
IsKept-split kept table kept' table' is same count long = record {
  parted = count ∙ is.parted ∙ ap (λ k. k / 512) (sym long);
  pages = rw same is.pages;
}

-- an interval of a window, in pages
pub kept_whole : (kept : List Part) (table : List (Option Page)) (v : MapView) (moffset len : ℕ) → plain_map (pages_of kept table) ≡ v → is_whole (length v.table) moffset len ≡ true → WholePages (length table) moffset len
kept_whole kept table v moffset len is whole =
    let e : length v.table ≡ length table = ap (λ (m : MapView). length m.table) (sym is) ∙ length-map (pages_of kept table) (λ p. Some p) ∙ length-pages_of kept table in
    whole_pages (length table) moffset len (subst (λ n. is_whole n moffset len ≡ true) e whole)
