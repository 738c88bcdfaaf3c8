-- Bytes of the window that lie in the first 67,108,864 of their files.
use Rattle.std.proofs.Common.{◌≡◌, ◌∙◌, ap, sym, ℕ, ◌+◌, ◌-◌, ◌%◌, ◌<◌, ◌≤◌, inl, inr, Option, Some, None, arith}
use Rattle.std.proofs.lemmas.Bool.{cases_lt}
use Rattle.std.specs.Option.{option_map, unwrap_or}
use Rattle.page_map.specs.Board.{MapView, mapped_byte, byte_behind}
use Rattle.page_map.specs.declared.pages.Page.{Page}
use Rattle.plain_file.specs.File.{max_file}
use Rattle.window_access.specs.Access.{IsBelow}
use Rattle.window_access.proofs.InPage.{mapped_byte_behind}

-- what a byte of the same page is mapped to
behind_in_page : (map : MapView) (at i : ℕ) (o : Option Page) → mapped_byte map at ≡ o → at ≤ i → at % 4096 + (i - at) < 4096 → mapped_byte map i ≡ option_map (λ p. byte_behind p (i - at)) o
behind_in_page map at i o e from page =
    let there : i ≡ at + (i - at) = omega (arith, from) in
    ap (mapped_byte map) there ∙ mapped_byte_behind map at (i - at) page ∙ ap (option_map (λ p. byte_behind p (i - at))) e

-- an unmapped page
pub below_unmapped : (map : MapView) (at n : ℕ) → mapped_byte map at ≡ None → at % 4096 + n ≤ 4096 → IsBelow map at n
below_unmapped map at n e page i p from to is =
    let no : None ≡ Some p = sym (behind_in_page map at i None e from (omega (arith, page, from, to))) ∙ is in
    absurd cc

-- a mapped page
pub below_mapped : (map : MapView) (at n : ℕ) (p : Page) → mapped_byte map at ≡ Some p → at % 4096 + n ≤ 4096 → p.foffset + n ≤ max_file → IsBelow map at n
below_mapped map at n p e page ends i q from to is =
    let same : p.foffset + (i - at) ≡ q.foffset = ap (λ (o : Option Page). (unwrap_or o p).foffset) (sym (behind_in_page map at i (Some p) e from (omega (arith, page, from, to))) ∙ is) in
    omega (arith, same, ends, from, to)

-- bytes up to one, and those from there on
pub below_more : (map : MapView) (moffset at n : ℕ) → IsBelow map moffset (at - moffset) → IsBelow map at n → IsBelow map moffset (at + n - moffset)
below_more map moffset at n before here i p from to is =
    elim (cases_lt i at) [
      | inl less ↦ before i p from (omega (arith, less, from)) is
      | inr more ↦ here i p more (omega (arith, from, to)) is
    ]

-- a part of them
pub below_part : (map : MapView) (moffset len at n : ℕ) → moffset ≤ at → at + n ≤ moffset + len → IsBelow map moffset len → IsBelow map at n
below_part map moffset len at n from to below i p more less is = below i p (omega (arith, from, more)) (omega (arith, to, less)) is
