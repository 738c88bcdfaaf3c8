-- What keeps it that the window maps files that there are.
use Rattle.std.proofs.Common.{◌≡◌, ◌∙◌, ap, sym, refl, ◌<◌, ◌≤◌, ℕ, zero, suc, ◌-◌, true, length, get_or, replicate, Option, Some, None, unwrap_or, inl, inr}
use Rattle.std.proofs.lemmas.Bool.{cases_Bool}
use Rattle.page_map.specs.Board.{MapView, NamesFiles, wiped, painted, is_whole}
use Rattle.page_map.specs.Window.{is_within, page_of}
use Rattle.page_map.specs.Plain.{new_map}
use Rattle.page_map.specs.declared.pages.Page.{Page}
use Rattle.page_map.specs.declared.pages.Span.{Span}
use Rattle.page_map.proofs.Showing.{held_at-painted, held_at-painted_other, held_at-wiped, held_at-wiped_other, mapped_at-plain}

-- what is there at a page, as far as it is held
abbrev as_mapped : Option (Option Page) → Option Page
as_mapped o = unwrap_or o None

-- pages that are cleared map nothing, the others what they did
pub NamesFiles-wiped : (count : ℕ) (v : MapView) (moffset len : ℕ) → is_whole (length v.table) moffset len ≡ true → NamesFiles count v → NamesFiles count (wiped v moffset len)
NamesFiles-wiped count v moffset len whole h page p e = elim (cases_Bool (is_within moffset len page)) [
  | inl within ↦
      let none : None ≡ Some p = sym (ap as_mapped (held_at-wiped v moffset len page whole within)) ∙ e in
      absurd cc
  | inr other ↦ h page p (sym (ap as_mapped (held_at-wiped_other v moffset len page whole other)) ∙ e)
]

-- pages that are set map the span's node
pub NamesFiles-painted : (count : ℕ) (v : MapView) (s : Span) → is_whole (length v.table) s.moffset s.len ≡ true → 2 ≤ s.node → s.node - 2 < count → NamesFiles count v → NamesFiles count (painted v s)
NamesFiles-painted count v s whole node known h page p e = elim (cases_Bool (is_within s.moffset s.len page)) [
  | inl within ↦
      let here : Some (page_of s page) ≡ Some p = sym (ap as_mapped (held_at-painted v s page whole within)) ∙ e in
      let same : page_of s page ≡ p = cc in
      let n : s.node ≡ p.node = ap (λ (q : Page). q.node) same in
      (rw (sym n) node, rw (sym n) known)
  | inr other ↦ h page p (sym (ap as_mapped (held_at-painted_other v s page whole other)) ∙ e)
]

abbrev none_page : Option Page
none_page = None

-- no page of a new map is mapped
nothing_mapped : (pages page : ℕ) → get_or (replicate pages none_page) page none_page ≡ none_page
nothing_mapped zero page = refl
nothing_mapped (suc pages) zero = refl
nothing_mapped (suc pages) (suc page) = nothing_mapped pages page

pub NamesFiles-new_map : (count pages : ℕ) → NamesFiles count (new_map pages)
NamesFiles-new_map count pages page p e =
    let none : None ≡ Some p = sym (mapped_at-plain (replicate pages none_page) page ∙ nothing_mapped pages page) ∙ e in
    absurd cc
