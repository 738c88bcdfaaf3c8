-- Intervals that are cleared one after another.
use Rattle.std.proofs.Common.{◌≡◌, ◌∙◌, ap, subst, sym, refl, ℕ, ◌*◌, ◌<◌, arith, Bool, true, false, true≢false, List, ◌∷◌, ◌&&◌, length}
use Rattle.std.proofs.lemmas.Grind.{common_steps}
use Rattle.std.specs.List.{list_all}
use Rattle.fuse_wire.specs.declared.mappings.RemoveOne.{RemoveOne}
use Rattle.page_map.specs.Board.{MapView, painted, wiped, is_whole, may_clear}
use Rattle.page_map.specs.declared.pages.Span.{Span}
use Rattle.page_map.proofs.Sizes.{length-wiped, length-painted}

-- all of them are whole and may be cleared
pub record AreClearable (v : MapView) (ones : List RemoveOne) : Type 0 where
  pub whole : list_all (λ one. is_whole (length v.table) one.moffset one.len) ones ≡ true
  pub may : list_all (λ one. may_clear v one.moffset one.len) ones ≡ true

pub first_of_both : (a b : Bool) → a && b ≡ true → a ≡ true
first_of_both true b h = refl
first_of_both false b h = absurd (true≢false (sym h))

pub rest_of_both : (a b : Bool) → a && b ≡ true → b ≡ true
rest_of_both true b h = h
rest_of_both false b h = absurd (true≢false (sym h))

pub clear_step : (v new : MapView) (one : RemoveOne) (ones all : List RemoveOne) → all ≡ one ∷ ones → AreClearable v all → new ≡ wiped v one.moffset one.len → AreClearable new ones
unfolding may_clear
clear_step v new one ones all e h n =
    let P : MapView → Type 0 = λ m. AreClearable m ones in
    let whole = subst (λ (l : List RemoveOne). list_all (λ o. is_whole (length v.table) o.moffset o.len) l ≡ true) e h.whole in
    let may = subst (λ (l : List RemoveOne). list_all (λ o. may_clear v o.moffset o.len) l ≡ true) e h.may in
    subst P (sym n) (record {
      whole = subst (λ k. list_all (λ o. is_whole k o.moffset o.len) ones ≡ true) (sym (length-wiped v one.moffset one.len (first_of_both (is_whole (length v.table) one.moffset one.len) (list_all (λ o. is_whole (length v.table) o.moffset o.len) ones) whole))) (rest_of_both (is_whole (length v.table) one.moffset one.len) (list_all (λ o. is_whole (length v.table) o.moffset o.len) ones) whole);
      may = rest_of_both (may_clear v one.moffset one.len) (list_all (λ o. may_clear v o.moffset o.len) ones) may;
    })

pub first_clearable : (v : MapView) (one : RemoveOne) (ones all : List RemoveOne) → all ≡ one ∷ ones → AreClearable v all → (is_whole (length v.table) one.moffset one.len ≡ true) × (may_clear v one.moffset one.len ≡ true)
first_clearable v one ones all e h =
    let whole = subst (λ (l : List RemoveOne). list_all (λ o. is_whole (length v.table) o.moffset o.len) l ≡ true) e h.whole in
    let may = subst (λ (l : List RemoveOne). list_all (λ o. may_clear v o.moffset o.len) l ≡ true) e h.may in (
      first_of_both (is_whole (length v.table) one.moffset one.len) (list_all (λ o. is_whole (length v.table) o.moffset o.len) ones) whole,
      first_of_both (may_clear v one.moffset one.len) (list_all (λ o. may_clear v o.moffset o.len) ones) may,
    )

pub wiped_len : (old new : MapView) (moffset len pages : ℕ) → length old.table ≡ pages → is_whole pages moffset len ≡ true → new ≡ wiped old moffset len → length new.table ≡ length old.table
wiped_len old new moffset len pages p h e =
    ap (λ (v : MapView). length v.table) e ∙ length-wiped old moffset len (subst (λ n. is_whole n moffset len ≡ true) (sym p) h)

pub painted_len : (old new : MapView) (s : Span) (pages : ℕ) → length old.table ≡ pages → is_whole pages s.moffset s.len ≡ true → new ≡ painted old s → length new.table ≡ length old.table
painted_len old new s pages p h e =
    ap (λ (v : MapView). length v.table) e ∙ length-painted old s (subst (λ n. is_whole n s.moffset s.len ≡ true) (sym p) h)

pub whole_window : (pages : ℕ) → 0 < pages → is_whole pages 0 (4096 * pages) ≡ true
unfolding is_whole
whole_window pages h = grind (arith, common_steps, h)
