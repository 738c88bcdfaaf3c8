-- An entry is applied to the contents in hand.
use Rattle.std.proofs.Common.{◌≡◌, ℕ, ◌<◌, List, [], ◌∷◌, ◌++◌, length, get_or, true, Option, Some, None, Ok, sym, ap, ◌∙◌, subst}
use Rattle.std.proofs.lemmas.List.{get_or_push}
use Rattle.plain_file.specs.declared.operations.Applied.{Applied}
use Rattle.plain_file.specs.declared.operations.Entry.{Entry}
use Rattle.plain_file.specs.declared.operations.Mark.{Mark}
use Rattle.plain_file.specs.Board.{is_file}
use Rattle.plain_file.specs.History.{Past, whole_bytes, grown, next_answer}
use Rattle.files_core.specs.Files.{with_entry, sized, set_size}
use Rattle.files_core.proofs.Sizes.{size_more}
use Rattle.file_share.specs.Table.{part, first_at}
use Rattle.file_share.specs.Steps.{DoesOn, Always, Chair}
use Rattle.file_share.specs.Known.{known, Sound, IsShown, Applies, applied_part, past_seen, size_seen, size_with}
use Rattle.file_share.proofs.Calling.{held_at, deed_of}

-- the entry that stands last
pub newest : (h l : List Entry) (e x : Entry) (n : ℕ) → l ≡ h ++ e ∷ [] → n ≡ length h → x ≡ get_or l n x → x ≡ e
newest h l e x n more last is = is ∙ ((λ i. get_or (more i) n x) ∙ get_or_push h e x n (sym last))

module _ (s : Chair) (p : Past) (file' f g : ℕ) (bar : Option ℕ) (last : List (Option ℕ)) (ok : Sound s (Some p) file' g bar last) (on : (part s.me.0 f).turn ≡ true) (bare : (part s.me.0 f).applied ≡ None) where
  pub past_is : p ≡ past_seen s.me.0 f
  past_is = let i = held_at s p file' f ok.in_hand on in let h = i.history ∙ ap (with_entry (part s.me.0 f).seen) bare in λ k. record { first = i.first k; history = h k }

  pub size_is : (n : ℕ) → n ≡ length (whole_bytes p) → n ≡ size_seen s.me.0 f
  size_is n is = is ∙ ap (λ (q : Past). length (whole_bytes q)) past_is

  pub size_after : (e : Entry) (q : Past) (n : ℕ) → n ≡ length (whole_bytes q) → q ≡ grown p e → n ≡ size_with s.me.0 f e
  size_after e q n is more = is ∙ (ap (λ (x : Past). length (whole_bytes x)) more ∙ ap (λ (x : Past). length (whole_bytes (grown x e))) past_is)

  more_of : (e : Entry) → size_with s.me.0 f e ≡ sized (size_seen s.me.0 f) e.op
  more_of e = size_more (first_at s.me.0 f) (part s.me.0 f).seen e

  pub lower : (e : Entry) (n : ℕ) → n ≡ length (whole_bytes p) → sized n e.op < n → size_with s.me.0 f e < size_seen s.me.0 f
  lower e n is l = subst (λ (z : ℕ). z < size_seen s.me.0 f) (sym (more_of e)) (subst (λ (z : ℕ). sized z e.op < z) (size_is n is) l)

  -- where it lowers the size, the bar is had
  pub no_lower : (e : Entry) (n : ℕ) → n ≡ length (whole_bytes p) → (sized n e.op < n → is_file bar f ≡ true) → size_with s.me.0 f e < size_seen s.me.0 f → (part s.me.0 f).bar ≡ true
  no_lower e n is may l = ok.bar_is f ∙ may (subst (λ (z : ℕ). sized z e.op < z) (sym (size_is n is)) (subst (λ (z : ℕ). z < size_seen s.me.0 f) (more_of e) l))

  pub applies : (t : Chair) (mark : Mark) (e : Entry) (a : Applied) (n : ℕ) → n ≡ length (whole_bytes p) → (sized n e.op < n → is_file bar f ≡ true) → a ≡ next_answer p e.op → t.table_id ≡ s.table_id → DoesOn f (set_size e) Always s.me.0 t.me.0 → IsShown f (applied_part e (part s.me.0 f)) s.me.0 t.me.0
      → Applies (known s mark) f e (Ok a) (known t mark)
  applies t mark e a n is may answer table d shown = record { may = no_lower e n is may; answer = answer ∙ ap (λ (q : Past). next_answer q e.op) past_is; deed = deed_of s t mark f (set_size e) Always table d; shown = shown }
