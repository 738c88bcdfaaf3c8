-- What a pass knows of the core, by what it is shown.
use Rattle.std.proofs.Common.{◌≡◌, ◌≢◌, ℕ, ◌<◌, length, take, true, false, true≢false, get_or, cond, Option, Some, None, refl, sym, ap, ◌∙◌, eq-eqb}
use Rattle.std.proofs.lemmas.Bool.{eqb-true}
use Rattle.std.proofs.Math.Seq.{take-length}
use Rattle.seats.specs.Views.{guests}
use Rattle.files_core.specs.Files.{is_guest, row, no_file, file}
use Rattle.files_core.specs.Good.{GoodFiles}
use Rattle.files_core.specs.Shown.{Shown, shown_of}
use Rattle.file_share.specs.Table.{Core, Mine, Knows, mine, part, unseen, first_of, first_in, first_at}
use Rattle.file_share.proofs.Places.{get_map}

pub is_its : (g : ℕ) (o : Option ℕ) → is_guest g o ≡ true → o ≡ Some g
is_its g None e = absurd (true≢false (sym e))
is_its g (Some h) e = ap (λ n. Some n) (eqb-true h g e)

pub is_itself : (g : ℕ) → is_guest g (Some g) ≡ true
is_itself g = eq-eqb g g refl

pub is_not : (g : ℕ) (o : Option ℕ) → is_guest g o ≡ false → o ≢ Some g
is_not g o off is = true≢false (sym (ap (is_guest g) is ∙ is_itself g) ∙ off)

module _ (v : Knows) (c : Core) (is : v.mine ≡ mine v.guest c) where
  pub part_is : (f : ℕ) → part v f ≡ shown_of v.guest (file c.files f)
  part_is f = ap (λ (m : Mine). get_or m.files f unseen) is ∙ get_map (shown_of v.guest) c.files f no_file

  pub first_is : (f : ℕ) → first_at v f ≡ (file c.files f).first
  first_is f = ap (λ (m : Mine). first_in m.firsts f) is ∙ get_map first_of c.files f no_file

  pub leasers_is : v.mine.leasers ≡ c.leasers
  leasers_is = ap (λ (m : Mine). m.leasers) is

  pub turn_is : (f : ℕ) → (part v f).turn ≡ true → (file c.files f).turn ≡ Some v.guest
  turn_is f t = is_its v.guest (file c.files f).turn (sym (ap (λ (m : Shown). m.turn) (part_is f)) ∙ t)

  pub turn_not : (f : ℕ) → (part v f).turn ≡ false → (file c.files f).turn ≢ Some v.guest
  turn_not f t = is_not v.guest (file c.files f).turn (sym (ap (λ (m : Shown). m.turn) (part_is f)) ∙ t)

  pub bar_is : (f : ℕ) → (part v f).bar ≡ true → (file c.files f).bar ≡ Some v.guest
  bar_is f t = is_its v.guest (file c.files f).bar (sym (ap (λ (m : Shown). m.bar) (part_is f)) ∙ t)

  pub bar_not : (f : ℕ) → (part v f).bar ≡ false → (file c.files f).bar ≢ Some v.guest
  bar_not f t = is_not v.guest (file c.files f).bar (sym (ap (λ (m : Shown). m.bar) (part_is f)) ∙ t)

  pub applied_is : (f : ℕ) → (part v f).turn ≡ true → (part v f).applied ≡ (file c.files f).applied
  applied_is f t = ap (λ (m : Shown). m.applied) (part_is f) ∙ ap (λ b. cond b (file c.files f).applied None) (sym (ap (λ (m : Shown). m.turn) (part_is f)) ∙ t)

  pub leases_are : (f : ℕ) → (part v f).leases ≡ (row (file c.files f) v.guest).leases
  leases_are f = ap (λ (m : Shown). m.leases) (part_is f)

  -- the whole history is seen while the turn is had
  pub seen_is : GoodFiles guests c.files → v.guest < guests → (f : ℕ) → f < length c.files → (part v f).turn ≡ true → (part v f).seen ≡ (file c.files f).history
  seen_is good small f near t = ap (λ (m : Shown). m.seen) (part_is f)
      ∙ (ap (λ n. take n (file c.files f).history) (((good.files_ok f near).rows_ok v.guest small).at_turn (turn_is f t)) ∙ take-length (file c.files f).history)
