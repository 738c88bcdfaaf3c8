-- What the core before a deed tells of the pass that did it.
use Rattle.std.proofs.Common.{◌≡◌, ◌≢◌, ◌∙◌, ap, sym, subst, refl, ℕ, zero, suc, ◌<◌, ◌≤◌, arith, Bool, true, false, cond, length, Option, Some, None, get_or-set_same, set}
use Rattle.std.proofs.Common.{inl, inr}
use Rattle.std.specs.Prelude.{IfSome}
use Rattle.std.proofs.lemmas.Bool.{cases_lt}
use Rattle.std.proofs.lemmas.List.{get_or_past}
use Rattle.std.proofs.lemmas.List.Sums.{get_or-le-sum_by}
use Rattle.std.proofs.lemmas.Option.{same_Some, IfSome_then}
use Rattle.files_core.specs.Files.{FileState, Row, row, blank, reaches, noted, noted_after, no_file, file, leases, leases_of, Deed, note_size, set_bar, made}
use Rattle.files_core.specs.Shown.{Shown, shown_of}
use Rattle.file_share.specs.Table.{Core, Mine, Knows, in_list, part, unseen}
use Rattle.file_share.specs.Steps.{DoesOn}
use Rattle.file_share.specs.Known.{IsShown, noted_part}
use Rattle.file_share.proofs.Places.{get_map, row_here}
use Rattle.file_share.proofs.Parts.{part_is, turn_is, bar_is}

-- what isn't true is false
none_else : (b : Bool) → (b ≡ true → ⊥) → b ≡ false
none_else true h = absurd (h refl)
none_else false h = refl

-- a guest's leases are among all guests'
leases_within : (c : FileState) (g : ℕ) → (row c g).leases ≤ leases c
leases_within c g = elim (cases_lt g (length c.rows)) [
  | inl near ↦ get_or-le-sum_by leases_of c.rows g blank near
  | inr past ↦ let none : (row c g).leases ≡ 0 = ap leases_of (get_or_past c.rows g blank past) in omega (arith, none)
]

-- who has a lease has a row
row_near : (c : FileState) (g : ℕ) → 0 < (row c g).leases → g < length c.rows
row_near c g some = elim (cases_lt g (length c.rows)) [
  | inl near ↦ near
  | inr past ↦ let none : (row c g).leases ≡ 0 = ap leases_of (get_or_past c.rows g blank past) in absurd (omega (arith, none, some))
]

pub noted_under : (n z : ℕ) (o : Option ℕ) → 0 < n → noted_after n z o ≡ Some z
noted_under zero z o some = absurd (omega (arith, some))
noted_under (suc n) z o some = refl

module _ (f : ℕ) (d : Deed) (P : Core → Type 0) (v w : Knows) (t : DoesOn f d P v w) where
  core_near : f < length t.core.files
  core_near = t.allowed.allowed.known

  -- nothing is applied where the turn isn't had
  pub bare : (i : ℕ) → (part v i).turn ≡ false → (part v i).applied ≡ None
  bare i off = let is = part_is v t.core t.part i in
      ap (λ (m : Shown). m.applied) is ∙ ap (λ b. cond b (file t.core.files i).applied None) (sym (ap (λ (m : Shown). m.turn) is) ∙ off)

  -- no other turn is had, and no other bar
  pub one_turn : (part v f).turn ≡ true → (i : ℕ) → i ≢ f → (part v i).turn ≡ false
  one_turn has i ne = none_else (part v i).turn (λ too. ne (t.good.files_good.one_turn i f v.guest (turn_is v t.core t.part i too) (turn_is v t.core t.part f has)))

  pub one_bar : (part v f).bar ≡ true → (i : ℕ) → i ≢ f → (part v i).bar ≡ false
  one_bar has i ne = none_else (part v i).bar (λ too. ne (t.good.files_good.one_bar i f v.guest (bar_is v t.core t.part i too) (bar_is v t.core t.part f has)))

-- who takes a bar has no lease on the file
pub no_leases : (f : ℕ) (P : Core → Type 0) (v w : Knows) → DoesOn f set_bar P v w → (part v f).leases ≡ 0
no_leases f P v w t =
    let c = file t.core.files f in
    let mine_is : (part v f).leases ≡ (row c v.guest).leases = ap (λ (m : Shown). m.leases) (part_is v t.core t.part f) in
    let within = leases_within c v.guest in
    let none : leases c ≡ 0 = t.allowed.allowed.may.1 in
    omega (arith, mine_is, within, none)

-- a size that is looked at under a lease isn't below the noted end
module _ (f z : ℕ) (P : Core → Type 0) (v w : Knows) (t : DoesOn f note_size P v w) (near : f < length v.mine.files) (shown : IsShown f (noted_part z (part v f)) v w) (some : 0 < (part v f).leases) where
  noted_looked : (part w f).noted ≡ Some z
  noted_looked = ap (λ (x : Mine). (in_list x.files f).noted) shown ∙ (ap (λ (m : Shown). m.noted) (get_or-set_same v.mine.files f (noted_part z (part v f)) unseen near) ∙ noted_under (part v f).leases z (part v f).noted some)

  row_some : 0 < (row (file t.core.files f) v.guest).leases
  row_some = subst (λ n. 0 < n) (ap (λ (m : Shown). m.leases) (part_is v t.core t.part f)) some

  noted_core : (part w f).noted ≡ Some (file t.core.files f).size
  noted_core =
      let c : FileState = file t.core.files f in
      let g : ℕ = v.guest in
      let r : Row = noted c.size (reaches c g) (row c g) in
      ap (λ (x : Knows). (part x f).noted) t.is
      ∙ (ap (λ (m : Shown). m.noted) (get_map (shown_of g) (set t.core.files f (made c g note_size)) f no_file)
      ∙ (ap (λ (x : FileState). (row x g).noted) (get_or-set_same t.core.files f (made c g note_size) no_file t.allowed.allowed.known)
      ∙ (ap (λ (x : Row). x.noted) (row_here c g r (row_near c g row_some)) ∙ noted_under (row c g).leases c.size (row c g).noted row_some)))

  pub noted_rises : IfSome (part v f).noted (λ y. y ≤ z)
  noted_rises =
      let c : FileState = file t.core.files f in
      let good = t.good.files_good.files_ok f t.allowed.allowed.known in
      let small = subst (λ n. v.guest < n) good.rows_all (row_near c v.guest row_some) in
      let known : IfSome (row c v.guest).noted (λ y. (y ≤ c.size) × (0 < (row c v.guest).leases)) = (good.rows_ok v.guest small).noted in
      let same : z ≡ c.size = same_Some z c.size (sym noted_looked ∙ noted_core) in
      subst (λ (o : Option ℕ). IfSome o (λ y. y ≤ z)) (sym (ap (λ (m : Shown). m.noted) (part_is v t.core t.part f)))
      (IfSome_then (row c v.guest).noted known (λ y h. let low = h.0 in omega (arith, same, low)))
