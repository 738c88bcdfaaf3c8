-- The steps of leases and bars are deeds that are allowed.
use Rattle.std.proofs.Common.{◌≡◌, ◌≢◌, ◌⊎◌, ℕ, zero, suc, ◌+◌, ◌-◌, ◌*◌, ◌%◌, ◌^◌, ◌<◌, ◌≤◌, List, [], ◌∷◌, length, get_or, true, false, true≢false, eqb, None, refl, sym, ap, ◌∙◌, subst, ⊎_elim, inl, inr, arith, eq-eqb, ne_eqb}
use Rattle.std.specs.Prelude.{MatchBool, not, ◌||◌, ◌&&◌}
use mathlib.Core.Logic.{dite}
use mathlib.Core.Option.{none, some}
use native.Mathlib.Decide.{ℕ_discrete}
use lib.ListN.{get_elem?}
use prog.Atomic.{either}
use Rattle.std.specs.Int.Bits.{bit_and}
use Rattle.std.specs.List.{sum_by}
use Rattle.std.proofs.lemmas.Nat.{and_mask}
use Rattle.std.proofs.lemmas.List.Elements.{All-from_get_or}
use Rattle.std.proofs.lemmas.List.Sums.{sum_by-cons, sum_by-le}
use Rattle.atomic_table.specs.Table.{step, Allows, carried_after}
use Rattle.seats.specs.Views.{guests}
use Rattle.seats.specs.Seats.{Shows}
use Rattle.seats.proofs.Seating.{exchanged}
use Rattle.files_core.specs.Files.{Row, FileState, blank, row, file, leases, leases_of, leased, unleased, lease, unlease, set_bar, clear_bar, made, on, Barless}
use Rattle.files_core.specs.Good.{GoodFile}
use Rattle.files_core.proofs.Keeps.{leases_set, row_below}
use Rattle.file_share.specs.Table.{Core, GoodCore, MayDo, lease_word, Knows, mine, part, files_kit}
use Rattle.file_share.specs.Steps.{Us, DoesOn, Always, Counts, others_may, refused, tries_lease, drops_lease, tries_bar, drops_bar}
use Rattle.file_share.specs.Known.{NoBar}
use Rattle.file_share.proofs.Parts.{leases_are, leasers_is, bar_is, bar_not}
use Rattle.file_share.proofs.Laws.{files_laws}
use Rattle.file_share.proofs.Stepping.{St, for_file, no_number, near, small, part_of, rows_in, in_lease_word, file_event}

-- ---- how many leases there are

-- each guest has no more than 64
pub leases_few : (c : FileState) → GoodFile guests c → leases c ≤ 34 * 64
leases_few c good = let all = good.rows_all in let most = sum_by-le leases_of 64 c.rows (All-from_get_or (λ (x : Row). leases_of x ≤ 64) c.rows blank (λ i l. (good.rows_ok i (omega arith)).few)) in let same : length c.rows * 64 ≡ 34 * 64 = ap (λ (n : ℕ). n * 64) all in omega arith

none_leased : (rs : List Row) → ((i : ℕ) → leases_of (get_or rs i blank) ≡ 0) → sum_by leases_of rs ≡ 0
none_leased [] h = refl
none_leased (x ∷ xs) h = let a = sum_by-cons leases_of x xs in let b : leases_of x ≡ 0 = h 0 in let d = none_leased xs (λ i. h (suc i)) in omega arith

-- where no other has a lease, the own leases are all
one_leases : (rs : List Row) (g : ℕ) → ((i : ℕ) → i ≢ g → leases_of (get_or rs i blank) ≡ 0) → sum_by leases_of rs ≡ leases_of (get_or rs g blank)
one_leases [] g h = refl
one_leases (x ∷ xs) zero h = let a = sum_by-cons leases_of x xs in let d = none_leased xs (λ i. h (suc i) (λ e. omega arith)) in omega arith
one_leases (x ∷ xs) (suc g) h = let a = sum_by-cons leases_of x xs in let b : leases_of x ≡ 0 = h 0 (λ e. omega arith) in let d = one_leases xs g (λ i ne. h (suc i) (λ e. ne (omega arith))) in omega arith

no_others : (g leasers : ℕ) → others_may g leasers ≡ false → (leasers ≡ 0) ⊎ ((leasers ≡ 1) × (g ≡ 0))
no_others g zero e = inl refl
no_others zero (suc zero) e = inr (refl, refl)
no_others (suc g) (suc zero) e = absurd (true≢false (sym (ap not (ne_eqb (suc g) 0 (λ z. omega arith))) ∙ e))
no_others g (suc (suc n)) e = let a = ne_eqb (suc (suc n)) 0 (λ z. omega arith) in let b = ne_eqb (suc (suc n)) 1 (λ z. omega arith) in absurd (true≢false (sym (λ i. not (a i || (b i && eqb g 0))) ∙ e))

-- so it is where no other guest may lease
own_are_all : (c : Core) (g f : ℕ) → GoodCore c → others_may g c.leasers ≡ false → leases (file c.files f) ≡ (row (file c.files f) g).leases
own_are_all c g f good alone = one_leases (file c.files f).rows g (λ i ne. good.leasers_only f i (⊎_elim (λ (e : c.leasers ≡ 0). let z : c.leasers ≡ 0 = e in omega arith) (λ (e : (c.leasers ≡ 1) × (g ≡ 0)). let one : c.leasers ≡ 1 = e.0 in let own : g ≡ 0 = e.1 in let far : ¬ (i ≡ 0) = (λ z. ne (z ∙ sym own)) in omega arith) (no_others g c.leasers alone)))

-- ---- the lease word

pub one_less : (n m : ℕ) → n < 18446744073709551616 → n ≡ m + 1 → m ≡ (n + (2 ^ 64 - 1)) % 2 ^ 64
one_less n m small is = omega arith

-- a pass that is shown no bar has none
barless : (v : Knows) (c : Core) → v.mine ≡ mine v.guest c → NoBar v → Barless c.files v.guest
barless v c is unbarred f = bar_not v c is f (unbarred f)

-- what a compare and exchange tells where it found the word that it looked for
leased_then : (n old i : ℕ) (m m' : Us) → n ≡ old → DoesOn i lease Always m.0 m'.0 × (m'.1 ≡ m.1) → (n ≡ old → DoesOn i lease Always m.0 m'.0 × (m'.1 ≡ m.1)) × (n ≢ old → m' ≡ m)
leased_then n old i m m' hit d = ((λ _. d), λ ne. absurd (ne hit))

abbrev Barring : ℕ → ℕ → Us → Us → Type 0
Barring n i m m' = (n ≡ 0 → DoesOn i set_bar Always m.0 m'.0 × (m'.1 ≡ m.1)) × (0 < n % 65536 → Counts m.0 i (n % 65536) × (m' ≡ (refused m.0 i (n % 65536), m.1))) × (n ≢ 0 → n % 65536 ≡ 0 → m' ≡ m)

barred_then : (n i : ℕ) (m m' : Us) → n ≡ 0 → n % 65536 ≡ 0 → DoesOn i set_bar Always m.0 m'.0 × (m'.1 ≡ m.1) → Barring n i m m'
barred_then n i m m' hit empty d = ((λ _. d), (λ some. absurd (omega arith)), λ ne. absurd (ne hit))

-- what it tells where it found leases
refused_then : (n i : ℕ) (m m' : Us) → n ≢ 0 → n % 65536 ≢ 0 → Counts m.0 i (n % 65536) → m' ≡ (refused m.0 i (n % 65536), m.1) → Barring n i m m'
refused_then n i m m' miss seen counts is = ((λ z. absurd (miss z)), (λ some. (counts, is)), λ _ z. absurd (seen z))

module _ (slots id : ℕ) (me : Us) (f : ℕ) (live : me.0.live ≡ true) (inside : f < slots) where
  module _ (s : St) (r : Shows files_kit s) (deep : length s.homes ≡ slots) (at : get_elem? s.views id ≡ some me.0) where
    own_leases : (part me.0 f).leases ≡ (row (file r.core.files f) me.0.guest).leases
    own_leases = leases_are me.0 r.core (part_of slots id me f live inside s r deep at) f

    few_leases : leases (file r.core.files f) ≤ 34 * 64
    few_leases = leases_few (file r.core.files f) (r.good.files_good.files_ok f (near slots id me f live inside s r deep at))

    own_below : (row (file r.core.files f) me.0.guest).leases ≤ leases (file r.core.files f)
    own_below = row_below (file r.core.files f) me.0.guest (rows_in slots id me f live inside s r deep at)

    counted : Counts me.0 f (leases (file r.core.files f))
    counted = record {
      own = let a = own_leases in let b = own_below in omega arith;
      all = λ alone. own_are_all r.core me.0.guest f r.good (ap (others_may me.0.guest) (sym (leasers_is me.0 r.core (part_of slots id me f live inside s r deep at))) ∙ alone) ∙ sym own_leases;
    }

  pub takes_lease : (old : ℕ) → old < 65536 → me.0.guest < me.0.mine.leasers → (part me.0 f).leases < 64
      → Allows (Shows files_kit) slots id me (16 * f + 3) (λ n. either (eqb n old) (old + 1) n) (tries_lease (step slots (16 * f + 3) old (old + 1) none) me)
  takes_lease old lo may few s r deep at low =
      let c : FileState = file r.core.files f in
      let n : ℕ = get_or s.words (16 * f + 3) 0 in
      let near' = near slots id me f live inside s r deep at in
      let word : n ≡ lease_word c = (r.words.each f near').lease in
      let counts : leases (made c me.0.guest lease) + (row c me.0.guest).leases ≡ leases c + ((row c me.0.guest).leases + 1) = leases_set c me.0.guest (leased (row c me.0.guest)) (rows_in slots id me f live inside s r deep at) in
      let mine_is = own_leases s r deep at in
      let may_is : me.0.mine.leasers ≡ r.core.leasers = leasers_is me.0 r.core (part_of slots id me f live inside s r deep at) in
      exchanged files_kit files_laws s r (16 * f + 3) old (old + 1) id me at me.0.noted (tries_lease (step slots (16 * f + 3) old (old + 1) none) me)
      (λ hit. let bare : c.bar ≡ None = no_number c.bar (omega arith) in
      let ok : MayDo r.core me.0.guest (on f lease) = record { allowed = record { known = near'; may = (bare, omega arith); freely = tt }; leaser = omega arith } in
      let x = file_event slots id me f live inside s r deep at 3 (old + 1) lease ok Always tt (omega arith) (omega arith)
      (in_lease_word slots id me f live inside s r deep at (made c me.0.guest lease) (old + 1) refl refl (omega arith)) refl in
      (x.0, x.1, x.2, x.3, for_file (λ i. (n ≡ old → DoesOn i lease Always me.0 x.0 × (carried_after me.1 x.1 ≡ me.1)) × (n ≢ old → (x.0, carried_after me.1 x.1) ≡ me)) f 3 (leased_then n old f me (x.0, carried_after me.1 x.1) hit x.4)))
      (λ miss i e. ((λ z. absurd (miss z)), λ _. refl))

  pub gives_lease : 0 < (part me.0 f).leases → Allows (Shows files_kit) slots id me (16 * f + 3) (λ n. (n + (2 ^ 64 - 1)) % 2 ^ 64) (drops_lease (step slots (16 * f + 3) 1 0 none) me)
  gives_lease had s r deep at low =
      let c : FileState = file r.core.files f in
      let n : ℕ = get_or s.words (16 * f + 3) 0 in
      let near' = near slots id me f live inside s r deep at in
      let word : n ≡ lease_word c = (r.words.each f near').lease in
      let c' : FileState = made c me.0.guest unlease in
      let counts : leases c' + (row c me.0.guest).leases ≡ leases c + ((row c me.0.guest).leases - 1) = leases_set c me.0.guest (unleased (row c me.0.guest)) (rows_in slots id me f live inside s r deep at) in
      let under = own_below s r deep at in
      let mine_is = own_leases s r deep at in
      let has : 0 < (row c me.0.guest).leases = omega arith in
      let now : lease_word c' ≡ (n + (2 ^ 64 - 1)) % 2 ^ 64 = one_less n (lease_word c') low (omega arith) in
      let ok : MayDo r.core me.0.guest (on f unlease) = record { allowed = record { known = near'; may = has; freely = tt }; leaser = tt } in
      let x = file_event slots id me f live inside s r deep at 3 ((n + (2 ^ 64 - 1)) % 2 ^ 64) unlease ok Always tt (omega arith) (omega arith)
      (in_lease_word slots id me f live inside s r deep at c' ((n + (2 ^ 64 - 1)) % 2 ^ 64) refl refl now) refl in
      (x.0, x.1, x.2, x.3, for_file (λ i. DoesOn i unlease Always me.0 x.0 × (carried_after me.1 x.1 ≡ me.1)) f 3 x.4)

  pub takes_bar : (g : ℕ) → g ≡ me.0.guest → NoBar me.0 → Allows (Shows files_kit) slots id me (16 * f + 3) (λ n. either (eqb n 0) ((g + 1) * 65536) n) (tries_bar (step slots (16 * f + 3) 0 ((g + 1) * 65536) none) me)
  takes_bar g is unbarred s r deep at low =
      let c : FileState = file r.core.files f in
      let n : ℕ = get_or s.words (16 * f + 3) 0 in
      let near' = near slots id me f live inside s r deep at in
      let word : n ≡ lease_word c = (r.words.each f near').lease in
      let few = few_leases s r deep at in
      let count : leases c ≡ n % 65536 = omega arith in
      dite (ℕ_discrete (n % 65536) 0)
      (λ none_left. exchanged files_kit files_laws s r (16 * f + 3) 0 ((g + 1) * 65536) id me at me.0.noted (tries_bar (step slots (16 * f + 3) 0 ((g + 1) * 65536) none) me)
      (λ hit. let bare : c.bar ≡ None = no_number c.bar (omega arith) in
      let ok : MayDo r.core me.0.guest (on f set_bar) = record { allowed = record { known = near'; may = (bare, count ∙ none_left); freely = barless me.0 r.core (part_of slots id me f live inside s r deep at) unbarred }; leaser = tt } in
      let x = file_event slots id me f live inside s r deep at 3 ((g + 1) * 65536) set_bar ok Always tt (omega arith) (omega arith)
      (in_lease_word slots id me f live inside s r deep at (made c me.0.guest set_bar) ((g + 1) * 65536) refl refl (omega arith)) refl in (
        x.0,
        x.1,
        x.2,
        x.3,
        for_file (λ i. Barring n i me (x.0, carried_after me.1 x.1)) f 3
            (barred_then n f me (x.0, carried_after me.1 x.1) hit none_left x.4),
      ))
      (λ miss i e. ((λ z. absurd (miss z)), (λ some. absurd (omega arith)), λ _ _. refl)))
      (λ leased_now. exchanged files_kit files_laws s r (16 * f + 3) 0 ((g + 1) * 65536) id me at (refused me.0 f (n % 65536)).noted (tries_bar (step slots (16 * f + 3) 0 ((g + 1) * 65536) none) me)
      (λ hit. absurd (leased_now (omega arith)))
      (λ miss. for_file (λ i. Barring n i me (refused me.0 f (n % 65536), me.1)) f 3
      (refused_then n f me (refused me.0 f (n % 65536), me.1) miss leased_now (subst (Counts me.0 f) count (counted s r deep at)) refl)))

  pub gives_bar : (part me.0 f).bar ≡ true → Allows (Shows files_kit) slots id me (16 * f + 3) (λ n. bit_and n 65535) (drops_bar (step slots (16 * f + 3) 65535 0 none) me)
  gives_bar had s r deep at low =
      let c : FileState = file r.core.files f in
      let n : ℕ = get_or s.words (16 * f + 3) 0 in
      let near' = near slots id me f live inside s r deep at in
      let word : n ≡ lease_word c = (r.words.each f near').lease in
      let few = few_leases s r deep at in
      let count : leases c ≡ n % 65536 = omega arith in
      let now : bit_and n 65535 ≡ n % 65536 = and_mask n 16 in
      let ok : MayDo r.core me.0.guest (on f clear_bar) = record { allowed = record { known = near'; may = bar_is me.0 r.core (part_of slots id me f live inside s r deep at) f had; freely = tt }; leaser = tt } in
      let x = file_event slots id me f live inside s r deep at 3 (bit_and n 65535) clear_bar ok Always tt (omega arith) (omega arith)
      (in_lease_word slots id me f live inside s r deep at (made c me.0.guest clear_bar) (bit_and n 65535) refl refl (omega arith)) refl in
      (x.0, x.1, x.2, x.3, for_file (λ i. DoesOn i clear_bar Always me.0 x.0 × (carried_after me.1 x.1 ≡ me.1)) f 3 x.4)

-- a choice by whether two numbers are one
pub by_test : (a b : ℕ) (P Q : Type 0) → (a ≡ b → P) → (a ≢ b → Q) → MatchBool (eqb a b) P Q
by_test a b P Q hit miss = dite (ℕ_discrete a b) (λ e. rw (eq-eqb a b e) (hit e)) (λ ne. rw (ne_eqb a b ne) (miss ne))
