-- What is known once passes are split and joined, and where every number is in.
use Rattle.std.proofs.Common.{◌≡◌, ◌≢◌, ℕ, zero, suc, ◌<◌, List, [], ◌∷◌, length, drop, get_or, true, Option, Some, None, refl, sym, ap, ◌∙◌, subst, ⊎_elim, arith}
use mathlib.Core.Logic.{dite}
use mathlib.Core.Option.{some, some-ne-none, some-injective}
use mathlib.Core.Option as maybe
use native.Mathlib.Decide.{ℕ_discrete}
use lib.ListN.{get_elem?, length-map}
use Rattle.std.proofs.lemmas.List.{take-append-drop}
use Rattle.atomic_table.specs.Table.{Allows, Final, Seen, step, keeps}
use Rattle.atomic_table.proofs.Lists.{at_map}
use Rattle.seats.specs.Views.{root, guests, AllIn}
use Rattle.seats.specs.Seats.{Shows, AllBack}
use Rattle.seats.proofs.Seating.{unmoved, all_back}
use Rattle.page_map.specs.declared.ranges.LogEntry.{LogEntry}
use Rattle.page_map.specs.Logs.{sound}
use Rattle.std.specs.Prelude.{IsTrue}
use Rattle.window_core.specs.Window.{Side, no_side, side, seen_by}
use Rattle.window_core.specs.Laws.{Begins}
use Rattle.window_core.specs.Shown.{Branch, branch, is_moving}
use Rattle.range_share.specs.Table.{Core, GoodCore, Knows, Marks, Mine, IsIdle, all_unseen, at_home, home, mine, branch_in, no_branch, nothing_of, window_kit}
use Rattle.range_share.specs.Steps.{Us, branch_of, compares, ranges_of}
use Rattle.range_share.proofs.LawsOfMoves.{in_map}
use Rattle.range_share.proofs.Laws.{not_its, window_laws}

at_side : {A : Type 0} (l : List A) (i : ℕ) (d : A) → i < length l → get_elem? l i ≡ some (get_or l i d)
at_side [] i d near = absurd (omega arith)
at_side (x ∷ xs) zero d near = refl
at_side (x ∷ xs) (suc i) d near = at_side xs i d (omega arith)

pub get_at : {A : Type 0} (l : List A) (i : ℕ) (a d : A) → get_elem? l i ≡ some a → get_or l i d ≡ a
get_at [] i a d e = absurd (some-ne-none a (sym e))
get_at (x ∷ xs) zero a d e = some-injective x a e
get_at (x ∷ xs) (suc i) a d e = get_at xs i a d e

pub in_range : {A : Type 0} (l : List A) (i : ℕ) (a : A) → get_elem? l i ≡ some a → i < length l
in_range [] i a e = absurd (some-ne-none a (sym e))
in_range (x ∷ xs) zero a e = omega arith
in_range (x ∷ xs) (suc i) a e = let h = in_range xs i a e in omega arith

branch_is : (c : Core) (g f : ℕ) → f < length c.window.sides → branch_in (mine g c).shown.branches f ≡ branch g (side c.window f)
branch_is c g f near = in_map (branch g) c.window.sides f no_side no_branch near

-- with every number in, nobody has a tree where the first guest has none
pub free_tree : (c : Core) (numbers : Marks) → GoodCore c → AllBack window_kit c numbers → IsIdle (mine root c) → (f : ℕ) → f < length c.window.sides → (side c.window f).holder ≡ None
free_tree c numbers good back_all idle f near = go (side c.window f).holder refl
  where
    off : (g : ℕ) → IsIdle (mine g c) → (side c.window f).holder ≢ Some g
    off g bare = not_its g (side c.window f).holder (sym (ap (λ (b : Branch). b.had) (branch_is c g f near)) ∙ bare.trees f)

    unseen_off : (g : ℕ) → mine g c ≡ all_unseen c → (side c.window f).holder ≢ Some g
    unseen_off g bare = not_its g (side c.window f).holder (sym (ap (λ (b : Branch). b.had) (branch_is c g f near)) ∙ (ap (λ (m : Mine). (branch_in m.shown.branches f).had) bare ∙ ap (λ (b : Branch). b.had) (in_map nothing_of c.window.sides f no_side no_branch near)))

    nobody_has : (g : ℕ) → g < guests → (side c.window f).holder ≢ Some g
    nobody_has g few = dite (ℕ_discrete g root)
        (λ is. subst (λ (n : ℕ). (side c.window f).holder ≢ Some n) (sym is) (off root idle))
        (λ ne. ⊎_elim (λ bare. unseen_off g bare) (λ b. off g b.0) (back_all.rest g few ne))

    go : (t : Option ℕ) → (side c.window f).holder ≡ t → (side c.window f).holder ≡ None
    go None is = is
    go (Some g) is = absurd (nobody_has g ((good.window_good.sides_ok f near).holder_small g is) is)

-- a load after a split or a join, which changes nothing
pub compares_all : (slots id i : ℕ) (me : Us) → me.0.live ≡ true → Allows (Shows window_kit) slots id me i (λ n. n) (compares (step slots i 0 0 maybe.none) me)
compares_all slots id i me live s r deep at small = let fits = r.views_fit id me.0 at live in (me.0, keeps, tt, unmoved window_kit window_laws s r i id me.1 me.0 at, (refl, fits.told, record { core = r.core; good = r.good; part = fits.part }))

-- With every number in, each tree is at home, and its log is sound and begins with what the first pass has seen.
pub ends : (words : List ℕ) (slots : List (Option (List LogEntry))) (id : ℕ) (v : Knows) → v.live ≡ true → IsIdle v.mine → AllIn v → Final (Seen (Shows window_kit) id v) words slots
    → (f : ℕ) → f < length slots → (log : List LogEntry) × (get_elem? slots f ≡ some (Some log)) × Begins (branch_of v f).seen log × IsTrue (sound (ranges_of v) log)
ends words slots id v live idle all_in z f l =
    let s = z.0 in
    let r = z.1.0 in
    let at = z.1.1 in
    let c : Core = r.core in
    let fits = r.views_fit id v at live in
    let part : v.mine ≡ mine root c = fits.part ∙ ap (λ n. mine n c) all_in.0 in
    let back_all = all_back window_kit window_laws s r id v at live all_in.0 all_in.1 in
    let long : length s.homes ≡ length slots = z.3 in
    let many : length c.window.sides ≡ length s.homes = sym (length-map c.window.sides home) ∙ ap length (sym r.homes_are) in
    let near : f < length c.window.sides = omega arith in
    let x : Side = side c.window f in
    let lies : get_elem? s.homes f ≡ some (some (Some x.log)) = ap (λ l. get_elem? l f) r.homes_are ∙ (at_map home c.window.sides f x (at_side c.window.sides f no_side near)
    ∙ ap (λ (o : Option ℕ). some (at_home o x.log)) (free_tree c v.numbers r.good back_all (subst IsIdle part idle) f near)) in (
      x.log,
      z.4 f (Some x.log) lies,
      subst (λ (h : List LogEntry). Begins h x.log) (sym (ap (λ (m : Mine). (branch_in m.shown.branches f).seen) part ∙ ap (λ (b : Branch). b.seen) (branch_is c root f near))) (drop (seen_by x root) x.log, take-append-drop (seen_by x root) x.log),
      subst (λ (n : ℕ). IsTrue (sound n x.log)) (sym (ap (λ (m : Mine). length m.shown.moving) part ∙ length-map c.window.states (is_moving root))) (r.good.window_good.sides_ok f near).log_sound,
    )
