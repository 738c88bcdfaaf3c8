-- What is known once passes are joined, and where every number is in.
use Rattle.std.proofs.Common.{◌≡◌, ◌≢◌, ℕ, zero, suc, ◌<◌, List, [], ◌∷◌, length, take, slice_get, true, false, Option, Some, None, refl, sym, ap, ◌∙◌, subst, ⊎_elim, arith, lt_of_not-le}
use mathlib.Core.Logic.{dite}
use mathlib.Core.Option.{some}
use mathlib.Core.Option as maybe
use native.Mathlib.Decide.{ℕ_discrete, dec_le}
use lib.ListN.{get_elem?, length-map}
use Rattle.atomic_table.specs.Table.{State, Allows, Final, Seen, step, keeps}
use Rattle.atomic_table.proofs.Lists.{at_map}
use Rattle.seats.specs.Views.{unused, out, root, guests, AllIn}
use Rattle.seats.specs.Seats.{Shows, AllBack}
use Rattle.seats.proofs.Seating.{unmoved, all_back}
use Rattle.plain_file.specs.declared.operations.Entry.{Entry}
use Rattle.plain_file.specs.History.{Past}
use Rattle.files_core.specs.Files.{FileState, row, no_file, file}
use Rattle.files_core.specs.Shown.{Shown, shown_of}
use Rattle.files_core.proofs.Places.{beyond}
use Rattle.file_share.specs.Table.{Core, GoodCore, Knows, Marks, Mine, Behind, Turnless, all_unseen, at_home, files_kit, home, in_list, merged_files, mine, part, past_of}
use Rattle.file_share.specs.Steps.{Us, Accounted, Never, NoTurn, compares}
use Rattle.file_share.specs.Known.{past_seen}
use Rattle.file_share.proofs.Places.{get_map, in_range, at_file}
use Rattle.file_share.proofs.Parts.{is_not, part_is, first_is}
use Rattle.file_share.proofs.LawsOfMoves.{nothing_at, take_begins, begun_at}
use Rattle.file_share.proofs.Laws.{files_laws}
use Rattle.file_share.proofs.Accounts.{never_of, accounted}

abbrev St : Type 0
St = State (Option Past) Knows

-- with every number in, nobody has a turn where the first guest has none
pub free_turn : (c : Core) (numbers : Marks) → GoodCore c → AllBack files_kit c numbers → Turnless (mine root c) → (f : ℕ) → f < length c.files → (file c.files f).turn ≡ None
free_turn c numbers good back_all idle f near = go (file c.files f).turn refl
  where
    off : (g : ℕ) → Turnless (mine g c) → (file c.files f).turn ≢ Some g
    off g bare = is_not g (file c.files f).turn (sym (ap (λ (m : Shown). m.turn) (get_map (shown_of g) c.files f no_file)) ∙ bare f)

    not_its : (g : ℕ) → g < guests → (file c.files f).turn ≢ Some g
    not_its g few = dite (ℕ_discrete g root)
        (λ is. subst (λ (n : ℕ). (file c.files f).turn ≢ Some n) (sym is) (off root idle))
        (λ ne. ⊎_elim
        (λ (bare : mine g c ≡ all_unseen c). is_not g (file c.files f).turn (ap (λ (m : Shown). m.turn) (nothing_at c g bare f)))
        (λ (h : Turnless (mine g c) × Behind g c). off g h.0)
        (back_all.rest g few ne))

    go : (t : Option ℕ) → (file c.files f).turn ≡ t → (file c.files f).turn ≡ None
    go None is = is
    go (Some g) is = absurd (not_its g ((good.files_good.files_ok f near).turn_small g is) is)

module _ (s : St) (r : Shows files_kit s) (id : ℕ) (v : Knows) (at : get_elem? s.views id ≡ some v) (live : v.live ≡ true) (first : v.guest ≡ root) where
  its_numbers : v.numbers ≡ r.numbers
  its_numbers = (r.views_fit id v at live).first first

  numbers_all : length v.numbers ≡ guests
  numbers_all = ap (λ (l : Marks). length l) its_numbers ∙ r.roster.all

  shows_it : v.mine ≡ mine v.guest r.core
  shows_it = (r.views_fit id v at live).part

  shows_root : v.mine ≡ mine root r.core
  shows_root = shows_it ∙ ap (λ n. mine n r.core) first

  -- no entry that the first pass has seen is of a number that nobody had
  pub never_seen : (f : ℕ) → Never v.numbers (part v f).seen
  never_seen f n is k e a whose = let c : FileState = file r.core.files f in
      let a' : slice_get (take (row c v.guest).seen c.history) k ≡ Some e = subst (λ (m : Shown). slice_get m.seen k ≡ Some e) (part_is v r.core shows_it f) a in dite (dec_le (length r.core.files) f)
      (λ far. absurd (nothing k e (subst (λ (y : FileState). slice_get (take (row y v.guest).seen y.history) k ≡ Some e) (beyond r.core.files f no_file far) a')))
      (λ ne. never_of r.core n f (let l = in_range v.numbers n unused is in let all = numbers_all in omega arith) r.good
      (r.roster.unused_is n (ap (λ (l : Marks). get_elem? l n) (sym its_numbers) ∙ is)).0 (lt_of_not-le ne) k e
      (begun_at (take (row c v.guest).seen c.history) c.history (take_begins (row c v.guest).seen c.history) k e a') whose)
    where
      nothing : (k : ℕ) (e : Entry) → slice_get [] k ≡ Some e → ⊥
      nothing k e at = cc

  module _ (idle : NoTurn v) (all_in : (n : ℕ) → get_elem? v.numbers n ≢ some out) where
    all_in_back : AllBack files_kit r.core v.numbers
    all_in_back = all_back files_kit files_laws s r id v at live first all_in

    turn_free : (f : ℕ) → f < length r.core.files → (file r.core.files f).turn ≡ None
    turn_free = free_turn r.core v.numbers r.good all_in_back (subst Turnless shows_root idle)

    past_is : (f : ℕ) → f < length r.core.files → past_of (file r.core.files f) ≡ past_seen v f
    past_is f near = let e = (accounted r.core v.numbers numbers_all r.good all_in_back f near (turn_free f near)).0 ∙ sym (ap (λ (m : Mine). (in_list m.files f).seen) shows_root) in
        let b = sym (first_is v r.core shows_it f) in λ i. record { first = b i; history = e i }

    pub accounts : (f : ℕ) → f < length r.core.files → Accounted v.numbers f (past_seen v f)
    accounts f near = subst (Accounted v.numbers f) (past_is f near) (accounted r.core v.numbers numbers_all r.good all_in_back f near (turn_free f near)).1

    -- the contents are at home
    pub lies : (f : ℕ) → f < length r.core.files → get_elem? s.homes f ≡ some (some (Some (past_seen v f)))
    lies f near = ap (λ l. get_elem? l f) r.homes_are ∙ (at_map home r.core.files f (file r.core.files f) (at_file r.core.files f near)
        ∙ ap some (λ i. at_home (turn_free f near i) (past_is f near i)))

-- no turn is had after a join, where none was
pub merged_idle : (ms ns : List Shown) → ((f : ℕ) → (in_list ms f).turn ≡ false) → (f : ℕ) → (in_list (merged_files ms ns) f).turn ≡ false
merged_idle [] ns idle f = refl
merged_idle (m ∷ ms) [] idle f = idle f
merged_idle (m ∷ ms) (n ∷ ns) idle zero = idle 0
merged_idle (m ∷ ms) (n ∷ ns) idle (suc f) = merged_idle ms ns (λ i. idle (suc i)) f

-- a load after a join, which changes nothing
pub compares_all : (slots id i : ℕ) (me : Us) → me.0.live ≡ true → me.0.guest ≡ root → NoTurn me.0 → Allows (Shows files_kit) slots id me i (λ n. n) (compares (step slots i 0 0 maybe.none) me)
compares_all slots id i me live first idle s r deep at small = (
  me.0,
  keeps,
  tt,
  unmoved files_kit files_laws s r i id me.1 me.0 at,
  record {
    same = refl;
    told = (r.views_fit id me.0 at live).told;
    never = never_seen s r id me.0 at live first;
    account = λ all_in f near. accounts s r id me.0 at live first idle all_in.1 f (let e = ap (λ (m : Mine). length m.files) (r.views_fit id me.0 at live).part ∙ length-map r.core.files (shown_of me.0.guest) in omega arith);
  },
)

-- With every number in, each file's contents are those that the first pass has seen, and of each entry it is known whose it is.
pub ends : (words : List ℕ) (slots : List (Option Past)) (id : ℕ) (v : Knows) → v.live ≡ true → NoTurn v → AllIn v → Final (Seen (Shows files_kit) id v) words slots
    → (f : ℕ) → f < length slots → (get_elem? slots f ≡ some (Some (past_seen v f))) × Accounted v.numbers f (past_seen v f)
ends words slots id v live idle all_in z f l =
    let s = z.0 in
    let r = z.1.0 in
    let at = z.1.1 in
    let long : length s.homes ≡ length slots = z.3 in
    let many : length r.core.files ≡ length s.homes = sym (length-map r.core.files home) ∙ ap length (sym r.homes_are) in
    let near : f < length r.core.files = omega arith in (
      z.4 f (Some (past_seen v f)) (lies s r id v at live all_in.0 idle all_in.1 f near),
      accounts s r id v at live all_in.0 idle all_in.1 f near,
    )
