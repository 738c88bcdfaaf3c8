-- A table that shows a core: each word, each value at home and each view is a function of it. What the core is, its kit says.
use Rattle.std.specs.Prelude.{◌≡◌, ◌≢◌, ◌⊎◌, ℕ, ◌<◌, List, [], ◌∷◌, length, true, eqb, cond, None, IfSome}
use mathlib.Core.Option.{some}
use mathlib.Core.Option as maybe
use lib.ListN.{get_elem?}
use Rattle.atomic_table.specs.Table.{State, Step, Me}
use Rattle.seats.specs.Views.{Given, View, unused, opened, out, back, root, guests}

-- what a core is, and what a table shows of it
pub record Kit : Type 1 where
  pub Core : Type 0
  -- what a guest is shown of the core, what its steps note besides, what lies in a slot, and what a guest does
  pub Mine : Type 0
  pub Noted : Type 0
  pub Body : Type 0
  pub Deed : Type 0
  pub Good : Core → Type 0
  pub Allowed : Core → ℕ → Deed → Type 0
  pub after : Core → ℕ → Deed → Core
  pub IsStart : Core → Type 0
  pub mine : ℕ → Core → Mine
  pub Words : List ℕ → Core → Type 0
  pub homes : Core → List (maybe.Option Body)
  -- what a guest is shown that never came, and what who did nothing has noted
  pub unseen : Core → Mine
  pub blank : Noted
  -- a new pass has seen what the first had; the first has seen what another had, if that is more
  pub introduced : ℕ → Core → Core
  pub informed : ℕ → Core → Core
  -- what a new pass is shown where the first was shown this, and the first where another was shown that
  pub just_seen : Mine → Mine
  pub merged : Mine → Mine → Mine
  -- the guest has nothing in hand that it must give back
  pub Idle : Mine → Type 0
  -- what was seen at first begins what is seen at last; of this guest, in which nothing more is its own
  pub Begun : Mine → Mine → Type 0
  pub Grown : ℕ → Mine → Mine → Type 0
  -- what the guest has seen, the first has
  pub Behind : ℕ → Core → Type 0

-- a guest's deed, or a pass was split off, or joined
pub data Move (E : Type 0) : Type 0 where
  acts : ℕ → E → Move E
  introduces : ℕ → Move E
  informs : ℕ → Move E

module _ (K : Kit) where
  abbrev pub Marks : Type 0
  Marks = List (Given K.Mine K.Noted)

  abbrev pub Pass : Type 0
  Pass = View K.Mine K.Noted K.Deed

  -- ---- what led here

  abbrev pub Steps : Move K.Deed → K.Core → K.Core → Type 0
  Steps (acts g d) c c' = K.Allowed c g d × (c' ≡ K.after c g d)
  Steps (introduces n) c c' = c' ≡ K.introduced n c
  Steps (informs n) c c' = c' ≡ K.informed n c

  -- the moves, the newest first, lead from this core to that
  abbrev pub Runs : K.Core → List (Move K.Deed) → K.Core → Type 0
  Runs c [] c' = c ≡ c'
  Runs c (m ∷ ms) c' = (between : K.Core) × Runs c ms between × Steps m between c'

  -- the deeds of one guest
  abbrev pub did_of : ℕ → List (Move K.Deed) → List K.Deed
  did_of g [] = []
  did_of g (acts g' d ∷ ms) = cond (eqb g' g) (d ∷ did_of g ms) (did_of g ms)
  did_of g (introduces n ∷ ms) = did_of g ms
  did_of g (informs n ∷ ms) = did_of g ms

  -- ---- what is visible

  -- right after a join: what each of the two had seen begins what is seen now, and nothing more is the first's own
  abbrev pub Told : Pass → Type 0
  Told v = IfSome v.before (λ m. K.Grown v.guest m v.mine) × IfSome v.beside (λ m. K.Begun m v.mine)

  -- what one live pass knows, where this is the core, and these are the seats of the guests and the numbers
  pub record Fits (trace : List (Move K.Deed)) (core : K.Core) (owner : ℕ → ℕ) (numbers : Marks) (j : ℕ) (v : Pass) : Type 0 where
    pub small : v.guest < guests
    -- each number has one seat
    pub owned : owner v.guest ≡ j
    pub part : v.mine ≡ K.mine v.guest core
    pub did_is : v.did ≡ did_of v.guest trace
    pub given : v.guest ≢ root → get_elem? numbers v.guest ≡ some out
    pub first : v.guest ≡ root → v.numbers ≡ numbers
    pub numberless : v.guest ≢ root → v.numbers ≡ []
    pub told : Told v

  -- The numbers: the first pass has its own. Of a number that nobody had the core shows nothing; of one whose pass was
  -- joined it shows what that pass knew, which is at rest, and the first has seen as much.
  pub record Roster (trace : List (Move K.Deed)) (core : K.Core) (numbers : Marks) : Type 0 where
    pub all : length numbers ≡ guests
    pub root_is : get_elem? numbers root ≡ some opened
    pub one_root : (n : ℕ) → get_elem? numbers n ≡ some opened → n ≡ root
    pub unused_is : (n : ℕ) → get_elem? numbers n ≡ some unused → (K.mine n core ≡ K.unseen core) × (did_of n trace ≡ [])
    pub back_is : (n : ℕ) (m : K.Mine) (x : K.Noted) → get_elem? numbers n ≡ some (back m x) → (m ≡ K.mine n core) × K.Idle m × K.Behind n core

  -- the rule
  pub record Shows (s : State K.Body Pass) : Type 0 where
    pub core : K.Core
    pub good : K.Good core
    pub start : K.Core
    pub started : K.IsStart start
    pub trace : List (Move K.Deed)
    pub runs : Runs start trace core
    pub words : K.Words s.words core
    pub homes_are : s.homes ≡ K.homes core
    pub owner : ℕ → ℕ
    pub numbers : Marks
    pub views_fit : (j : ℕ) (v : Pass) → get_elem? s.views j ≡ some v → v.live ≡ true → Fits trace core owner numbers j v
    pub roster : Roster trace core numbers

  -- ---- what a step tells

  -- what a pass knows once its deed has made this of the core, and it has noted that
  abbrev pub seeing : Pass → K.Deed → K.Core → K.Noted → Pass
  seeing v d c x = record v { mine = K.mine v.guest c; noted = x; before = None; beside = None; did = d ∷ v.did }

  -- The step was this deed of the pass's guest: it was allowed in a good core that the pass was shown, and the pass is shown
  -- the core after it. P tells more of the core before.
  pub record Does (d : K.Deed) (x : K.Noted) (P : K.Core → Type 0) (v w : Pass) : Type 0 where
    pub core : K.Core
    pub good : K.Good core
    pub part : v.mine ≡ K.mine v.guest core
    pub allowed : K.Allowed core v.guest d
    pub is : w ≡ seeing v d (K.after core v.guest d) x
    pub tells : P core

  -- a load after a join, which changes nothing: what each of the two had seen begins what is seen now
  abbrev pub compared : Step K.Body → Me K.Body Pass → ℕ → Me K.Body Pass → Type 0
  compared st m found m' = (m' ≡ m) × Told m.0

  -- with every number in but the first's: what each was left with
  pub record AllBack (c : K.Core) (numbers : Marks) : Type 0 where
    pub rest : (n : ℕ) → n < guests → n ≢ root → (K.mine n c ≡ K.unseen c) ⊎ (K.Idle (K.mine n c) × K.Behind n c)
    pub back_is : (n : ℕ) (m : K.Mine) (x : K.Noted) → get_elem? numbers n ≡ some (back m x) → (m ≡ K.mine n c) × K.Behind n c
    pub unused_is : (n : ℕ) → get_elem? numbers n ≡ some unused → K.mine n c ≡ K.unseen c

  -- what a core, its deeds and the moves of passes must meet
  pub record Laws : Type 0 where
    -- a deed that is allowed keeps the core good, and shows the other guests the same
    pub keeps : (c : K.Core) (g : ℕ) (d : K.Deed) → g < guests → K.Good c → K.Allowed c g d → K.Good (K.after c g d)
    pub others : (c : K.Core) (g n : ℕ) (d : K.Deed) → n ≢ g → g < guests → n < guests → K.Good c → K.Allowed c g d → K.mine n (K.after c g d) ≡ K.mine n c
    pub unseen_after : (c : K.Core) (g : ℕ) (d : K.Deed) → K.unseen (K.after c g d) ≡ K.unseen c
    pub behind_after : (c : K.Core) (g n : ℕ) (d : K.Deed) → n ≢ g → g < guests → K.Good c → K.Allowed c g d → K.Behind n c → K.Behind n (K.after c g d)
    -- a new pass
    pub new_good : (c : K.Core) (n : ℕ) → n < guests → n ≢ root → K.Good c → K.mine n c ≡ K.unseen c → K.Good (K.introduced n c)
    pub new_words : (ws : List ℕ) (c : K.Core) (n : ℕ) → n < guests → n ≢ root → K.Good c → K.mine n c ≡ K.unseen c → K.Words ws c → K.Words ws (K.introduced n c)
    pub new_homes : (c : K.Core) (n : ℕ) → K.homes (K.introduced n c) ≡ K.homes c
    pub new_others : (c : K.Core) (n m : ℕ) → m ≢ n → K.mine m (K.introduced n c) ≡ K.mine m c
    pub new_mine : (c : K.Core) (n : ℕ) → n < guests → n ≢ root → K.Good c → K.mine n c ≡ K.unseen c → K.mine n (K.introduced n c) ≡ K.just_seen (K.mine root c)
    pub new_unseen : (c : K.Core) (n : ℕ) → K.unseen (K.introduced n c) ≡ K.unseen c
    pub new_behind : (c : K.Core) (n m : ℕ) → m ≢ n → n ≢ root → K.Behind m c → K.Behind m (K.introduced n c)
    -- a pass that is joined
    pub told_good : (c : K.Core) (n : ℕ) → n < guests → n ≢ root → K.Good c → K.Idle (K.mine root c) → K.Idle (K.mine n c) → K.Good (K.informed n c)
    pub told_words : (ws : List ℕ) (c : K.Core) (n : ℕ) → K.Good c → K.Words ws c → K.Words ws (K.informed n c)
    pub told_homes : (c : K.Core) (n : ℕ) → K.homes (K.informed n c) ≡ K.homes c
    pub told_others : (c : K.Core) (n m : ℕ) → m ≢ root → K.mine m (K.informed n c) ≡ K.mine m c
    pub told_mine : (c : K.Core) (n : ℕ) → n < guests → K.Good c → K.mine root (K.informed n c) ≡ K.merged (K.mine root c) (K.mine n c)
    pub told_unseen : (c : K.Core) (n : ℕ) → K.unseen (K.informed n c) ≡ K.unseen c
    pub told_behind : (c : K.Core) (n m : ℕ) → m ≢ root → K.Good c → K.Behind m c → K.Behind m (K.informed n c)
    pub told_new : (c : K.Core) (n : ℕ) → n ≢ root → K.Good c → K.Behind n (K.informed n c)
    pub told_begun : (c : K.Core) (n : ℕ) → n < guests → K.Good c → K.Grown root (K.mine root c) (K.merged (K.mine root c) (K.mine n c)) × K.Begun (K.mine n c) (K.merged (K.mine root c) (K.mine n c))
