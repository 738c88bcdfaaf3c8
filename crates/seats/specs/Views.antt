-- What a pass knows, and what becomes of guests' numbers.
use Rattle.std.specs.Prelude.{◌≡◌, ℕ, List, [], replicate, slice_set, Bool, true, false, Option, None, Some}
use mathlib.Core.Option.{some}
use lib.ListN.{get_elem?}

-- the number of the pass that a table is opened with, and how many numbers there are
abbrev pub root : ℕ
root = 32

abbrev pub guests : ℕ
guests = 34

-- what has become of a guest's number: nobody had it yet, the first pass has it, another pass has it, or its pass was
-- joined, was shown this and had noted that
pub data Given (M X : Type 0) : Type 0 where
  unused : Given M X
  opened : Given M X
  out : Given M X
  back : M → X → Given M X

-- What a pass knows: its guest's number, what it is shown of the core (M), what its steps noted besides (X), what two
-- passes were shown before they were joined (right after that), its own deeds (E, the newest first), and, where it is the
-- first pass, what has become of each number.
pub record View (M X E : Type 0) : Type 0 where
  pub live : Bool
  pub guest : ℕ
  pub mine : M
  pub noted : X
  pub before : Option M
  pub beside : Option M
  pub did : List E
  pub numbers : List (Given M X)

module _ {M X E : Type 0} where
  -- the first pass, once it gave a number out
  abbrev pub parent : View M X E → ℕ → View M X E
  parent v n = record v { before = None; beside = None; numbers = slice_set v.numbers n out }

  -- the new pass, which has seen what the first had, and has done nothing
  abbrev pub child : (M → M) → X → View M X E → ℕ → View M X E
  child just_seen blank v n = record { live = true; guest = n; mine = just_seen v.mine; noted = blank; before = None; beside = None; did = []; numbers = [] }

  -- the first pass, once it took another in: it is shown what either had seen, and keeps what the other knew by its number
  abbrev pub joined : (M → M → M) → View M X E → View M X E → View M X E
  joined merged v w = record v { mine = merged v.mine w.mine; before = Some v.mine; beside = Some w.mine; numbers = slice_set v.numbers w.guest (back w.mine w.noted) }

  -- a pass that was joined to another
  abbrev pub nobody : M → X → View M X E
  nobody m x = record { live = false; guest = 0; mine = m; noted = x; before = None; beside = None; did = []; numbers = [] }

  -- the first pass of a table
  abbrev pub opener : M → X → View M X E
  opener m x = record { live = true; guest = root; mine = m; noted = x; before = None; beside = None; did = []; numbers = slice_set (replicate guests unused) root opened }

  -- the first pass may give this number
  abbrev pub MayGive : View M X E → ℕ → Type 0
  MayGive v n = (v.guest ≡ root) × (get_elem? v.numbers n ≡ some unused)

  -- it gave this number, whose pass wasn't joined yet
  abbrev pub IsOut : View M X E → ℕ → Type 0
  IsOut v n = (v.guest ≡ root) × (get_elem? v.numbers n ≡ some out)

  -- the first pass, with every number in
  abbrev pub AllIn : View M X E → Type 0
  AllIn v = (v.guest ≡ root) × ((n : ℕ) → get_elem? v.numbers n ≡ some out → ⊥)
