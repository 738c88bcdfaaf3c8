-- The files' half of the core: its state, what a guest may do to it, and what that makes of it.
use Rattle.std.specs.Prelude.{◌≡◌, ◌≢◌, ℕ, zero, suc, ◌+◌, ◌-◌, ◌<◌, ◌≤◌, max, List, [], ◌∷◌, ◌++◌, map, length, replicate, slice_set, slice_index_or, Option, Some, None, Bool, false, ◌==◌, if◌then◌else◌, MatchBool, ⊤}
use Rattle.std.specs.List.{sum_by}
use Rattle.plain_file.specs.declared.operations.Op.{Op}
use Rattle.plain_file.specs.declared.operations.Op.TheVariants as ops
use Rattle.plain_file.specs.declared.operations.Entry.{Entry}
use Rattle.plain_file.specs.declared.operations.First.{First}
use Rattle.plain_file.specs.File.{max_file, reach}
use Rattle.files_core.specs.declared.rows.Note.{Note}

-- ---- the state

-- one guest's part of one file: how much of the history it has seen, its leases, the size that it noted under a lease,
-- and all sizes that it noted
pub record Row : Type 0 where
  pub seen : ℕ
  pub leases : ℕ
  pub noted : Option ℕ
  pub notes : List Note

-- one file: what it began with, who has its turn, the entry that was applied in this turn, its history, its size, who
-- has its bar, and the guests' parts
pub record FileState : Type 0 where
  pub first : First
  pub turn : Option ℕ
  pub applied : Option Entry
  pub history : List Entry
  pub size : ℕ
  pub bar : Option ℕ
  pub rows : List Row

abbrev pub blank : Row
blank = record { seen = 0; leases = 0; noted = None; notes = [] }

abbrev pub row : FileState → ℕ → Row
row c g = slice_index_or c.rows g blank

abbrev pub leases_of : Row → ℕ
leases_of r = r.leases

-- all guests' leases on the file
abbrev pub leases : FileState → ℕ
leases c = sum_by leases_of c.rows

-- a history with the entry that is applied
abbrev pub with_entry : List Entry → Option Entry → List Entry
with_entry h None = h
with_entry h (Some e) = h ++ e ∷ []

abbrev pub whole : FileState → List Entry
whole c = with_entry c.history c.applied

-- a file that no list has
abbrev pub no_file : FileState
no_file = record { first = record { size = 0; fill = 0 }; turn = None; applied = None; history = []; size = 0; bar = None; rows = [] }

abbrev pub file : List FileState → ℕ → FileState
file cs f = slice_index_or cs f no_file

-- ---- what a guest does to one file

pub data Deed : Type 0 where
  take_turn : Deed
  set_size : Entry → Deed
  give_turn : Deed
  lease : Deed
  note_size : Deed
  unlease : Deed
  set_bar : Deed
  clear_bar : Deed

abbrev pub written_size : ℕ → ℕ → ℕ → ℕ
written_size n off zero = n
written_size n off (suc k) = max n (off + suc k)

-- the size that an operation makes of a size
unfoldable pub sized : ℕ → Op → ℕ
sized n (ops.Read off len) = n
sized n (ops.Write off bytes) = written_size n off (length bytes)
sized n (ops.Truncate size) = size
sized n ops.Size = n

-- The guest has the turn and applied nothing in it, the entry is its own and no longer than a file may be, and the size
-- doesn't fall unless the guest has the bar.
pub record MaySet (c : FileState) (g : ℕ) (e : Entry) : Type 0 where
  pub turn : c.turn ≡ Some g
  pub free : c.applied ≡ None
  pub own : e.guest ≡ g
  pub fits : reach e.op ≤ max_file
  pub barred : sized c.size e.op < c.size → c.bar ≡ Some g

-- what is allowed by the file alone
abbrev pub May : FileState → ℕ → Deed → Type 0
May c g take_turn = c.turn ≡ None
May c g (set_size e) = MaySet c g e
May c g give_turn = c.turn ≡ Some g
May c g lease = (c.bar ≡ None) × ((row c g).leases < 64)
May c g note_size = ⊤
May c g unlease = 0 < (row c g).leases
May c g set_bar = (c.bar ≡ None) × (leases c ≡ 0)
May c g clear_bar = c.bar ≡ Some g

abbrev pub with_row : FileState → ℕ → Row → FileState
with_row c g r = record c { rows = slice_set c.rows g r }

-- a note without an upper end gets this one
abbrev pub upper_or : ℕ → Option ℕ → Option ℕ
upper_or n None = Some n
upper_or n (Some m) = Some m

abbrev pub ended_at : ℕ → Note → Note
ended_at n m = record m { upper = upper_or n m.upper }

-- the guest sees the history to this length when it takes the turn, and so its notes end there
abbrev pub entered : ℕ → Row → Row
entered n r = record r { seen = n; notes = map (ended_at n) r.notes }

abbrev pub seen_to : ℕ → Row → Row
seen_to n r = record r { seen = n }

abbrev pub leased : Row → Row
leased r = record r { leases = r.leases + 1 }

-- a noted size counts while there is a lease
abbrev pub noted_after : ℕ → ℕ → Option ℕ → Option ℕ
noted_after zero z old = old
noted_after (suc k) z old = Some z

abbrev pub note : ℕ → ℕ → Note
note z n = record { size = z; lower = n; upper = None }

-- a turn or a bar is this guest's
abbrev pub is_guest : ℕ → Option ℕ → Bool
is_guest g None = false
is_guest g (Some h) = h == g

-- how much of the history the guest has seen, with the entry that it applied in its turn
abbrev pub reaches : FileState → ℕ → ℕ
reaches c g = if is_guest g c.turn then length (whole c) else (row c g).seen

abbrev pub noted : ℕ → ℕ → Row → Row
noted z n r = record r { noted = noted_after r.leases z r.noted; notes = r.notes ++ note z n ∷ [] }

abbrev pub noted_left : ℕ → Option ℕ → Option ℕ
noted_left zero old = None
noted_left (suc k) old = old

abbrev pub unleased : Row → Row
unleased r = record r { leases = r.leases - 1; noted = noted_left (r.leases - 1) r.noted }

-- what the deed makes of the file
abbrev pub made : FileState → ℕ → Deed → FileState
made c g take_turn = record (with_row c g (entered (length c.history) (row c g))) { turn = Some g }
made c g (set_size e) = record c { applied = Some e; size = sized c.size e.op }
made c g give_turn = record (with_row c g (seen_to (length (whole c)) (row c g))) { turn = None; applied = None; history = whole c }
made c g lease = with_row c g (leased (row c g))
made c g note_size = with_row c g (noted c.size (reaches c g) (row c g))
made c g unlease = with_row c g (unleased (row c g))
made c g set_bar = record c { bar = Some g }
made c g clear_bar = record c { bar = None }

-- ---- what a guest does to the files

-- a deed on the file of this number
pub record FileDeed : Type 0 where
  pub at : ℕ
  pub deed : Deed

abbrev pub Turnless : List FileState → ℕ → Type 0
Turnless cs g = (f : ℕ) → (file cs f).turn ≢ Some g

abbrev pub Barless : List FileState → ℕ → Type 0
Barless cs g = (f : ℕ) → (file cs f).bar ≢ Some g

-- who takes a turn has none, and who takes a bar has none
abbrev pub Freely : List FileState → ℕ → Deed → Type 0
Freely cs g take_turn = Turnless cs g
Freely cs g (set_size e) = ⊤
Freely cs g give_turn = ⊤
Freely cs g lease = ⊤
Freely cs g note_size = ⊤
Freely cs g unlease = ⊤
Freely cs g set_bar = Barless cs g
Freely cs g clear_bar = ⊤

pub record Allowed (cs : List FileState) (g : ℕ) (d : FileDeed) : Type 0 where
  pub known : d.at < length cs
  pub may : May (file cs d.at) g d.deed
  pub freely : Freely cs g d.deed

abbrev pub after : List FileState → ℕ → FileDeed → List FileState
after cs g d = slice_set cs d.at (made (file cs d.at) g d.deed)

-- ---- what a call says that tries a deed

abbrev pub on : ℕ → Deed → FileDeed
on f d = record { at = f; deed = d }

-- it was done, or isn't allowed and nothing has changed
abbrev pub Did : Bool → List FileState → ℕ → FileDeed → List FileState → Type 0
Did result cs g d new = MatchBool result (Allowed cs g d × (new ≡ after cs g d)) ((Allowed cs g d → ⊥) × (new ≡ cs))

-- the same of a deed on whichever file it is
abbrev pub DidOne : Bool → List FileState → ℕ → Deed → List FileState → Type 0
DidOne result cs g d new = MatchBool result ((f : ℕ) × Allowed cs g (on f d) × (new ≡ after cs g (on f d))) (((f : ℕ) → Allowed cs g (on f d) → ⊥) × (new ≡ cs))

-- the same of one file, where its own state decides
abbrev pub DidHere : Bool → FileState → ℕ → Deed → FileState → Type 0
DidHere result c g d new = MatchBool result (May c g d × (new ≡ made c g d)) ((May c g d → ⊥) × (new ≡ c))

-- ---- the files at their start

abbrev pub new_file : ℕ → First → FileState
new_file guests first = record { first = first; turn = None; applied = None; history = []; size = first.size; bar = None; rows = replicate guests blank }

abbrev pub new_files : ℕ → List First → List FileState
new_files guests firsts = map (new_file guests) firsts
