-- A small board of the tests, whose file others use too, and a daemon of one file.
use Rattle.std.specs.Prelude.{◌≡◌, ◌≢◌, ℕ, ◌<◌, ◌≤◌, Bool, true, false, nat_lt, List, [], ◌∷◌, ◌++◌, length, slice_get, Option, Some, None, IfSome, All, if◌then◌else◌}
use Rattle.plain_file.specs.declared.operations.Entry.{Entry}
use Rattle.plain_file.specs.declared.operations.Mark.{Mark}
use Rattle.plain_file.specs.declared.operations.Op.{Op}
use Rattle.plain_file.specs.declared.refusals.RefusedBar.{RefusedBar}
use Rattle.plain_file.specs.File.{max_file, reach, after}
use Rattle.plain_file.specs.History.{Past, whole_bytes}
use Rattle.plain_file.specs.Board.{FileView, FileHands, BoardView}
use Rattle.plain_file.specs.Sound.{IsPlaceOf}
use Rattle.fuse_device.specs.Promises.{IsServable}
use Rattle.fuse_device.specs.State.{State, World}

-- the file of which all that came is seen
abbrev pub turn_file : Past → List ℕ → Bool → Option ℕ → ℕ → Option RefusedBar → FileView
turn_file past own ready floor refusals refused = record { first = past.first; history = past.history; own = own; ready = ready; floor = floor; notes = []; refusals = refusals; refused = refused }

-- the number of the one file, where it is had
abbrev pub had : Bool → Option ℕ
had has = if has then Some 0 else None

-- what is in hand
abbrev pub turn_hands : Bool → Bool → ℕ → FileHands
turn_hands turn bar leases = record { turn = had turn; bar = had bar; leases = leases ∷ [] }

-- the board of one file
abbrev pub turn_board : ℕ → Mark → FileHands → FileView → BoardView
turn_board guest mark hands f = record { guest = guest; mark = mark; plain = false; over = None; may_lease = true; others = true; hands = hands; files = f ∷ [] }

-- another guest's entry, which is no larger than a file
pub record IsComing (guest : ℕ) (e : Entry) : Type 0 where
  pub others : e.guest ≢ guest
  pub fits : reach e.op ≤ max_file

-- more entries of others were seen
abbrev pub Sees : ℕ → Past → Past → Type 0
Sees guest old new = (more : List Entry) × All (λ e. e.guest ≢ guest) more × (new ≡ record old { history = old.history ++ more })

-- The own entries are the guest's, the older first; the file isn't smaller than its leases noted; there are none while
-- the bar is had; and what will come is others'.
pub record IsTurnFile (guest : ℕ) (bar : Bool) (leases : ℕ) (floor : Option ℕ) (past : Past) (own : List ℕ) (coming : List Entry) : Type 0 where
  pub places : All (IsPlaceOf guest past.history) own
  pub rising : (i j p q : ℕ) → i < j → slice_get own i ≡ Some p → slice_get own j ≡ Some q → p < q
  pub noted : IfSome floor (λ z. z ≤ length (whole_bytes past))
  pub leased : leases ≡ 0 → floor ≡ None
  pub barred : bar ≡ true → leases ≡ 0
  pub others : All (IsComing guest) coming

-- the operation lowers the file's size
abbrev pub falls : Past → Op → Bool
falls past op = nat_lt (length (after (whole_bytes past) op)) (length (whole_bytes past))

-- ---- a daemon of one file

-- at most one file, and a window of one range, which has 512 pages
pub record HasOne (s : State) : Type 0 where
  pub few : length s.made ≤ 1
  pub range : s.pages ≡ 512

-- the same, over boards that can serve any request, with no turn had
pub record Begins (w : World) : Type 0 where
  pub one : HasOne w.state
  pub servable : IsServable w
  pub free : w.files.hands.turn ≡ None
