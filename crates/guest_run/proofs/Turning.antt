-- A guest after a turn of the background has what it had.
use Rattle.std.proofs.Common.{◌≡◌, ℕ, ◌+◌, ◌≤◌, min, List, Result, Ok, Err, arith, lt_of_not-le}
use Rattle.std.proofs.Math.Nat.{min-le_left, min-le_right, min-eq_left, min-eq_right}
use mathlib.Core.Logic.{dite}
use native.Mathlib.Decide.{dec_le}
use Rattle.guest_wire.specs.declared.driver.FileRef.{FileRef}
use Rattle.guest_dax.specs.Stands.{Stand, Keeps}
use Rattle.guest_dax.specs.Looks.{NoLooks}
use Rattle.guest_dax.specs.Turning.{Turns}
use Rattle.guest_dax.specs.declared.refusals.DaxRefusal.{DaxRefusal}
use Rattle.guest_io.specs.declared.guest.Holds.{Holds}
use Rattle.guest_io.specs.Going.{LeavesAll}
use Rattle.guest_io.proofs.Homing.{IsHome-keeps}
use Rattle.guest_io.proofs.HoldLaws.{HasHolds-leaves, LeavesRest-leaves}
use Rattle.guest_io.proofs.Staying.{StaysBoard-files}
use Rattle.guest_run.specs.Working.{IsIdle}
use Rattle.guest_run.proofs.Telling.{IsIdle-after}

module _ (s t : Stand) where
  hands-turned : (r : Result (Unit {0}) DaxRefusal) → Turns s r t → t.map.hands ≡ s.map.hands
  hands-turned (Ok u) x = x.0
  hands-turned (Err e) x = x.0

  looks-turned : (r : Result (Unit {0}) DaxRefusal) → Turns s r t → NoLooks t.map
  looks-turned (Ok u) x = x.1
  looks-turned (Err e) x = x.1

  leaves-turned : (r : Result (Unit {0}) DaxRefusal) → Keeps s t → Turns s r t → LeavesAll s t
  leaves-turned r k x = record { wire = k.wire; files = StaysBoard-files s.files t.files k.files; map = k.map; hands = hands-turned r x }

  pub IsIdle-turned : (refs : List FileRef) (h : Holds) (r : Result (Unit {0}) DaxRefusal) → Keeps s t → Turns s r t → IsIdle s refs h → IsIdle t refs h
  IsIdle-turned refs h r k x i =
      let all = leaves-turned r k x in
      IsIdle-after s t refs h h (LeavesRest-leaves s t all) (IsHome-keeps s t refs k i.home) (HasHolds-leaves s t h all i.holds) (looks-turned r x) i

-- a count that rises by one at least, up to its last value, after it rose so often
pub risen : (most from times between now : ℕ) → min (from + times) most ≤ between → min (between + 1) most ≤ now → min (from + (times + 1)) most ≤ now
risen most from times between now was rose =
    let below = min-le_left (from + (times + 1)) most in
    let under = min-le_right (from + (times + 1)) most in
    dite (dec_le most (between + 1))
    (λ high. let e = min-eq_right high in omega (arith, under, rose, e))
    (λ low.
    let lt = lt_of_not-le low in
    let e = min-eq_left {n = between + 1} {m = most} (omega (arith, lt)) in
    dite (dec_le most (from + times))
    (λ past. let e' = min-eq_right past in absurd (omega (arith, was, e', lt)))
    (λ before. let lt' = lt_of_not-le before in let e' = min-eq_left {n = from + times} {m = most} (omega (arith, lt')) in omega (arith, below, rose, was, e, e')))
