-- A load and a store through a hold: what they answer and leave.
use Rattle.std.proofs.Common.{◌≡◌, ◌∙◌, ap, sym, refl, subst, ℕ, ◌+◌, ◌<◌, ◌≤◌, Option, Some, None, arith}
use Rattle.std.specs.Prelude.{IfSome}
use Rattle.plain_file.specs.Board.{BoardView}
use Rattle.page_map.specs.declared.ranges.Target.{Target}
use Rattle.page_map.specs.Board.{MapView, Hands}
use Rattle.range_tree.specs.Ranges.{targeted, IsAtLeast}
use Rattle.guest_wire.specs.Wires.{WireView}
use Rattle.guest_dax.specs.Stands.{Stand, stand}
use Rattle.guest_dax.proofs.Keeping.{KeepsMap-same}
use Rattle.guest_io.specs.declared.guest.Granted.{Granted}
use Rattle.guest_io.specs.declared.guest.Holds.{Holds}
use Rattle.guest_io.specs.Chunks.{IsButTargets}
use Rattle.guest_io.specs.Going.{StaysBoard, LeavesAll}
use Rattle.guest_io.specs.Holds.{granted_at, start_of, IsHold, HasHolds, IsWithin}
use Rattle.guest_io.proofs.Holding.{IsButHands, KeepsMap-but}

but-looked : (a b : MapView) → IsButTargets a b → IsButHands a b
but-looked a b e = e ∙ ap (λ (h : Hands). record a { hands = h; ranges = record a.ranges { targets = b.ranges.targets; targeted = b.ranges.targeted } }) (sym (ap (λ (m : MapView). m.hands) e))

pub looked-by : (a : MapView) (range : ℕ) (t : Option Target) (b : MapView) → b ≡ targeted a range t → IsButTargets a b
looked-by a range t b e = subst (λ (m : MapView). IsButTargets a m) (sym e) refl

pub LeavesAll-looked : (wire : WireView) (v w : BoardView) (a b : MapView) → StaysBoard v w → IsButTargets a b → LeavesAll (stand wire v a) (stand wire w b)
LeavesAll-looked wire v w a b k e = record {
  wire = record { honest = refl; over = refl; stays = refl; later = omega arith };
  files = k;
  map = KeepsMap-but a a b (KeepsMap-same a) (but-looked a b e) (ap (λ (m : MapView). m.hands) e);
  hands = ap (λ (m : MapView). m.hands) e;
}

-- what a range shows has the file of what is known there
pub target-file : (o : Option Target) (t p : Target) → o ≡ Some t → IfSome o (λ x. IsAtLeast p x) → t.file ≡ p.file
target-file o t p e h = let k = subst (λ (x : Option Target). IfSome x (λ y. IsAtLeast p y)) e h in k.same_file

if-granted : (o : Option Granted) (P : Granted → Type 0) → ((g : Granted) → o ≡ Some g → P g) → IfSome o P
if-granted None P f = tt
if-granted (Some g) P f = f g refl

pub chunk-small : (s : Stand) (h : Holds) (n : ℕ) → HasHolds s h → IfSome (granted_at h n) (λ g. g.chunk < 32)
chunk-small s h n x = if-granted (granted_at h n) (λ g. g.chunk < 32) (λ g e. (x.each n g e).chunk)

-- an access within a hold ends at most where a file may end
pub ends-low : (s : Stand) (h : Holds) (g : Granted) (hold off len : ℕ) → IsHold s g → IsWithin h hold off len g → (start_of g + off) + len ≤ 67108864
ends-low s h g hold off len x within = let a = x.chunk in let b = x.end in let c = within.end in omega (arith, a, b, c)
