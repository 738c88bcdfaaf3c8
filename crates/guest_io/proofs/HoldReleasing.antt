-- A hold that is released, and what is left of the holds.
use Rattle.std.proofs.Common.{◌≡◌, ◌∙◌, ap, refl, ℕ, zero, suc, ◌-◌, ◌<◌, List, [], ◌∷◌, length, Option, Some, None, arith}
use Rattle.std.specs.Prelude.{slice_index_or, slice_set}
use Rattle.std.proofs.lemmas.List.{length-set}
use Rattle.plain_file.specs.Board.{BoardView}
use Rattle.plain_file.specs.Turns.{unleased}
use Rattle.page_map.specs.Board.{MapView, log_at}
use Rattle.range_tree.specs.Ranges.{pins_on, unpinned}
use Rattle.guest_wire.specs.Wires.{WireView}
use Rattle.guest_dax.specs.Stands.{Stand, stand}
use Rattle.guest_dax.proofs.Keeping.{Begins-same}
use Rattle.guest_io.specs.declared.guest.Granted.{Granted}
use Rattle.guest_io.specs.declared.guest.Holds.{Holds}
use Rattle.guest_io.specs.Holds.{granted_at, count_of, HasHolds, released_one, given_back}
use Rattle.guest_io.proofs.Leasing.{LeasesAlone, alone-unleased}
use Rattle.guest_io.proofs.HoldLaws.{less-at, sum-less, count-less, leases-less, pins-less, pin-had, lease-held, Rests, IsHold-rests}

-- ---- numbers of holds

none-kept : (gs : List (Option Granted)) (i n : ℕ) → slice_index_or gs n None ≡ None → slice_index_or (slice_set gs i None) n None ≡ None
none-kept [] i n e = e
none-kept (x ∷ gs) zero zero e = refl
none-kept (x ∷ gs) zero (suc n) e = e
none-kept (x ∷ gs) (suc i) zero e = e
none-kept (x ∷ gs) (suc i) (suc n) e = none-kept gs i n e

some-before : (gs : List (Option Granted)) (i n : ℕ) (g : Granted) → slice_index_or (slice_set gs i None) n None ≡ Some g → slice_index_or gs n None ≡ Some g
some-before [] i n g e = e
some-before (x ∷ gs) zero zero g e = absurd cc
some-before (x ∷ gs) zero (suc n) g e = e
some-before (x ∷ gs) (suc i) zero g e = e
some-before (x ∷ gs) (suc i) (suc n) g e = some-before gs i n g e

pub count-none : (gs : List (Option Granted)) → ((n : ℕ) → n < length gs → slice_index_or gs n None ≡ None) → count_of gs ≡ 0
unfolding count_of
count-none [] h = refl
count-none (None ∷ gs) h = count-none gs (λ n lo. h (suc n) (omega (arith, lo)))
count-none (Some g ∷ gs) h = let e : Some g ≡ None = h zero (omega arith) in absurd cc

-- ---- a hold is given back

module _ (s : Stand) (h : Holds) (n : ℕ) (g : Granted) (x : HasHolds s h) (e : granted_at h n ≡ Some g) where
  alone-back : LeasesAlone s.files (unleased s.files g.file) g.file
  alone-back = alone-unleased s.files g.file (x.each n g e).file

  rests-back : Rests s (given_back s g)
  rests-back = record {
    files = alone-back.count;
    count = length-set s.map.hands.pins g.pinned.range (pins_on s.map g.pinned.range - 1);
    logs = λ file. Begins-same (log_at s.map file);
    pinned = λ range had. refl;
    shown = λ range had. refl;
  }

  pub HasHolds-back : HasHolds (given_back s g) (released_one h n)
  HasHolds-back = record {
    asked = x.asked;
    slots = length-set h.slots n None ∙ x.slots;
    behind = λ m le. none-kept h.slots n m (x.behind m le);
    each = λ m f is.
        let was = some-before h.slots n m f is in
        IsHold-rests s (given_back s g) f rests-back (pin-had s h m f x was) (x.each m f was);
    leases = λ file.
        let a = less-at s.files.hands.leases g.file file (lease-held s h n g x e) in
        let b = x.leases file in
        let c = leases-less file h.slots n g e in
        omega (arith, a, b, c);
    pins = λ range.
        let a = less-at s.map.hands.pins g.pinned.range range (pin-had s h n g x e) in
        let b = x.pins range in
        let c = pins-less range h.slots n g e in
        omega (arith, a, b, c);
    all_leases =
        let a = sum-less s.files.hands.leases g.file (lease-held s h n g x e) in
        let b = x.all_leases in
        let c = count-less h.slots n g e in
        omega (arith, a, b, c);
    all_pins =
        let a = sum-less s.map.hands.pins g.pinned.range (pin-had s h n g x e) in
        let b = x.all_pins in
        let c = count-less h.slots n g e in
        omega (arith, a, b, c);
  }

-- the stand after both were given back
pub given-back : (wire : WireView) (v w : BoardView) (m k : MapView) (g : Granted) → w ≡ unleased v g.file → k ≡ unpinned m g.pinned.range → stand wire w k ≡ given_back (stand wire v m) g
given-back wire v w m k g files map = ap (λ (b : BoardView). stand wire b k) files ∙ ap (λ (b : MapView). stand wire (unleased v g.file) b) map
