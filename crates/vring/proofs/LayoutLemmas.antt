-- What a layout that passes the test has.
use Rattle.std.proofs.Common.{◌≡◌, refl, ℕ, ◌<◌, ◌≤◌, Bool, true, false, None, arith}
use Rattle.std.proofs.lemmas.Bool.Decides.{nat_tests}
use Rattle.std.proofs.lemmas.Nat.{ones_le_self}
use Rattle.std.specs.Int.{is_power_of_two}
use Rattle.vring.specs.declared.layouts.Layout.{Layout}
use Rattle.vring.specs.Bytes.{max_memory}
use Rattle.vring.specs.Layout.{is_allowed, IsLayout}
use Rattle.vring.specs.Ring.{new_ring}

positive : (n : ℕ) → is_power_of_two n ≡ true → 0 < n
positive n e = grind (arith, nat_tests, ones_le_self n)

pub layout_if : (l : Layout) → is_allowed l ≡ true → l.memory ≤ max_memory → IsLayout l
unfolding is_allowed
layout_if l e small = record {
  least = grind (arith, nat_tests, positive l.size);
  most = grind (arith, nat_tests);
  descriptors = grind (arith, nat_tests);
  available = grind (arith, nat_tests);
  used = grind (arith, nat_tests);
  memory = small;
}

far_by : (l : Layout) (start : ℕ) (b : Bool) → is_allowed l ≡ b → l.memory ≤ max_memory → (IsLayout l → ⊥) → None ≡ new_ring l start
far_by l start true e small far = absurd (far (layout_if l e small))
far_by l start false e small far = rw e refl

pub far : (l : Layout) (start : ℕ) → l.memory ≤ max_memory → (IsLayout l → ⊥) → None ≡ new_ring l start
far l start small h = far_by l start (is_allowed l) refl small h
