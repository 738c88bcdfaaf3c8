-- A wire that keeps the requests that it passes on.
use Rattle.std.specs.Prelude.{◌≡◌, ℕ, List, [], ◌∷◌, ◌++◌, Result, Err, ◌⊎◌}
use Rattle.guest_wire.specs.Wires.{Boards, Sent}
use Rattle.guest_wire.specs.declared.wires.WireError.{WireError}
use Rattle.guest_wire.specs.declared.wires.WireError.TheVariants as errors

-- the wire that they are passed to, and the readable parts that were submitted, in order
pub record KeepView (W : Type 0) : Type 0 where
  pub inner : W
  pub requests : List (List ℕ)

-- the request was passed on, and is kept behind the others
pub record IsPassed {W : Type 0} (gives : W → Boards → Sent → Result (List ℕ) WireError → W → Boards → Type 0) (before : KeepView W) (old : Boards) (sent : Sent) (result : Result (List ℕ) WireError) (after : KeepView W) (new : Boards) : Type 0 where
  pub given : gives before.inner old sent result after.inner new
  pub kept : after.requests ≡ before.requests ++ sent.bytes ∷ []

-- What is given: what the other wire gives. For want of memory the request may not have been passed on at all.
abbrev pub Passes : {W : Type 0} → (W → Boards → Sent → Result (List ℕ) WireError → W → Boards → Type 0) → KeepView W → Boards → Sent → Result (List ℕ) WireError → KeepView W → Boards → Type 0
Passes gives before old sent (Err errors.Memory) after new = ((after ≡ before) × (new ≡ old)) ⊎ IsPassed gives before old sent (Err errors.Memory) after new
Passes gives before old sent result after new = IsPassed gives before old sent result after new
