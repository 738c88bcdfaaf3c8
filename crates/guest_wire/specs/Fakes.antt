-- A wire in memory that gives what it was told to.
use Rattle.std.specs.Prelude.{ℕ, false, List, [], ◌∷◌, None, Result, Ok, Err}
use Rattle.plain_file.specs.Counts.{more_by_one}
use Rattle.fuse_device.specs.State.{new_state}
use Rattle.guest_wire.specs.declared.wires.WireError.{WireError}
use Rattle.guest_wire.specs.declared.wires.WireError.TheVariants as errors
use Rattle.guest_wire.specs.declared.fake.WireStep.{WireStep}
use Rattle.guest_wire.specs.declared.fake.WireStep.TheVariants as steps
use Rattle.guest_wire.specs.Wires.{WireView}

-- the steps that are left, and how often the wire failed
pub record FakeView : Type 0 where
  pub left : List WireStep
  pub faults : ℕ

-- what it means as a wire: it isn't honest
abbrev pub fake_wire : FakeView → WireView
fake_wire f = record { honest = false; over = None; faults = f.faults; stays = false; state = new_state 0 [] }

-- the wire after a failure, with these steps left
abbrev pub failed : FakeView → List WireStep → FakeView
failed f rest = record { left = rest; faults = more_by_one f.faults }

-- what is answered and what is left, by the next step
unfoldable pub taken : FakeView → List WireStep → Result (List ℕ) WireError × FakeView
taken f [] = (Err errors.Fault, failed f [])
taken f (steps.Fail ∷ rest) = (Err errors.Fault, failed f rest)
taken f (steps.Bytes bytes ∷ rest) = (Ok bytes, record f { left = rest })
