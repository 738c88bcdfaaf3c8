-- What the requests of a run rest on.
use Rattle.std.specs.Prelude.{◌≡◌, true, false, None, Result, Ok, Err}
use Rattle.fuse_device.specs.Promises.{IsServable}
use Rattle.guest_wire.specs.declared.wires.WireRefusal.{WireRefusal}
use Rattle.guest_wire.specs.declared.wires.WireRefusal.TheVariants as refusals
use Rattle.guest_wire.specs.Wires.{WireView, Boards, world_at}

-- a wire that hands each request to the whole daemon, over boards of the caller's own on which any request can be served
pub record IsLive (w : WireView) (b : Boards) : Type 0 where
  pub honest : w.honest ≡ true
  pub whole : w.stays ≡ false
  pub alone : b.files.over ≡ None
  pub servable : IsServable (world_at w b)

-- a value, or want of memory
abbrev pub IsDoneOrMemory : {T : Type 0} → Result T WireRefusal → Type 0
IsDoneOrMemory (Ok v) = Unit {0}
IsDoneOrMemory (Err refusals.Memory) = Unit {0}
IsDoneOrMemory (Err e) = ⊥
