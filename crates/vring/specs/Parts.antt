-- The two parts of a chain, a descriptor at a time.
use Rattle.std.specs.Prelude.{List, [], ◌∷◌, ◌++◌, if◌then◌else◌}
use Rattle.vring.specs.declared.descriptors.Descriptor.{Descriptor}
use Rattle.vring.specs.declared.chains.Piece.{Piece}
use Rattle.vring.specs.declared.chains.Chain.{Chain}
use Rattle.vring.specs.Chain.{has}

-- the pieces that the device reads, and those that it may write
pub record Parts : Type 0 where
  pub readable : List Piece
  pub writable : List Piece

-- the parts of a chain
abbrev pub parts_of : Chain → Parts
parts_of c = record { readable = c.readable; writable = c.writable }

-- the parts with the descriptor's interval at the end of the one that its WRITE flag names
abbrev pub placed : Parts → Descriptor → Parts
placed p d =
    if has d.flags 2 then record p { writable = p.writable ++ record { addr = d.addr; len = d.len } ∷ [] }
    else record p { readable = p.readable ++ record { addr = d.addr; len = d.len } ∷ [] }
