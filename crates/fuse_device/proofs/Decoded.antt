-- What was decoded is within the grammar's bounds.
use Rattle.std.proofs.Common.{◌≡◌, ℕ, List, true}
use Rattle.fuse_codec.specs.Grammar.{Spells, is_bounded}
use Rattle.fuse_codec.specs.declared.messages.Message.{Message}

pub decoded_bounded : (m : Message) (bytes : List ℕ) → Spells m bytes → is_bounded m.body ≡ true
decoded_bounded m bytes s = s.body_spelled.bounded
