use Rattle.std.proofs.Common.{subst, sym, length, arith, ◌≢◌, ℕ, None}
use Rattle.std.proofs.lemmas.Grind.{common_steps}
use Rattle.page_map.specs.Board.{mapped_byte}
use Rattle.window_access.proofs.Below.{below_part}
use Rattle.window_access.proofs.Storing.{start_mapped}
use Rattle.window_access.proofs.stores.store_in_page.Goals as goal

pub store_piece-requires-clause-mapped : goal.store_piece-requires-clause-mapped
store_piece-requires-clause-mapped g c =
    subst (λ (i : ℕ). mapped_byte c.args.map.now i ≢ None) (sym c.max-start.ensures) (start_mapped c.args.map.now c.args.moffset (length c.args.bytes.now) c.args.page c.requires.mapped c.requires.some c.requires.to)

pub store_piece-requires-clause-below : goal.store_piece-requires-clause-below
store_piece-requires-clause-below g c =
    below_part c.args.map.now c.args.moffset (length c.args.bytes.now) c.max-start.result _ (omega arith) (grind (arith, common_steps)) c.requires.below
