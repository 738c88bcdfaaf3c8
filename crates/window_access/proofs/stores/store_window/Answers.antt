use Rattle.std.proofs.Common.{sym, subst}
use Rattle.plain_file.specs.Board.{BoardView}
use Rattle.window_access.specs.Access.{CanAccess}
use Rattle.window_access.proofs.stores.store_window.Goals as goal

pub store-requires-clause-can : goal.store-requires-clause-can
store-requires-clause-can g c = subst (λ (v : BoardView). CanAccess v c.args.map.now) (sym c.check_store.ensures.same) (record { plain = c.requires.plain; names = c.requires.names })
