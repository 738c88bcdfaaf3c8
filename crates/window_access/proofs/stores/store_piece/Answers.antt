use Rattle.std.proofs.Common.{◌∙◌, sym, length}
use Rattle.window_access.proofs.InPage.{named_byte}
use Rattle.window_access.proofs.stores.store_piece.Goals as goal

pub write-requires-clause-named : goal.write-requires-clause-named
write-requires-clause-named g c =
    (named_byte (length (g.F.FileBoard.board c.args.files.now).files) c.args.map.now c.args.at c.in-Some.p c.requires.can.names (sym c.find.ensures.byte ∙ c.in-Some.is)).0
