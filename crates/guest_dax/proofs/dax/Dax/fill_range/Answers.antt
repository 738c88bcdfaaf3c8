use Rattle.std.proofs.Common.{◌∙◌, ap, sym, subst, arith}
use Rattle.page_map.specs.Board.{MapView}
use Rattle.guest_dax.specs.Stands.{stand, KeepsMap}
use Rattle.guest_dax.proofs.Walking.{Keeps-both, Keeps-map}
use Rattle.guest_dax.proofs.Upgrading.{may-set-moved, KeepsMap-settled, settled-ok, settled-err, filled, can-settle}
use Rattle.guest_dax.proofs.Keeping.{KeepsMap-same}
use Rattle.guest_dax.proofs.Upgrading.{filled-log}
use Rattle.guest_dax.proofs.dax.Dax.fill_range.Goals as goal

pub map_chunk-requires-clause-may : goal.map_chunk-requires-clause-may
map_chunk-requires-clause-may g c = may-set-moved (g.R.MapBoard.map c.args.self.now.ranges) c.args.file c.args.chunk c.unwrap-range.result c.args.mode (sym c.moved.ensures ∙ c.unwrap-range.ensures) (omega (arith, c.requires.file, c.requires.stands.refs_of, c.requires.stands.logs)) c.requires.chunk

pub settle_mapped-requires : goal.settle_mapped-requires
settle_mapped-requires g c =
    let (rest, mapped) = c.in_ok-map_chunk.ensures.maps in
    can-settle (g.R.MapBoard.map c.args.self.now.ranges) c.args.file c.args.chunk c.unwrap-range.result c.args.mode _ rest mapped c.requires.tree (sym c.moved.ensures ∙ c.unwrap-range.ensures) c.requires.chunk c.requires.free

pub returns-in-Ok-clause-keeps : goal.returns-in-Ok-clause-keeps
returns-in-Ok-clause-keeps g c =
    let s = stand (g.W.Wire.wire c.args.self.now.driver.wire) (g.F.FileBoard.board c.args.self.now.files) (g.R.MapBoard.map c.args.self.now.ranges) in
    let t = stand (g.W.Wire.wire c.map_chunk.new.self.driver.wire) (g.F.FileBoard.board c.map_chunk.new.self.files) (g.R.MapBoard.map c.map_chunk.new.self.ranges) in
    Keeps-both s t _ c.map_chunk.ensures.keeps (Keeps-map t _ (KeepsMap-settled t.map c.args.chunk c.args.mode _ (settled-ok t.map c.args.chunk c.args.mode c.in-Ok.field-0 _ c.in-Ok.ensures).becomes))

pub returns-in-Ok-clause-fills : goal.returns-in-Ok-clause-fills
returns-in-Ok-clause-fills g c =
    let (rest, mapped) = c.in_ok-map_chunk.ensures.maps in
    filled (g.R.MapBoard.map c.args.self.now.ranges) c.args.file c.args.chunk c.unwrap-range.result c.args.mode (g.R.MapBoard.map c.map_chunk.new.self.ranges) c.in-Ok.field-0 _ rest c.requires.tree (omega (arith, c.requires.file, c.requires.stands.refs_of, c.requires.stands.logs)) c.requires.free (settled-ok _ c.args.chunk c.args.mode c.in-Ok.field-0 _ c.in-Ok.ensures)

pub returns-in-Ok-clause-looks : goal.returns-in-Ok-clause-looks
returns-in-Ok-clause-looks g c = ap (λ (m : MapView). m.ranges.looks) (settled-ok _ c.args.chunk c.args.mode c.in-Ok.field-0 _ c.in-Ok.ensures).becomes.rest ∙ c.map_chunk.ensures.looks

pub returns-in-Ok-clause-rounds : goal.returns-in-Ok-clause-rounds
returns-in-Ok-clause-rounds g c = ap (λ (m : MapView). m.ranges.rounds) (settled-ok _ c.args.chunk c.args.mode c.in-Ok.field-0 _ c.in-Ok.ensures).becomes.rest ∙ c.map_chunk.ensures.rounds

pub returns-in-Err-clause-keeps : goal.returns-in-Err-clause-keeps
returns-in-Err-clause-keeps g c =
    let s = stand (g.W.Wire.wire c.args.self.now.driver.wire) (g.F.FileBoard.board c.args.self.now.files) (g.R.MapBoard.map c.args.self.now.ranges) in
    let t = stand (g.W.Wire.wire c.map_chunk.new.self.driver.wire) (g.F.FileBoard.board c.map_chunk.new.self.files) (g.R.MapBoard.map c.map_chunk.new.self.ranges) in
    Keeps-both s t _ c.map_chunk.ensures.keeps (Keeps-map t _ (subst (λ (m : MapView). KeepsMap t.map m) (sym (settled-err t.map c.args.chunk c.args.mode c.in-Err.field-0 _ c.in-Err.ensures)) (KeepsMap-same t.map)))

pub returns-in-Err-clause-fills : goal.returns-in-Err-clause-fills
returns-in-Err-clause-fills g c =
    let (rest, mapped) = c.in_ok-map_chunk.ensures.maps in
    (ap (λ (m : MapView). m.hands) (settled-err _ c.args.chunk c.args.mode c.in-Err.field-0 _ c.in-Err.ensures) ∙ rest.hands, tt)

pub returns-in-Err-clause-looks : goal.returns-in-Err-clause-looks
returns-in-Err-clause-looks g c = ap (λ (m : MapView). m.ranges.looks) (settled-err _ c.args.chunk c.args.mode c.in-Err.field-0 _ c.in-Err.ensures) ∙ c.map_chunk.ensures.looks

pub returns-in-Err-clause-rounds : goal.returns-in-Err-clause-rounds
returns-in-Err-clause-rounds g c = ap (λ (m : MapView). m.ranges.rounds) (settled-err _ c.args.chunk c.args.mode c.in-Err.field-0 _ c.in-Err.ensures) ∙ c.map_chunk.ensures.rounds

pub returns-in-Ok-clause-grown : goal.returns-in-Ok-clause-grown
returns-in-Ok-clause-grown g c =
    let (rest, mapped) = c.in_ok-map_chunk.ensures.maps in
    filled-log (g.R.MapBoard.map c.args.self.now.ranges) c.args.file c.args.chunk c.args.mode (g.R.MapBoard.map c.map_chunk.new.self.ranges) c.in-Ok.field-0 _ rest c.requires.tree (omega (arith, c.requires.file, c.requires.stands.refs_of, c.requires.stands.logs)) (settled-ok _ c.args.chunk c.args.mode c.in-Ok.field-0 _ c.in-Ok.ensures)
