use Rattle.std.proofs.Common.{◌∙◌, sym, refl, true≢false, Ok, Err}
use Rattle.page_map.specs.Board.{painted}
use Rattle.page_map.specs.declared.ranges.Target.{Target}
use Rattle.guest_wire.specs.Wires.{boards}
use Rattle.guest_wire.specs.Requests.{next_number, message, setup_request}
use Rattle.guest_dax.specs.Stands.{stand, chunk_span}
use Rattle.guest_dax.specs.Reclaims.{Walks}
use Rattle.guest_dax.proofs.Requesting.{Asks-setup}
use Rattle.guest_dax.proofs.Walking.{Walks-asked, Caused-asked, CanAsk-setup, Keeps-both, Keeps-map, not-true}
use Rattle.guest_dax.proofs.Mapping.{IsInHand-pages, count-pages, MapsRest-pages, MapsRest-target, KeepsMap-target, setup-mapped, unseen-unmapped, Caused-undone}
use Rattle.guest_dax.proofs.dax.Dax.map_chunk.Goals as goal

pub setup-sent-requires : goal.setup-sent-requires
setup-sent-requires g c =
    record { boards = CanAsk-setup (stand (g.W.Wire.wire c.args.self.now.driver.wire) (g.F.FileBoard.board c.args.self.now.files) (g.R.MapBoard.map c.args.self.now.ranges)) c.args.self.now.refs c.args.chunk c.args.range c.args.mode c.requires.stands }

pub returns-in-Err-clause-keeps : goal.returns-in-Err-clause-keeps
returns-in-Err-clause-keeps g c =
    let v = g.R.MapBoard.map c.args.self.now.ranges in
    let old = boards (g.F.FileBoard.board c.args.self.now.files) v in
    let new = boards (g.F.FileBoard.board c.setup-sent.new.files) (g.R.MapBoard.map c.setup-sent.new.map) in
    let s = stand (g.W.Wire.wire c.args.self.now.driver.wire) old.files old.map in
    let t = stand (g.W.Wire.wire c.setup-sent.new.self.wire) new.files new.map in
    let m = message (next_number c.args.self.now.driver.unique) c.node_of-node.result (setup_request c.args.chunk c.args.range c.args.mode) in
    let painted_by = painted v (chunk_span c.args.file c.args.chunk c.args.range c.args.mode) in
    let asks = Asks-setup g.W.Wire.wire g.W.Wire.gives c.args.self.now.driver.wire old c.args.self.now.refs c.args.self.now.driver.unique c.node_of-node.result c.args.file c.args.chunk c.args.range c.args.mode c.setup-sent.result c.setup-sent.new.self.wire new c.setup-sent.ensures.answer c.requires.stands c.requires.range c.sound_ranges.ensures.pages c.node_of-node.ensures c.requires.file c.requires.chunk c.requires.may in
    let walks : Walks s t = Walks-asked g.W.Wire.wire g.W.Wire.gives c.args.self.now.driver.wire old m painted_by c.setup-sent.result c.setup-sent.new.self.wire new asks c.setup-sent.ensures.wire c.setup-sent.ensures.boards in
    walks.keeps

pub returns-in-Err-clause-maps : goal.returns-in-Err-clause-maps
returns-in-Err-clause-maps g c =
    let v = g.R.MapBoard.map c.args.self.now.ranges in
    let old = boards (g.F.FileBoard.board c.args.self.now.files) v in
    let new = boards (g.F.FileBoard.board c.setup-sent.new.files) (g.R.MapBoard.map c.setup-sent.new.map) in
    let s = stand (g.W.Wire.wire c.args.self.now.driver.wire) old.files old.map in
    let t = stand (g.W.Wire.wire c.setup-sent.new.self.wire) new.files new.map in
    let m = message (next_number c.args.self.now.driver.unique) c.node_of-node.result (setup_request c.args.chunk c.args.range c.args.mode) in
    let painted_by = painted v (chunk_span c.args.file c.args.chunk c.args.range c.args.mode) in
    let asks = Asks-setup g.W.Wire.wire g.W.Wire.gives c.args.self.now.driver.wire old c.args.self.now.refs c.args.self.now.driver.unique c.node_of-node.result c.args.file c.args.chunk c.args.range c.args.mode (Err c.in-Err.refusal) c.setup-sent.new.self.wire new c.in-Err.ensures.answer c.requires.stands c.requires.range c.sound_ranges.ensures.pages c.node_of-node.ensures c.requires.file c.requires.chunk c.requires.may in (
      MapsRest-pages s.map t.map c.setup-sent.ensures.boards.map,
      Caused-asked g.W.Wire.wire g.W.Wire.gives c.args.self.now.driver.wire old m painted_by c.in-Err.refusal c.setup-sent.new.self.wire new c.refusal_of.result s t refl refl asks c.refusal_of.ensures,
    )

pub returns-then-is_target-clause-keeps : goal.returns-then-is_target-clause-keeps
returns-then-is_target-clause-keeps g c =
    let v = g.R.MapBoard.map c.args.self.now.ranges in
    let old = boards (g.F.FileBoard.board c.args.self.now.files) v in
    let new = boards (g.F.FileBoard.board c.setup-sent.new.files) (g.R.MapBoard.map c.setup-sent.new.map) in
    let s = stand (g.W.Wire.wire c.args.self.now.driver.wire) old.files old.map in
    let t = stand (g.W.Wire.wire c.setup-sent.new.self.wire) new.files new.map in
    let m = message (next_number c.args.self.now.driver.unique) c.node_of-node.result (setup_request c.args.chunk c.args.range c.args.mode) in
    let painted_by = painted v (chunk_span c.args.file c.args.chunk c.args.range c.args.mode) in
    let asks = Asks-setup g.W.Wire.wire g.W.Wire.gives c.args.self.now.driver.wire old c.args.self.now.refs c.args.self.now.driver.unique c.node_of-node.result c.args.file c.args.chunk c.args.range c.args.mode c.setup-sent.result c.setup-sent.new.self.wire new c.setup-sent.ensures.answer c.requires.stands c.requires.range c.sound_ranges.ensures.pages c.node_of-node.ensures c.requires.file c.requires.chunk c.requires.may in
    let walks : Walks s t = Walks-asked g.W.Wire.wire g.W.Wire.gives c.args.self.now.driver.wire old m painted_by c.setup-sent.result c.setup-sent.new.self.wire new asks c.setup-sent.ensures.wire c.setup-sent.ensures.boards in
    Keeps-both s t _ walks.keeps (Keeps-map t _ (KeepsMap-target t.map c.args.range c.target-seen.result _ c.target-seen.ensures.counted))

pub returns-clause-keeps : goal.returns-clause-keeps
returns-clause-keeps g c =
    let v = g.R.MapBoard.map c.args.self.now.ranges in
    let old = boards (g.F.FileBoard.board c.args.self.now.files) v in
    let new = boards (g.F.FileBoard.board c.setup-sent.new.files) (g.R.MapBoard.map c.setup-sent.new.map) in
    let s = stand (g.W.Wire.wire c.args.self.now.driver.wire) old.files old.map in
    let t = stand (g.W.Wire.wire c.setup-sent.new.self.wire) new.files new.map in
    let m = message (next_number c.args.self.now.driver.unique) c.node_of-node.result (setup_request c.args.chunk c.args.range c.args.mode) in
    let painted_by = painted v (chunk_span c.args.file c.args.chunk c.args.range c.args.mode) in
    let asks = Asks-setup g.W.Wire.wire g.W.Wire.gives c.args.self.now.driver.wire old c.args.self.now.refs c.args.self.now.driver.unique c.node_of-node.result c.args.file c.args.chunk c.args.range c.args.mode c.setup-sent.result c.setup-sent.new.self.wire new c.setup-sent.ensures.answer c.requires.stands c.requires.range c.sound_ranges.ensures.pages c.node_of-node.ensures c.requires.file c.requires.chunk c.requires.may in
    let walks : Walks s t = Walks-asked g.W.Wire.wire g.W.Wire.gives c.args.self.now.driver.wire old m painted_by c.setup-sent.result c.setup-sent.new.self.wire new asks c.setup-sent.ensures.wire c.setup-sent.ensures.boards in
    Keeps-both s t _ walks.keeps (Keeps-map t _ (KeepsMap-target t.map c.args.range c.target-seen.result _ c.target-seen.ensures.counted))

pub returns-clause-maps : goal.returns-clause-maps
returns-clause-maps g c =
    let v = g.R.MapBoard.map c.args.self.now.ranges in
    let old = boards (g.F.FileBoard.board c.args.self.now.files) v in
    let new = boards (g.F.FileBoard.board c.setup-sent.new.files) (g.R.MapBoard.map c.setup-sent.new.map) in
    let s = stand (g.W.Wire.wire c.args.self.now.driver.wire) old.files old.map in
    let t = stand (g.W.Wire.wire c.setup-sent.new.self.wire) new.files new.map in
    let m = message (next_number c.args.self.now.driver.unique) c.node_of-node.result (setup_request c.args.chunk c.args.range c.args.mode) in
    let painted_by = painted v (chunk_span c.args.file c.args.chunk c.args.range c.args.mode) in
    let asks = Asks-setup g.W.Wire.wire g.W.Wire.gives c.args.self.now.driver.wire old c.args.self.now.refs c.args.self.now.driver.unique c.node_of-node.result c.args.file c.args.chunk c.args.range c.args.mode (Ok tt) c.setup-sent.new.self.wire new (c.in_default.ensures {u = tt}).answer c.requires.stands c.requires.range c.sound_ranges.ensures.pages c.node_of-node.ensures c.requires.file c.requires.chunk c.requires.may in
    let wanted : Target = record { file = c.args.file; chunk = c.args.chunk; mode = c.args.mode } in (
      MapsRest-target s.map t.map c.args.range c.target-seen.result _ (MapsRest-pages s.map t.map c.setup-sent.ensures.boards.map) c.target-seen.ensures.counted,
      Caused-undone _ c.undone.result s _ c.undone.ensures (not-true s.wire.honest (λ honest.
          unseen-unmapped t.map c.args.range c.target-seen.result _ wanted
          (c.sound_ranges-2.ensures.held c.args.range (count-pages s.map t.map c.args.range c.setup-sent.ensures.boards.map c.requires.range) (IsInHand-pages s.map t.map c.args.range c.setup-sent.ensures.boards.map c.requires.held))
          c.target-seen.ensures
          (λ seen. true≢false (sym (c.is_target.ensures.whole seen) ∙ c.if-is_target.false))
          (setup-mapped g.W.Wire.wire g.W.Wire.gives c.args.self.now.driver.wire old m c.args.file c.args.chunk c.args.range c.args.mode c.setup-sent.new.self.wire new asks c.requires.range c.sound_ranges.ensures.pages honest))),
    )
