use Rattle.std.proofs.Common.{◌∙◌, ap, refl, ◌*◌, None, Err}
use Rattle.page_map.specs.Window.{range_size}
use Rattle.page_map.specs.Board.{MapView, Hands, RangesView, wiped}
use Rattle.guest_wire.specs.Wires.{boards}
use Rattle.guest_wire.specs.Requests.{next_number, message, remove_request}
use Rattle.guest_dax.specs.Stands.{stand}
use Rattle.guest_dax.specs.Reclaims.{Walks}
use Rattle.guest_dax.proofs.Searching.{hands-leave, looks-leave}
use Rattle.guest_dax.proofs.Requesting.{Asks-remove}
use Rattle.guest_dax.proofs.Walking.{Walks-both, Walks-free, Walks-leave, Walks-asked, Caused-asked, CanAsk-remove}
use Rattle.guest_dax.proofs.dax.Dax.unmap.Goals as goal

pub remove-sent-requires : goal.remove-sent-requires
remove-sent-requires g c =
    record { boards = CanAsk-remove (stand (g.W.Wire.wire c.args.self.now.driver.wire) (g.F.FileBoard.board c.args.self.now.files) (g.R.MapBoard.map c.args.self.now.ranges)) c.args.self.now.refs c.args.range c.requires.stands }

pub returns-in-Ok-clause-walks : goal.returns-in-Ok-clause-walks
returns-in-Ok-clause-walks g c =
    let v = g.R.MapBoard.map c.args.self.now.ranges in
    let old = boards (g.F.FileBoard.board c.args.self.now.files) v in
    let new = boards (g.F.FileBoard.board c.remove-sent.new.files) (g.R.MapBoard.map c.remove-sent.new.map) in
    let s = stand (g.W.Wire.wire c.args.self.now.driver.wire) old.files old.map in
    let t = stand (g.W.Wire.wire c.remove-sent.new.self.wire) new.files new.map in
    let asks = Asks-remove g.W.Wire.wire g.W.Wire.gives c.args.self.now.driver.wire old c.args.self.now.refs c.args.self.now.driver.unique c.node_of-node.result c.args.range c.remove-sent.result c.remove-sent.new.self.wire new c.remove-sent.ensures.answer c.requires.stands c.requires.range c.sound_ranges.ensures.pages c.requires.moves in
    let first : Walks s t = Walks-asked g.W.Wire.wire g.W.Wire.gives c.args.self.now.driver.wire old (message (next_number c.args.self.now.driver.unique) c.node_of-node.result (remove_request c.args.range)) (wiped v (range_size * c.args.range) range_size) c.remove-sent.result c.remove-sent.new.self.wire new asks c.remove-sent.ensures.wire c.remove-sent.ensures.boards in
    Walks-both s t _ first (Walks-leave t _ c.leave.ensures)

pub returns-in-Err-clause-walks : goal.returns-in-Err-clause-walks
returns-in-Err-clause-walks g c =
    let v = g.R.MapBoard.map c.args.self.now.ranges in
    let old = boards (g.F.FileBoard.board c.args.self.now.files) v in
    let new = boards (g.F.FileBoard.board c.remove-sent.new.files) (g.R.MapBoard.map c.remove-sent.new.map) in
    let s = stand (g.W.Wire.wire c.args.self.now.driver.wire) old.files old.map in
    let t = stand (g.W.Wire.wire c.remove-sent.new.self.wire) new.files new.map in
    let u = stand (g.W.Wire.wire c.remove-sent.new.self.wire) new.files (g.R.MapBoard.map c.settle_free.new.self) in
    let asks = Asks-remove g.W.Wire.wire g.W.Wire.gives c.args.self.now.driver.wire old c.args.self.now.refs c.args.self.now.driver.unique c.node_of-node.result c.args.range c.remove-sent.result c.remove-sent.new.self.wire new c.remove-sent.ensures.answer c.requires.stands c.requires.range c.sound_ranges.ensures.pages c.requires.moves in
    let first : Walks s t = Walks-asked g.W.Wire.wire g.W.Wire.gives c.args.self.now.driver.wire old (message (next_number c.args.self.now.driver.unique) c.node_of-node.result (remove_request c.args.range)) (wiped v (range_size * c.args.range) range_size) c.remove-sent.result c.remove-sent.new.self.wire new asks c.remove-sent.ensures.wire c.remove-sent.ensures.boards in
    Walks-both s t _ first (Walks-both t u _ (Walks-free t _ c.settle_free.ensures) (Walks-leave u _ c.leave-in-Err.ensures))

pub returns-in-Err-clause-unmaps : goal.returns-in-Err-clause-unmaps
returns-in-Err-clause-unmaps g c =
    let v = g.R.MapBoard.map c.args.self.now.ranges in
    let old = boards (g.F.FileBoard.board c.args.self.now.files) v in
    let new = boards (g.F.FileBoard.board c.remove-sent.new.files) (g.R.MapBoard.map c.remove-sent.new.map) in
    let s = stand (g.W.Wire.wire c.args.self.now.driver.wire) old.files old.map in
    let u = stand (g.W.Wire.wire c.remove-sent.new.self.wire) new.files (g.R.MapBoard.map c.leave-in-Err.new.self) in
    let asks = Asks-remove g.W.Wire.wire g.W.Wire.gives c.args.self.now.driver.wire old c.args.self.now.refs c.args.self.now.driver.unique c.node_of-node.result c.args.range (Err c.in-Err.refusal) c.remove-sent.new.self.wire new c.in-Err.ensures.answer c.requires.stands c.requires.range c.sound_ranges.ensures.pages c.requires.moves in
    let f = c.settle_free.ensures.rest in
    let p = c.remove-sent.ensures.boards.map in (
      hands-leave _ _ c.leave-in-Err.ensures ∙ ap (λ (m : MapView). record m.hands { tree = None }) f ∙ ap (λ (h : Hands). record h { tree = None; moves = None }) p.hands,
      looks-leave _ _ c.leave-in-Err.ensures ∙ ap (λ (m : MapView). m.ranges.looks) f ∙ ap (λ (r : RangesView). r.looks) p.ranges,
      Caused-asked g.W.Wire.wire g.W.Wire.gives c.args.self.now.driver.wire old (message (next_number c.args.self.now.driver.unique) c.node_of-node.result (remove_request c.args.range)) (wiped v (range_size * c.args.range) range_size) c.in-Err.refusal c.remove-sent.new.self.wire new c.refusal_of.result s u refl refl asks c.refusal_of.ensures,
    )

pub returns-in-Ok-clause-removed : goal.returns-in-Ok-clause-removed
returns-in-Ok-clause-removed g c = record {
  answered = record {
    node = c.node_of-node.result;
    body = remove_request c.args.range;
    old = boards (g.F.FileBoard.board c.args.self.now.files) (g.R.MapBoard.map c.args.self.now.ranges);
    new = boards (g.F.FileBoard.board c.remove-sent.new.files) (g.R.MapBoard.map c.remove-sent.new.map);
    answer = c.in-Ok.ensures.answer;
    number = c.remove-sent.ensures.number;
  };
  body_is = refl;
}
