use Rattle.std.proofs.Common.{refl, arith, Ok, Err}
use Rattle.fuse_codec.specs.Replies.{is_reply}
use Rattle.fuse_codec.specs.declared.replies.Reply.TheVariants as replies
use Rattle.plain_file.specs.declared.operations.Op.TheVariants as ops
use Rattle.fuse_device.specs.Promises.{Needs}
use Rattle.guest_wire.specs.Wires.{boards}
use Rattle.guest_wire.specs.Requests.{message, next_number, write_request}
use Rattle.guest_wire.specs.Answers.{SaysWrote}
use Rattle.guest_dax.specs.Stands.{stand}
use Rattle.guest_io.proofs.OnFiles.{write-on, write_reply, handle-of}
use Rattle.guest_io.proofs.Sending.{Asks, asks-home, asks-answered, asks-refused, CanAsk-marked}
use Rattle.guest_io.proofs.guest.Guest.send_write.Goals as goal

pub write-sent-requires-clause-boards : goal.write-sent-requires-clause-boards
unfolding Needs
write-sent-requires-clause-boards g c =
    let s = stand (g.W.Wire.wire c.args.self.now.dax.driver.wire) (g.F.FileBoard.board c.args.self.now.dax.files) (g.R.MapBoard.map c.args.self.now.dax.ranges) in
    (CanAsk-marked s c.args.self.now.dax.refs c.args.call c.args.way (g.F.FileBoard.board c.mark.new.self) (write_request c.ref_of-at.result c.args.off c.args.bytes.now) c.mark.ensures tt c.requires.home.stands)

pub returns-in-Ok-clause-home : goal.returns-in-Ok-clause-home
returns-in-Ok-clause-home g c =
    let old = boards (g.F.FileBoard.board c.args.self.now.dax.files) (g.R.MapBoard.map c.args.self.now.dax.ranges) in
    let new = boards (g.F.FileBoard.board c.write-sent.new.files) (g.R.MapBoard.map c.write-sent.new.map) in
    let before = c.args.self.now.dax.driver.wire in
    let after = c.write-sent.new.self.wire in
    let at = c.ref_of-at.result in
    let m = message (next_number c.args.self.now.dax.driver.unique) at.node (write_request c.ref_of-at.result c.args.off c.args.bytes.now) in
    let s = stand (g.W.Wire.wire before) old.files old.map in
    let asks : Asks g.W.Wire.wire g.W.Wire.gives SaysWrote before old c.args.call c.args.way m c.args.file (ops.Write c.args.off c.args.bytes.now) (write_reply c.args.bytes.now) (c.write-sent.result) after new = record {
      asked = g.F.FileBoard.board c.mark.new.self;
      marks = c.mark.ensures;
      answer = c.write-sent.ensures.answer;
      keeps = c.write-sent.ensures.wire;
      both = c.write-sent.ensures.boards;
      within = omega (arith, c.requires.file, c.requires.home.stands.refs_of);
      free = c.requires.home.stands.turn;
      whole = c.requires.home.plain;
      sound = c.sound-2.ensures;
      on_file = λ honest. write-on (g.W.Wire.wire before).state (next_number c.args.self.now.dax.driver.unique) at c.args.file c.args.off c.args.bytes.now c.requires.most c.requires.end (handle-of s c.args.self.now.dax.refs at c.args.file c.requires.home.stands c.requires.file c.ref_of-at.ensures honest);
    } in
    asks-home g.W.Wire.wire g.W.Wire.gives SaysWrote before old c.args.call c.args.way m c.args.file (ops.Write c.args.off c.args.bytes.now) (write_reply c.args.bytes.now) c.write-sent.result after new c.args.self.now.dax.refs asks c.requires.home

pub returns-in-Err-clause-home : goal.returns-in-Err-clause-home
returns-in-Err-clause-home g c =
    let old = boards (g.F.FileBoard.board c.args.self.now.dax.files) (g.R.MapBoard.map c.args.self.now.dax.ranges) in
    let new = boards (g.F.FileBoard.board c.write-sent.new.files) (g.R.MapBoard.map c.write-sent.new.map) in
    let before = c.args.self.now.dax.driver.wire in
    let after = c.write-sent.new.self.wire in
    let at = c.ref_of-at.result in
    let m = message (next_number c.args.self.now.dax.driver.unique) at.node (write_request c.ref_of-at.result c.args.off c.args.bytes.now) in
    let s = stand (g.W.Wire.wire before) old.files old.map in
    let asks : Asks g.W.Wire.wire g.W.Wire.gives SaysWrote before old c.args.call c.args.way m c.args.file (ops.Write c.args.off c.args.bytes.now) (write_reply c.args.bytes.now) (c.write-sent.result) after new = record {
      asked = g.F.FileBoard.board c.mark.new.self;
      marks = c.mark.ensures;
      answer = c.write-sent.ensures.answer;
      keeps = c.write-sent.ensures.wire;
      both = c.write-sent.ensures.boards;
      within = omega (arith, c.requires.file, c.requires.home.stands.refs_of);
      free = c.requires.home.stands.turn;
      whole = c.requires.home.plain;
      sound = c.sound-2.ensures;
      on_file = λ honest. write-on (g.W.Wire.wire before).state (next_number c.args.self.now.dax.driver.unique) at c.args.file c.args.off c.args.bytes.now c.requires.most c.requires.end (handle-of s c.args.self.now.dax.refs at c.args.file c.requires.home.stands c.requires.file c.ref_of-at.ensures honest);
    } in
    asks-home g.W.Wire.wire g.W.Wire.gives SaysWrote before old c.args.call c.args.way m c.args.file (ops.Write c.args.off c.args.bytes.now) (write_reply c.args.bytes.now) c.write-sent.result after new c.args.self.now.dax.refs asks c.requires.home

pub returns-in-Ok-clause-sends : goal.returns-in-Ok-clause-sends
returns-in-Ok-clause-sends g c =
    let old = boards (g.F.FileBoard.board c.args.self.now.dax.files) (g.R.MapBoard.map c.args.self.now.dax.ranges) in
    let new = boards (g.F.FileBoard.board c.write-sent.new.files) (g.R.MapBoard.map c.write-sent.new.map) in
    let before = c.args.self.now.dax.driver.wire in
    let after = c.write-sent.new.self.wire in
    let at = c.ref_of-at.result in
    let m = message (next_number c.args.self.now.dax.driver.unique) at.node (write_request c.ref_of-at.result c.args.off c.args.bytes.now) in
    let s = stand (g.W.Wire.wire before) old.files old.map in
    let asks : Asks g.W.Wire.wire g.W.Wire.gives SaysWrote before old c.args.call c.args.way m c.args.file (ops.Write c.args.off c.args.bytes.now) (write_reply c.args.bytes.now) (Ok c.in-Ok.count) after new = record {
      asked = g.F.FileBoard.board c.mark.new.self;
      marks = c.mark.ensures;
      answer = c.in-Ok.ensures.answer;
      keeps = c.write-sent.ensures.wire;
      both = c.write-sent.ensures.boards;
      within = omega (arith, c.requires.file, c.requires.home.stands.refs_of);
      free = c.requires.home.stands.turn;
      whole = c.requires.home.plain;
      sound = c.sound-2.ensures;
      on_file = λ honest. write-on (g.W.Wire.wire before).state (next_number c.args.self.now.dax.driver.unique) at c.args.file c.args.off c.args.bytes.now c.requires.most c.requires.end (handle-of s c.args.self.now.dax.refs at c.args.file c.requires.home.stands c.requires.file c.ref_of-at.ensures honest);
    } in
    asks-answered g.W.Wire.wire g.W.Wire.gives SaysWrote before old c.args.call c.args.way m c.args.file (ops.Write c.args.off c.args.bytes.now) (write_reply c.args.bytes.now) c.in-Ok.count (replies.Wrote (record { size = c.in-Ok.count })) after new c.own_last-before.result c.write-sent.new.self.unique c.enter_reply.result asks (λ r e. e) c.sound.ensures c.own_last-before.ensures c.enter_reply.ensures

pub returns-in-Err-clause-sends : goal.returns-in-Err-clause-sends
returns-in-Err-clause-sends g c =
    let old = boards (g.F.FileBoard.board c.args.self.now.dax.files) (g.R.MapBoard.map c.args.self.now.dax.ranges) in
    let new = boards (g.F.FileBoard.board c.write-sent.new.files) (g.R.MapBoard.map c.write-sent.new.map) in
    let before = c.args.self.now.dax.driver.wire in
    let after = c.write-sent.new.self.wire in
    let at = c.ref_of-at.result in
    let m = message (next_number c.args.self.now.dax.driver.unique) at.node (write_request c.ref_of-at.result c.args.off c.args.bytes.now) in
    let s = stand (g.W.Wire.wire before) old.files old.map in
    let asks : Asks g.W.Wire.wire g.W.Wire.gives SaysWrote before old c.args.call c.args.way m c.args.file (ops.Write c.args.off c.args.bytes.now) (write_reply c.args.bytes.now) (Err c.in-Err.refusal) after new = record {
      asked = g.F.FileBoard.board c.mark.new.self;
      marks = c.mark.ensures;
      answer = c.in-Err.ensures.answer;
      keeps = c.write-sent.ensures.wire;
      both = c.write-sent.ensures.boards;
      within = omega (arith, c.requires.file, c.requires.home.stands.refs_of);
      free = c.requires.home.stands.turn;
      whole = c.requires.home.plain;
      sound = c.sound-2.ensures;
      on_file = λ honest. write-on (g.W.Wire.wire before).state (next_number c.args.self.now.dax.driver.unique) at c.args.file c.args.off c.args.bytes.now c.requires.most c.requires.end (handle-of s c.args.self.now.dax.refs at c.args.file c.requires.home.stands c.requires.file c.ref_of-at.ensures honest);
    } in
    asks-refused g.W.Wire.wire g.W.Wire.gives SaysWrote before old c.args.call c.args.way m c.args.file (ops.Write c.args.off c.args.bytes.now) (write_reply c.args.bytes.now) c.in-Err.refusal after new c.refusal_of.result asks c.refusal_of.ensures

pub enter_reply-requires-clause-good : goal.enter_reply-requires-clause-good
unfolding is_reply
enter_reply-requires-clause-good g c = refl
