use Rattle.std.proofs.Common.{◌≡◌, arith, Ok, Err}
use Rattle.fuse_codec.specs.declared.replies.Reply.TheVariants as replies
use Rattle.plain_file.specs.declared.operations.Op.TheVariants as ops
use Rattle.plain_file.specs.declared.operations.Way.TheVariants as ways
use Rattle.fuse_device.specs.Promises.{Needs}
use Rattle.guest_wire.specs.Wires.{boards}
use Rattle.guest_wire.specs.Requests.{message, next_number, read_request}
use Rattle.guest_dax.specs.Stands.{stand}
use Rattle.guest_io.proofs.Heard.{good-heard}
use Rattle.guest_io.proofs.OnFiles.{read-on, read_reply, handle-of}
use Rattle.guest_io.proofs.Sending.{Asks, asks-home, asks-answered, asks-refused, CanAsk-marked}
use Rattle.guest_io.proofs.guest.Guest.send_read.Goals as goal

pub read-sent-requires-clause-boards : goal.read-sent-requires-clause-boards
unfolding Needs
read-sent-requires-clause-boards g c =
    let s = stand (g.W.Wire.wire c.args.self.now.dax.driver.wire) (g.F.FileBoard.board c.args.self.now.dax.files) (g.R.MapBoard.map c.args.self.now.dax.ranges) in
    (CanAsk-marked s c.args.self.now.dax.refs c.args.call ways.Req (g.F.FileBoard.board c.mark.new.self) (read_request c.ref_of-at.result c.args.off c.args.len) c.mark.ensures tt c.requires.home.stands)

pub returns-in-Ok-clause-home : goal.returns-in-Ok-clause-home
returns-in-Ok-clause-home g c =
    let old = boards (g.F.FileBoard.board c.args.self.now.dax.files) (g.R.MapBoard.map c.args.self.now.dax.ranges) in
    let new = boards (g.F.FileBoard.board c.read-sent.new.files) (g.R.MapBoard.map c.read-sent.new.map) in
    let before = c.args.self.now.dax.driver.wire in
    let after = c.read-sent.new.self.wire in
    let at = c.ref_of-at.result in
    let m = message (next_number c.args.self.now.dax.driver.unique) at.node (read_request c.ref_of-at.result c.args.off c.args.len) in
    let s = stand (g.W.Wire.wire before) old.files old.map in
    let asks : Asks g.W.Wire.wire g.W.Wire.gives (λ bytes r. r ≡ replies.Bytes bytes) before old c.args.call ways.Req m c.args.file (ops.Read c.args.off c.args.len) (read_reply c.args.file c.args.off c.args.len) (c.read-sent.result) after new = record {
      asked = g.F.FileBoard.board c.mark.new.self;
      marks = c.mark.ensures;
      answer = c.read-sent.ensures.answer;
      keeps = c.read-sent.ensures.wire;
      both = c.read-sent.ensures.boards;
      within = omega (arith, c.requires.file, c.requires.home.stands.refs_of);
      free = c.requires.home.stands.turn;
      whole = c.requires.home.plain;
      sound = c.sound-2.ensures;
      on_file = λ honest. read-on (g.W.Wire.wire before).state (next_number c.args.self.now.dax.driver.unique) at c.args.file c.args.off c.args.len c.requires.most (handle-of s c.args.self.now.dax.refs at c.args.file c.requires.home.stands c.requires.file c.ref_of-at.ensures honest);
    } in
    asks-home g.W.Wire.wire g.W.Wire.gives (λ bytes r. r ≡ replies.Bytes bytes) before old c.args.call ways.Req m c.args.file (ops.Read c.args.off c.args.len) (read_reply c.args.file c.args.off c.args.len) c.read-sent.result after new c.args.self.now.dax.refs asks c.requires.home

pub returns-in-Err-clause-home : goal.returns-in-Err-clause-home
returns-in-Err-clause-home g c =
    let old = boards (g.F.FileBoard.board c.args.self.now.dax.files) (g.R.MapBoard.map c.args.self.now.dax.ranges) in
    let new = boards (g.F.FileBoard.board c.read-sent.new.files) (g.R.MapBoard.map c.read-sent.new.map) in
    let before = c.args.self.now.dax.driver.wire in
    let after = c.read-sent.new.self.wire in
    let at = c.ref_of-at.result in
    let m = message (next_number c.args.self.now.dax.driver.unique) at.node (read_request c.ref_of-at.result c.args.off c.args.len) in
    let s = stand (g.W.Wire.wire before) old.files old.map in
    let asks : Asks g.W.Wire.wire g.W.Wire.gives (λ bytes r. r ≡ replies.Bytes bytes) before old c.args.call ways.Req m c.args.file (ops.Read c.args.off c.args.len) (read_reply c.args.file c.args.off c.args.len) (c.read-sent.result) after new = record {
      asked = g.F.FileBoard.board c.mark.new.self;
      marks = c.mark.ensures;
      answer = c.read-sent.ensures.answer;
      keeps = c.read-sent.ensures.wire;
      both = c.read-sent.ensures.boards;
      within = omega (arith, c.requires.file, c.requires.home.stands.refs_of);
      free = c.requires.home.stands.turn;
      whole = c.requires.home.plain;
      sound = c.sound-2.ensures;
      on_file = λ honest. read-on (g.W.Wire.wire before).state (next_number c.args.self.now.dax.driver.unique) at c.args.file c.args.off c.args.len c.requires.most (handle-of s c.args.self.now.dax.refs at c.args.file c.requires.home.stands c.requires.file c.ref_of-at.ensures honest);
    } in
    asks-home g.W.Wire.wire g.W.Wire.gives (λ bytes r. r ≡ replies.Bytes bytes) before old c.args.call ways.Req m c.args.file (ops.Read c.args.off c.args.len) (read_reply c.args.file c.args.off c.args.len) c.read-sent.result after new c.args.self.now.dax.refs asks c.requires.home

pub returns-in-Ok-clause-sends : goal.returns-in-Ok-clause-sends
returns-in-Ok-clause-sends g c =
    let old = boards (g.F.FileBoard.board c.args.self.now.dax.files) (g.R.MapBoard.map c.args.self.now.dax.ranges) in
    let new = boards (g.F.FileBoard.board c.read-sent.new.files) (g.R.MapBoard.map c.read-sent.new.map) in
    let before = c.args.self.now.dax.driver.wire in
    let after = c.read-sent.new.self.wire in
    let at = c.ref_of-at.result in
    let m = message (next_number c.args.self.now.dax.driver.unique) at.node (read_request c.ref_of-at.result c.args.off c.args.len) in
    let s = stand (g.W.Wire.wire before) old.files old.map in
    let asks : Asks g.W.Wire.wire g.W.Wire.gives (λ bytes r. r ≡ replies.Bytes bytes) before old c.args.call ways.Req m c.args.file (ops.Read c.args.off c.args.len) (read_reply c.args.file c.args.off c.args.len) (Ok c.in-Ok.bytes) after new = record {
      asked = g.F.FileBoard.board c.mark.new.self;
      marks = c.mark.ensures;
      answer = c.in-Ok.ensures.answer;
      keeps = c.read-sent.ensures.wire;
      both = c.read-sent.ensures.boards;
      within = omega (arith, c.requires.file, c.requires.home.stands.refs_of);
      free = c.requires.home.stands.turn;
      whole = c.requires.home.plain;
      sound = c.sound-2.ensures;
      on_file = λ honest. read-on (g.W.Wire.wire before).state (next_number c.args.self.now.dax.driver.unique) at c.args.file c.args.off c.args.len c.requires.most (handle-of s c.args.self.now.dax.refs at c.args.file c.requires.home.stands c.requires.file c.ref_of-at.ensures honest);
    } in
    asks-answered g.W.Wire.wire g.W.Wire.gives (λ bytes r. r ≡ replies.Bytes bytes) before old c.args.call ways.Req m c.args.file (ops.Read c.args.off c.args.len) (read_reply c.args.file c.args.off c.args.len) c.in-Ok.bytes (replies.Bytes c.in-Ok.bytes) after new c.own_last-before.result c.read-sent.new.self.unique c.enter_reply.result asks (λ r e. e) c.sound.ensures c.own_last-before.ensures c.enter_reply.ensures

pub returns-in-Err-clause-sends : goal.returns-in-Err-clause-sends
returns-in-Err-clause-sends g c =
    let old = boards (g.F.FileBoard.board c.args.self.now.dax.files) (g.R.MapBoard.map c.args.self.now.dax.ranges) in
    let new = boards (g.F.FileBoard.board c.read-sent.new.files) (g.R.MapBoard.map c.read-sent.new.map) in
    let before = c.args.self.now.dax.driver.wire in
    let after = c.read-sent.new.self.wire in
    let at = c.ref_of-at.result in
    let m = message (next_number c.args.self.now.dax.driver.unique) at.node (read_request c.ref_of-at.result c.args.off c.args.len) in
    let s = stand (g.W.Wire.wire before) old.files old.map in
    let asks : Asks g.W.Wire.wire g.W.Wire.gives (λ bytes r. r ≡ replies.Bytes bytes) before old c.args.call ways.Req m c.args.file (ops.Read c.args.off c.args.len) (read_reply c.args.file c.args.off c.args.len) (Err c.in-Err.refusal) after new = record {
      asked = g.F.FileBoard.board c.mark.new.self;
      marks = c.mark.ensures;
      answer = c.in-Err.ensures.answer;
      keeps = c.read-sent.ensures.wire;
      both = c.read-sent.ensures.boards;
      within = omega (arith, c.requires.file, c.requires.home.stands.refs_of);
      free = c.requires.home.stands.turn;
      whole = c.requires.home.plain;
      sound = c.sound-2.ensures;
      on_file = λ honest. read-on (g.W.Wire.wire before).state (next_number c.args.self.now.dax.driver.unique) at c.args.file c.args.off c.args.len c.requires.most (handle-of s c.args.self.now.dax.refs at c.args.file c.requires.home.stands c.requires.file c.ref_of-at.ensures honest);
    } in
    asks-refused g.W.Wire.wire g.W.Wire.gives (λ bytes r. r ≡ replies.Bytes bytes) before old c.args.call ways.Req m c.args.file (ops.Read c.args.off c.args.len) (read_reply c.args.file c.args.off c.args.len) c.in-Err.refusal after new c.refusal_of.result asks c.refusal_of.ensures

pub enter_reply-requires-clause-good : goal.enter_reply-requires-clause-good
enter_reply-requires-clause-good g c =
    let m = message (next_number c.args.self.now.dax.driver.unique) c.ref_of-at.result.node (read_request c.ref_of-at.result c.args.off c.args.len) in
    let (bytes, came, (r, is, by)) = c.in-Ok.ensures.answer in
    good-heard m bytes r c.in-Ok.bytes is by
