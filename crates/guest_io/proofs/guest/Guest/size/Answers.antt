use Rattle.std.proofs.Common.{◌≡◌, refl, arith, Ok, Err}
use Rattle.fuse_codec.specs.Replies.{is_reply}
use Rattle.fuse_codec.specs.declared.replies.Reply.TheVariants as replies
use Rattle.plain_file.specs.declared.operations.Op.TheVariants as ops
use Rattle.plain_file.specs.declared.operations.Way.TheVariants as ways
use Rattle.fuse_device.specs.Promises.{Needs}
use Rattle.guest_wire.specs.Wires.{boards}
use Rattle.guest_wire.specs.Requests.{message, next_number, getattr_request}
use Rattle.guest_dax.specs.Stands.{stand}
use Rattle.guest_io.proofs.OnFiles.{size-on, size_reply, handle-of}
use Rattle.guest_io.proofs.Sending.{Asks, asks-home, asks-answered, asks-refused, CanAsk-marked}
use Rattle.guest_io.proofs.Reading.{asks-leaves}
use Rattle.guest_io.proofs.Counting.{KeepsRefusals-marked}
use Rattle.guest_io.proofs.guest.Guest.size.Goals as goal

pub getattr-sent-requires : goal.getattr-sent-requires
unfolding Needs
getattr-sent-requires g c =
    let s = stand (g.W.Wire.wire c.args.self.now.dax.driver.wire) (g.F.FileBoard.board c.args.self.now.dax.files) (g.R.MapBoard.map c.args.self.now.dax.ranges) in
    record { boards = CanAsk-marked s c.args.self.now.dax.refs c.args.call ways.Req (g.F.FileBoard.board c.mark.new.self) (getattr_request c.ref_of-at.result) c.mark.ensures tt c.requires.home.stands }

pub returns-in-Ok-clause-home : goal.returns-in-Ok-clause-home
returns-in-Ok-clause-home g c =
    let old = boards (g.F.FileBoard.board c.args.self.now.dax.files) (g.R.MapBoard.map c.args.self.now.dax.ranges) in
    let new = boards (g.F.FileBoard.board c.getattr-sent.new.files) (g.R.MapBoard.map c.getattr-sent.new.map) in
    let before = c.args.self.now.dax.driver.wire in
    let after = c.getattr-sent.new.self.wire in
    let at = c.ref_of-at.result in
    let m = message (next_number c.args.self.now.dax.driver.unique) at.node (getattr_request c.ref_of-at.result) in
    let s = stand (g.W.Wire.wire before) old.files old.map in
    let asks : Asks g.W.Wire.wire g.W.Wire.gives (λ out r. r ≡ replies.Attr out) before old c.args.call ways.Req m c.args.file (ops.Size) (size_reply at.node c.args.file) (c.getattr-sent.result) after new = record {
      asked = g.F.FileBoard.board c.mark.new.self;
      marks = c.mark.ensures;
      answer = c.getattr-sent.ensures.answer;
      keeps = c.getattr-sent.ensures.wire;
      both = c.getattr-sent.ensures.boards;
      within = omega (arith, c.requires.file, c.requires.home.stands.refs_of);
      free = c.requires.home.stands.turn;
      whole = c.requires.home.plain;
      sound = c.sound-2.ensures;
      on_file = λ honest. size-on (g.W.Wire.wire before).state (next_number c.args.self.now.dax.driver.unique) at c.args.file (handle-of s c.args.self.now.dax.refs at c.args.file c.requires.home.stands c.requires.file c.ref_of-at.ensures honest);
    } in
    asks-home g.W.Wire.wire g.W.Wire.gives (λ out r. r ≡ replies.Attr out) before old c.args.call ways.Req m c.args.file (ops.Size) (size_reply at.node c.args.file) c.getattr-sent.result after new c.args.self.now.dax.refs asks c.requires.home

pub returns-in-Err-clause-home : goal.returns-in-Err-clause-home
returns-in-Err-clause-home g c =
    let old = boards (g.F.FileBoard.board c.args.self.now.dax.files) (g.R.MapBoard.map c.args.self.now.dax.ranges) in
    let new = boards (g.F.FileBoard.board c.getattr-sent.new.files) (g.R.MapBoard.map c.getattr-sent.new.map) in
    let before = c.args.self.now.dax.driver.wire in
    let after = c.getattr-sent.new.self.wire in
    let at = c.ref_of-at.result in
    let m = message (next_number c.args.self.now.dax.driver.unique) at.node (getattr_request c.ref_of-at.result) in
    let s = stand (g.W.Wire.wire before) old.files old.map in
    let asks : Asks g.W.Wire.wire g.W.Wire.gives (λ out r. r ≡ replies.Attr out) before old c.args.call ways.Req m c.args.file (ops.Size) (size_reply at.node c.args.file) (c.getattr-sent.result) after new = record {
      asked = g.F.FileBoard.board c.mark.new.self;
      marks = c.mark.ensures;
      answer = c.getattr-sent.ensures.answer;
      keeps = c.getattr-sent.ensures.wire;
      both = c.getattr-sent.ensures.boards;
      within = omega (arith, c.requires.file, c.requires.home.stands.refs_of);
      free = c.requires.home.stands.turn;
      whole = c.requires.home.plain;
      sound = c.sound-2.ensures;
      on_file = λ honest. size-on (g.W.Wire.wire before).state (next_number c.args.self.now.dax.driver.unique) at c.args.file (handle-of s c.args.self.now.dax.refs at c.args.file c.requires.home.stands c.requires.file c.ref_of-at.ensures honest);
    } in
    asks-home g.W.Wire.wire g.W.Wire.gives (λ out r. r ≡ replies.Attr out) before old c.args.call ways.Req m c.args.file (ops.Size) (size_reply at.node c.args.file) c.getattr-sent.result after new c.args.self.now.dax.refs asks c.requires.home

pub returns-in-Ok-clause-sends : goal.returns-in-Ok-clause-sends
returns-in-Ok-clause-sends g c =
    let old = boards (g.F.FileBoard.board c.args.self.now.dax.files) (g.R.MapBoard.map c.args.self.now.dax.ranges) in
    let new = boards (g.F.FileBoard.board c.getattr-sent.new.files) (g.R.MapBoard.map c.getattr-sent.new.map) in
    let before = c.args.self.now.dax.driver.wire in
    let after = c.getattr-sent.new.self.wire in
    let at = c.ref_of-at.result in
    let m = message (next_number c.args.self.now.dax.driver.unique) at.node (getattr_request c.ref_of-at.result) in
    let s = stand (g.W.Wire.wire before) old.files old.map in
    let asks : Asks g.W.Wire.wire g.W.Wire.gives (λ out r. r ≡ replies.Attr out) before old c.args.call ways.Req m c.args.file (ops.Size) (size_reply at.node c.args.file) (Ok c.in-Ok.out) after new = record {
      asked = g.F.FileBoard.board c.mark.new.self;
      marks = c.mark.ensures;
      answer = c.in-Ok.ensures.answer;
      keeps = c.getattr-sent.ensures.wire;
      both = c.getattr-sent.ensures.boards;
      within = omega (arith, c.requires.file, c.requires.home.stands.refs_of);
      free = c.requires.home.stands.turn;
      whole = c.requires.home.plain;
      sound = c.sound-2.ensures;
      on_file = λ honest. size-on (g.W.Wire.wire before).state (next_number c.args.self.now.dax.driver.unique) at c.args.file (handle-of s c.args.self.now.dax.refs at c.args.file c.requires.home.stands c.requires.file c.ref_of-at.ensures honest);
    } in
    asks-answered g.W.Wire.wire g.W.Wire.gives (λ out r. r ≡ replies.Attr out) before old c.args.call ways.Req m c.args.file (ops.Size) (size_reply at.node c.args.file) c.in-Ok.out (replies.Attr c.in-Ok.out) after new c.own_last-before.result c.getattr-sent.new.self.unique c.enter_reply.result asks (λ r e. e) c.sound.ensures c.own_last-before.ensures c.enter_reply.ensures

pub returns-in-Err-clause-sends : goal.returns-in-Err-clause-sends
returns-in-Err-clause-sends g c =
    let old = boards (g.F.FileBoard.board c.args.self.now.dax.files) (g.R.MapBoard.map c.args.self.now.dax.ranges) in
    let new = boards (g.F.FileBoard.board c.getattr-sent.new.files) (g.R.MapBoard.map c.getattr-sent.new.map) in
    let before = c.args.self.now.dax.driver.wire in
    let after = c.getattr-sent.new.self.wire in
    let at = c.ref_of-at.result in
    let m = message (next_number c.args.self.now.dax.driver.unique) at.node (getattr_request c.ref_of-at.result) in
    let s = stand (g.W.Wire.wire before) old.files old.map in
    let asks : Asks g.W.Wire.wire g.W.Wire.gives (λ out r. r ≡ replies.Attr out) before old c.args.call ways.Req m c.args.file (ops.Size) (size_reply at.node c.args.file) (Err c.in-Err.refusal) after new = record {
      asked = g.F.FileBoard.board c.mark.new.self;
      marks = c.mark.ensures;
      answer = c.in-Err.ensures.answer;
      keeps = c.getattr-sent.ensures.wire;
      both = c.getattr-sent.ensures.boards;
      within = omega (arith, c.requires.file, c.requires.home.stands.refs_of);
      free = c.requires.home.stands.turn;
      whole = c.requires.home.plain;
      sound = c.sound-2.ensures;
      on_file = λ honest. size-on (g.W.Wire.wire before).state (next_number c.args.self.now.dax.driver.unique) at c.args.file (handle-of s c.args.self.now.dax.refs at c.args.file c.requires.home.stands c.requires.file c.ref_of-at.ensures honest);
    } in
    asks-refused g.W.Wire.wire g.W.Wire.gives (λ out r. r ≡ replies.Attr out) before old c.args.call ways.Req m c.args.file (ops.Size) (size_reply at.node c.args.file) c.in-Err.refusal after new c.refusal_of.result asks c.refusal_of.ensures

pub enter_reply-requires-clause-good : goal.enter_reply-requires-clause-good
unfolding is_reply
enter_reply-requires-clause-good g c = refl

pub returns-in-Ok-clause-leaves : goal.returns-in-Ok-clause-leaves
returns-in-Ok-clause-leaves g c =
    let old = boards (g.F.FileBoard.board c.args.self.now.dax.files) (g.R.MapBoard.map c.args.self.now.dax.ranges) in
    let new = boards (g.F.FileBoard.board c.getattr-sent.new.files) (g.R.MapBoard.map c.getattr-sent.new.map) in
    let before = c.args.self.now.dax.driver.wire in
    let after = c.getattr-sent.new.self.wire in
    let at = c.ref_of-at.result in
    let m = message (next_number c.args.self.now.dax.driver.unique) at.node (getattr_request c.ref_of-at.result) in
    let s = stand (g.W.Wire.wire before) old.files old.map in
    let asks : Asks g.W.Wire.wire g.W.Wire.gives (λ out r. r ≡ replies.Attr out) before old c.args.call ways.Req m c.args.file (ops.Size) (size_reply at.node c.args.file) (c.getattr-sent.result) after new = record {
      asked = g.F.FileBoard.board c.mark.new.self;
      marks = c.mark.ensures;
      answer = c.getattr-sent.ensures.answer;
      keeps = c.getattr-sent.ensures.wire;
      both = c.getattr-sent.ensures.boards;
      within = omega (arith, c.requires.file, c.requires.home.stands.refs_of);
      free = c.requires.home.stands.turn;
      whole = c.requires.home.plain;
      sound = c.sound-2.ensures;
      on_file = λ honest. size-on (g.W.Wire.wire before).state (next_number c.args.self.now.dax.driver.unique) at c.args.file (handle-of s c.args.self.now.dax.refs at c.args.file c.requires.home.stands c.requires.file c.ref_of-at.ensures honest);
    } in
    asks-leaves g.W.Wire.wire g.W.Wire.gives (λ out r. r ≡ replies.Attr out) before old c.args.call ways.Req m c.args.file (ops.Size) (size_reply at.node c.args.file) c.getattr-sent.result after new asks

pub returns-in-Err-clause-leaves : goal.returns-in-Err-clause-leaves
returns-in-Err-clause-leaves g c =
    let old = boards (g.F.FileBoard.board c.args.self.now.dax.files) (g.R.MapBoard.map c.args.self.now.dax.ranges) in
    let new = boards (g.F.FileBoard.board c.getattr-sent.new.files) (g.R.MapBoard.map c.getattr-sent.new.map) in
    let before = c.args.self.now.dax.driver.wire in
    let after = c.getattr-sent.new.self.wire in
    let at = c.ref_of-at.result in
    let m = message (next_number c.args.self.now.dax.driver.unique) at.node (getattr_request c.ref_of-at.result) in
    let s = stand (g.W.Wire.wire before) old.files old.map in
    let asks : Asks g.W.Wire.wire g.W.Wire.gives (λ out r. r ≡ replies.Attr out) before old c.args.call ways.Req m c.args.file (ops.Size) (size_reply at.node c.args.file) (c.getattr-sent.result) after new = record {
      asked = g.F.FileBoard.board c.mark.new.self;
      marks = c.mark.ensures;
      answer = c.getattr-sent.ensures.answer;
      keeps = c.getattr-sent.ensures.wire;
      both = c.getattr-sent.ensures.boards;
      within = omega (arith, c.requires.file, c.requires.home.stands.refs_of);
      free = c.requires.home.stands.turn;
      whole = c.requires.home.plain;
      sound = c.sound-2.ensures;
      on_file = λ honest. size-on (g.W.Wire.wire before).state (next_number c.args.self.now.dax.driver.unique) at c.args.file (handle-of s c.args.self.now.dax.refs at c.args.file c.requires.home.stands c.requires.file c.ref_of-at.ensures honest);
    } in
    asks-leaves g.W.Wire.wire g.W.Wire.gives (λ out r. r ≡ replies.Attr out) before old c.args.call ways.Req m c.args.file (ops.Size) (size_reply at.node c.args.file) c.getattr-sent.result after new asks

pub returns-in-Ok-clause-refusals : goal.returns-in-Ok-clause-refusals
returns-in-Ok-clause-refusals g c = KeepsRefusals-marked (g.F.FileBoard.board c.args.self.now.dax.files) (g.F.FileBoard.board c.mark.new.self) (g.F.FileBoard.board c.getattr-sent.new.files) c.args.call ways.Req c.mark.ensures c.getattr-sent.ensures.boards.files

pub returns-in-Err-clause-refusals : goal.returns-in-Err-clause-refusals
returns-in-Err-clause-refusals g c = KeepsRefusals-marked (g.F.FileBoard.board c.args.self.now.dax.files) (g.F.FileBoard.board c.mark.new.self) (g.F.FileBoard.board c.getattr-sent.new.files) c.args.call ways.Req c.mark.ensures c.getattr-sent.ensures.boards.files
