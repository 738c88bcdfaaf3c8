use Rattle.std.proofs.Common.{◌∙◌, ap, sym, subst, length, arith}
use Rattle.plain_file.specs.Board.{BoardView}
use Rattle.fuse_device.specs.DataSteps.{CanStepData, data_step}
use Rattle.fuse_device.specs.Promises.{world, Steps}
use Rattle.fuse_device.proofs.DataLaws.{named_within}
use Rattle.guest_wire.specs.Wires.{sending}
use Rattle.dax_host.specs.InTurn.{ServesInTurn}
use Rattle.dax_host.proofs.InTurn.{steps, served_hands, served_count, entered_serves, entered_count, turn_served}
use Rattle.dax_host.proofs.turns.serve_named.Goals as goal

pub enter-requires-clause-file : goal.enter-requires-clause-file
enter-requires-clause-file g c = omega (arith, named_within c.args.daemon.now c.args.readable.now c.args.file c.requires.named, c.requires.boards.there)

pub serve_chain_data-answer-requires-clause-boards : goal.serve_chain_data-answer-requires-clause-boards
serve_chain_data-answer-requires-clause-boards g c =
    let s = c.args.daemon.now in
    let old = g.F.FileBoard.board c.args.files.now in
    let map = g.M.MapBoard.map c.args.map.now in
    let (more, others, e) = c.enter.ensures in
    subst (λ (v : BoardView). CanStepData s v map c.args.readable.now) (sym e) (entered_serves s old map c.args.file more c.args.readable.now c.requires.boards c.requires.named)

pub leave-requires-clause-file : goal.leave-requires-clause-file
leave-requires-clause-file g c =
    let s = c.args.daemon.now in
    let old = g.F.FileBoard.board c.args.files.now in
    let began = world s (g.F.FileBoard.board c.enter.new.self) (g.M.MapBoard.map c.args.map.now) in
    let served = world s (g.F.FileBoard.board c.serve_chain_data-answer.new.files) (g.M.MapBoard.map c.serve_chain_data-answer.new.map) in
    let sent = sending c.args.readable.now c.args.room in
    let result = c.serve_chain_data-answer.result in
    let says = c.serve_chain_data-answer.ensures in
    let (more, others, e) = c.enter.ensures in
    let count = served_count began sent result served (steps began (data_step began c.args.readable.now c.args.room) result served says.reply says.step says.memory) in
    let more_count = ap (λ (v : BoardView). length v.files) e ∙ entered_count old c.args.file more in
    omega (arith, count, more_count, named_within s c.args.readable.now c.args.file c.requires.named, c.requires.boards.there)

pub leave-requires-clause-had : goal.leave-requires-clause-had
leave-requires-clause-had g c =
    let s = c.args.daemon.now in
    let began = world s (g.F.FileBoard.board c.enter.new.self) (g.M.MapBoard.map c.args.map.now) in
    let served = world s (g.F.FileBoard.board c.serve_chain_data-answer.new.files) (g.M.MapBoard.map c.serve_chain_data-answer.new.map) in
    let sent = sending c.args.readable.now c.args.room in
    let result = c.serve_chain_data-answer.result in
    let says = c.serve_chain_data-answer.ensures in
    let (more, others, e) = c.enter.ensures in
    ap (λ h. h.turn) (served_hands began sent result served (steps began (data_step began c.args.readable.now c.args.room) result served says.reply says.step says.memory)) ∙ ap (λ (v : BoardView). v.hands.turn) e

pub returns : goal.returns
returns g c =
    let s = c.args.daemon.now in
    let old = g.F.FileBoard.board c.args.files.now in
    let map = g.M.MapBoard.map c.args.map.now in
    let after = g.M.MapBoard.map c.serve_chain_data-answer.new.map in
    let began = world s (g.F.FileBoard.board c.enter.new.self) map in
    let served = world s (g.F.FileBoard.board c.serve_chain_data-answer.new.files) after in
    let sent = sending c.args.readable.now c.args.room in
    let result = c.serve_chain_data-answer.result in
    let says = c.serve_chain_data-answer.ensures in
    let (more, others, e) = c.enter.ensures in
    let made = steps began (data_step began c.args.readable.now c.args.room) result served says.reply says.step says.memory in
    let step = subst (λ (v : BoardView). Steps (world s v map) (data_step (world s v map) c.args.readable.now c.args.room) result served) e made in
    subst (λ (v : BoardView). ServesInTurn (world s old map) sent result (world s v after)) (sym c.leave.ensures) (turn_served s old map c.args.file more sent result served c.requires.named others step)
