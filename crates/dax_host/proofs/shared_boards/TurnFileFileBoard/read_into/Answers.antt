use Rattle.std.proofs.Common.{ap, sym}
use Rattle.plain_file.specs.Board.{BoardView}
use Rattle.dax_host.proofs.SharedBoards.{turn_bytes}
use Rattle.dax_host.proofs.shared_boards.TurnFileFileBoard.read_into.Goals as goal

pub returns-clause-count : goal.returns-clause-count
returns-clause-count c =
    let s = c.self.inside in
    rw (turn_bytes c.args.self.now s.body s.own.items s.ready s.floor s.refusals s.refused c.args._file (ap (λ (v : BoardView). v.files) (sym c.self.view_is)) c.requires.file) c.read_into.ensures.count

pub returns-clause-bytes : goal.returns-clause-bytes
returns-clause-bytes c =
    let s = c.self.inside in
    rw (turn_bytes c.args.self.now s.body s.own.items s.ready s.floor s.refusals s.refused c.args._file (ap (λ (v : BoardView). v.files) (sym c.self.view_is)) c.requires.file) c.read_into.ensures.bytes
