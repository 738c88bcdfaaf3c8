use Rattle.std.proofs.Common.{◌∙◌, ap, sym, length}
use Rattle.plain_file.specs.Board.{BoardView}
use Rattle.dax_host.proofs.SharedBoards.{turn_bytes}
use Rattle.dax_host.proofs.shared_boards.TurnFileFileBoard.size_now.Goals as goal

pub returns-clause-ready : goal.returns-clause-ready
returns-clause-ready c =
    let s = c.self.inside in
    λ _. c.size.ensures.value ∙ sym (ap length (turn_bytes c.args.self.now s.body s.own.items s.ready s.floor s.refusals s.refused c.args._file (ap (λ (v : BoardView). v.files) (sym c.self.view_is)) c.requires))
