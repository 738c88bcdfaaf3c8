use Rattle.std.proofs.Common.{◌≤◌, ◌<◌, sym, subst, length}
use Rattle.plain_file.specs.Board.{BoardView}
use Rattle.plain_file.specs.File.{max_file}
use Rattle.plain_file.specs.Sound.{IsSoundBoard}
use Rattle.dax_host.proofs.SharedBoards.{turn_sound}
use Rattle.dax_host.proofs.shared_boards.TurnFileFileBoard.sound.Goals as goal

pub returns : goal.returns
returns c =
    let s = c.self.inside in
    let within = subst (λ (v : BoardView). c.args._file < length v.files) (sym c.self.view_is) c.requires in
    let small = subst (λ n. n ≤ max_file) c.size.ensures.value c.size.ensures.small in
    subst (λ (v : BoardView). IsSoundBoard v c.args._file) c.self.view_is (turn_sound s.guest s.mark s.turn s.bar s.leases s.body s.own.items s.ready s.floor s.refusals s.refused s.coming.items c.args._file within c.self.invariant small)
