use Rattle.std.proofs.Common.{◌<◌, sym, subst, length}
use Rattle.plain_file.specs.Board.{BoardView}
use Rattle.dax_host.proofs.SharedBoards.{seen_turn_file, turn_enters}
use Rattle.dax_host.proofs.shared_boards.TurnFileFileTurns.enter.Goals as goal

pub invariant_of-self : goal.invariant_of-self
invariant_of-self g c =
    let s = c.self.inside in
    seen_turn_file s.guest s.bar s.leases s.floor s.body c.see_unless.new.body s.own.items s.coming.items c.see_unless.new.coming.items c.self.invariant c.see_unless.ensures.leased c.see_unless.ensures.seen c.see_unless.ensures.coming

pub returns : goal.returns
returns g c =
    let s = c.self.inside in
    let within = subst (λ (v : BoardView). c.args._file < length v.files) (sym c.self.view_is) c.requires.file in
    rw (← c.self.view_is) (turn_enters s.guest s.mark s.turn s.bar s.leases s.body c.see_unless.new.body s.own.items s.ready s.floor s.refusals s.refused c.args._file within c.see_unless.ensures.seen)
