use Rattle.std.proofs.Common.{sym, subst, ◌≤◌}
use Rattle.plain_file.specs.Board.{FileView, size_of}
use Rattle.plain_file.specs.File.{max_file}
use Rattle.plain_file.specs.Plain.{IsAllOf}
use Rattle.plain_file.proofs.Whole.{sound_file}
use Rattle.plain_file.proofs.plain_file.PlainFile.sound.Goals as goal

pub returns : goal.returns
returns c =
    let s = c.self.inside in
    let all = subst (λ (f : FileView). IsAllOf c.args.guest f) (sym c.self.view_is) c.requires in
    let small = subst (λ (f : FileView). size_of f ≤ max_file) (sym c.self.view_is) c.size.ensures.small in
    rw (← c.self.view_is) (sound_file c.args.guest s.body s.floor s.refusals s.refused all small)
