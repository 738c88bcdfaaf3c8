use Rattle.std.proofs.Common.{◌≤◌, List, length, sym, ap, ◌∙◌, subst}
use Rattle.std.specs.Prelude.{All}
use Rattle.atomic_table.specs.Seated.{TableId}
use Rattle.plain_file.specs.declared.operations.First.{First}
use Rattle.plain_file.specs.File.{max_file}
use Rattle.file_share.proofs.Coming.{sound_first}
use Rattle.file_share.proofs.table.FileTable.new.Goals as goal

pub new_pass-requires : goal.new_pass-requires
new_pass-requires c = let o = c.in_ok-opening.opening in let e = c.in_ok-opening.ensures in let x = c.in_ok-table.ensures in
    sound_first c.in_ok-table.seat o.firsts o.leasers x.seat.1 (ap (λ (t : TableId). t.slots) x.seat.0 ∙ x.counts.1) (subst (λ (l : List First). length l ≤ 64) (sym (e.0 ∙ c.as_slice.ensures)) c.requires.few) (subst (λ (l : List First). All (λ (y : First). y.size ≤ max_file) l) (sym (e.0 ∙ c.as_slice.ensures)) c.requires.small)
