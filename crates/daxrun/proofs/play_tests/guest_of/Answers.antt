use Rattle.std.proofs.Common.{sym, subst, ◌<◌, ◌≤◌, List, length, get_or}
use Rattle.plain_file.specs.declared.operations.First.{First}
use Rattle.plain_file.specs.File.{max_file}
use Rattle.guest_run.proofs.Places.{all_at}
use Rattle.daxrun.specs.Session.{firsts_of}
use Rattle.daxrun.proofs.Opening.{firsts_small}
use Rattle.daxrun.proofs.play_tests.guest_of.Goals as goal

pub new-requires-clause-small : goal.new-requires-clause-small
new-requires-clause-small g c = λ k d lt.
    let all = firsts_small c.args.lines.now c.requires.files.small in
    subst (λ (xs : List First). k < length xs → (get_or xs k d).size ≤ max_file) (sym c.in_ok-firsts.ensures) (all_at (λ (f : First). f.size ≤ max_file) (firsts_of c.args.lines.now) k d all) lt
