use Rattle.std.proofs.Common.{◌≡◌, ◌∙◌, List, ap, sym, subst, length}
use Rattle.plain_file.specs.declared.operations.First.{First}
use Rattle.files_core.specs.Files.{FileState, new_files}
use Rattle.window_core.specs.Machine.{window_of}
use Rattle.window_core.specs.Window.{Window, new_window}
use Rattle.dax_core.specs.Core.{Good}
use Rattle.dax_core.proofs.Stepping.{start_good}
use Rattle.dax_core.proofs.machine.Core.new.Goals as goal

pub invariant_of-result : goal.invariant_of-result
invariant_of-result c = let firsts = c.args.firsts.now in
    let same = c.as_slice-firsts.ensures in
    let window : window_of c.in_ok-new.field-0 ≡ new_window c.args.ranges (length firsts) c.args.guests = c.in_ok-new.ensures ∙ ap (λ (xs : List First). new_window c.args.ranges (length xs) c.args.guests) same in
    let files = c.in_ok-new-2.ensures ∙ ap (λ (xs : List First). new_files c.args.guests xs) same in
    subst (λ (x : Window × List FileState). Good (record { guests = c.args.guests; window = x.0; files = x.1 })) (let p = sym window in let q = sym files in λ i. (p i, q i)) (start_good c.args.ranges c.args.guests firsts c.requires.ranges c.requires.guests c.requires.small)
