use Rattle.std.proofs.Common.{◌≡◌, ◌∙◌, ap}
use Rattle.dax_script.specs.ScriptText.{script_of}
use Rattle.dax_script.specs.ScriptPrinted.{text_of}
use Rattle.dax_script.proofs.PrintedScript.{text_put}
use Rattle.dax_script.proofs.RoundTrip.{script_again}
use Rattle.dax_script.proofs.prints.print.Goals as goal

pub returns : goal.returns
returns c =
    let text : c.from_vec.result ≡ text_of c.args.script.now =
    c.from_vec.ensures ∙ text_put c.args.script.now c.new-out.result.items c.put_ranges.new.out.items c.put_background.new.out.items c.put_files.new.out.items c.put_guests.new.out.items
    c.as_slice.result.now c.as_slice-2.result.now c.as_slice-3.result.now c.as_slice.ensures c.as_slice-2.ensures c.as_slice-3.ensures
    c.new-out.ensures.items c.in_ok-put_ranges.ensures c.in_ok-put_background.ensures c.in_ok-put_files.ensures c.in_ok-put_guests.ensures in
    record { text = text; again = λ e. ap (λ b. script_of b) text ∙ script_again c.args.script.now e }
