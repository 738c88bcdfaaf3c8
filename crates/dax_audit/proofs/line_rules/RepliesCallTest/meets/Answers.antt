use Rattle.std.proofs.Common.{◌∙◌, sym}
use Rattle.dax_audit.proofs.Tabled.{right_reply}
use Rattle.dax_audit.proofs.line_rules.RepliesCallTest.meets.Goals as goal

pub returns-in-Some-target_of : goal.returns-in-Some-target_of
returns-in-Some-target_of c =
    let j = c.args.self.now in
    c.is_right_at.ensures ∙ sym (right_reply j.script.now j.t.now j.replays.now c.requires.ready.1 c.requires.ready.2 c.args.guest c.args.call c.in-Done.place c.in-Done.answer c.args.line.now c.guest_calls-calls.result.now c.in-Some.asked.now c.in-Some-target_of.to
    c.requires.there c.in-Done.is c.guest_calls-calls.ensures (sym c.in-Some.ensures.value) (sym c.in-Some-target_of.ensures))
