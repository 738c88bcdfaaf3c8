use Rattle.std.proofs.Common.{◌∙◌, ap, arith, ◌≤◌, ◌++◌, length, ℕ, List}
use Rattle.dax_host.specs.Queue.{QueueView, after_return}
use Rattle.dax_host.proofs.Carrying.{written_back}
use Rattle.dax_host.proofs.transport.Sides.answer.Goals as goal

pub returns-clause-bytes : goal.returns-clause-bytes
returns-clause-bytes c =
    let len = c.put_answer-len.result in
    let returned = c.self.view_is ∙ c.push.ensures.queue ∙ ap (λ (v : QueueView). after_return v len) c.put_answer-len.ensures.queue in
    let fits : len ≤ c.args.room = omega (arith, c.put_answer-len.ensures.count, ap length c.as_slice.ensures, c.requires.fits) in
    let whole = c.written.ensures ∙ written_back c.args.self.now _ c.as_slice.result.now c.args.room len c.requires.delivered.out.set_up c.put_answer-len.ensures.count fits c.requires.room returned in
    c.from_vec.ensures ∙ c.in_ok-extend_from_slice.ensures.items ∙ ap (λ (front : List ℕ). front ++ c.written.result.now) c.clear.ensures.items ∙ whole ∙ c.as_slice.ensures
