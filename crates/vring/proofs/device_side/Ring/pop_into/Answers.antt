use Rattle.vring.proofs.Lies.{filled_lies}
use Rattle.vring.proofs.device_side.Ring.pop_into.Goals as goal

pub returns-in-Ok-true-clause-lies : goal.returns-in-Ok-true-clause-lies
returns-in-Ok-true-clause-lies c = λ _. filled_lies c.args.mem.now c.self.inside.layout c.self.inside.seen c.in-Ok-true.field-0 c.next_chain.new.chain c.in-Ok-true.field-0-test (rw c.as_slice.ensures.value at c.in-Ok-true.ensures)
