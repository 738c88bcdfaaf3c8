use Rattle.std.proofs.Common.{arith}
use Rattle.fuse_codec.proofs.CleanRequests.{write_within, forgets_within, removes_within}
use Rattle.fuse_codec.proofs.encoding.body_len.Goals as goal

pub overflow_add-result : goal.overflow_add-result
overflow_add-result c = omega (arith, write_within c.args.body.now c.in-Write.head c.in-Write.bytes c.requires.bounded c.in-Write.is, c.len.ensures)

pub overflow_mul-result : goal.overflow_mul-result
overflow_mul-result c = omega (arith, forgets_within c.args.body.now c.in-BatchForget.ones c.requires.bounded c.in-BatchForget.is, c.len-in-BatchForget.ensures)

pub overflow_add-result-in-BatchForget : goal.overflow_add-result-in-BatchForget
overflow_add-result-in-BatchForget c = omega (arith, forgets_within c.args.body.now c.in-BatchForget.ones c.requires.bounded c.in-BatchForget.is, c.len-in-BatchForget.ensures)

pub overflow_mul-result-in-Remove : goal.overflow_mul-result-in-Remove
overflow_mul-result-in-Remove c = omega (arith, removes_within c.args.body.now c.in-Remove.ones c.requires.bounded c.in-Remove.is, c.len-in-Remove.ensures)

pub overflow_add-result-in-Remove : goal.overflow_add-result-in-Remove
overflow_add-result-in-Remove c = omega (arith, removes_within c.args.body.now c.in-Remove.ones c.requires.bounded c.in-Remove.is, c.len-in-Remove.ensures)

pub returns-in-Write-clause-within : goal.returns-in-Write-clause-within
returns-in-Write-clause-within c = omega (arith, write_within c.args.body.now c.in-Write.head c.in-Write.bytes c.requires.bounded c.in-Write.is, c.len.ensures)

pub returns-in-BatchForget-clause-within : goal.returns-in-BatchForget-clause-within
returns-in-BatchForget-clause-within c = omega (arith, forgets_within c.args.body.now c.in-BatchForget.ones c.requires.bounded c.in-BatchForget.is, c.len-in-BatchForget.ensures)

pub returns-in-Remove-clause-within : goal.returns-in-Remove-clause-within
returns-in-Remove-clause-within c = omega (arith, removes_within c.args.body.now c.in-Remove.ones c.requires.bounded c.in-Remove.is, c.len-in-Remove.ensures)
