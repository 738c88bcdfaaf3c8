use Rattle.std.proofs.Common.{◌≡◌, ◌∙◌, ◌+◌, ◌++◌, ap, arith, length, take, ◌≤◌, sym}
use Rattle.std.proofs.lemmas.Grind.{common_steps}
use Rattle.std.proofs.lemmas.List.{length-append, length-take}
use Rattle.chain_stream.proofs.Reading.{front_fits, read_at}
use Rattle.chain_stream.proofs.pendings.read_behind.Goals as goal

pub returns-in-Ok-clause-bytes : goal.returns-in-Ok-clause-bytes
returns-in-Ok-clause-bytes g c =
    let end = c.args.end in
    let base = take end c.args.buffer.now.items in
    let read = take c.in-Ok.n c.read.new.buf in
    let size : length base ≡ end = omega (arith, length-take end c.args.buffer.now.items, c.requires.within) in
    let front : take end c.deref_mut.result.now ≡ base = ap (take end) c.deref_mut.ensures.value ∙ c.make_room.ensures.same end c.requires.within in
    let few : c.in-Ok.n ≤ length c.read.new.buf = grind (arith, common_steps) in
    let sized : length read ≡ c.in-Ok.n = omega (arith, length-take c.in-Ok.n c.read.new.buf, few) in
    let placed = read_at end c.in-Ok.n c.make_room.new.buffer.len base c.deref_mut.result.now c.read.new.buf _ _ size front (grind (arith, common_steps)) few in
    (read, placed, c.in-Ok.ensures.bytes.0, grind (arith, common_steps), sym sized, tt, front_fits (end + length read) _ (base ++ read) placed (omega (arith, length-append base read, size)))
