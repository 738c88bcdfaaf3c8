use Rattle.std.proofs.Common.{arith}
use Rattle.range_share.proofs.Looking.{notes_it}
use Rattle.range_share.proofs.steps.note.Goals as goal

pub load-requires : goal.load-requires
load-requires g c = let st = c.requires.at in (st.same, (let b = c.requires.at.wide in omega arith), notes_it c.args.top.now.table_id.slots c.args.seat.now.id c.args.seat.now.me st.live 0 g.J.Noting.noted)
