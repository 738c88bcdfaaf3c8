use Rattle.std.proofs.Common.{refl, ◌∙◌, Some, arith}
use Rattle.window_core.specs.Window.{side}
use Rattle.range_share.proofs.Entering.{enters, tops, handed}
use Rattle.range_share.proofs.steps.try_enter.Goals as goal

pub compare_exchange-requires : goal.compare_exchange-requires
compare_exchange-requires c = let a = c.requires.at in
    (a.0.same, (let b = c.requires.at.0.wide in let l = c.requires.at.1 in omega arith), enters c.args.top.now.table_id.slots c.args.seat.now.id c.args.seat.now.me a.0.live c.args.file c.args.guest a.1 c.requires.guest c.requires.free.0)

pub exchange-requires : goal.exchange-requires
exchange-requires c = let d = (c.compare_exchange.ensures.2 c.args.file refl).0 c.if-compare_exchange-eq0.true in
    (c.compare_exchange.ensures.0 ∙ c.requires.at.0.same, (Some (side d.core.window c.args.file).log, tops _ _ _ _ d.tells.taken))

pub returns-then-compare_exchange-eq0-clause-deed : goal.returns-then-compare_exchange-eq0-clause-deed
returns-then-compare_exchange-eq0-clause-deed c = let d = (c.compare_exchange.ensures.2 c.args.file refl).0 c.if-compare_exchange-eq0.true in
    (handed c.args.seat.now.me c.compare_exchange.new.seat.me c.exchange.new.seat.me c.exchange.result c.args.file c.requires.free.1 d c.exchange.ensures.2 c.exchange.ensures.3).0

pub returns-then-compare_exchange-eq0-clause-alone : goal.returns-then-compare_exchange-eq0-clause-alone
returns-then-compare_exchange-eq0-clause-alone c = let d = (c.compare_exchange.ensures.2 c.args.file refl).0 c.if-compare_exchange-eq0.true in
    (handed c.args.seat.now.me c.compare_exchange.new.seat.me c.exchange.new.seat.me c.exchange.result c.args.file c.requires.free.1 d c.exchange.ensures.2 c.exchange.ensures.3).1

pub returns-then-compare_exchange-eq0-clause-joined : goal.returns-then-compare_exchange-eq0-clause-joined
returns-then-compare_exchange-eq0-clause-joined c = let d = (c.compare_exchange.ensures.2 c.args.file refl).0 c.if-compare_exchange-eq0.true in
    (handed c.args.seat.now.me c.compare_exchange.new.seat.me c.exchange.new.seat.me c.exchange.result c.args.file c.requires.free.1 d c.exchange.ensures.2 c.exchange.ensures.3).2

pub returns-else-compare_exchange-eq0-clause-deed : goal.returns-else-compare_exchange-eq0-clause-deed
returns-else-compare_exchange-eq0-clause-deed c = (c.compare_exchange.ensures.2 c.args.file refl).1 c.if-compare_exchange-eq0.false
