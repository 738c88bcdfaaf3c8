use Rattle.std.proofs.Common.{rules, refl, ◌∙◌, Some}
use Rattle.file_share.proofs.Stepping.{takes_turn, tops, handed, handed_told}
use Rattle.file_share.specs.Table.{past_of}
use Rattle.files_core.specs.Files.{file}
use Rattle.file_share.proofs.steps.try_turn.Goals as goal

pub compare_exchange-requires : goal.compare_exchange-requires
compare_exchange-requires c = let a = c.requires.at in (a.same, search rules, takes_turn _ _ _ _ a.live a.inside c.args.guest c.requires.guest c.requires.free.0)

pub exchange-requires : goal.exchange-requires
exchange-requires c = let d = (c.compare_exchange.ensures.2 c.args.file refl).0 c.if-compare_exchange-eq0.true in
    (c.compare_exchange.ensures.0 ∙ c.requires.at.same, (Some (past_of (file d.core.files c.args.file)), tops _ _ _ _ d.tells.out))

pub returns-then-compare_exchange-eq0-clause-deed : goal.returns-then-compare_exchange-eq0-clause-deed
returns-then-compare_exchange-eq0-clause-deed c = let d = (c.compare_exchange.ensures.2 c.args.file refl).0 c.if-compare_exchange-eq0.true in
    handed c.args.seat.now.me c.compare_exchange.new.seat.me c.exchange.result c.args.file d c.exchange.ensures.2 c.exchange.new.seat.me c.requires.free.1 c.exchange.ensures.3

pub returns-else-compare_exchange-eq0-clause-deed : goal.returns-else-compare_exchange-eq0-clause-deed
returns-else-compare_exchange-eq0-clause-deed c = (c.compare_exchange.ensures.2 c.args.file refl).1 c.if-compare_exchange-eq0.false

pub returns-then-compare_exchange-eq0-clause-told : goal.returns-then-compare_exchange-eq0-clause-told
returns-then-compare_exchange-eq0-clause-told c = let d = (c.compare_exchange.ensures.2 c.args.file refl).0 c.if-compare_exchange-eq0.true in
    handed_told c.args.seat.now.me c.compare_exchange.new.seat.me c.exchange.result c.args.file d c.exchange.ensures.2
