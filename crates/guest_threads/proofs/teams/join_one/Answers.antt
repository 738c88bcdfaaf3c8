use Rattle.std.proofs.Common.{sym, subst}
use Rattle.dax_host.specs.Host.{host_wire}
use Rattle.guest_threads.proofs.Joining.{IsFinished, finished, finished_idle, joins_one}
use Rattle.guest_threads.proofs.teams.join_one.Goals as goal

pub join-requires-clause-free : goal.join-requires-clause-free
join-requires-clause-free c =
    let p = c.args.file_pass.now in
    let q = c.args.range_pass.now in
    let j = c.args.job in
    let n = j.guest.dax.files.pass.view.guest in
    let made = c.finish.result in
    let e = c.finish.ensures in
    let done = finished p q n j c.requires.job (host_wire made.driver.wire) made.refs made.files.pass made.ranges.pass e.home e.rest e.entries e.logs e.pins e.leases e.refusals e.rounds e.sweeps in
    let fin = subst (λ x. IsFinished p q n j x.1.pass x.2.pass) (sym c.into_parts-client.ensures) done in
    (λ f. (c.requires.first.files_idle f).0, fin.files_idle)

pub join-requires-2-clause-free : goal.join-requires-2-clause-free
join-requires-2-clause-free c =
    let p = c.args.file_pass.now in
    let q = c.args.range_pass.now in
    let j = c.args.job in
    let n = j.guest.dax.files.pass.view.guest in
    let made = c.finish.result in
    let e = c.finish.ensures in
    let done = finished p q n j c.requires.job (host_wire made.driver.wire) made.refs made.files.pass made.ranges.pass e.home e.rest e.entries e.logs e.pins e.leases e.refusals e.rounds e.sweeps in
    let fin = subst (λ x. IsFinished p q n j x.1.pass x.2.pass) (sym c.into_parts-client.ensures) done in
    let parts = c.into_parts-client.result in
    (c.requires.first.ranges_idle, finished_idle p q n j parts.1.pass parts.2.pass fin c.sound-2.ensures.showing)

pub returns-clause-joined : goal.returns-clause-joined
returns-clause-joined c =
    let p = c.args.file_pass.now in
    let q = c.args.range_pass.now in
    let j = c.args.job in
    let n = j.guest.dax.files.pass.view.guest in
    let made = c.finish.result in
    let e = c.finish.ensures in
    let done = finished p q n j c.requires.job (host_wire made.driver.wire) made.refs made.files.pass made.ranges.pass e.home e.rest e.entries e.logs e.pins e.leases e.refusals e.rounds e.sweeps in
    let fin = subst (λ x. IsFinished p q n j x.1.pass x.2.pass) (sym c.into_parts-client.ensures) done in
    let parts = c.into_parts-client.result in
    joins_one p q n j parts.1.pass parts.2.pass c.join.new.pass c.join-2.new.pass c.requires.first c.requires.out.0.1 c.requires.out.1.1 fin c.sound.ensures.parts c.join.ensures c.join-2.ensures
