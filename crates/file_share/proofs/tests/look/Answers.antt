use Rattle.std.proofs.Common.{true, false}
use Rattle.file_share.proofs.TestLeases.{has_leased, has_entered, has_looked, has_left, has_unleased}
use Rattle.file_share.proofs.tests.look.Goals as goal

pub returns : goal.returns
returns g c =
    let t = c.args.table.now in
    let v = c.args.pass.now.view.guest in
    let f = c.args.file in
    let a = has_leased t v f false 0 false c.args.pass.now c.lease-noted.new.self c.requires c.lease-noted.result c.lease-noted.ensures in
    let b = has_entered t v f false 1 false c.lease-noted.new.self c.enter.new.self a c.enter.ensures.deed c.enter.ensures.entered in
    let d = has_looked t v f true 1 false c.enter.new.self c.size_now-size.new.self b c.size_now-size.result c.size_now-size.ensures in
    let e = has_left t v f true 1 false c.size_now-size.new.self c.leave.new.self d c.leave.ensures in
    has_unleased t v f false 1 false c.leave.new.self c.unlease.new.self e c.unlease.ensures
