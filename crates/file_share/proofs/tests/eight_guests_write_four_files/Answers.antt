use Rattle.std.proofs.Common.{sym, ap, ◌∙◌, subst}
use Rattle.file_share.specs.Known.{Known, IsIdle}
use Rattle.file_share.proofs.TestTurns.{four_pushed, first_idle, parent_idle, split_table}
use Rattle.file_share.proofs.tests.eight_guests_write_four_files.Goals as goal

pub join-requires-after_bounds : goal.join-requires-after_bounds
join-requires-after_bounds g c κs within =
    let t = c.in_ok-table.table in
    let start = ap (λ (k : Known). k.table) c.in_ok-table.ensures.first in
    let count = c.in_ok-table.ensures.count ∙ four_pushed (record { size = 1; fill = 7 }) c.new-firsts.result c.push.new.self c.push-2.new.self c.push-3.new.self c.push-4.new.self c.new-firsts.ensures c.in_ok-push.ensures.ok c.in_ok-push-2.ensures.ok c.in_ok-push-3.ensures.ok c.in_ok-push-4.ensures.ok in
    let ax = split_table t c.in_ok-table.first c.split-a.new.pass c.split-a.result 0 start c.split-a.ensures.kept c.split-a.ensures.given in
    let bx = split_table t c.split-a.new.pass c.split-b.new.pass c.split-b.result 1 ax.0 c.split-b.ensures.kept c.split-b.ensures.given in
    let cx = split_table t c.split-b.new.pass c.split-c.new.pass c.split-c.result 2 bx.0 c.split-c.ensures.kept c.split-c.ensures.given in
    let dx = split_table t c.split-c.new.pass c.split-d.new.pass c.split-d.result 3 cx.0 c.split-d.ensures.kept c.split-d.ensures.given in
    let ex = split_table t c.split-d.new.pass c.split-e.new.pass c.split-e.result 4 dx.0 c.split-e.ensures.kept c.split-e.ensures.given in
    let fx = split_table t c.split-e.new.pass c.split-f.new.pass c.split-f.result 5 ex.0 c.split-f.ensures.kept c.split-f.ensures.given in
    let gx = split_table t c.split-f.new.pass c.split-g.new.pass c.split-g.result 6 fx.0 c.split-g.ensures.kept c.split-g.ensures.given in
    let hx = split_table t c.split-g.new.pass c.split-h.new.pass c.split-h.result 7 gx.0 c.split-h.ensures.kept c.split-h.ensures.given in
    ((ax.1, bx.1, cx.1, dx.1, count, ax.2, bx.2, cx.2, dx.2), (ex.1, fx.1, gx.1, hx.1, count, ex.2, fx.2, gx.2, hx.2))

pub check_file-requires-clause-idle : goal.check_file-requires-clause-idle
check_file-requires-clause-idle g c =
    let start : IsIdle c.in_ok-table.first.view = subst (λ (k : Known). IsIdle k.view) (sym c.in_ok-table.ensures.first) (first_idle c.in_ok-table.table c.push-4.new.self 0) in
    let ax = parent_idle c.in_ok-table.first c.split-a.new.pass 0 c.split-a.ensures.kept start in
    let bx = parent_idle c.split-a.new.pass c.split-b.new.pass 1 c.split-b.ensures.kept ax in
    let cx = parent_idle c.split-b.new.pass c.split-c.new.pass 2 c.split-c.ensures.kept bx in
    let dx = parent_idle c.split-c.new.pass c.split-d.new.pass 3 c.split-d.ensures.kept cx in
    let ex = parent_idle c.split-d.new.pass c.split-e.new.pass 4 c.split-e.ensures.kept dx in
    let fx = parent_idle c.split-e.new.pass c.split-f.new.pass 5 c.split-f.ensures.kept ex in
    let gx = parent_idle c.split-f.new.pass c.split-g.new.pass 6 c.split-g.ensures.kept fx in
    let hx = parent_idle c.split-g.new.pass c.split-h.new.pass 7 c.split-h.ensures.kept gx in
    hx
