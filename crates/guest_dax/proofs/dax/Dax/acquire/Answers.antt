use Rattle.guest_dax.specs.Stands.{stand}
use Rattle.guest_dax.proofs.Keeping.{KeepsMap-both}
use Rattle.guest_dax.proofs.Walking.{Keeps-map, Keeps-both}
use Rattle.guest_dax.proofs.Rounds.{FirstRound-keeps, busy-acquires}
use Rattle.std.proofs.Common.{refl, inl}
use Rattle.guest_dax.proofs.dax.Dax.acquire.Goals as goal

pub returns-then-first_round-clause-keeps : goal.returns-then-first_round-clause-keeps
returns-then-first_round-clause-keeps g c =
    let s = stand (g.W.Wire.wire c.args.self.now.driver.wire) (g.F.FileBoard.board c.args.self.now.files) (g.R.MapBoard.map c.args.self.now.ranges) in
    Keeps-map s _ (KeepsMap-both s.map (g.R.MapBoard.map c.first_round.new.ranges) _ (FirstRound-keeps s.map c.first_round.result _ c.first_round.ensures) c.forget.ensures.keeps)

pub returns-in-Ok-true-clause-keeps : goal.returns-in-Ok-true-clause-keeps
returns-in-Ok-true-clause-keeps g c =
    let s = stand (g.W.Wire.wire c.args.self.now.driver.wire) (g.F.FileBoard.board c.args.self.now.files) (g.R.MapBoard.map c.args.self.now.ranges) in
    let t = stand (g.W.Wire.wire c.args.self.now.driver.wire) (g.F.FileBoard.board c.args.self.now.files) (g.R.MapBoard.map c.first_round.new.ranges) in
    let u = stand (g.W.Wire.wire c.second_round.new.self.driver.wire) (g.F.FileBoard.board c.second_round.new.self.files) (g.R.MapBoard.map c.second_round.new.self.ranges) in
    Keeps-both s t _ (Keeps-map s t.map (FirstRound-keeps s.map c.first_round.result t.map c.first_round.ensures)) (Keeps-both t u _ c.second_round.ensures.walks.keeps (Keeps-map u _ c.forget-in-Ok-true.ensures.keeps))

pub returns-in-Err-clause-keeps : goal.returns-in-Err-clause-keeps
returns-in-Err-clause-keeps g c =
    let s = stand (g.W.Wire.wire c.args.self.now.driver.wire) (g.F.FileBoard.board c.args.self.now.files) (g.R.MapBoard.map c.args.self.now.ranges) in
    let t = stand (g.W.Wire.wire c.args.self.now.driver.wire) (g.F.FileBoard.board c.args.self.now.files) (g.R.MapBoard.map c.first_round.new.ranges) in
    let u = stand (g.W.Wire.wire c.second_round.new.self.driver.wire) (g.F.FileBoard.board c.second_round.new.self.files) (g.R.MapBoard.map c.second_round.new.self.ranges) in
    Keeps-both s t _ (Keeps-map s t.map (FirstRound-keeps s.map c.first_round.result t.map c.first_round.ensures)) (Keeps-both t u _ c.second_round.ensures.walks.keeps (Keeps-map u _ c.forget-in-Err.ensures.keeps))

pub returns-in-Ok-false-clause-keeps : goal.returns-in-Ok-false-clause-keeps
returns-in-Ok-false-clause-keeps g c =
    let s = stand (g.W.Wire.wire c.args.self.now.driver.wire) (g.F.FileBoard.board c.args.self.now.files) (g.R.MapBoard.map c.args.self.now.ranges) in
    let t = stand (g.W.Wire.wire c.args.self.now.driver.wire) (g.F.FileBoard.board c.args.self.now.files) (g.R.MapBoard.map c.first_round.new.ranges) in
    let u = stand (g.W.Wire.wire c.second_round.new.self.driver.wire) (g.F.FileBoard.board c.second_round.new.self.files) (g.R.MapBoard.map c.second_round.new.self.ranges) in
    rw (c.busy.ensures.driver, c.busy.ensures.files) (
    Keeps-both s t _ (Keeps-map s t.map (FirstRound-keeps s.map c.first_round.result t.map c.first_round.ensures)) (Keeps-both t u _ c.second_round.ensures.walks.keeps (Keeps-map u _ c.busy.ensures.keeps)))

pub returns-in-Ok-false-clause-acquires : goal.returns-in-Ok-false-clause-acquires
returns-in-Ok-false-clause-acquires g c =
    let s = stand (g.W.Wire.wire c.args.self.now.driver.wire) (g.F.FileBoard.board c.args.self.now.files) (g.R.MapBoard.map c.args.self.now.ranges) in
    let u = stand (g.W.Wire.wire c.second_round.new.self.driver.wire) (g.F.FileBoard.board c.second_round.new.self.files) (g.R.MapBoard.map c.second_round.new.self.ranges) in
    rw (c.busy.ensures.driver, c.busy.ensures.files) (
    busy-acquires s (g.R.MapBoard.map c.first_round.new.ranges) u c.busy.result _ (rw c.if-first_round.false at c.first_round.ensures) c.second_round.ensures.walks (rw c.in-Ok-false.field-0-test at c.in-Ok-false.ensures.round) c.busy.ensures.busy)

pub returns-then-first_round-clause-removed : goal.returns-then-first_round-clause-removed
returns-then-first_round-clause-removed g c = inl (refl, refl)

pub returns-in-Ok-true-clause-removed : goal.returns-in-Ok-true-clause-removed
returns-in-Ok-true-clause-removed g c = rw c.forget-in-Ok-true.ensures.hands (c.in-Ok-true.ensures.removed c.in-Ok-true.field-0-test)
