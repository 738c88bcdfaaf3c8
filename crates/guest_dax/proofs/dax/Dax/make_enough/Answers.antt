use Rattle.std.proofs.Common.{refl}
use Rattle.guest_dax.specs.Stands.{stand}
use Rattle.guest_dax.proofs.Walking.{Keeps-same}
use Rattle.guest_dax.proofs.Upgrading.{needs-placed, enough-after, enough-none, not-enough-at}
use Rattle.guest_dax.proofs.dax.Dax.make_enough.Goals as goal

pub upgrade_at-requires-clause-placed : goal.upgrade_at-requires-clause-placed
upgrade_at-requires-clause-placed g c =
    let (mode, (entry, e)) = c.in-Some.ensures {u = tt} in
    needs-placed (g.R.MapBoard.map c.args.self.now.ranges) c.args.file c.args.chunk c.find.result c.in-Some.range entry c.requires.tree c.find.ensures.placed e

pub returns-in-Some-clause-enough : goal.returns-in-Some-clause-enough
returns-in-Some-clause-enough g c =
    let s = stand (g.W.Wire.wire c.args.self.now.driver.wire) (g.F.FileBoard.board c.args.self.now.files) (g.R.MapBoard.map c.args.self.now.ranges) in
    let t = stand (g.W.Wire.wire c.upgrade_at.new.self.driver.wire) (g.F.FileBoard.board c.upgrade_at.new.self.files) (g.R.MapBoard.map c.upgrade_at.new.self.ranges) in
    enough-after s c.args.file c.args.chunk c.args.mode c.upgrade_at.result t c.upgrade_at.ensures.upgrades

pub returns-in-Some-clause-quiet : goal.returns-in-Some-clause-quiet
returns-in-Some-clause-quiet g c enough =
    let (mode, (entry, e)) = c.in-Some.ensures {u = tt} in
    absurd (not-enough-at (g.R.MapBoard.map c.args.self.now.ranges) c.args.file c.args.chunk c.args.mode c.find.result c.in-Some.range entry c.requires.tree c.find.ensures.placed mode e enough)

pub returns-in-None-clause-keeps : goal.returns-in-None-clause-keeps
returns-in-None-clause-keeps g c = Keeps-same _

pub returns-in-None-clause-enough : goal.returns-in-None-clause-enough
returns-in-None-clause-enough g c = (refl, enough-none (g.R.MapBoard.map c.args.self.now.ranges) c.args.file c.args.chunk c.args.mode c.find.result c.requires.tree c.find.ensures.placed (c.in-None.ensures {u = tt}), λ none. none)

pub returns-in-Some-clause-still : goal.returns-in-Some-clause-still
returns-in-Some-clause-still g c enough =
    let (mode, (entry, e)) = c.in-Some.ensures {u = tt} in
    absurd (not-enough-at (g.R.MapBoard.map c.args.self.now.ranges) c.args.file c.args.chunk c.args.mode c.find.result c.in-Some.range entry c.requires.tree c.find.ensures.placed mode e enough)
