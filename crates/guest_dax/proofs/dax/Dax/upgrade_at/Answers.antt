use Rattle.std.proofs.Common.{◌∙◌, ap, refl, inr, arith}
use Rattle.page_map.specs.declared.pages.Mode.TheVariants as modes
use Rattle.page_map.specs.declared.ranges.Placed.{Placed}
use Rattle.page_map.specs.Logs.{Slot}
use Rattle.page_map.specs.Board.{MapView, Hands}
use Rattle.guest_dax.specs.Stands.{stand}
use Rattle.guest_dax.proofs.Walking.{Keeps-both, Keeps-map}
use Rattle.guest_dax.proofs.Placing.{slotted-in}
use Rattle.guest_dax.proofs.PinLaws.{pin-had}
use Rattle.guest_dax.proofs.Upgrading.{may-set-placed, KeepsMap-more-log, upgraded-is, placed-kept, log-grown, raisable, had-tree-kept}
use Rattle.guest_dax.proofs.dax.Dax.upgrade_at.Goals as goal

pub map_chunk-requires-clause-range : goal.map_chunk-requires-clause-range
map_chunk-requires-clause-range g c = (slotted-in (g.R.MapBoard.map c.args.self.now.ranges) c.args.file c.args.chunk (record { range = c.args.range; mode = modes.R; entry = c.requires.placed.entry }) c.requires.tree c.sound_ranges.ensures c.requires.placed.placed).within

pub map_chunk-requires-clause-held : goal.map_chunk-requires-clause-held
map_chunk-requires-clause-held g c = inr (pin-had (g.R.MapBoard.map c.args.self.now.ranges) c.args.file c.args.chunk (record { range = c.args.range; mode = modes.R; entry = c.requires.placed.entry }) c.requires.tree c.sound_ranges.ensures c.requires.placed.placed)

pub map_chunk-requires-clause-may : goal.map_chunk-requires-clause-may
map_chunk-requires-clause-may g c =
    let v = g.R.MapBoard.map c.args.self.now.ranges in
    let p : Placed = record { range = c.args.range; mode = modes.R; entry = c.requires.placed.entry } in
    let s : Slot = record { chunk = c.args.chunk; range = c.args.range; mode = modes.R; entry = c.requires.placed.entry } in
    may-set-placed v c.args.file c.args.chunk c.args.range s c.requires.tree (omega (arith, c.requires.file, c.requires.stands.refs_of, c.requires.stands.logs)) c.requires.chunk (slotted-in v c.args.file c.args.chunk p c.requires.tree c.sound_ranges.ensures c.requires.placed.placed).there refl

pub upgrade-requires : goal.upgrade-requires
upgrade-requires g c =
    let v = g.R.MapBoard.map c.args.self.now.ranges in
    let w = g.R.MapBoard.map c.map_chunk.new.self.ranges in
    let (rest, mapped) = c.in_ok-map_chunk.ensures.maps in
    let tree = ap (λ (h : Hands). h.tree) rest.hands ∙ c.requires.tree in
    let p : Placed = record { range = c.args.range; mode = modes.R; entry = c.requires.placed.entry } in
    record {
      tree = had-tree-kept w c.args.file tree;
      raisable = raisable w c.args.file c.args.chunk c.args.range c.requires.placed.entry tree (placed-kept v w c.args.file c.args.chunk p rest.logs c.requires.placed.placed) mapped;
    }

pub returns-clause-keeps : goal.returns-clause-keeps
returns-clause-keeps g c =
    let s = stand (g.W.Wire.wire c.args.self.now.driver.wire) (g.F.FileBoard.board c.args.self.now.files) (g.R.MapBoard.map c.args.self.now.ranges) in
    let t = stand (g.W.Wire.wire c.map_chunk.new.self.driver.wire) (g.F.FileBoard.board c.map_chunk.new.self.files) (g.R.MapBoard.map c.map_chunk.new.self.ranges) in
    let (rest, mapped) = c.in_ok-map_chunk.ensures.maps in
    let p : Placed = record { range = c.args.range; mode = modes.R; entry = c.requires.placed.entry } in
    let is = upgraded-is t.map c.args.file c.args.chunk p _ (ap (λ (h : Hands). h.tree) rest.hands ∙ c.requires.tree) (placed-kept s.map t.map c.args.file c.args.chunk p rest.logs c.requires.placed.placed) c.upgrade.ensures in
    Keeps-both s t _ c.map_chunk.ensures.keeps (Keeps-map t _ (KeepsMap-more-log t.map c.args.file _ _ is))

pub returns-clause-upgrades : goal.returns-clause-upgrades
returns-clause-upgrades g c =
    let v = g.R.MapBoard.map c.args.self.now.ranges in
    let w = g.R.MapBoard.map c.map_chunk.new.self.ranges in
    let (rest, mapped) = c.in_ok-map_chunk.ensures.maps in
    let p : Placed = record { range = c.args.range; mode = modes.R; entry = c.requires.placed.entry } in
    let is = upgraded-is w c.args.file c.args.chunk p _ (ap (λ (h : Hands). h.tree) rest.hands ∙ c.requires.tree) (placed-kept v w c.args.file c.args.chunk p rest.logs c.requires.placed.placed) c.upgrade.ensures in (
      ap (λ (m : MapView). m.hands) is ∙ rest.hands,
      record { range = c.args.range; read_only = c.requires.placed; grown = log-grown v w c.args.file _ _ (omega (arith, c.requires.file, c.requires.stands.refs_of, c.requires.stands.logs)) rest.logs is },
    )
