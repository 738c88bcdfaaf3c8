use Rattle.std.proofs.Common.{rules, ◌∙◌}
use Rattle.range_share.proofs.Opening.{starts}
use Rattle.range_share.proofs.share.open.Goals as goal

pub new-requires : goal.new-requires
new-requires c = let z = c.args.sizes in starts z.ranges z.files z.movers c.as_slice.result.now c.in_ok-trees.trees.items c.requires.few.0 c.requires.few.1 (c.as_slice.ensures.value ∙ search rules) c.in_ok-trees.ensures
