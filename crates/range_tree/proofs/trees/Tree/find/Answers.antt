use Rattle.std.proofs.Common.{◌≡◌, sym, subst, Some, Option, rules}
use Rattle.page_map.specs.declared.ranges.Placed.{Placed}
use Rattle.page_map.specs.Logs.{placed_at}
use Rattle.range_tree.specs.Logs.{Finds}
use Rattle.range_tree.specs.Trees.{max_ranges}
use Rattle.range_tree.proofs.Living.{finds-placed}
use Rattle.range_tree.proofs.trees.Tree.find.Goals as goal

pub returns-in_err-spot-clause-live : goal.returns-in_err-spot-clause-live
unfolding placed_at
returns-in_err-spot-clause-live c =
    let at : c.from_residual.result ≡ placed_at c.args.self.now c.args.chunk = search rules in
    subst (λ (o : Option Placed). Finds c.args.self.now c.args.chunk o) (sym at) (finds-placed max_ranges c.args.self.now c.args.chunk (search rules))

pub returns-clause-live : goal.returns-clause-live
unfolding placed_at
returns-clause-live c =
    let at : Some (record { range = c.in_ok-spot.spot.range; mode = c.in_ok-spot.spot.mode; entry = c.in_ok-spot.spot.entry }) ≡ placed_at c.args.self.now c.args.chunk = search rules in
    subst (λ (o : Option Placed). Finds c.args.self.now c.args.chunk o) (sym at) (finds-placed max_ranges c.args.self.now c.args.chunk (search rules))
