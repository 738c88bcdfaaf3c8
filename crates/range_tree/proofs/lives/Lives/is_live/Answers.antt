use Rattle.std.proofs.Common.{◌≡◌, ◌∙◌, ap, false, true, length, get_or, arith}
use Rattle.std.proofs.lemmas.Grind.{common_steps}
use Rattle.range_tree.specs.Behind.{lasts_till}
use Rattle.range_tree.proofs.Behind.{behind_length, live_by}
use Rattle.range_tree.proofs.lives.Lives.is_live.Goals as goal

pub index-requires : goal.index-requires
index-requires c =
    let l = c.args.self.now in
    omega (arith, ap length l.removals, behind_length false 0 l.log.now)

pub index-requires-2 : goal.index-requires-2
index-requires-2 c =
    let l = c.args.self.now in
    omega (arith, ap length l.upgrades, behind_length true 0 l.log.now)

pub returns : goal.returns
returns c =
    let l = c.args.self.now in
    let k = c.args.entry in
    let removed : c.index.result.now ≡ get_or l.removed.items k c.index.result.now = grind (arith, common_steps) in
    let upgraded : c.index-2.result.now ≡ get_or l.upgraded.items k c.index-2.result.now = grind (arith, common_steps) in
    c.lasts_till.ensures ∙ ap (λ n. lasts_till c.args.write (get_or l.log.now k _) c.args.chunk c.args.upto n c.index-2.result.now) removed
    ∙ ap (λ n. lasts_till c.args.write (get_or l.log.now k _) c.args.chunk c.args.upto (get_or l.removed.items k c.index.result.now) n) upgraded
    ∙ live_by c.args.write l.log.now c.args.chunk k c.args.upto _ l.removed.items l.upgraded.items c.index.result.now c.index-2.result.now c.if-entry-upto.false c.if-upto-self.false l.removals l.upgrades
