use Rattle.std.proofs.Common.{refl, sym, ap, ◌∙◌, subst, ◌∷◌, Some, arith}
use Rattle.atomic_table.specs.Table.{rest}
use Rattle.window_core.specs.Window.{leave}
use Rattle.range_share.specs.Table.{Knows}
use Rattle.range_share.specs.Steps.{DoesSo, Always, branch_of}
use Rattle.range_share.proofs.Entering.{leaves_it}
use Rattle.range_share.proofs.steps.put_tree.Goals as goal

pub store-requires : goal.store-requires
store-requires c = let a = c.requires.at in let e = c.exchange.ensures in let same = ap (λ m. m.0) e.3 in let f = c.args.file in (
  e.0 ∙ a.0.same,
  (let b = a.0.wide in let l = a.1 in omega arith),
  leaves_it _ _ _ (ap (λ (v : Knows). v.live) same ∙ a.0.live) f _ a.1 (ap (λ (v : Knows). (branch_of v f).had) same ∙ c.requires.had.0)
      (ap (λ m. m.1) e.3 ∙ ap (λ l. (f, Some l) ∷ rest c.args.seat.now.me.1) (c.requires.hand ∙ ap (λ (v : Knows). (branch_of v f).seen) (sym same))),
)

pub returns-clause-deed : goal.returns-clause-deed
returns-clause-deed c = let e = c.exchange.ensures in let same = ap (λ m. m.0) e.3 in let d = c.store.ensures.2 c.args.file refl in
    (subst (λ (v : Knows). DoesSo (leave c.args.file) v.noted Always v c.store.new.seat.me.0) same d.0, d.1 ∙ (ap (λ m. rest m.1) e.3 ∙ ap rest c.requires.had.1))
