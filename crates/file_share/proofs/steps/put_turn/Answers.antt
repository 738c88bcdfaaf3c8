use Rattle.std.proofs.Common.{rules, refl, ap, ◌∙◌, subst, sym}
use Rattle.atomic_table.specs.Table.{rest}
use Rattle.files_core.specs.Files.{give_turn, with_entry}
use Rattle.file_share.specs.Table.{Knows, part, first_at}
use Rattle.file_share.specs.Steps.{DoesOn, Always}
use Rattle.file_share.proofs.Stepping.{gives_back}
use Rattle.file_share.proofs.steps.put_turn.Goals as goal

pub store-requires : goal.store-requires
store-requires c = let a = c.requires.at in let e = c.exchange.ensures in let same = ap (λ m. m.0) e.3 in let f = c.args.file in let h = c.requires.hand in (
  e.0 ∙ a.same,
  search rules,
  gives_back _ _ _ _ (ap (λ (v : Knows). v.live) same ∙ a.live) a.inside c.args.hand _ (ap (λ (v : Knows). (part v f).turn) same ∙ c.requires.turn.0)
      (h.0 ∙ sym (ap (λ (v : Knows). first_at v f) same)) (h.1 ∙ sym (ap (λ (v : Knows). with_entry (part v f).seen (part v f).applied) same)) (ap (λ m. m.1) e.3),
)

pub returns-clause-deed : goal.returns-clause-deed
returns-clause-deed c = let e = c.exchange.ensures in let same = ap (λ m. m.0) e.3 in let d = c.store.ensures.2 c.args.file refl in
    (subst (λ (v : Knows). DoesOn c.args.file give_turn Always v c.store.new.seat.me.0) same d.0, d.1 ∙ (ap (λ m. rest m.1) e.3 ∙ ap rest c.requires.turn.1))
