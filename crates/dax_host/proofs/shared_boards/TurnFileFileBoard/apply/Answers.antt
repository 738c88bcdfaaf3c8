use Rattle.std.proofs.Common.{◌≡◌, ◌∙◌, ◌<◌, ◌++◌, ◌∷◌, [], ap, sym, subst, refl, length, arith}
use Rattle.std.proofs.lemmas.Grind.{common_steps}
use Rattle.plain_file.specs.Board.{BoardView}
use Rattle.plain_file.specs.declared.operations.Applied.{Applied}
use Rattle.dax_host.proofs.SharedBoards.{turn_bytes, turn_refuses, own_entry, turn_applies, grown_turn_file}
use Rattle.dax_host.proofs.shared_boards.TurnFileFileBoard.apply.Goals as goal

pub returns-then-refuses : goal.returns-then-refuses
returns-then-refuses c =
    let s = c.self.inside in
    let within = subst (λ (v : BoardView). c.args._file < length v.files) (sym c.self.view_is) c.requires.file in
    let refused = turn_refuses s.guest s.mark s.turn s.bar s.leases s.body s.own.items s.ready s.floor s.refusals s.refused c.args._file c.args.op within (sym c.refuses.ensures ∙ c.if-refuses.true) in (
      rw (← c.self.view_is) refused,
      c.size.ensures.value ∙ sym (ap length (turn_bytes c.args.self.now s.body s.own.items s.ready s.floor s.refusals s.refused c.args._file (ap (λ (v : BoardView). v.files) (sym c.self.view_is)) c.requires.file)),
      refl,
    )

pub invariant_of-self-2 : goal.invariant_of-self-2
invariant_of-self-2 c =
    let s = c.self.inside in
    let place : c.in_ok-applied.applied.place ≡ length s.body.history = ap (λ (a : Applied). a.place) c.in_ok-applied.ensures.answer in
    let own : c.push.new.self.items ≡ s.own.items ++ length s.body.history ∷ [] = grind (arith, common_steps, place) in
    rw (c.in_ok-applied.ensures.ok, own) (grown_turn_file s.guest s.bar s.leases s.floor s.body s.own.items s.coming.items (own_entry s.guest s.mark c.args.op) c.self.invariant refl (sym c.refuses.ensures ∙ c.if-refuses.false))

pub returns : goal.returns
returns c =
    let s = c.self.inside in
    let place : c.in_ok-applied.applied.place ≡ length s.body.history = ap (λ (a : Applied). a.place) c.in_ok-applied.ensures.answer in
    let own : c.push.new.self.items ≡ s.own.items ++ length s.body.history ∷ [] = grind (arith, common_steps, place) in
    let within = subst (λ (v : BoardView). c.args._file < length v.files) (sym c.self.view_is) c.requires.file in
    rw (← c.self.view_is, c.in_ok-applied.ensures.ok, own) (turn_applies s.guest s.mark s.turn s.bar s.leases s.body s.own.items s.ready s.floor s.refusals s.refused c.args._file c.args.op c.in_ok-applied.applied within (sym c.refuses.ensures ∙ c.if-refuses.false) c.in_ok-applied.ensures.answer)
