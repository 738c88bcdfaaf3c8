use Rattle.std.proofs.Common.{◌≡◌, ◌∙◌, ap, sym, subst, ◌≤◌, rules, List, ℕ, Ok, Some}
use Rattle.vring.specs.Driver.{used_at}
use Rattle.dax_host.specs.Queue.{QueueView, IsOffered}
use Rattle.dax_host.proofs.Carrying.{taken_back, taken_alone}
use Rattle.dax_host.proofs.transport.Sides.push.Goals as goal

pub unreachable-requires : goal.unreachable-requires
unreachable-requires c =
    let driver = c.self.inside.driver in
    let q : QueueView = record { driver = driver; ring = c.self.inside.ring; memory = c.self.inside.memory } in
    let out = subst (λ (v : QueueView). IsOffered v c.args.room) (sym c.self.view_is) c.requires.out in
    let fits = subst (λ (v : QueueView). c.args.room ≤ v.driver.part) (sym c.self.view_is) c.requires.room in
    let back = taken_back q c.args.room c.args.len out fits c.requires.fits c.used_index.ensures.fits in
    let found = ap (λ (m : List ℕ). used_at m driver.size driver.taken driver.room) c.push_used.ensures.memory ∙ back in
    let taken : c.take_used.result ≡ Ok (Some (record { head = 0; len = c.args.len })) = taken_alone driver _ _ _ c.take_used.result found c.take_used.ensures in
    search rules
