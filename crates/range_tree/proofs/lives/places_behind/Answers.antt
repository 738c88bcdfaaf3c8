use Rattle.std.proofs.Common.{◌≡◌, ◌∙◌, ap, sym, ℕ, ◌-◌, ◌+◌, ◌<◌, length, drop, if◌then◌else◌, Option, Some, None, unwrap_or, arith}
use Rattle.std.proofs.lemmas.Grind.{common_steps}
use Rattle.std.proofs.lemmas.List.{drop_all}
use Rattle.std.specs.Ordering.{nat_cmp}
use Rattle.std.specs.BTreeMap as tree
use Rattle.range_tree.specs.Behind.{is_number, ends, next_from, behind}
use Rattle.range_tree.proofs.Behind.{behind_more, next_more}
use Rattle.range_tree.proofs.lives.places_behind.Goals as goal

pub loop-at-init : goal.loop-at-init
unfolding behind next_from
loop-at-init c =
    let log = c.args.log.now in
    let end = length log in
    let many : length c.in_ok-places.places.items ≡ end = grind (arith, common_steps) in
    let nothing = drop_all end log (omega arith) in
    record {
      within = omega arith;
      many = many;
      done = drop_all end c.in_ok-places.places.items (omega (arith, many)) ∙ sym (ap (behind c.args.up end) nothing);
      known = λ q.
          let none : tree.get nat_cmp c.new-next.result q ≡ None = grind (arith, common_steps) in
          ap (λ (o : Option ℕ). unwrap_or o end) none ∙ sym (ap (next_from (ends c.args.up q) end) nothing);
    }

pub loop-at-preserved : goal.loop-at-preserved
loop-at-preserved c =
    let log = c.args.log.now in
    let up = c.args.up in
    let at = c.loop-at.at in
    let i = at - 1 in
    let inv = c.loop-at.invariant in
    let is : at ≡ i + 1 = omega arith in
    let low : i < length log = omega (arith, inv.within) in
    let next = c.place_in.ensures ∙ inv.known c.range_of.result ∙ ap (λ r. next_from (ends up r) at (drop at log)) c.range_of.ensures in
    record {
      within = omega (arith, inv.within);
      many = grind (arith, common_steps, inv.many);
      done = behind_more up log c.loop-at.places.items at i c.place_in.result _ is low inv.many inv.done next;
      known = λ q. next_more up log at i q _ (tree.get nat_cmp c.loop-at.next q) (tree.get nat_cmp c.note_place.new.next q) is low (inv.known q)
          (c.in_ok-note_place.ensures q ∙ ap (λ (o : Option ℕ). if is_number q o then Some i else tree.get nat_cmp c.loop-at.next q) c.ended.ensures);
    }
