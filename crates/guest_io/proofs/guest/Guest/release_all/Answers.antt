use Rattle.std.proofs.Common.{◌∙◌, arith, rules}
use Rattle.guest_io.proofs.HoldLaws.{LeavesRest-both, SameEntries-both}
use Rattle.guest_io.proofs.HoldReleasing.{count-none}
use Rattle.guest_io.proofs.guest.Guest.release_all.Goals as goal

pub loop-hold-preserved : goal.loop-hold-preserved
loop-hold-preserved g c =
    let k = c.loop-hold.invariant in
    let e = c.release-released.ensures in (
      e.home,
      e.holds,
      LeavesRest-both _ _ _ k.2 e.rest,
      SameEntries-both _ _ _ k.3 e.entries,
      λ none. e.looks (k.4 none),
      e.logs ∙ k.5,
      e.driver ∙ k.6,
      e.refs ∙ k.7,
      search rules,
      e.rounds ∙ k.9,
      e.sweeps ∙ k.10,
      λ file. e.refusals file ∙ k.11 file,
    )

pub returns-clause-none : goal.returns-clause-none
returns-clause-none g c =
    let k = c.loop-hold.invariant in
    let slots = (k.1).slots in
    count-none c.loop-hold.self.holds.slots (λ n lo. k.8 n (omega (arith, lo, slots, c.loop-hold-test.false)))
