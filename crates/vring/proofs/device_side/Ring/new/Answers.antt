use Rattle.std.proofs.Common.{sym, arith}
use Rattle.vring.proofs.LayoutLemmas.{far, layout_if}
use Rattle.vring.proofs.device_side.Ring.new.Goals as goal
use Rattle.vring.proofs.device_side.Ring.new.Goals.{then-desc-limit-via-then-desc-limit, then-desc-limit-via-else-desc-limit+then-avail-limit, then-desc-limit-via-else-desc-limit+else-avail-limit+then-used-limit}

pub returns-then-desc-limit-clause-ring : goal.returns-then-desc-limit-clause-ring
returns-then-desc-limit-clause-ring c =
    far _ _ (omega arith) (λ h.
    elim c.then-desc-limit.branch [
      | then-desc-limit-via-then-desc-limit w ↦ omega (arith, h.descriptors)
      | then-desc-limit-via-else-desc-limit+then-avail-limit w ↦ omega (arith, h.available)
      | then-desc-limit-via-else-desc-limit+else-avail-limit+then-used-limit w ↦ omega (arith, h.used)
    ])

pub invariant_of-result : goal.invariant_of-result
invariant_of-result c = layout_if _ (sym c.if-not-is_allowed.ensures) (omega arith)
