use Rattle.std.proofs.Common.{◌≡◌, ◌∙◌, refl, true, false, arith}
use Rattle.std.proofs.lemmas.Bool.Decides.{nat_tests}
use Rattle.vring.specs.Chain.{has}
use Rattle.vring.specs.Pieces.{total}
use Rattle.vring.specs.Parts.{parts_of}
use Rattle.vring.proofs.Steps.{follow_fault, follow_loop, follow_first, follow_end, follow_more}
use Rattle.vring.proofs.walks.follow.Goals as goal

pub returns-in-Some : goal.returns-in-Some
returns-in-Some c = follow_fault c.args.mem.now c.args.layout.now c.args.head c.walk.index (parts_of c.walk.chain) c.walk._count c.read_descriptor-d.result c.is_empty-written.result c.in-Some.fault (record { follows = c.walk.invariant.follows; short = omega arith; descriptor = c.read_descriptor-d.ensures; empty_is = c.is_empty-written.ensures }) c.in-Some.ensures.value

pub returns : goal.returns
returns c = follow_loop c.args.mem.now c.args.layout.now c.args.head c.walk.index (parts_of c.walk.chain) c.walk._count c.walk.invariant.follows (omega arith)

pub walk-init : goal.walk-init
unfolding total
walk-init c = rw c.begin.ensures (record { index = c.requires.head; head = refl; follows = follow_first c.args.mem.now c.args.layout.now c.args.head; readable = omega arith; writable = omega arith })

pub returns-then-d-eq0 : goal.returns-then-d-eq0
returns-then-d-eq0 c =
    let ends : has c.read_descriptor-d.result.flags 1 ≡ false = grind (arith, nat_tests, c.if-d-eq0.true) in
    let at = follow_end c.args.mem.now c.args.layout.now c.args.head c.walk.index (parts_of c.walk.chain) c.place.new.chain c.walk._count c.read_descriptor-d.result c.is_empty-written.result (record { follows = c.walk.invariant.follows; short = omega arith; descriptor = c.read_descriptor-d.ensures; empty_is = c.is_empty-written.ensures }) c.in_default.ensures.value ends (c.in_ok-place.ensures.head ∙ c.walk.invariant.head) c.in_ok-place.ensures.ok in
    rw at c.finish.ensures

pub walk-preserved : goal.walk-preserved
walk-preserved c =
    let goes : has c.read_descriptor-d.result.flags 1 ≡ true = grind (arith, nat_tests, c.if-d-eq0.false) in
    let next = c.in_default.ensures.next refl goes in
    record {
      index = next;
      head = c.in_ok-place.ensures.head ∙ c.walk.invariant.head;
      follows = rw c.in_ok-place.ensures.ok (follow_more c.args.mem.now c.args.layout.now c.args.head c.walk.index (parts_of c.walk.chain) c.walk._count c.read_descriptor-d.result c.is_empty-written.result (record { follows = c.walk.invariant.follows; short = omega arith; descriptor = c.read_descriptor-d.ensures; empty_is = c.is_empty-written.ensures }) c.in_default.ensures.value goes next);
      readable = omega (arith, c.in_ok-place.ensures.readable);
      writable = omega (arith, c.in_ok-place.ensures.writable);
    }
