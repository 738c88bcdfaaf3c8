use Rattle.std.proofs.Common.{arith, ◌≡◌, ◌∙◌, Some}
use Rattle.fuse_wire.specs.Forgets.{forget_one_at, forget_one_of}
use Rattle.fuse_codec.proofs.Ones.{read_step, read_end}
use Rattle.fuse_codec.proofs.decoding.forgets_at.Goals as goal

pub loop-preserved : goal.loop-preserved
unfolding forget_one_of
loop-preserved c =
    let read : forget_one_of c.split_at.result.0.now ≡ Some c.unwrap-one.result = cc in
    record {
      length = omega arith;
      so_far = rw (c.in_ok-push.ensures.items, c.split_at.ensures.back) (read_step forget_one_at c.loop.ones.items c.args.count c.loop.counter c.loop.rest.now c.split_at.result.0.now c.unwrap-one.result _ c.loop-test.true c.split_at.ensures.front read c.loop.invariant.so_far);
    }

pub returns : goal.returns
returns c = c.from_vec.ensures ∙ read_end forget_one_at c.loop.ones.items c.args.count c.loop.counter c.loop.rest.now _ c.loop-test.false c.loop.invariant.so_far
