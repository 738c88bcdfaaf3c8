use Rattle.std.proofs.Common.{arith}
use Rattle.fuse_wire.specs.Mappings.{remove_one}
use Rattle.fuse_codec.proofs.Ones.{put_more, put_end}
use Rattle.fuse_codec.proofs.encoding.put_removes.Goals as goal

pub loop-one-preserved : goal.loop-one-preserved
loop-one-preserved c = record {
  text = rw (c.put-in-loop-one.ensures.text, c.put.ensures.clean) (put_more remove_one c.loop-one.out.items c.args.ones.now c.loop-one.one-index _ _ c.loop-one-test.true c.loop-one.invariant.text);
  len = omega (arith, c.put-in-loop-one.ensures.len, c.loop-one.invariant.len);
  room = omega (arith, c.put-in-loop-one.ensures.capacity, c.loop-one.invariant.room);
}

pub returns : goal.returns
returns c = record { text = put_end remove_one c.loop-one.out.items c.args.ones.now c.loop-one.one-index _ c.loop-one-test.false c.loop-one.invariant.text }
