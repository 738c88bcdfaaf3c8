use Rattle.fuse_wire.specs.Attributes.{attr_rec_at}
use Rattle.fuse_wire.proofs.attributes.attributes_in.Goals as goal

pub returns : goal.returns
unfolding attr_rec_at
returns c = λ i. record { ino = c.u64_at.ensures i; size = c.u64_at-2.ensures i; blocks = c.u64_at-3.ensures i; atime = c.u64_at-4.ensures i; mtime = c.u64_at-5.ensures i; ctime = c.u64_at-6.ensures i; atimensec = c.u32_at.ensures i; mtimensec = c.u32_at-2.ensures i; ctimensec = c.u32_at-3.ensures i; mode = c.u32_at-4.ensures i; nlink = c.u32_at-5.ensures i; uid = c.u32_at-6.ensures i; gid = c.u32_at-7.ensures i; rdev = c.u32_at-8.ensures i; blksize = c.u32_at-9.ensures i; flags = c.u32_at-10.ensures i }
