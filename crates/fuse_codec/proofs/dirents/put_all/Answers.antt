use Rattle.std.proofs.Common.{◌≡◌, ◌++◌, length, get_or, ◌∙◌, ap, subst, arith}
use Rattle.fuse_wire.specs.Layout.{clean}
use Rattle.fuse_codec.specs.declared.replies.Dirent.{Dirent}
use Rattle.fuse_codec.specs.Dirents.{entry_len, dirent_parts, SpellsDirent}
use Rattle.fuse_codec.proofs.DirentLaws.{none_spelled}
use Rattle.fuse_codec.proofs.LongestPrefix.{put_more, spelled_more, room_left}
use Rattle.fuse_codec.proofs.dirents.put_all.Goals as goal

pub loop-one-init : goal.loop-one-init
loop-one-init c = record {
  text = c.in_ok-out.ensures.items;
  spelled = rw c.in_ok-out.ensures.items none_spelled;
  room = omega (arith, c.requires, ap length c.in_ok-out.ensures.items, c.in_ok-out.ensures.capacity);
}

pub put_dirent-requires : goal.put_dirent-requires
put_dirent-requires c = omega (
  arith,
  ap (λ (d : Dirent). entry_len (length d.name)) c.one-item.is,
  (room_left c.args.names.now c.loop-one.one-index c.one-item.result c.loop-one.out.items _ c.loop-one-test.true c.loop-one.invariant.room).0,
)

pub loop-one-preserved : goal.loop-one-preserved
loop-one-preserved c =
    let out = c.loop-one.out.items in
    let x = get_or c.args.names.now c.loop-one.one-index c.one-item.result in
    let text : c.put_dirent.new.out.items ≡ out ++ clean (dirent_parts x) = c.put_dirent.ensures.text ∙ ap (λ (d : Dirent). out ++ clean (dirent_parts d)) c.one-item.is in
    let one : SpellsDirent x (clean (dirent_parts x)) = subst (λ (d : Dirent). SpellsDirent d (clean (dirent_parts d))) c.one-item.is c.put_dirent.ensures.spelled in
    record {
      text = text ∙ put_more c.args.names.now c.loop-one.one-index c.one-item.result out c.loop-one-test.true c.loop-one.invariant.text;
      spelled = rw text (spelled_more c.args.names.now c.loop-one.one-index c.one-item.result out c.loop-one-test.true c.loop-one.invariant.spelled one);
      room = omega (arith, ap length text, (room_left c.args.names.now c.loop-one.one-index c.one-item.result out _ c.loop-one-test.true c.loop-one.invariant.room).1, c.put_dirent.ensures.capacity);
    }
