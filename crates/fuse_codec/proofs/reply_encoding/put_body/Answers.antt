use Rattle.std.proofs.Common.{◌≡◌, ◌≤◌, ◌+◌, ◌++◌, length, ap, subst, arith}
use Rattle.std.specs.Prelude.{vec_capacity}
use Rattle.std.proofs.lemmas.List.{length-append}
use Rattle.fuse_wire.specs.Layout.{parts_len}
use Rattle.fuse_wire.specs.Attributes.{entry_out}
use Rattle.fuse_wire.specs.Opens.{open_out}
use Rattle.fuse_wire.proofs.Laws.{clean_len}
use Rattle.fuse_codec.specs.Replies.{reply_parts}
use Rattle.fuse_codec.proofs.CleanReplies.{entry_sized, opened_sized, created_sized}
use Rattle.fuse_codec.proofs.reply_encoding.put_body.Goals as goal

pub put_in_room-requires-in-Created-2 : goal.put_in_room-requires-in-Created-2
unfolding reply_parts
put_in_room-requires-in-Created-2 c =
    let entry = c.in-Created.entry in
    let opened = c.in-Created.opened in
    let room : length c.args.out.now.items + parts_len (entry_out entry ++ open_out opened) ≤ vec_capacity c.args.out.now = subst (λ r. length c.args.out.now.items + parts_len (reply_parts r) ≤ vec_capacity c.args.out.now) c.in-Created.is c.requires in
    let first : length c.put-in-Created.result ≡ 128 = omega (arith, ap length c.put-in-Created.ensures.clean, clean_len (entry_out entry), entry_sized entry) in
    let second : length c.put-in-Created-2.result ≡ 16 = omega (arith, ap length c.put-in-Created-2.ensures.clean, clean_len (open_out opened), opened_sized opened) in
    omega (arith, room, created_sized entry opened, first, second, ap length c.put_in_room-in-Created.ensures.text, length-append c.args.out.now.items c.put-in-Created.result, c.put_in_room-in-Created.ensures.capacity)
