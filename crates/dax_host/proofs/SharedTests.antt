-- A daemon of one file stays one, and its boards can be shared.
use Rattle.std.proofs.Common.{◌≡◌, ◌∙◌, ap, sym, subst, refl, arith, ℕ, Bool, true, false, Result, Ok, Err, if◌then◌else◌}
use Rattle.fuse_codec.specs.declared.messages.Head.{Head}
use Rattle.fuse_codec.specs.declared.messages.Request.TheVariants as asks
use Rattle.fuse_codec.specs.declared.replies.Reply.{Reply}
use Rattle.fuse_wire.specs.declared.inits.InitIn.{InitIn}
use Rattle.fuse_wire.specs.declared.opens.OpenIn.{OpenIn}
use Rattle.fuse_wire.specs.declared.errno.Errno.{Errno}
use Rattle.fuse_device.specs.declared.refusals.Refused.{Refused}
use Rattle.fuse_device.specs.declared.refusals.Refused.TheVariants as refusals
use Rattle.fuse_device.specs.State.{World, with_open, begun}
use Rattle.fuse_device.specs.Checks.{Outcome}
use Rattle.fuse_device.specs.Requests.{init, open_file, answered, is_init, is_forget, served}
use Rattle.fuse_device.specs.Promises.{Gives}
use Rattle.guest_wire.specs.Wires.{boards, CanShare}
use Rattle.dax_host.specs.SharedBoards.{Begins}

-- the same boards, files and window
pub record Same (w : World) (o : Outcome) : Type 0 where
  pub files : o.1.files ≡ w.files
  pub map : o.1.map ≡ w.map
  pub made : o.1.state.made ≡ w.state.made
  pub pages : o.1.state.pages ≡ w.state.pages

same : (w : World) (r : Result Reply Errno) → Same w (r, w)
same w r = record { files = refl; map = refl; made = refl; pages = refl }

if_same : (w : World) (b : Bool) (x y : Outcome) → Same w x → Same w y → Same w (if b then x else y)
if_same w true x y h k = h
if_same w false x y h k = k

begun_same : (w : World) (r : Result Reply Errno) → Same w (r, record w { state = begun w.state })
begun_same w r = record { files = refl; map = refl; made = refl; pages = refl }

open_same : (w : World) (node : ℕ) (r : Result Reply Errno) → Same w (r, record w { state = with_open w.state node })
open_same w node r = record { files = refl; map = refl; made = refl; pages = refl }

pub start_same : (w : World) (h : Head) (r : InitIn) → Same w (served w (record { head = h; body = asks.Init r }))
unfolding served answered init is_init is_forget
start_same w h r = search (if_same, begun_same, same)

pub opened_same : (w : World) (h : Head) (r : OpenIn) → Same w (served w (record { head = h; body = asks.OpenFile r }))
unfolding served answered open_file is_init is_forget
opened_same w h r = search (if_same, open_same, same)

same_begins : (w : World) (o : Outcome) → Same w o → Begins w → Begins o.1
same_begins w o h b = record {
  one = record { few = rw h.made b.one.few; range = h.pages ∙ b.one.range };
  servable = record {
    plain = rw h.files b.servable.plain;
    enough = rw h.files b.servable.enough;
    ready = rw h.files b.servable.ready;
    few = rw h.made b.servable.few;
    free = rw h.map b.servable.free;
    pages = rw (h.map, h.pages) b.servable.pages;
  };
  free = rw h.files b.free;
}

pub begins_after : (old : World) (o : Outcome) (result : Result Reply Refused) (new : World) → Gives old o result new → Same old o → Begins old → Begins new
begins_after old o (Ok reply) new e h b = subst Begins (ap (λ (x : Outcome). x.1) e) (same_begins old o h b)
begins_after old o (Err (refusals.Errno n)) new e h b = subst Begins (sym e.1) b
begins_after old o (Err refusals.Memory) new e h b = subst Begins (sym e) b

-- boards with which a session began can be shared
pub begins_shares : (w : World) → Begins w → CanShare w.state (boards w.files w.map)
begins_shares w b = record { there = omega (arith, b.servable.few, b.servable.enough); pages = b.servable.pages; free = b.free }
