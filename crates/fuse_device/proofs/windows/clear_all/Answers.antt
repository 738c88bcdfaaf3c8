use Rattle.std.proofs.Common.{◌≡◌, ◌∙◌, ap, refl, length, sym, ◌∷◌, List}
use Rattle.fuse_wire.specs.declared.mappings.RemoveOne.{RemoveOne}
use Rattle.page_map.specs.Board.{MapView}
use Rattle.fuse_device.specs.State.{all_cleared}
use Rattle.fuse_device.proofs.Clears.{clear_step, first_clearable, wiped_len}
use Rattle.fuse_device.proofs.windows.clear_all.Goals as goal

pub loop-one-preserved : goal.loop-one-preserved
loop-one-preserved g c =
    let v = g.M.MapBoard.map c.loop-one.map in
    let new = g.M.MapBoard.map c.clear.new.self in
    let after = c.in-Some.after.now in
    let e : c.loop-one.rest.now ≡ c.in-Some.one.now ∷ after = c.in-Some.ensures.cases.0 in
    record {
      cleared = ap (λ (m : MapView). all_cleared m after) c.clear.ensures.wiped ∙ ap (λ (l : List RemoveOne). all_cleared v l) (sym e) ∙ c.loop-one.invariant.cleared;
      pages = wiped_len v new c.in-Some.one.now.moffset c.in-Some.one.now.len (length v.table) refl (first_clearable v c.in-Some.one.now after c.loop-one.rest.now e c.loop-one.invariant.clearable).0 c.clear.ensures.wiped ∙ c.loop-one.invariant.pages;
      clearable = clear_step v new c.in-Some.one.now after c.loop-one.rest.now e c.loop-one.invariant.clearable c.clear.ensures.wiped;
    }
