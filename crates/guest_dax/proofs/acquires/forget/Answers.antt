use Rattle.guest_dax.proofs.Forgetting.{Forgets-some}
use Rattle.guest_dax.proofs.acquires.forget.Goals as goal

pub returns : goal.returns
returns g c = Forgets-some _ _ c.sound_ranges.ensures.looks c.requires c.forget_looks.ensures
