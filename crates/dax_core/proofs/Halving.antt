-- The law of halves.
use Rattle.std.proofs.Common.{ℕ, ◌<◌, List, refl, ap, subst}
use Rattle.files_core.specs.Files as files
use Rattle.files_core.specs.Files.{FileState, FileDeed}
use Rattle.window_core.specs.Window as window
use Rattle.window_core.specs.Window.{Window}
use Rattle.dax_core.specs.Laws.{GoodByHalves, DecidedByHalves, OtherHalfStays}

pub by_halves : GoodByHalves
by_halves c few = ((λ good. (good.window_good, good.files_good)), (λ both. record { guests_few = few; window_good = both.0; files_good = both.1 }))

pub decided : DecidedByHalves
decided c c' g guests = (
  (λ d same a. ((subst (λ (n : ℕ). g < n) guests a.0, subst (λ (h : Window). window.Allowed h g d) same a.1), ap (λ (h : Window). window.after h g d) same)),
  (λ d same a. ((subst (λ (n : ℕ). g < n) guests a.0, subst (λ (cs : List FileState). files.Allowed cs g d) same a.1), ap (λ (cs : List FileState). files.after cs g d) same)),
)

pub others_stay : OtherHalfStays
others_stay c g = ((λ d. refl), (λ d. refl))
