use Rattle.std.proofs.Common.{refl}
use Rattle.window_core.specs.Window.{settle_free}
use Rattle.window_core.proofs.window.CoreWindow.settle_free.Goals as goal

pub returns : goal.returns
returns c = (settle_free c.in-Some.range, (c.in-Some.range, refl), c.in-Some.ensures, refl)
