use Rattle.window_core.proofs.Starts.{window_start}
use Rattle.window_core.proofs.Deeds.{window_keeps}
use Rattle.window_core.proofs.Grows.{logs_grow, sizes_stay}
use Rattle.window_core.proofs.Others.{others_see}
use Rattle.window_core.proofs.Exact.{live_placed}
use Rattle.window_core.proofs.Reading.{pin_holds}
use Rattle.window_core.proofs.Lives.{placed_lives}
use Rattle.window_core.proofs.laws.window_core_laws.Goals as goal

pub returns-clause-start : goal.returns-clause-start
returns-clause-start c = window_start

pub returns-clause-good : goal.returns-clause-good
returns-clause-good c = λ guests g h d l good a. window_keeps guests h g l good d a

pub returns-clause-logs : goal.returns-clause-logs
returns-clause-logs c = λ g f h d a. logs_grow h g d a f

pub returns-clause-placed : goal.returns-clause-placed
returns-clause-placed c = placed_lives

pub returns-clause-sizes : goal.returns-clause-sizes
returns-clause-sizes c = sizes_stay

pub returns-clause-others : goal.returns-clause-others
returns-clause-others c = λ guests g other h d ne good a. others_see guests h g other ne good d a

pub returns-clause-live : goal.returns-clause-live
returns-clause-live c = live_placed

pub returns-clause-pins : goal.returns-clause-pins
returns-clause-pins c = pin_holds
