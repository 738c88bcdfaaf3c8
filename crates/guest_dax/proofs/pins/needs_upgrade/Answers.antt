use Rattle.std.proofs.Common.{◌∙◌, ap, Some}
use Rattle.page_map.specs.declared.pages.Mode.{Mode}
use Rattle.guest_dax.proofs.pins.needs_upgrade.Goals as goal

pub returns-in-R-W : goal.returns-in-R-W
returns-in-R-W c = (c.in-R-W.is-1, (c.in-Some.placed.entry, c.in-Some.is ∙ ap (λ (m : Mode). Some (record { range = c.in-Some.placed.range; mode = m; entry = c.in-Some.placed.entry })) c.in-R-W.is-0))
