-- What a try to take the bar leaves.
use Rattle.std.specs.Prelude.{◌≡◌, ◌<◌, ℕ, Result, Ok, Err}
use Rattle.plain_file.specs.declared.refusals.Leased.{Leased}
use Rattle.files_core.specs.Files.{set_bar}
use Rattle.file_share.specs.declared.steps.Tried.{Tried}
use Rattle.file_share.specs.declared.steps.Tried.TheVariants as tries
use Rattle.file_share.specs.Steps.{Always, Chair, Counts, DoesAt, refused}

-- it was taken, or nothing has changed, or so many leases were seen and noted
abbrev pub HasTried : Tried → ℕ → Chair → Chair → Type 0
HasTried tries.Taken f s t = DoesAt f set_bar Always s t × (t.me.1 ≡ s.me.1)
HasTried tries.Barred f s t = t.me ≡ s.me
HasTried (tries.Leased count) f s t = (0 < count) × Counts s.me.0 f count × (t.me ≡ (refused s.me.0 f count, s.me.1))

-- what a wait for the bar leaves
abbrev pub HasBarred : Result (Unit {0}) Leased → ℕ → Chair → Chair → Type 0
HasBarred (Ok u) f s t = DoesAt f set_bar Always s t × (t.me.1 ≡ s.me.1)
HasBarred (Err l) f s t = (0 < l.count) × Counts s.me.0 f l.count × (t.me ≡ (refused s.me.0 f l.count, s.me.1))
