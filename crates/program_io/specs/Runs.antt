-- Which statuses a run may end with.
use Rattle.std.specs.Prelude.{◌≡◌}
use Rattle.program_io.specs.declared.statuses.Status.{Status}
use Rattle.program_io.specs.declared.statuses.Status.TheVariants as statuses

-- the due status, or a failure
abbrev pub IsExpected : Status → Status → Type 0
IsExpected due statuses.ReadFault = Unit {0}
IsExpected due statuses.WriteFault = Unit {0}
IsExpected due statuses.Memory = Unit {0}
IsExpected due statuses.Ok = due ≡ statuses.Ok
IsExpected due statuses.Refused = due ≡ statuses.Refused
IsExpected due statuses.Usage = due ≡ statuses.Usage
IsExpected due statuses.TooLong = due ≡ statuses.TooLong
IsExpected due statuses.NotLegal = ⊥

-- the usage line was taken whole, or the sink failed
abbrev pub IsUsageOrWriteFault : Status → Type 0
IsUsageOrWriteFault statuses.Usage = Unit {0}
IsUsageOrWriteFault statuses.WriteFault = Unit {0}
IsUsageOrWriteFault statuses.Ok = ⊥
IsUsageOrWriteFault statuses.Refused = ⊥
IsUsageOrWriteFault statuses.ReadFault = ⊥
IsUsageOrWriteFault statuses.Memory = ⊥
IsUsageOrWriteFault statuses.TooLong = ⊥
IsUsageOrWriteFault statuses.NotLegal = ⊥

-- all went well, or memory was refused
abbrev pub IsOkOrMemory : Status → Type 0
IsOkOrMemory statuses.Ok = Unit {0}
IsOkOrMemory statuses.Memory = Unit {0}
IsOkOrMemory statuses.Refused = ⊥
IsOkOrMemory statuses.Usage = ⊥
IsOkOrMemory statuses.ReadFault = ⊥
IsOkOrMemory statuses.WriteFault = ⊥
IsOkOrMemory statuses.TooLong = ⊥
IsOkOrMemory statuses.NotLegal = ⊥
