-- The numbers of the exit statuses.
use Rattle.std.specs.Prelude.{ℕ}
use Rattle.program_io.specs.declared.statuses.Status.{Status}
use Rattle.program_io.specs.declared.statuses.Status.TheVariants as statuses

-- the number that a process ends with
unfoldable pub number_of : Status → ℕ
number_of statuses.Ok = 0
number_of statuses.Refused = 1
number_of statuses.Usage = 2
number_of statuses.ReadFault = 3
number_of statuses.WriteFault = 4
number_of statuses.Memory = 5
number_of statuses.TooLong = 6
number_of statuses.NotLegal = 7
