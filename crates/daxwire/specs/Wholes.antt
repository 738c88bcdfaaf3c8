-- What is due for an input that is read whole, and what writing it leaves.
use Rattle.std.specs.Prelude.{◌≡◌, ℕ, nat_lt, List, length, codes, Option, if◌then◌else◌}
use Rattle.std.specs.Io.KnownBytes.{Appends, Keeps}
use Rattle.plain_file.specs.Counts.{Rose}
use Rattle.program_io.specs.Causes.{AppendsPart}
use Rattle.program_io.specs.declared.statuses.Status.{Status}
use Rattle.program_io.specs.declared.statuses.Status.TheVariants as statuses
use Rattle.chain_stream.specs.Frames.{limit}

-- the text and the status that are due
pub record Due : Type 0 where
  pub text : List ℕ
  pub status : Status

-- for an input above the limit
abbrev pub too_long : Due
too_long = record { text = codes "too long\n"; status = statuses.TooLong }

-- for any input, by what is due for one within the limit
unfoldable pub due_by : (List ℕ → Due) → List ℕ → Due
due_by due input = if nat_lt limit (length input) then too_long else due input

-- the statuses of an input that was answered
abbrev pub IsAnswered : Status → Type 0
IsAnswered statuses.Ok = Unit {0}
IsAnswered statuses.Refused = Unit {0}
IsAnswered statuses.TooLong = Unit {0}
IsAnswered statuses.NotLegal = Unit {0}
IsAnswered statuses.Usage = ⊥
IsAnswered statuses.ReadFault = ⊥
IsAnswered statuses.WriteFault = ⊥
IsAnswered statuses.Memory = ⊥

-- what writing the text that is due leaves, by the status with which it ends: all of it, a part, or nothing
abbrev pub IsWritten : Due → Option (List ℕ) → Option (List ℕ) → ℕ → ℕ → Status → Type 0
IsWritten due taken taken' writes writes' statuses.Ok = (due.status ≡ statuses.Ok) × Appends taken taken' due.text
IsWritten due taken taken' writes writes' statuses.Refused = (due.status ≡ statuses.Refused) × Appends taken taken' due.text
IsWritten due taken taken' writes writes' statuses.TooLong = (due.status ≡ statuses.TooLong) × Appends taken taken' due.text
IsWritten due taken taken' writes writes' statuses.NotLegal = (due.status ≡ statuses.NotLegal) × Appends taken taken' due.text
IsWritten due taken taken' writes writes' statuses.WriteFault = Rose writes writes' × AppendsPart taken taken' due.text
IsWritten due taken taken' writes writes' statuses.Memory = Keeps taken taken'
IsWritten due taken taken' writes writes' statuses.ReadFault = ⊥
IsWritten due taken taken' writes writes' statuses.Usage = ⊥
