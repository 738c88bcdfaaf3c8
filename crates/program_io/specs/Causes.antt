-- What a fault of a source or a sink owes, and how much of a text came through.
use Rattle.std.specs.Prelude.{ℕ, ◌+◌, ◌-◌, ◌^◌, ◌<◌, ◌≤◌, min, Bool, if◌then◌else◌, List, length, take, Option, Result, OnErr}
use Rattle.std.specs.Io.KnownBytes.{Consumes, Appends}
use Rattle.plain_file.specs.Counts.{Rose}

-- a count of faults after a call that failed or not
abbrev pub count_after : ℕ → Bool → ℕ
count_after faults failed = if failed then min (faults + 1) (2 ^ 64 - 1) else faults

-- a count doesn't fall, and an error comes only where it rose
pub record HasCause {T E : Type 0} (before now : ℕ) (result : Result T E) : Type 0 where
  pub later : before ≤ now
  pub failed : OnErr result (Rose before now)

-- no more than so many bytes were taken of what was left
abbrev pub TakesAtMost : ℕ → Option (List ℕ) → Option (List ℕ) → Type 0
TakesAtMost most old new = (bs : List ℕ) × Consumes old new bs × (length bs ≤ most)

-- a front of the text was appended
abbrev pub AppendsFront : Option (List ℕ) → Option (List ℕ) → List ℕ → Type 0
AppendsFront old new text = (n : ℕ) × (n ≤ length text) × Appends old new (take n text)

-- the bytes of one buffer of the reading loop
abbrev pub buffer : ℕ
buffer = 4096

-- a front of the text was appended, and not all of it
abbrev pub AppendsPart : Option (List ℕ) → Option (List ℕ) → List ℕ → Type 0
AppendsPart old new text = (n : ℕ) × (n < length text) × Appends old new (take n text)
