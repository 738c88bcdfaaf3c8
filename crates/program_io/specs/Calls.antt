-- The calls of a source or a sink in memory: which of them fail, and how much one gives or takes.
use Rattle.std.specs.Prelude.{ℕ, ◌+◌, ◌-◌, ◌^◌, ◌==◌, ◌&&◌, nat_lt, min, Bool, List, if◌then◌else◌}
use Rattle.std.specs.List.{list_any}
use Rattle.program_io.specs.Causes.{count_after}
use Rattle.program_io.specs.declared.calls.Calls.{Calls}

-- the last value of a count
abbrev pub last : ℕ
last = 2 ^ 64 - 1

-- no call was made yet
abbrev pub first_calls : ℕ → List ℕ → Calls
first_calls piece fails = record { made = 0; piece = piece; fails = fails; faults = 0 }

-- the next call has a number, and it is one of those that fail
abbrev pub fails_next : Calls → Bool
fails_next calls =
    nat_lt calls.made last && list_any (λ number. number == calls.made + 1) calls.fails

-- how many of so many bytes one call gives or takes
abbrev pub part_of : Calls → ℕ → ℕ
part_of calls len = if calls.piece == 0 then len else min calls.piece len

-- one more call was made, and it failed or not
abbrev pub after_call : Calls → Bool → Calls
after_call calls failed = record calls {
  made = min (calls.made + 1) last;
  faults = count_after calls.faults failed;
}
