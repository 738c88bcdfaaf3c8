-- What a call of the reader answers where a step of the definition reads a value or refuses the line.
use Rattle.std.specs.Prelude.{◌≡◌, ℕ, Result, Ok, Err}
use Rattle.dax_script.specs.declared.halts.Halt.{Halt}
use Rattle.dax_script.specs.declared.halts.Halt.TheVariants as halts
use Rattle.dax_script.specs.declared.scripts.Script.{Script}
use Rattle.dax_script.specs.declared.whys.Why.{Why}
use Rattle.dax_script.specs.declared.whys.BadScript.{BadScript}
use Rattle.dax_script.specs.declared.whys.BadScript.TheVariants as bads
use Rattle.dax_script.specs.ScriptText.{BadLine}

-- the step's value or its reason; want of memory owes nothing
abbrev pub Gives : {X : Type 0} → Result X Halt → Result X Why → Type 0
Gives (Ok x) read = read ≡ Ok x
Gives (Err halts.Memory) read = Unit {0}
Gives (Err (halts.Bad why)) read = read ≡ Err why

-- the same of a step that changes a value in place, and which value is there now
abbrev pub Turns : {X : Type 0} → Result (Unit {0}) Halt → X → Result X Why → Type 0
Turns (Ok done) now read = read ≡ Ok now
Turns (Err halts.Memory) now read = Unit {0}
Turns (Err (halts.Bad why)) now read = read ≡ Err why

-- the same of the n-th line
abbrev pub TurnsAt : {X : Type 0} → ℕ → Result (Unit {0}) BadScript → X → Result X Why → Type 0
TurnsAt n (Ok done) now read = read ≡ Ok now
TurnsAt n (Err bads.Memory) now read = Unit {0}
TurnsAt n (Err (bads.Line line why)) now read = (line ≡ n) × (read ≡ Err why)

-- the whole text's script, or its first bad line
abbrev pub Parses : Result Script BadScript → Result Script BadLine → Type 0
Parses (Ok s) read = read ≡ Ok s
Parses (Err bads.Memory) read = Unit {0}
Parses (Err (bads.Line line why)) read = read ≡ Err (record { line = line; why = why })
