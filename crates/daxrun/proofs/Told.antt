-- What holds of an input that is the source's bytes where it tells them.
use Rattle.std.proofs.Common.{◌≡◌, ℕ, ◌<◌, suc, List, [], length, replicate, Option, Some, None, refl, arith}
use Rattle.std.specs.Prelude.{IfSome}
use Rattle.std.specs.Io.KnownBytes.{Appends}
use Rattle.program_io.specs.declared.statuses.Status.{Status}
use Rattle.program_io.specs.declared.statuses.Status.TheVariants as statuses
use Rattle.daxrun.specs.declared.runs.Shown.{Shown}
use Rattle.daxrun.specs.Run.{IsAnswerTo, ShowsBeside, Answers}
use Rattle.std.proofs.lemmas.List.{length-replicate}

pub each_input : (o : Option (List ℕ)) (P : List ℕ → Type 0) → ((xs : List ℕ) → P xs) → (input : List ℕ) × IfSome o (λ xs. input ≡ xs) × P input
each_input None P h = ([], tt, h [])
each_input (Some xs) P h = (xs, refl, h xs)

-- so many zeros
abbrev zeros : ℕ → List ℕ
zeros n = replicate n 0

longer : (n : ℕ) → n < length (zeros (suc n))
longer n = rw (length-replicate {A = ℕ} (suc n) 0) (omega arith)

pub long_input : (o : Option (List ℕ)) (n : ℕ) (P : List ℕ → Type 0) → ((xs : List ℕ) → n < length xs → P xs) → IfSome o (λ xs. n < length xs) → (input : List ℕ) × IfSome o (λ xs. input ≡ xs) × P input
long_input None n P h long = (zeros (suc n), tt, h (zeros (suc n)) (longer n))
long_input (Some xs) n P h long = (xs, refl, h xs long)

-- ---- an answer that was written

-- all of it
pub answers_all : (input text : List ℕ) (old new : Option (List ℕ)) (before now : ℕ) (shown : Shown) (status : Status) → IsAnswerTo input status text → ShowsBeside input status text shown → Appends old new text → Answers input old new before now shown status
answers_all input text old new before now shown statuses.Ok h beside all = (text, h, all, beside)
answers_all input text old new before now shown statuses.Refused h beside all = (text, h, all, beside)
answers_all input text old new before now shown statuses.Usage h beside all = absurd h
answers_all input text old new before now shown statuses.TooLong h beside all = absurd h
answers_all input text old new before now shown statuses.ReadFault h beside all = absurd h
answers_all input text old new before now shown statuses.WriteFault h beside all = absurd h
answers_all input text old new before now shown statuses.Memory h beside all = absurd h
answers_all input text old new before now shown statuses.NotLegal h beside all = absurd h
