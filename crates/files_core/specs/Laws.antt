-- What holds of the files' half of the core, whatever guests do.
use Rattle.std.specs.Prelude.{◌≡◌, ℕ, ◌<◌, ◌≤◌, List, ◌++◌, All, length, Some}
use Rattle.plain_file.specs.declared.operations.First.{First}
use Rattle.plain_file.specs.File.{max_file}
use Rattle.files_core.specs.Files.{FileState, file, row, FileDeed, Allowed, after, new_files}
use Rattle.files_core.specs.Good.{GoodFiles}

-- the second list begins with the first
abbrev pub Begins : {A : Type 0} → List A → List A → Type 0
Begins {A} xs ys = (rest : List A) × (xs ++ rest ≡ ys)

-- files to which nothing was done yet are good
abbrev pub StartIsGood : Type 0
StartIsGood = (guests : ℕ) (firsts : List First) → All (λ first. first.size ≤ max_file) firsts → GoodFiles guests (new_files guests firsts)

-- each deed that is allowed keeps them good
abbrev pub StaysGood : Type 0
StaysGood = (guests g : ℕ) (cs : List FileState) (d : FileDeed) → g < guests → GoodFiles guests cs → Allowed cs g d → GoodFiles guests (after cs g d)

-- and their histories only grow
abbrev pub HistoriesGrow : Type 0
HistoriesGrow = (g f : ℕ) (cs : List FileState) (d : FileDeed) → Allowed cs g d → Begins (file cs f).history (file (after cs g d) f).history

-- While a guest has a lease, the size isn't below what it noted under it.
abbrev pub LeasesHold : Type 0
LeasesHold = (guests g f z : ℕ) (cs : List FileState) → g < guests → f < length cs → GoodFiles guests cs → (row (file cs f) g).noted ≡ Some z → z ≤ (file cs f).size
