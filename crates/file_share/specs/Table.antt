-- What a table of files is to show: its words, what lies at home, and what a pass is shown.
use Rattle.std.specs.Prelude.{◌≡◌, ℕ, ◌+◌, ◌*◌, ◌<◌, ◌≤◌, List, [], ◌∷◌, length, map, cond, leb, max, slice_index, slice_index_or, false, Option, Some, None, ⊤}
use mathlib.Core.Option as maybe
use Rattle.seats.specs.Views.{Given, View, guests, root, nobody as nobody_with, opener as opener_with}
use Rattle.seats.specs.Seats.{Kit}
use Rattle.plain_file.specs.declared.operations.Entry.{Entry}
use Rattle.plain_file.specs.declared.operations.First.{First}
use Rattle.plain_file.specs.declared.operations.Op.TheVariants as ops
use Rattle.plain_file.specs.declared.operations.Way.TheVariants as ways
use Rattle.plain_file.specs.History.{Past}
use Rattle.files_core.specs.Files.{FileState, no_file, file, row, blank, with_row, leases, Deed, take_turn, set_size, give_turn, lease, note_size, unlease, set_bar, clear_bar, FileDeed, Allowed, after, new_files}
use Rattle.files_core.specs.Good.{GoodFiles, Within}
use Rattle.files_core.specs.Laws.{Begins}
use Rattle.files_core.specs.Shown.{Shown, shown}

-- ---- the core

-- the files, and which guests may lease: those with numbers below this one
pub record Core : Type 0 where
  pub files : List FileState
  pub leasers : ℕ

abbrev pub MayLease : Core → ℕ → Deed → Type 0
MayLease c g take_turn = ⊤
MayLease c g (set_size e) = ⊤
MayLease c g give_turn = ⊤
MayLease c g lease = g < c.leasers
MayLease c g note_size = ⊤
MayLease c g unlease = ⊤
MayLease c g set_bar = ⊤
MayLease c g clear_bar = ⊤

pub record MayDo (c : Core) (g : ℕ) (d : FileDeed) : Type 0 where
  pub allowed : Allowed c.files g d
  pub leaser : MayLease c g d.deed

abbrev pub done : Core → ℕ → FileDeed → Core
done c g d = record c { files = after c.files g d }

-- the files are good, and who may not lease has no lease
pub record GoodCore (c : Core) : Type 0 where
  pub files_good : GoodFiles guests c.files
  pub leasers_only : (f g : ℕ) → c.leasers ≤ g → (row (file c.files f) g).leases ≡ 0

abbrev pub new_core : List First → ℕ → Core
new_core firsts leasers = record { files = new_files guests firsts; leasers = leasers }

abbrev pub IsStart : Core → Type 0
IsStart c = (firsts : List First) × (leasers : ℕ) × (c ≡ new_core firsts leasers)

-- ---- words

-- a turn or a bar as a number: 0, or its guest and 1
abbrev pub number_of : Option ℕ → ℕ
number_of None = 0
number_of (Some g) = g + 1

abbrev pub turn_word : FileState → ℕ
turn_word c = number_of c.turn

abbrev pub size_word : FileState → ℕ
size_word c = c.size

abbrev pub lease_word : FileState → ℕ
lease_word c = leases c + 65536 * number_of c.bar

-- Each file has three words, behind the table's first, which stays 0. Files stand 16 words apart, a cache line and its neighbour, so that guests on
-- different ones change words of different lines. The words between stay 0.
pub record ShowsFile (words : List ℕ) (f : ℕ) (c : FileState) : Type 0 where
  pub turn : slice_index words (16 * f + 1) ≡ turn_word c
  pub size : slice_index words (16 * f + 2) ≡ size_word c
  pub lease : slice_index words (16 * f + 3) ≡ lease_word c

pub record ShowsWords (words : List ℕ) (c : Core) : Type 0 where
  pub wide : length words ≡ 16 * length c.files + 1
  pub each : (f : ℕ) → f < length c.files → ShowsFile words f (file c.files f)

-- ---- homes

abbrev pub past_of : FileState → Past
past_of c = record { first = c.first; history = c.history }

-- the contents are at home where nobody has the turn
abbrev pub at_home : Option ℕ → Past → maybe.Option (Option Past)
at_home None p = maybe.some (Some p)
at_home (Some g) p = maybe.none

abbrev pub home : FileState → maybe.Option (Option Past)
home c = at_home c.turn (past_of c)

-- ---- what a pass is shown

-- what each file began with, which guests may lease, and what the guest is shown of each file
pub record Mine : Type 0 where
  pub firsts : List First
  pub leasers : ℕ
  pub files : List Shown

-- a bar that was refused: on which file, how many leases were seen there, and how many of them were the guest's own
pub record Refusal : Type 0 where
  pub file : ℕ
  pub count : ℕ
  pub own : ℕ

-- what a pass knows; it notes the bars that were refused, the newest first
abbrev pub Knows : Type 0
Knows = View Mine (List Refusal) FileDeed

abbrev pub Marks : Type 0
Marks = List (Given Mine (List Refusal))

-- a file of which nothing was seen, and in which nothing was done
abbrev pub unseen : Shown
unseen = record { seen = []; turn = false; applied = None; leases = 0; noted = None; bar = false; notes = [] }

abbrev pub in_list : List Shown → ℕ → Shown
in_list ms f = slice_index_or ms f unseen

-- what a pass is shown of the file
abbrev pub part : Knows → ℕ → Shown
part v f = in_list v.mine.files f

abbrev pub first_of : FileState → First
first_of c = c.first

abbrev pub first_in : List First → ℕ → First
first_in firsts f = slice_index_or firsts f (first_of no_file)

-- what the file began with, as a pass knows it
abbrev pub first_at : Knows → ℕ → First
first_at v f = first_in v.mine.firsts f

abbrev pub mine : ℕ → Core → Mine
mine g c = record { firsts = map first_of c.files; leasers = c.leasers; files = shown g c.files }

abbrev pub nothing_of : FileState → Shown
nothing_of c = unseen

abbrev pub all_unseen : Core → Mine
all_unseen c = record { firsts = map first_of c.files; leasers = c.leasers; files = map nothing_of c.files }

-- ---- passes that come and go

-- the guest of a new pass has seen what the first pass had
abbrev pub introduced_file : ℕ → FileState → FileState
introduced_file g c = with_row c g (record blank { seen = (row c root).seen })

abbrev pub introduced : ℕ → Core → Core
introduced g c = record c { files = map (introduced_file g) c.files }

-- the first pass has seen what another had, if that is more
abbrev pub informed_file : ℕ → FileState → FileState
informed_file g c = with_row c root (record (row c root) { seen = max (row c root).seen (row c g).seen })

abbrev pub informed : ℕ → Core → Core
informed g c = record c { files = map (informed_file g) c.files }

abbrev pub only_seen : Shown → Shown
only_seen m = record unseen { seen = m.seen }

abbrev pub just_seen : Mine → Mine
just_seen m = record m { files = map only_seen m.files }

-- of two histories the longer
abbrev pub longer : List Entry → List Entry → List Entry
longer a b = cond (leb (length a) (length b)) b a

abbrev pub merged_files : List Shown → List Shown → List Shown
merged_files [] ns = []
merged_files (m ∷ ms) [] = m ∷ ms
merged_files (m ∷ ms) (n ∷ ns) = record m { seen = longer m.seen n.seen } ∷ merged_files ms ns

abbrev pub merged : Mine → Mine → Mine
merged m n = record m { files = merged_files m.files n.files }

-- no turn is had
abbrev pub Turnless : Mine → Type 0
Turnless m = (f : ℕ) → (in_list m.files f).turn ≡ false

-- of the same files, what was seen begins what is seen
abbrev pub Begun : Mine → Mine → Type 0
Begun m n = (n.firsts ≡ m.firsts) × ((f : ℕ) → Begins (in_list m.files f).seen (in_list n.files f).seen)

-- and nothing more is the guest's own
abbrev pub Grown : ℕ → Mine → Mine → Type 0
Grown g m n = (n.firsts ≡ m.firsts) × ((f : ℕ) → Begins (in_list m.files f).seen (in_list n.files f).seen × Within g (length (in_list m.files f).seen) (in_list n.files f).seen)

abbrev pub Behind : ℕ → Core → Type 0
Behind n c = (f : ℕ) → f < length c.files → (row (file c.files f) n).seen ≤ (row (file c.files f) root).seen

-- ---- the whole

abbrev pub files_kit : Kit
files_kit = record {
  Core = Core;
  Mine = Mine;
  Noted = List Refusal;
  Body = Option Past;
  Deed = FileDeed;
  Good = GoodCore;
  Allowed = MayDo;
  after = done;
  IsStart = IsStart;
  mine = mine;
  Words = ShowsWords;
  homes = λ c. map home c.files;
  unseen = all_unseen;
  blank = [];
  introduced = introduced;
  informed = informed;
  just_seen = just_seen;
  merged = merged;
  Idle = Turnless;
  Begun = Begun;
  Grown = Grown;
  Behind = Behind;
}

-- the first pass of a table of files with these contents
abbrev pub opener : List First → ℕ → Knows
opener firsts leasers = opener_with (all_unseen (new_core firsts leasers)) []

-- a pass that was joined to another
abbrev pub nobody : Knows
nobody = nobody_with (record { firsts = []; leasers = 0; files = [] }) []

-- the entry of no operation, for a proof to name before it names one
abbrev pub no_entry : Entry
no_entry = record { guest = 0; call = 0; op = ops.Size; way = ways.Req }
