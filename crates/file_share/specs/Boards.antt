-- What a pass on a table means as a board of files.
use Rattle.std.specs.Prelude.{◌≡◌, ℕ, zero, suc, ◌+◌, ◌<◌, ◌≤◌, ◌==◌, ◌&&◌, Bool, true, false, nat_lt, is_none, is_some, IsTrue, List, [], ◌∷◌, map, length, slice_get, Option, Some, None, option_map, if◌then◌else◌}
use Rattle.atomic_table.specs.Seated.{TableId}
use Rattle.plain_file.specs.declared.operations.First.{First}
use Rattle.plain_file.specs.declared.refusals.RefusedBar.{RefusedBar}
use Rattle.plain_file.specs.Board.{Note, FileView, FileHands, BoardView}
use Rattle.plain_file.specs.Counts.{more_by_one}
use Rattle.files_core.specs.declared.rows.Note.{Note as CoreNote}
use Rattle.files_core.specs.Files.{Deed, take_turn, set_size, give_turn, lease, note_size, unlease, set_bar, clear_bar, FileDeed}
use Rattle.files_core.specs.Shown.{Shown}
use Rattle.file_share.specs.Table.{Refusal, Knows, part, first_at}
use Rattle.file_share.specs.Steps.{others_may}
use Rattle.file_share.specs.Known.{Known, whole_of}
use Rattle.file_share.specs.Places.{places_of}

-- the values of a function below n
abbrev pub listed : {A : Type 0} → (ℕ → A) → ℕ → List A
listed F zero = []
listed F (suc n) = F 0 ∷ listed (λ i. F (suc i)) n

-- the place of the first that is true, counted from n
abbrev pub first_true : ℕ → List Bool → Option ℕ
first_true n [] = None
first_true n (b ∷ bs) = if b then Some n else first_true (n + 1) bs

-- the numbers and names by which a table is known
abbrev pub numbers_of : TableId → List ℕ
numbers_of t = t.words ∷ t.slots ∷ t.views_name ∷ t.atom ∷ t.block ∷ t.offset ∷ t.slot_names

-- how many bars were refused on a file, up to the last u64, and what the newest of them saw
abbrev pub refusals_of : ℕ → List Refusal → ℕ
refusals_of f [] = 0
refusals_of f (r ∷ rs) = if r.file == f then more_by_one (refusals_of f rs) else refusals_of f rs

abbrev pub refused_of : ℕ → List Refusal → Option RefusedBar
refused_of f [] = None
refused_of f (r ∷ rs) = if r.file == f then Some (record { count = r.count; own = r.own }) else refused_of f rs

abbrev pub note_of : CoreNote → Note
note_of n = record { size = n.size; lower = n.lower; upper = n.upper }

-- ---- the size that the newest lease noted

abbrev pub is_lease : Deed → Bool
is_lease take_turn = false
is_lease (set_size e) = false
is_lease give_turn = false
is_lease lease = true
is_lease note_size = false
is_lease unlease = false
is_lease set_bar = false
is_lease clear_bar = false

abbrev pub is_note : Deed → Bool
is_note take_turn = false
is_note (set_size e) = false
is_note give_turn = false
is_note lease = false
is_note note_size = true
is_note unlease = false
is_note set_bar = false
is_note clear_bar = false

-- how often these deeds, the newest first, noted the size of the file
abbrev pub notes_by : ℕ → List FileDeed → ℕ
notes_by f [] = 0
notes_by f (d ∷ ds) = if is_note d.deed && d.at == f then notes_by f ds + 1 else notes_by f ds

-- and how often before the newest lease on it
abbrev pub notes_before : ℕ → List FileDeed → ℕ
notes_before f [] = 0
notes_before f (d ∷ ds) = if is_lease d.deed && d.at == f then notes_by f ds else notes_before f ds

abbrev pub size_noted : CoreNote → ℕ
size_noted n = n.size

-- the size that the note after so many others has, while there is a lease
abbrev pub floor_after : ℕ → Shown → Option ℕ
floor_after k m = if m.leases == 0 then None else option_map size_noted (slice_get m.notes k)

-- Of one file: the notes are as many as the deeds made. While there is a lease, one was made after the newest, and its size
-- is at most that which was noted last.
pub record IsFloored (made before : ℕ) (m : Shown) : Type 0 where
  pub counted : made ≡ length m.notes
  pub there : 0 < m.leases → before < length m.notes
  pub ended : 0 < m.leases → IsTrue (is_some m.noted)
  pub under : 0 < m.leases → (n : CoreNote) (z : ℕ) → slice_get m.notes before ≡ Some n → m.noted ≡ Some z → n.size ≤ z

-- the same of each file of a pass
abbrev pub Floored : Knows → Type 0
Floored v = (f : ℕ) → f < length v.mine.files → IsFloored (notes_by f v.did) (notes_before f v.did) (part v f)

-- ---- the board

-- a file, of a guest that was shown this of it, made so many notes before its newest lease and noted those refusals
abbrev pub file_of : ℕ → First → Shown → ℕ → ℕ → List Refusal → FileView
file_of guest first m k f noted = record {
  first = first;
  history = whole_of m;
  own = places_of guest (whole_of m);
  ready = m.turn && is_none m.applied;
  floor = floor_after k m;
  notes = map note_of m.notes;
  refusals = refusals_of f noted;
  refused = refused_of f noted;
}

abbrev pub file_view : Knows → ℕ → FileView
file_view v f = file_of v.guest (first_at v f) (part v f) (notes_before f v.did) f v.noted

abbrev pub has_turn : Shown → Bool
has_turn m = m.turn

abbrev pub has_bar : Shown → Bool
has_bar m = m.bar

abbrev pub leases_had : Shown → ℕ
leases_had m = m.leases

abbrev pub hands_of : Knows → FileHands
hands_of v = record { turn = first_true 0 (map has_turn v.mine.files); bar = first_true 0 (map has_bar v.mine.files); leases = map leases_had v.mine.files }

abbrev pub board_of : Known → BoardView
board_of p = record {
  guest = p.view.guest;
  mark = p.mark;
  plain = false;
  over = Some (numbers_of p.table);
  may_lease = nat_lt p.view.guest p.view.mine.leasers;
  others = others_may p.view.guest p.view.mine.leasers;
  hands = hands_of p.view;
  files = listed (file_view p.view) (length p.view.mine.files);
}
