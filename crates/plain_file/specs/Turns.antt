-- Turns, leases and bars: what the calls of guests that run side by side make of a board.
use Rattle.std.specs.Prelude.{◌≡◌, ◌≢◌, ℕ, ◌+◌, ◌-◌, ◌<◌, ◌≤◌, ◌==◌, true, false, Bool, is_some, List, [], ◌++◌, length, map, slice_index_or, slice_set, Option, None, Some, Result, Ok, Err, All, if◌then◌else◌}
use Rattle.plain_file.specs.declared.operations.Op.{Op}
use Rattle.plain_file.specs.declared.operations.Applied.{Applied}
use Rattle.plain_file.specs.declared.operations.Entry.{Entry}
use Rattle.plain_file.specs.declared.refusals.BoardRefusal.{BoardRefusal}
use Rattle.plain_file.specs.declared.refusals.Leased.{Leased}
use Rattle.plain_file.specs.Board.{Note, FileView, FileHands, BoardView, file_at, with_file, with_note, size_of, Applies}
use Rattle.plain_file.specs.Counts.{more_by_one}
use Rattle.plain_file.specs.Sound.{IsSoundBoard}

-- how many leases the board has on a file
abbrev pub leases_on : BoardView → ℕ → ℕ
leases_on v file = slice_index_or v.hands.leases file 0

-- entries that others made; on a plain board there are none
pub record AreOthers (v : BoardView) (more : List Entry) : Type 0 where
  pub others : All (λ e. e.guest ≢ v.guest) more
  pub plain : v.plain ≡ true → more ≡ []

-- a note gets its upper end, where it has none
abbrev pub closed : ℕ → Note → Note
closed length note = elim note.upper [ None ↦ record note { upper = Some length } | Some u ↦ note ]

-- the file as it is seen with more entries, ready
abbrev pub seen_file : FileView → List Entry → FileView
seen_file f more = record f { history = f.history ++ more; ready = true; notes = map (closed (length (f.history ++ more))) f.notes }

-- the board with the turn of a file, of which it gets to see more entries
abbrev pub entered : BoardView → ℕ → List Entry → BoardView
entered v file more = record (with_file v file (seen_file (file_at v file) more)) { hands = record v.hands { turn = Some file } }

-- what `enter` leaves
abbrev pub Enters : BoardView → ℕ → BoardView → Type 0
Enters old file new = (more : List Entry) × AreOthers old more × (new ≡ entered old file more)

-- the board after the turn was given back
abbrev pub left : BoardView → ℕ → BoardView
left v file = record (with_file v file (record (file_at v file) { ready = v.plain })) { hands = record v.hands { turn = None } }

-- what the board has in hand with another number of leases on a file
abbrev pub with_leases : BoardView → ℕ → ℕ → FileHands
with_leases v file n = record v.hands { leases = slice_set v.hands.leases file n }

-- a file whose size was noted under a lease, by a board that keeps notes or not
abbrev pub leased_file : Bool → ℕ → FileView → FileView
leased_file keeps z f = record f { floor = Some z; notes = if keeps then (with_note z f).notes else f.notes }

-- the board with one more lease, under which this size was noted
abbrev pub leased : BoardView → ℕ → ℕ → BoardView
leased v file z = record (with_file v file (leased_file (is_some v.over) z (file_at v file))) { hands = with_leases v file (leases_on v file + 1) }

-- What `lease` answers and leaves. On a plain board the size is that of the whole history.
abbrev pub Leases : BoardView → ℕ → ℕ → BoardView → Type 0
Leases old file z new = (old.plain ≡ true → z ≡ size_of (file_at old file)) × (new ≡ leased old file z)

-- the board with one lease fewer
abbrev pub unleased : BoardView → ℕ → BoardView
unleased v file = let f = file_at v file in
    record (with_file v file (record f { floor = if leases_on v file == 1 then None else f.floor })) { hands = with_leases v file (leases_on v file - 1) }

-- the board with the bar on a file, or with none
abbrev pub with_bar : BoardView → Option ℕ → BoardView
with_bar v bar = record v { hands = record v.hands { bar = bar } }

-- the board after a refused bar that saw so many leases
abbrev pub refused_bar : BoardView → ℕ → ℕ → BoardView
refused_bar v file count = let f = file_at v file in
    with_file v file (record f { refusals = more_by_one f.refusals; refused = Some (record { count = count; own = leases_on v file }) })

-- what `bar` answers and leaves
abbrev pub Bars : BoardView → ℕ → Result (Unit {0}) Leased → BoardView → Type 0
Bars old file (Ok u) new = (leases_on old file ≡ 0) × (new ≡ with_bar old (Some file))
Bars old file (Err l) new = (0 < l.count) × (leases_on old file ≤ l.count) × (old.others ≡ false → l.count ≡ leases_on old file) × (new ≡ refused_bar old file l.count)

-- What `apply_as` answers and leaves: others' entries came first, and what was seen then is sound.
abbrev pub AppliesAs : BoardView → ℕ → Op → Result Applied BoardRefusal → BoardView → Type 0
AppliesAs old file op result new = (more : List Entry) × (mid : BoardView) × AreOthers old more × IsSoundBoard (entered old file more) file
    × Applies (entered old file more) file op result mid × (new ≡ left mid file)
