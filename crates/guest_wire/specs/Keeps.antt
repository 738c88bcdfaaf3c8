-- What boards keep, whatever is submitted over them.
use Rattle.std.specs.Prelude.{◌≡◌, ℕ, ◌<◌, ◌≤◌, List, ◌++◌, length, drop, slice_get, Option, Some, None, IfSome, All, ◌⊎◌}
use Rattle.plain_file.specs.Board.{Note, FileView, BoardView, file_at}
use Rattle.page_map.specs.Board.{MapView}
use Rattle.guest_wire.specs.Wires.{Boards}

-- a list begins another one
abbrev pub Begins : {X : Type 0} → List X → List X → Type 0
Begins {X} old new = (more : List X) × (new ≡ old ++ more)

-- A note stays. One without an upper end may get one, within a history of this length, and not behind an entry that was made at one of these places.
abbrev pub KeepsNote : List ℕ → ℕ → Note → Option Note → Type 0
KeepsNote made end n kept = (m : Note) × (kept ≡ Some m) × (m.size ≡ n.size) × (m.lower ≡ n.lower)
    × ((m.upper ≡ n.upper) ⊎ ((n.upper ≡ None) × IfSome m.upper (λ upper. (upper ≤ end) × All (λ place. upper ≤ place) made)))

-- A file has the same first contents, the same size under leases and the same refused bars. Its history only grows, and so do the places of the board's own entries, by new ones, and its notes.
pub record KeepsFile (old new : FileView) : Type 0 where
  pub first : new.first ≡ old.first
  pub history : Begins old.history new.history
  pub own : Begins old.own new.own
  pub fresh : All (λ place. length old.history ≤ place) (drop (length old.own) new.own)
  pub floor : new.floor ≡ old.floor
  pub refusals : new.refusals ≡ old.refusals
  pub refused : new.refused ≡ old.refused
  pub notes : (k : ℕ) (n : Note) → slice_get old.notes k ≡ Some n → KeepsNote (drop (length old.own) new.own) (length new.history) n (slice_get new.notes k)

-- the board is the same guest's, has the same mark and the same in hand, is a plain one or not, stands over the same, may lease or not as others may, and has as many files
pub record KeepsFiles (old new : BoardView) : Type 0 where
  pub guest : new.guest ≡ old.guest
  pub mark : new.mark ≡ old.mark
  pub plain : new.plain ≡ old.plain
  pub over : new.over ≡ old.over
  pub may_lease : new.may_lease ≡ old.may_lease
  pub others : new.others ≡ old.others
  pub hands : new.hands ≡ old.hands
  pub count : length new.files ≡ length old.files
  pub each : (file : ℕ) → file < length old.files → KeepsFile (file_at old file) (file_at new file)

-- the board is a plain one or not, stands over the same, has the same in hand, means the same as one of ranges, and has as many pages
pub record KeepsPages (old new : MapView) : Type 0 where
  pub plain : new.plain ≡ old.plain
  pub over : new.over ≡ old.over
  pub hands : new.hands ≡ old.hands
  pub ranges : new.ranges ≡ old.ranges
  pub count : length new.table ≡ length old.table

-- both boards
pub record KeepsBoards (old new : Boards) : Type 0 where
  pub files : KeepsFiles old.files new.files
  pub map : KeepsPages old.map new.map
