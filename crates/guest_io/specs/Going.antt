-- What a read and a write of a guest answer, and what they leave.
use Rattle.std.specs.Prelude.{◌≡◌, ℕ, ◌+◌, ◌<◌, true, false, List, length, IsSome, Result, Ok, Err, ◌⊎◌}
use Rattle.plain_file.specs.Counts.{Rose}
use Rattle.plain_file.specs.declared.operations.Op.{Op}
use Rattle.plain_file.specs.declared.operations.Op.TheVariants as ops
use Rattle.plain_file.specs.declared.operations.Way.{Way}
use Rattle.plain_file.specs.Board.{BoardView, file_at}
use Rattle.page_map.specs.declared.ranges.Look.{Look}
use Rattle.page_map.specs.Board.{MapView, log_at}
use Rattle.range_tree.specs.Ranges.{range_count}
use Rattle.guest_wire.specs.Wires.{KeepsWire}
use Rattle.guest_dax.specs.Stands.{Stand, KeepsMap}
use Rattle.guest_dax.specs.Looks.{NoLooks, AllBlocked, looks_from}
use Rattle.guest_dax.specs.Pinning.{with_one}
use Rattle.guest_io.specs.declared.calls.Done.{Done}
use Rattle.guest_io.specs.declared.calls.Refusal.{Refusal}
use Rattle.guest_io.specs.declared.calls.Refusal.TheVariants as refusals
use Rattle.guest_io.specs.Calls.{Directs, first_chunk, last_chunk}
use Rattle.guest_io.specs.Requests.{IsUndone}
use Rattle.guest_io.specs.Chunks.{IsUnplaced}
use Rattle.guest_io.specs.Ways.{IsReadWay, IsWriteWay}

-- ---- what every call leaves

-- A board of files stays what it is, and has the same in hand. Its files have the same first contents.
pub record StaysBoard (old new : BoardView) : Type 0 where
  pub guest : new.guest ≡ old.guest
  pub plain : new.plain ≡ old.plain
  pub over : new.over ≡ old.over
  pub may_lease : new.may_lease ≡ old.may_lease
  pub others : new.others ≡ old.others
  pub hands : new.hands ≡ old.hands
  pub count : length new.files ≡ length old.files
  pub firsts : (file : ℕ) → (file_at new file).first ≡ (file_at old file).first

-- Whatever a call answers: the wire and both boards stay what they are, what was seen of logs has only grown, and nothing more is pinned, moved, leased, barred or had than before.
pub record LeavesAll (old new : Stand) : Type 0 where
  pub wire : KeepsWire old.wire new.wire
  pub files : StaysBoard old.files new.files
  pub map : KeepsMap old.map new.map
  pub hands : new.map.hands ≡ old.map.hands

-- ---- what a call answers that may have to take a range

-- the board with one more pin on a range
abbrev pub one_more_pin : MapView → ℕ → MapView
one_more_pin v range = record v { hands = with_one v range v.hands.moves }

-- There are ranges, a chunk of the interval wasn't placed in what was seen of the log at some moment in the call, and each range was moving or pinned. The pins noted with the looks are those that the board had before, and where the interval meets two chunks, on one range perhaps one more.
abbrev pub IsBusy : MapView → ℕ → ℕ → ℕ → List Look → MapView → Type 0
IsBusy old file off len looked new = (0 < range_count old) × (looked ≡ looks_from 0 new.ranges.looks)
    × ((AllBlocked old new × IsUnplaced old file (first_chunk off) new)
    ⊎ ((last_chunk off len ≡ first_chunk off + 1) × ((range : ℕ) × AllBlocked (one_more_pin old range) new) × IsUnplaced old file (first_chunk off + 1) new))

-- The refusal of a call on an interval of a file. Over an honest wire it is in no history, but that want of memory may come after the call's one entry.
abbrev pub IsRefused : Stand → ℕ → ℕ → Op → ℕ → ℕ → Refusal → Stand → Type 0
IsRefused old file call op off len (refusals.Busy looked) new = IsBusy old.map file off len looked new.map × (old.wire.honest ≡ true → IsUndone old.files file new.files)
IsRefused old file call op off len (refusals.Leased count) new = ⊥
IsRefused old file call op off len (refusals.NoHold hold) new = ⊥
IsRefused old file call op off len (refusals.Past end) new = ⊥
IsRefused old file call op off len (refusals.Errno number) new = NoLooks new.map × (old.wire.honest ≡ false)
IsRefused old file call op off len (refusals.BadReply bytes) new = NoLooks new.map × (old.wire.honest ≡ false)
IsRefused old file call op off len refusals.WireFault new = NoLooks new.map × (old.wire.honest ≡ false) × Rose old.wire.faults new.wire.faults
IsRefused old file call op off len refusals.Memory new = NoLooks new.map × (old.wire.honest ≡ true → IsUndone old.files file new.files ⊎ ((d : Done) × (way : Way) × Directs old.files file call way op d new.files))

-- What `read` answers. Over an honest wire it is one entry.
abbrev pub Reads : Stand → ℕ → ℕ → ℕ → ℕ → Result Done Refusal → Stand → Type 0
Reads old file call off len (Ok d) new = NoLooks new.map × ((way : Way) × IsReadWay (range_count old.map) (log_at new.map file) off len way × (old.wire.honest ≡ true → Directs old.files file call way (ops.Read off len) d new.files))
Reads old file call off len (Err e) new = IsRefused old file call (ops.Read off len) off len e new

-- a board that isn't a plain one stands over a table, and so keeps the sizes that it notes
abbrev pub KeepsSizes : BoardView → Type 0
KeepsSizes v = v.plain ≡ false → IsSome v.over

-- What `write` answers. Over an honest wire it is one entry; over plain boards the size that is noted stays a lower bound by itself.
abbrev pub Writes : Stand → ℕ → ℕ → ℕ → List ℕ → Result Done Refusal → Stand → Type 0
Writes old file call off bytes (Ok d) new = NoLooks new.map × ((way : Way) × (old.wire.honest ≡ true → Directs old.files file call way (ops.Write off bytes) d new.files
    × IsWriteWay (KeepsSizes old.files) (range_count old.map) (log_at new.map file) (file_at old.files file) (file_at new.files file) d.place off (length bytes) way))
Writes old file call off bytes (Err e) new = IsRefused old file call (ops.Write off bytes) off (length bytes) e new

-- no count of blocked rounds rises, but after want of memory
abbrev pub KeepsRounds : {T : Type 0} → MapView → Result T Refusal → MapView → Type 0
KeepsRounds old (Ok d) new = new.ranges.rounds ≡ old.ranges.rounds
KeepsRounds old (Err refusals.Memory) new = Unit {0}
KeepsRounds old (Err e) new = new.ranges.rounds ≡ old.ranges.rounds

-- each file's count of refused bars is as before
abbrev pub KeepsRefusals : BoardView → BoardView → Type 0
KeepsRefusals old new = (file : ℕ) → (file_at new file).refusals ≡ (file_at old file).refusals
