-- An operation on an interval of a file through the window.
use Rattle.std.specs.Prelude.{◌≡◌, ℕ, true, List, Option, None, Some, Result, Ok, Err}
use Rattle.plain_file.specs.declared.operations.Op.{Op}
use Rattle.plain_file.specs.declared.operations.Way.TheVariants as ways
use Rattle.plain_file.specs.declared.operations.Through.{Through}
use Rattle.page_map.specs.declared.pages.Mode.{Mode}
use Rattle.page_map.specs.declared.ranges.LogEntry.{LogEntry}
use Rattle.page_map.specs.Board.{MapView, log_at}
use Rattle.range_tree.specs.Ranges.{unpinned}
use Rattle.guest_dax.specs.Stands.{Stand, Keeps}
use Rattle.guest_dax.specs.Looks.{NoLooks}
use Rattle.guest_dax.specs.Reclaims.{Caused}
use Rattle.guest_dax.specs.declared.pins.Pinned.{Pinned}
use Rattle.guest_dax.specs.declared.refusals.DaxRefusal.{DaxRefusal}
use Rattle.guest_dax.specs.declared.refusals.DaxRefusal.TheVariants as dax
use Rattle.guest_io.specs.declared.calls.Done.{Done}
use Rattle.guest_io.specs.declared.calls.Refusal.{Refusal}
use Rattle.guest_io.specs.declared.calls.Refusal.TheVariants as refusals
use Rattle.guest_io.specs.declared.pins.Pins.{Pins}
use Rattle.guest_io.specs.Calls.{Covers, Directs, KeepsFloor}
use Rattle.guest_io.specs.Chunks.{Gets, with_all, AreHeld}
use Rattle.guest_io.specs.Going.{IsBusy, IsRefused}

-- the refusal of a guest's ranges as one of this crate
abbrev pub IsOfDax : DaxRefusal → Refusal → Type 0
IsOfDax (dax.Busy looked) e = e ≡ refusals.Busy looked
IsOfDax (dax.Errno number) e = e ≡ refusals.Errno number
IsOfDax (dax.BadReply bytes) e = e ≡ refusals.BadReply bytes
IsOfDax dax.WireFault e = e ≡ refusals.WireFault
IsOfDax dax.Memory e = e ≡ refusals.Memory

-- A second chunk was got beside the first; or it was refused, and then the first one's pin was given back.
abbrev pub GetsSecond : Stand → ℕ → ℕ → Mode → Pinned → Result Pins DaxRefusal → Stand → Type 0
GetsSecond old file chunk mode first (Ok pins) new = (pins.first ≡ first) × Keeps old new × ((second : Pinned) × (pins.second ≡ Some second) × Gets old file chunk mode (Ok second) new)
GetsSecond old file chunk mode first (Err e) new = (mid : MapView) × Keeps old (record new { map = mid }) × Gets old file chunk mode (Err e) (record new { map = mid }) × (new.map ≡ unpinned mid first.range)

-- one live pair for each chunk of the interval, by its pins
abbrev pub CoversBy : List LogEntry → ℕ → ℕ → Mode → Pinned → Option Pinned → Type 0
CoversBy log off len mode first None = Covers log off len mode first.through None
CoversBy log off len mode first (Some second) = Covers log off len mode first.through (Some second.through)

-- there is a pin on each chunk of the interval
abbrev pub HasAll : Stand → ℕ → ℕ → ℕ → Mode → Pinned → Option Pinned → Stand → Type 0
HasAll old file off len mode first second new = (new.map.hands ≡ with_all old.map.hands first second) × CoversBy (log_at new.map file) off len mode first second × AreHeld new.map file first second × NoLooks new.map

-- What getting all chunks of an interval answers: a pin on each; or why not.
abbrev pub GetsAll : Stand → ℕ → ℕ → ℕ → Mode → Result Pins DaxRefusal → Stand → Type 0
GetsAll old file off len mode (Ok pins) new = HasAll old file off len mode pins.first pins.second new
GetsAll old file off len mode (Err (dax.Busy looked)) new = (new.map.hands ≡ old.map.hands) × IsBusy old.map file off len looked new.map
GetsAll old file off len mode (Err e) new = (new.map.hands ≡ old.map.hands) × NoLooks new.map × Caused old e new

-- What an operation through the window answers: it is done by way of live pairs; or why not.
abbrev pub GoesThrough : Stand → ℕ → ℕ → Op → ℕ → ℕ → Mode → Result Done Refusal → Stand → Type 0
GoesThrough old file call op off len mode (Ok d) new = NoLooks new.map × ((first : Through) × (second : Option Through) × Covers (log_at new.map file) off len mode first second
    × (old.wire.honest ≡ true → Directs old.files file call (ways.Via first second) op d new.files × KeepsFloor old.files file d new.files))
GoesThrough old file call op off len mode (Err e) new = IsRefused old file call op off len e new
