-- The calls that a worker makes, what they rest on, and what comes of each.
use Rattle.std.specs.Prelude.{◌≡◌, ◌≢◌, ◌⊎◌, ℕ, zero, suc, ◌+◌, ◌<◌, ◌≤◌, ◌==◌, ◌&&◌, Bool, true, false, List, [], ◌∷◌, length, replicate, slice_get, take, Option, Some, None, IfSome, is_some, Result, Ok, Err, if◌then◌else◌}
use Rattle.plain_file.specs.declared.operations.Entry.{Entry}
use Rattle.plain_file.specs.declared.operations.First.{First}
use Rattle.plain_file.specs.declared.operations.Op.{Op}
use Rattle.plain_file.specs.declared.operations.Op.TheVariants as ops
use Rattle.plain_file.specs.declared.operations.Way.{Way}
use Rattle.plain_file.specs.declared.operations.Way.TheVariants as ways
use Rattle.plain_file.specs.File.{max_file}
use Rattle.plain_file.specs.Limits.{max_transfer}
use Rattle.plain_file.specs.Counts.{more_by_one}
use Rattle.plain_file.specs.Board.{Note, FileView, BoardView, file_at}
use Rattle.plain_file.specs.Turns.{leases_on}
use Rattle.page_map.specs.declared.ranges.LogEntry.{LogEntry}
use Rattle.page_map.specs.declared.pages.Mode.{Mode}
use Rattle.page_map.specs.declared.pages.Mode.TheVariants as modes
use Rattle.page_map.specs.Window.{range_size, max_chunks}
use Rattle.page_map.specs.Board.{MapView, log_at}
use Rattle.range_tree.specs.Ranges.{range_count, look_at, is_noted_blocked, IsSoundRanges}
use Rattle.dax_script.specs.Asks.{held_by, hold_in, hold_places}
use Rattle.dax_script.specs.declared.asks.Held.{Held as Wanted}
use Rattle.dax_script.specs.declared.scripts.Call.{Call}
use Rattle.dax_script.specs.declared.scripts.Call.TheVariants as calls
use Rattle.transcript_text.specs.declared.transcripts.Line.{Line}
use Rattle.transcript_text.specs.declared.transcripts.Line.TheVariants as lines
use Rattle.transcript_text.specs.declared.transcripts.Numbered.{Numbered}
use Rattle.dax_audit.specs.declared.verdicts.Grant.{Grant}
use Rattle.dax_audit.specs.Guests.{had_grant}
use Rattle.dax_audit.specs.Tables.{end_of}
use Rattle.dax_audit.specs.Rules.{is_taking, is_truncating}
use Rattle.guest_wire.specs.declared.driver.FileRef.{FileRef}
use Rattle.guest_dax.specs.Stands.{Stand}
use Rattle.guest_dax.specs.Looks.{NoLooks, looks_from}
use Rattle.guest_dax.specs.Pinning.{PlacesIn}
use Rattle.guest_io.specs.declared.calls.Done.{Done}
use Rattle.guest_io.specs.declared.calls.Held.{Held}
use Rattle.guest_io.specs.declared.calls.Refusal.{Refusal}
use Rattle.guest_io.specs.declared.calls.Refusal.TheVariants as refusals
use Rattle.guest_io.specs.declared.guest.Granted.{Granted}
use Rattle.guest_io.specs.declared.guest.Holds.{Holds}
use Rattle.guest_io.specs.Calls.{Directs, first_chunk, last_chunk}
use Rattle.guest_io.specs.Notes.{KeepsNotes}
use Rattle.guest_io.specs.Requests.{IsHome}
use Rattle.guest_io.specs.Ways.{IsReadWay, IsWriteWay}
use Rattle.guest_io.specs.Going.{KeepsSizes, KeepsRefusals}
use Rattle.guest_io.specs.Holds.{HasHolds, IsGranted, max_holds, granted_at, start_of, refused_one, released_one}
use Rattle.guest_run.specs.Telling.{letters_of}
use Rattle.guest_run.specs.Runs.{Asked, Had, IsAskedBefore, GoesOn}

-- ---- the calls

-- a load, a store or a release of a hold that an earlier call than the n-th asked for
abbrev pub IsOfHold : List Call → ℕ → ℕ → Type 0
IsOfHold cs n hold = IsAskedBefore cs n hold

-- so many bytes that a call may move
abbrev pub IsMoved : ℕ → Type 0
IsMoved len = (0 < len) × (len ≤ max_transfer)

-- the hold was asked for with writing
pub record IsForWriting (cs : List Call) (hold : ℕ) : Type 0 where
  pub held : Wanted
  pub by : held_by cs hold ≡ Some held
  pub mode : held.mode ≡ modes.W

-- The n-th call of a guest is on one of so many files, within the limits. A hold is asked for where there are ranges; a call through a hold follows it.
unfoldable pub IsCall : ℕ → ℕ → List Call → ℕ → Call → Type 0
IsCall files ranges cs n (calls.Read file off len) = (file < files) × IsMoved len × (off + len ≤ max_file)
IsCall files ranges cs n (calls.Write file off bytes) = (file < files) × IsMoved (length bytes) × (off + length bytes ≤ max_file)
IsCall files ranges cs n (calls.Fill file off len byte) = (file < files) × IsMoved len × (off + len ≤ max_file)
IsCall files ranges cs n (calls.Size file) = file < files
IsCall files ranges cs n (calls.Truncate file size) = (file < files) × (size ≤ max_file)
IsCall files ranges cs n (calls.Hold file chunk mode) = (file < files) × (chunk < max_chunks) × (0 < ranges) × (length (hold_places 0 (take n cs)) < max_holds)
IsCall files ranges cs n (calls.Load hold off len) = IsOfHold cs n hold × IsMoved len × (off + len ≤ range_size)
IsCall files ranges cs n (calls.Store hold off bytes) = IsOfHold cs n hold × IsForWriting cs hold × IsMoved (length bytes) × (off + length bytes ≤ range_size)
IsCall files ranges cs n (calls.Release hold) = IsOfHold cs n hold

abbrev pub AreCalls : ℕ → ℕ → List Call → Type 0
AreCalls files ranges cs = (n : ℕ) (c : Call) → slice_get cs n ≡ Some c → IsCall files ranges cs n c

-- the most calls of a guest
abbrev pub max_calls : ℕ
max_calls = 65536

-- ---- what they rest on

-- A guest over an honest wire that has its holds, and nothing else in hand.
pub record IsIdle (s : Stand) (refs : List FileRef) (h : Holds) : Type 0 where
  pub home : IsHome s refs
  pub honest : s.wire.honest ≡ true
  pub tree : s.map.hands.tree ≡ None
  pub moves : s.map.hands.moves ≡ None
  pub looks : NoLooks s.map
  pub may_lease : 0 < range_count s.map → s.files.may_lease ≡ true
  pub unbarred : s.files.hands.bar ≡ None
  pub holds : HasHolds s h
  pub sizes : KeepsSizes s.files

-- nobody else takes or pins ranges, of which there are none or more than one
pub record TakesAlone (s : Stand) : Type 0 where
  pub others : s.map.ranges.others ≡ false
  pub count : range_count s.map ≢ 1

-- nobody else leases files
abbrev pub LeasesAlone : Stand → Type 0
LeasesAlone s = s.files.others ≡ false

-- what a board has seen of each file, and of its placement log
abbrev pub first_at : BoardView → ℕ → First
first_at v f = (file_at v f).first

abbrev pub history_at : BoardView → ℕ → List Entry
history_at v f = (file_at v f).history

-- the sizes that it has noted; a plain board has no need of any
abbrev pub notes_at : BoardView → ℕ → List Note
notes_at v f = if v.plain then [] else (file_at v f).notes

-- ---- what a guest's own holds keep from being done

abbrev pub is_held_on : ℕ → Option Wanted → Bool
is_held_on file None = false
is_held_on file (Some held) = held.file == file

-- by the lines before its n-th call the guest has a hold on the file
abbrev pub is_had_on : List Call → List Numbered → ℕ → ℕ → ℕ → Bool
is_had_on cs ls file n hold = is_some (had_grant cs (take n ls) hold n) && is_held_on file (held_by cs hold)

-- how many of so many holds from this number on
unfoldable pub had_from : List Call → List Numbered → ℕ → ℕ → ℕ → ℕ → ℕ
had_from cs ls file n hold zero = 0
had_from cs ls file n hold (suc k) = (if is_had_on cs ls file n hold then 1 else 0) + had_from cs ls file n (hold + 1) k

-- how many holds the guest has on the file before its n-th call
abbrev pub holds_on : List Call → List Numbered → ℕ → ℕ → ℕ
holds_on cs ls file n = had_from cs ls file n 0 max_holds

-- a truncation is refused for just so many leases, and done exactly where there is none
unfoldable pub IsBarredBy : ℕ → Line → Type 0
IsBarredBy held (lines.Done place answer) = held ≡ 0
IsBarredBy held (lines.Leased count) = (0 < held) × (count ≡ held)
IsBarredBy held (lines.Held end through) = ⊥
IsBarredBy held lines.Released = ⊥
IsBarredBy held (lines.Busy letters) = ⊥
IsBarredBy held lines.NoHold = ⊥
IsBarredBy held (lines.Past end) = ⊥

-- the range is that of a hold that the guest has, by the lines before its n-th call: the hold's entry in its file's log places its chunk there
pub record IsHeldRange (logs : ℕ → List LogEntry) (cs : List Call) (ls : List Numbered) (n range : ℕ) : Type 0 where
  pub hold : ℕ
  pub held : Wanted
  pub grant : Grant
  pub by : held_by cs hold ≡ Some held
  pub had : Had cs (take n ls) n hold grant
  pub entry : PlacesIn (logs held.file) grant.through.entry held.chunk range

-- the bytes that a call reads or writes lie in two chunks
unfoldable pub MeetsTwo : Call → Type 0
MeetsTwo (calls.Read file off len) = last_chunk off len ≡ first_chunk off + 1
MeetsTwo (calls.Write file off bytes) = last_chunk off (length bytes) ≡ first_chunk off + 1
MeetsTwo (calls.Fill file off len byte) = last_chunk off len ≡ first_chunk off + 1
MeetsTwo (calls.Size file) = ⊥
MeetsTwo (calls.Truncate file size) = ⊥
MeetsTwo (calls.Hold file chunk mode) = ⊥
MeetsTwo (calls.Load hold off len) = ⊥
MeetsTwo (calls.Store hold off bytes) = ⊥
MeetsTwo (calls.Release hold) = ⊥

-- the chunk of a file is one that a call needs: its bytes lie there, or it asks to hold it
unfoldable pub NeedsChunk : Call → ℕ → ℕ → Type 0
NeedsChunk (calls.Read file off len) f chunk = (f ≡ file) × ((chunk ≡ first_chunk off) ⊎ (chunk ≡ last_chunk off len))
NeedsChunk (calls.Write file off bytes) f chunk = (f ≡ file) × ((chunk ≡ first_chunk off) ⊎ (chunk ≡ last_chunk off (length bytes)))
NeedsChunk (calls.Fill file off len byte) f chunk = (f ≡ file) × ((chunk ≡ first_chunk off) ⊎ (chunk ≡ last_chunk off len))
NeedsChunk (calls.Hold file held mode) f chunk = (f ≡ file) × (chunk ≡ held)
NeedsChunk (calls.Size file) f chunk = ⊥
NeedsChunk (calls.Truncate file size) f chunk = ⊥
NeedsChunk (calls.Load hold off len) f chunk = ⊥
NeedsChunk (calls.Store hold off bytes) f chunk = ⊥
NeedsChunk (calls.Release hold) f chunk = ⊥

-- Each range was pinned, and is that of a hold that the guest has; one may be missing where the call's bytes lie in two chunks. Some chunk that the call needs is that of no such hold.
pub record IsHeldUp (ranges : ℕ) (logs : ℕ → List LogEntry) (cs : List Call) (ls : List Numbered) (n : ℕ) (c : Call) (letters : List ℕ) : Type 0 where
  pub pinned : letters ≡ replicate ranges 112
  pub missing : Option ℕ
  pub two : IfSome missing (λ range. MeetsTwo c)
  pub each : (range : ℕ) → range < ranges → missing ≢ Some range → IsHeldRange logs cs ls n range
  pub file : ℕ
  pub chunk : ℕ
  pub needs : NeedsChunk c file chunk
  pub unheld : (hold : ℕ) (held : Wanted) (grant : Grant) → held_by cs hold ≡ Some held → Had cs (take n ls) n hold grant → held.file ≡ file → held.chunk ≢ chunk

-- a truncation is refused exactly for the guest's own holds on the file
abbrev pub AreBarred : List Call → List Numbered → Type 0
AreBarred cs ls = (n file size : ℕ) (l : Numbered) → slice_get cs n ≡ Some (calls.Truncate file size) → slice_get ls n ≡ Some l → IsBarredBy (holds_on cs ls file n) l.line

-- where no range could be taken, the guest's own holds have them
abbrev pub AreHeldUp : ℕ → (ℕ → List LogEntry) → List Call → List Numbered → Type 0
AreHeldUp ranges logs cs ls = (n : ℕ) (c : Call) (l : Numbered) (letters : List ℕ) → slice_get cs n ≡ Some c → slice_get ls n ≡ Some l → l.line ≡ lines.Busy letters → IsHeldUp ranges logs cs ls n c letters

-- the lines of a guest that is alone
pub record IsFair (ranges : ℕ) (logs : ℕ → List LogEntry) (cs : List Call) (ls : List Numbered) : Type 0 where
  pub barred : AreBarred cs ls
  pub held_up : AreHeldUp ranges logs cs ls

-- ---- what comes of a call

-- how an operation of a guest came to its file, by what it is; of a noted size where the board keeps it
unfoldable pub CameBy : Type 0 → ℕ → List LogEntry → FileView → FileView → Op → ℕ → Way → Type 0
CameBy keeps ranges log old new (ops.Read off len) place way = IsReadWay ranges log off len way
CameBy keeps ranges log old new (ops.Write off bytes) place way = IsWriteWay keeps ranges log old new place off (length bytes) way
CameBy keeps ranges log old new (ops.Truncate size) place way = way ≡ ways.Req
CameBy keeps ranges log old new ops.Size place way = way ≡ ways.Req

-- it came through a hold that the guest has, and ends within it
pub record CameThrough (h : Holds) (hold : ℕ) (op : Op) (came : Way) : Type 0 where
  pub granted : Granted
  pub had : granted_at h hold ≡ Some granted
  pub way : came ≡ ways.Via granted.pinned.through None
  pub within : end_of op ≤ granted.end

-- the operation of a call, by the hold that it uses
unfoldable pub CameFrom : Stand → Holds → Asked → Done → Way → Stand → Option ℕ → Type 0
CameFrom s h to d way t None = CameBy (KeepsSizes s.files) (range_count s.map) (log_at t.map to.file) (file_at s.files to.file) (file_at t.files to.file) to.op d.place way
CameFrom s h to d way t (Some hold) = CameThrough h hold to.op way

-- what is asked through a hold that the guest has
abbrev pub AsksThrough : Holds → ℕ → (ℕ → Op) → Asked → Type 0
AsksThrough h hold op to = (g : Granted) × (granted_at h hold ≡ Some g) × (to ≡ record { file = g.file; op = op (start_of g) })

-- what a call of a guest with these holds asks of its file
unfoldable pub Asks : Holds → Call → Asked → Type 0
Asks h (calls.Read file off len) to = to ≡ record { file = file; op = ops.Read off len }
Asks h (calls.Write file off bytes) to = to ≡ record { file = file; op = ops.Write off bytes }
Asks h (calls.Fill file off len byte) to = to ≡ record { file = file; op = ops.Write off (replicate len byte) }
Asks h (calls.Size file) to = to ≡ record { file = file; op = ops.Size }
Asks h (calls.Truncate file size) to = (to ≡ record { file = file; op = ops.Truncate size })
Asks h (calls.Hold file chunk mode) to = ⊥
Asks h (calls.Load hold off len) to = AsksThrough h hold (λ start. ops.Read (start + off) len) to
Asks h (calls.Store hold off bytes) to = AsksThrough h hold (λ start. ops.Write (start + off) bytes) to
Asks h (calls.Release hold) to = ⊥

-- no entry of the guest's is more; others' entries may be seen, and sizes that were noted may have got their upper ends
abbrev pub OnlyOthers : BoardView → BoardView → Type 0
OnlyOthers old new = (f : ℕ) → GoesOn old.guest (history_at old f) (history_at new f) × KeepsNotes (file_at old f) (file_at new f)

-- The n-th call was done: others' entries came first, then its one entry. A truncation found no lease of the guest's own on its file.
pub record IsMade (s : Stand) (h : Holds) (n : ℕ) (c : Call) (d : Done) (t : Stand) : Type 0 where
  pub to : Asked
  pub way : Way
  pub asks : Asks h c to
  pub directs : Directs s.files to.file n way to.op d t.files
  pub came : CameFrom s h to d way t (hold_in c)
  pub unbarred : is_truncating c ≡ true → leases_on s.files to.file ≡ 0

-- a hold was granted
pub record IsHeldNow (s : Stand) (h : Holds) (c : Call) (held : Held) (t : Stand) (k : Holds) : Type 0 where
  pub file : ℕ
  pub chunk : ℕ
  pub mode : Mode
  pub asks : c ≡ calls.Hold file chunk mode
  pub granted : IsGranted s h file chunk mode held t k
  pub others : OnlyOthers s.files t.files

-- a hold was given back
pub record IsReleased (s : Stand) (h : Holds) (c : Call) (t : Stand) (k : Holds) : Type 0 where
  pub hold : ℕ
  pub granted : Granted
  pub asks : c ≡ calls.Release hold
  pub had : granted_at h hold ≡ Some granted
  pub holds : k ≡ released_one h hold
  pub others : OnlyOthers s.files t.files

-- the holds after a call was refused: a hold counts all the same
unfoldable pub after_refusal : Call → Holds → Holds
after_refusal (calls.Hold file chunk mode) h = refused_one h
after_refusal (calls.Read file off len) h = h
after_refusal (calls.Write file off bytes) h = h
after_refusal (calls.Fill file off len byte) h = h
after_refusal (calls.Size file) h = h
after_refusal (calls.Truncate file size) h = h
after_refusal (calls.Load hold off len) h = h
after_refusal (calls.Store hold off bytes) h = h
after_refusal (calls.Release hold) h = h

-- Each range was pinned, and is that of a hold of the guest's; one may be missing where the call's bytes lie in two chunks. Some chunk that the call needs is that of no hold.
pub record IsFull (ranges : ℕ) (h : Holds) (c : Call) (letters : List ℕ) : Type 0 where
  pub pinned : letters ≡ replicate ranges 112
  pub missing : Option ℕ
  pub two : IfSome missing (λ range. MeetsTwo c)
  pub each : (range : ℕ) → range < ranges → missing ≢ Some range → (hold : ℕ) × (g : Granted) × (granted_at h hold ≡ Some g) × (g.pinned.range ≡ range)
  pub file : ℕ
  pub chunk : ℕ
  pub needs : NeedsChunk c file chunk
  pub unheld : (hold : ℕ) (g : Granted) → granted_at h hold ≡ Some g → g.file ≡ file → g.chunk ≢ chunk

-- no range could be taken; where nobody else takes them, its own holds have them
pub record IsStuck (s : Stand) (h : Holds) (c : Call) (letters : List ℕ) (t : Stand) (k : Holds) : Type 0 where
  pub takes : is_taking c ≡ true
  pub some : 0 < range_count s.map
  pub each : length letters ≡ range_count s.map
  pub others : OnlyOthers s.files t.files
  pub holds : k ≡ after_refusal c h
  pub full : TakesAlone s → IsFull (range_count s.map) h c letters

-- a file is leased; where nobody else leases files, by its own holds
pub record IsLeasedNow (s : Stand) (h : Holds) (c : Call) (count : ℕ) (t : Stand) (k : Holds) : Type 0 where
  pub file : ℕ
  pub size : ℕ
  pub asks : c ≡ calls.Truncate file size
  pub some : 0 < count
  pub own : LeasesAlone s → count ≡ leases_on s.files file
  pub others : OnlyOthers s.files t.files
  pub holds : k ≡ h

-- the guest hasn't the hold that a call uses
pub record IsGone (s : Stand) (h : Holds) (c : Call) (t : Stand) (k : Holds) : Type 0 where
  pub hold : ℕ
  pub uses : hold_in c ≡ Some hold
  pub none : granted_at h hold ≡ None
  pub others : OnlyOthers s.files t.files
  pub holds : k ≡ h

-- an access ends above the end of the hold that it uses
pub record IsBeyond (s : Stand) (h : Holds) (c : Call) (told : ℕ) (t : Stand) (k : Holds) : Type 0 where
  pub hold : ℕ
  pub granted : Granted
  pub to : Asked
  pub uses : hold_in c ≡ Some hold
  pub had : granted_at h hold ≡ Some granted
  pub asks : Asks h c to
  pub end : told ≡ granted.end
  pub past : granted.end < end_of to.op
  pub others : OnlyOthers s.files t.files
  pub holds : k ≡ h

-- what the line of the n-th call tells, of a guest with these holds before it and those behind it
unfoldable pub Tells : Stand → Holds → ℕ → Call → Line → Stand → Holds → Type 0
Tells s h n c (lines.Done place answer) t k = IsMade s h n c (record { place = place; answer = answer }) t × (k ≡ h)
Tells s h n c (lines.Held end through) t k = IsHeldNow s h c (record { end = end; through = through }) t k
Tells s h n c lines.Released t k = IsReleased s h c t k
Tells s h n c (lines.Busy letters) t k = IsStuck s h c letters t k
Tells s h n c (lines.Leased count) t k = IsLeasedNow s h c count t k
Tells s h n c lines.NoHold t k = IsGone s h c t k
Tells s h n c (lines.Past end) t k = IsBeyond s h c end t k

-- ---- one call by itself

-- a guest with these holds can make the call: it is on one of so many files, within the limits; a store's hold was granted for writing
unfoldable pub CanMake : Stand → Holds → ℕ → Call → Type 0
CanMake s h files (calls.Read file off len) = (file < files) × IsMoved len × (off + len ≤ max_file)
CanMake s h files (calls.Write file off bytes) = (file < files) × IsMoved (length bytes) × (off + length bytes ≤ max_file)
CanMake s h files (calls.Fill file off len byte) = (file < files) × IsMoved len × (off + len ≤ max_file)
CanMake s h files (calls.Size file) = file < files
CanMake s h files (calls.Truncate file size) = (file < files) × (size ≤ max_file)
CanMake s h files (calls.Hold file chunk mode) = (file < files) × (chunk < max_chunks) × (0 < range_count s.map) × (h.asked < max_holds)
CanMake s h files (calls.Load hold off len) = IsMoved len × (off + len ≤ range_size)
CanMake s h files (calls.Store hold off bytes) = IfSome (granted_at h hold) (λ g. g.mode ≡ modes.W) × IsMoved (length bytes) × (off + length bytes ≤ range_size)
CanMake s h files (calls.Release hold) = Unit {0}

-- an answer as a line, where the call was done
abbrev pub IsToldOf : Result Done Refusal → Result Line Refusal → Type 0
IsToldOf (Ok d) (Ok l) = l ≡ lines.Done d.place d.answer
IsToldOf (Err e) (Err f) = f ≡ e
IsToldOf (Ok d) (Err f) = ⊥
IsToldOf (Err e) (Ok l) = ⊥

-- What the guest answers to the n-th call over an honest wire: what its line will tell. Where no range could be taken, the looks are noted, one for each range of a sound board; else none is.
abbrev pub Comes : Stand → Holds → ℕ → Call → Result Line Refusal → Stand → Holds → Type 0
Comes s h n c (Ok l) t k = NoLooks t.map × Tells s h n c l t k
Comes s h n c (Err (refusals.Busy looked)) t k = (looked ≡ looks_from 0 t.map.ranges.looks) × (IsSoundRanges t.map → IsStuck s h c (letters_of looked) t k)
Comes s h n c (Err (refusals.Leased count)) t k = NoLooks t.map × IsLeasedNow s h c count t k
Comes s h n c (Err (refusals.NoHold hold)) t k = NoLooks t.map × IsGone s h c t k
Comes s h n c (Err (refusals.Past end)) t k = NoLooks t.map × IsBeyond s h c end t k
Comes s h n c (Err refusals.Memory) t k = NoLooks t.map
Comes s h n c (Err e) t k = ⊥

-- a line says that its call is done
unfoldable pub is_done_line : Line → Bool
is_done_line (lines.Done place answer) = true
is_done_line (lines.Held end through) = false
is_done_line lines.Released = false
is_done_line (lines.Busy letters) = false
is_done_line (lines.Leased count) = false
is_done_line lines.NoHold = false
is_done_line (lines.Past end) = false

-- each line of a list does
abbrev pub AllDone : List Numbered → Type 0
AllDone ls = (n : ℕ) (l : Numbered) → slice_get ls n ≡ Some l → is_done_line l.line ≡ true

-- ---- counts

-- a line says that no range could be taken
unfoldable pub is_busy_line : Line → Bool
is_busy_line (lines.Done place answer) = false
is_busy_line (lines.Held end through) = false
is_busy_line lines.Released = false
is_busy_line (lines.Busy letters) = true
is_busy_line (lines.Leased count) = false
is_busy_line lines.NoHold = false
is_busy_line (lines.Past end) = false

-- how many of the lines do
unfoldable pub busy_lines : List Numbered → ℕ
busy_lines [] = 0
busy_lines (l ∷ ls) = (if is_busy_line l.line then 1 else 0) + busy_lines ls

-- a line says that a file is leased
unfoldable pub is_leased_line : Line → Bool
is_leased_line (lines.Done place answer) = false
is_leased_line (lines.Held end through) = false
is_leased_line lines.Released = false
is_leased_line (lines.Busy letters) = false
is_leased_line (lines.Leased count) = true
is_leased_line lines.NoHold = false
is_leased_line (lines.Past end) = false

-- a call truncates this file
unfoldable pub truncates : ℕ → Call → Bool
truncates f (calls.Read file off len) = false
truncates f (calls.Write file off bytes) = false
truncates f (calls.Fill file off len byte) = false
truncates f (calls.Size file) = false
truncates f (calls.Truncate file size) = file == f
truncates f (calls.Hold file chunk mode) = false
truncates f (calls.Load hold off len) = false
truncates f (calls.Store hold off bytes) = false
truncates f (calls.Release hold) = false

-- how many truncations of a file are told to have found it leased
unfoldable pub leased_lines : List Call → List Numbered → ℕ → ℕ
leased_lines [] ls f = 0
leased_lines (c ∷ cs) [] f = 0
leased_lines (c ∷ cs) (l ∷ ls) f = (if truncates f c && is_leased_line l.line then 1 else 0) + leased_lines cs ls f

-- The boards have counted just the lines of these calls: a round of all ranges that found each of them pinned or moving for each busy line, and for each leased line a refused bar of the call's file.
pub record HasCounted (s t : Stand) (cs : List Call) (ls : List Numbered) : Type 0 where
  pub rounds : s.map.ranges.rounds ≡ 0 → t.map.ranges.rounds ≡ busy_lines ls
  pub refusals : (f : ℕ) → (file_at s.files f).refusals ≡ 0 → (file_at t.files f).refusals ≡ leased_lines cs ls f

-- ---- counts of one call

-- there are ranges, and each one's noted look shows it pinned or moving
abbrev pub ShowsBlocked : MapView → Type 0
ShowsBlocked v = (0 < range_count v) × ((range : ℕ) → range < range_count v → is_noted_blocked (look_at v range) ≡ true)

-- no count has changed: neither that of blocked rounds, nor a file's of refused bars
abbrev pub KeepsCounts : Stand → Stand → Type 0
KeepsCounts s t = (t.map.ranges.rounds ≡ s.map.ranges.rounds) × KeepsRefusals s.files t.files

-- a refused bar of the call's file is counted
abbrev pub CountsBar : Stand → Call → Stand → Type 0
CountsBar s c t = (f : ℕ) → (file_at t.files f).refusals ≡ (if truncates f c then more_by_one (file_at s.files f).refusals else (file_at s.files f).refusals)

-- What a call's answer counts before its line is told: a refused bar where its file was leased, and no round yet. Where no range could be taken, the looks that are noted are such a round. Of want of memory nothing is said.
abbrev pub Counts : Stand → Call → Result Line Refusal → Stand → Type 0
Counts s c (Ok l) t = (is_busy_line l ≡ false) × (is_leased_line l ≡ false) × KeepsCounts s t
Counts s c (Err (refusals.Busy looked)) t = ShowsBlocked t.map × KeepsCounts s t
Counts s c (Err (refusals.Leased count)) t = (t.map.ranges.rounds ≡ s.map.ranges.rounds) × CountsBar s c t
Counts s c (Err (refusals.NoHold hold)) t = KeepsCounts s t
Counts s c (Err (refusals.Past end)) t = KeepsCounts s t
Counts s c (Err e) t = Unit {0}

-- what a call's line counts
pub record HasCountedOne (s t : Stand) (c : Call) (l : Line) : Type 0 where
  pub rounds : t.map.ranges.rounds ≡ (if is_busy_line l then more_by_one s.map.ranges.rounds else s.map.ranges.rounds)
  pub refusals : (f : ℕ) → (file_at t.files f).refusals ≡ (if truncates f c && is_leased_line l then more_by_one (file_at s.files f).refusals else (file_at s.files f).refusals)
