-- What one guest did: its calls and its lines, in the histories and the placement logs that it has seen. Both are given by the file's number.
use Rattle.std.specs.Prelude.{◌≡◌, ◌⊎◌, ℕ, ◌+◌, ◌*◌, ◌<◌, ◌≤◌, min, true, false, List, [], ◌∷◌, ◌++◌, length, map, replicate, slice_get, Option, Some, None}
use Rattle.plain_file.specs.declared.operations.Entry.{Entry}
use Rattle.plain_file.specs.declared.operations.First.{First}
use Rattle.plain_file.specs.declared.operations.Op.{Op}
use Rattle.plain_file.specs.declared.operations.Op.TheVariants as ops
use Rattle.plain_file.specs.declared.operations.Through.{Through}
use Rattle.plain_file.specs.declared.operations.Way.{Way}
use Rattle.plain_file.specs.declared.operations.Way.TheVariants as ways
use Rattle.plain_file.specs.File.{answer}
use Rattle.plain_file.specs.History.{bytes, size}
use Rattle.plain_file.specs.Board.{Note}
use Rattle.plain_file.specs.Sound.{IsFresh}
use Rattle.page_map.specs.declared.ranges.LogEntry.{LogEntry}
use Rattle.page_map.specs.Logs.{is_writable}
use Rattle.range_tree.specs.Logs.{is_live, unsound_at}
use Rattle.dax_script.specs.Asks.{chunk_size, held_of, held_by, hold_in, place_of_hold}
use Rattle.dax_script.specs.declared.asks.Held.{Held}
use Rattle.dax_script.specs.declared.scripts.Call.{Call}
use Rattle.dax_script.specs.declared.scripts.Call.TheVariants as calls
use Rattle.dax_script.specs.declared.scripts.FileLine.{FileLine}
use Rattle.dax_script.specs.declared.scripts.Script.{Script}
use Rattle.transcript_text.specs.declared.transcripts.EntryLine.{EntryLine}
use Rattle.transcript_text.specs.declared.transcripts.FilePart.{FilePart}
use Rattle.transcript_text.specs.declared.transcripts.GuestPart.{GuestPart}
use Rattle.transcript_text.specs.declared.transcripts.Line.TheVariants as lines
use Rattle.transcript_text.specs.declared.transcripts.Numbered.{Numbered}
use Rattle.transcript_text.specs.declared.transcripts.Transcript.{Transcript}
use Rattle.dax_audit.specs.declared.verdicts.Grant.{Grant}
use Rattle.dax_audit.specs.Guests.{place_of, had_grant}
use Rattle.dax_audit.specs.Tables.{end_of}
use Rattle.dax_audit.specs.Rules.{chunks, covers, pairs_of, is_taking, is_truncating}

-- ---- what a call asks

-- an operation on a file
pub record Asked : Type 0 where
  pub file : ℕ
  pub op : Op

abbrev pub on_file : ℕ → Op → Option Asked
on_file file op = Some (record { file = file; op = op })

-- what is asked through a hold, by where its chunk begins in its file; nothing where there is no such hold
unfoldable pub through_hold : Option Held → (ℕ → Op) → Option Asked
through_hold None op = None
through_hold (Some held) op = on_file held.file (op (held.chunk * chunk_size))

-- What a call of a guest asks of its file. A hold and a release are no operation.
unfoldable pub asked : List Call → Call → Option Asked
asked cs (calls.Read file off len) = on_file file (ops.Read off len)
asked cs (calls.Write file off bytes) = on_file file (ops.Write off bytes)
asked cs (calls.Fill file off len byte) = on_file file (ops.Write off (replicate len byte))
asked cs (calls.Size file) = on_file file ops.Size
asked cs (calls.Truncate file size) = on_file file (ops.Truncate size)
asked cs (calls.Hold file chunk mode) = None
asked cs (calls.Load hold off len) = through_hold (held_by cs hold) (λ start. ops.Read (start + off) len)
asked cs (calls.Store hold off bytes) = through_hold (held_by cs hold) (λ start. ops.Write (start + off) bytes)
asked cs (calls.Release hold) = None

-- the entry of the guest's n-th call
abbrev pub the_entry : ℕ → ℕ → Op → Way → Entry
the_entry guest n op way = record { guest = guest; call = n; op = op; way = way }

-- ---- how an operation came to its file

-- The way of an operation at this place of a file, where there is a window: a read or a write goes through one live placement for each chunk; a write so only where it ends at most at the size before its place, and else by a request with a size below its end, which was the file's at a length that the guest hadn't passed before.
unfoldable pub FitsWindow : First → List Entry → List LogEntry → (ℕ → Type 0) → ℕ → Op → Way → Type 0
FitsWindow first h log seen place (ops.Read off len) way = covers false log (chunks off len) (pairs_of way) ≡ true
FitsWindow first h log seen place (ops.Write off bytes) ways.Req = ⊥
FitsWindow first h log seen place (ops.Write off bytes) (ways.ReqSaw z) = (z < off + length bytes) × ((k : ℕ) × seen k × (k ≤ place) × (size first h k ≡ z))
FitsWindow first h log seen place (ops.Write off bytes) (ways.Via a b) = (off + length bytes ≤ size first h place) × (covers true log (chunks off (length bytes)) (pairs_of (ways.Via a b)) ≡ true)
FitsWindow first h log seen place (ops.Truncate size) way = way ≡ ways.Req
FitsWindow first h log seen place ops.Size way = way ≡ ways.Req

-- the same with so many ranges: without any it is a request
pub record FitsWay (ranges : ℕ) (first : First) (h : List Entry) (log : List LogEntry) (seen : ℕ → Type 0) (place : ℕ) (op : Op) (way : Way) : Type 0 where
  pub without : ranges ≡ 0 → way ≡ ways.Req
  pub windowed : 0 < ranges → FitsWindow first h log seen place op way

-- the pairs cover what a read or a write meets, in order
unfoldable pub CoversOp : List LogEntry → Op → List Through → Type 0
CoversOp log (ops.Read off len) ks = covers false log (chunks off len) ks ≡ true
CoversOp log (ops.Write off bytes) ks = covers true log (chunks off (length bytes)) ks ≡ true
CoversOp log (ops.Truncate size) ks = ⊥
CoversOp log ops.Size ks = ⊥

-- ---- one guest's run

-- the guest has this hold before its n-th call: it was granted so, and not given up
abbrev pub Had : List Call → List Numbered → ℕ → ℕ → Grant → Type 0
Had cs ls n hold grant = had_grant cs ls hold n ≡ Some grant

-- an earlier call than the n-th asked for the hold
pub record IsAskedBefore (cs : List Call) (n hold : ℕ) : Type 0 where
  pub at : ℕ
  pub place : place_of_hold cs hold ≡ Some at
  pub before : at < n

-- the operation goes through the pair of a hold that the guest has, and ends within it
pub record IsThroughHold (ranges : ℕ) (log : List LogEntry) (cs : List Call) (ls : List Numbered) (n hold : ℕ) (op : Op) (way : Way) : Type 0 where
  pub some : 0 < ranges
  pub grant : Grant
  pub had : Had cs ls n hold grant
  pub goes : way ≡ ways.Via grant.through None
  pub covered : CoversOp log op (grant.through ∷ [])
  pub within : end_of op ≤ grant.end

-- the n-th call is on this file, and its line has this place
pub record IsPlaced (cs : List Call) (ls : List Numbered) (f n p : ℕ) : Type 0 where
  pub call : Call
  pub op : Op
  pub made : slice_get cs n ≡ Some call
  pub asks : asked cs call ≡ on_file f op
  pub line : Numbered
  pub told : slice_get ls n ≡ Some line
  pub place : place_of line.line ≡ Some p

-- each earlier call than the n-th that is done in the file has a place below k
abbrev pub IsSeenBefore : List Call → List Numbered → ℕ → ℕ → ℕ → Type 0
IsSeenBefore cs ls f n k = (m p : ℕ) → m < n → IsPlaced cs ls f m p → p < k

-- each later one has a place that isn't
abbrev pub IsSeenUntil : List Call → List Numbered → ℕ → ℕ → ℕ → Type 0
IsSeenUntil cs ls f n k = (m p : ℕ) → n < m → IsPlaced cs ls f m p → k ≤ p

-- how the operation of the n-th call came to its place in its file: through the hold that it uses, or as the window and its size want it
unfoldable pub Came : ℕ → First → List Entry → List LogEntry → List Call → List Numbered → ℕ → Option ℕ → ℕ → Asked → Way → Type 0
Came ranges first h log cs ls n None place to way = FitsWay ranges first h log (IsSeenBefore cs ls to.file n) place to.op way
Came ranges first h log cs ls n (Some hold) place to way = IsThroughHold ranges log cs ls n hold to.op way

-- The line of the guest's n-th call says that it is done: where it stands in its file's history, and what the plain file answers there. Its way fits.
pub record IsDone (guest ranges : ℕ) (first : ℕ → First) (h : ℕ → List Entry) (logs : ℕ → List LogEntry) (cs : List Call) (ls : List Numbered) (n : ℕ) (c : Call) (l : Numbered) : Type 0 where
  pub to : Asked
  pub place : ℕ
  pub way : Way
  pub asks : asked cs c ≡ Some to
  pub line : l ≡ record { call = n; line = lines.Done place (answer (bytes (first to.file) (h to.file) place) to.op) }
  pub entry : slice_get (h to.file) place ≡ Some (the_entry guest n to.op way)
  pub came : Came ranges (first to.file) (h to.file) (logs to.file) cs ls n (hold_in c) place to way

-- The size was the file's at a length that the guest hadn't passed before its n-th call, and not passed since.
pub record WasSize (first : First) (h : List Entry) (cs : List Call) (ls : List Numbered) (f n z : ℕ) : Type 0 where
  pub seen : ℕ
  pub since : IsSeenBefore cs ls f n seen
  pub until : IsSeenUntil cs ls f n seen
  pub known : seen ≤ length h
  pub is : z ≡ size first h seen

-- The size is one of those that were noted of the file, at a length that the guest hadn't passed before its n-th call. It has no upper end yet, and no later call of the guest is done in the file.
pub record IsNotedSize (notes : List Note) (cs : List Call) (ls : List Numbered) (f n z : ℕ) : Type 0 where
  pub at : ℕ
  pub note : Note
  pub noted : slice_get notes at ≡ Some note
  pub size : note.size ≡ z
  pub upper : note.upper ≡ None
  pub since : IsSeenBefore cs ls f n note.lower
  pub last : (m p : ℕ) → n < m → IsPlaced cs ls f m p → ⊥

-- It says that a hold is granted, through a live placement of its chunk. Its end is the lesser of the chunk's end and a size that was the file's meanwhile, or is noted so.
pub record IsGranted (first : ℕ → First) (h : ℕ → List Entry) (logs : ℕ → List LogEntry) (notes : ℕ → List Note) (cs : List Call) (ls : List Numbered) (n : ℕ) (c : Call) (l : Numbered) : Type 0 where
  pub held : Held
  pub through : Through
  pub end : ℕ
  pub asks : held_of c ≡ Some held
  pub line : l ≡ record { call = n; line = lines.Held end through }
  pub live : is_live (is_writable held.mode) (logs held.file) held.chunk through.entry through.upto ≡ true
  pub size : ℕ
  pub sized : WasSize (first held.file) (h held.file) cs ls held.file n size ⊎ IsNotedSize (notes held.file) cs ls held.file n size
  pub lesser : end ≡ min ((held.chunk + 1) * chunk_size) size

-- it says that a hold that the guest had is given back
pub record IsGivenBack (cs : List Call) (ls : List Numbered) (n : ℕ) (c : Call) (l : Numbered) : Type 0 where
  pub hold : ℕ
  pub grant : Grant
  pub gives : c ≡ calls.Release hold
  pub line : l ≡ record { call = n; line = lines.Released }
  pub had : Had cs ls n hold grant

-- it says that no range could be taken, with a letter for each
pub record IsBlocked (ranges n : ℕ) (c : Call) (l : Numbered) : Type 0 where
  pub letters : List ℕ
  pub takes : is_taking c ≡ true
  pub line : l ≡ record { call = n; line = lines.Busy letters }
  pub some : 0 < ranges
  pub each : length letters ≡ ranges

-- it says that the file is leased, and how often
pub record IsLeased (n : ℕ) (c : Call) (l : Numbered) : Type 0 where
  pub count : ℕ
  pub truncates : is_truncating c ≡ true
  pub line : l ≡ record { call = n; line = lines.Leased count }
  pub some : 0 < count

-- it says that the guest hasn't the hold that the call uses
pub record IsWithoutHold (cs : List Call) (ls : List Numbered) (n : ℕ) (c : Call) (l : Numbered) : Type 0 where
  pub hold : ℕ
  pub uses : hold_in c ≡ Some hold
  pub line : l ≡ record { call = n; line = lines.NoHold }
  pub asked : IsAskedBefore cs n hold
  pub none : had_grant cs ls hold n ≡ None

-- it says that the access ends above the end of the hold that it uses
pub record IsPast (cs : List Call) (ls : List Numbered) (n : ℕ) (c : Call) (l : Numbered) : Type 0 where
  pub hold : ℕ
  pub grant : Grant
  pub to : Asked
  pub uses : hold_in c ≡ Some hold
  pub asks : asked cs c ≡ Some to
  pub line : l ≡ record { call = n; line = lines.Past grant.end }
  pub had : Had cs ls n hold grant
  pub past : grant.end < end_of to.op

-- it says one of these
abbrev pub IsNotDone : ℕ → List Call → List Numbered → ℕ → Call → Numbered → Type 0
IsNotDone ranges cs ls n c l = IsBlocked ranges n c l ⊎ (IsLeased n c l ⊎ (IsWithoutHold cs ls n c l ⊎ IsPast cs ls n c l))

abbrev pub IsTold : ℕ → ℕ → (ℕ → First) → (ℕ → List Entry) → (ℕ → List LogEntry) → (ℕ → List Note) → List Call → List Numbered → ℕ → Call → Numbered → Type 0
IsTold guest ranges first h logs notes cs ls n c l = IsDone guest ranges first h logs cs ls n c l ⊎ (IsGranted first h logs notes cs ls n c l ⊎ (IsGivenBack cs ls n c l ⊎ IsNotDone ranges cs ls n c l))

-- an entry of the guest is that of a call on its file, whose line has its place
pub record IsOf (guest : ℕ) (cs : List Call) (ls : List Numbered) (f p : ℕ) (e : Entry) : Type 0 where
  pub call : Call
  pub made : slice_get cs e.call ≡ Some call
  pub asks : asked cs call ≡ on_file f e.op
  pub by : e.guest ≡ guest
  pub line : Numbered
  pub told : slice_get ls e.call ≡ Some line
  pub place : place_of line.line ≡ Some p

-- the lines of the guest's first calls, where these sizes are noted; no entries of the guest but theirs, in each file from this place on; places rise in each file
pub record IsRunFrom (guest ranges : ℕ) (first : ℕ → First) (from : ℕ → ℕ) (h : ℕ → List Entry) (logs : ℕ → List LogEntry) (notes : ℕ → List Note) (cs : List Call) (ls : List Numbered) : Type 0 where
  pub told : (n : ℕ) (c : Call) (l : Numbered) → slice_get cs n ≡ Some c → slice_get ls n ≡ Some l → IsTold guest ranges first h logs notes cs ls n c l
  pub only : (f p : ℕ) (e : Entry) → from f ≤ p → slice_get (h f) p ≡ Some e → e.guest ≡ guest → IsOf guest cs ls f p e
  pub rising : (f n m p q : ℕ) → n < m → IsPlaced cs ls f n p → IsPlaced cs ls f m q → p < q

-- from the files' beginnings on, with no size that is only noted
abbrev pub IsRun : ℕ → ℕ → (ℕ → First) → (ℕ → List Entry) → (ℕ → List LogEntry) → List Call → List Numbered → Type 0
IsRun guest ranges first h logs cs ls = IsRunFrom guest ranges first (λ f. 0) h logs (λ f. []) cs ls

-- the history goes on by entries of others
abbrev pub GoesOn : ℕ → List Entry → List Entry → Type 0
GoesOn guest h h' = (rest : List Entry) × (h' ≡ h ++ rest) × ((p : ℕ) (e : Entry) → slice_get h' p ≡ Some e → e.guest ≡ guest → p < length h)

-- each size that is noted of a file, and has no upper end, is noted so still, or was the file's between its lower end and the end of the history
abbrev pub NotesGoOn : First → List Entry → List Note → List Note → Type 0
NotesGoOn first h notes notes' = (k : ℕ) (n : Note) → slice_get notes k ≡ Some n → n.upper ≡ None → (slice_get notes' k ≡ Some n) ⊎ IsFresh first h n.lower (length h) n.size

-- the log goes on
abbrev pub LogGoesOn : List LogEntry → List LogEntry → Type 0
LogGoesOn log log' = (rest : List LogEntry) × (log' ≡ log ++ rest)

-- ---- the runs of all guests

-- what a transcript tells of an entry, and of a file
abbrev pub entry_line : Entry → EntryLine
entry_line e = record { guest = e.guest; call = e.call; way = e.way }

abbrev pub file_part : List Entry → List LogEntry → FileLine → FilePart
file_part history log f = record { name = f.name; first = f.first; entries = map entry_line history; log = log }

abbrev pub part_of : (ℕ → List Entry) → (ℕ → List LogEntry) → ℕ → FileLine → FilePart
part_of h logs n f = file_part (h n) (logs n) f

-- the parts of these files, from the n-th on
abbrev pub parts_from : (ℕ → List Entry) → (ℕ → List LogEntry) → ℕ → List FileLine → List FilePart
parts_from h logs n [] = []
parts_from h logs n (f ∷ fs) = part_of h logs n f ∷ parts_from h logs (n + 1) fs

-- the part of the guest is that of a run of all its calls
pub record IsPart (ranges : ℕ) (first : ℕ → First) (h : ℕ → List Entry) (logs : ℕ → List LogEntry) (guest : ℕ) (cs : List Call) (part : GuestPart) : Type 0 where
  pub number : part.guest ≡ guest
  pub count : length part.lines ≡ length cs
  pub run : IsRun guest ranges first h logs cs part.lines

-- a transcript of runs of all guests of a script, in histories with no entries but theirs, and in sound logs
pub record IsPlayed (first : ℕ → First) (h : ℕ → List Entry) (logs : ℕ → List LogEntry) (s : Script) (t : Transcript) : Type 0 where
  pub ranges : t.ranges ≡ s.ranges
  pub firsts : (f : ℕ) (l : FileLine) → slice_get s.files f ≡ Some l → l.first ≡ first f
  pub files : t.files ≡ parts_from h logs 0 s.files
  pub count : length t.guests ≡ length s.guests
  pub guests : (g : ℕ) (cs : List Call) (part : GuestPart) → slice_get s.guests g ≡ Some cs → slice_get t.guests g ≡ Some part → IsPart s.ranges first h logs g cs part
  pub in_files : (g n : ℕ) (cs : List Call) (c : Call) (a : Asked) → slice_get s.guests g ≡ Some cs → slice_get cs n ≡ Some c → asked cs c ≡ Some a → a.file < length s.files
  pub held_files : (g n : ℕ) (cs : List Call) (c : Call) (held : Held) → slice_get s.guests g ≡ Some cs → slice_get cs n ≡ Some c → held_of c ≡ Some held → held.file < length s.files
  pub known : (f p : ℕ) (e : Entry) → slice_get (h f) p ≡ Some e → e.guest < length s.guests
  pub sound : (f : ℕ) → f < length s.files → unsound_at s.ranges (logs f) ≡ None
