-- The nine rules, each as the lines that break it.
use Rattle.std.specs.Prelude.{ℕ, ◌+◌, ◌*◌, ◌-◌, ◌/◌, ◌==◌, ◌&&◌, ◌||◌, min, Bool, true, false, not, nat_lt, nat_le, List, [], ◌∷◌, length, map, slice_get, Option, Some, None, is_some, is_none, unwrap_or, option_map, if◌then◌else◌}
use Rattle.std.specs.List.{list_any, range_with_len}
use Rattle.std.specs.Str.{bytes_eq}
use Rattle.plain_file.specs.declared.operations.Answer.{Answer}
use Rattle.plain_file.specs.declared.operations.Answer.TheVariants as answers
use Rattle.plain_file.specs.declared.operations.Entry.{Entry}
use Rattle.plain_file.specs.declared.operations.First.{First}
use Rattle.plain_file.specs.declared.operations.Op.{Op}
use Rattle.plain_file.specs.declared.operations.Op.TheVariants as ops
use Rattle.plain_file.specs.declared.operations.Through.{Through}
use Rattle.plain_file.specs.declared.operations.Way.{Way}
use Rattle.plain_file.specs.declared.operations.Way.TheVariants as ways
use Rattle.plain_file.specs.History.{size, reply}
use Rattle.page_map.specs.declared.ranges.LogEntry.{LogEntry}
use Rattle.range_tree.specs.Logs.{is_live, unsound_at}
use Rattle.page_map.specs.Logs.{is_writable}
use Rattle.dax_script.specs.declared.scripts.Call.{Call}
use Rattle.dax_script.specs.declared.scripts.Call.TheVariants as calls
use Rattle.dax_script.specs.declared.scripts.FileLine.{FileLine}
use Rattle.dax_script.specs.declared.scripts.Script.{Script}
use Rattle.plain_text.specs.Options.{◌>>=◌}
use Rattle.dax_script.specs.Asks.{chunk_size, held_of, is_hold, held_by, target, op_of, calls_of, call_at, hold_in}
use Rattle.dax_script.specs.declared.asks.Held.{Held}
use Rattle.dax_script.specs.declared.asks.Target.{Target}
use Rattle.transcript_text.specs.declared.transcripts.EntryLine.{EntryLine}
use Rattle.transcript_text.specs.declared.transcripts.FilePart.{FilePart}
use Rattle.transcript_text.specs.declared.transcripts.Line.{Line}
use Rattle.transcript_text.specs.declared.transcripts.Line.TheVariants as lines
use Rattle.dax_audit.specs.declared.verdicts.Grant.{Grant}
use Rattle.transcript_text.specs.declared.transcripts.Numbered.{Numbered}
use Rattle.transcript_text.specs.declared.transcripts.Transcript.{Transcript}
use Rattle.dax_audit.specs.Items.{Item, Head, Ranges, File, Entry as entry_item, Log, Guest, Call as call_item, End}
use Rattle.dax_audit.specs.Guests.{place_of, line_in, places_on, seen_before, next_place, grant_in, had_grant}

-- ---- what a transcript tells for a script

-- a file as far as it was seen: what it began with, its history, its placement log
pub record Past : Type 0 where
  pub first : First
  pub history : List Entry
  pub log : List LogEntry

-- the operation of an entry: its call's, and where there is no such call only a look at the size
abbrev pub op_in : Script → EntryLine → Op
op_in s e = unwrap_or (call_at s e.guest e.call >>= op_of (calls_of s e.guest)) ops.Size

abbrev pub entry_in : Script → EntryLine → Entry
entry_in s e = record { guest = e.guest; call = e.call; op = op_in s e; way = e.way }

abbrev pub past_of : Script → FilePart → Past
past_of s part = record { first = part.first; history = map (entry_in s) part.entries; log = part.log }

abbrev pub pasts : Script → Transcript → List Past
pasts s t = map (past_of s) t.files

abbrev pub lines_of : Transcript → ℕ → List Numbered
lines_of t guest = unwrap_or (option_map (λ p. p.lines) (slice_get t.guests guest)) []

abbrev pub line_at : Transcript → ℕ → ℕ → Option Line
line_at t guest call = line_in (lines_of t guest) call

abbrev pub entry_at : Transcript → ℕ → ℕ → Option EntryLine
entry_at t file place = slice_get t.files file >>= λ part. slice_get part.entries place

-- ---- 1: the ranges and the files are the script's

abbrev pub is_file_line : FileLine → FilePart → Bool
is_file_line f p = bytes_eq p.name f.name && p.first.size == f.first.size && p.first.fill == f.first.fill

abbrev pub is_line_of_file : Option FileLine → FilePart → Bool
is_line_of_file None p = false
is_line_of_file (Some f) p = is_file_line f p

-- Where files are missing, the line behind them is the fault's.
unfoldable pub breaks_files : Script → Transcript → Item → Bool
breaks_files s t Head = false
breaks_files s t Ranges = not (t.ranges == s.ranges)
breaks_files s t (File file part) = not (is_line_of_file (slice_get s.files file) part)
breaks_files s t (entry_item file place e) = false
breaks_files s t (Log file place e) = false
breaks_files s t (Guest guest part) = nat_lt (length t.files) (length s.files)
breaks_files s t (call_item guest call n) = false
breaks_files s t End = nat_lt (length t.files) (length s.files)

-- ---- 2: the guests are the script's, each with one line a call, in order

-- a guest before this one has too few lines
abbrev pub lacks_lines : Script → Transcript → ℕ → Bool
lacks_lines s t guest = nat_lt 0 guest && nat_lt (length (lines_of t (guest - 1))) (length (calls_of s (guest - 1)))

-- Where lines or guests are missing, the line behind them is the fault's.
unfoldable pub breaks_guests : Script → Transcript → Item → Bool
breaks_guests s t Head = false
breaks_guests s t Ranges = false
breaks_guests s t (File file part) = false
breaks_guests s t (entry_item file place e) = false
breaks_guests s t (Log file place e) = false
breaks_guests s t (Guest guest part) = not (part.guest == guest) || not (nat_lt guest (length s.guests)) || lacks_lines s t guest
breaks_guests s t (call_item guest call n) = not (n.call == call) || is_none (call_at s guest call)
breaks_guests s t End = nat_lt (length t.guests) (length s.guests) || lacks_lines s t (length t.guests)

-- ---- 3: each line fits its call

unfoldable pub is_reading : Call → Bool
is_reading (calls.Read file off len) = true
is_reading (calls.Load hold off len) = true
is_reading c = false

unfoldable pub is_writing : Call → Bool
is_writing (calls.Write file off bytes) = true
is_writing (calls.Fill file off len byte) = true
is_writing (calls.Store hold off bytes) = true
is_writing c = false

unfoldable pub is_sizing : Call → Bool
is_sizing (calls.Size file) = true
is_sizing (calls.Truncate file size) = true
is_sizing c = false

unfoldable pub is_truncating : Call → Bool
is_truncating (calls.Truncate file size) = true
is_truncating c = false

-- a call that may have to take a range
unfoldable pub is_taking : Call → Bool
is_taking (calls.Read file off len) = true
is_taking (calls.Write file off bytes) = true
is_taking (calls.Fill file off len byte) = true
is_taking (calls.Hold file chunk mode) = true
is_taking c = false

unfoldable pub is_releasing : Call → Bool
is_releasing (calls.Release hold) = true
is_releasing c = false

unfoldable pub answers_call : Call → Answer → Bool
answers_call c (answers.Bytes bytes) = is_reading c
answers_call c (answers.Wrote n) = is_writing c
answers_call c (answers.Size n) = is_sizing c

unfoldable pub fits : Call → Line → Bool
fits c (lines.Done place answer) = answers_call c answer
fits c (lines.Held end through) = is_hold c
fits c lines.Released = is_releasing c
fits c (lines.Busy letters) = is_taking c
fits c (lines.Leased count) = is_truncating c
fits c lines.NoHold = is_some (hold_in c)
fits c (lines.Past end) = is_some (hold_in c) && not (is_releasing c)

-- ---- 4: entries and lines that are done name each other

abbrev pub is_at : ℕ → Option (Option ℕ) → Bool
is_at place None = false
is_at place (Some None) = false
is_at place (Some (Some p)) = p == place

-- the guest's call is done at this place of this file
unfoldable pub is_done_at : List Call → List Numbered → ℕ → ℕ → ℕ → Bool
is_done_at cs ls file call place = is_at place (slice_get (places_on cs ls file) call)

-- the entry is that of this call
abbrev pub names : ℕ → ℕ → Option Entry → Bool
names guest call None = false
names guest call (Some e) = e.guest == guest && e.call == call

abbrev pub no_past : Past
no_past = record { first = record { size = 0; fill = 0 }; history = []; log = [] }

abbrev pub past_at : List Past → ℕ → Past
past_at ps file = unwrap_or (slice_get ps file) no_past

abbrev pub has_entry : List Past → ℕ → ℕ → Option Target → Option ℕ → Bool
has_entry ps guest call to None = true
has_entry ps guest call None (Some place) = false
has_entry ps guest call (Some to) (Some place) = names guest call (slice_get (past_at ps to.file).history place)

-- the same of an entry's line
abbrev pub names_line : ℕ → ℕ → Option EntryLine → Bool
names_line guest call None = false
names_line guest call (Some e) = e.guest == guest && e.call == call

-- ---- 5: the places of one guest in one file rise in the order of its calls

unfoldable pub rises : List Call → List Numbered → ℕ → Option Target → Option ℕ → Bool
rises cs ls call to None = true
rises cs ls call None (Some place) = false
rises cs ls call (Some to) (Some place) = nat_le (seen_before cs ls to.file call) place

-- ---- 6: each answer is the plain file's after the entries before its place

unfoldable pub same_answer : Answer → Answer → Bool
same_answer (answers.Bytes a) (answers.Bytes b) = bytes_eq a b
same_answer (answers.Wrote m) (answers.Wrote n) = m == n
same_answer (answers.Size m) (answers.Size n) = m == n
same_answer a b = false

abbrev pub is_answer : Answer → Option Answer → Bool
is_answer a None = false
is_answer a (Some b) = same_answer b a

abbrev pub replies_at : List Past → Option Target → ℕ → Answer → Bool
replies_at ps None place a = false
replies_at ps (Some to) place a = is_answer a (reply (past_at ps to.file).first (past_at ps to.file).history place)

unfoldable pub replies : List Past → Option Target → Line → Bool
replies ps to (lines.Done place answer) = replies_at ps to place answer
replies ps to l = true

-- ---- 7: how each operation came to its file

-- the chunks that so many bytes from an offset on meet, of which there are one or two
unfoldable pub chunks : ℕ → ℕ → List ℕ
chunks off len = if off / chunk_size == (off + len - 1) / chunk_size then off / chunk_size ∷ [] else off / chunk_size ∷ (off / chunk_size + 1) ∷ []

unfoldable pub pairs_of : Way → List Through
pairs_of ways.Req = []
pairs_of (ways.ReqSaw size) = []
pairs_of (ways.Via k None) = k ∷ []
pairs_of (ways.Via k (Some m)) = k ∷ m ∷ []

-- one live placement for each chunk, in order
unfoldable pub covers : Bool → List LogEntry → List ℕ → List Through → Bool
covers write log [] [] = true
covers write log [] (k ∷ ks) = false
covers write log (c ∷ cs) [] = false
covers write log (c ∷ cs) (k ∷ ks) = is_live write log c k.entry k.upto && covers write log cs ks

-- the size after a prefix of the history whose length is from `low` to `high`
unfoldable pub is_fresh : Past → ℕ → ℕ → ℕ → Bool
is_fresh h z low high = list_any (λ n. size h.first h.history n == z) (range_with_len low (high + 1 - low))

-- so many bytes written at an offset
unfoldable pub write_way : Past → ℕ → ℕ → ℕ → ℕ → Way → Bool
write_way h seen place off len ways.Req = false
write_way h seen place off len (ways.ReqSaw z) = nat_lt z (off + len) && is_fresh h z seen place
write_way h seen place off len (ways.Via k m) = nat_le (off + len) (size h.first h.history place) && covers true h.log (chunks off len) (pairs_of (ways.Via k m))

abbrev pub same_through : Through → Through → Bool
same_through k m = k.entry == m.entry && k.upto == m.upto

abbrev pub is_one_pair : Through → List Through → Bool
is_one_pair k [] = false
is_one_pair k (m ∷ []) = same_through m k
is_one_pair k (m ∷ n ∷ ms) = false

-- so many bytes at an offset of a hold
unfoldable pub hold_way : Bool → List LogEntry → Option Held → Option Grant → ℕ → ℕ → Way → Bool
hold_way write log None grant off len way = false
hold_way write log (Some held) None off len way = false
hold_way write log (Some held) (Some g) off len way = is_one_pair g.through (pairs_of way) && covers write log (chunks (held.chunk * chunk_size + off) len) (pairs_of way)

unfoldable pub is_req : Way → Bool
is_req ways.Req = true
is_req (ways.ReqSaw size) = false
is_req (ways.Via k m) = false

-- the way of a guest's call that has this place in a file, where there is a window
unfoldable pub windowed : Past → List Call → List Numbered → ℕ → ℕ → ℕ → Call → Way → Bool
windowed h cs ls file place call (calls.Read f off len) way = covers false h.log (chunks off len) (pairs_of way)
windowed h cs ls file place call (calls.Write f off bytes) way = write_way h (seen_before cs ls file call) place off (length bytes) way
windowed h cs ls file place call (calls.Fill f off len byte) way = write_way h (seen_before cs ls file call) place off len way
windowed h cs ls file place call (calls.Size f) way = is_req way
windowed h cs ls file place call (calls.Truncate f size) way = is_req way
windowed h cs ls file place call (calls.Hold f chunk mode) way = false
windowed h cs ls file place call (calls.Load hold off len) way = hold_way false h.log (held_by cs hold) (grant_in cs ls hold) off len way
windowed h cs ls file place call (calls.Store hold off bytes) way = hold_way true h.log (held_by cs hold) (grant_in cs ls hold) off (length bytes) way
windowed h cs ls file place call (calls.Release hold) way = false

abbrev pub way_fits : ℕ → Past → List Call → List Numbered → ℕ → ℕ → ℕ → Option Call → Way → Bool
way_fits ranges h cs ls file place call None way = false
way_fits ranges h cs ls file place call (Some c) way = if ranges == 0 then is_req way else windowed h cs ls file place call c way

-- ---- 8: the answers that aren't an entry's

-- the lesser of the chunk's end and the size after a prefix of the history whose length is from `low` to `high`
unfoldable pub is_end : Past → ℕ → ℕ → ℕ → ℕ → Bool
is_end h chunk z low high = list_any (λ n. min ((chunk + 1) * chunk_size) (size h.first h.history n) == z) (range_with_len low (high + 1 - low))

-- A hold is granted through a live placement of its chunk, and its end is fresh: a prefix has at most the whole
-- history's length.
unfoldable pub grants : List Past → List Call → List Numbered → ℕ → Option Held → ℕ → Through → Bool
grants ps cs ls call None end k = false
grants ps cs ls call (Some held) end k =
    is_live (is_writable held.mode) (past_at ps held.file).log held.chunk k.entry k.upto
    && is_end (past_at ps held.file) held.chunk end (seen_before cs ls held.file call) (min (unwrap_or (next_place cs ls held.file call) (length (past_at ps held.file).history)) (length (past_at ps held.file).history))

-- where the access of a load or a store ends, in the file
unfoldable pub access_end : Option Target → Call → Option ℕ
access_end (Some to) (calls.Load hold off len) = Some (to.start + off + len)
access_end (Some to) (calls.Store hold off bytes) = Some (to.start + off + length bytes)
access_end to c = None

abbrev pub is_within : Option Grant → Option ℕ → Bool
is_within None end = false
is_within (Some g) None = true
is_within (Some g) (Some end) = nat_le end g.end

abbrev pub is_past : Option Grant → Option ℕ → ℕ → Bool
is_past None end z = false
is_past (Some g) None z = false
is_past (Some g) (Some end) z = g.end == z && nat_lt z end

-- what a guest has of the hold that a call uses
abbrev pub grant_for : List Call → List Numbered → ℕ → Option ℕ → Option Grant
grant_for cs ls call None = None
grant_for cs ls call (Some hold) = had_grant cs ls hold call

unfoldable pub tells : ℕ → List Past → List Call → List Numbered → ℕ → Call → Line → Bool
tells ranges ps cs ls call c (lines.Done place answer) = is_none (hold_in c) || is_within (grant_for cs ls call (hold_in c)) (access_end (target cs c) c)
tells ranges ps cs ls call c (lines.Held end k) = grants ps cs ls call (held_of c) end k
tells ranges ps cs ls call c lines.Released = is_some (grant_for cs ls call (hold_in c))
tells ranges ps cs ls call c (lines.Busy letters) = nat_lt 0 ranges && length letters == ranges
tells ranges ps cs ls call c (lines.Leased count) = nat_lt 0 count
tells ranges ps cs ls call c lines.NoHold = is_none (grant_for cs ls call (hold_in c))
tells ranges ps cs ls call c (lines.Past end) = is_past (grant_for cs ls call (hold_in c)) (access_end (target cs c) c) end

-- ---- 9: each log is sound

abbrev pub is_place : ℕ → Option ℕ → Bool
is_place k None = false
is_place k (Some n) = n == k

unfoldable pub breaks_logs : Script → Transcript → Item → Bool
breaks_logs s t (Log file k e) = is_place k (slice_get t.files file >>= λ part. unsound_at t.ranges part.log)
breaks_logs s t i = false

-- ---- the rules on calls' lines and on entries, at their lines

-- what is asked of a call; where there is none, nothing is
abbrev pub judged : Option Call → (Call → Bool) → Bool
judged None test = true
judged (Some c) test = test c

-- the line of a call of a guest meets rule 3, 4, 5, 6, 8
abbrev pub fits_at : Script → ℕ → ℕ → Line → Bool
fits_at s guest call l = judged (call_at s guest call) (λ c. fits c l)

abbrev pub has_entry_at : Script → Transcript → ℕ → ℕ → Line → Bool
has_entry_at s t guest call l = judged (call_at s guest call) (λ c. has_entry (pasts s t) guest call (target (calls_of s guest) c) (place_of l))

abbrev pub rises_at : Script → Transcript → ℕ → ℕ → Line → Bool
rises_at s t guest call l = judged (call_at s guest call) (λ c. rises (calls_of s guest) (lines_of t guest) call (target (calls_of s guest) c) (place_of l))

abbrev pub replies_right : Script → Transcript → ℕ → ℕ → Line → Bool
replies_right s t guest call l = judged (call_at s guest call) (λ c. replies (pasts s t) (target (calls_of s guest) c) l)

abbrev pub tells_at : Script → Transcript → ℕ → ℕ → Line → Bool
tells_at s t guest call l = judged (call_at s guest call) (λ c. tells t.ranges (pasts s t) (calls_of s guest) (lines_of t guest) call c l)

-- an entry at a place of a file meets rule 4, 7
abbrev pub is_named : Script → Transcript → ℕ → ℕ → EntryLine → Bool
is_named s t file place e = is_done_at (calls_of s e.guest) (lines_of t e.guest) file e.call place

abbrev pub came_right : Script → Transcript → ℕ → ℕ → EntryLine → Bool
came_right s t file place e = way_fits t.ranges (past_at (pasts s t) file) (calls_of s e.guest) (lines_of t e.guest) file place e.call (call_at s e.guest e.call) e.way

-- an item that is a call's line, or an entry, and doesn't meet a test
unfoldable pub breaks_call : (ℕ → ℕ → Line → Bool) → Item → Bool
breaks_call test (call_item guest call n) = not (test guest call n.line)
breaks_call test i = false

unfoldable pub breaks_entry : (ℕ → ℕ → EntryLine → Bool) → Item → Bool
breaks_entry test (entry_item file place e) = not (test file place e)
breaks_entry test i = false

abbrev pub breaks_forms : Script → Transcript → Item → Bool
breaks_forms s t = breaks_call (fits_at s)

abbrev pub breaks_entries : Script → Transcript → Item → Bool
breaks_entries s t i = breaks_entry (is_named s t) i || breaks_call (has_entry_at s t) i

abbrev pub breaks_order : Script → Transcript → Item → Bool
breaks_order s t = breaks_call (rises_at s t)

abbrev pub breaks_replies : Script → Transcript → Item → Bool
breaks_replies s t = breaks_call (replies_right s t)

abbrev pub breaks_ways : Script → Transcript → Item → Bool
breaks_ways s t = breaks_entry (came_right s t)

abbrev pub breaks_tales : Script → Transcript → Item → Bool
breaks_tales s t = breaks_call (tells_at s t)
