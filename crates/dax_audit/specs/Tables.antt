-- What is looked up for the audit, one list for each file.
use Rattle.std.specs.Prelude.{◌≡◌, Vec, ℕ, ◌+◌, ◌-◌, ◌≤◌, ◌==◌, ◌&&◌, nat_lt, nat_le, zip, take, drop, slice_index, Bool, true, false, List, [], ◌∷◌, length, map, slice_get, replicate, ◌||◌, ◌*◌, min, is_some, is_none, if◌then◌else◌, IfSome, ◌<◌, Option, Some, None, unwrap_or}
use Rattle.plain_file.specs.declared.operations.Answer.{Answer}
use Rattle.plain_file.specs.declared.operations.Op.{Op}
use Rattle.plain_file.specs.declared.operations.Op.TheVariants as ops
use Rattle.plain_file.specs.File.{max_file, after, answer, first_bytes}
use Rattle.dax_script.specs.declared.scripts.Call.{Call}
use Rattle.dax_script.specs.declared.scripts.Script.{Script}
use Rattle.plain_text.specs.Options.{◌>>=◌}
use Rattle.dax_script.specs.Asks.{chunk_size, calls_of, call_at, op_of, held_by, held_of, target, hold_in, hold_places}
use Rattle.dax_script.specs.declared.scripts.FileLine.{FileLine}
use Rattle.dax_audit.specs.declared.verdicts.Verdict.{Verdict}
use Rattle.dax_audit.specs.declared.verdicts.Verdict.TheVariants as verdicts
use Rattle.dax_audit.specs.Legal.{Fault}
use Rattle.dax_script.specs.declared.scripts.Call.TheVariants as calls
use Rattle.dax_audit.specs.declared.replays.Deed.{Deed}
use Rattle.dax_audit.specs.declared.replays.Deed.TheVariants as deeds
use Rattle.dax_audit.specs.declared.replays.Replay.{Replay}
use Rattle.transcript_text.specs.declared.transcripts.EntryLine.{EntryLine}
use Rattle.transcript_text.specs.declared.transcripts.Line.{Line}
use Rattle.transcript_text.specs.declared.transcripts.Line.TheVariants as lines
use Rattle.transcript_text.specs.declared.transcripts.Transcript.{Transcript}
use Rattle.dax_audit.specs.Rules.{op_in, line_at, entry_at, same_answer, has_entry_at, is_named, covers, chunks, pairs_of, is_req, hold_way, is_within, is_past, Past, grants}
use Rattle.dax_audit.specs.Guests.{seen_at, given_at, grant_in}
use Rattle.dax_audit.specs.declared.looks.Look.{Look}
use Rattle.transcript_text.specs.declared.transcripts.FilePart.{FilePart}
use Rattle.transcript_text.specs.declared.transcripts.GuestPart.{GuestPart}
use Rattle.dax_audit.specs.declared.verdicts.Grant.{Grant}
use Rattle.transcript_text.specs.declared.transcripts.Numbered.{Numbered}
use Rattle.page_map.specs.declared.ranges.LogEntry.{LogEntry}
use Rattle.plain_file.specs.declared.operations.Through.{Through}
use Rattle.range_tree.specs.declared.lives.Lives.{Lives}
use Rattle.plain_file.specs.declared.operations.Way.{Way}
use Rattle.plain_file.specs.declared.operations.Way.TheVariants as ways
use Rattle.std.specs.declared.alloc.Global.{Global}
use Rattle.std.specs.List.{list_any, range_with_len}

unfoldable pub op_of_deed : Deed → Op
op_of_deed (deeds.Read off len) = ops.Read off len
op_of_deed (deeds.Write off bytes) = ops.Write off bytes.now
op_of_deed (deeds.Fill off len byte) = ops.Write off (replicate len byte)
op_of_deed (deeds.Truncate size) = ops.Truncate size
op_of_deed deeds.Size = ops.Size

-- what a call whose offsets count from here does; a call without an operation looks at the size
abbrev pub deed_from : Option Op → Op
deed_from o = unwrap_or o ops.Size

-- where an operation ends
unfoldable pub end_of : Op → ℕ
end_of (ops.Read off len) = off + len
end_of (ops.Write off bytes) = off + length bytes
end_of (ops.Truncate size) = size
end_of ops.Size = 0

-- each operation of a script stays within the largest file
pub record StaysWithin (s : Script) : Type 0 where
  pub each : (guest call : ℕ) (c : Call) → call_at s guest call ≡ Some c → end_of (deed_from (op_of (calls_of s guest) c)) ≤ max_file

-- the sizes before each entry and after the last one, of a file that has these bytes first
unfoldable pub sizes_from : Script → List ℕ → List EntryLine → List ℕ
sizes_from s b [] = length b ∷ []
sizes_from s b (e ∷ es) = length b ∷ sizes_from s (after b (op_in s e)) es

-- a line tells this answer
unfoldable pub told_by : Line → Answer → Bool
told_by (lines.Done place b) a = same_answer a b
told_by (lines.Held end through) a = false
told_by lines.Released a = false
told_by (lines.Busy letters) a = false
told_by (lines.Leased count) a = false
told_by lines.NoHold a = false
told_by (lines.Past end) a = false

abbrev pub told : Option Line → Answer → Bool
told None a = false
told (Some l) a = told_by l a

unfoldable pub right_on : Script → Transcript → List ℕ → EntryLine → Bool
right_on s t b e = told (line_at t e.guest e.call) (answer b (op_in s e))

-- per entry whether its call's line tells the plain file's answer
unfoldable pub rights_from : Script → Transcript → List ℕ → List EntryLine → List Bool
rights_from s t b [] = []
rights_from s t b (e ∷ es) = right_on s t b e ∷ rights_from s t (after b (op_in s e)) es

-- per file of a transcript the tables that its entries give
pub record AreReplays (s : Script) (t : Transcript) (replays : List Replay) : Type 0 where
  pub sizes : map (λ r. r.sizes.items) replays ≡ map (λ part. sizes_from s (first_bytes part.first) part.entries) t.files
  pub right : map (λ r. r.right.items) replays ≡ map (λ part. rights_from s t (first_bytes part.first) part.entries) t.files

-- what the tables have at a place of a file; false and none where there is no such place
unfoldable pub right_in : List Replay → ℕ → ℕ → Bool
right_in rs file place = unwrap_or (slice_get rs file >>= λ r. slice_get r.right.items place) false

abbrev pub no_sizes : Option Replay → List ℕ
no_sizes None = []
no_sizes (Some r) = r.sizes.items

unfoldable pub sizes_in : List Replay → ℕ → List ℕ
sizes_in rs file = no_sizes (slice_get rs file)

-- each line that is done has its entry
pub record HaveEntries (s : Script) (t : Transcript) : Type 0 where
  pub each : (guest call : ℕ) (l : Line) → line_at t guest call ≡ Some l → has_entry_at s t guest call l ≡ true

-- per guest of a transcript what was before each of its calls
abbrev pub calls_made : List Call → List Numbered → List ℕ
calls_made cs ls = range_with_len 0 (length (zip cs ls))

pub record IsLook (cs : List Call) (ls : List Numbered) (look : Look) : Type 0 where
  pub seen : look.seen.items ≡ map (seen_at cs ls) (calls_made cs ls)
  pub given : look.given.items ≡ map (given_at cs ls) (calls_made cs ls)

pub record AreLooks (s : Script) (t : Transcript) (looks : List Look) : Type 0 where
  pub each : (guest : ℕ) (part : GuestPart) → slice_get t.guests guest ≡ Some part → (look : Look) × (slice_get looks guest ≡ Some look) × IsLook (calls_of s guest) part.lines look

unfoldable pub seen_in : List Look → ℕ → ℕ → ℕ
seen_in looks guest call = unwrap_or (slice_get looks guest >>= λ look. slice_get look.seen.items call) 0

unfoldable pub given_in : List Look → ℕ → ℕ → Bool
given_in looks guest call = unwrap_or (slice_get looks guest >>= λ look. slice_get look.given.items call) false

-- each entry names its call
pub record AreNamed (s : Script) (t : Transcript) : Type 0 where
  pub each : (file place : ℕ) (e : EntryLine) → entry_at t file place ≡ Some e → is_named s t file place e ≡ true

-- a size among those from place `low` to place `high`
unfoldable pub fresh_in : List ℕ → ℕ → ℕ → ℕ → Bool
fresh_in sizes z low high = list_any (λ x. x == z) (take (high + 1 - low) (drop low sizes))

-- the way of a write, by the sizes
unfoldable pub write_by : List ℕ → List LogEntry → ℕ → ℕ → ℕ → ℕ → Way → Bool
write_by sizes log seen place off len ways.Req = false
write_by sizes log seen place off len (ways.ReqSaw z) = nat_lt z (off + len) && fresh_in sizes z seen place
write_by sizes log seen place off len (ways.Via k m) = nat_le (off + len) (slice_index sizes place) && covers true log (chunks off len) (pairs_of (ways.Via k m))

-- the way of a call where there is a window, by the sizes and what the guest had seen
unfoldable pub windowed_by : List ℕ → List LogEntry → ℕ → List Call → List Numbered → ℕ → Call → Way → Bool
windowed_by sizes log seen cs ls place (calls.Read f off len) way = covers false log (chunks off len) (pairs_of way)
windowed_by sizes log seen cs ls place (calls.Write f off bytes) way = write_by sizes log seen place off (length bytes) way
windowed_by sizes log seen cs ls place (calls.Fill f off len byte) way = write_by sizes log seen place off len way
windowed_by sizes log seen cs ls place (calls.Size f) way = is_req way
windowed_by sizes log seen cs ls place (calls.Truncate f size) way = is_req way
windowed_by sizes log seen cs ls place (calls.Hold f chunk mode) way = false
windowed_by sizes log seen cs ls place (calls.Load hold off len) way = hold_way false log (held_by cs hold) (grant_in cs ls hold) off len way
windowed_by sizes log seen cs ls place (calls.Store hold off bytes) way = hold_way true log (held_by cs hold) (grant_in cs ls hold) off (length bytes) way
windowed_by sizes log seen cs ls place (calls.Release hold) way = false

abbrev pub no_log : Option FilePart → List LogEntry
no_log None = []
no_log (Some part) = part.log

unfoldable pub log_in : Transcript → ℕ → List LogEntry
log_in t file = no_log (slice_get t.files file)

abbrev pub no_lives : Option Lives → List LogEntry
no_lives None = []
no_lives (Some l) = l.log.now

-- the log of a file by the tables of all files; empty where there is no such file
unfoldable pub lives_in : List Lives → ℕ → List LogEntry
lives_in lives file = no_lives (slice_get lives file)

-- per file of a transcript its log
abbrev pub AreLives : Transcript → List Lives → Type 0
AreLives t lives = map (λ l. l.log.now) lives ≡ map (λ part. part.log) t.files

-- what a guest has of a hold that a call uses, by whether it was given up before
unfoldable pub had_by : Bool → List Call → List Numbered → Option ℕ → Option Grant
had_by given cs ls None = None
had_by given cs ls (Some hold) = if given then None else grant_in cs ls hold

-- whether a line tells what it may, by what the guest has, where the access ends, and whether a hold is granted so
unfoldable pub tells_by : ℕ → Option ℕ → Option Grant → Option ℕ → Bool → Line → Bool
tells_by ranges hold had end granted (lines.Done place answer) = is_none hold || is_within had end
tells_by ranges hold had end granted (lines.Held z k) = granted
tells_by ranges hold had end granted lines.Released = is_some had
tells_by ranges hold had end granted (lines.Busy letters) = nat_lt 0 ranges && length letters == ranges
tells_by ranges hold had end granted (lines.Leased count) = nat_lt 0 count
tells_by ranges hold had end granted lines.NoHold = is_none had
tells_by ranges hold had end granted (lines.Past z) = is_past had end z

-- the end of a chunk, or a size among those from place `low` to place `high`, whichever is less
unfoldable pub end_in : List ℕ → ℕ → ℕ → ℕ → ℕ → Bool
end_in sizes chunk z low high = list_any (λ x. min ((chunk + 1) * chunk_size) x == z) (take (high + 1 - low) (drop low sizes))

-- whether the line of a granted hold tells what it may
unfoldable pub granted_line : List Past → List Call → List Numbered → ℕ → Call → Line → Bool
granted_line ps cs ls call c (lines.Held end k) = grants ps cs ls call (held_of c) end k
granted_line ps cs ls call c (lines.Done place answer) = false
granted_line ps cs ls call c lines.Released = false
granted_line ps cs ls call c (lines.Busy letters) = false
granted_line ps cs ls call c (lines.Leased count) = false
granted_line ps cs ls call c lines.NoHold = false
granted_line ps cs ls call c (lines.Past end) = false

abbrev pub held_line : ℕ → Through → Line
held_line end k = lines.Held end k

-- what is known of a script's calls and files: each call is on a file and a hold of the script, and files are small
pub record IsSound (s : Script) : Type 0 where
  pub within : StaysWithin s
  pub files : (guest call : ℕ) (c : Call) → slice_get (calls_of s guest) call ≡ Some c → IfSome (target (calls_of s guest) c) (λ x. x.file < length s.files)
  pub holds : (guest call : ℕ) (c : Call) → slice_get (calls_of s guest) call ≡ Some c → IfSome (hold_in c) (λ h. h < length (hold_places 0 (calls_of s guest)))
  pub sizes : (file : ℕ) (f : FileLine) → slice_get s.files file ≡ Some f → f.first.size ≤ max_file

-- the looks at the first guests
pub record AreLooksTo (s : Script) (t : Transcript) (n : ℕ) (looks : List Look) : Type 0 where
  pub many : length looks ≡ n
  pub each : (guest : ℕ) (part : GuestPart) → guest < n → slice_get t.guests guest ≡ Some part → (look : Look) × (slice_get looks guest ≡ Some look) × IsLook (calls_of s guest) part.lines look

abbrev pub verdict_of : Option Fault → Verdict
verdict_of None = verdicts.Legal
verdict_of (Some f) = verdicts.Fault f.rule f.line

-- per guest of the script where its `hold` calls stand
abbrev pub AreHolds : Script → List (Vec ℕ Global) → Type 0
AreHolds s holds = map (λ v. v.items) holds ≡ map (hold_places 0) s.guests
