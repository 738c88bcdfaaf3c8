-- What transcript a text is: a fold over its lines, by the words of each.
use Rattle.std.specs.Prelude.{◌≡◌, ℕ, ◌-◌, ◌^◌, ◌+◌, ◌<◌, ◌==◌, ◌||◌, ◌&&◌, not, Bool, true, Result, Ok, Err, List, [], ◌∷◌, ◌++◌, length, codes, Option, Some, None, option_map, if◌then◌else◌}
use Rattle.std.specs.List.{AllByRecursion, list_all}
use Rattle.std.specs.Str.{bytes_eq}
use Rattle.plain_file.specs.declared.operations.Answer.{Answer}
use Rattle.plain_file.specs.declared.operations.Answer.TheVariants as answers
use Rattle.plain_file.specs.declared.operations.Through.{Through}
use Rattle.plain_file.specs.declared.operations.Way.{Way}
use Rattle.plain_file.specs.declared.operations.Way.TheVariants as ways
use Rattle.page_map.specs.declared.pages.Mode.{Mode}
use Rattle.page_map.specs.declared.pages.Mode.TheVariants as modes
use Rattle.page_map.specs.declared.ranges.LogEntry.{LogEntry}
use Rattle.page_map.specs.declared.ranges.LogEntry.TheVariants as logs
use Rattle.transcript_text.specs.declared.transcripts.EntryLine.{EntryLine}
use Rattle.transcript_text.specs.declared.transcripts.FilePart.{FilePart}
use Rattle.transcript_text.specs.declared.transcripts.GuestPart.{GuestPart}
use Rattle.transcript_text.specs.declared.transcripts.Line.{Line}
use Rattle.transcript_text.specs.declared.transcripts.Line.TheVariants as lines
use Rattle.transcript_text.specs.declared.transcripts.Numbered.{Numbered}
use Rattle.transcript_text.specs.declared.transcripts.Transcript.{Transcript}
use Rattle.plain_text.specs.Options.{◌>>=◌}
use Rattle.plain_text.specs.Words.{parts, line_end, space}
use Rattle.plain_text.specs.Numbers.{number_within}
use Rattle.plain_text.specs.Hexadecimal.{hex_of}
use Rattle.dax_script.specs.ScriptWords.{is_script_name}

-- a number of 32 bits: a guest, a call, a version, how many ranges
unfoldable pub number_32 : List ℕ → Option ℕ
number_32 word = number_within word (2 ^ 32 - 1)

-- a number of 64 bits: a place, a size, a place in a placement log
unfoldable pub number_64 : List ℕ → Option ℕ
number_64 word = number_within word (2 ^ 64 - 1)

-- the one byte of a list
unfoldable pub only_byte : List ℕ → Option ℕ
only_byte (b ∷ []) = Some b
only_byte bytes = None

-- bytes in hexadecimal, and - for no bytes
unfoldable pub bytes_of : List ℕ → Option (List ℕ)
bytes_of word = if bytes_eq word (codes "-") then Some [] else hex_of word

-- a place in a placement log, and the log's length when seen
unfoldable pub through_of : List ℕ → List ℕ → Option Through
through_of entry upto = number_64 entry >>= λ k. number_64 upto >>= λ m. Some (record { entry = k; upto = m })

unfoldable pub way_of : List (List ℕ) → Option Way
way_of (verb ∷ []) = if bytes_eq verb (codes "req") then Some ways.Req else None
way_of (verb ∷ size ∷ []) = if bytes_eq verb (codes "req") then option_map (λ z. ways.ReqSaw z) (number_64 size) else None
way_of (verb ∷ k ∷ m ∷ []) = if bytes_eq verb (codes "via") then option_map (λ first. ways.Via first None) (through_of k m) else None
way_of (verb ∷ k ∷ m ∷ l ∷ n ∷ []) =
    if bytes_eq verb (codes "via") then (through_of k m >>= λ first. option_map (λ second. ways.Via first (Some second)) (through_of l n)) else None
way_of words = None

unfoldable pub answer_of_words : List (List ℕ) → Option Answer
answer_of_words (verb ∷ word ∷ []) =
    if bytes_eq verb (codes "bytes") then option_map (λ bytes. answers.Bytes bytes) (bytes_of word)
    else if bytes_eq verb (codes "wrote") then option_map (λ n. answers.Wrote n) (number_64 word)
    else if bytes_eq verb (codes "size") then option_map (λ n. answers.Size n) (number_64 word)
    else None
answer_of_words words = None

-- one letter for each range, `p` or `m`
abbrev pub is_letter : ℕ → Bool
is_letter b = b == 112 || b == 109

abbrev pub is_letters : List ℕ → Bool
is_letters word = not (length word == 0) && list_all is_letter word

unfoldable pub via_of : List (List ℕ) → Option Through
via_of (verb ∷ k ∷ m ∷ []) = if bytes_eq verb (codes "via") then through_of k m else None
via_of words = None

unfoldable pub mode_of : List ℕ → Option Mode
mode_of word = if bytes_eq word (codes "r") then Some modes.R else if bytes_eq word (codes "w") then Some modes.W else None

-- the words after `log`
unfoldable pub log_of_words : List (List ℕ) → Option LogEntry
log_of_words (verb ∷ range ∷ []) =
    if bytes_eq verb (codes "upgrade") then option_map (λ r. logs.Upgrade r) (number_32 range)
    else if bytes_eq verb (codes "remove") then option_map (λ r. logs.Remove r) (number_32 range)
    else None
log_of_words (verb ∷ chunk ∷ within ∷ range ∷ mode ∷ []) =
    if bytes_eq verb (codes "place") then (if bytes_eq within (codes "in") then (number_32 chunk >>= λ c. number_32 range >>= λ r. option_map (λ m. logs.Place c r m) (mode_of mode)) else None) else None
log_of_words words = None

-- what became of a call
unfoldable pub line_of_words : List (List ℕ) → Option Line
line_of_words (verb ∷ []) =
    if bytes_eq verb (codes "released") then Some lines.Released
    else if bytes_eq verb (codes "nohold") then Some lines.NoHold
    else None
line_of_words (verb ∷ word ∷ []) =
    if bytes_eq verb (codes "busy") then (if is_letters word then Some (lines.Busy word) else None)
    else if bytes_eq verb (codes "leased") then option_map (λ n. lines.Leased n) (number_32 word)
    else if bytes_eq verb (codes "past") then option_map (λ z. lines.Past z) (number_64 word)
    else None
line_of_words (verb ∷ place ∷ word ∷ words) =
    if bytes_eq verb (codes "done") then (number_64 place >>= λ p. option_map (λ answer. lines.Done p answer) (answer_of_words (word ∷ words)))
    else if bytes_eq verb (codes "held") then (number_64 place >>= λ z. option_map (λ k. lines.Held z k) (via_of (word ∷ words)))
    else None
line_of_words [] = None

-- a call's line: its number, and what became of it
unfoldable pub numbered_of : List (List ℕ) → Option Numbered
numbered_of (call ∷ words) = number_32 call >>= λ c. option_map (λ line. record { call = c; line = line }) (line_of_words words)
numbered_of [] = None

-- the words after `entry`
unfoldable pub entry_of_words : List (List ℕ) → Option EntryLine
entry_of_words (guest ∷ call ∷ words) = number_32 guest >>= λ g. number_32 call >>= λ c. option_map (λ way. record { guest = g; call = c; way = way }) (way_of words)
entry_of_words words = None

-- the words after `file`: a file without an entry so far
unfoldable pub file_of_words : List (List ℕ) → Option FilePart
file_of_words (name ∷ size ∷ byte ∷ []) =
    if is_script_name name
    then (number_64 size >>= λ z. option_map (λ b. record { name = name; first = record { size = z; fill = b }; entries = []; log = [] }) (hex_of byte >>= only_byte))
    else None
file_of_words words = None

-- the words after `guest`: a guest without a line so far
unfoldable pub guest_of_words : List (List ℕ) → Option GuestPart
guest_of_words (guest ∷ []) = option_map (λ g. record { guest = g; lines = [] }) (number_32 guest)
guest_of_words words = None

-- What was read so far: nothing, the version, the ranges with files and guests, or a whole transcript.
pub data Reading : Type 0 where
  Start : Reading
  Version : Reading
  Parts : (ranges : ℕ) (files : List FilePart) (guests : List GuestPart) → Reading
  Ended : (t : Transcript) → Reading

-- a list with its last element changed, where there is one
abbrev pub onto_last : {X : Type 0} → (X → Option X) → List X → Option (List X)
onto_last change [] = None
onto_last change (x ∷ []) = option_map (λ y. y ∷ []) (change x)
onto_last change (x ∷ y ∷ ys) = option_map (λ zs. x ∷ zs) (onto_last change (y ∷ ys))

-- an entry more, before the first of the log
abbrev pub with_entry : EntryLine → FilePart → Option FilePart
with_entry e part = if length part.log == 0 then Some (record part { entries = part.entries ++ e ∷ [] }) else None

abbrev pub with_log : LogEntry → FilePart → Option FilePart
with_log e part = Some (record part { log = part.log ++ e ∷ [] })

abbrev pub with_line : Numbered → GuestPart → Option GuestPart
with_line n part = Some (record part { lines = part.lines ++ n ∷ [] })

-- `transcript 1`
unfoldable pub version_read : List ℕ → List (List ℕ) → Option Reading
version_read verb (number ∷ []) = if bytes_eq verb (codes "transcript") then (number_32 number >>= λ n. if n == 1 then Some Version else None) else None
version_read verb words = None

-- `ranges` and how many
unfoldable pub ranges_read : List ℕ → List (List ℕ) → Option Reading
ranges_read verb (number ∷ []) = if bytes_eq verb (codes "ranges") then option_map (λ r. Parts r [] []) (number_32 number) else None
ranges_read verb words = None

-- a file's line, before the first guest
unfoldable pub file_read : ℕ → List FilePart → List GuestPart → List (List ℕ) → Option Reading
file_read ranges files [] words = option_map (λ part. Parts ranges (files ++ part ∷ []) []) (file_of_words words)
file_read ranges files (g ∷ guests) words = None

-- an entry's line, which goes to the last file, before the first guest
unfoldable pub entry_read : ℕ → List FilePart → List GuestPart → List (List ℕ) → Option Reading
entry_read ranges files [] words = entry_of_words words >>= λ e. option_map (λ changed. Parts ranges changed []) (onto_last (with_entry e) files)
entry_read ranges files (g ∷ guests) words = None

-- a log's line, likewise
unfoldable pub log_read : ℕ → List FilePart → List GuestPart → List (List ℕ) → Option Reading
log_read ranges files [] words = log_of_words words >>= λ e. option_map (λ changed. Parts ranges changed []) (onto_last (with_log e) files)
log_read ranges files (g ∷ guests) words = None

unfoldable pub guest_read : ℕ → List FilePart → List GuestPart → List (List ℕ) → Option Reading
guest_read ranges files guests words = option_map (λ part. Parts ranges files (guests ++ part ∷ [])) (guest_of_words words)

-- a call's line, which goes to the last guest
unfoldable pub call_read : ℕ → List FilePart → List GuestPart → List (List ℕ) → Option Reading
call_read ranges files guests words = numbered_of words >>= λ n. option_map (λ changed. Parts ranges files changed) (onto_last (with_line n) guests)

unfoldable pub end_read : ℕ → List FilePart → List GuestPart → List (List ℕ) → Option Reading
end_read ranges files guests [] = Some (Ended (record { version = 1; ranges = ranges; files = files; guests = guests }))
end_read ranges files guests (w ∷ words) = None

-- one line, by its words
unfoldable pub line_read : Reading → List (List ℕ) → Option Reading
line_read r [] = None
line_read Start (verb ∷ words) = version_read verb words
line_read Version (verb ∷ words) = ranges_read verb words
line_read (Parts ranges files guests) (verb ∷ words) =
    if bytes_eq verb (codes "file") then file_read ranges files guests words
    else if bytes_eq verb (codes "entry") then entry_read ranges files guests words
    else if bytes_eq verb (codes "log") then log_read ranges files guests words
    else if bytes_eq verb (codes "guest") then guest_read ranges files guests words
    else if bytes_eq verb (codes "end") then end_read ranges files guests words
    else call_read ranges files guests (verb ∷ words)
line_read (Ended t) (verb ∷ words) = None

-- a value, or else the n-th line is the first bad one
abbrev pub or_line : {A B : Type 0} → ℕ → Option A → (A → Result B ℕ) → Result B ℕ
or_line n None f = Err n
or_line n (Some x) f = f x

unfoldable pub whole : ℕ → Reading → Result Transcript ℕ
whole n (Ended t) = Ok t
whole n r = Err n

-- The transcript of the lines from the n-th on, behind those read so far, or else the first bad line. The text ends
-- with a line end.
abbrev pub transcript_from : ℕ → Reading → List (List ℕ) → Result Transcript ℕ
transcript_from n r [] = Err n
transcript_from n r (l ∷ []) = if length l == 0 then whole n r else Err n
transcript_from n r (l ∷ m ∷ ls) = or_line n (line_read r (parts space l)) (λ next. transcript_from (n + 1) next (m ∷ ls))

-- the transcript that a text is, where it is one, or else its first bad line
unfoldable pub transcript_of : List ℕ → Result Transcript ℕ
transcript_of text = transcript_from 1 Start (parts line_end text)

-- what the form of a transcript's text and the types of its fields bound
pub record IsPrintableThrough (k : Through) : Type 0 where
  pub entry : k.entry < 2 ^ 64
  pub upto : k.upto < 2 ^ 64

unfoldable pub IsPrintableWay : Way → Type 0
IsPrintableWay ways.Req = Unit {0}
IsPrintableWay (ways.ReqSaw size) = size < 2 ^ 64
IsPrintableWay (ways.Via k None) = IsPrintableThrough k
IsPrintableWay (ways.Via k (Some m)) = IsPrintableThrough k × IsPrintableThrough m

pub record IsPrintableEntry (e : EntryLine) : Type 0 where
  pub guest : e.guest < 2 ^ 32
  pub call : e.call < 2 ^ 32
  pub way : IsPrintableWay e.way

unfoldable pub IsPrintableLog : LogEntry → Type 0
IsPrintableLog (logs.Place chunk range mode) = (chunk < 2 ^ 32) × (range < 2 ^ 32)
IsPrintableLog (logs.Upgrade range) = range < 2 ^ 32
IsPrintableLog (logs.Remove range) = range < 2 ^ 32

pub record IsPrintableFile (p : FilePart) : Type 0 where
  pub name : is_script_name p.name ≡ true
  pub size : p.first.size < 2 ^ 64
  pub fill : p.first.fill < 256
  pub entries : AllByRecursion IsPrintableEntry p.entries
  pub log : AllByRecursion IsPrintableLog p.log

unfoldable pub IsPrintableAnswer : Answer → Type 0
IsPrintableAnswer (answers.Bytes bytes) = AllByRecursion (λ b. b < 256) bytes
IsPrintableAnswer (answers.Wrote n) = n < 2 ^ 64
IsPrintableAnswer (answers.Size n) = n < 2 ^ 64

unfoldable pub IsPrintableLine : Line → Type 0
IsPrintableLine (lines.Done place answer) = (place < 2 ^ 64) × IsPrintableAnswer answer
IsPrintableLine (lines.Held end k) = (end < 2 ^ 64) × IsPrintableThrough k
IsPrintableLine lines.Released = Unit {0}
IsPrintableLine (lines.Busy letters) = is_letters letters ≡ true
IsPrintableLine (lines.Leased count) = count < 2 ^ 32
IsPrintableLine lines.NoHold = Unit {0}
IsPrintableLine (lines.Past end) = end < 2 ^ 64

pub record IsPrintableNumbered (n : Numbered) : Type 0 where
  pub call : n.call < 2 ^ 32
  pub line : IsPrintableLine n.line

pub record IsPrintableGuest (g : GuestPart) : Type 0 where
  pub guest : g.guest < 2 ^ 32
  pub lines : AllByRecursion IsPrintableNumbered g.lines

pub record IsPrintable (t : Transcript) : Type 0 where
  pub version : t.version ≡ 1
  pub ranges : t.ranges < 2 ^ 32
  pub files : AllByRecursion IsPrintableFile t.files
  pub guests : AllByRecursion IsPrintableGuest t.guests
