-- A transcript is within its bounds exactly where the test says so.
use Rattle.std.proofs.Common.{◌≡◌, refl, ℕ, suc, ◌<◌, ◌==◌, ◌&&◌, Bool, true, nat_lt, List, [], ◌∷◌, Some, None, get_or, Fits, w8, arith, tests}
use Rattle.std.proofs.lemmas.Bool.{and_parts, and_from}
use Rattle.std.specs.List.{AllByRecursion, list_all}
use Rattle.plain_file.specs.declared.operations.Answer.{Answer}
use Rattle.plain_file.specs.declared.operations.Answer.TheVariants as answers
use Rattle.plain_file.specs.declared.operations.Through.{Through}
use Rattle.plain_file.specs.declared.operations.Way.{Way}
use Rattle.plain_file.specs.declared.operations.Way.TheVariants as ways
use Rattle.page_map.specs.declared.ranges.LogEntry.{LogEntry}
use Rattle.page_map.specs.declared.ranges.LogEntry.TheVariants as logs
use Rattle.dax_script.specs.ScriptWords.{is_script_name}
use Rattle.transcript_text.specs.declared.transcripts.EntryLine.{EntryLine}
use Rattle.transcript_text.specs.declared.transcripts.FilePart.{FilePart}
use Rattle.transcript_text.specs.declared.transcripts.GuestPart.{GuestPart}
use Rattle.transcript_text.specs.declared.transcripts.Line.{Line}
use Rattle.transcript_text.specs.declared.transcripts.Line.TheVariants as lines
use Rattle.transcript_text.specs.declared.transcripts.Numbered.{Numbered}
use Rattle.transcript_text.specs.declared.transcripts.Transcript.{Transcript}
use Rattle.transcript_text.specs.TranscriptReading.{IsPrintableThrough, IsPrintableWay, IsPrintableEntry, IsPrintableLog, IsPrintableFile, IsPrintableAnswer, IsPrintableLine, IsPrintableNumbered, IsPrintableGuest, IsPrintable}
use Rattle.transcript_text.specs.Fits.{fits_8, fits_32, fits_64, through_fits, way_fits, entry_fits, log_fits, file_fits, answer_fits, line_fits, numbered_fits, guest_fits, fits}

pub below_256 : (bytes : List ℕ) → ((k : ℕ) → Fits w8 (get_or bytes k 0)) → list_all fits_8 bytes ≡ true
below_256 [] h = refl
below_256 (b ∷ bytes) h =
    let low : b < 256 = omega (arith, h 0) in
    let small : fits_8 b ≡ true = grind (arith, tests, low) in
    rw small (below_256 bytes (λ k. h (suc k)))

below : (a b : ℕ) → nat_lt a b ≡ true → a < b
below a b e = grind (arith, tests)

is_below : (a b : ℕ) → a < b → nat_lt a b ≡ true
is_below a b h = grind (arith, tests)

is_one : (n : ℕ) → (n == 1) ≡ true → n ≡ 1
is_one n e = grind (arith, tests)

all_from : {X : Type 0} (f : X → Bool) (P : X → Type 0) → ((x : X) → f x ≡ true → P x) → (xs : List X) → list_all f xs ≡ true → AllByRecursion P xs
all_from f P each [] e = tt
all_from f P each (x ∷ xs) e = let parts = and_parts (f x) (list_all f xs) e in (each x parts.0, all_from f P each xs parts.1)

all_to : {X : Type 0} (f : X → Bool) (P : X → Type 0) → ((x : X) → P x → f x ≡ true) → (xs : List X) → AllByRecursion P xs → list_all f xs ≡ true
all_to f P each [] h = refl
all_to f P each (x ∷ xs) h = and_from _ _ (each x h.0) (all_to f P each xs h.1)

-- ---- from the test

pub bytes_from : (bytes : List ℕ) → list_all fits_8 bytes ≡ true → AllByRecursion (λ b. b < 256) bytes
bytes_from bytes e = all_from fits_8 (λ b. b < 256) (λ b. below b 256) bytes e

through_from : (k : Through) → through_fits k ≡ true → IsPrintableThrough k
through_from k e = let parts = and_parts (fits_64 k.entry) (fits_64 k.upto) e in record { entry = below _ _ parts.0; upto = below _ _ parts.1 }

way_from : (w : Way) → way_fits w ≡ true → IsPrintableWay w
unfolding way_fits IsPrintableWay
way_from ways.Req e = tt
way_from (ways.ReqSaw size) e = below _ _ e
way_from (ways.Via k None) e = through_from k e
way_from (ways.Via k (Some m)) e = let parts = and_parts (through_fits k) (through_fits m) e in (through_from k parts.0, through_from m parts.1)

entry_from : (x : EntryLine) → entry_fits x ≡ true → IsPrintableEntry x
entry_from x e =
    let parts = and_parts (fits_32 x.guest && fits_32 x.call) (way_fits x.way) e in
    let numbers = and_parts (fits_32 x.guest) (fits_32 x.call) parts.0 in
    record { guest = below _ _ numbers.0; call = below _ _ numbers.1; way = way_from x.way parts.1 }

log_from : (x : LogEntry) → log_fits x ≡ true → IsPrintableLog x
unfolding log_fits IsPrintableLog
log_from (logs.Place chunk range mode) e = let parts = and_parts (fits_32 chunk) (fits_32 range) e in (below _ _ parts.0, below _ _ parts.1)
log_from (logs.Upgrade range) e = below _ _ e
log_from (logs.Remove range) e = below _ _ e

file_from : (p : FilePart) → file_fits p ≡ true → IsPrintableFile p
file_from p e =
    let log = and_parts (is_script_name p.name && fits_64 p.first.size && fits_8 p.first.fill && list_all entry_fits p.entries) (list_all log_fits p.log) e in
    let entries = and_parts (is_script_name p.name && fits_64 p.first.size && fits_8 p.first.fill) (list_all entry_fits p.entries) log.0 in
    let fill = and_parts (is_script_name p.name && fits_64 p.first.size) (fits_8 p.first.fill) entries.0 in
    let size = and_parts (is_script_name p.name) (fits_64 p.first.size) fill.0 in
    record {
      name = size.0;
      size = below _ _ size.1;
      fill = below _ _ fill.1;
      entries = all_from entry_fits IsPrintableEntry entry_from p.entries entries.1;
      log = all_from log_fits IsPrintableLog log_from p.log log.1;
    }

answer_from : (a : Answer) → answer_fits a ≡ true → IsPrintableAnswer a
unfolding answer_fits IsPrintableAnswer
answer_from (answers.Bytes bytes) e = bytes_from bytes e
answer_from (answers.Wrote n) e = below _ _ e
answer_from (answers.Size n) e = below _ _ e

line_from : (l : Line) → line_fits l ≡ true → IsPrintableLine l
unfolding line_fits IsPrintableLine
line_from (lines.Done place answer) e = let parts = and_parts (fits_64 place) (answer_fits answer) e in (below _ _ parts.0, answer_from answer parts.1)
line_from (lines.Held end k) e = let parts = and_parts (fits_64 end) (through_fits k) e in (below _ _ parts.0, through_from k parts.1)
line_from lines.Released e = tt
line_from (lines.Busy letters) e = e
line_from (lines.Leased count) e = below _ _ e
line_from lines.NoHold e = tt
line_from (lines.Past end) e = below _ _ e

numbered_from : (n : Numbered) → numbered_fits n ≡ true → IsPrintableNumbered n
numbered_from n e = let parts = and_parts (fits_32 n.call) (line_fits n.line) e in record { call = below _ _ parts.0; line = line_from n.line parts.1 }

guest_from : (g : GuestPart) → guest_fits g ≡ true → IsPrintableGuest g
guest_from g e =
    let parts = and_parts (fits_32 g.guest) (list_all numbered_fits g.lines) e in
    record { guest = below _ _ parts.0; lines = all_from numbered_fits IsPrintableNumbered numbered_from g.lines parts.1 }

pub transcript_from_test : (t : Transcript) → fits t ≡ true → IsPrintable t
unfolding fits
transcript_from_test t e =
    let guests = and_parts (t.version == 1 && fits_32 t.ranges && list_all file_fits t.files) (list_all guest_fits t.guests) e in
    let files = and_parts (t.version == 1 && fits_32 t.ranges) (list_all file_fits t.files) guests.0 in
    let ranges = and_parts (t.version == 1) (fits_32 t.ranges) files.0 in
    record {
      version = is_one t.version ranges.0;
      ranges = below _ _ ranges.1;
      files = all_from file_fits IsPrintableFile file_from t.files files.1;
      guests = all_from guest_fits IsPrintableGuest guest_from t.guests guests.1;
    }

-- ---- to the test

through_to : (k : Through) → IsPrintableThrough k → through_fits k ≡ true
through_to k h = and_from _ _ (is_below _ _ h.entry) (is_below _ _ h.upto)

way_to : (w : Way) → IsPrintableWay w → way_fits w ≡ true
unfolding way_fits IsPrintableWay
way_to ways.Req h = refl
way_to (ways.ReqSaw size) h = is_below _ _ h
way_to (ways.Via k None) h = through_to k h
way_to (ways.Via k (Some m)) h = and_from _ _ (through_to k h.0) (through_to m h.1)

entry_to : (x : EntryLine) → IsPrintableEntry x → entry_fits x ≡ true
entry_to x h = and_from _ _ (and_from _ _ (is_below _ _ h.guest) (is_below _ _ h.call)) (way_to x.way h.way)

log_to : (x : LogEntry) → IsPrintableLog x → log_fits x ≡ true
unfolding log_fits IsPrintableLog
log_to (logs.Place chunk range mode) h = and_from _ _ (is_below _ _ h.0) (is_below _ _ h.1)
log_to (logs.Upgrade range) h = is_below _ _ h
log_to (logs.Remove range) h = is_below _ _ h

file_to : (p : FilePart) → IsPrintableFile p → file_fits p ≡ true
file_to p h =
    let first = and_from _ _ (and_from _ _ h.name (is_below _ _ h.size)) (is_below _ _ h.fill) in
    and_from _ _ (and_from _ _ first (all_to entry_fits IsPrintableEntry entry_to p.entries h.entries)) (all_to log_fits IsPrintableLog log_to p.log h.log)

answer_to : (a : Answer) → IsPrintableAnswer a → answer_fits a ≡ true
unfolding answer_fits IsPrintableAnswer
answer_to (answers.Bytes bytes) h = all_to fits_8 (λ b. b < 256) (λ b. is_below b 256) bytes h
answer_to (answers.Wrote n) h = is_below _ _ h
answer_to (answers.Size n) h = is_below _ _ h

line_to : (l : Line) → IsPrintableLine l → line_fits l ≡ true
unfolding line_fits IsPrintableLine
line_to (lines.Done place answer) h = and_from _ _ (is_below _ _ h.0) (answer_to answer h.1)
line_to (lines.Held end k) h = and_from _ _ (is_below _ _ h.0) (through_to k h.1)
line_to lines.Released h = refl
line_to (lines.Busy letters) h = h
line_to (lines.Leased count) h = is_below _ _ h
line_to lines.NoHold h = refl
line_to (lines.Past end) h = is_below _ _ h

numbered_to : (n : Numbered) → IsPrintableNumbered n → numbered_fits n ≡ true
numbered_to n h = and_from _ _ (is_below _ _ h.call) (line_to n.line h.line)

guest_to : (g : GuestPart) → IsPrintableGuest g → guest_fits g ≡ true
guest_to g h = and_from _ _ (is_below _ _ h.guest) (all_to numbered_fits IsPrintableNumbered numbered_to g.lines h.lines)

pub test_from_transcript : (t : Transcript) → IsPrintable t → fits t ≡ true
unfolding fits
test_from_transcript t h =
    let one : (t.version == 1) ≡ true = rw h.version refl in
    let files = and_from _ _ (and_from _ _ one (is_below _ _ h.ranges)) (all_to file_fits IsPrintableFile file_to t.files h.files) in
    and_from _ _ files (all_to guest_fits IsPrintableGuest guest_to t.guests h.guests)
