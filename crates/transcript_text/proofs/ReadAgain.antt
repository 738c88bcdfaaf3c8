-- A transcript's text is read as that transcript.
use Rattle.std.proofs.Common.{◌≡◌, ◌∙◌, ap, sym, refl, ℕ, ◌<◌, ◌^◌, false, List, [], ◌∷◌, ◌++◌, map, Option, Some, None, Result, Ok, suc, ◌+◌, length, length-append, codes, decimal, append_assoc, append-nil, arith}
use Rattle.std.specs.Prelude.{option_map}
use Rattle.std.specs.List.{AllByRecursion, flat_map}
use Rattle.std.specs.Str.{bytes_eq}
use Rattle.hex.specs.Hex.{encode_lower}
use Rattle.plain_file.specs.declared.operations.Answer.{Answer}
use Rattle.plain_file.specs.declared.operations.Answer.TheVariants as answers
use Rattle.plain_file.specs.declared.operations.Through.{Through}
use Rattle.plain_file.specs.declared.operations.Way.{Way}
use Rattle.plain_file.specs.declared.operations.Way.TheVariants as ways
use Rattle.transcript_text.specs.declared.transcripts.EntryLine.{EntryLine}
use Rattle.transcript_text.specs.declared.transcripts.FilePart.{FilePart}
use Rattle.transcript_text.specs.declared.transcripts.GuestPart.{GuestPart}
use Rattle.transcript_text.specs.declared.transcripts.Line.{Line}
use Rattle.transcript_text.specs.declared.transcripts.Line.TheVariants as lines
use Rattle.transcript_text.specs.declared.transcripts.Numbered.{Numbered}
use Rattle.transcript_text.specs.declared.transcripts.Transcript.{Transcript}
use Rattle.transcript_text.specs.TranscriptText.{way_words, answer_words, line_words, entry_words, mode_word, log_entry_words, log_words, numbered_words, file_lines, guest_lines, transcript_lines, text_of}
use Rattle.transcript_text.specs.TranscriptReading.{only_byte, through_of, way_of, answer_of_words, via_of, mode_of, log_of_words, line_of_words, numbered_of, entry_of_words, file_of_words, guest_of_words, Reading, Start, Version, Parts, onto_last, with_entry, with_log, with_line, version_read, ranges_read, file_read, entry_read, log_read, guest_read, or_line, call_read, end_read, line_read, whole, transcript_from, transcript_of, IsPrintableThrough, IsPrintableWay, IsPrintableEntry, IsPrintableFile, IsPrintableAnswer, IsPrintableLine, IsPrintableNumbered, IsPrintableGuest, IsPrintable, IsPrintableLog}
use Rattle.page_map.specs.declared.pages.Mode.{Mode}
use Rattle.page_map.specs.declared.pages.Mode.TheVariants as modes
use Rattle.page_map.specs.declared.ranges.LogEntry.{LogEntry}
use Rattle.page_map.specs.declared.ranges.LogEntry.TheVariants as logs
use Rattle.plain_text.proofs.CleanWords.{decimal_differs, hex_of-encode_lower}
use Rattle.transcript_text.proofs.PrintedWords.{number_32-decimal, number_64-decimal, bytes_of-bytes_word, words_from, read_printed}
use Rattle.transcript_text.proofs.CleanLines.{clean_transcript}
use Rattle.plain_text.proofs.PrintedLines.{lines-printed}

-- ---- the words of one line

through_again : (k : Through) → IsPrintableThrough k → through_of (decimal k.entry) (decimal k.upto) ≡ Some k
unfolding through_of
through_again k h = rw (number_64-decimal k.entry h.entry, number_64-decimal k.upto h.upto) refl

way_again : (w : Way) → IsPrintableWay w → way_of (way_words w) ≡ Some w
unfolding way_of way_words IsPrintableWay
way_again ways.Req h = refl
way_again (ways.ReqSaw size) h = rw (number_64-decimal size h) refl
way_again (ways.Via k None) h = rw (through_again k h) refl
way_again (ways.Via k (Some m)) h = rw (through_again k h.0, through_again m h.1) refl

answer_again : (a : Answer) → IsPrintableAnswer a → answer_of_words (answer_words a) ≡ Some a
unfolding answer_of_words answer_words IsPrintableAnswer
answer_again (answers.Bytes bytes) h = rw (bytes_of-bytes_word bytes h) refl
answer_again (answers.Wrote n) h = rw (number_64-decimal n h) refl
answer_again (answers.Size n) h = rw (number_64-decimal n h) refl

line_again : (l : Line) → IsPrintableLine l → line_of_words (line_words l) ≡ Some l
unfolding line_of_words line_words IsPrintableLine via_of answer_words answer_of_words
line_again (lines.Done place (answers.Bytes bytes)) h = rw (number_64-decimal place h.0, answer_again (answers.Bytes bytes) h.1) refl
line_again (lines.Done place (answers.Wrote n)) h = rw (number_64-decimal place h.0, answer_again (answers.Wrote n) h.1) refl
line_again (lines.Done place (answers.Size n)) h = rw (number_64-decimal place h.0, answer_again (answers.Size n) h.1) refl
line_again (lines.Held end k) h = rw (number_64-decimal end h.0, through_again k h.1) refl
line_again lines.Released h = refl
line_again (lines.Busy letters) h = rw h refl
line_again (lines.Leased count) h = rw (number_32-decimal count h) refl
line_again lines.NoHold h = refl
line_again (lines.Past end) h = rw (number_64-decimal end h) refl

mode_again : (m : Mode) → mode_of (mode_word m) ≡ Some m
unfolding mode_of
mode_again modes.R = refl
mode_again modes.W = refl

log_again : (e : LogEntry) → IsPrintableLog e → log_of_words (log_entry_words e) ≡ Some e
unfolding log_of_words log_entry_words IsPrintableLog
log_again (logs.Place chunk range mode) h = rw (number_32-decimal chunk h.0, number_32-decimal range h.1, mode_again mode) refl
log_again (logs.Upgrade range) h = rw (number_32-decimal range h) refl
log_again (logs.Remove range) h = rw (number_32-decimal range h) refl

numbered_again : (n : Numbered) → IsPrintableNumbered n → numbered_of (numbered_words n) ≡ Some n
unfolding numbered_of
numbered_again n h = rw (number_32-decimal n.call h.call, line_again n.line h.line) refl

entry_again : (e : EntryLine) → IsPrintableEntry e → entry_of_words (decimal e.guest ∷ decimal e.call ∷ way_words e.way) ≡ Some e
unfolding entry_of_words
entry_again e h = rw (number_32-decimal e.guest h.guest, number_32-decimal e.call h.call, way_again e.way h.way) refl

-- a file without its entries
abbrev bare_file : FilePart → FilePart
bare_file p = record p { entries = []; log = [] }

file_again : (p : FilePart) → IsPrintableFile p → file_of_words (p.name ∷ decimal p.first.size ∷ encode_lower (p.first.fill ∷ []) ∷ []) ≡ Some (bare_file p)
unfolding file_of_words only_byte
file_again p h = rw (h.name, number_64-decimal p.first.size h.size, hex_of-encode_lower p.first.fill [] (h.fill, tt)) refl

-- a guest without its lines
abbrev bare_guest : GuestPart → GuestPart
bare_guest g = record g { lines = [] }

guest_again : (g : GuestPart) → IsPrintableGuest g → guest_of_words (decimal g.guest ∷ []) ≡ Some (bare_guest g)
unfolding guest_of_words
guest_again g h = rw (number_32-decimal g.guest h.guest) refl

-- ---- one line more

onto_last-append : {X : Type 0} (change : X → Option X) (xs : List X) (x y : X) → change x ≡ Some y → onto_last change (xs ++ x ∷ []) ≡ Some (xs ++ y ∷ [])
onto_last-append change [] x y h = rw h refl
onto_last-append change (z ∷ []) x y h = rw h refl
onto_last-append change (z ∷ w ∷ ys) x y h = ap (λ o. option_map (λ zs. z ∷ zs) o) (onto_last-append change (w ∷ ys) x y h)

version_line : (v : ℕ) → v ≡ 1 → line_read Start (codes "transcript" ∷ decimal v ∷ []) ≡ Some Version
unfolding line_read version_read
version_line v h =
    let small : v < 2 ^ 32 = omega (arith, h) in
    rw (number_32-decimal v small, h) refl

ranges_line : (r : ℕ) → r < 2 ^ 32 → line_read Version (codes "ranges" ∷ decimal r ∷ []) ≡ Some (Parts r [] [])
unfolding line_read ranges_read
ranges_line r h = rw (number_32-decimal r h) refl

abbrev entered : EntryLine → FilePart → FilePart
entered e p = record p { entries = p.entries ++ e ∷ [] }

abbrev logged : LogEntry → FilePart → FilePart
logged e p = record p { log = p.log ++ e ∷ [] }

abbrev lined : Numbered → GuestPart → GuestPart
lined n g = record g { lines = g.lines ++ n ∷ [] }

entry_line : (r : ℕ) (fs : List FilePart) (p : FilePart) (e : EntryLine) → p.log ≡ [] → IsPrintableEntry e →
    line_read (Parts r (fs ++ p ∷ []) []) (entry_words e) ≡ Some (Parts r (fs ++ entered e p ∷ []) [])
unfolding line_read entry_read
entry_line r fs p e none h = rw (entry_again e h, onto_last-append (with_entry e) fs p (entered e p) (rw none refl)) refl

log_line : (r : ℕ) (fs : List FilePart) (p : FilePart) (e : LogEntry) → IsPrintableLog e →
    line_read (Parts r (fs ++ p ∷ []) []) (log_words e) ≡ Some (Parts r (fs ++ logged e p ∷ []) [])
unfolding line_read log_read
log_line r fs p e h = rw (log_again e h, onto_last-append (with_log e) fs p (logged e p) refl) refl

file_line : (r : ℕ) (fs : List FilePart) (p : FilePart) → IsPrintableFile p →
    line_read (Parts r fs []) (codes "file" ∷ p.name ∷ decimal p.first.size ∷ encode_lower (p.first.fill ∷ []) ∷ []) ≡ Some (Parts r (fs ++ bare_file p ∷ []) [])
unfolding line_read file_read
file_line r fs p h = rw (file_again p h) refl

guest_line : (r : ℕ) (fs : List FilePart) (gs : List GuestPart) (g : GuestPart) → IsPrintableGuest g →
    line_read (Parts r fs gs) (codes "guest" ∷ decimal g.guest ∷ []) ≡ Some (Parts r fs (gs ++ bare_guest g ∷ []))
unfolding line_read guest_read
guest_line r fs gs g h = rw (guest_again g h) refl

call_line : (r : ℕ) (fs : List FilePart) (gs : List GuestPart) (g : GuestPart) (n : Numbered) → IsPrintableNumbered n →
    line_read (Parts r fs (gs ++ g ∷ [])) (numbered_words n) ≡ Some (Parts r fs (gs ++ lined n g ∷ []))
unfolding line_read call_read
call_line r fs gs g n h =
    let small : n.call < 2 ^ 64 = omega (arith, h.call) in
    let file : bytes_eq (decimal n.call) (codes "file") ≡ false = decimal_differs n.call small 102 (codes "ile") (omega arith) in
    let entry : bytes_eq (decimal n.call) (codes "entry") ≡ false = decimal_differs n.call small 101 (codes "ntry") (omega arith) in
    let log : bytes_eq (decimal n.call) (codes "log") ≡ false = decimal_differs n.call small 108 (codes "og") (omega arith) in
    let guest : bytes_eq (decimal n.call) (codes "guest") ≡ false = decimal_differs n.call small 103 (codes "uest") (omega arith) in
    let end : bytes_eq (decimal n.call) (codes "end") ≡ false = decimal_differs n.call small 101 (codes "nd") (omega arith) in
    rw (file, entry, log, guest, end, numbered_again n h, onto_last-append (with_line n) gs g (lined n g) refl) refl

-- ---- the lines of a section

abbrev next_from : ℕ → List (List (List ℕ)) → Option Reading → Result Transcript ℕ
next_from n lss o = or_line n o (λ next. words_from (n + 1) next lss)

-- this many lines on
abbrev ReadsOn : Reading → List (List (List ℕ)) → Reading → Type 0
ReadsOn r lss later = (n : ℕ) (rest : List (List (List ℕ))) → words_from n r (lss ++ rest) ≡ words_from (n + length lss) later rest

none_on : (r : Reading) → ReadsOn r [] r
none_on r n rest = ap (λ m. words_from m r rest) (let e : n ≡ n + 0 = omega arith in e)

one_on : (r next later : Reading) (ws : List (List ℕ)) (lss : List (List (List ℕ))) → line_read r ws ≡ Some next → ReadsOn next lss later → ReadsOn r (ws ∷ lss) later
one_on r next later ws lss h on n rest =
    ap (next_from n (lss ++ rest)) h ∙ on (n + 1) rest ∙ ap (λ m. words_from m later rest) (let e : n + 1 + length lss ≡ n + suc (length lss) = omega arith in e)

both_on : (r mid later : Reading) (xs ys : List (List (List ℕ))) → ReadsOn r xs mid → ReadsOn mid ys later → ReadsOn r (xs ++ ys) later
both_on r mid later xs ys a b n rest =
    ap (words_from n r) (append_assoc xs ys rest) ∙ a n (ys ++ rest) ∙ b (n + length xs) rest
    ∙ ap (λ m. words_from m later rest) (let e : n + length xs + length ys ≡ n + length (xs ++ ys) = omega (arith, length-append xs ys) in e)

to_on : (r later last : Reading) (lss : List (List (List ℕ))) → ReadsOn r lss later → later ≡ last → ReadsOn r lss last
to_on r later last lss on e n rest = on n rest ∙ ap (λ (q : Reading). words_from (n + length lss) q rest) e

entries_on : (r : ℕ) (fs : List FilePart) (p : FilePart) (es : List EntryLine) → p.log ≡ [] → AllByRecursion IsPrintableEntry es →
    ReadsOn (Parts r (fs ++ p ∷ []) []) (map entry_words es) (Parts r (fs ++ record p { entries = p.entries ++ es } ∷ []) [])
entries_on r fs p [] none h = to_on _ _ _ [] (none_on _) (ap (λ (es : List EntryLine). Parts r (fs ++ record p { entries = es } ∷ []) []) (sym (append-nil p.entries)))
entries_on r fs p (e ∷ es) none h =
    to_on _ _ _ (map entry_words (e ∷ es)) (one_on _ _ _ (entry_words e) (map entry_words es) (entry_line r fs p e none h.0) (entries_on r fs (entered e p) es none h.1))
    (ap (λ (all : List EntryLine). Parts r (fs ++ record p { entries = all } ∷ []) []) (append_assoc p.entries (e ∷ []) es))

logs_on : (r : ℕ) (fs : List FilePart) (p : FilePart) (es : List LogEntry) → AllByRecursion IsPrintableLog es →
    ReadsOn (Parts r (fs ++ p ∷ []) []) (map log_words es) (Parts r (fs ++ record p { log = p.log ++ es } ∷ []) [])
logs_on r fs p [] h = to_on _ _ _ [] (none_on _) (ap (λ (es : List LogEntry). Parts r (fs ++ record p { log = es } ∷ []) []) (sym (append-nil p.log)))
logs_on r fs p (e ∷ es) h =
    to_on _ _ _ (map log_words (e ∷ es)) (one_on _ _ _ (log_words e) (map log_words es) (log_line r fs p e h.0) (logs_on r fs (logged e p) es h.1))
    (ap (λ (all : List LogEntry). Parts r (fs ++ record p { log = all } ∷ []) []) (append_assoc p.log (e ∷ []) es))

file_on : (r : ℕ) (fs : List FilePart) (p : FilePart) → IsPrintableFile p → ReadsOn (Parts r fs []) (file_lines p) (Parts r (fs ++ p ∷ []) [])
unfolding file_lines
file_on r fs p h =
    one_on _ _ _ _ (map entry_words p.entries ++ map log_words p.log) (file_line r fs p h)
    (both_on _ _ _ (map entry_words p.entries) (map log_words p.log) (entries_on r fs (bare_file p) p.entries refl h.entries) (logs_on r fs (record (bare_file p) { entries = p.entries }) p.log h.log))

files_on : (r : ℕ) (fs ps : List FilePart) → AllByRecursion IsPrintableFile ps → ReadsOn (Parts r fs []) (flat_map file_lines ps) (Parts r (fs ++ ps) [])
files_on r fs [] h = to_on _ _ _ [] (none_on _) (ap (λ (all : List FilePart). Parts r all []) (sym (append-nil fs)))
files_on r fs (p ∷ ps) h =
    to_on _ _ _ (file_lines p ++ flat_map file_lines ps) (both_on _ _ _ (file_lines p) (flat_map file_lines ps) (file_on r fs p h.0) (files_on r (fs ++ p ∷ []) ps h.1))
    (ap (λ (all : List FilePart). Parts r all []) (append_assoc fs (p ∷ []) ps))

calls_on : (r : ℕ) (fs : List FilePart) (gs : List GuestPart) (g : GuestPart) (ns : List Numbered) → AllByRecursion IsPrintableNumbered ns →
    ReadsOn (Parts r fs (gs ++ g ∷ [])) (map numbered_words ns) (Parts r fs (gs ++ record g { lines = g.lines ++ ns } ∷ []))
calls_on r fs gs g [] h = to_on _ _ _ [] (none_on _) (ap (λ (ns : List Numbered). Parts r fs (gs ++ record g { lines = ns } ∷ [])) (sym (append-nil g.lines)))
calls_on r fs gs g (n ∷ ns) h =
    to_on _ _ _ (map numbered_words (n ∷ ns)) (one_on _ _ _ (numbered_words n) (map numbered_words ns) (call_line r fs gs g n h.0) (calls_on r fs gs (lined n g) ns h.1))
    (ap (λ (all : List Numbered). Parts r fs (gs ++ record g { lines = all } ∷ [])) (append_assoc g.lines (n ∷ []) ns))

guest_on : (r : ℕ) (fs : List FilePart) (gs : List GuestPart) (g : GuestPart) → IsPrintableGuest g → ReadsOn (Parts r fs gs) (guest_lines g) (Parts r fs (gs ++ g ∷ []))
unfolding guest_lines
guest_on r fs gs g h = one_on _ _ _ _ (map numbered_words g.lines) (guest_line r fs gs g h) (calls_on r fs gs (bare_guest g) g.lines h.lines)

guests_on : (r : ℕ) (fs : List FilePart) (gs more : List GuestPart) → AllByRecursion IsPrintableGuest more → ReadsOn (Parts r fs gs) (flat_map guest_lines more) (Parts r fs (gs ++ more))
guests_on r fs gs [] h = to_on _ _ _ [] (none_on _) (ap (λ (all : List GuestPart). Parts r fs all) (sym (append-nil gs)))
guests_on r fs gs (g ∷ more) h =
    to_on _ _ _ (guest_lines g ++ flat_map guest_lines more) (both_on _ _ _ (guest_lines g) (flat_map guest_lines more) (guest_on r fs gs g h.0) (guests_on r fs (gs ++ g ∷ []) more h.1))
    (ap (λ (all : List GuestPart). Parts r fs all) (append_assoc gs (g ∷ []) more))

abbrev end_words : List (List (List ℕ))
end_words = (codes "end" ∷ []) ∷ []

end_section : (n r : ℕ) (fs : List FilePart) (gs : List GuestPart) → words_from n (Parts r fs gs) end_words ≡ Ok (record { version = 1; ranges = r; files = fs; guests = gs })
unfolding line_read end_read whole
end_section n r fs gs = refl

-- the lines of words of a whole transcript
words_again : (t : Transcript) → IsPrintable t → words_from 1 Start (transcript_lines t) ≡ Ok t
unfolding transcript_lines
words_again t h =
    let files = flat_map file_lines t.files in
    let guests = flat_map guest_lines t.guests in
    ap (next_from 1 ((codes "ranges" ∷ decimal t.ranges ∷ []) ∷ (files ++ guests ++ end_words))) (version_line t.version h.version)
    ∙ ap (next_from 2 (files ++ guests ++ end_words)) (ranges_line t.ranges h.ranges)
    ∙ both_on _ _ _ files guests (files_on t.ranges [] t.files h.files) (guests_on t.ranges t.files [] t.guests h.guests) 3 end_words
    ∙ end_section (3 + length (files ++ guests)) t.ranges t.files t.guests
    ∙ ap (λ (v : ℕ). Ok (record t { version = v })) (sym h.version)

-- the text determines the transcript
pub transcript_of-text_of : (t : Transcript) → IsPrintable t → transcript_of (text_of t) ≡ Ok t
unfolding transcript_of text_of
transcript_of-text_of t h =
    let clean = clean_transcript t h in
    ap (transcript_from 1 Start) (lines-printed (transcript_lines t) clean) ∙ read_printed 1 Start (transcript_lines t) clean ∙ words_again t h
