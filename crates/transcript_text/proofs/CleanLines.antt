-- Each line of a printable transcript has words without a space or a line end.
use Rattle.std.proofs.Common.{◌≡◌, refl, ℕ, ◌<◌, ◌^◌, true, List, [], ◌∷◌, ◌++◌, map, Some, None, codes, decimal, nat_lt, arith, tests}
use Rattle.std.specs.List.{AllByRecursion, flat_map, list_all}
use Rattle.hex.specs.Hex.{encode_lower}
use Rattle.plain_file.specs.declared.operations.Answer.{Answer}
use Rattle.plain_file.specs.declared.operations.Answer.TheVariants as answers
use Rattle.plain_file.specs.declared.operations.Through.{Through}
use Rattle.plain_file.specs.declared.operations.Way.{Way}
use Rattle.plain_file.specs.declared.operations.Way.TheVariants as ways
use Rattle.transcript_text.specs.declared.transcripts.EntryLine.{EntryLine}
use Rattle.transcript_text.specs.declared.transcripts.FilePart.{FilePart}
use Rattle.transcript_text.specs.declared.transcripts.GuestPart.{GuestPart}
use Rattle.transcript_text.specs.declared.transcripts.Line.{Line}
use Rattle.transcript_text.specs.declared.transcripts.Line.TheVariants as lines
use Rattle.transcript_text.specs.declared.transcripts.Numbered.{Numbered}
use Rattle.transcript_text.specs.declared.transcripts.Transcript.{Transcript}
use Rattle.transcript_text.specs.TranscriptText.{through_words, way_words, answer_words, line_words, entry_words, mode_word, log_entry_words, log_words, numbered_words, file_lines, guest_lines, transcript_lines}
use Rattle.transcript_text.specs.TranscriptReading.{IsPrintableThrough, IsPrintableWay, IsPrintableEntry, IsPrintableFile, IsPrintableAnswer, IsPrintableLine, IsPrintableNumbered, IsPrintableGuest, IsPrintable, IsPrintableLog, is_letter, is_letters}
use Rattle.std.proofs.lemmas.Bool.{and_parts}
use Rattle.page_map.specs.declared.pages.Mode.{Mode}
use Rattle.page_map.specs.declared.pages.Mode.TheVariants as modes
use Rattle.page_map.specs.declared.ranges.LogEntry.{LogEntry}
use Rattle.page_map.specs.declared.ranges.LogEntry.TheVariants as logs
use Rattle.plain_text.proofs.CleanWords.{IsCleanWord, clean_from_test, clean_decimal, clean_hex}
use Rattle.transcript_text.proofs.PrintedWords.{clean_name, clean_bytes}
use Rattle.plain_text.proofs.PrintedLines.{IsCleanLine, all_append}

all_map : {X Y : Type 0} (P : Y → Type 0) (Q : X → Type 0) (f : X → Y) → ((x : X) → Q x → P (f x)) → (xs : List X) → AllByRecursion Q xs → AllByRecursion P (map f xs)
all_map P Q f each [] h = tt
all_map P Q f each (x ∷ xs) h = (each x h.0, all_map P Q f each xs h.1)

all_flat_map : {X Y : Type 0} (P : Y → Type 0) (Q : X → Type 0) (f : X → List Y) → ((x : X) → Q x → AllByRecursion P (f x)) → (xs : List X) → AllByRecursion Q xs → AllByRecursion P (flat_map f xs)
all_flat_map P Q f each [] h = tt
all_flat_map P Q f each (x ∷ xs) h = all_append P (f x) (flat_map f xs) (each x h.0) (all_flat_map P Q f each xs h.1)

behind_space : (b : ℕ) → nat_lt 32 b ≡ true → 32 < b
behind_space b e = grind (arith, tests)

-- a literal word, by a test that computes
clean_literal : (w : List ℕ) → list_all (λ b. nat_lt 32 b) w ≡ true → IsCleanWord w
clean_literal w e = clean_from_test (λ b. nat_lt 32 b) behind_space w e

clean_32 : (n : ℕ) → n < 2 ^ 32 → IsCleanWord (decimal n)
clean_32 n h = clean_decimal n (omega (arith, h))

clean_through : (k : Through) → IsPrintableThrough k → AllByRecursion IsCleanWord (through_words k)
clean_through k h = (clean_decimal k.entry h.entry, (clean_decimal k.upto h.upto, tt))

clean_way : (w : Way) → IsPrintableWay w → AllByRecursion IsCleanWord (way_words w)
unfolding way_words IsPrintableWay
clean_way ways.Req h = (clean_literal (codes "req") refl, tt)
clean_way (ways.ReqSaw size) h = (clean_literal (codes "req") refl, (clean_decimal size h, tt))
clean_way (ways.Via k None) h = (clean_literal (codes "via") refl, clean_through k h)
clean_way (ways.Via k (Some m)) h = (clean_literal (codes "via") refl, all_append IsCleanWord (through_words k) (through_words m) (clean_through k h.0) (clean_through m h.1))

clean_answer : (a : Answer) → IsPrintableAnswer a → AllByRecursion IsCleanWord (answer_words a)
unfolding answer_words IsPrintableAnswer
clean_answer (answers.Bytes bytes) h = (clean_literal (codes "bytes") refl, (clean_bytes bytes h, tt))
clean_answer (answers.Wrote n) h = (clean_literal (codes "wrote") refl, (clean_decimal n h, tt))
clean_answer (answers.Size n) h = (clean_literal (codes "size") refl, (clean_decimal n h, tt))

above_space : (b : ℕ) → is_letter b ≡ true → 32 < b
above_space b e = grind (arith, tests)

clean_letters : (w : List ℕ) → is_letters w ≡ true → IsCleanWord w
clean_letters w h = clean_from_test is_letter above_space w (and_parts _ _ h).1

clean_line : (l : Line) → IsPrintableLine l → AllByRecursion IsCleanWord (line_words l)
unfolding line_words IsPrintableLine
clean_line (lines.Done place answer) h = (clean_literal (codes "done") refl, (clean_decimal place h.0, clean_answer answer h.1))
clean_line (lines.Held end k) h = (clean_literal (codes "held") refl, (clean_decimal end h.0, (clean_literal (codes "via") refl, clean_through k h.1)))
clean_line lines.Released h = (clean_literal (codes "released") refl, tt)
clean_line (lines.Busy letters) h = (clean_literal (codes "busy") refl, (clean_letters letters h, tt))
clean_line (lines.Leased count) h = (clean_literal (codes "leased") refl, (clean_32 count h, tt))
clean_line lines.NoHold h = (clean_literal (codes "nohold") refl, tt)
clean_line (lines.Past end) h = (clean_literal (codes "past") refl, (clean_decimal end h, tt))

clean_mode : (m : Mode) → IsCleanWord (mode_word m)
clean_mode modes.R = clean_literal (codes "r") refl
clean_mode modes.W = clean_literal (codes "w") refl

clean_log : (e : LogEntry) → IsPrintableLog e → IsCleanLine (log_words e)
unfolding log_entry_words IsPrintableLog
clean_log (logs.Place chunk range mode) h = (clean_literal (codes "log") refl, (clean_literal (codes "place") refl, (clean_32 chunk h.0, (clean_literal (codes "in") refl, (clean_32 range h.1, (clean_mode mode, tt))))))
clean_log (logs.Upgrade range) h = (clean_literal (codes "log") refl, (clean_literal (codes "upgrade") refl, (clean_32 range h, tt)))
clean_log (logs.Remove range) h = (clean_literal (codes "log") refl, (clean_literal (codes "remove") refl, (clean_32 range h, tt)))

clean_numbered : (n : Numbered) → IsPrintableNumbered n → IsCleanLine (numbered_words n)
clean_numbered n h = (clean_32 n.call h.call, clean_line n.line h.line)

clean_entry : (e : EntryLine) → IsPrintableEntry e → IsCleanLine (entry_words e)
clean_entry e h = (clean_literal (codes "entry") refl, (clean_32 e.guest h.guest, (clean_32 e.call h.call, clean_way e.way h.way)))

clean_file : (p : FilePart) → IsPrintableFile p → AllByRecursion IsCleanLine (file_lines p)
unfolding file_lines
clean_file p h =
    let words : IsCleanLine (codes "file" ∷ p.name ∷ decimal p.first.size ∷ encode_lower (p.first.fill ∷ []) ∷ []) = (clean_literal (codes "file") refl, (clean_name p.name h.name, (clean_decimal p.first.size h.size, (clean_hex (p.first.fill ∷ []) (h.fill, tt), tt)))) in
    (words, all_append IsCleanLine (map entry_words p.entries) (map log_words p.log) (all_map IsCleanLine IsPrintableEntry entry_words clean_entry p.entries h.entries) (all_map IsCleanLine IsPrintableLog log_words clean_log p.log h.log))

clean_guest : (g : GuestPart) → IsPrintableGuest g → AllByRecursion IsCleanLine (guest_lines g)
unfolding guest_lines
clean_guest g h = ((clean_literal (codes "guest") refl, (clean_32 g.guest h.guest, tt)), all_map IsCleanLine IsPrintableNumbered numbered_words clean_numbered g.lines h.lines)

pub clean_transcript : (t : Transcript) → IsPrintable t → AllByRecursion IsCleanLine (transcript_lines t)
unfolding transcript_lines
clean_transcript t h =
    let files = all_flat_map IsCleanLine IsPrintableFile file_lines clean_file t.files h.files in
    let guests = all_flat_map IsCleanLine IsPrintableGuest guest_lines clean_guest t.guests h.guests in
    let end : AllByRecursion IsCleanLine ((codes "end" ∷ []) ∷ []) = ((clean_literal (codes "end") refl, tt), tt) in
    let version = clean_32 t.version (omega (arith, h.version)) in
    let parts = flat_map file_lines t.files ++ flat_map guest_lines t.guests in (
      (clean_literal (codes "transcript") refl, (version, tt)),
      ((clean_literal (codes "ranges") refl, (clean_32 t.ranges h.ranges, tt)), all_append IsCleanLine parts ((codes "end" ∷ []) ∷ []) (all_append IsCleanLine _ _ files guests) end),
    )
