-- What a text gives is within the bounds of transcripts.
use Rattle.std.proofs.Common.{◌≡◌, ◌↔◌, refl, ℕ, ◌+◌, ◌-◌, ◌<◌, ◌≤◌, ◌^◌, ◌==◌, Bool, true, false, nat_lt, List, [], ◌∷◌, ◌++◌, length, codes, Option, Some, None, IfSome, Result, Ok, Err, if◌then◌else◌, arith, tests}
use Rattle.std.specs.Prelude.{option_map}
use Rattle.std.specs.List.{AllByRecursion}
use Rattle.std.specs.Result.{IfOk}
use Rattle.std.proofs.lemmas.Result.{IfOk-at_ok}
use Rattle.std.specs.Str.{bytes_eq}
use Rattle.plain_text.specs.Words.{parts, space, line_end}
use Rattle.plain_text.specs.Numbers.{number_of, number_within}
use Rattle.plain_text.specs.Hexadecimal.{hex_pairs, hex_of}
use Rattle.plain_text.specs.Options.{◌>>=◌}
use Rattle.plain_file.specs.declared.operations.Way.TheVariants as ways
use Rattle.page_map.specs.declared.ranges.LogEntry.{LogEntry}
use Rattle.dax_script.specs.ScriptWords.{is_script_name}
use Rattle.dax_script.specs.Fits.{are_bytes}
use Rattle.dax_script.proofs.ReadWords.{bind_yields, if_some, pairs_yield}
use Rattle.transcript_text.specs.declared.transcripts.EntryLine.{EntryLine}
use Rattle.transcript_text.specs.declared.transcripts.FilePart.{FilePart}
use Rattle.transcript_text.specs.declared.transcripts.GuestPart.{GuestPart}
use Rattle.transcript_text.specs.declared.transcripts.Line.TheVariants as lines
use Rattle.transcript_text.specs.declared.transcripts.Numbered.{Numbered}
use Rattle.transcript_text.specs.declared.transcripts.Transcript.{Transcript}
use Rattle.transcript_text.specs.declared.transcripts.BadTranscript.{BadTranscript}
use Rattle.transcript_text.specs.TranscriptText.{text_of}
use Rattle.transcript_text.specs.TranscriptReading.{number_32, number_64, only_byte, bytes_of, through_of, way_of, answer_of_words, is_letters, via_of, mode_of, log_of_words, line_of_words, numbered_of, entry_of_words, file_of_words, guest_of_words, Reading, Start, Version, Parts, Ended, onto_last, with_entry, with_log, with_line, version_read, ranges_read, file_read, entry_read, log_read, guest_read, call_read, end_read, line_read, or_line, whole, transcript_from, transcript_of, IsPrintableThrough, IsPrintableWay, IsPrintableEntry, IsPrintableLog, IsPrintableFile, IsPrintableAnswer, IsPrintableLine, IsPrintableNumbered, IsPrintableGuest, IsPrintable}
use Rattle.transcript_text.specs.Fits.{fits}
use Rattle.transcript_text.proofs.Bounds.{bytes_from, transcript_from_test, test_from_transcript}
use Rattle.transcript_text.proofs.ReadAgain.{transcript_of-text_of}

-- ---- steps

map_yields : {A B : Type 0} (Q : A → Type 0) (P : B → Type 0) (o : Option A) (f : A → B) → IfSome o Q → ((x : A) → Q x → P (f x)) → IfSome (option_map f o) P
map_yields Q P None f h k = tt
map_yields Q P (Some x) f h k = k x h

any_some : {A : Type 0} (o : Option A) → IfSome o (λ _. Unit {0})
any_some None = tt
any_some (Some x) = tt

-- ---- words

not_above : (limit n : ℕ) (t : Bool) → nat_lt limit n ≡ t → IfSome (if t then None else Some n) (λ m. m ≤ limit)
not_above limit n true e = tt
not_above limit n false e = grind (arith, tests)

within_yields : (w : List ℕ) (limit : ℕ) → IfSome (number_within w limit) (λ m. m ≤ limit)
unfolding number_within
within_yields w limit = bind_yields (λ _. Unit {0}) (λ m. m ≤ limit) (number_of w) _ (any_some (number_of w)) (λ n _. not_above limit n (nat_lt limit n) refl)

weaker : {A : Type 0} (Q P : A → Type 0) (o : Option A) → IfSome o Q → ((x : A) → Q x → P x) → IfSome o P
weaker Q P None h k = tt
weaker Q P (Some x) h k = k x h

of_32 : (w : List ℕ) → IfSome (number_32 w) (λ n. n < 2 ^ 32)
unfolding number_32
of_32 w = weaker (λ m. m ≤ 2 ^ 32 - 1) _ (number_within w (2 ^ 32 - 1)) (within_yields w (2 ^ 32 - 1)) (λ n h. omega (arith, h))

of_64 : (w : List ℕ) → IfSome (number_64 w) (λ n. n < 2 ^ 64)
unfolding number_64
of_64 w = weaker (λ m. m ≤ 2 ^ 64 - 1) _ (number_within w (2 ^ 64 - 1)) (within_yields w (2 ^ 64 - 1)) (λ n h. omega (arith, h))

hex_yields : (w : List ℕ) → IfSome (hex_of w) (λ bytes. are_bytes bytes ≡ true)
unfolding hex_of
hex_yields w = if_some _ (length w == 0) None (hex_pairs w) (λ _. tt) (pairs_yield w)

one_byte : (bytes : List ℕ) → are_bytes bytes ≡ true → IfSome (only_byte bytes) (λ b. b < 256)
unfolding only_byte
one_byte [] e = tt
one_byte (b ∷ []) e = (bytes_from (b ∷ []) e).0
one_byte (b ∷ c ∷ bytes) e = tt

bytes_yield : (w : List ℕ) → IfSome (bytes_of w) (AllByRecursion (λ b. b < 256))
unfolding bytes_of
bytes_yield w = if_some _ (bytes_eq w (codes "-")) (Some []) (hex_of w) (λ _. tt) (weaker _ _ (hex_of w) (hex_yields w) bytes_from)

through_yields : (entry upto : List ℕ) → IfSome (through_of entry upto) IsPrintableThrough
unfolding through_of
through_yields entry upto =
    bind_yields (λ n. n < 2 ^ 64) IsPrintableThrough (number_64 entry) _ (of_64 entry)
    (λ k h. bind_yields (λ n. n < 2 ^ 64) IsPrintableThrough (number_64 upto) _ (of_64 upto) (λ m g. record { entry = h; upto = g }))

way_yields : (ws : List (List ℕ)) → IfSome (way_of ws) IsPrintableWay
unfolding way_of IsPrintableWay
way_yields [] = tt
way_yields (verb ∷ []) = if_some _ (bytes_eq verb (codes "req")) (Some ways.Req) None (λ _. tt) tt
way_yields (verb ∷ size ∷ []) = if_some _ (bytes_eq verb (codes "req")) _ None (λ _. map_yields (λ n. n < 2 ^ 64) _ (number_64 size) _ (of_64 size) (λ n h. h)) tt
way_yields (verb ∷ k ∷ m ∷ []) = if_some _ (bytes_eq verb (codes "via")) _ None (λ _. map_yields IsPrintableThrough _ (through_of k m) _ (through_yields k m) (λ x h. h)) tt
way_yields (verb ∷ k ∷ m ∷ l ∷ []) = tt
way_yields (verb ∷ k ∷ m ∷ l ∷ n ∷ []) =
    if_some _ (bytes_eq verb (codes "via")) _ None
    (λ _. bind_yields IsPrintableThrough _ (through_of k m) _ (through_yields k m) (λ x h. map_yields IsPrintableThrough _ (through_of l n) _ (through_yields l n) (λ y g. (h, g)))) tt
way_yields (verb ∷ k ∷ m ∷ l ∷ n ∷ o ∷ ws) = tt

answer_yields : (ws : List (List ℕ)) → IfSome (answer_of_words ws) IsPrintableAnswer
unfolding answer_of_words IsPrintableAnswer
answer_yields [] = tt
answer_yields (verb ∷ []) = tt
answer_yields (verb ∷ word ∷ []) =
    if_some _ (bytes_eq verb (codes "bytes")) _ _ (λ _. map_yields (AllByRecursion (λ b. b < 256)) _ (bytes_of word) _ (bytes_yield word) (λ x h. h))
    (if_some _ (bytes_eq verb (codes "wrote")) _ _ (λ _. map_yields (λ n. n < 2 ^ 64) _ (number_64 word) _ (of_64 word) (λ x h. h))
    (if_some _ (bytes_eq verb (codes "size")) _ None (λ _. map_yields (λ n. n < 2 ^ 64) _ (number_64 word) _ (of_64 word) (λ x h. h)) tt))
answer_yields (verb ∷ word ∷ w ∷ ws) = tt

via_yields : (ws : List (List ℕ)) → IfSome (via_of ws) IsPrintableThrough
unfolding via_of
via_yields [] = tt
via_yields (verb ∷ []) = tt
via_yields (verb ∷ k ∷ []) = tt
via_yields (verb ∷ k ∷ m ∷ []) = if_some _ (bytes_eq verb (codes "via")) _ None (λ _. through_yields k m) tt
via_yields (verb ∷ k ∷ m ∷ w ∷ ws) = tt

log_yields : (ws : List (List ℕ)) → IfSome (log_of_words ws) IsPrintableLog
unfolding log_of_words IsPrintableLog
log_yields [] = tt
log_yields (verb ∷ []) = tt
log_yields (verb ∷ range ∷ []) =
    if_some _ (bytes_eq verb (codes "upgrade")) _ _ (λ _. map_yields (λ n. n < 2 ^ 32) _ (number_32 range) _ (of_32 range) (λ x h. h))
    (if_some _ (bytes_eq verb (codes "remove")) _ None (λ _. map_yields (λ n. n < 2 ^ 32) _ (number_32 range) _ (of_32 range) (λ x h. h)) tt)
log_yields (verb ∷ chunk ∷ within ∷ []) = tt
log_yields (verb ∷ chunk ∷ within ∷ range ∷ []) = tt
log_yields (verb ∷ chunk ∷ within ∷ range ∷ mode ∷ []) =
    if_some _ (bytes_eq verb (codes "place")) _ None
    (λ _. if_some _ (bytes_eq within (codes "in")) _ None
    (λ _. bind_yields (λ n. n < 2 ^ 32) _ (number_32 chunk) _ (of_32 chunk)
    (λ c h. bind_yields (λ n. n < 2 ^ 32) _ (number_32 range) _ (of_32 range)
    (λ r g. map_yields (λ _. Unit {0}) _ (mode_of mode) _ (any_some (mode_of mode)) (λ m _. (h, g))))) tt) tt
log_yields (verb ∷ chunk ∷ within ∷ range ∷ mode ∷ w ∷ ws) = tt

line_yields : (ws : List (List ℕ)) → IfSome (line_of_words ws) IsPrintableLine
unfolding line_of_words IsPrintableLine
line_yields [] = tt
line_yields (verb ∷ []) = if_some _ (bytes_eq verb (codes "released")) (Some lines.Released) _ (λ _. tt) (if_some _ (bytes_eq verb (codes "nohold")) (Some lines.NoHold) None (λ _. tt) tt)
line_yields (verb ∷ word ∷ []) =
    if_some _ (bytes_eq verb (codes "busy")) _ _ (λ _. if_some _ (is_letters word) (Some (lines.Busy word)) None (λ e. e) tt)
    (if_some _ (bytes_eq verb (codes "leased")) _ _ (λ _. map_yields (λ n. n < 2 ^ 32) _ (number_32 word) _ (of_32 word) (λ x h. h))
    (if_some _ (bytes_eq verb (codes "past")) _ None (λ _. map_yields (λ n. n < 2 ^ 64) _ (number_64 word) _ (of_64 word) (λ x h. h)) tt))
line_yields (verb ∷ place ∷ word ∷ ws) =
    if_some _ (bytes_eq verb (codes "done")) _ _
    (λ _. bind_yields (λ n. n < 2 ^ 64) _ (number_64 place) _ (of_64 place) (λ p h. map_yields IsPrintableAnswer _ (answer_of_words (word ∷ ws)) _ (answer_yields (word ∷ ws)) (λ a g. (h, g))))
    (if_some _ (bytes_eq verb (codes "held")) _ None
    (λ _. bind_yields (λ n. n < 2 ^ 64) _ (number_64 place) _ (of_64 place) (λ z h. map_yields IsPrintableThrough _ (via_of (word ∷ ws)) _ (via_yields (word ∷ ws)) (λ k g. (h, g)))) tt)

numbered_yields : (ws : List (List ℕ)) → IfSome (numbered_of ws) IsPrintableNumbered
unfolding numbered_of
numbered_yields [] = tt
numbered_yields (call ∷ ws) =
    bind_yields (λ n. n < 2 ^ 32) _ (number_32 call) _ (of_32 call)
    (λ c h. map_yields IsPrintableLine IsPrintableNumbered (line_of_words ws) _ (line_yields ws) (λ l g. record { call = h; line = g }))

entry_yields : (ws : List (List ℕ)) → IfSome (entry_of_words ws) IsPrintableEntry
unfolding entry_of_words
entry_yields [] = tt
entry_yields (guest ∷ []) = tt
entry_yields (guest ∷ call ∷ ws) =
    bind_yields (λ n. n < 2 ^ 32) _ (number_32 guest) _ (of_32 guest)
    (λ g h. bind_yields (λ n. n < 2 ^ 32) _ (number_32 call) _ (of_32 call)
    (λ c k. map_yields IsPrintableWay IsPrintableEntry (way_of ws) _ (way_yields ws) (λ w p. record { guest = h; call = k; way = p })))

file_yields : (ws : List (List ℕ)) → IfSome (file_of_words ws) IsPrintableFile
unfolding file_of_words
file_yields [] = tt
file_yields (name ∷ []) = tt
file_yields (name ∷ size ∷ []) = tt
file_yields (name ∷ size ∷ byte ∷ []) =
    if_some _ (is_script_name name) _ None
    (λ e. bind_yields (λ n. n < 2 ^ 64) _ (number_64 size) _ (of_64 size)
    (λ z h. map_yields (λ b. b < 256) IsPrintableFile (hex_of byte >>= only_byte) _ (bind_yields (λ bytes. are_bytes bytes ≡ true) _ (hex_of byte) only_byte (hex_yields byte) one_byte)
    (λ b g. record { name = e; size = h; fill = g; entries = tt; log = tt }))) tt
file_yields (name ∷ size ∷ byte ∷ w ∷ ws) = tt

guest_yields : (ws : List (List ℕ)) → IfSome (guest_of_words ws) IsPrintableGuest
unfolding guest_of_words
guest_yields [] = tt
guest_yields (guest ∷ []) = map_yields (λ n. n < 2 ^ 32) IsPrintableGuest (number_32 guest) _ (of_32 guest) (λ g h. record { guest = h; lines = tt })
guest_yields (guest ∷ w ∷ ws) = tt

-- ---- one more

one_more : {X : Type 0} (P : X → Type 0) (xs : List X) (x : X) → AllByRecursion P xs → P x → AllByRecursion P (xs ++ x ∷ [])
one_more P [] x h k = (k, tt)
one_more P (y ∷ xs) x h k = (h.0, one_more P xs x h.1 k)

last_yields : {X : Type 0} (P : X → Type 0) (change : X → Option X) → ((x : X) → P x → IfSome (change x) P) → (xs : List X) → AllByRecursion P xs → IfSome (onto_last change xs) (AllByRecursion P)
last_yields P change each [] h = tt
last_yields P change each (x ∷ []) h = map_yields P (AllByRecursion P) (change x) (λ y. y ∷ []) (each x h.0) (λ y k. (k, tt))
last_yields P change each (x ∷ y ∷ ys) h = map_yields (AllByRecursion P) (AllByRecursion P) (onto_last change (y ∷ ys)) (λ zs. x ∷ zs) (last_yields P change each (y ∷ ys) h.1) (λ zs k. (h.0, k))

entry_kept : (e : EntryLine) → IsPrintableEntry e → (p : FilePart) → IsPrintableFile p → IfSome (with_entry e p) IsPrintableFile
entry_kept e k p h =
    if_some _ (length p.log == 0) _ None
    (λ _. record { name = h.name; size = h.size; fill = h.fill; entries = one_more IsPrintableEntry p.entries e h.entries k; log = h.log }) tt

log_kept : (e : LogEntry) → IsPrintableLog e → (p : FilePart) → IsPrintableFile p → IfSome (with_log e p) IsPrintableFile
log_kept e k p h = record { name = h.name; size = h.size; fill = h.fill; entries = h.entries; log = one_more IsPrintableLog p.log e h.log k }

line_kept : (n : Numbered) → IsPrintableNumbered n → (g : GuestPart) → IsPrintableGuest g → IfSome (with_line n g) IsPrintableGuest
line_kept n k g h = record { guest = h.guest; lines = one_more IsPrintableNumbered g.lines n h.lines k }

-- ---- lines, and the whole

-- what was read so far is within the bounds
abbrev IsWithin : Reading → Type 0
IsWithin Start = Unit {0}
IsWithin Version = Unit {0}
IsWithin (Parts ranges files guests) = (ranges < 2 ^ 32) × AllByRecursion IsPrintableFile files × AllByRecursion IsPrintableGuest guests
IsWithin (Ended t) = IsPrintable t

version_yields : (verb : List ℕ) (ws : List (List ℕ)) → IfSome (version_read verb ws) IsWithin
unfolding version_read
version_yields verb [] = tt
version_yields verb (number ∷ []) =
    if_some IsWithin (bytes_eq verb (codes "transcript")) _ None
    (λ _. bind_yields (λ _. Unit {0}) _ (number_32 number) _ (any_some (number_32 number)) (λ n _. if_some IsWithin (n == 1) (Some Version) None (λ _. tt) tt)) tt
version_yields verb (number ∷ w ∷ ws) = tt

ranges_yields : (verb : List ℕ) (ws : List (List ℕ)) → IfSome (ranges_read verb ws) IsWithin
unfolding ranges_read
ranges_yields verb [] = tt
ranges_yields verb (number ∷ []) = if_some IsWithin (bytes_eq verb (codes "ranges")) _ None (λ _. map_yields (λ n. n < 2 ^ 32) IsWithin (number_32 number) _ (of_32 number) (λ r h. (h, tt, tt))) tt
ranges_yields verb (number ∷ w ∷ ws) = tt

file_line : (r : ℕ) (fs : List FilePart) (gs : List GuestPart) (ws : List (List ℕ)) → IsWithin (Parts r fs gs) → IfSome (file_read r fs gs ws) IsWithin
unfolding file_read
file_line r fs [] ws h = map_yields IsPrintableFile IsWithin (file_of_words ws) _ (file_yields ws) (λ p k. (h.0, one_more IsPrintableFile fs p h.1 k, tt))
file_line r fs (g ∷ gs) ws h = tt

entry_line : (r : ℕ) (fs : List FilePart) (gs : List GuestPart) (ws : List (List ℕ)) → IsWithin (Parts r fs gs) → IfSome (entry_read r fs gs ws) IsWithin
unfolding entry_read
entry_line r fs [] ws h =
    bind_yields IsPrintableEntry IsWithin (entry_of_words ws) _ (entry_yields ws)
    (λ e k. map_yields (AllByRecursion IsPrintableFile) IsWithin (onto_last (with_entry e) fs) _ (last_yields IsPrintableFile (with_entry e) (entry_kept e k) fs h.1) (λ changed g. (h.0, g, tt)))
entry_line r fs (g ∷ gs) ws h = tt

log_line : (r : ℕ) (fs : List FilePart) (gs : List GuestPart) (ws : List (List ℕ)) → IsWithin (Parts r fs gs) → IfSome (log_read r fs gs ws) IsWithin
unfolding log_read
log_line r fs [] ws h =
    bind_yields IsPrintableLog IsWithin (log_of_words ws) _ (log_yields ws)
    (λ e k. map_yields (AllByRecursion IsPrintableFile) IsWithin (onto_last (with_log e) fs) _ (last_yields IsPrintableFile (with_log e) (log_kept e k) fs h.1) (λ changed g. (h.0, g, tt)))
log_line r fs (g ∷ gs) ws h = tt

guest_line : (r : ℕ) (fs : List FilePart) (gs : List GuestPart) (ws : List (List ℕ)) → IsWithin (Parts r fs gs) → IfSome (guest_read r fs gs ws) IsWithin
unfolding guest_read
guest_line r fs gs ws h = map_yields IsPrintableGuest IsWithin (guest_of_words ws) _ (guest_yields ws) (λ g k. (h.0, h.1, one_more IsPrintableGuest gs g h.2 k))

call_line : (r : ℕ) (fs : List FilePart) (gs : List GuestPart) (ws : List (List ℕ)) → IsWithin (Parts r fs gs) → IfSome (call_read r fs gs ws) IsWithin
unfolding call_read
call_line r fs gs ws h =
    bind_yields IsPrintableNumbered IsWithin (numbered_of ws) _ (numbered_yields ws)
    (λ n k. map_yields (AllByRecursion IsPrintableGuest) IsWithin (onto_last (with_line n) gs) _ (last_yields IsPrintableGuest (with_line n) (line_kept n k) gs h.2) (λ changed g. (h.0, h.1, g)))

end_line : (r : ℕ) (fs : List FilePart) (gs : List GuestPart) (ws : List (List ℕ)) → IsWithin (Parts r fs gs) → IfSome (end_read r fs gs ws) IsWithin
unfolding end_read
end_line r fs gs [] h = record { version = refl; ranges = h.0; files = h.1; guests = h.2 }
end_line r fs gs (w ∷ ws) h = tt

read_yields : (r : Reading) (ws : List (List ℕ)) → IsWithin r → IfSome (line_read r ws) IsWithin
unfolding line_read
read_yields r [] h = tt
read_yields Start (verb ∷ ws) h = version_yields verb ws
read_yields Version (verb ∷ ws) h = ranges_yields verb ws
read_yields (Parts r fs gs) (verb ∷ ws) h =
    if_some IsWithin (bytes_eq verb (codes "file")) _ _ (λ _. file_line r fs gs ws h)
    (if_some IsWithin (bytes_eq verb (codes "entry")) _ _ (λ _. entry_line r fs gs ws h)
    (if_some IsWithin (bytes_eq verb (codes "log")) _ _ (λ _. log_line r fs gs ws h)
    (if_some IsWithin (bytes_eq verb (codes "guest")) _ _ (λ _. guest_line r fs gs ws h)
    (if_some IsWithin (bytes_eq verb (codes "end")) _ _ (λ _. end_line r fs gs ws h) (call_line r fs gs (verb ∷ ws) h)))))
read_yields (Ended t) (verb ∷ ws) h = tt

whole_yields : (n : ℕ) (r : Reading) → IsWithin r → IfOk (whole n r) IsPrintable
unfolding whole
whole_yields n Start h = tt
whole_yields n Version h = tt
whole_yields n (Parts r fs gs) h = tt
whole_yields n (Ended t) h = h

last_line : (n : ℕ) (r : Reading) (t : Bool) → IsWithin r → IfOk (if t then whole n r else Err n) IsPrintable
last_line n r true h = whole_yields n r h
last_line n r false h = tt

line_on : {A B : Type 0} (Q : A → Type 0) (P : B → Type 0) (n : ℕ) (o : Option A) (f : A → Result B ℕ) → IfSome o Q → ((x : A) → Q x → IfOk (f x) P) → IfOk (or_line n o f) P
line_on Q P n None f h k = tt
line_on Q P n (Some x) f h k = k x h

from_yields : (n : ℕ) (r : Reading) (ls : List (List ℕ)) → IsWithin r → IfOk (transcript_from n r ls) IsPrintable
from_yields n r [] h = tt
from_yields n r (l ∷ []) h = last_line n r (length l == 0) h
from_yields n r (l ∷ m ∷ ls) h = line_on IsWithin IsPrintable n (line_read r (parts space l)) _ (read_yields r (parts space l) h) (λ next k. from_yields (n + 1) next (m ∷ ls) k)

text_yields : (text : List ℕ) → IfOk (transcript_of text) IsPrintable
unfolding transcript_of
text_yields text = from_yields 1 Start (parts line_end text) tt

pub parsed_fits : (r : Result Transcript BadTranscript) (text : List ℕ) → IfOk r (λ t. transcript_of text ≡ Ok t) → IfOk r (λ t. fits t ≡ true)
parsed_fits (Ok t) text e = test_from_transcript t (IfOk-at_ok IsPrintable e (text_yields text))
parsed_fits (Err e) text h = tt

-- the test says whether the transcript is within the bounds
pub fits_if_printable : (t : Transcript) → (fits t ≡ true) ↔ IsPrintable t
fits_if_printable t = (transcript_from_test t, test_from_transcript t)

-- and that is where some text gives it, as then its printed form does
pub fits_exactly : (t : Transcript) → (fits t ≡ true) ↔ ((text : List ℕ) × (transcript_of text ≡ Ok t))
fits_exactly t = (λ e. (text_of t, transcript_of-text_of t (transcript_from_test t e)), λ w. test_from_transcript t (IfOk-at_ok IsPrintable w.1 (text_yields w.0)))
