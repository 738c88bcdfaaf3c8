-- The line that an answer of a guest makes.
use Rattle.std.specs.Prelude.{◌≡◌, ℕ, ◌<◌, ◌^◌, true, List, map, Result, Ok, Err}
use Rattle.std.specs.List.{list_all}
use Rattle.plain_file.specs.declared.refusals.Memory.{Memory}
use Rattle.page_map.specs.declared.ranges.Look.{Look}
use Rattle.page_map.specs.declared.ranges.RangeWord.{RangeWord}
use Rattle.page_map.specs.declared.ranges.RangeWord.TheVariants as words
use Rattle.page_map.specs.Board.{MapView}
use Rattle.range_tree.specs.Ranges.{forgot}
use Rattle.transcript_text.specs.declared.transcripts.Line.{Line}
use Rattle.transcript_text.specs.declared.transcripts.Line.TheVariants as lines
use Rattle.transcript_text.specs.TranscriptReading.{IsPrintableAnswer, IsPrintableThrough, is_letter}
use Rattle.guest_io.specs.declared.calls.Refusal.{Refusal}
use Rattle.guest_io.specs.declared.calls.Refusal.TheVariants as refusals

-- the letter of a range that couldn't be taken: `p` where it was pinned, `m` where it was moving
unfoldable pub letter_of : RangeWord → ℕ
letter_of words.Free = 109
letter_of (words.Moving guest) = 109
letter_of (words.Mapped file chunk mode pins) = 112

abbrev pub letters_of : List Look → List ℕ
letters_of looked = map (λ l. letter_of l.word) looked

-- what a guest may answer over an honest wire, as a line where the call was done
unfoldable pub IsHonestAnswer : Result Line Refusal → Type 0
IsHonestAnswer (Ok l) = Unit {0}
IsHonestAnswer (Err (refusals.Busy looked)) = Unit {0}
IsHonestAnswer (Err (refusals.Leased count)) = Unit {0}
IsHonestAnswer (Err (refusals.NoHold hold)) = Unit {0}
IsHonestAnswer (Err (refusals.Past end)) = Unit {0}
IsHonestAnswer (Err refusals.Memory) = Unit {0}
IsHonestAnswer (Err (refusals.Errno number)) = ⊥
IsHonestAnswer (Err (refusals.BadReply bytes)) = ⊥
IsHonestAnswer (Err refusals.WireFault) = ⊥

-- The line of such an answer. Where no range could be taken, the looks are told, and then forgotten.
abbrev pub LineOf : MapView → Result Line Refusal → Result Line Memory → MapView → Type 0
LineOf old (Ok l) (Ok m) new = (m ≡ l) × (new ≡ old)
LineOf old (Ok l) (Err e) new = ⊥
LineOf old (Err (refusals.Busy looked)) (Ok l) new = (l ≡ lines.Busy (letters_of looked)) × (new ≡ forgot old)
LineOf old (Err (refusals.Busy looked)) (Err e) new = new ≡ forgot old
LineOf old (Err (refusals.Leased count)) (Ok l) new = (l ≡ lines.Leased count) × (new ≡ old)
LineOf old (Err (refusals.NoHold hold)) (Ok l) new = (l ≡ lines.NoHold) × (new ≡ old)
LineOf old (Err (refusals.Past end)) (Ok l) new = (l ≡ lines.Past end) × (new ≡ old)
LineOf old (Err refusals.Memory) (Err e) new = new ≡ old
LineOf old (Err e) told new = ⊥

-- the numbers and bytes of a line that a worker tells are within their fields
unfoldable pub HasFields : Line → Type 0
HasFields (lines.Done place answer) = (place < 2 ^ 64) × IsPrintableAnswer answer
HasFields (lines.Held end through) = (end < 2 ^ 64) × IsPrintableThrough through
HasFields lines.Released = Unit {0}
HasFields (lines.Busy letters) = list_all is_letter letters ≡ true
HasFields (lines.Leased count) = count < 2 ^ 32
HasFields lines.NoHold = Unit {0}
HasFields (lines.Past end) = end < 2 ^ 64
