-- A draft and the rest of a text, line by line.
use Rattle.std.proofs.Common.{◌≡◌, ◌∙◌, ap, sym, refl, ℕ, ◌+◌, ◌==◌, Bool, true, false, is_some, List, [], ◌∷◌, length, codes, position, take, drop, arith, tests, Option, Some, None, Ok, Err, if◌then◌else◌, Bor}
use Rattle.plain_text.specs.Words.{parts, space, line_end, is_byte}
use Rattle.plain_text.proofs.Parts.{parts_alone, parts_first, parts_some}
use Rattle.transcript_text.specs.declared.transcripts.Transcript.{Transcript}
use Rattle.transcript_text.specs.declared.drafts.Draft.{Draft}
use Rattle.transcript_text.specs.TranscriptReading.{Reading, Ended, line_read, end_read, or_line, whole, transcript_from}
use Rattle.transcript_text.specs.Drafts.{behind, reading_of, at_end}

-- ---- the line `end`

-- words behind it
pub end_followed : (n : ℕ) (d : Draft) (more : Option (Bor (List ℕ))) (after : List ℕ) → is_some more ≡ true → at_end n (reading_of d) (behind more) after ≡ Err n
unfolding line_read end_read
end_followed n d None after some = absurd (cc)
end_followed n d (Some r) after some =
    let words = parts_some space r.now in
    ap (λ (ws : List (List ℕ)). at_end n (reading_of d) ws after) words.2

-- nothing of a text is read behind a whole transcript
ended_line : (n : ℕ) (t : Transcript) (words : List (List ℕ)) (ls : List (List ℕ)) → or_line n (line_read (Ended t) words) (λ next. transcript_from (n + 1) next ls) ≡ Err n
unfolding line_read
ended_line n t [] ls = refl
ended_line n t (w ∷ words) ls = refl

ended_from : (n : ℕ) (t : Transcript) (after : List ℕ) (o : Option ℕ) → position (is_byte line_end) after ≡ o → (length after == 0) ≡ false → transcript_from n (Ended t) (parts line_end after) ≡ Err n
ended_from n t after None none some = rw (parts_alone line_end after none, some) refl
ended_from n t after (Some at) found some =
    let rest = drop 1 (drop at after) in
    let more = parts_some line_end rest in
    ap (transcript_from n (Ended t)) (parts_first line_end after at found)
    ∙ ap (λ (ls : List (List ℕ)). transcript_from n (Ended t) (take at after ∷ ls)) more.2
    ∙ ended_line n t (parts space (take at after)) (more.0 ∷ more.1)

-- text behind it
pub end_not_last : (n : ℕ) (d : Draft) (more : Option (Bor (List ℕ))) (after : List ℕ) → is_some more ≡ false → (length after == 0) ≡ false → at_end n (reading_of d) (behind more) after ≡ Err (n + 1)
unfolding line_read end_read
end_not_last n d (Some r) after none some = absurd (cc)
end_not_last n d None after none some = ended_from (n + 1) _ after (position (is_byte line_end) after) refl some

-- nothing behind it
pub end_last : (n : ℕ) (d : Draft) (more : Option (Bor (List ℕ))) (after : List ℕ) (t : Transcript) → is_some more ≡ false → (length after == 0) ≡ true → Some (Ended t) ≡ line_read (reading_of d) (codes "end" ∷ []) → at_end n (reading_of d) (behind more) after ≡ Ok t
unfolding whole
end_last n d (Some r) after t none empty is = absurd (cc)
end_last n d None (b ∷ after) t none empty is = let nothing : length (b ∷ after) ≡ 0 = grind (arith, tests, empty) in absurd (omega (arith, nothing))
end_last n d None [] t none empty is = rw (sym is) refl

-- ---- the lines before it

no_whole : (n : ℕ) (r : Reading) (b : Bool) → whole n r ≡ Err n → (if b then whole n r else Err n) ≡ Err n
no_whole n r true none = none
no_whole n r false none = refl

-- no line end
pub from_short : (n : ℕ) (r : Reading) (rest first : List ℕ) → whole n r ≡ Err n → parts line_end rest ≡ first ∷ [] → transcript_from n r (parts line_end rest) ≡ Err n
from_short n r rest first none is = rw is (no_whole n r (length first == 0) none)

-- one line, and what is behind it
from_line : (n : ℕ) (d : Draft) (rest first after verb : List ℕ) (more : Option (Bor (List ℕ))) → parts line_end rest ≡ first ∷ parts line_end after → parts space first ≡ verb ∷ behind more →
    transcript_from n (reading_of d) (parts line_end rest) ≡ or_line n (line_read (reading_of d) (verb ∷ behind more)) (λ next. transcript_from (n + 1) next (parts line_end after))
from_line n d rest first after verb more is words =
    let some = parts_some line_end after in
    rw (is, some.2, words) refl

-- the line `end`
pub from_end : (n : ℕ) (d : Draft) (rest first after verb : List ℕ) (more : Option (Bor (List ℕ))) → parts line_end rest ≡ first ∷ parts line_end after → parts space first ≡ verb ∷ behind more → verb ≡ codes "end" →
    transcript_from n (reading_of d) (parts line_end rest) ≡ at_end n (reading_of d) (behind more) after
from_end n d rest first after verb more is words end =
    from_line n d rest first after verb more is words ∙ ap (λ v. or_line n (line_read (reading_of d) (v ∷ behind more)) (λ next. transcript_from (n + 1) next (parts line_end after))) end

-- a line that gives nothing
pub from_bad : (n : ℕ) (d : Draft) (rest first after verb : List ℕ) (more : Option (Bor (List ℕ))) → parts line_end rest ≡ first ∷ parts line_end after → parts space first ≡ verb ∷ behind more →
    line_read (reading_of d) (verb ∷ behind more) ≡ None → transcript_from n (reading_of d) (parts line_end rest) ≡ Err n
from_bad n d rest first after verb more is words none =
    from_line n d rest first after verb more is words ∙ ap (λ (o : Option Reading). or_line n o (λ next. transcript_from (n + 1) next (parts line_end after))) none

-- a line that gives the next draft
pub from_next : (n : ℕ) (d e : Draft) (rest first after verb : List ℕ) (more : Option (Bor (List ℕ))) → parts line_end rest ≡ first ∷ parts line_end after → parts space first ≡ verb ∷ behind more →
    line_read (reading_of d) (verb ∷ behind more) ≡ Some (reading_of e) → transcript_from n (reading_of d) (parts line_end rest) ≡ transcript_from (n + 1) (reading_of e) (parts line_end after)
from_next n d e rest first after verb more is words some =
    from_line n d rest first after verb more is words ∙ ap (λ (o : Option Reading). or_line n o (λ next. transcript_from (n + 1) next (parts line_end after))) some
