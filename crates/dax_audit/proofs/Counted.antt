-- A transcript's text has as many lines as the transcript has items.
use Rattle.std.proofs.Common.{◌≡◌, ap, refl, ℕ, suc, ◌+◌, List, [], ◌∷◌, ◌++◌, map, length, length-append, codes, arith}
use Rattle.std.specs.List.{flat_map}
use Rattle.transcript_text.specs.declared.transcripts.FilePart.{FilePart}
use Rattle.transcript_text.specs.declared.transcripts.GuestPart.{GuestPart}
use Rattle.transcript_text.specs.declared.transcripts.Transcript.{Transcript}
use Rattle.dax_audit.specs.Items.{parts_from, file_items, guest_items, items}
use Rattle.dax_audit.proofs.Places.{file_length, guest_length, whole_length}
use Rattle.transcript_text.specs.TranscriptText.{entry_words, log_words, numbered_words, file_lines, guest_lines, transcript_lines}

map_length : {X Y : Type 0} (v : X → Y) (xs : List X) → length (map v xs) ≡ length xs
map_length v [] = refl
map_length v (x ∷ xs) = ap suc (map_length v xs)

file_count : (n : ℕ) (p : FilePart) → length (file_lines p) ≡ length (file_items n p)
unfolding file_lines
file_count n p = omega (arith, length-append (map entry_words p.entries) (map log_words p.log), map_length entry_words p.entries, map_length log_words p.log, file_length n p)

guest_count : (n : ℕ) (p : GuestPart) → length (guest_lines p) ≡ length (guest_items n p)
unfolding guest_lines
guest_count n p = omega (arith, map_length numbered_words p.lines, guest_length n p)

files_count : (n : ℕ) (ps : List FilePart) → length (flat_map file_lines ps) ≡ length (parts_from file_items n ps)
files_count n [] = refl
files_count n (p ∷ ps) = omega (arith, length-append (file_lines p) (flat_map file_lines ps), length-append (file_items n p) (parts_from file_items (n + 1) ps), file_count n p, files_count (n + 1) ps)

guests_count : (n : ℕ) (ps : List GuestPart) → length (flat_map guest_lines ps) ≡ length (parts_from guest_items n ps)
guests_count n [] = refl
guests_count n (p ∷ ps) = omega (arith, length-append (guest_lines p) (flat_map guest_lines ps), length-append (guest_items n p) (parts_from guest_items (n + 1) ps), guest_count n p, guests_count (n + 1) ps)

pub lines_counted : (t : Transcript) → length (transcript_lines t) ≡ length (items t)
unfolding transcript_lines
lines_counted t =
    let files = flat_map file_lines t.files in
    let guests = flat_map guest_lines t.guests in
    let end : List (List (List ℕ)) = (codes "end" ∷ []) ∷ [] in
    omega (arith, length-append (files ++ guests) end, length-append files guests, files_count 0 t.files, guests_count 0 t.guests, whole_length t)
