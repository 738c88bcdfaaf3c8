-- The text of a transcript, part by part.
use Rattle.std.proofs.Common.{◌≡◌, ◌∙◌, ap, refl, ℕ, map, List, [], ◌∷◌, ◌++◌, codes, decimal}
use Rattle.std.specs.List.{flat_map}
use Rattle.std.proofs.lemmas.List.Concat.{flat_map-append}
use Rattle.plain_text.specs.Printed.{joined, line}
use Rattle.transcript_text.specs.TranscriptText.{entry_words, log_words, numbered_words, file_lines, guest_lines, transcript_lines, text_of}
use Rattle.transcript_text.specs.Parts.{file_words}
use Rattle.transcript_text.specs.declared.transcripts.FilePart.{FilePart}
use Rattle.transcript_text.specs.declared.transcripts.GuestPart.{GuestPart}
use Rattle.transcript_text.specs.declared.transcripts.Transcript.{Transcript}

-- the words of the first two lines
abbrev pub version_words : Transcript → List (List ℕ)
version_words t = codes "transcript" ∷ decimal t.version ∷ []

abbrev pub ranges_words : Transcript → List (List ℕ)
ranges_words t = codes "ranges" ∷ decimal t.ranges ∷ []

-- a text is its first two lines, its files, its guests and its end
pub text_of_parts : (t : Transcript) →
    text_of t ≡ line (version_words t) ++ (line (ranges_words t) ++ (flat_map line (flat_map file_lines t.files) ++ flat_map line (flat_map guest_lines t.guests) ++ codes "end\n"))
unfolding text_of transcript_lines joined
text_of_parts t =
    let files = flat_map file_lines t.files in
    let guests = flat_map guest_lines t.guests in
    ap (λ rest. line (version_words t) ++ (line (ranges_words t) ++ rest))
    (flat_map-append line (files ++ guests) ((codes "end" ∷ []) ∷ []) ∙ ap (λ rest. rest ++ codes "end\n") (flat_map-append line files guests))

-- a file's lines are its own, those of its entries and those of its log
pub file_printed : (p : FilePart) → flat_map line (file_lines p) ≡ line (file_words p) ++ (flat_map line (map entry_words p.entries) ++ flat_map line (map log_words p.log))
unfolding file_lines
file_printed p = ap (λ rest. line (file_words p) ++ rest) (flat_map-append line (map entry_words p.entries) (map log_words p.log))

-- a guest's lines are its own and those of its calls
pub guest_printed : (g : GuestPart) → flat_map line (guest_lines g) ≡ line (codes "guest" ∷ decimal g.guest ∷ []) ++ flat_map line (map numbered_words g.lines)
unfolding guest_lines
guest_printed g = refl
