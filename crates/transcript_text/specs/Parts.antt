-- The words of some lines of a transcript.
use Rattle.std.specs.Prelude.{ℕ, List, [], ◌∷◌, codes}
use Rattle.std.specs.Fmt.{decimal}
use Rattle.hex.specs.Hex.{encode_lower}
use Rattle.transcript_text.specs.declared.transcripts.FilePart.{FilePart}

-- a file's own line
abbrev pub file_words : FilePart → List (List ℕ)
file_words p = codes "file" ∷ p.name ∷ decimal p.first.size ∷ encode_lower (p.first.fill ∷ []) ∷ []
