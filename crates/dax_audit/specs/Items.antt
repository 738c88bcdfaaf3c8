-- The lines of a transcript's text from top to bottom, each with its places.
use Rattle.std.specs.Prelude.{ℕ, ◌+◌, List, [], ◌∷◌, ◌++◌}
use Rattle.page_map.specs.declared.ranges.LogEntry.{LogEntry}
use Rattle.transcript_text.specs.declared.transcripts.EntryLine.{EntryLine}
use Rattle.transcript_text.specs.declared.transcripts.FilePart.{FilePart}
use Rattle.transcript_text.specs.declared.transcripts.GuestPart.{GuestPart}
use Rattle.transcript_text.specs.declared.transcripts.Numbered.{Numbered}
use Rattle.transcript_text.specs.declared.transcripts.Transcript.{Transcript}

-- One line: the version, the ranges, a file, an entry or a log entry of a file, a guest, a call of a guest, the end.
pub data Item : Type 0 where
  Head : Item
  Ranges : Item
  File : (file : ℕ) (part : FilePart) → Item
  Entry : (file place : ℕ) (e : EntryLine) → Item
  Log : (file place : ℕ) (e : LogEntry) → Item
  Guest : (guest : ℕ) (part : GuestPart) → Item
  Call : (guest call : ℕ) (n : Numbered) → Item
  End : Item

-- one line for each element, counted from n
abbrev pub each_from : {X : Type 0} → (ℕ → X → Item) → ℕ → List X → List Item
each_from item n [] = []
each_from item n (x ∷ xs) = item n x ∷ each_from item (n + 1) xs

-- the lines of each element's part, one part after another
abbrev pub parts_from : {X : Type 0} → (ℕ → X → List Item) → ℕ → List X → List Item
parts_from part n [] = []
parts_from part n (x ∷ xs) = part n x ++ parts_from part (n + 1) xs

abbrev pub file_items : ℕ → FilePart → List Item
file_items file part = File file part ∷ (each_from (Entry file) 0 part.entries ++ each_from (Log file) 0 part.log)

abbrev pub guest_items : ℕ → GuestPart → List Item
guest_items guest part = Guest guest part ∷ each_from (Call guest) 0 part.lines

unfoldable pub items : Transcript → List Item
items t = Head ∷ Ranges ∷ (parts_from file_items 0 t.files ++ (parts_from guest_items 0 t.guests ++ End ∷ []))
