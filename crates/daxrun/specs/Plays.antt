-- What comes of playing a script.
use Rattle.std.specs.Prelude.{map}
use Rattle.file_share.specs.declared.marks.EntryMark.{EntryMark}
use Rattle.dax_script.specs.declared.scripts.FileLine.{FileLine}
use Rattle.dax_script.specs.declared.scripts.Script.{Script}
use Rattle.transcript_text.specs.declared.transcripts.EntryLine.{EntryLine}
use Rattle.transcript_text.specs.declared.transcripts.FilePart.{FilePart}
use Rattle.transcript_text.specs.declared.transcripts.Transcript.{Transcript}
use Rattle.guest_threads.specs.declared.tellings.FileTold.{FileTold}

-- a script and the transcript of its run
pub record Play : Type 0 where
  pub script : Script
  pub transcript : Transcript

-- the line of an entry, by its mark
abbrev pub line_of : EntryMark → EntryLine
line_of m = record { guest = m.guest; call = m.call; way = m.way }

-- the part of a file, by what is told of it
abbrev pub told_part : FileLine → FileTold → FilePart
told_part line told = record { name = line.name; first = line.first; entries = map line_of told.marks; log = told.log }
