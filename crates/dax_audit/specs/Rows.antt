-- The lines of a transcript's text as the code meets them on its way.
use Rattle.std.specs.Prelude.{◌≡◌, ⊤, slice_get, Some}
use Rattle.transcript_text.specs.declared.transcripts.Transcript.{Transcript}
use Rattle.dax_audit.specs.declared.walks.Row.{Row}
use Rattle.dax_audit.specs.declared.walks.Row.TheVariants as rows
use Rattle.dax_audit.specs.Items.{Item, Head, Ranges, File, Entry, Log, Guest, Call, End}
use Rattle.dax_audit.specs.Rules.{entry_at, lines_of}

-- the line that it is
abbrev pub item_of : Row → Item
item_of rows.Head = Head
item_of rows.Ranges = Ranges
item_of (rows.File file part) = File file part.now
item_of (rows.Entry file place entry) = Entry file place entry.now
item_of (rows.Log file place entry) = Log file place entry.now
item_of (rows.Guest guest part) = Guest guest part.now
item_of (rows.Call guest call line) = Call guest call line.now
item_of rows.End = End

-- an entry, or the line of a call, stands in the transcript at its places
abbrev pub StandsIn : Transcript → Row → Type 0
StandsIn t (rows.Entry file place entry) = entry_at t file place ≡ Some entry.now
StandsIn t (rows.Call guest call line) = slice_get (lines_of t guest) call ≡ Some line.now
StandsIn t row = ⊤
