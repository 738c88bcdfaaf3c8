-- The printed form of a script.
use Rattle.std.specs.Prelude.{ℕ, List, [], ◌∷◌, ◌++◌, map, codes, slice_get, Option, Some, None}
use Rattle.std.specs.List.{flat_map}
use Rattle.std.specs.Fmt.{decimal}
use Rattle.hex.specs.Hex.{encode_lower}
use Rattle.page_map.specs.declared.pages.Mode.{Mode}
use Rattle.page_map.specs.declared.pages.Mode.TheVariants as modes
use Rattle.plain_text.specs.Printed.{line}
use Rattle.dax_script.specs.declared.scripts.Call.{Call}
use Rattle.dax_script.specs.declared.scripts.Call.TheVariants as calls
use Rattle.dax_script.specs.declared.scripts.FileLine.{FileLine}
use Rattle.dax_script.specs.declared.scripts.Script.{Script}

unfoldable pub mode_word : Mode → List ℕ
mode_word modes.R = codes "r"
mode_word modes.W = codes "w"

-- the name of a file, and no bytes where there is none
abbrev pub name_or_none : Option FileLine → List ℕ
name_or_none None = []
name_or_none (Some f) = f.name

abbrev pub name_at : List FileLine → ℕ → List ℕ
name_at files file = name_or_none (slice_get files file)

unfoldable pub call_words : List FileLine → Call → List (List ℕ)
call_words files (calls.Read file off len) = codes "read" ∷ name_at files file ∷ decimal off ∷ decimal len ∷ []
call_words files (calls.Write file off bytes) = codes "write" ∷ name_at files file ∷ decimal off ∷ encode_lower bytes ∷ []
call_words files (calls.Fill file off len byte) = codes "fill" ∷ name_at files file ∷ decimal off ∷ decimal len ∷ encode_lower (byte ∷ []) ∷ []
call_words files (calls.Size file) = codes "size" ∷ name_at files file ∷ []
call_words files (calls.Truncate file size) = codes "truncate" ∷ name_at files file ∷ decimal size ∷ []
call_words files (calls.Hold file chunk mode) = codes "hold" ∷ name_at files file ∷ decimal chunk ∷ mode_word mode ∷ []
call_words files (calls.Load hold off len) = codes "load" ∷ decimal hold ∷ decimal off ∷ decimal len ∷ []
call_words files (calls.Store hold off bytes) = codes "store" ∷ decimal hold ∷ decimal off ∷ encode_lower bytes ∷ []
call_words files (calls.Release hold) = codes "release" ∷ decimal hold ∷ []

-- always with the byte that the file is filled with
abbrev pub file_words : FileLine → List (List ℕ)
file_words f = codes "file" ∷ f.name ∷ decimal f.first.size ∷ encode_lower (f.first.fill ∷ []) ∷ []

abbrev pub guest_lines : List FileLine → List Call → List (List (List ℕ))
guest_lines files cs = (codes "guest" ∷ []) ∷ map (call_words files) cs

-- the words of each line, always with one for the background
unfoldable pub script_lines : Script → List (List (List ℕ))
script_lines s =
    (codes "ranges" ∷ decimal s.ranges ∷ []) ∷ (codes "background" ∷ decimal s.background ∷ []) ∷
    (map file_words s.files ++ flat_map (guest_lines s.files) s.guests)

-- the text: each line's words with single spaces, and a line end
unfoldable pub text_of : Script → List ℕ
text_of s = flat_map line (script_lines s)
