-- What one word of a script's line says, or the reason for which it is refused.
use Rattle.std.specs.Prelude.{ℕ, ◌+◌, ◌==◌, ◌&&◌, ◌||◌, Bool, false, not, nat_lt, nat_le, List, length, codes, slice_get, Option, Some, None, Result, Ok, Err, if◌then◌else◌}
use Rattle.std.specs.List.{list_any, list_all, position_from, filter_map}
use Rattle.std.specs.Str.{bytes_eq}
use Rattle.plain_file.specs.File.{max_file}
use Rattle.plain_file.specs.Limits.{max_transfer}
use Rattle.page_map.specs.declared.pages.Mode.{Mode}
use Rattle.page_map.specs.declared.pages.Mode.TheVariants as modes
use Rattle.page_map.specs.Logs.{is_writable}
use Rattle.plain_text.specs.Numbers.{number_of}
use Rattle.plain_text.specs.Hexadecimal.{hex_of, hex_byte_of}
use Rattle.dax_script.specs.declared.scripts.Call.{Call}
use Rattle.dax_script.specs.declared.scripts.Call.TheVariants as calls
use Rattle.dax_script.specs.declared.scripts.FileLine.{FileLine}
use Rattle.dax_script.specs.declared.whys.Why.{Why}
use Rattle.dax_script.specs.declared.whys.Why.TheVariants as whys
use Rattle.dax_script.specs.Asks.{chunk_size}
use Rattle.dax_script.specs.Steps.{◌then◌, or_why, where_holds}

-- ---- numbers

unfoldable pub number : List ℕ → Result ℕ Why
number word = or_why whys.Number (number_of word)

-- a number from `low` to `high`
unfoldable pub between : ℕ → ℕ → List ℕ → Result ℕ Why
between low high word = number word then λ n. where_holds (nat_le low n && nat_le n high) whys.Limit n

-- how many bytes a call may move
abbrev pub moves : List ℕ → Result ℕ Why
moves word = between 1 max_transfer word

-- an offset whose interval of so many bytes ends within a file
unfoldable pub in_file : ℕ → ℕ → Result ℕ Why
in_file off len = where_holds (nat_le (off + len) max_file) whys.Limit off

-- the same within a chunk
unfoldable pub in_chunk : ℕ → ℕ → Result ℕ Why
in_chunk off len = where_holds (nat_le (off + len) chunk_size) whys.Limit off

-- the number of window ranges
abbrev pub is_ranges : ℕ → Bool
is_ranges n = n == 0 || (nat_le 2 n && nat_le n 256)

unfoldable pub ranges_number : List ℕ → Result ℕ Why
ranges_number word = number word then λ n. where_holds (is_ranges n) whys.Limit n

-- ---- names

-- `a` to `z`, `0` to `9`, `_` and `-`
abbrev pub is_script_name_byte : ℕ → Bool
is_script_name_byte b = (nat_le 97 b && nat_le b 122) || (nat_le 48 b && nat_le b 57) || b == 95 || b == 45

abbrev pub is_script_name : List ℕ → Bool
is_script_name word = not (length word == 0) && nat_le (length word) 32 && list_all is_script_name_byte word

abbrev pub is_called : List ℕ → FileLine → Bool
is_called name f = bytes_eq f.name name

-- a name that no file has yet
unfoldable pub new_name : List FileLine → List ℕ → Result (List ℕ) Why
new_name files word = where_holds (is_script_name word && not (list_any (is_called word) files)) whys.Name word

-- the place of the file of a name
unfoldable pub file_named : List FileLine → List ℕ → Result ℕ Why
file_named files word = or_why whys.File (position_from (is_called word) 0 files)

-- ---- bytes and modes

unfoldable pub byte : List ℕ → Result ℕ Why
byte word = or_why whys.Byte (hex_byte_of word)

-- the bytes of a call, no more than it may move
unfoldable pub hex : List ℕ → Result (List ℕ) Why
hex word = or_why whys.Hex (hex_of word) then λ bytes. where_holds (nat_le (length bytes) max_transfer) whys.Limit bytes

unfoldable pub mode : List ℕ → Result Mode Why
mode word = if bytes_eq word (codes "r") then Ok modes.R else if bytes_eq word (codes "w") then Ok modes.W else Err whys.Mode

-- ---- holds, by the modes of the `hold` lines that the guest has so far

unfoldable pub held_mode : Call → Option Mode
held_mode (calls.Hold file chunk mode) = Some mode
held_mode (calls.Read file off len) = None
held_mode (calls.Write file off bytes) = None
held_mode (calls.Fill file off len byte) = None
held_mode (calls.Size file) = None
held_mode (calls.Truncate file size) = None
held_mode (calls.Load hold off len) = None
held_mode (calls.Store hold off bytes) = None
held_mode (calls.Release hold) = None

abbrev pub hold_modes : List Call → List Mode
hold_modes cs = filter_map held_mode cs

unfoldable pub hold : List Mode → List ℕ → Result ℕ Why
hold held word = number word then λ n. where_holds (nat_lt n (length held)) whys.Hold n

abbrev pub is_writing : Option Mode → Bool
is_writing None = false
is_writing (Some m) = is_writable m

unfoldable pub writing_hold : List Mode → List ℕ → Result ℕ Why
writing_hold held word = number word then λ n. where_holds (is_writing (slice_get held n)) whys.Hold n
