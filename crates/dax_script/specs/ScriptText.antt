-- What text is a script, line by line, and else which line is the first bad one, with its first reason.
use Rattle.std.specs.Prelude.{ℕ, ◌+◌, ◌==◌, ◌&&◌, ◌||◌, Bool, false, not, nat_lt, nat_le, List, [], ◌∷◌, ◌++◌, length, codes, Option, Some, None, is_none, unwrap_or, Result, Ok, Err, if◌then◌else◌}
use Rattle.std.specs.List.{sum_by}
use Rattle.std.specs.Str.{bytes_eq}
use Rattle.plain_file.specs.File.{max_file}
use Rattle.plain_file.specs.Limits.{max_files}
use Rattle.page_map.specs.declared.pages.Mode.{Mode}
use Rattle.plain_text.specs.Words.{parts, words_of, line_end}
use Rattle.dax_script.specs.declared.scripts.Call.{Call}
use Rattle.dax_script.specs.declared.scripts.Call.TheVariants as calls
use Rattle.dax_script.specs.declared.scripts.FileLine.{FileLine}
use Rattle.dax_script.specs.declared.scripts.Script.{Script}
use Rattle.dax_script.specs.declared.whys.Why.{Why}
use Rattle.dax_script.specs.declared.whys.Why.TheVariants as whys
use Rattle.dax_script.specs.Steps.{◌then◌, where_holds, none, one, two, three, four}
use Rattle.dax_script.specs.Asks.{is_hold}
use Rattle.dax_script.specs.ScriptWords.{number, between, moves, in_file, in_chunk, ranges_number, new_name, file_named, byte, hex, mode, hold_modes, hold, writing_hold}

-- ---- the calls, by the words behind the first one

unfoldable pub read_call : List FileLine → List (List ℕ) → Result Call Why
read_call files words =
    three words then λ w. file_named files w.0 then λ file. number w.1 then λ off. moves w.2 then λ len.
    in_file off len then λ at. Ok (calls.Read file at len)

unfoldable pub write_call : List FileLine → List (List ℕ) → Result Call Why
write_call files words =
    three words then λ w. file_named files w.0 then λ file. number w.1 then λ off. hex w.2 then λ bytes.
    in_file off (length bytes) then λ at. Ok (calls.Write file at bytes)

unfoldable pub fill_call : List FileLine → List (List ℕ) → Result Call Why
fill_call files words =
    four words then λ w. file_named files w.0 then λ file. number w.1 then λ off. moves w.2 then λ len. byte w.3 then λ b.
    in_file off len then λ at. Ok (calls.Fill file at len b)

unfoldable pub size_call : List FileLine → List (List ℕ) → Result Call Why
size_call files words = one words then λ w. file_named files w then λ file. Ok (calls.Size file)

unfoldable pub truncate_call : List FileLine → List (List ℕ) → Result Call Why
truncate_call files words = two words then λ w. file_named files w.0 then λ file. between 0 max_file w.1 then λ size. Ok (calls.Truncate file size)

-- how many chunks a file has, and how many holds a guest
abbrev pub max_chunk : ℕ
max_chunk = 31

abbrev pub max_holds : ℕ
max_holds = 32

unfoldable pub hold_call : List FileLine → List Mode → List (List ℕ) → Result Call Why
hold_call files held words =
    three words then λ w. file_named files w.0 then λ file. between 0 max_chunk w.1 then λ chunk. mode w.2 then λ m.
    where_holds (nat_lt (length held) max_holds) whys.Limit (calls.Hold file chunk m)

unfoldable pub load_call : List Mode → List (List ℕ) → Result Call Why
load_call held words =
    three words then λ w. hold held w.0 then λ h. number w.1 then λ off. moves w.2 then λ len.
    in_chunk off len then λ at. Ok (calls.Load h at len)

unfoldable pub store_call : List Mode → List (List ℕ) → Result Call Why
store_call held words =
    three words then λ w. writing_hold held w.0 then λ h. number w.1 then λ off. hex w.2 then λ bytes.
    in_chunk off (length bytes) then λ at. Ok (calls.Store h at bytes)

unfoldable pub release_call : List Mode → List (List ℕ) → Result Call Why
release_call held words = one words then λ w. hold held w then λ h. Ok (calls.Release h)

-- the call of a line, by its first word, the script's files and the guest's holds so far
unfoldable pub call_of : List FileLine → List Mode → List ℕ → List (List ℕ) → Result Call Why
call_of files held verb words =
    if bytes_eq verb (codes "read") then read_call files words
    else if bytes_eq verb (codes "write") then write_call files words
    else if bytes_eq verb (codes "fill") then fill_call files words
    else if bytes_eq verb (codes "size") then size_call files words
    else if bytes_eq verb (codes "truncate") then truncate_call files words
    else if bytes_eq verb (codes "hold") then hold_call files held words
    else if bytes_eq verb (codes "load") then load_call held words
    else if bytes_eq verb (codes "store") then store_call held words
    else if bytes_eq verb (codes "release") then release_call held words
    else Err whys.Order

-- ---- the script so far

-- `calls` are those of the guest at hand; there is none before the first `guest` line
pub record Draft : Type 0 where
  pub ranges : Option ℕ
  pub background : Option ℕ
  pub files : List FileLine
  pub done : List (List Call)
  pub calls : Option (List Call)

abbrev pub start : Draft
start = record { ranges = None; background = None; files = []; done = []; calls = None }

-- the guests with this one at the end
abbrev pub guests_with : List (List Call) → Option (List Call) → List (List Call)
guests_with done None = done
guests_with done (Some cs) = done ++ cs ∷ []

-- how many bytes a call moves; those of all calls have a limit
unfoldable pub moved_by : Call → ℕ
moved_by (calls.Read file off len) = len
moved_by (calls.Write file off bytes) = length bytes
moved_by (calls.Fill file off len b) = len
moved_by (calls.Size file) = 0
moved_by (calls.Truncate file size) = 0
moved_by (calls.Hold file chunk m) = 0
moved_by (calls.Load h off len) = len
moved_by (calls.Store h off bytes) = length bytes
moved_by (calls.Release h) = 0

abbrev pub moved : List Call → ℕ
moved cs = sum_by moved_by cs

abbrev pub max_calls : ℕ
max_calls = 65536

abbrev pub max_moved : ℕ
max_moved = 67108864

-- the calls of all guests are few enough, and move few enough bytes
abbrev pub are_few : List (List Call) → Bool
are_few gs = nat_le (sum_by length gs) max_calls && nat_le (sum_by moved gs) max_moved

-- a call needs no window, or there is one
abbrev pub has_window : ℕ → Call → Bool
has_window ranges c = not (is_hold c && ranges == 0)

-- a call more of the guest at hand, whose calls so far these are
unfoldable pub call_added : Draft → ℕ → List Call → Call → Result Draft Why
call_added d ranges cs c =
    where_holds (are_few (guests_with d.done (Some (cs ++ c ∷ [])))) whys.Limit c then λ k.
    where_holds (has_window ranges k) whys.Window (record d { calls = Some (cs ++ k ∷ []) })

unfoldable pub call_line : Draft → ℕ → Option (List Call) → List ℕ → List (List ℕ) → Result Draft Why
call_line d ranges None verb words = Err whys.Order
call_line d ranges (Some cs) verb words = call_of d.files (hold_modes cs) verb words then λ c. call_added d ranges cs c

-- ---- the other lines

unfoldable pub ranges_line : Draft → List (List ℕ) → Result Draft Why
ranges_line d words = one words then λ w. ranges_number w then λ n. Ok (record d { ranges = Some n })

abbrev pub max_background : ℕ
max_background = 65536

unfoldable pub background_line : Draft → ℕ → List (List ℕ) → Result Draft Why
background_line d ranges words =
    one words then λ w. between 0 max_background w then λ n.
    where_holds (not (ranges == 0) || n == 0) whys.Window (record d { background = Some n })

abbrev pub file_of : List ℕ → ℕ → ℕ → FileLine
file_of name size fill = record { name = name; first = record { size = size; fill = fill } }

-- a file of zeros, and one of another byte
unfoldable pub zeros_file : List FileLine → List (List ℕ) → Result FileLine Why
zeros_file files words = two words then λ w. new_name files w.0 then λ name. between 0 max_file w.1 then λ size. Ok (file_of name size 0)

unfoldable pub filled_file : List FileLine → List ℕ × List ℕ × List ℕ → Result FileLine Why
filled_file files w = new_name files w.0 then λ name. between 0 max_file w.1 then λ size. byte w.2 then λ fill. Ok (file_of name size fill)

-- three words behind the first one, or else two
unfoldable pub file_of_words : List FileLine → List (List ℕ) → Result (List ℕ × List ℕ × List ℕ) Why → Result FileLine Why
file_of_words files words (Ok w) = filled_file files w
file_of_words files words (Err why) = zeros_file files words

unfoldable pub file_line : Draft → List (List ℕ) → Result Draft Why
file_line d words =
    file_of_words d.files words (three words) then λ f.
    where_holds (nat_lt (length d.files) max_files) whys.Limit (record d { files = d.files ++ f ∷ [] })

abbrev pub max_guests : ℕ
max_guests = 16

unfoldable pub guest_line : Draft → List (List ℕ) → Result Draft Why
guest_line d words =
    none words then λ _.
    where_holds (nat_lt (length (guests_with d.done d.calls)) max_guests) whys.Limit (record d { done = guests_with d.done d.calls; calls = Some [] })

-- no line behind `ranges` stands yet
abbrev pub is_first : Draft → Bool
is_first d = is_none d.background && length d.files == 0 && is_none d.calls

-- a line by its first word, once the ranges are known
unfoldable pub later_line : Draft → ℕ → List ℕ → List (List ℕ) → Result Draft Why
later_line d ranges verb words =
    if bytes_eq verb (codes "background") then (if is_first d then background_line d ranges words else Err whys.Order)
    else if bytes_eq verb (codes "file") then (if is_none d.calls then file_line d words else Err whys.Order)
    else if bytes_eq verb (codes "guest") then guest_line d words
    else call_line d ranges d.calls verb words

unfoldable pub worded_line : Draft → Option ℕ → List ℕ → List (List ℕ) → Result Draft Why
worded_line d None verb words = if bytes_eq verb (codes "ranges") then ranges_line d words else Err whys.Order
worded_line d (Some ranges) verb words = later_line d ranges verb words

-- ---- lines, and the whole text

abbrev pub is_comment : List ℕ → Bool
is_comment [] = false
is_comment (b ∷ bs) = b == 35

unfoldable pub worded : Draft → List (List ℕ) → Result Draft Why
worded d [] = Ok d
worded d (verb ∷ words) = worded_line d d.ranges verb words

unfoldable pub line_read : Draft → List ℕ → Result Draft Why
line_read d line = if is_comment line then Ok d else worded d (words_of line)

-- a bad line, counted from 1, and its reason
pub record BadLine : Type 0 where
  pub line : ℕ
  pub why : Why

abbrev pub or_bad : {A B : Type 0} → ℕ → Result A Why → (A → Result B BadLine) → Result B BadLine
or_bad n (Ok x) f = f x
or_bad n (Err why) f = Err (record { line = n; why = why })

-- the text ended before its n-th line: that is refused where no `ranges` line came
unfoldable pub finished : ℕ → Draft → Option ℕ → Result Script BadLine
finished n d None = Err (record { line = n; why = whys.Order })
finished n d (Some ranges) = Ok (record { ranges = ranges; background = unwrap_or d.background 0; files = d.files; guests = guests_with d.done d.calls })

-- the lines from the n-th on; an empty one behind the last line end is none
abbrev pub script_from : ℕ → Draft → List (List ℕ) → Result Script BadLine
script_from n d [] = finished n d d.ranges
script_from n d (l ∷ []) = if length l == 0 then finished n d d.ranges else or_bad n (line_read d l) (λ e. finished (n + 1) e e.ranges)
script_from n d (l ∷ m ∷ ls) = or_bad n (line_read d l) (λ e. script_from (n + 1) e (m ∷ ls))

unfoldable pub script_of : List ℕ → Result Script BadLine
script_of text = script_from 1 start (parts line_end text)
