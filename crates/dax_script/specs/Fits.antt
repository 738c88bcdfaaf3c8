-- Whether a script keeps the limits of scripts, as exactly those do that some text gives.
use Rattle.std.specs.Prelude.{ℕ, ◌+◌, ◌==◌, ◌&&◌, ◌||◌, Bool, true, not, nat_lt, nat_le, List, [], ◌∷◌, ◌++◌, length, slice_get}
use Rattle.std.specs.List.{list_any, list_all}
use Rattle.plain_file.specs.File.{max_file}
use Rattle.plain_file.specs.Limits.{max_files, max_transfer}
use Rattle.page_map.specs.declared.pages.Mode.{Mode}
use Rattle.dax_script.specs.declared.scripts.Call.{Call}
use Rattle.dax_script.specs.declared.scripts.Call.TheVariants as calls
use Rattle.dax_script.specs.declared.scripts.FileLine.{FileLine}
use Rattle.dax_script.specs.declared.scripts.Script.{Script}
use Rattle.dax_script.specs.Asks.{chunk_size}
use Rattle.dax_script.specs.ScriptWords.{is_ranges, is_script_name, is_called, hold_modes, is_writing}
use Rattle.dax_script.specs.ScriptText.{max_chunk, max_holds, max_background, max_guests, are_few, has_window}

abbrev pub are_bytes : List ℕ → Bool
are_bytes bytes = list_all (λ b. nat_lt b 256) bytes

-- 1 byte or more, no more than a call may move, ending within the room
abbrev pub is_within : ℕ → ℕ → ℕ → Bool
is_within room off len = nat_le 1 len && nat_le len max_transfer && nat_le (off + len) room

-- a call by the files of its script, the modes of the guest's `hold` calls before it, and the ranges
unfoldable pub call_fits : List FileLine → List Mode → Call → Bool
call_fits files held (calls.Read file off len) = nat_lt file (length files) && is_within max_file off len
call_fits files held (calls.Write file off bytes) = nat_lt file (length files) && is_within max_file off (length bytes) && are_bytes bytes
call_fits files held (calls.Fill file off len byte) = nat_lt file (length files) && is_within max_file off len && nat_lt byte 256
call_fits files held (calls.Size file) = nat_lt file (length files)
call_fits files held (calls.Truncate file size) = nat_lt file (length files) && nat_le size max_file
call_fits files held (calls.Hold file chunk mode) = nat_lt file (length files) && nat_le chunk max_chunk && nat_lt (length held) max_holds
call_fits files held (calls.Load hold off len) = nat_lt hold (length held) && is_within chunk_size off len
call_fits files held (calls.Store hold off bytes) = is_writing (slice_get held hold) && is_within chunk_size off (length bytes) && are_bytes bytes
call_fits files held (calls.Release hold) = nat_lt hold (length held)

-- the calls of a guest behind those that it has made
abbrev pub calls_fit : List FileLine → ℕ → List Call → List Call → Bool
calls_fit files ranges made [] = true
calls_fit files ranges made (c ∷ cs) = call_fits files (hold_modes made) c && has_window ranges c && calls_fit files ranges (made ++ c ∷ []) cs

abbrev pub file_fits : FileLine → Bool
file_fits f = is_script_name f.name && nat_le f.first.size max_file && nat_lt f.first.fill 256

-- each file fits, and none has the name of one before it
abbrev pub files_fit : List FileLine → List FileLine → Bool
files_fit before [] = true
files_fit before (f ∷ files) = file_fits f && not (list_any (is_called f.name) before) && files_fit (before ++ f ∷ []) files

unfoldable pub fits : Script → Bool
fits s =
    is_ranges s.ranges && nat_le s.background max_background && (not (s.ranges == 0) || s.background == 0) &&
    nat_le (length s.files) max_files && files_fit [] s.files &&
    nat_le (length s.guests) max_guests && list_all (calls_fit s.files s.ranges []) s.guests && are_few s.guests
