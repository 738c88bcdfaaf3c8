-- A printed call, file or guest is read as itself.
use Rattle.std.proofs.Common.{◌≡◌, refl, ℕ, zero, suc, ◌+◌, ◌<◌, ◌≤◌, ◌^◌, ◌==◌, ◌&&◌, ◌||◌, not, true, nat_lt, nat_le, List, [], ◌∷◌, ◌++◌, length, slice_get, codes, decimal, Option, Some, None, Ok, arith, tests}
use Rattle.std.proofs.lemmas.Bool.{and_parts}
use Rattle.std.specs.List.{list_any}
use Rattle.hex.specs.Hex.{encode_lower}
use Rattle.plain_file.specs.File.{max_file}
use Rattle.plain_file.specs.Limits.{max_files, max_transfer}
use Rattle.page_map.specs.declared.pages.Mode.{Mode}
use Rattle.dax_script.specs.declared.scripts.Call.{Call}
use Rattle.dax_script.specs.declared.scripts.Call.TheVariants as calls
use Rattle.dax_script.specs.declared.scripts.FileLine.{FileLine}
use Rattle.dax_script.specs.Asks.{chunk_size}
use Rattle.dax_script.specs.Steps.{none, one, two, three, four}
use Rattle.dax_script.specs.ScriptWords.{in_file, in_chunk, byte, hold, is_writing, writing_hold, hold_modes, is_ranges, ranges_number, is_script_name, is_called, new_name}
use Rattle.dax_script.specs.ScriptText.{read_call, write_call, fill_call, size_call, truncate_call, hold_call, load_call, store_call, release_call, call_of, max_chunk, max_holds, Draft, start, guests_with, are_few, has_window, call_added, call_line, ranges_line, max_background, background_line, filled_file, file_of_words, file_line, max_guests, guest_line, later_line, worded_line, worded}
use Rattle.dax_script.specs.ScriptPrinted.{name_at, mode_word, call_words, file_words}
use Rattle.dax_script.specs.Fits.{is_within, are_bytes, file_fits, files_fit, call_fits}
use Rattle.dax_script.proofs.WordsAgain.{number_again, between_again, hex_again, byte_again, mode_again, file_again}

pub holds_le : (a b : ℕ) → nat_le a b ≡ true → a ≤ b
holds_le a b e = grind (arith, tests, e)

pub holds_lt : (a b : ℕ) → nat_lt a b ≡ true → a < b
holds_lt a b e = grind (arith, tests, e)

from_zero : (n high : ℕ) → nat_le n high ≡ true → nat_le 0 n && nat_le n high ≡ true
from_zero n high e = let low : nat_le 0 n ≡ true = grind (arith, tests) in rw (low, e) refl

-- the parts of an interval within its room
pub record Inside (room off len : ℕ) : Type 0 where
  pub size : nat_le 1 len && nat_le len max_transfer ≡ true
  pub some : nat_le 1 len ≡ true
  pub few : nat_le len max_transfer ≡ true
  pub end : nat_le (off + len) room ≡ true

pub inside : (room off len : ℕ) → is_within room off len ≡ true → Inside room off len
inside room off len e =
    let ends = and_parts (nat_le 1 len && nat_le len max_transfer) (nat_le (off + len) room) e in
    let sizes = and_parts (nat_le 1 len) (nat_le len max_transfer) ends.0 in
    record { size = ends.0; some = sizes.0; few = sizes.1; end = ends.1 }

pub len_small : (room off len : ℕ) → Inside room off len → len < 2 ^ 64
len_small room off len h = omega (arith, holds_le len max_transfer h.few)

pub off_small : (room off len : ℕ) → room < 2 ^ 32 → Inside room off len → off < 2 ^ 64
off_small room off len r h = omega (arith, r, holds_le (off + len) room h.end)

in_file_again : (off len : ℕ) → nat_le (off + len) max_file ≡ true → in_file off len ≡ Ok off
unfolding in_file
in_file_again off len e = rw e refl

in_chunk_again : (off len : ℕ) → nat_le (off + len) chunk_size ≡ true → in_chunk off len ≡ Ok off
unfolding in_chunk
in_chunk_again off len e = rw e refl

hold_again : (held : List Mode) (h : ℕ) → length held < 2 ^ 64 → nat_lt h (length held) ≡ true → hold held (decimal h) ≡ Ok h
unfolding hold
hold_again held h few e = rw (number_again h (omega (arith, few, holds_lt h (length held) e)), e) refl

read_again : (files : List FileLine) (held : List Mode) (file off len : ℕ) → files_fit [] files ≡ true → call_fits files held (calls.Read file off len) ≡ true →
    read_call files (name_at files file ∷ decimal off ∷ decimal len ∷ []) ≡ Ok (calls.Read file off len)
unfolding read_call three call_fits
read_again files held file off len fs e =
    let parts = and_parts (nat_lt file (length files)) (is_within max_file off len) e in
    let i = inside max_file off len parts.1 in
    rw (file_again files file fs (holds_lt file (length files) parts.0), number_again off (off_small max_file off len (omega arith) i), between_again 1 max_transfer len (len_small max_file off len i) i.size, in_file_again off len i.end) refl

write_again : (files : List FileLine) (held : List Mode) (file off : ℕ) (bytes : List ℕ) → files_fit [] files ≡ true → call_fits files held (calls.Write file off bytes) ≡ true →
    write_call files (name_at files file ∷ decimal off ∷ encode_lower bytes ∷ []) ≡ Ok (calls.Write file off bytes)
unfolding write_call three call_fits
write_again files held file off bytes fs e =
    let all = and_parts (nat_lt file (length files) && is_within max_file off (length bytes)) (are_bytes bytes) e in
    let parts = and_parts (nat_lt file (length files)) (is_within max_file off (length bytes)) all.0 in
    let i = inside max_file off (length bytes) parts.1 in
    rw (file_again files file fs (holds_lt file (length files) parts.0), number_again off (off_small max_file off (length bytes) (omega arith) i), hex_again bytes all.1 i.some i.few, in_file_again off (length bytes) i.end) refl

fill_again : (files : List FileLine) (held : List Mode) (file off len b : ℕ) → files_fit [] files ≡ true → call_fits files held (calls.Fill file off len b) ≡ true →
    fill_call files (name_at files file ∷ decimal off ∷ decimal len ∷ encode_lower (b ∷ []) ∷ []) ≡ Ok (calls.Fill file off len b)
unfolding fill_call four call_fits
fill_again files held file off len b fs e =
    let all = and_parts (nat_lt file (length files) && is_within max_file off len) (nat_lt b 256) e in
    let parts = and_parts (nat_lt file (length files)) (is_within max_file off len) all.0 in
    let i = inside max_file off len parts.1 in
    rw (file_again files file fs (holds_lt file (length files) parts.0), number_again off (off_small max_file off len (omega arith) i), between_again 1 max_transfer len (len_small max_file off len i) i.size, byte_again b all.1, in_file_again off len i.end) refl

size_again : (files : List FileLine) (held : List Mode) (file : ℕ) → files_fit [] files ≡ true → call_fits files held (calls.Size file) ≡ true →
    size_call files (name_at files file ∷ []) ≡ Ok (calls.Size file)
unfolding size_call one call_fits
size_again files held file fs e = rw (file_again files file fs (holds_lt file (length files) e)) refl

truncate_again : (files : List FileLine) (held : List Mode) (file size : ℕ) → files_fit [] files ≡ true → call_fits files held (calls.Truncate file size) ≡ true →
    truncate_call files (name_at files file ∷ decimal size ∷ []) ≡ Ok (calls.Truncate file size)
unfolding truncate_call two call_fits
truncate_again files held file size fs e =
    let parts = and_parts (nat_lt file (length files)) (nat_le size max_file) e in
    let small : size < 2 ^ 64 = omega (arith, holds_le size max_file parts.1) in
    rw (file_again files file fs (holds_lt file (length files) parts.0), between_again 0 max_file size small (from_zero size max_file parts.1)) refl

hold_call_again : (files : List FileLine) (held : List Mode) (file chunk : ℕ) (m : Mode) → files_fit [] files ≡ true → call_fits files held (calls.Hold file chunk m) ≡ true →
    hold_call files held (name_at files file ∷ decimal chunk ∷ mode_word m ∷ []) ≡ Ok (calls.Hold file chunk m)
unfolding hold_call three call_fits
hold_call_again files held file chunk m fs e =
    let all = and_parts (nat_lt file (length files) && nat_le chunk max_chunk) (nat_lt (length held) max_holds) e in
    let parts = and_parts (nat_lt file (length files)) (nat_le chunk max_chunk) all.0 in
    let small : chunk < 2 ^ 64 = omega (arith, holds_le chunk max_chunk parts.1) in
    rw (file_again files file fs (holds_lt file (length files) parts.0), between_again 0 max_chunk chunk small (from_zero chunk max_chunk parts.1), mode_again m, all.1) refl

load_again : (files : List FileLine) (held : List Mode) (h off len : ℕ) → length held < 2 ^ 64 → call_fits files held (calls.Load h off len) ≡ true →
    load_call held (decimal h ∷ decimal off ∷ decimal len ∷ []) ≡ Ok (calls.Load h off len)
unfolding load_call three call_fits
load_again files held h off len few e =
    let parts = and_parts (nat_lt h (length held)) (is_within chunk_size off len) e in
    let i = inside chunk_size off len parts.1 in
    rw (hold_again held h few parts.0, number_again off (off_small chunk_size off len (omega arith) i), between_again 1 max_transfer len (len_small chunk_size off len i) i.size, in_chunk_again off len i.end) refl

release_again : (files : List FileLine) (held : List Mode) (h : ℕ) → length held < 2 ^ 64 → call_fits files held (calls.Release h) ≡ true →
    release_call held (decimal h ∷ []) ≡ Ok (calls.Release h)
unfolding release_call one call_fits
release_again files held h few e = rw (hold_again held h few e) refl

pub writing_within : (held : List Mode) (h : ℕ) → is_writing (slice_get held h) ≡ true → h < length held
writing_within [] h e = absurd (grind (arith, tests, e))
writing_within (m ∷ held) zero e = omega arith
writing_within (m ∷ held) (suc h) e = omega (arith, writing_within held h e)

store_again : (files : List FileLine) (held : List Mode) (h off : ℕ) (bytes : List ℕ) → length held < 2 ^ 64 → call_fits files held (calls.Store h off bytes) ≡ true →
    store_call held (decimal h ∷ decimal off ∷ encode_lower bytes ∷ []) ≡ Ok (calls.Store h off bytes)
unfolding store_call three call_fits writing_hold
store_again files held h off bytes few e =
    let all = and_parts (is_writing (slice_get held h) && is_within chunk_size off (length bytes)) (are_bytes bytes) e in
    let parts = and_parts (is_writing (slice_get held h)) (is_within chunk_size off (length bytes)) all.0 in
    let i = inside chunk_size off (length bytes) parts.1 in
    rw (number_again h (omega (arith, few, writing_within held h parts.0)), parts.0, number_again off (off_small chunk_size off (length bytes) (omega arith) i), hex_again bytes all.1 i.some i.few, in_chunk_again off (length bytes) i.end) refl

-- ---- whole lines, once the ranges are known

abbrev pub draft : ℕ → ℕ → List FileLine → List (List Call) → Option (List Call) → Draft
draft r b files done cs = record { ranges = Some r; background = Some b; files = files; done = done; calls = cs }

call_line_again : (r b : ℕ) (files : List FileLine) (done : List (List Call)) (cs : List Call) (c : Call) (verb : List ℕ) (words : List (List ℕ)) →
    are_few (guests_with done (Some (cs ++ c ∷ []))) ≡ true → has_window r c ≡ true → call_of files (hold_modes cs) verb words ≡ Ok c →
    call_line (draft r b files done (Some cs)) r (Some cs) verb words ≡ Ok (draft r b files done (Some (cs ++ c ∷ [])))
unfolding call_line call_added
call_line_again r b files done cs c verb words few window e = rw (e, few, window) refl

pub call_again : (r b : ℕ) (files : List FileLine) (done : List (List Call)) (cs : List Call) (c : Call) → files_fit [] files ≡ true → length (hold_modes cs) < 2 ^ 64 →
    call_fits files (hold_modes cs) c ≡ true → are_few (guests_with done (Some (cs ++ c ∷ []))) ≡ true → has_window r c ≡ true →
    worded (draft r b files done (Some cs)) (call_words files c) ≡ Ok (draft r b files done (Some (cs ++ c ∷ [])))
unfolding worded worded_line later_line call_of call_words
call_again r b files done cs (calls.Read file off len) fs few e k w = call_line_again r b files done cs _ (codes "read") _ k w (read_again files (hold_modes cs) file off len fs e)
call_again r b files done cs (calls.Write file off bytes) fs few e k w = call_line_again r b files done cs _ (codes "write") _ k w (write_again files (hold_modes cs) file off bytes fs e)
call_again r b files done cs (calls.Fill file off len byte) fs few e k w = call_line_again r b files done cs _ (codes "fill") _ k w (fill_again files (hold_modes cs) file off len byte fs e)
call_again r b files done cs (calls.Size file) fs few e k w = call_line_again r b files done cs _ (codes "size") _ k w (size_again files (hold_modes cs) file fs e)
call_again r b files done cs (calls.Truncate file size) fs few e k w = call_line_again r b files done cs _ (codes "truncate") _ k w (truncate_again files (hold_modes cs) file size fs e)
call_again r b files done cs (calls.Hold file chunk m) fs few e k w = call_line_again r b files done cs _ (codes "hold") _ k w (hold_call_again files (hold_modes cs) file chunk m fs e)
call_again r b files done cs (calls.Load h off len) fs few e k w = call_line_again r b files done cs _ (codes "load") _ k w (load_again files (hold_modes cs) h off len few e)
call_again r b files done cs (calls.Store h off bytes) fs few e k w = call_line_again r b files done cs _ (codes "store") _ k w (store_again files (hold_modes cs) h off bytes few e)
call_again r b files done cs (calls.Release h) fs few e k w = call_line_again r b files done cs _ (codes "release") _ k w (release_again files (hold_modes cs) h few e)

pub guest_again : (r b : ℕ) (files : List FileLine) (done : List (List Call)) (cs : Option (List Call)) → nat_lt (length (guests_with done cs)) max_guests ≡ true →
    worded (draft r b files done cs) (codes "guest" ∷ []) ≡ Ok (draft r b files (guests_with done cs) (Some []))
unfolding worded worded_line later_line guest_line none
guest_again r b files done cs few = rw few refl

new_name_again : (files : List FileLine) (f : FileLine) → is_script_name f.name ≡ true → not (list_any (is_called f.name) files) ≡ true → new_name files f.name ≡ Ok f.name
unfolding new_name
new_name_again files f form fresh = rw (form, fresh) refl

pub file_line_again : (r b : ℕ) (files : List FileLine) (f : FileLine) → file_fits f ≡ true → not (list_any (is_called f.name) files) ≡ true → nat_lt (length files) max_files ≡ true →
    worded (draft r b files [] None) (file_words f) ≡ Ok (draft r b (files ++ f ∷ []) [] None)
unfolding worded worded_line later_line file_line file_of_words filled_file three
file_line_again r b files f e fresh few =
    let all = and_parts (is_script_name f.name && nat_le f.first.size max_file) (nat_lt f.first.fill 256) e in
    let parts = and_parts (is_script_name f.name) (nat_le f.first.size max_file) all.0 in
    let small : f.first.size < 2 ^ 64 = omega (arith, holds_le f.first.size max_file parts.1) in
    rw (new_name_again files f parts.0 fresh, between_again 0 max_file f.first.size small (from_zero f.first.size max_file parts.1), byte_again f.first.fill all.1, few) refl

pub ranges_again : (r : ℕ) → is_ranges r ≡ true → r < 2 ^ 64 → worded start (codes "ranges" ∷ decimal r ∷ []) ≡ Ok (record start { ranges = Some r })
unfolding worded worded_line ranges_line ranges_number one
ranges_again r e small = rw (number_again r small, e) refl

pub background_again : (r b : ℕ) → nat_le b max_background ≡ true → not (r == 0) || b == 0 ≡ true → worded (record start { ranges = Some r }) (codes "background" ∷ decimal b ∷ []) ≡ Ok (draft r b [] [] None)
unfolding worded worded_line later_line background_line one
background_again r b few window =
    let small : b < 2 ^ 64 = omega (arith, holds_le b max_background few) in
    rw (between_again 0 max_background b small (from_zero b max_background few), window) refl
