-- A call that is read fits the files of its script and the holds of its guest.
use Rattle.std.proofs.Common.{◌≡◌, refl, ℕ, ◌+◌, true, nat_lt, nat_le, List, length, codes, slice_get}
use Rattle.std.specs.Result.{IfOk}
use Rattle.std.specs.Str.{bytes_eq}
use Rattle.plain_file.specs.File.{max_file}
use Rattle.plain_file.specs.Limits.{max_transfer}
use Rattle.page_map.specs.declared.pages.Mode.{Mode}
use Rattle.dax_script.specs.declared.scripts.Call.{Call}
use Rattle.dax_script.specs.declared.scripts.Call.TheVariants as calls
use Rattle.dax_script.specs.declared.scripts.FileLine.{FileLine}
use Rattle.dax_script.specs.Asks.{chunk_size}
use Rattle.dax_script.specs.Steps.{one, two, three, four}
use Rattle.dax_script.specs.ScriptWords.{number, between, moves, in_file, in_chunk, file_named, byte, hex, mode, hold, is_writing, writing_hold}
use Rattle.dax_script.specs.ScriptText.{read_call, write_call, fill_call, size_call, truncate_call, hold_call, load_call, store_call, release_call, call_of, max_chunk, max_holds}
use Rattle.dax_script.specs.Fits.{is_within, call_fits}
use Rattle.dax_script.proofs.ReadWords.{any_value, then_yields, where_yields, if_yields, between_yields, in_file_yields, in_chunk_yields, file_yields, hold_yields, writing_hold_yields, byte_yields, AreMoved, hex_yields}

abbrev Nothing : {A : Type 0} → A → Type 0
Nothing x = Unit {0}

abbrev IsFile : List FileLine → ℕ → Type 0
IsFile files i = nat_lt i (length files) ≡ true

abbrev IsMoved : ℕ → Type 0
IsMoved len = (nat_le 1 len ≡ true) × (nat_le len max_transfer ≡ true)

abbrev FitsIn : List FileLine → List Mode → Call → Type 0
FitsIn files held c = call_fits files held c ≡ true

within : (room off len : ℕ) → IsMoved len → nat_le (off + len) room ≡ true → is_within room off len ≡ true
within room off len m e = rw (m.0, m.1, e) refl

read_yields : (files : List FileLine) (held : List Mode) (words : List (List ℕ)) → IfOk (read_call files words) (FitsIn files held)
unfolding read_call call_fits
read_yields files held words =
    then_yields Nothing _ (three words) _ (any_value (three words))
    (λ w _. then_yields (IsFile files) _ (file_named files w.0) _ (file_yields files w.0)
    (λ file f. then_yields Nothing _ (number w.1) _ (any_value (number w.1))
    (λ off _. then_yields IsMoved _ (moves w.2) _ (between_yields 1 max_transfer w.2)
    (λ len m. then_yields (λ at. nat_le (at + len) max_file ≡ true) _ (in_file off len) _ (in_file_yields off len)
    (λ at e. rw (f, m.0, m.1, e) refl)))))

write_yields : (files : List FileLine) (held : List Mode) (words : List (List ℕ)) → IfOk (write_call files words) (FitsIn files held)
unfolding write_call call_fits
write_yields files held words =
    then_yields Nothing _ (three words) _ (any_value (three words))
    (λ w _. then_yields (IsFile files) _ (file_named files w.0) _ (file_yields files w.0)
    (λ file f. then_yields Nothing _ (number w.1) _ (any_value (number w.1))
    (λ off _. then_yields AreMoved _ (hex w.2) _ (hex_yields w.2)
    (λ bytes m. then_yields (λ at. nat_le (at + length bytes) max_file ≡ true) _ (in_file off (length bytes)) _ (in_file_yields off (length bytes))
    (λ at e. rw (f, m.some, m.few, e, m.small) refl)))))

fill_yields : (files : List FileLine) (held : List Mode) (words : List (List ℕ)) → IfOk (fill_call files words) (FitsIn files held)
unfolding fill_call call_fits
fill_yields files held words =
    then_yields Nothing _ (four words) _ (any_value (four words))
    (λ w _. then_yields (IsFile files) _ (file_named files w.0) _ (file_yields files w.0)
    (λ file f. then_yields Nothing _ (number w.1) _ (any_value (number w.1))
    (λ off _. then_yields IsMoved _ (moves w.2) _ (between_yields 1 max_transfer w.2)
    (λ len m. then_yields (λ b. nat_lt b 256 ≡ true) _ (byte w.3) _ (byte_yields w.3)
    (λ b small. then_yields (λ at. nat_le (at + len) max_file ≡ true) _ (in_file off len) _ (in_file_yields off len)
    (λ at e. rw (f, m.0, m.1, e, small) refl))))))

size_yields : (files : List FileLine) (held : List Mode) (words : List (List ℕ)) → IfOk (size_call files words) (FitsIn files held)
unfolding size_call call_fits
size_yields files held words =
    then_yields Nothing _ (one words) _ (any_value (one words))
    (λ w _. then_yields (IsFile files) _ (file_named files w) _ (file_yields files w) (λ file f. f))

truncate_yields : (files : List FileLine) (held : List Mode) (words : List (List ℕ)) → IfOk (truncate_call files words) (FitsIn files held)
unfolding truncate_call call_fits
truncate_yields files held words =
    then_yields Nothing _ (two words) _ (any_value (two words))
    (λ w _. then_yields (IsFile files) _ (file_named files w.0) _ (file_yields files w.0)
    (λ file f. then_yields (λ n. (nat_le 0 n ≡ true) × (nat_le n max_file ≡ true)) _ (between 0 max_file w.1) _ (between_yields 0 max_file w.1)
    (λ size m. rw (f, m.1) refl)))

hold_call_yields : (files : List FileLine) (held : List Mode) (words : List (List ℕ)) → IfOk (hold_call files held words) (FitsIn files held)
unfolding hold_call call_fits
hold_call_yields files held words =
    then_yields Nothing _ (three words) _ (any_value (three words))
    (λ w _. then_yields (IsFile files) _ (file_named files w.0) _ (file_yields files w.0)
    (λ file f. then_yields (λ n. (nat_le 0 n ≡ true) × (nat_le n max_chunk ≡ true)) _ (between 0 max_chunk w.1) _ (between_yields 0 max_chunk w.1)
    (λ chunk c. then_yields Nothing _ (mode w.2) _ (any_value (mode w.2))
    (λ m _. where_yields _ (nat_lt (length held) max_holds) _ (calls.Hold file chunk m) (λ e. rw (f, c.1, e) refl)))))

load_yields : (files : List FileLine) (held : List Mode) (words : List (List ℕ)) → IfOk (load_call held words) (FitsIn files held)
unfolding load_call call_fits
load_yields files held words =
    then_yields Nothing _ (three words) _ (any_value (three words))
    (λ w _. then_yields (λ h. nat_lt h (length held) ≡ true) _ (hold held w.0) _ (hold_yields held w.0)
    (λ h f. then_yields Nothing _ (number w.1) _ (any_value (number w.1))
    (λ off _. then_yields IsMoved _ (moves w.2) _ (between_yields 1 max_transfer w.2)
    (λ len m. then_yields (λ at. nat_le (at + len) chunk_size ≡ true) _ (in_chunk off len) _ (in_chunk_yields off len)
    (λ at e. rw (f, m.0, m.1, e) refl)))))

store_yields : (files : List FileLine) (held : List Mode) (words : List (List ℕ)) → IfOk (store_call held words) (FitsIn files held)
unfolding store_call call_fits
store_yields files held words =
    then_yields Nothing _ (three words) _ (any_value (three words))
    (λ w _. then_yields (λ h. is_writing (slice_get held h) ≡ true) _ (writing_hold held w.0) _ (writing_hold_yields held w.0)
    (λ h f. then_yields Nothing _ (number w.1) _ (any_value (number w.1))
    (λ off _. then_yields AreMoved _ (hex w.2) _ (hex_yields w.2)
    (λ bytes m. then_yields (λ at. nat_le (at + length bytes) chunk_size ≡ true) _ (in_chunk off (length bytes)) _ (in_chunk_yields off (length bytes))
    (λ at e. rw (f, m.some, m.few, e, m.small) refl)))))

release_yields : (files : List FileLine) (held : List Mode) (words : List (List ℕ)) → IfOk (release_call held words) (FitsIn files held)
unfolding release_call call_fits
release_yields files held words =
    then_yields Nothing _ (one words) _ (any_value (one words))
    (λ w _. then_yields (λ h. nat_lt h (length held) ≡ true) _ (hold held w) _ (hold_yields held w) (λ h f. f))

pub call_yields : (files : List FileLine) (held : List Mode) (verb : List ℕ) (words : List (List ℕ)) → IfOk (call_of files held verb words) (λ c. call_fits files held c ≡ true)
unfolding call_of
call_yields files held verb words =
    if_yields _ (bytes_eq verb (codes "read")) (read_call files words) _ (read_yields files held words)
    (if_yields _ (bytes_eq verb (codes "write")) (write_call files words) _ (write_yields files held words)
    (if_yields _ (bytes_eq verb (codes "fill")) (fill_call files words) _ (fill_yields files held words)
    (if_yields _ (bytes_eq verb (codes "size")) (size_call files words) _ (size_yields files held words)
    (if_yields _ (bytes_eq verb (codes "truncate")) (truncate_call files words) _ (truncate_yields files held words)
    (if_yields _ (bytes_eq verb (codes "hold")) (hold_call files held words) _ (hold_call_yields files held words)
    (if_yields _ (bytes_eq verb (codes "load")) (load_call held words) _ (load_yields files held words)
    (if_yields _ (bytes_eq verb (codes "store")) (store_call held words) _ (store_yields files held words)
    (if_yields _ (bytes_eq verb (codes "release")) (release_call held words) _ (release_yields files held words) tt))))))))
