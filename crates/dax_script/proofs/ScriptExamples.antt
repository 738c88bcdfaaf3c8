-- What some texts are, by computation.
use Rattle.std.proofs.Common.{◌≡◌, true, [], ◌∷◌, Ok, Err, codes, refl}
use Rattle.std.specs.Prelude.{⊤}
use Rattle.page_map.specs.declared.pages.Mode.TheVariants as modes
use Rattle.dax_script.specs.declared.scripts.Call.TheVariants as calls
use Rattle.dax_script.specs.declared.whys.Why.TheVariants as whys
use Rattle.plain_text.specs.Numbers.{number_of}
use Rattle.plain_text.specs.Hexadecimal.{hex_pairs, hex_of, hex_byte_of}
use Rattle.page_map.specs.Logs.{is_writable}
use Rattle.dax_script.specs.declared.scripts.Script.{Script}
use Rattle.dax_script.specs.Asks.{is_hold}
use Rattle.dax_script.specs.Fits.{call_fits, fits}
use Rattle.dax_script.specs.Steps.{none, one, two, three, four}
use Rattle.dax_script.specs.ScriptWords.{number, between, in_file, in_chunk, ranges_number, new_name, file_named, byte, hex, mode, held_mode, hold, writing_hold}
use Rattle.dax_script.specs.ScriptText.{read_call, write_call, fill_call, size_call, truncate_call, hold_call, load_call, store_call, release_call, call_of, moved_by, call_added, call_line, ranges_line, background_line, zeros_file, filled_file, file_of_words, file_line, guest_line, later_line, worded_line, worded, line_read, finished, script_of}

unfoldable pub scripts_on_literals : ⊤
unfolding number_of hex_pairs hex_of hex_byte_of is_writable is_hold none one two three four number between in_file in_chunk ranges_number new_name file_named byte hex mode held_mode hold writing_hold read_call write_call fill_call size_call truncate_call hold_call load_call store_call release_call call_of moved_by call_added call_line ranges_line background_line zeros_file filled_file file_of_words file_line guest_line later_line worded_line worded line_read finished script_of
scripts_on_literals = tt

one_range : script_of (codes "ranges 1") ≡ Err (record { line = 1; why = whys.Limit })
unfolding scripts_on_literals
one_range = refl

hold_without_window : script_of (codes "ranges 0\nfile a 0\nguest\nhold a 0 r") ≡ Err (record { line = 4; why = whys.Window })
unfolding scripts_on_literals
hold_without_window = refl

no_such_file : script_of (codes "ranges 2\nfile a 0\nguest\nread b 0 1\n") ≡ Err (record { line = 4; why = whys.File })
unfolding scripts_on_literals
no_such_file = refl

odd_digits : script_of (codes "ranges 2\nfile a 0\nguest\nwrite a 0 6") ≡ Err (record { line = 4; why = whys.Hex })
unfolding scripts_on_literals
odd_digits = refl

nothing : script_of [] ≡ Err (record { line = 1; why = whys.Order })
unfolding scripts_on_literals
nothing = refl

commented : script_of (codes "# two guests\n\n ranges  2 \nfile a 0\nguest\nwrite a 0 61\nread a 0 1\n   \nguest\ntruncate a 0")
    ≡ Ok (record { ranges = 2; background = 0; files = record { name = codes "a"; first = record { size = 0; fill = 0 } } ∷ []; guests = (calls.Write 0 0 (codes "a") ∷ calls.Read 0 0 1 ∷ []) ∷ (calls.Truncate 0 0 ∷ []) ∷ [] })
unfolding scripts_on_literals
commented = refl

past_and_nohold : script_of (codes "ranges 2\nfile a 5\nguest\nhold a 0 w\nstore 0 3 6162\nstore 0 4 6162\nrelease 0\nload 0 0 1\n")
    ≡ Ok (record { ranges = 2; background = 0; files = record { name = codes "a"; first = record { size = 5; fill = 0 } } ∷ []; guests = (calls.Hold 0 0 modes.W ∷ calls.Store 0 3 (codes "ab") ∷ calls.Store 0 4 (codes "ab") ∷ calls.Release 0 ∷ calls.Load 0 0 1 ∷ []) ∷ [] })
unfolding scripts_on_literals
past_and_nohold = refl

small : Script
small = record { ranges = 2; background = 0; files = record { name = codes "a"; first = record { size = 5; fill = 0 } } ∷ []; guests = (calls.Hold 0 0 modes.W ∷ calls.Store 0 3 (codes "ab") ∷ calls.Release 0 ∷ []) ∷ [] }

small_fits : fits small ≡ true
unfolding scripts_on_literals small call_fits fits
small_fits = refl
