-- The name of a file in a script is the name of a file.
use Rattle.std.proofs.Common.{◌≡◌, ℕ, true, List, [], ◌∷◌, refl, arith}
use Rattle.std.proofs.lemmas.Grind.{common_steps}
use Rattle.std.specs.List.{list_all}
use Rattle.plain_file.specs.Names.{is_name, is_name_byte}
use Rattle.dax_script.specs.ScriptWords.{is_script_name, is_script_name_byte}

name_byte : (b : ℕ) → is_script_name_byte b ≡ true → is_name_byte b ≡ true
name_byte b h = grind (arith, common_steps)

name_bytes : (word : List ℕ) → list_all is_script_name_byte word ≡ true → list_all is_name_byte word ≡ true
name_bytes [] h = refl
name_bytes (b ∷ bs) h = grind (arith, common_steps, name_byte b, name_bytes bs)

pub script_name_is_name : (word : List ℕ) → is_script_name word ≡ true → is_name word ≡ true
script_name_is_name word h = grind (arith, common_steps, name_bytes word)
