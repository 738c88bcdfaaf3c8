-- The text of a script in its parts.
use Rattle.std.proofs.Common.{◌≡◌, ◌∙◌, ap, sym, ℕ, List, [], ◌∷◌, ◌++◌, map, codes, decimal, append_assoc}
use Rattle.std.specs.List.{flat_map}
use Rattle.std.proofs.lemmas.List.Concat.{flat_map-append}
use Rattle.plain_text.specs.Printed.{line}
use Rattle.dax_script.specs.declared.scripts.Call.{Call}
use Rattle.dax_script.specs.declared.scripts.FileLine.{FileLine}
use Rattle.dax_script.specs.declared.scripts.Script.{Script}
use Rattle.dax_script.specs.ScriptPrinted.{file_words, guest_lines, script_lines, text_of}

-- the words of the first two lines
abbrev pub ranges_words : Script → List (List ℕ)
ranges_words s = codes "ranges" ∷ decimal s.ranges ∷ []

abbrev pub background_words : Script → List (List ℕ)
background_words s = codes "background" ∷ decimal s.background ∷ []

pub text_of_parts : (s : Script) → text_of s ≡ (line (ranges_words s) ++ line (background_words s)) ++ (flat_map line (map file_words s.files) ++ flat_map line (flat_map (guest_lines s.files) s.guests))
unfolding text_of script_lines
text_of_parts s =
    ap (λ rest. line (ranges_words s) ++ (line (background_words s) ++ rest)) (flat_map-append line (map file_words s.files) (flat_map (guest_lines s.files) s.guests))
    ∙ sym (append_assoc (line (ranges_words s)) (line (background_words s)) _)

-- the text put together, part by part
pub text_put : (s : Script) (o a b f g : List ℕ) (fs fs2 : List FileLine) (gs : List (List Call)) → fs ≡ s.files → fs2 ≡ s.files → gs ≡ s.guests → o ≡ [] →
    a ≡ o ++ line (ranges_words s) → b ≡ a ++ line (background_words s) → f ≡ b ++ flat_map line (map file_words fs) → g ≡ f ++ flat_map line (flat_map (guest_lines fs2) gs) → g ≡ text_of s
text_put s o a b f g fs fs2 gs e1 e2 e3 eo ea eb ef eg =
    eg ∙ rw (ef, eb, ea, eo, e1, e2, e3) (append_assoc (line (ranges_words s) ++ line (background_words s)) (flat_map line (map file_words s.files)) _ ∙ sym (text_of_parts s))
