-- A text that is printed from lines of clean words is read as those words.
use Rattle.std.proofs.Common.{◌≡◌, ◌∙◌, ap, refl, ℕ, ◌+◌, false, List, [], ◌∷◌, ◌++◌, map, length, length-append, append_assoc, Result, Ok, Err, arith}
use Rattle.std.specs.List.{AllByRecursion}
use Rattle.plain_text.specs.Printed.{joined}
use Rattle.plain_text.proofs.PrintedLines.{IsCleanLine, HasBytes, words_of-joined}
use Rattle.dax_script.specs.declared.scripts.Script.{Script}
use Rattle.dax_script.specs.declared.whys.Why.{Why}
use Rattle.dax_script.specs.ScriptText.{Draft, BadLine, or_bad, finished, is_comment, worded, line_read, script_from}

-- a line with words that print as they are, and no comment
pub record IsPrintedLine (ws : List (List ℕ)) : Type 0 where
  pub clean : IsCleanLine ws
  pub some : AllByRecursion HasBytes ws
  pub open_ : is_comment (joined ws) ≡ false

-- the reading of a script over lines of words
abbrev pub words_from : ℕ → Draft → List (List (List ℕ)) → Result Script BadLine
words_from n d [] = finished n d d.ranges
words_from n d (ws ∷ lss) = or_bad n (worded d ws) (λ e. words_from (n + 1) e lss)

read_line : (d : Draft) (ws : List (List ℕ)) → IsPrintedLine ws → line_read d (joined ws) ≡ worded d ws
unfolding line_read
read_line d ws h = rw h.open_ (ap (λ vs. worded d vs) (words_of-joined ws h.clean h.some))

bad_same : {A B : Type 0} (n : ℕ) (r : Result A Why) (f g : A → Result B BadLine) → ((x : A) → f x ≡ g x) → or_bad n r f ≡ or_bad n r g
bad_same n (Ok x) f g h = h x
bad_same n (Err why) f g h = refl

pub read_lines : (n : ℕ) (d : Draft) (lss : List (List (List ℕ))) → AllByRecursion IsPrintedLine lss → script_from n d (map joined lss ++ [] ∷ []) ≡ words_from n d lss
read_lines n d [] h = refl
read_lines n d (ws ∷ []) h =
    ap (λ r. or_bad n r (λ e. script_from (n + 1) e ([] ∷ []))) (read_line d ws h.0)
    ∙ bad_same n (worded d ws) _ _ (λ e. read_lines (n + 1) e [] tt)
read_lines n d (ws ∷ vs ∷ lss) h =
    ap (λ r. or_bad n r (λ e. script_from (n + 1) e (joined vs ∷ map joined lss ++ [] ∷ []))) (read_line d ws h.0)
    ∙ bad_same n (worded d ws) _ _ (λ e. read_lines (n + 1) e (vs ∷ lss) h.1)

-- ---- sections of lines, one after another

abbrev pub ReadsOn : Draft → List (List (List ℕ)) → Draft → Type 0
ReadsOn d lss e = (n : ℕ) (rest : List (List (List ℕ))) → words_from n d (lss ++ rest) ≡ words_from (n + length lss) e rest

pub reads_none : (d : Draft) → ReadsOn d [] d
reads_none d n rest = let same : n ≡ n + length {A = List (List ℕ)} [] = omega arith in ap (λ m. words_from m d rest) same

pub reads_one : (d e : Draft) (ws : List (List ℕ)) → worded d ws ≡ Ok e → ReadsOn d (ws ∷ []) e
reads_one d e ws h n rest = ap (λ r. or_bad n r (λ x. words_from (n + 1) x rest)) h

pub reads_both : (d e f : Draft) (a b : List (List (List ℕ))) → ReadsOn d a e → ReadsOn e b f → ReadsOn d (a ++ b) f
reads_both d e f a b h k n rest =
    let same : n + length a + length b ≡ n + length (a ++ b) = omega (arith, length-append a b) in
    ap (λ lss. words_from n d lss) (append_assoc a b rest) ∙ h n (b ++ rest) ∙ k (n + length a) rest ∙ ap (λ m. words_from m f rest) same
