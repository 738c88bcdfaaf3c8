-- Files to which nothing was done yet are good.
use Rattle.std.proofs.Common.{◌≡◌, ℕ, zero, suc, ◌<◌, ◌≤◌, List, [], ◌∷◌, length, replicate, get_or, slice_get, Some, None, All, refl, sym, ◌∙◌, subst, arith}
use Rattle.std.proofs.lemmas.List.{length-replicate}
use Rattle.std.proofs.lemmas.List.Elements.{All-head, All-tail}
use Rattle.plain_file.specs.declared.operations.Entry.{Entry}
use Rattle.plain_file.specs.declared.operations.First.{First}
use Rattle.plain_file.specs.File.{max_file}
use Rattle.plain_file.specs.History.{bytes, after_all}
use Rattle.files_core.specs.declared.rows.Note.{Note}
use Rattle.files_core.specs.Files.{Row, blank, file, new_file, new_files}
use Rattle.files_core.specs.Good.{size_of, RowOk, GoodFile, GoodFiles}
use Rattle.files_core.proofs.Keeps.{not_none}

get_replicate : {A : Type 0} (n i : ℕ) (x : A) → get_or (replicate n x) i x ≡ x
get_replicate zero i x = refl
get_replicate (suc n) zero x = refl
get_replicate (suc n) (suc i) x = get_replicate n i x

start_size : (first : First) → first.size ≡ size_of first []
unfolding bytes after_all
start_size first = sym (length-replicate first.size first.fill)

no_entry : (k : ℕ) (e : Entry) → slice_get [] k ≡ Some e → ⊥
no_entry k e at = cc

no_note : (k : ℕ) (n : Note) → slice_get [] k ≡ Some n → ⊥
no_note k n at = cc

new_good : (guests : ℕ) (first : First) → first.size ≤ max_file → GoodFile guests (new_file guests first)
new_good guests first few = record {
  rows_all = length-replicate guests blank;
  first_small = few;
  size_small = few;
  entries_small = λ k e at. absurd (no_entry k e at);
  turn_small = λ g t. absurd (not_none g t);
  bar_small = λ g t. absurd (not_none g t);
  size_is = start_size first;
  applied_is = tt;
  barred = λ b. absurd (cc);
  notes_ok = λ g k n at. absurd (no_note k n (subst (λ (r : Row). slice_get r.notes k ≡ Some n) (get_replicate guests g blank) at));
  rows_ok = λ g _. subst (λ (r : Row). RowOk None [] first.size g r) (sym (get_replicate guests g blank)) record { seen = omega arith; at_turn = λ _. refl; own = λ k e at _. absurd (no_entry k e at); noted = tt; few = omega arith };
}

starts_at : (guests : ℕ) (firsts : List First) → All (λ first. first.size ≤ max_file) firsts → (f : ℕ) → f < length (new_files guests firsts) → GoodFile guests (file (new_files guests firsts) f)
starts_at guests [] all f l = absurd (omega arith)
starts_at guests (x ∷ xs) all zero l = new_good guests x (All-head (λ first. first.size ≤ max_file) x xs all)
starts_at guests (x ∷ xs) all (suc f) l = starts_at guests xs (All-tail (λ first. first.size ≤ max_file) x xs all) f (omega arith)

turn_at_start : (guests : ℕ) (firsts : List First) (f : ℕ) → (file (new_files guests firsts) f).turn ≡ None
turn_at_start guests [] f = refl
turn_at_start guests (x ∷ xs) zero = refl
turn_at_start guests (x ∷ xs) (suc f) = turn_at_start guests xs f

bar_at_start : (guests : ℕ) (firsts : List First) (f : ℕ) → (file (new_files guests firsts) f).bar ≡ None
bar_at_start guests [] f = refl
bar_at_start guests (x ∷ xs) zero = refl
bar_at_start guests (x ∷ xs) (suc f) = bar_at_start guests xs f

pub files_start : (guests : ℕ) (firsts : List First) → All (λ first. first.size ≤ max_file) firsts → GoodFiles guests (new_files guests firsts)
files_start guests firsts all = record {
  files_ok = starts_at guests firsts all;
  one_turn = λ f f' g t t'. absurd (not_none g (sym (turn_at_start guests firsts f) ∙ t));
  one_bar = λ f f' g t t'. absurd (not_none g (sym (bar_at_start guests firsts f) ∙ t));
}
