-- A table is opened.
use Rattle.std.proofs.Common.{◌≡◌, ℕ, zero, suc, ◌+◌, ◌*◌, ◌<◌, ◌≤◌, List, [], ◌∷◌, ◌++◌, map, replicate, length, take, get_or, Option, All, refl, sym, ap, ◌∙◌, subst, arith}
use Rattle.std.specs.List.{sum_by}
use mathlib.Core.Option.{some}
use lib.ListN.{length-map}
use Rattle.std.proofs.lemmas.List.{take_more}
use Rattle.atomic_table.specs.Table.{opening}
use Rattle.seats.specs.Views.{root, guests}
use Rattle.seats.specs.Views as views
use Rattle.seats.specs.Seats.{Shows}
use Rattle.seats.proofs.Seating.{opens}
use Rattle.plain_file.specs.declared.operations.First.{First}
use Rattle.plain_file.specs.File.{max_file}
use Rattle.plain_file.specs.History.{Past}
use Rattle.files_core.specs.Files.{FileState, blank, row, file, leases_of, leases, new_file, new_files}
use Rattle.files_core.specs.Shown.{shown_of, shown}
use Rattle.files_core.proofs.Starts.{files_start}
use Rattle.file_share.specs.Table.{Core, new_core, ShowsFile, number_of, home, Mine, mine, unseen, nothing_of, all_unseen, files_kit, opener}
use Rattle.file_share.specs.Known.{file_words, start_words, start_body}
use Rattle.file_share.proofs.Laws.{files_laws}

get_replicate : {A : Type 0} (n i : ℕ) (x : A) → get_or (replicate n x) i x ≡ x
get_replicate zero i x = refl
get_replicate (suc n) zero x = refl
get_replicate (suc n) (suc i) x = get_replicate n i x

no_leases : (n : ℕ) → sum_by leases_of (replicate n blank) ≡ 0
no_leases zero = refl
no_leases (suc n) = no_leases n

shows_nothing : (n : ℕ) (x : First) → shown_of n (new_file guests x) ≡ unseen
shows_nothing n x = let e = get_replicate guests n blank in λ i. record (shown_of n (new_file guests x)) { seen = take (e i).seen []; leases = (e i).leases; noted = (e i).noted; notes = (e i).notes }

bare_files : (n : ℕ) (firsts : List First) → shown n (new_files guests firsts) ≡ map nothing_of (new_files guests firsts)
bare_files n [] = refl
bare_files n (x ∷ xs) = λ i. shows_nothing n x i ∷ bare_files n xs i

pub starts_unseen : (n : ℕ) (firsts : List First) (leasers : ℕ) → mine n (new_core firsts leasers) ≡ all_unseen (new_core firsts leasers)
starts_unseen n firsts leasers = let e = bare_files n firsts in λ i. record (all_unseen (new_core firsts leasers)) { files = e i }

unleased : (firsts : List First) (f g : ℕ) → (row (file (new_files guests firsts) f) g).leases ≡ 0
unleased [] f g = refl
unleased (x ∷ xs) zero g = ap leases_of (get_replicate guests g blank)
unleased (x ∷ xs) (suc f) g = unleased xs f g

homes_are : (firsts : List First) → map some (map start_body firsts) ≡ map home (new_files guests firsts)
homes_are [] = refl
homes_are (x ∷ xs) = ap (λ l. some (start_body x) ∷ l) (homes_are xs)

wide_is : (firsts : List First) → length (start_words firsts) ≡ 16 * length (new_files guests firsts)
wide_is [] = refl
wide_is (x ∷ xs) = let e = wide_is xs in omega arith

-- the same word of the next file
abbrev next_file : ℕ → ℕ
next_file n = suc (suc (suc (suc (suc (suc (suc (suc (suc (suc (suc (suc (suc (suc (suc (suc n)))))))))))))))

-- the three words of a file that are used, from the place where they begin
word_at : (firsts : List First) (f : ℕ) → f < length firsts → (get_or (start_words firsts) (16 * f) 0 ≡ 0) × (get_or (start_words firsts) (16 * f + 1) 0 ≡ (file (new_files guests firsts) f).size) × (get_or (start_words firsts) (16 * f + 2) 0 ≡ 0)
word_at [] f l = absurd (omega arith)
word_at (x ∷ xs) zero l = (refl, refl, refl)
word_at (x ∷ xs) (suc f) l = let e = word_at xs f (omega arith) in
    let past : (n m : ℕ) → next_file n ≡ m → get_or (start_words xs) n 0 ≡ get_or (start_words (x ∷ xs)) m 0 = λ n m is. ap (λ k. get_or (start_words (x ∷ xs)) k 0) is in (
      sym (past (16 * f) (16 * suc f) (omega arith)) ∙ e.0,
      sym (past (16 * f + 1) (16 * suc f + 1) (omega arith)) ∙ e.1,
      sym (past (16 * f + 2) (16 * suc f + 2) (omega arith)) ∙ e.2,
    )

new_at : (firsts : List First) (f : ℕ) → f < length firsts → (x : First) × (file (new_files guests firsts) f ≡ new_file guests x)
new_at [] f l = absurd (omega arith)
new_at (x ∷ xs) zero l = (x, refl)
new_at (x ∷ xs) (suc f) l = new_at xs f (omega arith)

shows_start : (firsts : List First) (f : ℕ) → f < length firsts → ShowsFile (0 ∷ start_words firsts) f (file (new_files guests firsts) f)
shows_start firsts f l = let w = word_at firsts f l in let n = new_at firsts f l in
    let a : suc (16 * f) ≡ 16 * f + 1 = omega arith in
    let b : suc (16 * f + 1) ≡ 16 * f + 2 = omega arith in
    let d : suc (16 * f + 2) ≡ 16 * f + 3 = omega arith in record {
      turn = ap (λ n. get_or (0 ∷ start_words firsts) n 0) (sym a) ∙ (w.0 ∙ sym (ap (λ (x : FileState). number_of x.turn) n.1));
      size = ap (λ n. get_or (0 ∷ start_words firsts) n 0) (sym b) ∙ w.1;
      lease = ap (λ n. get_or (0 ∷ start_words firsts) n 0) (sym d) ∙ (w.2 ∙ sym (ap (λ (x : FileState). leases x + 65536 * number_of x.bar) n.1 ∙ ap (λ (z : ℕ). z + 65536 * 0) (no_leases guests)));
    }

-- The table of files to which nothing was done yet, with its first pass.
pub opens_files : (firsts : List First) (leasers : ℕ) (words : List ℕ) (slots : List (Option Past)) → All (λ first. first.size ≤ max_file) firsts → words ≡ 0 ∷ start_words firsts → slots ≡ map start_body firsts → Shows files_kit (opening words slots (opener firsts leasers))
opens_files firsts leasers words slots small is is' = let c : Core = new_core firsts leasers in
    subst (λ (z : List ℕ × List (Option Past) × Mine). Shows files_kit (opening z.0 z.1 (views.opener z.2 []))) (λ i. (sym is i, sym is' i, starts_unseen root firsts leasers i))
    (opens files_kit files_laws c (0 ∷ start_words firsts) (map start_body firsts)
    record { files_good = files_start guests firsts small; leasers_only = λ f g _. unleased firsts f g }
    (firsts, leasers, refl)
    record { wide = (let e = wide_is firsts in omega arith); each = λ f near. shows_start firsts f (let e = length-map firsts (new_file guests) in omega arith) }
    (homes_are firsts)
    (λ n. starts_unseen n firsts leasers))

-- the words of one file more
one_more : (xs : List First) (x : First) → start_words (xs ++ x ∷ []) ≡ start_words xs ++ file_words x.size
one_more [] x = refl
one_more (y ∷ ys) x = ap (λ l. file_words y.size ++ l) (one_more ys x)

pub words_count : (firsts : List First) → length (0 ∷ start_words firsts) ≡ 16 * length firsts + 1
words_count [] = refl
words_count (x ∷ xs) = let e = words_count xs in omega arith

pub start_more : (firsts : List First) (i : ℕ) (d : First) → i < length firsts → (ws : List ℕ) → ws ≡ 0 ∷ start_words (take i firsts) → ws ++ file_words (get_or firsts i d).size ≡ 0 ∷ start_words (take (i + 1) firsts)
start_more firsts i d l ws is = ap (λ (z : List ℕ). z ++ file_words (get_or firsts i d).size) is
    ∙ (ap (λ (z : List ℕ). 0 ∷ z) (sym (one_more (take i firsts) (get_or firsts i d))) ∙ ap (λ (z : List First). 0 ∷ start_words z) (sym (take_more firsts i d l)))
