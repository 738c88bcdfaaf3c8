-- Sizes of histories.
use Rattle.std.proofs.Common.{◌≡◌, ◌∙◌, ap, refl, ℕ, ◌≤◌, List, [], ◌∷◌, ◌++◌, length, slice_get, Some, arith, length-append}
use Rattle.std.proofs.lemmas.List.{take-append-le}
use Rattle.plain_file.specs.declared.operations.Op.{Op}
use Rattle.plain_file.specs.declared.operations.Op.TheVariants as ops
use Rattle.plain_file.specs.declared.operations.Entry.{Entry}
use Rattle.plain_file.specs.declared.operations.First.{First}
use Rattle.plain_file.specs.File.{after, first_bytes}
use Rattle.plain_file.specs.History.{bytes, size, after_all}
use Rattle.plain_file.proofs.Places.{length-resized, length-written, bytes-step}
use Rattle.files_core.specs.Files.{sized}
use Rattle.files_core.specs.Good.{size_of}

not_nil : {A : Type 0} (x : A) (xs : List A) → x ∷ xs ≡ [] → ⊥
not_nil x xs e = cc

-- an operation makes of the length what it makes of the bytes
pub length_after : (b : List ℕ) (op : Op) → length (after b op) ≡ sized (length b) op
unfolding after sized
length_after b (ops.Read off len) = refl
length_after b (ops.Write off []) = refl
length_after b (ops.Write off (x ∷ xs)) = length-written b off (x ∷ xs) (not_nil x xs)
length_after b (ops.Truncate n) = length-resized b n
length_after b ops.Size = refl

-- a front of a history has the size that it had
pub size_front : (first : First) (h : List Entry) (e : Entry) (n : ℕ) → n ≤ length h → size first (h ++ e ∷ []) n ≡ size first h n
unfolding bytes
size_front first h e n few = ap (λ (es : List Entry). length (after_all (first_bytes first) es)) (take-append-le n h (e ∷ []) few)

last_is : (h : List Entry) (e : Entry) → slice_get (h ++ e ∷ []) (length h) ≡ Some e
last_is [] e = refl
last_is (x ∷ xs) e = last_is xs e

-- one entry more makes of the size what its operation does
pub size_more : (first : First) (h : List Entry) (e : Entry) → size_of first (h ++ e ∷ []) ≡ sized (size_of first h) e.op
size_more first h e = ap (λ (n : ℕ). size first (h ++ e ∷ []) n) (length-append h (e ∷ []))
    ∙ (ap (λ (b : List ℕ). length b) (bytes-step first (h ++ e ∷ []) (length h) e (last_is h e))
    ∙ (length_after (bytes first (h ++ e ∷ []) (length h)) e.op ∙ ap (λ (n : ℕ). sized n e.op) (size_front first h e (length h) (omega arith))))
