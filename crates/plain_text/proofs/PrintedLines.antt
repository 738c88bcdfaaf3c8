-- The lines and words of a text that is printed from clean words are those words.
use Rattle.std.proofs.Common.{◌≡◌, ◌∙◌, ap, sym, refl, ℕ, ◌<◌, ◌≤◌, true, false, List, [], ◌∷◌, ◌++◌, map, filter, append-nil, append_assoc, arith, rules}
use Rattle.std.specs.List.{AllByRecursion, flat_map, onto_first}
use Rattle.plain_text.specs.Words.{parts, is_byte, is_word, words_of, line_end, space}
use Rattle.plain_text.specs.Printed.{joined, line, followed}
use Rattle.plain_text.proofs.CleanWords.{IsCleanWord}

-- a line has a word, and each is clean
abbrev pub IsCleanLine : List (List ℕ) → Type 0
IsCleanLine [] = ⊥
IsCleanLine (w ∷ ws) = IsCleanWord w × AllByRecursion IsCleanWord ws

pub all_append : {X : Type 0} (P : X → Type 0) (xs ys : List X) → AllByRecursion P xs → AllByRecursion P ys → AllByRecursion P (xs ++ ys)
all_append P [] ys h k = k
all_append P (x ∷ xs) ys h k = (h.0, all_append P xs ys h.1 k)

-- no byte is the separator
abbrev Lacks : ℕ → List ℕ → Type 0
Lacks sep w = AllByRecursion (λ b. is_byte sep b ≡ false) w

clean_byte : (sep b : ℕ) → sep ≤ 32 → 32 < b → is_byte sep b ≡ false
clean_byte sep b small h = grind arith

clean_lacks : (sep : ℕ) (w : List ℕ) → sep ≤ 32 → IsCleanWord w → Lacks sep w
clean_lacks sep [] small h = tt
clean_lacks sep (b ∷ w) small h = (clean_byte sep b small h.0, clean_lacks sep w small h.1)

-- the first part, and the rest
parts-append : (sep : ℕ) (w rest : List ℕ) → is_byte sep sep ≡ true → Lacks sep w → parts sep (w ++ sep ∷ rest) ≡ w ∷ parts sep rest
parts-append sep [] rest e h = rw e refl
parts-append sep (b ∷ w) rest e h = rw h.0 (ap (onto_first b) (parts-append sep w rest e h.1))

parts_last : (sep : ℕ) (w : List ℕ) → Lacks sep w → parts sep w ≡ w ∷ []
parts_last sep [] h = refl
parts_last sep (b ∷ w) h = rw h.0 (ap (onto_first b) (parts_last sep w h.1))

pub words-joined : (ws : List (List ℕ)) → IsCleanLine ws → parts space (joined ws) ≡ ws
unfolding joined
words-joined [] h = absurd h
words-joined (w ∷ []) h = parts_last space w (clean_lacks space w (omega arith) h.0)
words-joined (w ∷ v ∷ ws) h = parts-append space w (joined (v ∷ ws)) refl (clean_lacks space w (omega arith) h.0) ∙ ap (λ vs. w ∷ vs) (words-joined (v ∷ ws) h.1)

joined_lacks : (ws : List (List ℕ)) → IsCleanLine ws → Lacks line_end (joined ws)
unfolding joined
joined_lacks [] h = absurd h
joined_lacks (w ∷ []) h = clean_lacks line_end w (omega arith) h.0
joined_lacks (w ∷ v ∷ ws) h = all_append _ w _ (clean_lacks line_end w (omega arith) h.0) (refl, joined_lacks (v ∷ ws) h.1)

pub lines-printed : (lss : List (List (List ℕ))) → AllByRecursion IsCleanLine lss → parts line_end (flat_map line lss) ≡ map joined lss ++ [] ∷ []
lines-printed [] h = refl
lines-printed (ws ∷ lss) h =
    ap (parts line_end) (append_assoc (joined ws) (line_end ∷ []) (flat_map line lss))
    ∙ parts-append line_end (joined ws) (flat_map line lss) refl (joined_lacks ws h.0)
    ∙ ap (λ ls. joined ws ∷ ls) (lines-printed lss h.1)

-- no word of the line is empty
abbrev pub HasBytes : List ℕ → Type 0
HasBytes w = is_word w ≡ true

words_kept : (ws : List (List ℕ)) → AllByRecursion HasBytes ws → filter is_word ws ≡ ws
words_kept [] h = refl
words_kept (w ∷ ws) h = rw h.0 (ap (λ vs. w ∷ vs) (words_kept ws h.1))

-- a printed line has the words that it was printed from
pub words_of-joined : (ws : List (List ℕ)) → IsCleanLine ws → AllByRecursion HasBytes ws → words_of (joined ws) ≡ ws
words_of-joined ws clean some = ap (λ vs. filter is_word vs) (words-joined ws clean) ∙ words_kept ws some

pub all_map : {X Y : Type 0} (P : Y → Type 0) (Q : X → Type 0) (f : X → Y) → ((x : X) → Q x → P (f x)) → (xs : List X) → AllByRecursion Q xs → AllByRecursion P (map f xs)
all_map P Q f each [] h = tt
all_map P Q f each (x ∷ xs) h = (each x h.0, all_map P Q f each xs h.1)

pub all_flat_map : {X Y : Type 0} (P : Y → Type 0) (Q : X → Type 0) (f : X → List Y) → ((x : X) → Q x → AllByRecursion P (f x)) → (xs : List X) → AllByRecursion Q xs → AllByRecursion P (flat_map f xs)
all_flat_map P Q f each [] h = tt
all_flat_map P Q f each (x ∷ xs) h = all_append P (f x) (flat_map f xs) (each x h.0) (all_flat_map P Q f each xs h.1)

-- a line's words are its first word and those that follow it
pub joined_first : (w : List ℕ) (ws : List (List ℕ)) → joined (w ∷ ws) ≡ w ++ followed ws
unfolding joined
joined_first w [] = sym (append-nil w)
joined_first w (v ∷ ws) = ap (λ rest. w ++ 32 ∷ rest) (joined_first v ws)

-- a line that is printed word by word
pub line_printed : (out w : List ℕ) (ws : List (List ℕ)) → out ++ w ++ followed ws ++ 10 ∷ [] ≡ out ++ line (w ∷ ws)
line_printed out w ws = rw (joined_first w ws) (search (rules, append_assoc))
