-- What a word is read as keeps the limits of scripts.
use Rattle.std.proofs.Common.{◌≡◌, refl, ℕ, ◌+◌, ◌*◌, ◌<◌, ◌≤◌, ◌-◌, ◌&&◌, ◌==◌, not, Bool, true, false, nat_lt, nat_le, List, [], ◌∷◌, length, slice_get, Option, Some, None, IfSome, Result, Ok, Err, if◌then◌else◌, arith, tests}
use Rattle.std.proofs.lemmas.Bool.{and_parts}
use Rattle.std.specs.Result.{IfOk}
use Rattle.std.specs.List.{list_any, position_from}
use Rattle.plain_file.specs.File.{max_file}
use Rattle.plain_file.specs.Limits.{max_transfer}
use Rattle.plain_text.specs.Options.{◌>>=◌}
use Rattle.plain_text.specs.Hexadecimal.{hex_digit, hex_pair, hex_pairs, hex_of, hex_byte_of}
use Rattle.page_map.specs.declared.pages.Mode.{Mode}
use Rattle.dax_script.specs.declared.scripts.FileLine.{FileLine}
use Rattle.dax_script.specs.declared.whys.Why.{Why}
use Rattle.dax_script.specs.Asks.{chunk_size}
use Rattle.dax_script.specs.Steps.{◌then◌, or_why, where_holds}
use Rattle.dax_script.specs.ScriptWords.{number, between, in_file, in_chunk, is_ranges, ranges_number, is_script_name, is_called, new_name, file_named, byte, hex, hold, is_writing, writing_hold}
use Rattle.dax_script.specs.Fits.{are_bytes}

-- ---- steps

pub any_value : {A : Type 0} (r : Result A Why) → IfOk r (λ _. Unit {0})
any_value (Ok x) = tt
any_value (Err why) = tt

pub then_yields : {A B : Type 0} (Q : A → Type 0) (P : B → Type 0) (r : Result A Why) (f : A → Result B Why) → IfOk r Q → ((x : A) → Q x → IfOk (f x) P) → IfOk (r then f) P
then_yields Q P (Ok x) f h k = k x h
then_yields Q P (Err why) f h k = tt

pub where_yields : {A : Type 0} (P : A → Type 0) (t : Bool) (why : Why) (x : A) → (t ≡ true → P x) → IfOk (where_holds t why x) P
where_yields P true why x h = h refl
where_yields P false why x h = tt

pub or_yields : {A : Type 0} (P : A → Type 0) (why : Why) (o : Option A) → IfSome o P → IfOk (or_why why o) P
or_yields P why None h = tt
or_yields P why (Some x) h = h

pub if_yields : {A : Type 0} (P : A → Type 0) (t : Bool) (r s : Result A Why) → IfOk r P → IfOk s P → IfOk (if t then r else s) P
if_yields P true r s h k = h
if_yields P false r s h k = k

-- ---- numbers

pub between_yields : (low high : ℕ) (word : List ℕ) → IfOk (between low high word) (λ n. (nat_le low n ≡ true) × (nat_le n high ≡ true))
unfolding between
between_yields low high word =
    then_yields (λ _. Unit {0}) _ (number word) _ (any_value (number word))
    (λ n _. where_yields _ (nat_le low n && nat_le n high) _ n (and_parts (nat_le low n) (nat_le n high)))

pub in_file_yields : (off len : ℕ) → IfOk (in_file off len) (λ at. nat_le (at + len) max_file ≡ true)
unfolding in_file
in_file_yields off len = where_yields _ (nat_le (off + len) max_file) _ off (λ e. e)

pub in_chunk_yields : (off len : ℕ) → IfOk (in_chunk off len) (λ at. nat_le (at + len) chunk_size ≡ true)
unfolding in_chunk
in_chunk_yields off len = where_yields _ (nat_le (off + len) chunk_size) _ off (λ e. e)

pub ranges_number_yields : (word : List ℕ) → IfOk (ranges_number word) (λ n. is_ranges n ≡ true)
unfolding ranges_number
ranges_number_yields word =
    then_yields (λ _. Unit {0}) _ (number word) _ (any_value (number word)) (λ n _. where_yields _ (is_ranges n) _ n (λ e. e))

-- ---- names and holds

pub new_name_yields : (files : List FileLine) (word : List ℕ) → IfOk (new_name files word) (λ name. (is_script_name name ≡ true) × (not (list_any (is_called name) files) ≡ true))
unfolding new_name
new_name_yields files word = where_yields _ (is_script_name word && not (list_any (is_called word) files)) _ word (and_parts (is_script_name word) (not (list_any (is_called word) files)))

some_weaker : {A : Type 0} (P Q : A → Type 0) (o : Option A) → ((x : A) → P x → Q x) → IfSome o P → IfSome o Q
some_weaker P Q None h k = tt
some_weaker P Q (Some x) h k = h x k

found_within : (t : FileLine → Bool) (n : ℕ) (files : List FileLine) → IfSome (position_from t n files) (λ i. i < n + length files)
found_within t n [] = tt
found_within t n (f ∷ files) = elim (t f) as (λ b. IfSome (if b then Some n else position_from t (n + 1) files) (λ i. i < n + length (f ∷ files))) [
  | true ↦ omega arith
  | false ↦ some_weaker (λ i. i < n + 1 + length files) (λ i. i < n + length (f ∷ files)) (position_from t (n + 1) files) (λ i h. omega (arith, h)) (found_within t (n + 1) files)
]

is_lt : (a b : ℕ) → a < b → nat_lt a b ≡ true
is_lt a b h = grind (arith, tests)

pub file_yields : (files : List FileLine) (word : List ℕ) → IfOk (file_named files word) (λ i. nat_lt i (length files) ≡ true)
unfolding file_named
file_yields files word =
    or_yields _ _ (position_from (is_called word) 0 files)
    (some_weaker (λ i. i < 0 + length files) _ (position_from (is_called word) 0 files) (λ i h. is_lt i (length files) (omega (arith, h))) (found_within (is_called word) 0 files))

pub hold_yields : (held : List Mode) (word : List ℕ) → IfOk (hold held word) (λ h. nat_lt h (length held) ≡ true)
unfolding hold
hold_yields held word = then_yields (λ _. Unit {0}) _ (number word) _ (any_value (number word)) (λ n _. where_yields _ (nat_lt n (length held)) _ n (λ e. e))

pub writing_hold_yields : (held : List Mode) (word : List ℕ) → IfOk (writing_hold held word) (λ h. is_writing (slice_get held h) ≡ true)
unfolding writing_hold
writing_hold_yields held word = then_yields (λ _. Unit {0}) _ (number word) _ (any_value (number word)) (λ n _. where_yields _ (is_writing (slice_get held n)) _ n (λ e. e))

-- ---- bytes

pub bind_yields : {A B : Type 0} (Q : A → Type 0) (P : B → Type 0) (o : Option A) (f : A → Option B) → IfSome o Q → ((x : A) → Q x → IfSome (f x) P) → IfSome (o >>= f) P
bind_yields Q P None f h k = tt
bind_yields Q P (Some x) f h k = k x h

pub if_some : {A : Type 0} (P : A → Type 0) (t : Bool) (o p : Option A) → (t ≡ true → IfSome o P) → IfSome p P → IfSome (if t then o else p) P
if_some P true o p h k = h refl
if_some P false o p h k = k

digit_small : (low high less : ℕ) (c : ℕ) → high ≤ less + 15 → nat_le low c && nat_le c high ≡ true → c - less < 16
digit_small low high less c h e = let within : c ≤ high = grind (arith, tests, (and_parts (nat_le low c) (nat_le c high) e).1) in omega (arith, within, h)

digit_yields : (c : ℕ) → IfSome (hex_digit c) (λ h. h < 16)
digit_yields c =
    if_some _ (nat_le 48 c && nat_le c 57) _ _ (digit_small 48 57 48 c (omega arith))
    (if_some _ (nat_le 97 c && nat_le c 102) _ _ (digit_small 97 102 87 c (omega arith)) tt)

pair_yields : (high low : ℕ) → IfSome (hex_pair high low) (λ b. nat_lt b 256 ≡ true)
pair_yields high low =
    bind_yields (λ h. h < 16) _ (hex_digit high) _ (digit_yields high)
    (λ h small. bind_yields (λ l. l < 16) _ (hex_digit low) _ (digit_yields low) (λ l less. is_lt (h * 16 + l) 256 (omega (arith, small, less))))

pub byte_yields : (word : List ℕ) → IfOk (byte word) (λ b. nat_lt b 256 ≡ true)
unfolding byte hex_byte_of
byte_yields [] = tt
byte_yields (a ∷ []) = tt
byte_yields (a ∷ b ∷ []) = or_yields _ _ (hex_pair a b) (pair_yields a b)
byte_yields (a ∷ b ∷ c ∷ word) = tt

pub pairs_yield : (word : List ℕ) → IfSome (hex_pairs word) (λ bytes. are_bytes bytes ≡ true)
unfolding hex_pairs
pairs_yield [] = refl
pairs_yield (a ∷ []) = tt
pairs_yield (a ∷ b ∷ word) =
    bind_yields (λ x. nat_lt x 256 ≡ true) _ (hex_pair a b) _ (pair_yields a b)
    (λ x small. bind_yields (λ bytes. are_bytes bytes ≡ true) _ (hex_pairs word) _ (pairs_yield word) (λ bytes e. rw (small, e) refl))

-- bytes that a call may write
pub record AreMoved (bytes : List ℕ) : Type 0 where
  pub some : nat_le 1 (length bytes) ≡ true
  pub few : nat_le (length bytes) max_transfer ≡ true
  pub small : are_bytes bytes ≡ true

has_one : (b : ℕ) (bytes : List ℕ) → nat_le 1 (length (b ∷ bytes)) ≡ true
has_one b bytes = let h : 1 ≤ length (b ∷ bytes) = omega arith in grind (arith, tests, h)

abbrev AreSome : List ℕ → Type 0
AreSome bytes = (nat_le 1 (length bytes) ≡ true) × (are_bytes bytes ≡ true)

word_yields : (word : List ℕ) → IfSome (hex_of word) AreSome
unfolding hex_of hex_pairs
word_yields [] = tt
word_yields (a ∷ []) = if_some AreSome (length (a ∷ []) == 0) None None (λ _. tt) tt
word_yields (a ∷ b ∷ word) =
    if_some _ (length (a ∷ b ∷ word) == 0) None _ (λ _. tt)
    (bind_yields (λ x. nat_lt x 256 ≡ true) _ (hex_pair a b) _ (pair_yields a b)
    (λ x small. bind_yields (λ bytes. are_bytes bytes ≡ true) _ (hex_pairs word) _ (pairs_yield word) (λ bytes e. (has_one x bytes, rw (small, e) refl))))

pub hex_yields : (word : List ℕ) → IfOk (hex word) AreMoved
unfolding hex
hex_yields word =
    then_yields AreSome _ (or_why _ (hex_of word)) _ (or_yields _ _ (hex_of word) (word_yields word))
    (λ bytes h. where_yields _ (nat_le (length bytes) max_transfer) _ bytes (λ e. record { some = h.0; few = e; small = h.1 }))
