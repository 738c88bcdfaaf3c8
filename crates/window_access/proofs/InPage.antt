-- The bytes of one page of the window.
use Rattle.std.proofs.Common.{◌≡◌, ◌∙◌, ap, subst, refl, ℕ, ◌+◌, ◌-◌, ◌*◌, ◌/◌, ◌%◌, ◌<◌, ◌≤◌, ◌⊎◌, inl, inr, suc, Bool, true, false, nat_le, nat_lt, length, Option, Some, None, arith, if◌then◌else◌}
use Rattle.std.proofs.lemmas.Bool.{le-leb, lt-leb}
use Rattle.std.proofs.lemmas.Bool.Decides.{leb_tells}
use Rattle.std.proofs.lemmas.Grind.{common_steps}
use Rattle.std.specs.Option.{option_map, unwrap_or}
use Rattle.page_map.specs.Board.{MapView, NamesFiles, mapped_at, mapped_byte, byte_behind}
use Rattle.page_map.specs.Logs.{is_writable}
use Rattle.page_map.specs.declared.pages.Mode.TheVariants as modes
use Rattle.page_map.specs.declared.pages.Page.{Page}
use Rattle.plain_file.specs.Board.{BoardView, size_of}
use Rattle.window_access.specs.Access.{fails, file_of, first_failing, is_against}
use Rattle.window_access.specs.declared.refusals.Cause.{Cause}
use Rattle.window_access.specs.declared.refusals.Cause.TheVariants as causes
use Rattle.window_access.proofs.Finding.{find_none, find_first}

behind_more : (o : Option Page) (a k : ℕ) → option_map (λ p. byte_behind p (a + k)) o ≡ option_map (λ p. byte_behind p k) (option_map (λ p. byte_behind p a) o)
behind_more None a k = refl
behind_more (Some p) a k =
    let e : p.foffset + (a + k) ≡ p.foffset + a + k = omega arith in
    ap (λ (n : ℕ). Some (record p { foffset = n })) e

-- a byte of the same page lies as far behind in the file as in the window
pub mapped_byte_behind : (map : MapView) (at k : ℕ) → at % 4096 + k < 4096 → mapped_byte map (at + k) ≡ option_map (λ p. byte_behind p k) (mapped_byte map at)
mapped_byte_behind map at k less =
    let page : (at + k) / 4096 ≡ at / 4096 = omega arith in
    let rest : (at + k) % 4096 ≡ at % 4096 + k = omega arith in
    ap (λ (i : ℕ). option_map (λ p. byte_behind p ((at + k) % 4096)) (mapped_at map i)) page
    ∙ ap (λ (i : ℕ). option_map (λ p. byte_behind p i) (mapped_at map (at / 4096))) rest
    ∙ behind_more (mapped_at map (at / 4096)) (at % 4096) k

-- whether a byte of the page fails
fails_behind : (v : BoardView) (map : MapView) (cause : Cause) (at n : ℕ) (o : Option Page) → mapped_byte map at ≡ o → at % 4096 + n ≤ 4096 → (k : ℕ) → k < n → fails v map cause (at + k) ≡ is_against v cause (option_map (λ p. byte_behind p k) o)
fails_behind v map cause at n o e page k less =
    ap (is_against v cause) (mapped_byte_behind map at k (omega arith) ∙ ap (option_map (λ p. byte_behind p k)) e)

-- none of the page's bytes fails
pub none_in_page : (v : BoardView) (map : MapView) (cause : Cause) (at n : ℕ) (o : Option Page) → mapped_byte map at ≡ o → at % 4096 + n ≤ 4096 → ((k : ℕ) → k < n → is_against v cause (option_map (λ p. byte_behind p k) o) ≡ false) → first_failing v map cause at n ≡ None
none_in_page v map cause at n o e page h =
    find_none (fails v map cause) at n (λ k less. fails_behind v map cause at n o e page k less ∙ h k less)

-- the one that lies so far behind fails first
pub first_in_page : (v : BoardView) (map : MapView) (cause : Cause) (at n j : ℕ) (o : Option Page) → mapped_byte map at ≡ o → at % 4096 + n ≤ 4096 → j < n →
    ((k : ℕ) → k < j → is_against v cause (option_map (λ p. byte_behind p k) o) ≡ false) → is_against v cause (option_map (λ p. byte_behind p j) o) ≡ true → first_failing v map cause at n ≡ Some (at + j)
first_in_page v map cause at n j o e page within before here =
    find_first (fails v map cause) at n j within (λ k less. fails_behind v map cause at n o e page k (omega arith) ∙ before k less) (fails_behind v map cause at n o e page j within ∙ here)

plus_none : (at : ℕ) → Some (at + 0) ≡ Some at
plus_none at = let e : at + 0 ≡ at = omega arith in ap (λ (n : ℕ). Some n) e

-- an unmapped page
pub unmapped_page : (v : BoardView) (map : MapView) (at n : ℕ) → mapped_byte map at ≡ None → at % 4096 + n ≤ 4096 → 0 < n → first_failing v map causes.Unmapped at n ≡ Some at
unfolding is_against
unmapped_page v map at n e page some =
    first_in_page v map causes.Unmapped at n 0 None e page some (λ k less. absurd (omega arith)) refl ∙ plus_none at

-- no byte of it fails for another cause
pub unmapped_other : (v : BoardView) (map : MapView) (cause : Cause) (at n : ℕ) → mapped_byte map at ≡ None → at % 4096 + n ≤ 4096 → (cause ≡ causes.ReadOnly) ⊎ (cause ≡ causes.PastEnd) → first_failing v map cause at n ≡ None
unfolding is_against
unmapped_other v map cause at n e page (inl h) = rw h (none_in_page v map causes.ReadOnly at n None e page (λ k less. refl))
unmapped_other v map cause at n e page (inr h) = rw h (none_in_page v map causes.PastEnd at n None e page (λ k less. refl))

-- a mapped page
pub mapped_page : (v : BoardView) (map : MapView) (at n : ℕ) (p : Page) → mapped_byte map at ≡ Some p → at % 4096 + n ≤ 4096 → first_failing v map causes.Unmapped at n ≡ None
unfolding is_against
mapped_page v map at n p e page = none_in_page v map causes.Unmapped at n (Some p) e page (λ k less. refl)

pub read_only_page : (v : BoardView) (map : MapView) (at n : ℕ) (p : Page) → mapped_byte map at ≡ Some p → p.mode ≡ modes.R → at % 4096 + n ≤ 4096 → 0 < n → first_failing v map causes.ReadOnly at n ≡ Some at
unfolding is_against is_writable
read_only_page v map at n p e mode page some =
    first_in_page v map causes.ReadOnly at n 0 (Some p) e page some (λ k less. absurd (omega arith)) (rw mode refl) ∙ plus_none at

pub writable_page : (v : BoardView) (map : MapView) (at n : ℕ) (p : Page) → mapped_byte map at ≡ Some p → p.mode ≡ modes.W → at % 4096 + n ≤ 4096 → first_failing v map causes.ReadOnly at n ≡ None
unfolding is_against is_writable
writable_page v map at n p e mode page = none_in_page v map causes.ReadOnly at n (Some p) e page (λ k less. rw mode refl)

-- where a page passes the end of its file
past_by : (v : BoardView) (map : MapView) (at n : ℕ) (p : Page) (b c : Bool) → mapped_byte map at ≡ Some p → at % 4096 + n ≤ 4096 → 0 < n →
    ((b ≡ true) × (size_of (file_of v p) ≤ p.foffset)) ⊎ ((b ≡ false) × (p.foffset < size_of (file_of v p))) →
    ((c ≡ true) × (suc (size_of (file_of v p) - p.foffset) ≤ n)) ⊎ ((c ≡ false) × (n < suc (size_of (file_of v p) - p.foffset))) →
    first_failing v map causes.PastEnd at n ≡ (if b then Some at else if c then Some (at + (size_of (file_of v p) - p.foffset)) else None)
unfolding is_against
past_by v map at n p b c e page some (inl (bt, le)) h =
    rw bt (first_in_page v map causes.PastEnd at n 0 (Some p) e page some (λ k less. absurd (omega arith)) (le-leb _ _ (omega (arith, le))) ∙ plus_none at)
past_by v map at n p b c e page some (inr (bf, lt)) (inl (ct, le)) =
    rw (bf, ct) (first_in_page v map causes.PastEnd at n (size_of (file_of v p) - p.foffset) (Some p) e page (omega (arith, le)) (λ k less. lt-leb _ _ (omega (arith, less, lt))) (le-leb _ _ (omega (arith, lt))))
past_by v map at n p b c e page some (inr (bf, lt)) (inr (cf, ge)) =
    rw (bf, cf) (none_in_page v map causes.PastEnd at n (Some p) e page (λ k less. lt-leb _ _ (omega (arith, less, lt, ge))))

pub past_page : (v : BoardView) (map : MapView) (at n : ℕ) (p : Page) → mapped_byte map at ≡ Some p → at % 4096 + n ≤ 4096 → 0 < n →
    first_failing v map causes.PastEnd at n ≡ (if nat_le (size_of (file_of v p)) p.foffset then Some at else if nat_lt (size_of (file_of v p) - p.foffset) n then Some (at + (size_of (file_of v p) - p.foffset)) else None)
past_page v map at n p e page some =
    past_by v map at n p _ _ e page some (leb_tells (size_of (file_of v p)) p.foffset) (leb_tells (suc (size_of (file_of v p) - p.foffset)) n)

named_in : (count : ℕ) (o : Option Page) (p : Page) (b : ℕ) → ((q : Page) → o ≡ Some q → (2 ≤ q.node) × (q.node - 2 < count)) → option_map (λ q. byte_behind q b) o ≡ Some p → (2 ≤ p.node) × (p.node - 2 < count)
named_in count None p b h e = absurd cc
named_in count (Some q) p b h e =
    let same : q.node ≡ p.node = ap (λ (o : Option Page). (unwrap_or o q).node) e in
    subst (λ (n : ℕ). (2 ≤ n) × (n - 2 < count)) same (h q refl)

-- what a byte is mapped to is of a file that there is
pub named_byte : (count : ℕ) (map : MapView) (at : ℕ) (p : Page) → NamesFiles count map → mapped_byte map at ≡ Some p → (2 ≤ p.node) × (p.node - 2 < count)
named_byte count map at p names e = named_in count (mapped_at map (at / 4096)) p (at % 4096) (names (at / 4096)) e

-- past the window nothing is mapped
pub past_window : (v : BoardView) (map : MapView) (at : ℕ) → 4096 * length map.table ≤ at → fails v map causes.Unmapped at ≡ true
unfolding is_against
past_window v map at past =
    let behind : length map.table ≤ at / 4096 = omega (arith, past) in
    let none : mapped_byte map at ≡ None = grind (arith, common_steps, behind) in
    ap (is_against v causes.Unmapped) none
