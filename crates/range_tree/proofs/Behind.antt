-- Whether a placement is live, by where its range is removed and upgraded next.
use Rattle.std.proofs.Common.{◌≡◌, ◌∙◌, ap, sym, refl, subst, ℕ, zero, suc, ◌+◌, ◌-◌, ◌<◌, ◌≤◌, not, Bool, true, false, ltb, leb, List, [], ◌∷◌, length, take, drop, get_or, slice_set, unwrap_or, if◌then◌else◌, Option, Some, inl, inr, arith}
use Rattle.std.proofs.lemmas.Bool.{cases_Bool, lt-ltb, le-ltb}
use Rattle.std.proofs.lemmas.List.{drop-take, drop-set, length-drop}
use Rattle.std.specs.List.{list_any}
use Rattle.page_map.specs.declared.ranges.LogEntry.{LogEntry}
use Rattle.page_map.specs.declared.ranges.LogEntry.TheVariants as entries
use Rattle.page_map.specs.Logs.{removes, upgrades, stays, is_written, places}
use Rattle.range_tree.specs.Logs.{lasts, is_live}
use Rattle.range_tree.specs.Behind.{range_of, ended, is_number, ends, next_from, behind, lasts_till}
use Rattle.range_tree.proofs.Live.{live_lasts}

-- ---- the next place

from_n : (test : LogEntry → Bool) (n : ℕ) (es : List LogEntry) → n ≤ next_from test n es
unfolding next_from
from_n test n [] = omega arith
from_n test n (e ∷ es) = elim (cases_Bool (test e)) [
  | inl hit ↦ rw hit (omega arith)
  | inr miss ↦ rw miss (omega (arith, from_n test (n + 1) es))
]

-- one of the first few passes exactly where the first that passes is among them
any_below : (test : LogEntry → Bool) (n j : ℕ) (es : List LogEntry) → j ≤ length es → list_any test (take j es) ≡ ltb (next_from test n es) (n + j)
unfolding next_from
any_below test n zero [] few = sym (le-ltb n (n + 0) (omega arith))
any_below test n (suc j) [] few = absurd (omega arith)
any_below test n zero (e ∷ es) few = sym (le-ltb (next_from test n (e ∷ es)) (n + 0) (omega (arith, from_n test n (e ∷ es))))
any_below test n (suc j) (e ∷ es) few = elim (cases_Bool (test e)) [
  | inl hit ↦ rw hit (sym (lt-ltb n (n + suc j) (omega arith)))
  | inr miss ↦ let more : n + 1 + j ≡ n + suc j = omega arith in rw miss (any_below test (n + 1) j es (omega arith) ∙ ap (λ m. ltb (next_from test (n + 1) es) m) more)
]

-- the same of the entries from one place of a log to another
between_below : (test : LogEntry → Bool) (log : List LogEntry) (k m : ℕ) → k < m → m ≤ length log → list_any test (drop (k + 1) (take m log)) ≡ ltb (next_from test (k + 1) (drop (k + 1) log)) m
between_below test log k m low few =
    let j = m - (k + 1) in
    let split : m ≡ k + 1 + j = omega arith in
    let many : j ≤ length (drop (k + 1) log) = omega (arith, length-drop (k + 1) log) in
    ap (λ i. list_any test (drop (k + 1) (take i log))) split ∙ ap (list_any test) (drop-take (k + 1) j log) ∙ any_below test (k + 1) j (drop (k + 1) log) many ∙ ap (λ i. ltb (next_from test (k + 1) (drop (k + 1) log)) i) (sym split)

-- ---- the table

pub behind_length : (up : Bool) (n : ℕ) (log : List LogEntry) → length (behind up n log) ≡ length log
unfolding behind
behind_length up n [] = refl
behind_length up n (e ∷ es) = ap suc (behind_length up (n + 1) es)

behind_at : (up : Bool) (n k : ℕ) (log : List LogEntry) (d : LogEntry) (z : ℕ) → k < length log → get_or (behind up n log) k z ≡ next_from (ends up (range_of (get_or log k d))) (n + k + 1) (drop (k + 1) log)
unfolding behind
behind_at up n k [] d z low = absurd (omega arith)
behind_at up n zero (e ∷ es) d z low = let same : n + 1 ≡ n + 0 + 1 = omega arith in ap (λ m. next_from (ends up (range_of e)) m es) same
behind_at up n (suc k) (e ∷ es) d z low =
    let same : n + 1 + k + 1 ≡ n + suc k + 1 = omega arith in
    let next : suc k + 1 ≡ suc (k + 1) = omega arith in
    rw next (behind_at up (n + 1) k es d z (omega arith) ∙ ap (λ m. next_from (ends up (range_of (get_or es k d))) m (drop (k + 1) es)) same)

abbrev drops : List LogEntry → ℕ → LogEntry → Type 0
drops log i e = drop i log ≡ e ∷ drop (i + 1) log

drop_one : (log : List LogEntry) (i : ℕ) (d : LogEntry) → i < length log → drops log i (get_or log i d)
drop_one [] i d low = absurd (omega arith)
drop_one (e ∷ es) zero d low = refl
drop_one (e ∷ es) (suc i) d low = let next : suc i + 1 ≡ suc (i + 1) = omega arith in rw next (drop_one es i d (omega arith))

-- one place more, from the log's end on
pub behind_more : (up : Bool) (log : List LogEntry) (places : List ℕ) (at i v : ℕ) (d : LogEntry) → at ≡ i + 1 → i < length log → length places ≡ length log → drop at places ≡ behind up at (drop at log) →
    v ≡ next_from (ends up (range_of (get_or log i d))) at (drop at log) → drop i (slice_set places i v) ≡ behind up i (drop i log)
unfolding behind
behind_more up log places at i v d is low many so next =
    let shorter : drop (i + 1) places ≡ behind up (i + 1) (drop (i + 1) log) = subst (λ n. drop n places ≡ behind up n (drop n log)) is so in
    let there : v ≡ next_from (ends up (range_of (get_or log i d))) (i + 1) (drop (i + 1) log) = subst (λ n. v ≡ next_from (ends up (range_of (get_or log i d))) n (drop n log)) is next in
    drop-set places i v (omega (arith, many)) ∙ ap (λ xs. v ∷ xs) shorter ∙ ap (λ n. n ∷ behind up (i + 1) (drop (i + 1) log)) there ∙ ap (behind up i) (sym (drop_one log i d low))

-- the next places of all ranges, with one entry more
pub next_more : (up : Bool) (log : List LogEntry) (at i q : ℕ) (d : LogEntry) (old new : Option ℕ) → at ≡ i + 1 → i < length log →
    unwrap_or old (length log) ≡ next_from (ends up q) at (drop at log) → new ≡ (if is_number q (ended up (get_or log i d)) then Some i else old) → unwrap_or new (length log) ≡ next_from (ends up q) i (drop i log)
unfolding next_from
next_more up log at i q d old new is low known so =
    let e = get_or log i d in
    let before : unwrap_or old (length log) ≡ next_from (ends up q) (i + 1) (drop (i + 1) log) = subst (λ n. unwrap_or old (length log) ≡ next_from (ends up q) n (drop n log)) is known in
    let all : next_from (ends up q) i (drop i log) ≡ (if ends up q e then i else next_from (ends up q) (i + 1) (drop (i + 1) log)) = ap (next_from (ends up q) i) (drop_one log i d low) in
    elim (cases_Bool (ends up q e)) [
      | inl hit ↦ rw (so, all, hit) refl
      | inr miss ↦ rw (so, all, miss) before
    ]

-- ---- live placements

same_removes : (r : ℕ) (e : LogEntry) → removes r e ≡ ends false r e
unfolding removes ended
same_removes r (entries.Place c q m) = refl
same_removes r (entries.Upgrade q) = refl
same_removes r (entries.Remove q) = refl

same_upgrades : (r : ℕ) (e : LogEntry) → upgrades r e ≡ ends true r e
unfolding upgrades ended
same_upgrades r (entries.Place c q m) = refl
same_upgrades r (entries.Upgrade q) = refl
same_upgrades r (entries.Remove q) = refl

any_same : (p q : LogEntry → Bool) → ((e : LogEntry) → p e ≡ q e) → (es : List LogEntry) → list_any p es ≡ list_any q es
any_same p q same [] = refl
any_same p q same (e ∷ es) = rw (same e, any_same p q same es) refl

not_below : (a b : ℕ) → not (ltb a b) ≡ leb b a
not_below a b = grind (arith)

lasts_by : (write : Bool) (e : LogEntry) (chunk upto removed upgraded : ℕ) (later : List LogEntry) → list_any (ends false (range_of e)) later ≡ ltb removed upto → list_any (ends true (range_of e)) later ≡ ltb upgraded upto →
    lasts write e chunk later ≡ lasts_till write e chunk upto removed upgraded
unfolding lasts_till stays is_written places range_of
lasts_by write (entries.Place c r m) chunk upto removed upgraded later gone raised =
    rw (any_same (removes r) (ends false r) (same_removes r) later ∙ gone, any_same (upgrades r) (ends true r) (same_upgrades r) later ∙ raised, not_below removed upto) refl
lasts_by write (entries.Upgrade r) chunk upto removed upgraded later gone raised = refl
lasts_by write (entries.Remove r) chunk upto removed upgraded later gone raised = refl

pub live_by : (write : Bool) (log : List LogEntry) (chunk k m : ℕ) (d : LogEntry) (removed upgraded : List ℕ) (y z : ℕ) → k < m → m ≤ length log → removed ≡ behind false 0 log → upgraded ≡ behind true 0 log →
    lasts_till write (get_or log k d) chunk m (get_or removed k y) (get_or upgraded k z) ≡ is_live write log chunk k m
live_by write log chunk k m d removed upgraded y z low few gone raised =
    let e = get_or log k d in
    let within : k < length log = omega arith in
    let zero_in : 0 + k + 1 ≡ k + 1 = omega arith in
    let here = λ (up : Bool) (x : ℕ). behind_at up 0 k log d x within ∙ ap (λ n. next_from (ends up (range_of e)) n (drop (k + 1) log)) zero_in in
    let first : get_or removed k y ≡ next_from (ends false (range_of e)) (k + 1) (drop (k + 1) log) = ap (λ xs. get_or xs k y) gone ∙ here false y in
    let second : get_or upgraded k z ≡ next_from (ends true (range_of e)) (k + 1) (drop (k + 1) log) = ap (λ xs. get_or xs k z) raised ∙ here true z in
    let later = drop (k + 1) (take m log) in
    rw (first, second) (sym (live_lasts write log chunk k m d low few
    ∙ lasts_by write e chunk m _ _ later (between_below (ends false (range_of e)) log k m low few) (between_below (ends true (range_of e)) log k m low few)))
