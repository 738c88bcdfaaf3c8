-- What the bytes read so far begin with is what all bytes begin with.
use Rattle.std.proofs.Common.{◌≡◌, ◌∙◌, ap, sym, refl, ℕ, zero, suc, ◌+◌, ◌*◌, ◌≤◌, Bool, true, false, true≢false, nat_lt, List, [], ◌∷◌, ◌++◌, length, take, drop, arith, length-drop, if◌then◌else◌, ◌==◌, ◌||◌, sum}
use Rattle.std.proofs.lemmas.Grind.{common_steps}
use Rattle.std.proofs.lemmas.List.{take-append-le, drop-append-le}
use Rattle.std.specs.Int.{w16, w32, w64, from_le_bytes}
use Rattle.chain_stream.specs.declared.frames.Lead.{Lead}
use Rattle.chain_stream.specs.declared.frames.Lead.TheVariants as leads
use Rattle.fuse_wire.specs.Records.{u16_at, u32_at, u64_at}
use Rattle.chain_stream.specs.declared.frames.Reason.TheVariants as reasons
use Rattle.chain_stream.specs.Frames.{lead, load_lead, store_lead, chain_lead, chain_with, chain_parts, load_with, store_with, lengths_at, is_decided}
use Rattle.chain_stream.proofs.Sums.{sum_more}

part_append : (n at : ℕ) (a b : List ℕ) → at + n ≤ length a → take n (drop at (a ++ b)) ≡ take n (drop at a)
part_append n at a b h =
    ap (take n) (drop-append-le at a b (omega (arith, h))) ∙ take-append-le n (drop at a) b (rw (length-drop at a) (omega (arith, h)))

-- a test of the length and what follows it, on a front of the bytes and on all of them
cut_or : (p q : Bool) (y z : Lead) → (p ≡ false → q ≡ false) → (p ≡ false → is_decided y ≡ true → z ≡ y) → is_decided (if p then leads.Cut else y) ≡ true → (if q then leads.Cut else z) ≡ (if p then leads.Cut else y)
unfolding is_decided
cut_or true q y z pq e h = absurd (true≢false (sym h))
cut_or false true y z pq e h = absurd (true≢false (pq refl))
cut_or false false y z pq e h = e refl h

bad_or : (p : Bool) (y z : Lead) → (is_decided y ≡ true → z ≡ y) → is_decided (if p then leads.Bad reasons.Bound else y) ≡ true → (if p then leads.Bad reasons.Bound else z) ≡ (if p then leads.Bad reasons.Bound else y)
bad_or true y z e h = refl
bad_or false y z e h = e h

longer : (n k m : ℕ) → k ≤ m → nat_lt k n ≡ false → nat_lt m n ≡ false
longer n k m le h = grind (arith, common_steps, h, le)

reached : (n k : ℕ) → nat_lt k n ≡ false → n ≤ k
reached n k h = grind (arith, common_steps, h)

grows : (a b : List ℕ) → length a ≤ length (a ++ b)
grows a b = grind (arith, common_steps)

u16_append : (a b : List ℕ) (at : ℕ) → at + 2 ≤ length a → u16_at (a ++ b) at ≡ u16_at a at
u16_append a b at h = ap (from_le_bytes w16) (part_append 2 at a b h)

pub u32_append : (a b : List ℕ) (at : ℕ) → at + 4 ≤ length a → u32_at (a ++ b) at ≡ u32_at a at
u32_append a b at h = ap (from_le_bytes w32) (part_append 4 at a b h)

u64_append : (a b : List ℕ) (at : ℕ) → at + 8 ≤ length a → u64_at (a ++ b) at ≡ u64_at a at
u64_append a b at h = ap (from_le_bytes w64) (part_append 8 at a b h)

load_stable : (a b : List ℕ) → is_decided (load_lead a) ≡ true → load_lead (a ++ b) ≡ load_lead a
unfolding load_lead
load_stable a b = cut_or (nat_lt (length a) 13) (nat_lt (length (a ++ b)) 13) (load_with (u64_at a 1) (u32_at a 9)) (load_with (u64_at (a ++ b) 1) (u32_at (a ++ b) 9))
    (longer 13 (length a) (length (a ++ b)) (grows a b))
    λ p d. let long = reached 13 (length a) p in
    ap (λ m. load_with m (u32_at (a ++ b) 9)) (u64_append a b 1 (omega (arith, long))) ∙ ap (λ n. load_with (u64_at a 1) n) (u32_append a b 9 (omega (arith, long)))

store_with_stable : (n m moffset len : ℕ) → n ≤ m → is_decided (store_with n moffset len) ≡ true → store_with m moffset len ≡ store_with n moffset len
store_with_stable n m moffset len le =
    bad_or (nat_lt 1048576 len) (if nat_lt n (13 + len) then leads.Cut else leads.Store moffset len) (if nat_lt m (13 + len) then leads.Cut else leads.Store moffset len)
    (cut_or (nat_lt n (13 + len)) (nat_lt m (13 + len)) (leads.Store moffset len) (leads.Store moffset len) (longer (13 + len) n m le) (λ p d. refl))

store_stable : (a b : List ℕ) → is_decided (store_lead a) ≡ true → store_lead (a ++ b) ≡ store_lead a
unfolding store_lead
store_stable a b = cut_or (nat_lt (length a) 13) (nat_lt (length (a ++ b)) 13) (store_with (length a) (u64_at a 1) (u32_at a 9)) (store_with (length (a ++ b)) (u64_at (a ++ b) 1) (u32_at (a ++ b) 9))
    (longer 13 (length a) (length (a ++ b)) (grows a b))
    λ p d. let long = reached 13 (length a) p in
    ap (λ m. store_with (length (a ++ b)) m (u32_at (a ++ b) 9)) (u64_append a b 1 (omega (arith, long))) ∙ ap (λ n. store_with (length (a ++ b)) (u64_at a 1) n) (u32_append a b 9 (omega (arith, long)))
    ∙ store_with_stable (length a) (length (a ++ b)) (u64_at a 1) (u32_at a 9) (grows a b) d

sums_append : (a b : List ℕ) (first n : ℕ) → 5 + 4 * (first + n) ≤ length a → sum (lengths_at (a ++ b) first n) ≡ sum (lengths_at a first n)
sums_append a b first zero h = refl
sums_append a b first (suc n) h =
    let one : suc n ≡ n + 1 = omega arith in
    ap (λ k. sum (lengths_at (a ++ b) first k)) one ∙ sum_more (a ++ b) first n
    ∙ ap (λ t. t + u32_at (a ++ b) (5 + 4 * (first + n))) (sums_append a b first n (omega (arith, h)))
    ∙ ap (λ t. sum (lengths_at a first n) + t) (u32_append a b (5 + 4 * (first + n)) (omega (arith, h)))
    ∙ sym (ap (λ k. sum (lengths_at a first k)) one ∙ sum_more a first n)

chain_parts_stable : (n m parts readable room : ℕ) → n ≤ m → is_decided (chain_parts n parts readable room) ≡ true → chain_parts m parts readable room ≡ chain_parts n parts readable room
chain_parts_stable n m parts readable room le =
    let need = 5 + 4 * parts + readable in
    bad_or (nat_lt 1052672 readable || nat_lt 1052672 room) (if nat_lt n need then leads.Cut else leads.Chain parts readable room) (if nat_lt m need then leads.Cut else leads.Chain parts readable room)
    (cut_or (nat_lt n need) (nat_lt m need) (leads.Chain parts readable room) (leads.Chain parts readable room) (longer need n m le) (λ p d. refl))

chain_with_stable : (a b : List ℕ) (nr nw : ℕ) → is_decided (chain_with a nr nw) ≡ true → chain_with (a ++ b) nr nw ≡ chain_with a nr nw
unfolding chain_with
chain_with_stable a b nr nw =
    let from = 5 + 4 * (nr + nw) in
    let chain : List ℕ → Lead = λ l. chain_parts (length l) (nr + nw) (sum (lengths_at l 0 nr)) (sum (lengths_at l nr nw)) in
    bad_or (nat_lt 1024 nr || nat_lt 1024 nw) (if nat_lt (length a) from then leads.Cut else chain a) (if nat_lt (length (a ++ b)) from then leads.Cut else chain (a ++ b))
    (cut_or (nat_lt (length a) from) (nat_lt (length (a ++ b)) from) (chain a) (chain (a ++ b)) (longer from (length a) (length (a ++ b)) (grows a b))
    λ p d. let long = reached from (length a) p in
    ap (λ s. chain_parts (length (a ++ b)) (nr + nw) s (sum (lengths_at (a ++ b) nr nw))) (sums_append a b 0 nr (omega (arith, long)))
    ∙ ap (λ s. chain_parts (length (a ++ b)) (nr + nw) (sum (lengths_at a 0 nr)) s) (sums_append a b nr nw (omega (arith, long)))
    ∙ chain_parts_stable (length a) (length (a ++ b)) (nr + nw) (sum (lengths_at a 0 nr)) (sum (lengths_at a nr nw)) (grows a b) d)

chain_stable : (a b : List ℕ) → is_decided (chain_lead a) ≡ true → chain_lead (a ++ b) ≡ chain_lead a
unfolding chain_lead
chain_stable a b = cut_or (nat_lt (length a) 5) (nat_lt (length (a ++ b)) 5) (chain_with a (u16_at a 1) (u16_at a 3)) (chain_with (a ++ b) (u16_at (a ++ b) 1) (u16_at (a ++ b) 3))
    (longer 5 (length a) (length (a ++ b)) (grows a b))
    λ p d. let long = reached 5 (length a) p in
    ap (λ m. chain_with (a ++ b) m (u16_at (a ++ b) 3)) (u16_append a b 1 (omega (arith, long))) ∙ ap (λ n. chain_with (a ++ b) (u16_at a 1) n) (u16_append a b 3 (omega (arith, long)))
    ∙ chain_with_stable a b (u16_at a 1) (u16_at a 3) d

kinds_stable : (p q r : Bool) (x y z x' y' z' : Lead) → (is_decided x ≡ true → x' ≡ x) → (is_decided y ≡ true → y' ≡ y) → (is_decided z ≡ true → z' ≡ z) →
    is_decided (if p then x else if q then y else if r then z else leads.Bad reasons.Kind) ≡ true → (if p then x' else if q then y' else if r then z' else leads.Bad reasons.Kind) ≡ (if p then x else if q then y else if r then z else leads.Bad reasons.Kind)
kinds_stable true q r x y z x' y' z' ex ey ez h = ex h
kinds_stable false true r x y z x' y' z' ex ey ez h = ey h
kinds_stable false false true x y z x' y' z' ex ey ez h = ez h
kinds_stable false false false x y z x' y' z' ex ey ez h = refl

-- a lead that is decided stays as it is, whatever is read after it
pub lead_stable : (a b : List ℕ) → is_decided (lead a) ≡ true → lead (a ++ b) ≡ lead a
unfolding lead is_decided
lead_stable [] b h = absurd (true≢false (sym h))
lead_stable (k ∷ xs) b h =
    kinds_stable (k == 1) (k == 2) (k == 3) (chain_lead (k ∷ xs)) (load_lead (k ∷ xs)) (store_lead (k ∷ xs)) (chain_lead (k ∷ xs ++ b)) (load_lead (k ∷ xs ++ b)) (store_lead (k ∷ xs ++ b))
    (chain_stable (k ∷ xs) b) (load_stable (k ∷ xs) b) (store_stable (k ∷ xs) b) h
