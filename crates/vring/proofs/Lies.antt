-- A chain that is found lies in the memory.
use Rattle.std.proofs.Common.{◌≡◌, refl, ℕ, ◌+◌, ◌*◌, ◌%◌, ◌==◌, ◌≤◌, ◌&&◌, not, Bool, true, false, cond, nat_lt, nat_le, List, [], ◌∷◌, ◌++◌, length, map, Option, Some, None, Result, Ok, Err, arith}
use Rattle.std.specs.Prelude.{filter}
use Rattle.std.specs.List.{AllByRecursion, list_any}
use Rattle.std.proofs.lemmas.Bool.Decides.{nat_tests}
use Rattle.std.proofs.lemmas.List.Elements.{All-from_recursion}
use Rattle.plain_file.specs.Limits.{max_part}
use Rattle.vring.specs.declared.layouts.Layout.{Layout}
use Rattle.vring.specs.declared.chains.Chain.{Chain}
use Rattle.vring.specs.declared.faults.RingFault.{RingFault}
use Rattle.vring.specs.declared.faults.RingFault.TheVariants as faults
use Rattle.vring.specs.Bytes.{u16_at}
use Rattle.vring.specs.Ring.{Finds}
use Rattle.vring.specs.Chain.{ahead, descriptor_at, is_writable, has, reached, piece_at, fault_of, fault_at, first_fault, readable_of, writable_of, long_of, or_else, unless, chain_of, chain_at, LiesIn, ChainLiesIn}

passed : (b : Bool) (f : RingFault) (x : Option RingFault) → cond b (Some f) x ≡ None → (b ≡ false) × (x ≡ None)
passed true f x e = cc
passed false f x e = (refl, e)

no_fault : (a b : Option RingFault) → or_else a b ≡ None → (a ≡ None) × (b ≡ None)
no_fault (Some f) b e = cc
no_fault None b e = (refl, e)

found : {X : Type 0} (f : Option RingFault) (x y : X) → unless f x ≡ Ok y → (f ≡ None) × (x ≡ y)
found (Some f) x y e = cc
found None x y e = (refl, cc)

chosen : {X : Type 0} (b : Bool) (f : RingFault) (x : Result X RingFault) (y : X) → cond b (Err f) x ≡ Ok y → x ≡ Ok y
chosen true f x y e = cc
chosen false f x y e = e

chosen_none : {X : Type 0} (b : Bool) (x : Result (Option X) RingFault) (y : X) → cond b (Ok None) x ≡ Ok (Some y) → x ≡ Ok (Some y)
chosen_none true x y e = cc
chosen_none false x y e = e

piece_lies : (mem : List ℕ) (l : Layout) (before : List ℕ) (i : ℕ) → fault_at mem l before i ≡ None → LiesIn (length mem) (piece_at mem l i)
unfolding fault_at fault_of piece_at
piece_lies mem l before i e =
    let d = descriptor_at mem l i in
    let few = passed (nat_le l.size (length before)) faults.Loop _ e in
    let direct = passed (has d.flags 4) (faults.Indirect i) _ few.1 in
    let ordered = passed (list_any (is_writable mem l) before && not (has d.flags 2)) (faults.Order i) _ direct.1 in
    let within : (nat_lt (length mem) (d.addr + d.len) ≡ false) × _ = passed (nat_lt (length mem) (d.addr + d.len)) (faults.Outside d.addr d.len) _ ordered.1 in
    grind (arith, nat_tests, within.0)

all_lie : (mem : List ℕ) (l : Layout) (before rest : List ℕ) → first_fault mem l before rest ≡ None → AllByRecursion (λ i. LiesIn (length mem) (piece_at mem l i)) rest
unfolding first_fault
all_lie mem l before [] e = tt
all_lie mem l before (i ∷ rest) e =
    let h = no_fault _ _ e in
    (piece_lies mem l before i h.0, all_lie mem l (before ++ i ∷ []) rest h.1)

kept_lie : {X Y : Type 0} (P : Y → Type 0) (f : X → Y) (p : X → Bool) (xs : List X) → AllByRecursion (λ x. P (f x)) xs → AllByRecursion P (map f (filter p xs))
kept_lie P f p [] h = tt
kept_lie P f p (x ∷ xs) h = elim (p x) as (λ b. AllByRecursion P (map f (cond b (x ∷ filter p xs) (filter p xs)))) [ true ↦ (h.0, kept_lie P f p xs h.1) | false ↦ kept_lie P f p xs h.1 ]

sums_fit : (r w : ℕ) → long_of r w ≡ None → (r ≤ max_part) × (w ≤ max_part)
sums_fit r w e =
    let a = passed (nat_lt max_part r) (faults.Long r) _ e in
    let b = passed (nat_lt max_part w) (faults.Long w) None a.1 in
    (grind (arith, nat_tests, a.0), grind (arith, nat_tests, b.0))

chain_lies : (mem : List ℕ) (l : Layout) (head : ℕ) (rest : List ℕ) (c : Chain) → chain_of mem l head [] rest ≡ Ok (Some c) → ChainLiesIn (length mem) c
unfolding chain_of readable_of writable_of
chain_lies mem l head rest c e =
    let a = found _ _ _ e in
    let b = no_fault _ _ a.0 in
    let sums = sums_fit _ _ b.1 in
    let lie = all_lie mem l [] rest b.0 in
    let same : record { head = head; readable = readable_of mem l rest; writable = writable_of mem l rest } ≡ c = cc (a.1) in
    rw (← same) (record {
      readable = All-from_recursion _ _ (kept_lie (LiesIn (length mem)) (piece_at mem l) _ rest lie);
      writable = All-from_recursion _ _ (kept_lie (LiesIn (length mem)) (piece_at mem l) _ rest lie);
      readable_sum = sums.0;
      writable_sum = sums.1;
    })

pub popped_lies : (mem : List ℕ) (l : Layout) (seen : ℕ) (c : Chain) → chain_at mem l seen ≡ Ok (Some c) → ChainLiesIn (length mem) c
unfolding chain_at
popped_lies mem l seen c e =
    let behind = ahead (u16_at mem (l.available + 2)) seen in
    let head = u16_at mem (l.available + 4 + 2 * (seen % l.size)) in
    let found_at = chain_of mem l head [] (reached mem l head (l.size + 1)) in
    let far : Result (Option Chain) RingFault = cond (nat_lt l.size behind) (Err (faults.Jump behind)) (cond (nat_le l.size head) (Err (faults.BadIndex head)) found_at) in
    let some = chosen_none (behind == 0) far c e in
    let near = chosen (nat_lt l.size behind) (faults.Jump behind) _ _ some in
    chain_lies mem l head (reached mem l head (l.size + 1)) c (chosen (nat_le l.size head) (faults.BadIndex head) _ _ near)

-- the same of a chain that was filled
pub filled_lies : (mem : List ℕ) (l : Layout) (seen : ℕ) (b : Bool) (c : Chain) → b ≡ true → Finds (Ok b) c (chain_at mem l seen) → ChainLiesIn (length mem) c
filled_lies mem l seen true c e h = popped_lies mem l seen c h
filled_lies mem l seen false c e h = cc
