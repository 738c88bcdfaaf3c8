-- A chain is followed a descriptor at a time.
use Rattle.std.proofs.Common.{◌≡◌, ◌≢◌, ◌∙◌, ap, sym, refl, ℕ, suc, ◌+◌, ◌-◌, ◌<◌, ◌≤◌, ◌==◌, Bool, true, false, ◌||◌, not, cond, nat_le, List, [], ◌∷◌, ◌++◌, length, map, Option, Some, None, Result, Ok, Err, arith, append_assoc, add-one}
use Rattle.std.specs.Prelude.{filter}
use Rattle.std.specs.List.{list_any}
use Rattle.std.proofs.lemmas.Grind.{common_steps}
use Rattle.std.proofs.lemmas.Bool.Decides.{nat_tests}
use Rattle.std.proofs.lemmas.List.{map-append, append-nil}
use Rattle.std.proofs.lemmas.List.Elements.{filter-append}
use Rattle.vring.specs.declared.layouts.Layout.{Layout}
use Rattle.vring.specs.declared.chains.Chain.{Chain}
use Rattle.vring.specs.declared.descriptors.Descriptor.{Descriptor}
use Rattle.vring.specs.declared.faults.RingFault.{RingFault}
use Rattle.vring.specs.declared.faults.RingFault.TheVariants as faults
use Rattle.vring.specs.Pieces.{total}
use Rattle.vring.specs.Chain.{descriptor_at, has, goes_on, reached, is_writable, piece_at, fault_of, fault_at, first_fault, readable_of, writable_of, long_of, unless, chain_of}
use Rattle.vring.specs.Parts.{Parts, parts_of, placed}

abbrev pub whole : List ℕ → Layout → ℕ → Result (Option Chain) RingFault
whole mem l head = chain_of mem l head [] (reached mem l head (l.size + 1))

-- so many descriptors were passed without a fault, which have these parts, and the next one is this
pub record Follows (mem : List ℕ) (l : Layout) (head index : ℕ) (p : Parts) (count : ℕ) : Type 0 where
  pub before : List ℕ
  pub left : ℕ
  pub count_is : length before ≡ count
  pub left_is : left + count ≡ l.size
  pub readable : p.readable ≡ readable_of mem l before
  pub writable : p.writable ≡ writable_of mem l before
  pub same : chain_of mem l head before (reached mem l index (suc left)) ≡ whole mem l head

chain_step : (mem : List ℕ) (l : Layout) (head index : ℕ) (before rest : List ℕ) → fault_at mem l before index ≡ None → chain_of mem l head before (index ∷ rest) ≡ chain_of mem l head (before ++ index ∷ []) rest
unfolding chain_of first_fault
chain_step mem l head index before rest e = let all : before ++ index ∷ rest ≡ (before ++ index ∷ []) ++ rest = sym (append_assoc before (index ∷ []) rest) in rw (e, all) refl

chain_fault : (mem : List ℕ) (l : Layout) (head index : ℕ) (before rest : List ℕ) (f : RingFault) → fault_at mem l before index ≡ Some f → chain_of mem l head before (index ∷ rest) ≡ Err f
unfolding chain_of first_fault
chain_fault mem l head index before rest f e = rw e refl

some_length : (n : ℕ) → true ≡ not (suc n == 0)
some_length n = grind (arith, nat_tests)

any_filter : {X Y : Type 0} (p : X → Bool) (f : X → Y) (xs : List X) → list_any p xs ≡ not (length (map f (filter p xs)) == 0)
any_filter p f [] = refl
any_filter p f (x ∷ xs) = elim (p x) as (λ b. (b || list_any p xs) ≡ not (length (map f (cond b (x ∷ filter p xs) (filter p xs))) == 0)) [ true ↦ some_length (length (map f (filter p xs))) | false ↦ any_filter p f xs ]

any_writable : (mem : List ℕ) (l : Layout) (xs : List ℕ) → list_any (is_writable mem l) xs ≡ not (length (writable_of mem l xs) == 0)
unfolding writable_of
any_writable mem l xs = any_filter (is_writable mem l) (piece_at mem l) xs

readable_more : (mem : List ℕ) (l : Layout) (xs : List ℕ) (i : ℕ) (b : Bool) → is_writable mem l i ≡ b → readable_of mem l (xs ++ i ∷ []) ≡ cond b (readable_of mem l xs) (readable_of mem l xs ++ piece_at mem l i ∷ [])
unfolding readable_of
readable_more mem l xs i true e = rw (filter-append, map-append, e) (append-nil (map (piece_at mem l) (filter (λ i. not (is_writable mem l i)) xs)))
readable_more mem l xs i false e = rw (filter-append, map-append, e) refl

writable_more : (mem : List ℕ) (l : Layout) (xs : List ℕ) (i : ℕ) (b : Bool) → is_writable mem l i ≡ b → writable_of mem l (xs ++ i ∷ []) ≡ cond b (writable_of mem l xs ++ piece_at mem l i ∷ []) (writable_of mem l xs)
unfolding writable_of
writable_more mem l xs i true e = rw (filter-append, map-append, e) refl
writable_more mem l xs i false e = rw (filter-append, map-append, e) (append-nil (map (piece_at mem l) (filter (is_writable mem l) xs)))

-- the parts after one more descriptor
pub record HasParts (mem : List ℕ) (l : Layout) (p : Parts) (xs : List ℕ) : Type 0 where
  pub readable : p.readable ≡ readable_of mem l xs
  pub writable : p.writable ≡ writable_of mem l xs

placed_parts : (mem : List ℕ) (l : Layout) (p : Parts) (xs : List ℕ) (i : ℕ) (b : Bool) → is_writable mem l i ≡ b → HasParts mem l p xs → HasParts mem l (placed p (descriptor_at mem l i)) (xs ++ i ∷ [])
unfolding is_writable piece_at
placed_parts mem l p xs i true e h = record { readable = rw (e, readable_more mem l xs i true e) h.readable; writable = rw (e, writable_more mem l xs i true e) (ap (λ ps. ps ++ piece_at mem l i ∷ []) h.writable) }
placed_parts mem l p xs i false e h = record { readable = rw (e, readable_more mem l xs i false e) (ap (λ ps. ps ++ piece_at mem l i ∷ []) h.readable); writable = rw (e, writable_more mem l xs i false e) h.writable }

placed_after : (mem : List ℕ) (l : Layout) (p : Parts) (xs : List ℕ) (i : ℕ) → HasParts mem l p xs → HasParts mem l (placed p (descriptor_at mem l i)) (xs ++ i ∷ [])
placed_after mem l p xs i h = placed_parts mem l p xs i (is_writable mem l i) refl h

fault_now : (mem : List ℕ) (l : Layout) (head index : ℕ) (p : Parts) (count : ℕ) (h : Follows mem l head index p count) → count < l.size → fault_at mem l h.before index ≡ fault_of (length mem) l.size (not (length p.writable == 0)) index (descriptor_at mem l index)
unfolding fault_at
fault_now mem l head index p count h short =
    let within : nat_le l.size (length h.before) ≡ false = grind (arith, nat_tests, h.count_is) in
    rw (within, any_writable mem l h.before, ← h.writable) refl

-- what the code has at hand at a descriptor
pub record IsAt (mem : List ℕ) (l : Layout) (head index : ℕ) (p : Parts) (count : ℕ) (d : Descriptor) (empty : Bool) : Type 0 where
  pub follows : Follows mem l head index p count
  pub short : count < l.size
  pub descriptor : d ≡ descriptor_at mem l index
  pub empty_is : empty ≡ (length p.writable == 0)

pub fault_is : (mem : List ℕ) (l : Layout) (head index : ℕ) (p : Parts) (count : ℕ) (d : Descriptor) (empty : Bool) (h : IsAt mem l head index p count d empty) → fault_at mem l h.follows.before index ≡ fault_of (length mem) l.size (not empty) index d
fault_is mem l head index p count d empty h = rw (h.descriptor, h.empty_is) (fault_now mem l head index p count h.follows h.short)

pub follow_fault : (mem : List ℕ) (l : Layout) (head index : ℕ) (p : Parts) (count : ℕ) (d : Descriptor) (empty : Bool) (f : RingFault) → IsAt mem l head index p count d empty → Some f ≡ fault_of (length mem) l.size (not empty) index d → whole mem l head ≡ Err f
unfolding reached
follow_fault mem l head index p count d empty f h e = sym h.follows.same ∙ chain_fault mem l head index h.follows.before _ f (fault_is mem l head index p count d empty h ∙ sym e)

pub follow_loop : (mem : List ℕ) (l : Layout) (head index : ℕ) (p : Parts) (count : ℕ) → Follows mem l head index p count → l.size ≤ count → whole mem l head ≡ Err faults.Loop
unfolding reached fault_at
follow_loop mem l head index p count h long =
    let past : nat_le l.size (length h.before) ≡ true = grind (arith, nat_tests, h.count_is) in
    sym h.same ∙ chain_fault mem l head index h.before _ faults.Loop (rw past refl)

goes_on_true : (l : Layout) (d : Descriptor) → has d.flags 1 ≡ true → d.next < l.size → goes_on l d ≡ true
goes_on_true l d e h = rw e (grind (arith, nat_tests))

goes_on_false : (l : Layout) (d : Descriptor) → has d.flags 1 ≡ false → goes_on l d ≡ false
goes_on_false l d e = rw e refl

pub follow_more : (mem : List ℕ) (l : Layout) (head index : ℕ) (p : Parts) (count : ℕ) (d : Descriptor) (empty : Bool) → IsAt mem l head index p count d empty → None ≡ fault_of (length mem) l.size (not empty) index d → has d.flags 1 ≡ true → d.next < l.size → Follows mem l head d.next (placed p d) (count + 1)
unfolding reached
follow_more mem l head index p count d empty h e goes within =
    let f = h.follows in
    let parts : HasParts mem l (placed p d) (f.before ++ index ∷ []) = rw h.descriptor (placed_after mem l p f.before index (record { readable = f.readable; writable = f.writable })) in
    let left_is : suc (f.left - 1) ≡ f.left = omega (arith, f.left_is, h.short) in
    let on : goes_on l (descriptor_at mem l index) ≡ true = rw (← h.descriptor) (goes_on_true l d goes within) in
    let next : (descriptor_at mem l index).next ≡ d.next = rw h.descriptor refl in
    let same : chain_of mem l head f.before (index ∷ reached mem l (descriptor_at mem l index).next f.left) ≡ whole mem l head = rw on at f.same in
    record {
      before = f.before ++ index ∷ [];
      left = f.left - 1;
      count_is = grind (arith, common_steps, f.count_is);
      left_is = omega (arith, f.left_is, h.short);
      readable = parts.readable;
      writable = parts.writable;
      same = ap (λ n. chain_of mem l head (f.before ++ index ∷ []) (reached mem l d.next n)) left_is ∙ ap (λ n. chain_of mem l head (f.before ++ index ∷ []) (reached mem l n f.left)) (sym next) ∙ sym (chain_step mem l head index f.before (reached mem l (descriptor_at mem l index).next f.left) (fault_is mem l head index p count d empty h ∙ sym e)) ∙ same;
    }

chain_end : (mem : List ℕ) (l : Layout) (head : ℕ) (xs : List ℕ) (p : Parts) → HasParts mem l p xs → chain_of mem l head xs [] ≡ unless (long_of (total p.readable) (total p.writable)) (Some (record { head = head; readable = p.readable; writable = p.writable }))
unfolding chain_of first_fault
chain_end mem l head xs p h = rw (append-nil xs, ← h.readable, ← h.writable) refl

pub follow_end : (mem : List ℕ) (l : Layout) (head index : ℕ) (p : Parts) (chain : Chain) (count : ℕ) (d : Descriptor) (empty : Bool) → IsAt mem l head index p count d empty → None ≡ fault_of (length mem) l.size (not empty) index d → has d.flags 1 ≡ false → chain.head ≡ head → parts_of chain ≡ placed p d → whole mem l head ≡ unless (long_of (total chain.readable) (total chain.writable)) (Some chain)
unfolding reached
follow_end mem l head index p chain count d empty h e ends head_is chain_is =
    let f = h.follows in
    let parts : HasParts mem l (placed p d) (f.before ++ index ∷ []) = rw h.descriptor (placed_after mem l p f.before index (record { readable = f.readable; writable = f.writable })) in
    let off : goes_on l (descriptor_at mem l index) ≡ false = rw (← h.descriptor) (goes_on_false l d ends) in
    let same : chain_of mem l head f.before (index ∷ []) ≡ whole mem l head = rw off at f.same in
    sym same ∙ chain_step mem l head index f.before [] (fault_is mem l head index p count d empty h ∙ sym e)
    ∙ chain_end mem l head (f.before ++ index ∷ []) (parts_of chain) (rw chain_is parts)
    ∙ ap (λ n. unless (long_of (total chain.readable) (total chain.writable)) (Some (record { head = n; readable = chain.readable; writable = chain.writable }))) (sym head_is)

pub follow_first : (mem : List ℕ) (l : Layout) (head : ℕ) → Follows mem l head head (record { readable = []; writable = [] }) 0
unfolding readable_of writable_of
follow_first mem l head = record { before = []; left = l.size; count_is = refl; left_is = omega arith; readable = refl; writable = refl; same = rw add-one refl }

unless_some : (f : Option RingFault) (c : Chain) → unless f (Some c) ≢ Ok None
unless_some (Some f) c e = cc
unless_some None c e = cc

-- where a head stands there is a chain or a fault
pub chain_of_some : (mem : List ℕ) (l : Layout) (head : ℕ) (before rest : List ℕ) → chain_of mem l head before rest ≢ Ok None
unfolding chain_of
chain_of_some mem l head before rest = unless_some _ _
