-- The answer to a chain whose count of bytes was written last.
use Rattle.std.proofs.Common.{◌≡◌, ◌∙◌, ap, arith, ℕ, ◌+◌, ◌-◌, List, [], ◌∷◌, ◌++◌, length, take, drop}
use Rattle.std.specs.Int.{w32, to_le_bytes}
use Rattle.std.proofs.Math.Seq.{take-append-add, drop-append-add}
use Rattle.std.proofs.lemmas.List.{append_assoc, length-append}

-- four bytes of a text are written over
over : (text count : List ℕ) (at : ℕ) → List ℕ
over text count at = take at text ++ count ++ drop (at + 4) text

over_zeros : (front count reply : List ℕ) → over (front ++ (1 ∷ 0 ∷ 0 ∷ 0 ∷ 0 ∷ reply)) count (length front + 1) ≡ front ++ (1 ∷ count ++ reply)
unfolding over
over_zeros front count reply =
    let text : List ℕ = 1 ∷ 0 ∷ 0 ∷ 0 ∷ 0 ∷ reply in
    let kept : take (length front + 1) (front ++ text) ≡ front ++ (1 ∷ []) = take-append-add front text 1 in
    let left : drop (length front + 5) (front ++ text) ≡ reply = drop-append-add front text 5 in
    let same : (length front + 1) + 4 ≡ length front + 5 = omega arith in
    rw (same, kept, left) (append_assoc (front ++ (1 ∷ [])) count reply ∙ append_assoc front (1 ∷ []) (count ++ reply))

pub chain_in_place : (front begun put out reply : List ℕ) (at : ℕ) → begun ≡ front ++ (1 ∷ 0 ∷ 0 ∷ 0 ∷ 0 ∷ []) → put ≡ begun ++ reply → at ≡ length front
    → out ≡ take (at + 1) put ++ to_le_bytes w32 (length put - (at + 1 + 4)) ++ drop (at + 1 + 4) put → out ≡ front ++ (1 ∷ to_le_bytes w32 (length reply) ++ reply)
unfolding over
chain_in_place front begun put out reply at eb ep ea eo =
    let mark : List ℕ = 1 ∷ 0 ∷ 0 ∷ 0 ∷ 0 ∷ [] in
    let five : length begun ≡ length front + 5 = ap length eb ∙ length-append front mark in
    let all : length put ≡ length begun + length reply = ap length ep ∙ length-append begun reply in
    let count : length put - (at + 1 + 4) ≡ length reply = omega (arith, five, all, ea) in
    let laid : put ≡ front ++ (1 ∷ 0 ∷ 0 ∷ 0 ∷ 0 ∷ reply) = ep ∙ ap (λ (xs : List ℕ). xs ++ reply) eb ∙ append_assoc front mark reply in
    eo ∙ ap (λ (n : ℕ). over put (to_le_bytes w32 n) (at + 1)) count ∙ ap (λ (n : ℕ). over put (to_le_bytes w32 (length reply)) (n + 1)) ea
    ∙ ap (λ (xs : List ℕ). over xs (to_le_bytes w32 (length reply)) (length front + 1)) laid ∙ over_zeros front (to_le_bytes w32 (length reply)) reply
