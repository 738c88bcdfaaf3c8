-- Bytes go into one piece after another.
use Rattle.std.proofs.Common.{◌≡◌, refl, ℕ, ◌+◌, ◌<◌, ◌≤◌, min, List, length, take, drop, get_or, arith, add-one, drop-cons}
use Rattle.std.proofs.lemmas.List.{take_min, drop_all}
use Rattle.vring.specs.declared.chains.Piece.{Piece}
use Rattle.vring.specs.Bytes.{put_at}
use Rattle.vring.specs.Pieces.{scattered}

min_take : (n len : ℕ) (xs : List ℕ) → len ≡ min (length xs) n → take len xs ≡ take n xs
min_take n len xs e = let same : len ≡ min n (length xs) = omega arith in rw same (take_min n xs)

min_drop : (n len : ℕ) (xs : List ℕ) → len ≡ min (length xs) n → drop len xs ≡ drop n xs
min_drop n len xs e = grind (arith, drop_all)

pub scattered_step : (mem rest : List ℕ) (ps : List Piece) (i len : ℕ) (d : Piece) → i < length ps → len ≡ min (length rest) (get_or ps i d).len → scattered (put_at mem (get_or ps i d).addr (take len rest)) (drop (i + 1) ps) (drop len rest) ≡ scattered mem (drop i ps) rest
unfolding scattered
scattered_step mem rest ps i len d h e = rw (drop-cons ps i d h, add-one, min_take (get_or ps i d).len len rest e, min_drop (get_or ps i d).len len rest e) refl

pub scattered_end : (mem rest : List ℕ) (ps : List Piece) (i : ℕ) → length ps ≤ i → scattered mem (drop i ps) rest ≡ mem
unfolding scattered
scattered_end mem rest ps i h = rw (drop_all i ps h) refl
