-- The sum of one more length.
use Rattle.std.proofs.Common.{◌≡◌, refl, ℕ, ◌+◌, ◌*◌, List, sum}
use Rattle.std.proofs.lemmas.List.FromFn.{sum_by-map-range_with_len_more}
use Rattle.fuse_wire.specs.Records.{u32_at}
use Rattle.chain_stream.specs.Frames.{lengths_at}

pub sum_more : (bytes : List ℕ) (first k : ℕ) → sum (lengths_at bytes first (k + 1)) ≡ sum (lengths_at bytes first k) + u32_at bytes (5 + 4 * (first + k))
sum_more bytes first k = sum_by-map-range_with_len_more (λ x. x) (λ j. u32_at bytes (5 + 4 * j)) first k (first + k) refl
