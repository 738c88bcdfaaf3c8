-- Packed words say one thing each.
use Rattle.std.proofs.Common.{◌≡◌, ◌<◌, Option, Some, None, refl, ap, arith}
use Rattle.page_map.specs.declared.pages.Mode.{Mode}
use Rattle.page_map.specs.declared.pages.Mode.TheVariants as modes
use Rattle.page_map.specs.declared.ranges.RangeWord.{RangeWord}
use Rattle.page_map.specs.declared.ranges.RangeWord.TheVariants as words
use Rattle.page_map.specs.declared.ranges.Target.{Target}
use Rattle.range_share.specs.Packed.{WordFits, TargetFits, mode_bit, control_word, map_word}

pub bit_small : (m : Mode) → mode_bit m < 2
bit_small modes.R = omega arith
bit_small modes.W = omega arith

bit_same : (a b : Mode) → mode_bit a ≡ mode_bit b → a ≡ b
bit_same modes.R modes.R e = refl
bit_same modes.R modes.W e = absurd (omega arith)
bit_same modes.W modes.R e = absurd (omega arith)
bit_same modes.W modes.W e = refl

-- two words that fit and have one number are the same
pub control_one : (a b : RangeWord) → WordFits a → WordFits b → control_word a ≡ control_word b → a ≡ b
control_one words.Free words.Free fa fb e = refl
control_one words.Free (words.Moving g) fa fb e = absurd (omega arith)
control_one words.Free (words.Mapped f c m p) fa fb e = absurd (omega arith)
control_one (words.Moving g) words.Free fa fb e = absurd (omega arith)
control_one (words.Moving g) (words.Moving g') fa fb e = let same : g ≡ g' = omega arith in ap words.Moving same
control_one (words.Moving g) (words.Mapped f c m p) fa fb e = let b = bit_small m in let x = fb.0 in let y = fb.1 in let z = fb.2 in absurd (omega arith)
control_one (words.Mapped f c m p) words.Free fa fb e = absurd (omega arith)
control_one (words.Mapped f c m p) (words.Moving g) fa fb e = let b = bit_small m in let x = fa.0 in let y = fa.1 in let z = fa.2 in absurd (omega arith)
control_one (words.Mapped f c m p) (words.Mapped f' c' m' p') fa fb e = let b = bit_small m in let b' = bit_small m' in let x = fa.0 in let y = fa.1 in let z = fa.2 in let x' = fb.0 in let y' = fb.1 in let z' = fb.2 in
    let ef : f ≡ f' = omega arith in let ec : c ≡ c' = omega arith in let em : mode_bit m ≡ mode_bit m' = omega arith in let ep : p ≡ p' = omega arith in
    λ i. words.Mapped (ef i) (ec i) (bit_same m m' em i) (ep i)

pub map_one : (a b : Option Target) → TargetFits a → TargetFits b → map_word a ≡ map_word b → a ≡ b
map_one None None fa fb e = refl
map_one None (Some t) fa fb e = absurd (omega arith)
map_one (Some t) None fa fb e = absurd (omega arith)
map_one (Some t) (Some u) fa fb e = let b = bit_small t.mode in let b' = bit_small u.mode in let x = fa.0 in let y = fa.1 in let x' = fb.0 in let y' = fb.1 in
    let ef : t.file ≡ u.file = omega arith in let ec : t.chunk ≡ u.chunk = omega arith in let em : mode_bit t.mode ≡ mode_bit u.mode = omega arith in
    λ i. Some (record { file = ef i; chunk = ec i; mode = bit_same t.mode u.mode em i })
