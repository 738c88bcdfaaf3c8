-- Control words and map words as numbers.
use Rattle.std.specs.Prelude.{ℕ, ◌+◌, ◌*◌, ◌<◌, Option, Some, None, ⊤}
use Rattle.page_map.specs.declared.pages.Mode.{Mode}
use Rattle.page_map.specs.declared.pages.Mode.TheVariants as modes
use Rattle.page_map.specs.declared.ranges.RangeWord.{RangeWord}
use Rattle.page_map.specs.declared.ranges.RangeWord.TheVariants as words
use Rattle.page_map.specs.declared.ranges.Target.{Target}
use Rattle.page_map.specs.Window.{max_chunks}

abbrev pub mode_bit : Mode → ℕ
mode_bit modes.R = 0
mode_bit modes.W = 1

-- pins in bits 0 to 15, the mode in bit 16, the state in bits 17 and 18 (1 is moving, 2 is mapped), the chunk in bits 24 to
-- 39, the file in bits 40 to 47, the mover in bits 48 to 55
abbrev pub control_word : RangeWord → ℕ
control_word words.Free = 0
control_word (words.Moving guest) = 131072 + 281474976710656 * guest
control_word (words.Mapped file chunk mode pins) = pins + 65536 * mode_bit mode + 262144 + 16777216 * chunk + 1099511627776 * file

-- the word's numbers fit their bits
abbrev pub WordFits : RangeWord → Type 0
WordFits words.Free = ⊤
WordFits (words.Moving guest) = guest < 34
WordFits (words.Mapped file chunk mode pins) = (file < 64) × (chunk < max_chunks) × (pins < 65535)

-- present in bit 0, the mode in bit 1, the chunk in bits 24 to 39, the file in bits 40 to 47
abbrev pub map_word : Option Target → ℕ
map_word None = 0
map_word (Some t) = 1 + 2 * mode_bit t.mode + 16777216 * t.chunk + 1099511627776 * t.file

abbrev pub TargetFits : Option Target → Type 0
TargetFits None = ⊤
TargetFits (Some t) = (t.file < 64) × (t.chunk < max_chunks)
