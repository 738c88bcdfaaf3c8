-- The word for a reason.
use Rattle.std.specs.Prelude.{ℕ, List, codes}
use Rattle.dax_script.specs.declared.whys.Why.{Why}
use Rattle.dax_script.specs.declared.whys.Why.TheVariants as whys

unfoldable pub why_word : Why → List ℕ
why_word whys.Order = codes "order"
why_word whys.Words = codes "words"
why_word whys.Number = codes "number"
why_word whys.Limit = codes "limit"
why_word whys.Name = codes "name"
why_word whys.File = codes "file"
why_word whys.Hold = codes "hold"
why_word whys.Hex = codes "hex"
why_word whys.Byte = codes "byte"
why_word whys.Mode = codes "mode"
why_word whys.Window = codes "window"
