-- One field of a line of text, and the fields of a layout.
use Rattle.std.specs.Prelude.{ℕ, List, [], ◌∷◌, ◌++◌}
use Rattle.std.specs.Fmt.{decimal, signed_decimal}
use Rattle.hex.specs.Hex.{encode_lower}
use Rattle.fuse_wire.specs.Layout.{Part, U16, U32, U64, I32, Unused, Bytes}

-- a space, the name, and the value after an equals sign
abbrev pub named : List ℕ → List ℕ → List ℕ
named name value = 32 ∷ name ++ 61 ∷ value

-- a field with a number
unfoldable pub field : List ℕ → ℕ → List ℕ
field name n = named name (decimal n)

-- a field with bytes: two digits a byte, the high four bits first
unfoldable pub hex_field : List ℕ → List ℕ → List ℕ
hex_field name bytes = named name (encode_lower bytes)

-- The fields of a layout's parts, each under the name that stands in its place. Unused bytes are no field.
abbrev pub fields : List (List ℕ) → List Part → List ℕ
fields names [] = []
fields names (Unused k ∷ parts) = fields names parts
fields (name ∷ names) (U16 n ∷ parts) = field name n ++ fields names parts
fields (name ∷ names) (U32 n ∷ parts) = field name n ++ fields names parts
fields (name ∷ names) (U64 n ∷ parts) = field name n ++ fields names parts
fields (name ∷ names) (I32 z ∷ parts) = named name (signed_decimal z) ++ fields names parts
fields (name ∷ names) (Bytes xs ∷ parts) = hex_field name xs ++ fields names parts
fields [] parts = []
