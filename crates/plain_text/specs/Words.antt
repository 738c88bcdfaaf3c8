-- The lines of a text, and the words of a line.
use Rattle.std.specs.Prelude.{ℕ, ◌==◌, Bool, not, List, length, filter}
use Rattle.std.specs.List.{slice_split}

-- the parts of bytes between separators
abbrev pub is_byte : ℕ → ℕ → Bool
is_byte sep b = b == sep

abbrev pub parts : ℕ → List ℕ → List (List ℕ)
parts sep bytes = slice_split (is_byte sep) bytes

-- the line feed, of which the parts are lines
abbrev pub line_end : ℕ
line_end = 10

abbrev pub space : ℕ
space = 32

abbrev pub is_word : List ℕ → Bool
is_word word = not (length word == 0)

-- the words of a line, without the spaces round them
abbrev pub words_of : List ℕ → List (List ℕ)
words_of line = filter is_word (parts space line)
