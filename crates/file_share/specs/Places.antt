-- The places of a guest's entries in a history.
use Rattle.std.specs.Prelude.{ℕ, ◌+◌, ◌==◌, List, [], ◌∷◌, if◌then◌else◌}
use Rattle.plain_file.specs.declared.operations.Entry.{Entry}

-- those of a history whose first entry is this one
abbrev pub places_from : ℕ → ℕ → List Entry → List ℕ
places_from guest n [] = []
places_from guest n (e ∷ es) = if e.guest == guest then (n ∷ places_from guest (n + 1) es) else places_from guest (n + 1) es

abbrev pub places_of : ℕ → List Entry → List ℕ
places_of guest h = places_from guest 0 h
