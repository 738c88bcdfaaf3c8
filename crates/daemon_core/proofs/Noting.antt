-- A size that is noted leaves as many files.
use Rattle.std.proofs.Common.{◌≡◌, ◌∙◌, ap, refl, ℕ, Bool, true, false, List, length, length-set, is_some, if◌then◌else◌}
use Rattle.plain_file.specs.Board.{FileView, BoardView, file_at, with_note, noted}

either_length : (b : Bool) (xs ys : List FileView) → length ys ≡ length xs → length (if b then ys else xs) ≡ length xs
either_length true xs ys h = h
either_length false xs ys h = refl

pub noted_length : (old new : BoardView) (file size : ℕ) → new ≡ noted old file size → length new.files ≡ length old.files
noted_length old new file size e =
    ap (λ (v : BoardView). length v.files) e
    ∙ either_length (is_some old.over) old.files _ (length-set old.files file (with_note size (file_at old file)))
