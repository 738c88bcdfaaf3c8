-- What a status says of an input that was read whole, or of one that is too long.
use Rattle.std.proofs.Common.{◌≡◌, ◌∙◌, ap, sym, subst, refl, ℕ, ◌<◌, ◌≤◌, List, length, Option, Some, None, IfSome}
use Rattle.std.proofs.lemmas.Bool.{lt-ltb, le-ltb}
use Rattle.std.specs.Io.KnownBytes.{Appends}
use Rattle.plain_file.specs.Counts.{Rose}
use Rattle.program_io.specs.Causes.{AppendsPart}
use Rattle.program_io.specs.Runs.{IsOkOrMemory}
use Rattle.program_io.specs.declared.statuses.Status.{Status}
use Rattle.program_io.specs.declared.statuses.Status.TheVariants as statuses
use Rattle.chain_stream.specs.Frames.{limit}
use Rattle.daxwire.specs.Run.{IfFinished}
use Rattle.daxwire.specs.Wholes.{Due, due_by, too_long, IsAnswered, IsWritten}

-- a text was taken whole, and the status is the one that goes with it
pub written_whole : (text : List ℕ) (status : Status) (taken taken' : Option (List ℕ)) (writes writes' : ℕ) → IsAnswered status → Appends taken taken' text
    → IsWritten (record { text = text; status = status }) taken taken' writes writes' status
written_whole text statuses.Ok taken taken' writes writes' h a = (refl, a)
written_whole text statuses.Refused taken taken' writes writes' h a = (refl, a)
written_whole text statuses.TooLong taken taken' writes writes' h a = (refl, a)
written_whole text statuses.NotLegal taken taken' writes writes' h a = (refl, a)
written_whole text statuses.Usage taken taken' writes writes' h a = absurd h
written_whole text statuses.ReadFault taken taken' writes writes' h a = absurd h
written_whole text statuses.WriteFault taken taken' writes writes' h a = absurd h
written_whole text statuses.Memory taken taken' writes writes' h a = absurd h

module _ (due : List ℕ → Due) where
  -- what is due by the input's length
  due_within : (input : List ℕ) → length input ≤ limit → due input ≡ due_by due input
  unfolding due_by
  due_within input h = sym (rw (le-ltb limit (length input) h) refl)

  due_above : (input : List ℕ) → limit < length input → too_long ≡ due_by due input
  unfolding due_by
  due_above input h = sym (rw (lt-ltb limit (length input) h) refl)

  -- what is due for the input that was left was written
  abbrev pub WrittenFor : Option (List ℕ) → Option (List ℕ) → Option (List ℕ) → ℕ → ℕ → Status → Type 0
  WrittenFor left taken taken' writes writes' result = IfSome left (λ input. IsWritten (due_by due input) taken taken' writes writes' result)

  pub written_within : (left taken taken' : Option (List ℕ)) (writes writes' : ℕ) (result : Status) (input : List ℕ) → IfSome left (λ xs. input ≡ xs) → length input ≤ limit
      → IsWritten (due input) taken taken' writes writes' result → WrittenFor left taken taken' writes writes' result
  written_within None taken taken' writes writes' result input told within w = tt
  written_within (Some xs) taken taken' writes writes' result input told within w =
      subst (λ (d : Due). IsWritten d taken taken' writes writes' result) (due_within input within ∙ ap (due_by due) told) w

  pub written_above : (left taken taken' : Option (List ℕ)) (writes writes' : ℕ) (result : Status) → IfSome left (λ xs. limit < length xs)
      → IsWritten too_long taken taken' writes writes' result → WrittenFor left taken taken' writes writes' result
  written_above None taken taken' writes writes' result long w = tt
  written_above (Some xs) taken taken' writes writes' result long w =
      subst (λ (d : Due). IsWritten d taken taken' writes writes' result) (due_above xs long) w

  -- ---- what follows for each status

  pub finished : (left taken taken' : Option (List ℕ)) (writes writes' : ℕ) (result : Status) → WrittenFor left taken taken' writes writes' result
      → IfFinished result (IfSome left (λ input. (result ≡ (due_by due input).status) × Appends taken taken' (due_by due input).text))
  finished left taken taken' writes writes' statuses.ReadFault h = tt
  finished left taken taken' writes writes' statuses.WriteFault h = tt
  finished left taken taken' writes writes' statuses.Memory h = tt
  finished None taken taken' writes writes' statuses.Ok h = tt
  finished None taken taken' writes writes' statuses.Refused h = tt
  finished None taken taken' writes writes' statuses.TooLong h = tt
  finished None taken taken' writes writes' statuses.Usage h = tt
  finished None taken taken' writes writes' statuses.NotLegal h = tt
  finished (Some xs) taken taken' writes writes' statuses.Ok h = (sym h.0, h.1)
  finished (Some xs) taken taken' writes writes' statuses.Refused h = (sym h.0, h.1)
  finished (Some xs) taken taken' writes writes' statuses.TooLong h = (sym h.0, h.1)
  finished (Some xs) taken taken' writes writes' statuses.NotLegal h = (sym h.0, h.1)
  finished (Some xs) taken taken' writes writes' statuses.Usage h = absurd h

  pub write_fault : (left taken taken' : Option (List ℕ)) (writes writes' : ℕ) (result : Status) → result ≡ statuses.WriteFault → WrittenFor left taken taken' writes writes' result
      → IfSome left (λ input. AppendsPart taken taken' (due_by due input).text)
  write_fault None taken taken' writes writes' result is h = tt
  write_fault (Some xs) taken taken' writes writes' result is h = (subst (λ (s : Status). IsWritten (due_by due xs) taken taken' writes writes' s) is h).1

is_no_ok : statuses.Refused ≡ statuses.Ok → ⊥
is_no_ok h = absurd cc

too_long_is_no_ok : statuses.TooLong ≡ statuses.Ok → ⊥
too_long_is_no_ok h = absurd cc

not_legal_is_no_ok : statuses.NotLegal ≡ statuses.Ok → ⊥
not_legal_is_no_ok h = absurd cc

written_ok : (due : Due) (taken taken' : Option (List ℕ)) (writes writes' : ℕ) (result : Status) → IsWritten due taken taken' writes writes' result → due.status ≡ statuses.Ok → (Rose writes writes' → ⊥) → IsOkOrMemory result
written_ok due taken taken' writes writes' statuses.Ok h ok no_write = tt
written_ok due taken taken' writes writes' statuses.Memory h ok no_write = tt
written_ok due taken taken' writes writes' statuses.Refused h ok no_write = absurd (is_no_ok (sym h.0 ∙ ok))
written_ok due taken taken' writes writes' statuses.TooLong h ok no_write = absurd (too_long_is_no_ok (sym h.0 ∙ ok))
written_ok due taken taken' writes writes' statuses.NotLegal h ok no_write = absurd (not_legal_is_no_ok (sym h.0 ∙ ok))
written_ok due taken taken' writes writes' statuses.WriteFault h ok no_write = no_write h.0
written_ok due taken taken' writes writes' statuses.ReadFault h ok no_write = absurd h
written_ok due taken taken' writes writes' statuses.Usage h ok no_write = absurd h

pub complete : (due : List ℕ → Due) (left taken taken' : Option (List ℕ)) (writes writes' : ℕ) (result : Status) (input : List ℕ) → WrittenFor due left taken taken' writes writes' result → left ≡ Some input
    → (due_by due input).status ≡ statuses.Ok → (Rose writes writes' → ⊥) → IsOkOrMemory result
complete due left taken taken' writes writes' result input h told ok no_write =
    written_ok (due_by due input) taken taken' writes writes' result (subst (λ (o : Option (List ℕ)). WrittenFor due o taken taken' writes writes' result) told h) ok no_write

pub rose : (due : Due) (taken taken' : Option (List ℕ)) (writes writes' : ℕ) (result : Status) → result ≡ statuses.WriteFault → IsWritten due taken taken' writes writes' result → Rose writes writes'
rose due taken taken' writes writes' result is h = (subst (λ (s : Status). IsWritten due taken taken' writes writes' s) is h).0
