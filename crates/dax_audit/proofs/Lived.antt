-- The logs of a transcript by the tables of live placements.
use Rattle.std.proofs.Common.{◌≡◌, ◌∙◌, ap, sym, refl, ℕ, zero, suc, ◌<◌, Bool, false, List, [], ◌∷◌, length, map, slice_get, get_or, Some, arith}
use Rattle.std.proofs.lemmas.Option.{slice_get_within, slice_get-get_or}
use Rattle.page_map.specs.Logs.{places}
use Rattle.range_tree.specs.Logs.{is_live}
use Rattle.range_tree.specs.declared.lives.Lives.{Lives}
use Rattle.transcript_text.specs.declared.transcripts.EntryLine.{EntryLine}
use Rattle.transcript_text.specs.declared.transcripts.FilePart.{FilePart}
use Rattle.transcript_text.specs.declared.transcripts.Transcript.{Transcript}
use Rattle.dax_audit.specs.Rules.{entry_at}
use Rattle.dax_audit.specs.Tables.{AreLives, no_lives, lives_in, no_log, log_in}
use Rattle.dax_audit.proofs.Lines.{at_entry}

log_by : (lives : List Lives) (parts : List FilePart) → map (λ l. l.log.now) lives ≡ map (λ part. part.log) parts → (file : ℕ) → no_lives (slice_get lives file) ≡ no_log (slice_get parts file)
log_by [] [] same file = refl
log_by [] (p ∷ parts) same file = absurd cc
log_by (l ∷ lives) [] same file = absurd cc
log_by (l ∷ lives) (p ∷ parts) same zero = cc
log_by (l ∷ lives) (p ∷ parts) same (suc file) = let more : map (λ k. k.log.now) lives ≡ map (λ part. part.log) parts = cc in log_by lives parts more file

many_by : (lives : List Lives) (parts : List FilePart) → map (λ l. l.log.now) lives ≡ map (λ part. part.log) parts → length lives ≡ length parts
many_by [] [] same = refl
many_by [] (p ∷ parts) same = absurd cc
many_by (l ∷ lives) [] same = absurd cc
many_by (l ∷ lives) (p ∷ parts) same = let more : map (λ k. k.log.now) lives ≡ map (λ part. part.log) parts = cc in ap suc (many_by lives parts more)

pub lives_log : (t : Transcript) (lives : List Lives) → AreLives t lives → (file : ℕ) → lives_in lives file ≡ log_in t file
unfolding lives_in log_in
lives_log t lives same file = log_by lives t.files same file

pub file_within : (t : Transcript) (lives : List Lives) → AreLives t lives → (file place : ℕ) (e : EntryLine) → entry_at t file place ≡ Some e → file < length lives
file_within t lives same file place e at =
    let there = at_entry t file place e at in
    omega (arith, slice_get_within t.files file there.0 there.1, many_by lives t.files same)

pub log_there : (t : Transcript) (lives : List Lives) → AreLives t lives → (file place : ℕ) (e : EntryLine) (d : Lives) → entry_at t file place ≡ Some e → (get_or lives file d).log.now ≡ log_in t file
unfolding lives_in
log_there t lives same file place e d at = ap no_lives (sym (slice_get-get_or lives file d (file_within t lives same file place e at))) ∙ lives_log t lives same file

pub nothing_lives : (w : Bool) (chunk k m : ℕ) → is_live w [] chunk k m ≡ false
unfolding is_live places
nothing_lives w chunk k m = refl
