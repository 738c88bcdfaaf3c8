-- One line more of a draft.
use Rattle.std.proofs.Common.{◌≡◌, ◌∙◌, ap, sym, refl, subst, List, [], ◌∷◌, ◌++◌, Option, Some, None, option_map}
use Rattle.transcript_text.specs.declared.transcripts.EntryLine.{EntryLine}
use Rattle.transcript_text.specs.declared.transcripts.FilePart.{FilePart}
use Rattle.transcript_text.specs.declared.transcripts.GuestPart.{GuestPart}
use Rattle.transcript_text.specs.declared.transcripts.Numbered.{Numbered}
use Rattle.page_map.specs.declared.ranges.LogEntry.{LogEntry}
use Rattle.transcript_text.specs.TranscriptReading.{Reading, Parts, onto_last, with_entry, with_log, with_line}
use Rattle.transcript_text.specs.declared.drafts.Draft.{Draft}
use Rattle.transcript_text.specs.Drafts.{listed, IsFirst, IsDraft, reading_of, entry_more, log_more, line_more}

again : {X : Type 0} (z : X) (zs : X → List X) (o : Option X) → option_map (λ ws. z ∷ ws) (option_map zs o) ≡ option_map (λ y. z ∷ zs y) o
again z zs None = refl
again z zs (Some y) = refl

-- the last of a list with one element more
pub onto_last-append : {X : Type 0} (change : X → Option X) (xs : List X) (x : X) → onto_last change (xs ++ x ∷ []) ≡ option_map (λ y. xs ++ y ∷ []) (change x)
onto_last-append change [] x = refl
onto_last-append change (z ∷ []) x = again z (λ y. y ∷ []) (change x)
onto_last-append change (z ∷ w ∷ xs) x = ap (λ o. option_map (λ zs. z ∷ zs) o) (onto_last-append change (w ∷ xs) x) ∙ again z (λ y. w ∷ xs ++ y ∷ []) (change x)

-- a draft with another newest file, or another newest guest
abbrev pub filed : Draft → FilePart → Draft
filed d p = record { ranges = d.ranges; files = d.files; file = Some p; guests = d.guests; guest = None }

abbrev pub guested : Draft → GuestPart → Draft
guested d p = record { ranges = d.ranges; files = d.files; file = d.file; guests = d.guests; guest = Some p }

no_guests : (d : Draft) → IsDraft d → d.guest ≡ None → d.guests ≡ []
no_guests d ok none = subst (λ (o : Option GuestPart). IsFirst d.guests o) none ok.guests

no_files : (d : Draft) → IsDraft d → d.file ≡ None → d.files ≡ []
no_files d ok none = subst (λ (o : Option FilePart). IsFirst d.files o) none ok.files

with_files : (d : Draft) (before : FilePart) → IsDraft d → d.guest ≡ None → d.file ≡ Some before → reading_of d ≡ Parts d.ranges (d.files ++ before ∷ []) []
with_files d before ok none some = let g = no_guests d ok none in λ i. Parts d.ranges (d.files ++ listed (some i)) (g i ++ listed (none i))

without_files : (d : Draft) → IsDraft d → d.guest ≡ None → d.file ≡ None → reading_of d ≡ Parts d.ranges [] []
without_files d ok none nothing = let g = no_guests d ok none in let f = no_files d ok nothing in λ i. Parts d.ranges (f i ++ listed (nothing i)) (g i ++ listed (none i))

changed : (d : Draft) → d.guests ≡ [] → (o : Option FilePart) → option_map (λ files. Parts d.ranges files []) (option_map (λ y. d.files ++ y ∷ []) o) ≡ option_map (λ p. reading_of (filed d p)) o
changed d none None = refl
changed d none (Some p) = ap (λ (gs : List GuestPart). Some (Parts d.ranges (d.files ++ p ∷ []) (gs ++ []))) (sym none)

-- an entry, and an entry of a log
pub entry_in : (d : Draft) (before : FilePart) (e : EntryLine) → IsDraft d → d.guest ≡ None → d.file ≡ Some before → entry_more e (reading_of d) ≡ option_map (λ p. reading_of (filed d p)) (with_entry e before)
unfolding entry_more
entry_in d before e ok none some = ap (λ (r : Reading). entry_more e r) (with_files d before ok none some)
    ∙ (ap (λ (o : Option (List FilePart)). option_map (λ files. Parts d.ranges files []) o) (onto_last-append (with_entry e) d.files before) ∙ changed d (no_guests d ok none) (with_entry e before))

pub log_in : (d : Draft) (before : FilePart) (e : LogEntry) → IsDraft d → d.guest ≡ None → d.file ≡ Some before → log_more e (reading_of d) ≡ option_map (λ p. reading_of (filed d p)) (with_log e before)
unfolding log_more
log_in d before e ok none some = ap (λ (r : Reading). log_more e r) (with_files d before ok none some)
    ∙ (ap (λ (o : Option (List FilePart)). option_map (λ files. Parts d.ranges files []) o) (onto_last-append (with_log e) d.files before) ∙ changed d (no_guests d ok none) (with_log e before))

pub entry_nowhere : (d : Draft) (e : EntryLine) → IsDraft d → d.guest ≡ None → d.file ≡ None → entry_more e (reading_of d) ≡ None
unfolding entry_more
entry_nowhere d e ok none nothing = ap (λ (r : Reading). entry_more e r) (without_files d ok none nothing)

pub log_nowhere : (d : Draft) (e : LogEntry) → IsDraft d → d.guest ≡ None → d.file ≡ None → log_more e (reading_of d) ≡ None
unfolding log_more
log_nowhere d e ok none nothing = ap (λ (r : Reading). log_more e r) (without_files d ok none nothing)

-- a line of a call
lined_up : (d : Draft) (o : Option GuestPart) → option_map (λ guests. Parts d.ranges (d.files ++ listed d.file) guests) (option_map (λ y. d.guests ++ y ∷ []) o) ≡ option_map (λ p. reading_of (guested d p)) o
lined_up d None = refl
lined_up d (Some p) = refl

pub line_in : (d : Draft) (before : GuestPart) (n : Numbered) → d.guest ≡ Some before → line_more n (reading_of d) ≡ option_map (λ p. reading_of (guested d p)) (with_line n before)
unfolding line_more
line_in d before n some = ap (λ (o : Option GuestPart). line_more n (Parts d.ranges (d.files ++ listed d.file) (d.guests ++ listed o))) some
    ∙ (ap (λ (o : Option (List GuestPart)). option_map (λ guests. Parts d.ranges (d.files ++ listed d.file) guests) o) (onto_last-append (with_line n) d.guests before) ∙ lined_up d (with_line n before))

pub line_nowhere : (d : Draft) (n : Numbered) → IsDraft d → d.guest ≡ None → line_more n (reading_of d) ≡ None
unfolding line_more
line_nowhere d n ok none = let g = no_guests d ok none in λ i. line_more n (Parts d.ranges (d.files ++ listed d.file) (g i ++ listed (none i)))
