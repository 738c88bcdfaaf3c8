-- What was done of a course, and then of what is left of it.
use Rattle.std.proofs.Common.{◌≡◌, ◌∙◌, ap, sym, subst, refl, ℕ, ◌+◌, ◌≤◌, List, [], ◌++◌, length, take, Option, Some, None, IfSome, arith, append_assoc}
use Rattle.std.specs.declared.ops.ControlFlow.{ControlFlow}
use Rattle.std.specs.declared.ops.ControlFlow.TheVariants.{Continue, Break}
use Rattle.std.proofs.lemmas.Grind.{common_steps}
use Rattle.std.proofs.Math.Seq.{take-append-add}
use Rattle.std.proofs.KnownBytes.{Consumes-nil, Consumes-trans, Appends-nil, Appends-trans, Appends-kept}
use Rattle.std.specs.Io.KnownBytes.{Appends, Consumes, Keeps, IsAtEnd}
use Rattle.plain_file.specs.Counts.{Rose}
use Rattle.program_io.specs.Causes.{AppendsFront, AppendsPart}
use Rattle.program_io.specs.declared.statuses.Status.{Status}
use Rattle.program_io.specs.declared.statuses.Status.TheVariants as statuses
use Rattle.chain_stream.specs.declared.frames.End.{End}
use Rattle.chain_stream.specs.declared.frames.End.TheVariants as ends
use Rattle.std.proofs.lemmas.List.{length-append, take-append-le}
use Rattle.chain_stream.specs.Courses.{PendingView, Took, Course, Went, Ends, Follows, IsDone, Writes, after_text, due, status_of}

-- ---- what a source tells

-- what holds of all that is still to come holds of what was to come before
pub told_before : (a b : Option (List ℕ)) (bs : List ℕ) (P Q : List ℕ → Type 0) → Consumes a b bs → ((more : List ℕ) → Q more → P (bs ++ more)) → IfSome b Q → IfSome a P
told_before None b bs P Q c h q = tt
told_before (Some xs) None bs P Q c h q = absurd c
told_before (Some xs) (Some ys) bs P Q c h q = subst P (sym c) (h ys q)

pub told_each : (a : Option (List ℕ)) (P : List ℕ → Type 0) → ((xs : List ℕ) → P xs) → IfSome a P
told_each None P h = tt
told_each (Some xs) P h = h xs

pub told_map : (a : Option (List ℕ)) (P Q : List ℕ → Type 0) → ((xs : List ℕ) → P xs → Q xs) → IfSome a P → IfSome a Q
told_map None P Q h p = tt
told_map (Some xs) P Q h p = h xs p

-- at the end nothing is left
pub told_at_end : (a : Option (List ℕ)) (P : List ℕ → Type 0) → IsAtEnd a → P [] → IfSome a P
told_at_end None P e p = tt
told_at_end (Some xs) P e p = subst P (sym e) p

-- ---- texts that are taken in part

pub rose_later : (before between now : ℕ) → before ≤ between → Rose between now → Rose before now
rose_later before between now le rose = grind (arith, common_steps, le, rose)

front_later : (a b c : Option (List ℕ)) (written text : List ℕ) → Appends a b written → AppendsFront b c text → AppendsFront a c (written ++ text)
front_later a b c written text w f = (
  length written + f.0,
  grind (arith, common_steps, f.1),
  subst (Appends a c) (sym (take-append-add written text f.0)) (Appends-trans a b c written (take f.0 text) w f.2),
)

part_later : (a b c : Option (List ℕ)) (written text : List ℕ) → Appends a b written → AppendsPart b c text → AppendsPart a c (written ++ text)
part_later a b c written text w f = (
  length written + f.0,
  grind (arith, common_steps, f.1),
  subst (Appends a c) (sym (take-append-add written text f.0)) (Appends-trans a b c written (take f.0 text) w f.2),
)

-- nothing was taken
pub front_nothing : (a b : Option (List ℕ)) (text : List ℕ) → Keeps a b → AppendsFront a b text
front_nothing a b text k = (0, omega arith, Appends-kept a a b [] (Appends-nil a) k)

-- ---- one step after the other

pub went_first : (c : Course) (left taken : Option (List ℕ)) → Went c c left left taken taken
went_first c left taken = record {
  read = [];
  written = [];
  consumed = Consumes-nil left;
  appended = Appends-nil taken;
  text = λ more. refl;
  «end» = λ more. refl;
  may_go_on = λ more. refl;
}

pub went_more : (c c' c'' : Course) (left left' left'' taken taken' taken'' : Option (List ℕ)) → Went c c' left left' taken taken' → Went c' c'' left' left'' taken' taken'' → Went c c'' left left'' taken taken''
went_more c c' c'' left left' left'' taken taken' taken'' a b = record {
  read = a.read ++ b.read;
  written = a.written ++ b.written;
  consumed = Consumes-trans left left' left'' a.read b.read a.consumed b.consumed;
  appended = Appends-trans taken taken' taken'' a.written b.written a.appended b.appended;
  text = λ more. ap c.text (append_assoc a.read b.read more) ∙ a.text (b.read ++ more) ∙ ap (λ (xs : List ℕ). a.written ++ xs) (b.text more) ∙ sym (append_assoc a.written b.written (c''.text more));
  «end» = λ more. ap c.«end» (append_assoc a.read b.read more) ∙ a.«end» (b.read ++ more) ∙ b.«end» more;
  may_go_on = λ more. ap c.may_go_on (append_assoc a.read b.read more) ∙ a.may_go_on (b.read ++ more) ∙ b.may_go_on more;
}

due_later : (c c' : Course) (ending : End → List ℕ) (left left' taken taken' : Option (List ℕ)) (w : Went c c' left left' taken taken') (more : List ℕ) → w.written ++ due c' ending more ≡ due c ending (w.read ++ more)
due_later c c' ending left left' taken taken' w more =
    sym (append_assoc w.written (c'.text more) (ending (c'.«end» more)))
    ∙ ap (λ (xs : List ℕ). xs ++ ending (c'.«end» more)) (sym (w.text more))
    ∙ ap (λ (e : End). c.text (w.read ++ more) ++ ending e) (sym (w.«end» more))

done_later : (c c' : Course) (ending : End → List ℕ) (left left' taken taken' taken'' : Option (List ℕ)) (status : Status) → Went c c' left left' taken taken' → IsDone c' ending left' taken' taken'' status → IsDone c ending left taken taken'' status
done_later c c' ending left left' taken taken' taken'' status w d =
    told_before left left' w.read (λ more. (status ≡ status_of (c.«end» more)) × Appends taken taken'' (due c ending more)) (λ more. (status ≡ status_of (c'.«end» more)) × Appends taken' taken'' (due c' ending more)) w.consumed
    (λ more h. (h.0 ∙ ap status_of (sym (w.«end» more)), subst (Appends taken taken'') (due_later c c' ending left left' taken taken' w more) (Appends-trans taken taken' taken'' w.written (due c' ending more) w.appended h.1)))
    d

-- what becomes of the rest of a course becomes of the whole
pub ends_later : (c c' : Course) (ending : End → List ℕ) (left left' left'' taken taken' taken'' : Option (List ℕ)) (reads reads' reads'' writes writes' writes'' : ℕ) (status : Status) →
    Went c c' left left' taken taken' → reads ≤ reads' → writes ≤ writes' → Ends c' ending left' left'' taken' taken'' reads' reads'' writes' writes'' status → Ends c ending left left'' taken taken'' reads reads'' writes writes'' status
ends_later c c' ending left left' left'' taken taken' taken'' reads reads' reads'' writes writes' writes'' statuses.Ok w r k e = (e.0, done_later c c' ending left left' taken taken' taken'' statuses.Ok w e.1)
ends_later c c' ending left left' left'' taken taken' taken'' reads reads' reads'' writes writes' writes'' statuses.Refused w r k e = done_later c c' ending left left' taken taken' taken'' statuses.Refused w e
ends_later c c' ending left left' left'' taken taken' taken'' reads reads' reads'' writes writes' writes'' statuses.TooLong w r k e = done_later c c' ending left left' taken taken' taken'' statuses.TooLong w e
ends_later c c' ending left left' left'' taken taken' taken'' reads reads' reads'' writes writes' writes'' statuses.ReadFault w r k e = (
  rose_later reads reads' reads'' r e.0,
  record {
    read = w.read ++ e.1.read;
    consumed = Consumes-trans left left' left'' w.read e.1.read w.consumed e.1.consumed;
    may_go_on = w.may_go_on e.1.read ∙ e.1.may_go_on;
    appended = subst (Appends taken taken'') (sym (w.text e.1.read)) (Appends-trans taken taken' taken'' w.written (c'.text e.1.read) w.appended e.1.appended);
  },
)
ends_later c c' ending left left' left'' taken taken' taken'' reads reads' reads'' writes writes' writes'' statuses.WriteFault w r k e = (
  rose_later writes writes' writes'' k e.0,
  told_before left left' w.read (λ more. AppendsPart taken taken'' (due c ending more)) (λ more. AppendsPart taken' taken'' (due c' ending more)) w.consumed
      (λ more h. subst (AppendsPart taken taken'') (due_later c c' ending left left' taken taken' w more) (part_later taken taken' taken'' w.written (due c' ending more) w.appended h)) e.1,
)
ends_later c c' ending left left' left'' taken taken' taken'' reads reads' reads'' writes writes' writes'' statuses.Memory w r k e =
    told_before left left' w.read (λ more. AppendsFront taken taken'' (due c ending more)) (λ more. AppendsFront taken' taken'' (due c' ending more)) w.consumed
    (λ more h. subst (AppendsFront taken taken'') (due_later c c' ending left left' taken taken' w more) (front_later taken taken' taken'' w.written (due c' ending more) w.appended h)) e
ends_later c c' ending left left' left'' taken taken' taken'' reads reads' reads'' writes writes' writes'' statuses.Usage w r k e = absurd e
ends_later c c' ending left left' left'' taken taken' taken'' reads reads' reads'' writes writes' writes'' statuses.NotLegal w r k e = absurd e

pub follows_more : {C : Type 0} (c c' c'' : Course) (ending : End → List ℕ) (left left' left'' taken taken' taken'' : Option (List ℕ)) (reads reads' reads'' writes writes' writes'' : ℕ) (r : ControlFlow Status C) →
    Went c c' left left' taken taken' → reads ≤ reads' → writes ≤ writes' → Follows c' c'' ending left' left'' taken' taken'' reads' reads'' writes' writes'' r → Follows c c'' ending left left'' taken taken'' reads reads'' writes writes'' r
follows_more c c' c'' ending left left' left'' taken taken' taken'' reads reads' reads'' writes writes' writes'' (Continue x) w r k f = went_more c c' c'' left left' left'' taken taken' taken'' w f
follows_more c c' c'' ending left left' left'' taken taken' taken'' reads reads' reads'' writes writes' writes'' (Break status) w r k e = ends_later c c' ending left left' left'' taken taken' taken'' reads reads' reads'' writes writes' writes'' status w r k e

-- nothing is due at first
pub follows_first : {C : Type 0} (c c' : Course) (ending : End → List ℕ) (text : List ℕ) (left left' taken taken' : Option (List ℕ)) (reads reads' writes writes' : ℕ) (r : ControlFlow Status C) →
    text ≡ [] → Follows (after_text text c) c' ending left left' taken taken' reads reads' writes writes' r → Follows c c' ending left left' taken taken' reads reads' writes writes' r
follows_first c c' ending text left left' taken taken' reads reads' writes writes' r empty f = subst (λ (t : List ℕ). Follows (after_text t c) c' ending left left' taken taken' reads reads' writes writes' r) empty f

-- ---- a text that is due

-- it was written
pub went_written : (c : Course) (text text' : List ℕ) (left taken taken' : Option (List ℕ)) → Appends taken taken' text → text' ≡ [] → Went (after_text text c) (after_text text' c) left left taken taken'
went_written c text text' left taken taken' a empty = record {
  read = [];
  written = text;
  consumed = Consumes-nil left;
  appended = a;
  text = λ more. ap (λ (xs : List ℕ). text ++ (xs ++ c.text more)) (sym empty);
  «end» = λ more. refl;
  may_go_on = λ more. refl;
}

-- a part of a text is a part of a longer one
part_further : (a b : Option (List ℕ)) (text more last : List ℕ) → AppendsPart a b text → AppendsPart a b ((text ++ more) ++ last)
part_further a b text more last f = (
  f.0,
  grind (arith, common_steps, f.1),
  subst (Appends a b) (sym (ap (take f.0) (append_assoc text more last) ∙ take-append-le f.0 text (more ++ last) (omega (arith, f.1)))) f.2,
)

-- it was written in part
pub written_in_part : (c : Course) (ending : End → List ℕ) (text : List ℕ) (left taken taken' : Option (List ℕ)) (reads writes writes' : ℕ) → Rose writes writes' → AppendsPart taken taken' text
    → Ends (after_text text c) ending left left taken taken' reads reads writes writes' statuses.WriteFault
written_in_part c ending text left taken taken' reads writes writes' rose part = (
  rose,
  told_each left (λ more. AppendsPart taken taken' (due (after_text text c) ending more)) (λ more. part_further taken taken' text (c.text more) (ending (c.«end» more)) part),
)

-- nothing was written, for want of memory
pub starved : (c : Course) (ending : End → List ℕ) (left taken : Option (List ℕ)) (reads writes : ℕ) → Ends c ending left left taken taken reads reads writes writes statuses.Memory
starved c ending left taken reads writes = told_each left (λ more. AppendsFront taken taken (due c ending more)) (λ more. (0, omega arith, Appends-nil taken))

-- ---- the last text

ended_only : (e : End) → status_of e ≡ statuses.Ok → e ≡ ends.Ended
unfolding status_of
ended_only ends.Ended h = refl
ended_only (ends.Malformed reason at) h = absurd cc
ended_only ends.TooLong h = absurd cc

-- the course is at this end, with this text still to be written, for all that the source tells
abbrev pub IsLast : Course → Option (List ℕ) → End → List ℕ → Type 0
IsLast c left e text = IfSome left (λ more. (c.«end» more ≡ e) × (c.text more ≡ text))

due_last : (c : Course) (ending : End → List ℕ) (e : End) (text more : List ℕ) → (c.«end» more ≡ e) × (c.text more ≡ text) → text ++ ending e ≡ due c ending more
due_last c ending e text more h = ap (λ (xs : List ℕ). xs ++ ending e) (sym h.1) ∙ ap (λ (f : End). c.text more ++ ending f) (sym h.0)

done_last : (c : Course) (ending : End → List ℕ) (left taken taken' : Option (List ℕ)) (e : End) (text : List ℕ) (status : Status) → IsLast c left e text → status_of e ≡ status → Appends taken taken' (text ++ ending e) → IsDone c ending left taken taken' status
done_last c ending left taken taken' e text status last is a =
    told_map left (λ more. (c.«end» more ≡ e) × (c.text more ≡ text)) (λ more. (status ≡ status_of (c.«end» more)) × Appends taken taken' (due c ending more))
    (λ more h. (sym is ∙ ap status_of (sym h.0), subst (Appends taken taken') (due_last c ending e text more h) a)) last

-- the last text was written, or not
pub ends_last : (c : Course) (ending : End → List ℕ) (left left' taken taken' : Option (List ℕ)) (reads reads' writes writes' : ℕ) (e : End) (text : List ℕ) (status : Status) →
    IsLast c left e text → (e ≡ ends.Ended → IsAtEnd left') → Writes (text ++ ending e) (status_of e) taken taken' writes writes' status → Ends c ending left left' taken taken' reads reads' writes writes' status
ends_last c ending left left' taken taken' reads reads' writes writes' e text statuses.Ok last end w = (end (ended_only e w.0), done_last c ending left taken taken' e text statuses.Ok last w.0 w.1)
ends_last c ending left left' taken taken' reads reads' writes writes' e text statuses.Refused last end w = done_last c ending left taken taken' e text statuses.Refused last w.0 w.1
ends_last c ending left left' taken taken' reads reads' writes writes' e text statuses.TooLong last end w = done_last c ending left taken taken' e text statuses.TooLong last w.0 w.1
ends_last c ending left left' taken taken' reads reads' writes writes' e text statuses.WriteFault last end w = (
  w.0,
  told_map left (λ more. (c.«end» more ≡ e) × (c.text more ≡ text)) (λ more. AppendsPart taken taken' (due c ending more)) (λ more h. subst (AppendsPart taken taken') (due_last c ending e text more h) w.1) last,
)
ends_last c ending left left' taken taken' reads reads' writes writes' e text statuses.Memory last end w = told_each left (λ more. AppendsFront taken taken' (due c ending more)) (λ more. front_nothing taken taken' (due c ending more) w)
ends_last c ending left left' taken taken' reads reads' writes writes' e text statuses.ReadFault last end w = absurd w
ends_last c ending left left' taken taken' reads reads' writes writes' e text statuses.Usage last end w = absurd w
ends_last c ending left left' taken taken' reads reads' writes writes' e text statuses.NotLegal last end w = absurd w

-- ---- what was read

pub took_more : (p p' p'' : PendingView) (left left' left'' : Option (List ℕ)) → Took p p' left left' → Took p' p'' left' left'' → Took p p'' left left''
took_more p p' p'' left left' left'' a b = record {
  read = a.read ++ b.read;
  consumed = Consumes-trans left left' left'' a.read b.read a.consumed b.consumed;
  counted = omega (arith, a.counted, b.counted, length-append a.read b.read);
  within = b.within;
}
