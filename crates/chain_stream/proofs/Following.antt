-- What is due where no whole frame follows.
use Rattle.std.proofs.Common.{◌≡◌, ◌∙◌, ap, sym, subst, refl, ℕ, ◌+◌, ◌<◌, ◌≤◌, true, false, true≢false, List, [], ◌++◌, length, Option, Some, None, IfSome, arith, append-nil}
use Rattle.std.proofs.lemmas.List.{nil_from_length}
use Rattle.std.proofs.lemmas.Grind.{common_steps}
use Rattle.std.proofs.KnownBytes.{Appends-nil}
use Rattle.std.specs.Io.KnownBytes.{Appends, Consumes, IsAtEnd}
use Rattle.program_io.specs.declared.statuses.Status.{Status}
use Rattle.chain_stream.specs.declared.frames.Lead.{Lead}
use Rattle.chain_stream.specs.declared.frames.Lead.TheVariants as leads
use Rattle.chain_stream.specs.declared.frames.Reason.{Reason}
use Rattle.chain_stream.specs.declared.frames.End.{End}
use Rattle.chain_stream.specs.declared.frames.End.TheVariants as ends
use Rattle.chain_stream.specs.Frames.{Frame, Frames, limit, lead_at, lead_len, frames_from, is_decided, no_more}
use Rattle.chain_stream.specs.Courses.{PendingView, IsUndecided, Ends, IsCutOff, Writes, after_text, course_from, is_open, open_end, status_of}
use Rattle.chain_stream.proofs.CourseLaws.{told_before, told_each, ends_last}
use Rattle.chain_stream.proofs.StreamEnds.{frames_bad, frames_long, frames_ended}

pub told_nothing : (a : Option (List ℕ)) → IsAtEnd a → IfSome a (λ (more : List ℕ). more ≡ [])
told_nothing None h = tt
told_nothing (Some xs) h = h

open_is_open : (f : Lead) (at : ℕ) → is_decided f ≡ false → is_open (open_end f at) ≡ true
unfolding is_decided is_open open_end
open_is_open (leads.Chain parts readable room) at h = absurd (true≢false h)
open_is_open (leads.Load moffset len) at h = absurd (true≢false h)
open_is_open (leads.Store moffset len) at h = absurd (true≢false h)
open_is_open (leads.Bad reason) at h = absurd (true≢false h)
open_is_open leads.Cut at h = refl
open_is_open leads.Nothing at h = refl

-- no whole frame and no malformed one
pub open_lead : (f : Lead) → lead_len f ≡ 0 → ((r : Reason) → f ≡ leads.Bad r → ⊥) → is_decided f ≡ false
unfolding lead_len is_decided
open_lead (leads.Chain parts readable room) h k = absurd (omega (arith, h))
open_lead (leads.Load moffset len) h k = absurd (omega (arith, h))
open_lead (leads.Store moffset len) h k = absurd (omega (arith, h))
open_lead (leads.Bad reason) h k = absurd (k reason refl)
open_lead leads.Cut h k = refl
open_lead leads.Nothing h k = refl

-- the text that is due is all of the course's, where no more frames follow
last_frames : (says : List Frame → List ℕ) (p : PendingView) (text : List ℕ) (e : End) → says [] ≡ [] → ((more : List ℕ) → frames_from p.at (p.rest ++ more) ≡ no_more e)
    → (more : List ℕ) → ((after_text text (course_from says p)).«end» more ≡ e) × ((after_text text (course_from says p)).text more ≡ text)
last_frames says p text e quiet last more = (
  ap (λ (fs : Frames). fs.«end») (last more),
  ap (λ (fs : Frames). text ++ says fs.whole) (last more) ∙ ap (λ (xs : List ℕ). text ++ xs) quiet ∙ append-nil text,
)

-- at a malformed frame
pub ends_bad : (says : List Frame → List ℕ) (ending : End → List ℕ) (p : PendingView) (text : List ℕ) (left taken taken' : Option (List ℕ)) (reads writes writes' : ℕ) (at : ℕ) (r : Reason) (status : Status) →
    says [] ≡ [] → at ≡ p.at → leads.Bad r ≡ lead_at p.at p.rest → Writes (text ++ ending (ends.Malformed r at)) (status_of (ends.Malformed r at)) taken taken' writes writes' status
    → Ends (after_text text (course_from says p)) ending left left taken taken' reads reads writes writes' status
ends_bad says ending p text left taken taken' reads writes writes' at r status quiet place bad w =
    let c = after_text text (course_from says p) in
    let e = ends.Malformed r at in
    ends_last c ending left left taken taken' reads reads writes writes' e text status
    (told_each left (λ more. (c.«end» more ≡ e) × (c.text more ≡ text)) (last_frames says p text e quiet (λ more. frames_bad p.at p.rest more r bad ∙ ap (λ n. no_more (ends.Malformed r n)) (sym place))))
    (λ h. absurd cc) w

-- behind the limit
pub ends_long : (says : List Frame → List ℕ) (ending : End → List ℕ) (p : PendingView) (text : List ℕ) (left taken taken' : Option (List ℕ)) (reads writes writes' : ℕ) (f : Lead) (status : Status) →
    says [] ≡ [] → p.at ≤ limit → limit < p.at + length p.rest → f ≡ lead_at p.at p.rest → is_decided f ≡ false → Writes (text ++ ending ends.TooLong) (status_of ends.TooLong) taken taken' writes writes' status
    → Ends (after_text text (course_from says p)) ending left left taken taken' reads reads writes writes' status
ends_long says ending p text left taken taken' reads writes writes' f status quiet within long begun undecided w =
    let c = after_text text (course_from says p) in
    ends_last c ending left left taken taken' reads reads writes writes' ends.TooLong text status
    (told_each left (λ more. (c.«end» more ≡ ends.TooLong) × (c.text more ≡ text)) (last_frames says p text ends.TooLong quiet (λ more. frames_long p.at p.rest more f within long begun undecided)))
    (λ h. absurd cc) w

-- ---- at the end of what the source gives

no_bytes : (p q : PendingView) (read : List ℕ) → q ≡ record p { rest = p.rest ++ read } → length q.rest ≡ length p.rest + 0 → read ≡ []
no_bytes p q read e len = nil_from_length read (grind (arith, common_steps, ap (λ (v : PendingView). length v.rest) e, len))

-- the stream ended
pub ends_here : (says : List Frame → List ℕ) (ending : End → List ℕ) (p q : PendingView) (f : Lead) (text read : List ℕ) (left left' taken taken' : Option (List ℕ)) (reads reads' writes writes' : ℕ) (at : ℕ) (e : End) (status : Status) →
    IsUndecided p f → says [] ≡ [] → text ≡ [] → q ≡ record p { rest = p.rest ++ read } → Consumes left left' read → length q.rest ≡ length p.rest + 0 → IsAtEnd left' → at ≡ q.at
    → e ≡ open_end f at → Writes (text ++ ending e) (status_of e) taken taken' writes writes' status → Ends (course_from says p) ending left left' taken taken' reads reads' writes writes' status
ends_here says ending p q f text read left left' taken taken' reads reads' writes writes' at e status u quiet empty more consumed none end place is w =
    let c = course_from says p in
    let nothing = no_bytes p q read more none in
    let place' : at ≡ p.at = place ∙ ap (λ (v : PendingView). v.at) more in
    let last : (rest : List ℕ) → rest ≡ [] → frames_from p.at (p.rest ++ (read ++ rest)) ≡ no_more e =
    λ rest k. ap (frames_from p.at) (ap (λ (xs : List ℕ). p.rest ++ (xs ++ rest)) nothing ∙ ap (λ (xs : List ℕ). p.rest ++ xs) k ∙ append-nil p.rest) ∙ frames_ended p f u ∙ ap (λ n. no_more (open_end f n)) (sym place') ∙ ap no_more (sym is) in
    ends_last c ending left left' taken taken' reads reads' writes writes' e text status
    (told_before left left' read (λ rest. (c.«end» rest ≡ e) × (c.text rest ≡ text)) (λ rest. rest ≡ []) consumed
    (λ rest k. (ap (λ (fs : Frames). fs.«end») (last rest k), ap (λ (fs : Frames). says fs.whole) (last rest k) ∙ quiet ∙ sym empty)) (told_nothing left' end))
    (λ h. end) w

-- the source failed
pub cut_off : (says : List Frame → List ℕ) (p q : PendingView) (f : Lead) (read : List ℕ) (left left' taken : Option (List ℕ)) →
    IsUndecided p f → says [] ≡ [] → q ≡ record p { rest = p.rest ++ read } → Consumes left left' read → q ≡ p → IsCutOff (course_from says p) left left' taken taken
cut_off says p q f read left left' taken u quiet more consumed same =
    let nothing = no_bytes p q read more (grind (arith, common_steps, ap (λ (v : PendingView). length v.rest) same)) in
    let last : frames_from p.at (p.rest ++ read) ≡ no_more (open_end f p.at) = ap (frames_from p.at) (ap (λ (xs : List ℕ). p.rest ++ xs) nothing ∙ append-nil p.rest) ∙ frames_ended p f u in
    record {
      read = read;
      consumed = consumed;
      may_go_on = ap (λ (fs : Frames). is_open fs.«end») last ∙ open_is_open f p.at u.undecided;
      appended = subst (Appends taken taken) (sym (ap (λ (fs : Frames). says fs.whole) last ∙ quiet)) (Appends-nil taken);
    }
