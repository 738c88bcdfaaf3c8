-- What a stream's frames are where no whole frame follows.
use Rattle.std.proofs.Common.{◌≡◌, ◌∙◌, ap, sym, subst, refl, ℕ, ◌+◌, ◌-◌, ◌<◌, ◌≤◌, Bool, true, false, true≢false, List, ◌++◌, length, drop, arith, if◌then◌else◌}
use Rattle.std.proofs.lemmas.List.{take-append-le}
use Rattle.std.proofs.lemmas.Grind.{common_steps}
use Rattle.chain_stream.specs.declared.frames.Lead.{Lead}
use Rattle.chain_stream.specs.declared.frames.Lead.TheVariants as leads
use Rattle.chain_stream.specs.declared.frames.Reason.{Reason}
use Rattle.chain_stream.specs.declared.frames.End.TheVariants as ends
use Rattle.chain_stream.specs.Frames.{Frames, limit, lead, lead_at, lead_len, frames_from, frames_within, is_decided, is_longer, cut_at, no_more}
use Rattle.chain_stream.specs.Courses.{PendingView, IsUndecided, open_end}
use Rattle.chain_stream.proofs.Answering.{lead_at_stable}

-- at no frame that could be one, whatever follows
pub frames_bad : (at : ℕ) (rest more : List ℕ) (r : Reason) → leads.Bad r ≡ lead_at at rest → frames_from at (rest ++ more) ≡ no_more (ends.Malformed r at)
unfolding frames_from frames_within is_decided
frames_bad at rest more r e =
    let all = rest ++ more in
    let len = lead_len (lead_at at all) in
    let stays : lead_at at all ≡ leads.Bad r = lead_at_stable at rest more (subst (λ (f : Lead). is_decided f ≡ true) e refl) ∙ sym e in
    ap (λ (f : Lead). cut_at f (is_longer at all) at all (frames_within (length all) (at + len) (drop len all))) stays

cut_open : (f : Lead) (longer : Bool) (at : ℕ) (rest : List ℕ) (more : Frames) → is_decided f ≡ false → cut_at f longer at rest more ≡ no_more (if longer then ends.TooLong else open_end f at)
unfolding is_decided open_end
cut_open (leads.Chain parts readable room) longer at rest more h = absurd (true≢false h)
cut_open (leads.Load moffset len) longer at rest more h = absurd (true≢false h)
cut_open (leads.Store moffset len) longer at rest more h = absurd (true≢false h)
cut_open (leads.Bad reason) longer at rest more h = absurd (true≢false h)
cut_open leads.Cut true at rest more h = refl
cut_open leads.Cut false at rest more h = refl
cut_open leads.Nothing true at rest more h = refl
cut_open leads.Nothing false at rest more h = refl

frames_open : (at : ℕ) (rest : List ℕ) (f : Lead) (longer : Bool) → f ≡ lead_at at rest → is_longer at rest ≡ longer → is_decided f ≡ false → frames_from at rest ≡ no_more (if longer then ends.TooLong else open_end f at)
unfolding frames_from frames_within
frames_open at rest f longer e l h =
    let len = lead_len (lead_at at rest) in
    ap (λ (g : Lead). cut_at g (is_longer at rest) at rest (frames_within (length rest) (at + len) (drop len rest))) (sym e)
    ∙ ap (λ (b : Bool). cut_at f b at rest (frames_within (length rest) (at + len) (drop len rest))) l
    ∙ cut_open f longer at rest (frames_within (length rest) (at + len) (drop len rest)) h

-- behind the limit, whatever follows
pub frames_long : (at : ℕ) (rest more : List ℕ) (f : Lead) → at ≤ limit → limit < at + length rest → f ≡ lead_at at rest → is_decided f ≡ false → frames_from at (rest ++ more) ≡ no_more ends.TooLong
frames_long at rest more f within long e h =
    frames_open at (rest ++ more) f true (e ∙ sym (ap lead (take-append-le (limit - at) rest more (omega (arith, within, long))))) (grind (arith, common_steps, long)) h

-- at the end of the input
pub frames_ended : (p : PendingView) (f : Lead) → IsUndecided p f → frames_from p.at p.rest ≡ no_more (open_end f p.at)
frames_ended p f u = frames_open p.at p.rest f false u.lead_is (grind (arith, common_steps, u.within)) u.undecided
