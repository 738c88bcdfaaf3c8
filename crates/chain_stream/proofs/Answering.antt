-- What frames that were answered leave to be said.
use Rattle.std.proofs.Common.{◌≡◌, ◌∙◌, ap, sym, subst, refl, ℕ, zero, suc, ◌+◌, ◌-◌, ◌≤◌, true, List, [], ◌∷◌, ◌++◌, length, take, drop, min, Option, arith}
use Rattle.std.proofs.lemmas.List.{drop-append-le, take-append-le, take_min, length-take}
use Rattle.chain_stream.specs.declared.frames.Lead.{Lead}
use Rattle.chain_stream.specs.declared.frames.Lead.TheVariants as leads
use Rattle.chain_stream.specs.Frames.{Frame, Frames, limit, lead, lead_at, lead_len, frame_of, frames_from, is_decided, onto}
use Rattle.std.proofs.KnownBytes.{Appends-nil, Consumes-nil}
use Rattle.chain_stream.specs.Courses.{PendingView, Answers, Went, after_text, course_from, is_open}
use Rattle.chain_stream.proofs.FrameSteps.{frames_step}
use Rattle.chain_stream.proofs.Stable.{lead_stable}

whole_decided : (f : Lead) → 1 ≤ lead_len f → is_decided f ≡ true
unfolding lead_len is_decided
whole_decided (leads.Chain parts readable room) h = refl
whole_decided (leads.Load moffset len) h = refl
whole_decided (leads.Store moffset len) h = refl
whole_decided (leads.Bad reason) h = absurd (omega (arith, h))
whole_decided leads.Cut h = absurd (omega (arith, h))
whole_decided leads.Nothing h = absurd (omega (arith, h))

-- a front of two lists begins with the same front of the first one
pub take_of_both : (n : ℕ) (xs ys : List ℕ) → (zs : List ℕ) × (take n (xs ++ ys) ≡ take n xs ++ zs)
take_of_both zero xs ys = ([], refl)
take_of_both (suc n) [] ys = (take (suc n) ys, refl)
take_of_both (suc n) (x ∷ xs) ys = let r = take_of_both n xs ys in (r.0, ap (λ (l : List ℕ). x ∷ l) r.1)

-- what pending bytes begin with stays, whatever is read behind them
pub lead_at_stable : (at : ℕ) (rest more : List ℕ) → is_decided (lead_at at rest) ≡ true → lead_at at (rest ++ more) ≡ lead_at at rest
lead_at_stable at rest more h =
    let both = take_of_both (limit - at) rest more in
    ap lead both.1 ∙ lead_stable (take (limit - at) rest) both.0 h

-- the lead of what is seen of the bytes is that of the bytes up to the limit
pub lead_begun : (p : PendingView) (rest seen : List ℕ) (n : ℕ) (f : Lead) → rest ≡ p.rest → n ≡ min (limit - p.at) (length rest) → seen ≡ take n rest → f ≡ lead seen → f ≡ lead_at p.at p.rest
lead_begun p rest seen n f er en es ef = ef ∙ ap lead (es ∙ ap (λ k. take k rest) en ∙ take_min (limit - p.at) rest) ∙ ap (lead_at p.at) er

-- a frame that is answered, and then what follows it
pub answer_step : (says says' : List Frame → List ℕ) (p : PendingView) (len : ℕ) (text text' : List ℕ) (f : Lead) →
    f ≡ lead_at p.at p.rest → len ≡ lead_len f → 1 ≤ len → len ≤ length p.rest →
    ((more : List Frame) → text ++ says (record { lead = f; bytes = take len p.rest } ∷ more) ≡ text' ++ says' more) →
    Answers says says' p (record { rest = drop len p.rest; at = p.at + len }) text text'
answer_step says says' p len text text' f ef el pos le said =
    let stays : (more : List ℕ) → lead_at p.at (p.rest ++ more) ≡ f =
    λ more. lead_at_stable p.at p.rest more (subst (λ (g : Lead). is_decided g ≡ true) ef (whole_decided f (subst (λ n. 1 ≤ n) el pos))) ∙ sym ef in
    let step : (more : List ℕ) → frames_from p.at (p.rest ++ more) ≡ record { whole = record { lead = f; bytes = take len p.rest } ∷ (frames_from (p.at + len) (drop len p.rest ++ more)).whole; «end» = (frames_from (p.at + len) (drop len p.rest ++ more)).«end» } =
    λ more.
    let all = p.rest ++ more in
    let whole : 1 ≤ lead_len (lead_at p.at all) = subst (λ (g : Lead). 1 ≤ lead_len g) (sym (stays more)) (subst (λ n. 1 ≤ n) el pos) in
    frames_step p.at all whole
    ∙ ap (λ (g : Lead). onto (frame_of g all) (frames_from (p.at + lead_len g) (drop (lead_len g) all))) (stays more)
    ∙ ap (λ n. onto (record { lead = f; bytes = take n all }) (frames_from (p.at + n) (drop n all))) (sym el)
    ∙ ap (λ (b : List ℕ). onto (record { lead = f; bytes = b }) (frames_from (p.at + len) (drop len all))) (take-append-le len p.rest more le)
    ∙ ap (λ (b : List ℕ). onto (record { lead = f; bytes = take len p.rest }) (frames_from (p.at + len) b)) (drop-append-le len p.rest more le) in
    record {
      text_is = λ more. ap (λ (fs : Frames). text ++ says fs.whole) (step more) ∙ said (frames_from (p.at + len) (drop len p.rest ++ more)).whole;
      end_is = λ more. ap (λ (fs : Frames). fs.«end») (step more);
    }

-- the frame that the bytes at an offset begin with was answered, by the values that the code has
pub answers_frame : (says says' : List Frame → List ℕ) (p q : PendingView) (rest seen bytes : List ℕ) (n len : ℕ) (text text' : List ℕ) (f : Lead) →
    rest ≡ p.rest → n ≡ min (limit - p.at) (length rest) → seen ≡ take n rest → f ≡ lead seen → len ≡ lead_len f → len ≤ length seen → 1 ≤ len → bytes ≡ take len rest → q ≡ record { rest = drop len p.rest; at = p.at + len } →
    ((more : List Frame) → text ++ says (record { lead = f; bytes = bytes } ∷ more) ≡ text' ++ says' more) → Answers says says' p q text text'
answers_frame says says' p q rest seen bytes n len text text' f er en es ef el le pos eb eq said =
    let fits : len ≤ length p.rest = omega (arith, le, ap length es, length-take n rest, ap length er) in
    let framed : (more : List Frame) → text ++ says (record { lead = f; bytes = take len p.rest } ∷ more) ≡ text' ++ says' more =
    subst (λ (b : List ℕ). (more : List Frame) → text ++ says (record { lead = f; bytes = b } ∷ more) ≡ text' ++ says' more) (eb ∙ ap (take len) er) said in
    subst (λ (v : PendingView). Answers says says' p v text text') (sym eq)
    (answer_step says says' p len text text' f (lead_begun p rest seen n f er en es ef) el pos fits framed)

-- frames that were answered leave the course, with the text that is due
pub went_answered : (says says' : List Frame → List ℕ) (p p' : PendingView) (text text' : List ℕ) (left taken : Option (List ℕ)) → Answers says says' p p' text text'
    → Went (after_text text (course_from says p)) (after_text text' (course_from says' p')) left left taken taken
went_answered says says' p p' text text' left taken a = record {
  read = [];
  written = [];
  consumed = Consumes-nil left;
  appended = Appends-nil taken;
  text = λ more. a.text_is more;
  «end» = λ more. a.end_is more;
  may_go_on = λ more. ap is_open (a.end_is more);
}
