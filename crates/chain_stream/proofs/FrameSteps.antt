-- A stream's frames, one after another.
use Rattle.std.proofs.Common.{◌≡◌, ◌∙◌, ap, subst, refl, ℕ, zero, suc, ◌+◌, ◌-◌, ◌<◌, ◌≤◌, List, [], ◌∷◌, Bool, length, take, drop, arith, length-drop}
use Rattle.std.proofs.Math.Seq.{take-nil}
use Rattle.chain_stream.specs.declared.frames.Lead.{Lead}
use Rattle.chain_stream.specs.declared.frames.Lead.TheVariants as leads
use Rattle.chain_stream.specs.Frames.{Frame, Frames, limit, is_longer, lead, cut_at, onto, lead_len, lead_at, frames_within, frames_from, frame_of}

cut_same : (f : Lead) (longer : Bool) (at : ℕ) (rest : List ℕ) (a b : Frames) → (1 ≤ lead_len f → a ≡ b) → cut_at f longer at rest a ≡ cut_at f longer at rest b
unfolding lead_len
cut_same (leads.Chain parts readable room) longer at rest a b e = ap (onto _) (e (omega arith))
cut_same (leads.Load moffset len) longer at rest a b e = ap (onto _) (e (omega arith))
cut_same (leads.Store moffset len) longer at rest a b e = ap (onto _) (e (omega arith))
cut_same (leads.Bad reason) longer at rest a b e = refl
cut_same leads.Cut longer at rest a b e = refl
cut_same leads.Nothing longer at rest a b e = refl

-- no frame is in no bytes
nonempty : (at : ℕ) (rest : List ℕ) → 1 ≤ lead_len (lead_at at rest) → 1 ≤ length rest
unfolding lead lead_len
nonempty at [] h =
    let P : List ℕ → Type 0 = λ b. 1 ≤ lead_len (lead b) in
    let e : 1 ≤ lead_len (lead []) = subst P (take-nil (limit - at)) h in
    absurd (omega (arith, e))
nonempty at (x ∷ xs) h = omega arith

shorter : (n len : ℕ) (rest : List ℕ) → length rest < suc n → 1 ≤ len → 1 ≤ length rest → length (drop len rest) < n
shorter n len rest h l r = rw (length-drop len rest) (omega (arith, h, l, r))

frames_more : (n m at : ℕ) (rest : List ℕ) → length rest < n → length rest < m → frames_within n at rest ≡ frames_within m at rest
unfolding frames_within
frames_more zero m at rest h k = absurd (omega (arith, h))
frames_more (suc n) zero at rest h k = absurd (omega (arith, k))
frames_more (suc n) (suc m) at rest h k =
    let len = lead_len (lead_at at rest) in
    cut_same (lead_at at rest) (is_longer at rest) at rest (frames_within n (at + len) (drop len rest)) (frames_within m (at + len) (drop len rest))
    λ pos. frames_more n m (at + len) (drop len rest) (shorter n len rest h pos (nonempty at rest pos)) (shorter m len rest k pos (nonempty at rest pos))

cut_whole : (f : Lead) (longer : Bool) (at : ℕ) (rest : List ℕ) (more : Frames) → 1 ≤ lead_len f → cut_at f longer at rest more ≡ onto (record { lead = f; bytes = take (lead_len f) rest }) more
unfolding lead_len
cut_whole (leads.Chain parts readable room) longer at rest more h = refl
cut_whole (leads.Load moffset len) longer at rest more h = refl
cut_whole (leads.Store moffset len) longer at rest more h = refl
cut_whole (leads.Bad reason) longer at rest more h = absurd (omega (arith, h))
cut_whole leads.Cut longer at rest more h = absurd (omega (arith, h))
cut_whole leads.Nothing longer at rest more h = absurd (omega (arith, h))

abbrev pub frame_at : ℕ → List ℕ → Frame
frame_at at rest = frame_of (lead_at at rest) rest

-- a whole frame, and what follows it
pub frames_step : (at : ℕ) (rest : List ℕ) → 1 ≤ lead_len (lead_at at rest) → frames_from at rest ≡ onto (frame_at at rest) (frames_from (at + lead_len (lead_at at rest)) (drop (lead_len (lead_at at rest)) rest))
unfolding frames_within frames_from
frames_step at rest h =
    let len = lead_len (lead_at at rest) in
    cut_whole (lead_at at rest) (is_longer at rest) at rest (frames_within (length rest) (at + len) (drop len rest)) h
    ∙ ap (onto (frame_at at rest)) (frames_more (length rest) (suc (length (drop len rest))) (at + len) (drop len rest) (shorter (length rest) len rest (omega arith) h (nonempty at rest h)) (omega arith))
