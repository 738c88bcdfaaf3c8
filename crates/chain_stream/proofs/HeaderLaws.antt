-- The course of a whole stream, by what was read of its header.
use Rattle.std.proofs.Common.{◌≡◌, ◌∙◌, ap, sym, subst, ℕ, ◌<◌, ◌≤◌, Bool, true, false, List, [], ◌++◌, length, take, drop, Option, arith, append-nil, inl, inr, ◌&&◌, ◌||◌, nat_lt, nat_le, if◌then◌else◌}
use Rattle.std.specs.Prelude.{codes}
use Rattle.std.specs.Str.{bytes_eq}
use Rattle.std.proofs.lemmas.Grind.{common_steps}
use Rattle.std.proofs.lemmas.List.{take-append-le, drop-append-le}
use Rattle.std.proofs.KnownBytes.{Appends-nil}
use Rattle.std.specs.Io.KnownBytes.{Appends}
use Rattle.fuse_wire.specs.Records.{u32_at}
use Rattle.chain_stream.specs.declared.frames.End.TheVariants as ends
use Rattle.chain_stream.specs.declared.frames.Reason.TheVariants as reasons
use Rattle.chain_stream.specs.Frames.{Frame, Frames, frames, frames_from, header_len, is_header, no_more}
use Rattle.chain_stream.specs.Courses.{PendingView, Went, IsCutOff, course_by, course_from, is_open}
use Rattle.chain_stream.specs.Headers.{IsHeaded, IsUnheaded, IsWaiting}
use Rattle.chain_stream.proofs.CourseLaws.{IsLast, told_before, told_each}
use Rattle.chain_stream.proofs.Following.{told_nothing}
use Rattle.chain_stream.proofs.Stable.{u32_append}

-- what stands behind the header doesn't change it
header_stays : (bytes more : List ℕ) → header_len ≤ length bytes → is_header (bytes ++ more) ≡ is_header bytes
unfolding is_header
header_stays bytes more long =
    let grown : nat_le header_len (length (bytes ++ more)) ≡ nat_le header_len (length bytes) = grind (arith, common_steps, long) in
    ap (λ (b : Bool). b && bytes_eq (take 8 (bytes ++ more)) (codes "DAXWIRE1") && nat_le (u32_at (bytes ++ more) 8) 131072) grown
    ∙ ap (λ (name : List ℕ). nat_le header_len (length bytes) && bytes_eq name (codes "DAXWIRE1") && nat_le (u32_at (bytes ++ more) 8) 131072) (take-append-le 8 bytes more (omega (arith, long)))
    ∙ ap (λ n. nat_le header_len (length bytes) && bytes_eq (take 8 bytes) (codes "DAXWIRE1") && nat_le n 131072) (u32_append bytes more 8 (omega (arith, long)))

-- too few bytes are no header
pub short_header : (bytes : List ℕ) → length bytes < header_len → is_header bytes ≡ false
unfolding is_header
short_header bytes short =
    let few : nat_le header_len (length bytes) ≡ false = grind (arith, common_steps, short) in
    ap (λ (b : Bool). b && bytes_eq (take 8 bytes) (codes "DAXWIRE1") && nat_le (u32_at bytes 8) 131072) few

header_long : (bytes : List ℕ) → is_header bytes ≡ true → header_len ≤ length bytes
unfolding is_header
header_long bytes h = grind (arith, common_steps, h)

frames_unheaded : (input : List ℕ) → is_header input ≡ false → frames input ≡ no_more (ends.Malformed reasons.Header 0)
unfolding frames
frames_unheaded input h = ap (λ (b : Bool). if b then frames_from header_len (drop header_len input) else no_more (ends.Malformed reasons.Header 0)) h

frames_headed : (input : List ℕ) → is_header input ≡ true → frames input ≡ frames_from header_len (drop header_len input)
unfolding frames
frames_headed input h = ap (λ (b : Bool). if b then frames_from header_len (drop header_len input) else no_more (ends.Malformed reasons.Header 0)) h

not_short : (bytes more : List ℕ) → header_len ≤ length bytes → nat_lt (length (bytes ++ more)) header_len ≡ false
not_short bytes more long = grind (arith, common_steps, long)

is_short : (bytes : List ℕ) → length bytes < header_len → nat_lt (length bytes) header_len ≡ true
is_short bytes short = grind (arith, common_steps, short)

-- behind the header the course is that of the frames
pub headed_went : (says : ℕ → List Frame → List ℕ) (left left' taken : Option (List ℕ)) (p : PendingView) (pages : ℕ) → IsHeaded left left' p pages → Went (course_by says) (course_from (says pages) p) left left' taken taken
headed_went says left left' taken p pages h =
    let long = header_long h.bytes h.header in
    let same : (more : List ℕ) → frames (h.bytes ++ more) ≡ frames_from p.at (p.rest ++ more) =
    λ more. frames_headed (h.bytes ++ more) (header_stays h.bytes more long ∙ h.header)
    ∙ ap (frames_from header_len) (drop-append-le header_len h.bytes more long)
    ∙ ap (λ (v : PendingView). frames_from v.at (v.rest ++ more)) (sym h.rest) in
    record {
      read = h.bytes;
      written = [];
      consumed = h.consumed;
      appended = Appends-nil taken;
      text = λ more. ap (λ n. says n (frames (h.bytes ++ more)).whole) (u32_append h.bytes more 8 (omega (arith, long)) ∙ sym h.pages_is) ∙ ap (λ (fs : Frames). says pages fs.whole) (same more);
      «end» = λ more. ap (λ (fs : Frames). fs.«end») (same more);
      may_go_on = λ more. ap (λ (b : Bool). b || is_open (frames (h.bytes ++ more)).«end») (not_short h.bytes more long) ∙ ap (λ (fs : Frames). is_open fs.«end») (same more);
    }

-- a stream that isn't one
pub unheaded_last : (says : ℕ → List Frame → List ℕ) (left left' : Option (List ℕ)) → ((pages : ℕ) → says pages [] ≡ []) → IsUnheaded left left' → IsLast (course_by says) left (ends.Malformed reasons.Header 0) []
unheaded_last says left left' quiet h =
    let c = course_by says in
    let e = ends.Malformed reasons.Header 0 in
    let last : (input : List ℕ) → is_header input ≡ false → (c.«end» input ≡ e) × (c.text input ≡ []) =
    λ input k. (ap (λ (fs : Frames). fs.«end») (frames_unheaded input k), ap (λ (fs : Frames). says (u32_at input 8) fs.whole) (frames_unheaded input k) ∙ quiet (u32_at input 8)) in
    elim h.whole [
      | inl long ↦ told_before left left' h.bytes (λ more. (c.«end» more ≡ e) × (c.text more ≡ [])) (λ more. Unit {0}) h.consumed (λ more k. last (h.bytes ++ more) (header_stays h.bytes more long ∙ h.no_header)) (told_each left' (λ more. Unit {0}) (λ more. tt))
      | inr end ↦ told_before left left' h.bytes (λ more. (c.«end» more ≡ e) × (c.text more ≡ [])) (λ more. more ≡ []) h.consumed (λ more k. last (h.bytes ++ more) (ap is_header (ap (λ (xs : List ℕ). h.bytes ++ xs) k ∙ append-nil h.bytes) ∙ h.no_header)) (told_nothing left' end)
    ]

-- the source failed within the header
pub waiting_cut_off : (says : ℕ → List Frame → List ℕ) (left left' taken : Option (List ℕ)) → ((pages : ℕ) → says pages [] ≡ []) → IsWaiting left left' → IsCutOff (course_by says) left left' taken taken
waiting_cut_off says left left' taken quiet h = record {
  read = h.bytes;
  consumed = h.consumed;
  may_go_on = ap (λ (b : Bool). b || is_open (frames h.bytes).«end») (is_short h.bytes h.short);
  appended = subst (Appends taken taken) (sym (ap (λ (fs : Frames). says (u32_at h.bytes 8) fs.whole) (frames_unheaded h.bytes (short_header h.bytes h.short)) ∙ quiet (u32_at h.bytes 8))) (Appends-nil taken);
}
