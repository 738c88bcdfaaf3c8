-- A chain stream: the frame that bytes begin with, and the frames of a whole input.
use Rattle.std.specs.Prelude.{ℕ, zero, suc, ◌+◌, ◌-◌, ◌*◌, ◌≤◌, ◌==◌, Bool, true, false, ◌||◌, ◌&&◌, nat_lt, nat_le, List, [], ◌∷◌, length, map, sum, take, drop, codes, if◌then◌else◌}
use Rattle.std.specs.List.{range_with_len}
use Rattle.std.specs.Str.{bytes_eq}
use Rattle.plain_file.specs.Limits.{max_part, max_transfer}
use Rattle.fuse_wire.specs.Records.{u16_at, u32_at, u64_at}
use Rattle.chain_stream.specs.declared.frames.Lead.{Lead}
use Rattle.chain_stream.specs.declared.frames.Lead.TheVariants as leads
use Rattle.chain_stream.specs.declared.frames.Reason.{Reason}
use Rattle.chain_stream.specs.declared.frames.Reason.TheVariants as reasons
use Rattle.chain_stream.specs.declared.frames.End.{End}
use Rattle.chain_stream.specs.declared.frames.End.TheVariants as ends

-- how many bytes of a stream are looked at
abbrev pub limit : ℕ
limit = 268435456

-- how many bytes the header has
abbrev pub header_len : ℕ
header_len = 12

-- the number of a reason
unfoldable pub reason_number : Reason → ℕ
reason_number reasons.Header = 1
reason_number reasons.Kind = 2
reason_number reasons.Bound = 3
reason_number reasons.Cut = 4

-- ---- one frame

-- the lengths of a chain's parts, from one on
abbrev pub lengths_at : List ℕ → ℕ → ℕ → List ℕ
lengths_at bytes first n = map (λ k. u32_at bytes (5 + 4 * k)) (range_with_len first n)

-- of so many bytes, a chain whose lengths are there
abbrev pub chain_parts : ℕ → ℕ → ℕ → ℕ → Lead
chain_parts n parts readable room =
    if nat_lt max_part readable || nat_lt max_part room then leads.Bad reasons.Bound
    else if nat_lt n (5 + 4 * parts + readable) then leads.Cut
    else leads.Chain parts readable room

-- a chain of so many readable and writable parts
unfoldable pub chain_with : List ℕ → ℕ → ℕ → Lead
chain_with bytes nr nw =
    if nat_lt 1024 nr || nat_lt 1024 nw then leads.Bad reasons.Bound
    else if nat_lt (length bytes) (5 + 4 * (nr + nw)) then leads.Cut
    else chain_parts (length bytes) (nr + nw) (sum (lengths_at bytes 0 nr)) (sum (lengths_at bytes nr nw))

unfoldable pub chain_lead : List ℕ → Lead
chain_lead bytes = if nat_lt (length bytes) 5 then leads.Cut else chain_with bytes (u16_at bytes 1) (u16_at bytes 3)

abbrev pub load_with : ℕ → ℕ → Lead
load_with moffset len = if nat_lt max_transfer len then leads.Bad reasons.Bound else leads.Load moffset len

unfoldable pub load_lead : List ℕ → Lead
load_lead bytes = if nat_lt (length bytes) 13 then leads.Cut else load_with (u64_at bytes 1) (u32_at bytes 9)

-- of so many bytes, a store whose length is there
abbrev pub store_with : ℕ → ℕ → ℕ → Lead
store_with n moffset len =
    if nat_lt max_transfer len then leads.Bad reasons.Bound
    else if nat_lt n (13 + len) then leads.Cut
    else leads.Store moffset len

unfoldable pub store_lead : List ℕ → Lead
store_lead bytes = if nat_lt (length bytes) 13 then leads.Cut else store_with (length bytes) (u64_at bytes 1) (u32_at bytes 9)

-- the frame that the bytes begin with, or why there is none
unfoldable pub lead : List ℕ → Lead
lead [] = leads.Nothing
lead (kind ∷ bytes) =
    if kind == 1 then chain_lead (kind ∷ bytes)
    else if kind == 2 then load_lead (kind ∷ bytes)
    else if kind == 3 then store_lead (kind ∷ bytes)
    else leads.Bad reasons.Kind

-- how many bytes a whole frame has
unfoldable pub lead_len : Lead → ℕ
lead_len (leads.Chain parts readable room) = 5 + 4 * parts + readable
lead_len (leads.Load moffset len) = 13
lead_len (leads.Store moffset len) = 13 + len
lead_len (leads.Bad reason) = 0
lead_len leads.Cut = 0
lead_len leads.Nothing = 0

-- what every lead keeps to
unfoldable pub IsBounded : Lead → Type 0
IsBounded (leads.Chain parts readable room) = (parts ≤ 2048) × (readable ≤ max_part) × (room ≤ max_part)
IsBounded (leads.Load moffset len) = len ≤ max_transfer
IsBounded (leads.Store moffset len) = len ≤ max_transfer
IsBounded (leads.Bad reason) = Unit {0}
IsBounded leads.Cut = Unit {0}
IsBounded leads.Nothing = Unit {0}

-- the bytes tell what they begin with, whatever follows them
unfoldable pub is_decided : Lead → Bool
is_decided (leads.Chain parts readable room) = true
is_decided (leads.Load moffset len) = true
is_decided (leads.Store moffset len) = true
is_decided (leads.Bad reason) = true
is_decided leads.Cut = false
is_decided leads.Nothing = false

-- ---- all frames

-- a whole frame: what it begins with, and its bytes
pub record Frame : Type 0 where
  pub lead : Lead
  pub bytes : List ℕ

-- the whole frames of a stream, and how it ends
pub record Frames : Type 0 where
  pub whole : List Frame
  pub «end» : End

abbrev pub no_more : End → Frames
no_more e = record { whole = []; «end» = e }

abbrev pub onto : Frame → Frames → Frames
onto frame fs = record fs { whole = frame ∷ fs.whole }

-- the frame at the front of the bytes
abbrev pub frame_of : Lead → List ℕ → Frame
frame_of f rest = record { lead = f; bytes = take (lead_len f) rest }

-- an input with so many bytes left at this offset is longer than the limit
abbrev pub is_longer : ℕ → List ℕ → Bool
is_longer at rest = nat_lt limit (at + length rest)

-- the frame that the bytes at this offset begin with, of which only those within the limit are looked at
abbrev pub lead_at : ℕ → List ℕ → Lead
lead_at at rest = lead (take (limit - at) rest)

-- the end at a lead that isn't whole, or the frame and what follows it
abbrev pub cut_at : Lead → Bool → ℕ → List ℕ → Frames → Frames
cut_at leads.Nothing longer at rest more = no_more (if longer then ends.TooLong else ends.Ended)
cut_at leads.Cut longer at rest more = no_more (if longer then ends.TooLong else ends.Malformed reasons.Cut at)
cut_at (leads.Bad reason) longer at rest more = no_more (ends.Malformed reason at)
cut_at (leads.Chain parts readable room) longer at rest more = onto (frame_of (leads.Chain parts readable room) rest) more
cut_at (leads.Load moffset len) longer at rest more = onto (frame_of (leads.Load moffset len) rest) more
cut_at (leads.Store moffset len) longer at rest more = onto (frame_of (leads.Store moffset len) rest) more

-- the frames of what is left of a stream at an offset, where there are fewer than n of them
unfoldable pub frames_within : ℕ → ℕ → List ℕ → Frames
frames_within zero at rest = no_more ends.Ended
frames_within (suc n) at rest =
    let len = lead_len (lead_at at rest) in
    cut_at (lead_at at rest) (is_longer at rest) at rest (frames_within n (at + len) (drop len rest))

-- the frames of what is left of a stream at an offset: each has a byte
unfoldable pub frames_from : ℕ → List ℕ → Frames
frames_from at rest = frames_within (suc (length rest)) at rest

-- ---- the whole stream

-- the name of the format, and how many pages the window has
unfoldable pub is_header : List ℕ → Bool
is_header input = nat_le header_len (length input) && bytes_eq (take 8 input) (codes "DAXWIRE1") && nat_le (u32_at input 8) 131072

-- the frames behind the header
unfoldable pub frames : List ℕ → Frames
frames input =
    if is_header input then frames_from header_len (drop header_len input)
    else no_more (ends.Malformed reasons.Header 0)
