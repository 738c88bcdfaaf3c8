-- What `serve` writes: one output frame for each frame, by what the device and its window are then.
use Rattle.std.specs.Prelude.{◌≡◌, ℕ, ◌+◌, ◌*◌, List, [], ◌∷◌, ◌++◌, length, drop, Option, Some, None}
use Rattle.std.specs.Int.{w32, w64, to_le_bytes}
use Rattle.fuse_device.specs.State.{World}
use Rattle.fuse_device.specs.Steps.{Step, device_step}
use Rattle.window_access.specs.Access.{load_refusal, loaded, store_refusal, stored}
use Rattle.window_access.specs.declared.refusals.WindowRefusal.{WindowRefusal}
use Rattle.window_access.specs.declared.refusals.WindowRefusal.TheVariants as refusals
use Rattle.chain_stream.specs.declared.frames.Lead.{Lead}
use Rattle.chain_stream.specs.declared.frames.Lead.TheVariants as leads
use Rattle.chain_stream.specs.declared.frames.End.{End}
use Rattle.chain_stream.specs.declared.frames.End.TheVariants as ends
use Rattle.chain_stream.specs.Frames.{Frame, reason_number}

-- ---- one frame

-- the number of a refusal; 0 is for an access that is made
unfoldable pub refusal_number : WindowRefusal → ℕ
refusal_number (refusals.Unmapped at) = 1
refusal_number (refusals.ReadOnly at) = 2
refusal_number (refusals.PastEnd at) = 3
refusal_number refusals.Memory = 0

-- the answer to a chain: how many bytes go into its writable part, and these
abbrev pub chain_output : Step → Step
chain_output step = (step.0, 1 ∷ to_le_bytes w32 (length step.1) ++ step.1)

-- the answer to a load, which is refused for a cause or not
abbrev pub load_output : Option WindowRefusal → ℕ → List ℕ → List ℕ
load_output None len bytes = 2 ∷ 0 ∷ to_le_bytes w32 len ++ bytes
load_output (Some refusal) len bytes = 2 ∷ refusal_number refusal ∷ to_le_bytes w32 0

-- the answer to a store
abbrev pub store_output : Option WindowRefusal → World → World → Step
store_output None old new = (new, 3 ∷ 0 ∷ [])
store_output (Some refusal) old new = (old, 3 ∷ refusal_number refusal ∷ [])

-- the device after a load, and its answer
unfoldable pub load_step : World → ℕ → ℕ → Step
load_step w moffset len = (w, load_output (load_refusal w.files w.map moffset len) len (loaded w.files w.map moffset len))

-- the device after a store, and its answer
unfoldable pub store_step : World → ℕ → List ℕ → Step
store_step w moffset bytes = store_output (store_refusal w.files w.map moffset (length bytes)) w (record w { files = stored w.files w.map moffset bytes })

-- the device after a frame, and the answer to it
unfoldable pub lead_step : World → Lead → List ℕ → Step
lead_step w (leads.Chain parts readable room) bytes = chain_output (device_step w (drop (5 + 4 * parts) bytes) room)
lead_step w (leads.Load moffset len) bytes = load_step w moffset len
lead_step w (leads.Store moffset len) bytes = store_step w moffset (drop 13 bytes)
lead_step w (leads.Bad reason) bytes = (w, [])
lead_step w leads.Cut bytes = (w, [])
lead_step w leads.Nothing bytes = (w, [])

abbrev pub frame_step : World → Frame → Step
frame_step w frame = lead_step w frame.lead frame.bytes

-- ---- all frames

-- the answers to frames that come one after another
unfoldable pub outputs : World → List Frame → List ℕ
outputs w [] = []
outputs w (frame ∷ frames) = (frame_step w frame).1 ++ outputs (frame_step w frame).0 frames

-- the last output frame, where the stream is malformed
unfoldable pub fault_output : End → List ℕ
fault_output ends.Ended = []
fault_output (ends.Malformed reason at) = 0xff ∷ reason_number reason ∷ to_le_bytes w64 at
fault_output ends.TooLong = []

-- a step was made, and its answer stands behind what was there
abbrev pub Makes : Step → List ℕ → World → List ℕ → Type 0
Makes step out w' out' = (w' ≡ step.0) × (out' ≡ out ++ step.1)
