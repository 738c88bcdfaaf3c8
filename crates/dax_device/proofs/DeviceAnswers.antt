-- What the device behind a queue rests on: each answer is read as a reply, and what is gathered and scattered has room.
use Rattle.std.proofs.Common.{◌≡◌, refl, ap, arith, ◌≤◌, ℕ, ◌+◌, List, [], ◌∷◌, ◌++◌, length, drop, Result, Ok, Err, inl, inr}
use Rattle.std.specs.Prelude.{IsOk}
use Rattle.std.proofs.lemmas.List.Sums.{sum_by-cons}
use Rattle.std.proofs.lemmas.List.{length-take, length-append}
use Rattle.plain_file.specs.Limits.{max_part}
use Rattle.fuse_wire.proofs.Laws.{IsBytes}
use Rattle.fuse_device.specs.State.{World}
use Rattle.fuse_device.specs.Steps.{device_step}
use Rattle.fuse_device.proofs.Answering.{AnswersTo, device_step_replies}
use Rattle.vring.specs.declared.chains.Piece.{Piece}
use Rattle.vring.specs.declared.faults.NoRoom.{NoRoom}
use Rattle.vring.specs.Pieces.{total, bytes_of, gathered, Scatters}
use Rattle.dax_device.specs.Answers.{read_form, reply_in, IsAnswer}

-- ---- the device's answer

is_answer : (readable answer : List ℕ) → 40 ≤ length readable → IsOk (reply_in readable answer) → IsAnswer readable answer
is_answer readable [] long h = tt
is_answer readable (byte ∷ bytes) long h = (long, h)

answers_to : (readable answer : List ℕ) → AnswersTo readable answer → IsAnswer readable answer
unfolding reply_in read_form
answers_to readable answer (inl e) = rw e tt
answers_to readable answer (inr (long, (reply, e))) = is_answer readable answer long (rw e refl)

-- every answer of the device is no bytes or a reply
pub answer_is_reply : (w : World) (readable : List ℕ) (room : ℕ) → IsBytes readable → length readable ≤ max_part → IsAnswer readable (device_step w readable room).1
answer_is_reply w readable room fits within = answers_to readable (device_step w readable room).1 (device_step_replies w readable room fits within)

-- ---- for the code

-- so many bytes are gathered of pieces as they have, at most
gathered_len : (mem : List ℕ) (pieces : List Piece) → length (gathered mem pieces) ≤ total pieces
unfolding total
gathered_len mem [] = omega arith
gathered_len mem (p ∷ ps) =
    let front = bytes_of mem p in
    let bytes : gathered mem (p ∷ ps) ≡ front ++ gathered mem ps = refl in
    let sum : total (p ∷ ps) ≡ p.len + total ps = sum_by-cons (λ (q : Piece). q.len) p ps in
    omega (arith, ap length bytes, sum, length-append front (gathered mem ps), length-take p.len (drop p.addr mem), gathered_len mem ps)

pub gathered_within : (mem : List ℕ) (pieces : List Piece) → total pieces ≤ max_part → length (gathered mem pieces) ≤ max_part
gathered_within mem pieces h = omega (arith, h, gathered_len mem pieces)

-- an answer is scattered
pub scatters : (mem mem' : List ℕ) (pieces : List Piece) (bytes : List ℕ) (result : Result ℕ NoRoom) → Scatters mem pieces bytes result mem' → length bytes ≤ total pieces → IsOk result
scatters mem mem' pieces bytes (Ok n) h within = refl
scatters mem mem' pieces bytes (Err e) h within = absurd (omega (arith, h.0, within))
