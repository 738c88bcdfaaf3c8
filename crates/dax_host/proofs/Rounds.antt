-- What is read of a request that goes through an idle queue.
use Rattle.std.proofs.Common.{◌≡◌, ◌∙◌, ap, refl, subst, ◌+◌, ◌*◌, ◌%◌, ◌^◌, ◌<◌, ◌≤◌, nat_le, Bool, true, false, if◌then◌else◌, ℕ, List, [], ◌∷◌, ◌++◌, length, Some, Ok, arith, lit≤}
use Rattle.std.specs.Int.{w16, w32, to_le_bytes}
use Rattle.std.proofs.lemmas.Bool.Decides.{nat_tests}
use Rattle.std.proofs.lemmas.List.{take_all, length-replicate}
use Rattle.plain_file.specs.Limits.{max_part}
use Rattle.vring.specs.Bytes.{put_at}
use Rattle.vring.specs.Driver.{IsOffer, IsQueueSize, driver_layout, offered_room, used_at, writable_at, written_in}
use Rattle.vring.specs.Pieces.{scattered}
use Rattle.vring.specs.Ring.{RingView, next_index, used_pushed}
use Rattle.vring.proofs.PutLemmas.{length-put_at}
use Rattle.vring.proofs.Offers.{offer_read, offer_found, offer_gathered, back_taken, back_written}
use Rattle.dax_host.specs.Queue.{QueueView, IsIdle, after_offer, carried, given_up, fresh_queue, takes, part_for, queue_for}
use Rattle.dax_host.specs.Rounds.{MayOffer, IsRead, HasRoom}

-- the request may be offered
offer_of : (q : QueueView) (readable : List ℕ) (room : ℕ) → MayOffer q readable room → IsOffer q.driver.size q.driver.part q.driver.offered (length readable) room
offer_of q readable room h = record { size_is = h.idle.set_up.size; part_is = h.idle.set_up.part; offered_is = h.index; len_is = h.len; room_is = h.most }

-- one piece takes all bytes that it has room for
scattered_one : (mem bytes : List ℕ) (addr room : ℕ) → length bytes ≤ room → scattered mem (record { addr = addr; len = room } ∷ []) bytes ≡ put_at mem addr bytes
unfolding scattered
scattered_one mem bytes addr room h = ap (put_at mem addr) (take_all room bytes h)

-- each step leaves the memory's length
length-offered : (q : QueueView) (readable : List ℕ) (room : ℕ) → MayOffer q readable room → length (after_offer q readable room).memory ≡ (driver_layout q.driver.size q.driver.part).memory
length-offered q readable room h = (offer_read q.driver q.memory readable room (offer_of q readable room h) h.idle.set_up.len).length_is

length-scattered : (mem bytes : List ℕ) (size part room : ℕ) → length bytes ≤ room → room ≤ part → length mem ≡ (driver_layout size part).memory → length (scattered mem (offered_room size part room) bytes) ≡ length mem
length-scattered mem bytes size part room fits small len =
    ap length (scattered_one mem bytes (writable_at size part) room fits) ∙ length-put_at mem (writable_at size part) bytes (omega (arith, fits, small, len))

length-pushed : (r : RingView) (mem : List ℕ) (size part head len : ℕ) → IsQueueSize size → r.layout ≡ driver_layout size part → length mem ≡ (driver_layout size part).memory → length (used_pushed r mem head len) ≡ length mem
length-pushed r mem size part head len s layout whole =
    let at = 20 * size + 8 + 4 + 8 * (r.used_index % size) in
    let place : r.used_index % size < size = omega (arith, s.least) in
    let entry = to_le_bytes w32 head ++ to_le_bytes w32 len in
    let a = put_at mem at entry in
    let a_len : length a ≡ length mem = length-put_at mem at entry (omega arith) in
    rw layout (length-put_at a (20 * size + 8 + 2) (to_le_bytes w16 (next_index r.used_index)) (omega arith) ∙ a_len)

length-answered : (q : QueueView) (readable : List ℕ) (room : ℕ) (answer : List ℕ) → MayOffer q readable room → length answer ≤ room → length (scattered (after_offer q readable room).memory (offered_room q.driver.size q.driver.part room) answer) ≡ (driver_layout q.driver.size q.driver.part).memory
length-answered q readable room answer h fits =
    length-scattered (after_offer q readable room).memory answer q.driver.size q.driver.part room fits h.most (length-offered q readable room h) ∙ length-offered q readable room h

pub carried_idle : (q : QueueView) (readable : List ℕ) (room : ℕ) (answer : List ℕ) → MayOffer q readable room → length answer ≤ room → IsIdle (carried q readable room answer)
unfolding carried
carried_idle q readable room answer h fits =
    let up = h.idle.set_up in
    let whole = length-answered q readable room answer h fits in
    record {
      set_up = record {
        size = up.size;
        part = up.part;
        layout = up.layout;
        len = length-pushed q.ring _ q.driver.size q.driver.part 0 (length answer) up.size up.layout whole ∙ whole;
        used = ap next_index up.used;
      };
      seen = ap next_index h.idle.seen;
      even = ap next_index h.idle.even;
      free = refl;
    }

pub given_up_idle : (q : QueueView) (readable : List ℕ) (room : ℕ) → MayOffer q readable room → IsIdle (given_up q readable room)
unfolding given_up
given_up_idle q readable room h =
    let up = h.idle.set_up in
    let whole = length-offered q readable room h in
    record {
      set_up = record {
        size = up.size;
        part = up.part;
        layout = up.layout;
        len = length-pushed q.ring _ q.driver.size q.driver.part 0 0 up.size up.layout whole ∙ whole;
        used = ap next_index up.used;
      };
      seen = ap next_index h.idle.seen;
      even = ap next_index h.idle.even;
      free = refl;
    }

pub fresh_idle : (size part : ℕ) → IsQueueSize size → part ≤ max_part → IsIdle (fresh_queue size part)
unfolding fresh_queue
fresh_idle size part s most = record { set_up = record { size = s; part = most; layout = refl; len = length-replicate _ 0; used = refl }; seen = refl; even = refl; free = refl }

-- what is chosen is at most the most of a part, and takes both parts
pub record IsPartFor (part len room : ℕ) : Type 0 where
  pub part_is : part ≤ max_part
  pub takes_is : takes part len room ≡ true

chosen : (small middle : Bool) (len room : ℕ) → takes 8192 len room ≡ small → takes 65536 len room ≡ middle → takes max_part len room ≡ true → IsPartFor (if small then 8192 else if middle then 65536 else max_part) len room
chosen true middle len room a b c = record { part_is = lit≤ tt; takes_is = a }
chosen false true len room a b c = record { part_is = lit≤ tt; takes_is = b }
chosen false false len room a b c = record { part_is = lit≤ tt; takes_is = c }

pub part_for_is : (len room : ℕ) → len ≤ max_part → room ≤ max_part → IsPartFor (part_for len room) len room
unfolding part_for
part_for_is len room a b =
    let whole : nat_le len max_part ≡ true = grind (arith, nat_tests, a) in
    let all : nat_le room max_part ≡ true = grind (arith, nat_tests, b) in
    chosen (takes 8192 len room) (takes 65536 len room) len room refl refl (rw (whole, all) refl)

by_takes : (fits : Bool) (q : QueueView) (len room : ℕ) → takes q.driver.part len room ≡ fits → IsIdle q → len ≤ max_part → room ≤ max_part → HasRoom (if fits then q else fresh_queue q.driver.size (part_for len room)) len room
unfolding fresh_queue
by_takes true q len room e idle a b = record { idle = idle; takes = e }
by_takes false q len room e idle a b =
    let p = part_for_is len room a b in
    record { idle = fresh_idle q.driver.size (part_for len room) idle.set_up.size p.part_is; takes = p.takes_is }

pub queue_for_has_room : (q : QueueView) (len room : ℕ) → IsIdle q → len ≤ max_part → room ≤ max_part → HasRoom (queue_for q len room) len room
unfolding queue_for
queue_for_has_room q len room idle a b = by_takes (takes q.driver.part len room) q len room refl idle a b

-- the driver finds the entry of its chain
entry_read : (q : QueueView) (readable : List ℕ) (room : ℕ) (answer : List ℕ) → MayOffer q readable room → length answer ≤ room → used_at (carried q readable room answer).memory q.driver.size q.driver.taken (Some room) ≡ Ok (Some (record { head = 0; len = length answer }))
unfolding carried
entry_read q readable room answer h fits =
    let up = h.idle.set_up in
    let index : q.ring.used_index < 2 ^ 16 = rw (up.used, h.idle.even) h.index in
    let most : room ≤ max_part = omega (arith, h.most, up.part) in
    let read = back_taken (scattered (after_offer q readable room).memory (offered_room q.driver.size q.driver.part room) answer) q.ring q.driver.size q.driver.part room (length answer) up.size up.layout index fits most (length-answered q readable room answer h fits) in
    subst (λ n. used_at (carried q readable room answer).memory q.driver.size n (Some room) ≡ Ok (Some (record { head = 0; len = length answer }))) up.used read

-- .. and in the room the answer
reply_read : (q : QueueView) (readable : List ℕ) (room : ℕ) (answer : List ℕ) → MayOffer q readable room → length answer ≤ room → written_in (carried q readable room answer).memory q.driver.size q.driver.part (length answer) ≡ answer
unfolding carried
reply_read q readable room answer h fits =
    let up = h.idle.set_up in
    back_written (after_offer q readable room).memory answer (offered_room q.driver.size q.driver.part room) q.ring q.driver.size q.driver.part room 0 (length answer) (length answer) up.size up.layout refl refl fits h.most (length-offered q readable room h)

pub carried_read : (q : QueueView) (readable : List ℕ) (room : ℕ) (answer : List ℕ) → MayOffer q readable room → length answer ≤ room → IsRead q readable room answer
carried_read q readable room answer h fits =
    let up = h.idle.set_up in
    let offer = offer_of q readable room h in
    record {
      chain = rw (up.layout, h.idle.seen) (offer_found q.driver q.memory readable room offer up.len);
      request = offer_gathered q.driver q.memory readable room offer up.len;
      entry = entry_read q readable room answer h fits;
      reply = reply_read q readable room answer h fits;
      idle = carried_idle q readable room answer h fits;
    }
