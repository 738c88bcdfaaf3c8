-- What the driver offers is the chain that the device finds.
use Rattle.std.proofs.Common.{◌≡◌, ◌∙◌, ap, sym, refl, ℕ, suc, ◌+◌, ◌-◌, ◌*◌, ◌%◌, ◌^◌, ◌<◌, ◌≤◌, ◌==◌, true, false, nat_lt, nat_le, List, [], ◌∷◌, ◌++◌, length, take, drop, Some, None, Ok, arith, lit<, lit≤, ◌≢◌}
use Rattle.std.specs.Int.{w16, w32, w64, to_le_bytes, from_le_bytes}
use Rattle.std.proofs.lemmas.Bool.Decides.{nat_tests}
use Rattle.std.proofs.lemmas.Grind.{common_steps}
use Rattle.std.proofs.lemmas.List.{drop-drop, append-nil, take_all}
use Rattle.std.proofs.lemmas.Nat.{from_le_bytes-to_le_bytes_2, from_le_bytes-to_le_bytes_4, from_le_bytes-to_le_bytes_8}
use Rattle.plain_file.specs.Limits.{max_part}
use Rattle.vring.specs.declared.layouts.Layout.{Layout}
use Rattle.vring.specs.declared.chains.Piece.{Piece}
use Rattle.vring.specs.declared.descriptors.Descriptor.{Descriptor}
use Rattle.vring.specs.Bytes.{u16_at, u32_at, u64_at, put_at}
use Rattle.vring.specs.Spelling.{descriptor_bytes}
use Rattle.vring.specs.Pieces.{total, bytes_of, gathered, scattered}
use Rattle.vring.specs.Chain.{descriptor_at, reached, is_writable, piece_at, fault_of, fault_at, first_fault, readable_of, writable_of, chain_of, ahead, chain_at}
use Rattle.vring.specs.Ring.{RingView, next_index, used_pushed}
use Rattle.vring.specs.Driver.{DriverView, IsQueueSize, IsOffer, offered_chain, offered_room, readable_at, writable_at, driver_layout, offered_in, used_at, written_in}
use Rattle.vring.proofs.PutLemmas.{length-put_at, read_before, read_behind, read_inside, take_less}

abbrev pub first_descriptor : ℕ → ℕ → Descriptor
first_descriptor size len = record { addr = readable_at size; len = len; flags = 1; next = 1 }

abbrev pub second_descriptor : ℕ → ℕ → ℕ → Descriptor
second_descriptor size part room = record { addr = writable_at size part; len = room; flags = 2; next = 0 }

-- what the device reads of an offered chain
pub record IsOffered (m : List ℕ) (size part offered len room : ℕ) : Type 0 where
  pub index : u16_at m (16 * size + 2) ≡ next_index offered
  pub head : u16_at m (16 * size + 4 + 2 * (offered % size)) ≡ 0
  pub first : descriptor_at m (driver_layout size part) 0 ≡ first_descriptor size len
  pub second : descriptor_at m (driver_layout size part) 1 ≡ second_descriptor size part room
  pub length_is : length m ≡ 28 * size + 16 + 2 * part

two_reached : (m : List ℕ) (size part offered len room : ℕ) → IsQueueSize size → IsOffered m size part offered len room → reached m (driver_layout size part) 0 (size + 1) ≡ 0 ∷ 1 ∷ []
unfolding reached
two_reached m size part offered len room s h =
    let more : size + 1 ≡ suc (suc (size - 1)) = omega (arith, s.least) in
    let within : nat_lt 1 size ≡ true = grind (arith, nat_tests, s.least) in
    rw (more, h.first, within, h.second) refl

no_fault : (m : List ℕ) (size part offered len room : ℕ) → IsOffer size part offered len room → IsOffered m size part offered len room → first_fault m (driver_layout size part) [] (0 ∷ 1 ∷ []) ≡ None
unfolding first_fault fault_at fault_of is_writable
no_fault m size part offered len room o h =
    let some : nat_le size 0 ≡ false = grind (arith, nat_tests, o.size_is.least) in
    let more : nat_le size 1 ≡ false = grind (arith, nat_tests, o.size_is.least) in
    let a : nat_lt (length m) (readable_at size + len) ≡ false = grind (arith, nat_tests, o.len_is, h.length_is) in
    let b : nat_lt (length m) (writable_at size part + room) ≡ false = grind (arith, nat_tests, o.room_is, h.length_is) in
    rw (h.first, h.second, some, more, a, b) refl

one_ahead : (n : ℕ) → n < 2 ^ 16 → ahead (next_index n) n ≡ 1
one_ahead n h = omega arith

piece_is : (m : List ℕ) (l : Layout) (i : ℕ) (d : Descriptor) → descriptor_at m l i ≡ d → piece_at m l i ≡ record { addr = d.addr; len = d.len }
unfolding piece_at
piece_is m l i d e = ap (λ x. record { addr = x.addr; len = x.len }) e

readable_is : (m : List ℕ) (size part offered len room : ℕ) → IsOffered m size part offered len room → readable_of m (driver_layout size part) (0 ∷ 1 ∷ []) ≡ record { addr = readable_at size; len = len } ∷ []
unfolding readable_of is_writable
readable_is m size part offered len room h = rw (h.first, h.second, piece_is m (driver_layout size part) 0 _ h.first) refl

writable_is : (m : List ℕ) (size part offered len room : ℕ) → IsOffered m size part offered len room → writable_of m (driver_layout size part) (0 ∷ 1 ∷ []) ≡ record { addr = writable_at size part; len = room } ∷ []
unfolding writable_of is_writable
writable_is m size part offered len room h = rw (h.first, h.second, piece_is m (driver_layout size part) 1 _ h.second) refl

total_one : (a n : ℕ) → total (record { addr = a; len = n } ∷ []) ≡ n
unfolding total
total_one a n = omega arith

pub offered_found : (m : List ℕ) (size part offered len room : ℕ) → IsOffer size part offered len room → IsOffered m size part offered len room → chain_at m (driver_layout size part) offered ≡ Ok (Some (record { head = 0; readable = record { addr = readable_at size; len = len } ∷ []; writable = record { addr = writable_at size part; len = room } ∷ [] }))
unfolding chain_at chain_of
offered_found m size part offered len room o h =
    let some : nat_le size 0 ≡ false = grind (arith, nat_tests, o.size_is.least) in
    let near : nat_lt size 1 ≡ false = grind (arith, nat_tests, o.size_is.least) in
    let a : nat_lt max_part len ≡ false = grind (arith, nat_tests, o.len_is, o.part_is) in
    let b : nat_lt max_part room ≡ false = grind (arith, nat_tests, o.room_is, o.part_is) in
    rw (h.index, one_ahead offered o.offered_is, near, h.head, some, two_reached m size part offered len room o.size_is h, no_fault m size part offered len room o h, readable_is m size part offered len room h, writable_is m size part offered len room h, total_one (readable_at size) len, total_one (writable_at size part) room, a, b) refl

-- the numbers of a descriptor fit
pub record Fits (d : Descriptor) : Type 0 where
  pub addr : d.addr < 2 ^ 64
  pub len : d.len < 2 ^ 32
  pub flags : d.flags < 2 ^ 16
  pub next : d.next < 2 ^ 16

part_of : (m : List ℕ) (at k n : ℕ) (s : List ℕ) → at + 16 ≤ length m → k + n ≤ 16 → take 16 (drop at m) ≡ s → take n (drop (at + k) m) ≡ take n (drop k s)
part_of m at k n s h b e =
    let whole : 16 ≤ length (drop at m) = grind (arith, common_steps) in
    ap (take n) (sym (drop-drop k at m)) ∙ sym (take_less k n 16 (drop at m) b whole) ∙ ap (λ x. take n (drop k x)) e

descriptor_read : (m : List ℕ) (l : Layout) (index : ℕ) (d : Descriptor) → l.descriptors + 16 * index + 16 ≤ length m → Fits d → take 16 (drop (l.descriptors + 16 * index) m) ≡ descriptor_bytes d → descriptor_at m l index ≡ d
unfolding descriptor_at u16_at u32_at u64_at descriptor_bytes
descriptor_read m l index d h f e =
    let at = l.descriptors + 16 * index in
    let here : at + 0 ≡ at = omega arith in
    let addr : from_le_bytes w64 (take 8 (drop (at + 0) m)) ≡ d.addr = ap (from_le_bytes w64) (part_of m at 0 8 _ h (omega arith) e) ∙ from_le_bytes-to_le_bytes_8 d.addr f.addr in
    let len : from_le_bytes w32 (take 4 (drop (at + 8) m)) ≡ d.len = ap (from_le_bytes w32) (part_of m at 8 4 _ h (omega arith) e) ∙ from_le_bytes-to_le_bytes_4 d.len f.len in
    let flags : from_le_bytes w16 (take 2 (drop (at + 12) m)) ≡ d.flags = ap (from_le_bytes w16) (part_of m at 12 2 _ h (omega arith) e) ∙ from_le_bytes-to_le_bytes_2 d.flags f.flags in
    let next : from_le_bytes w16 (take 2 (drop (at + 14) m)) ≡ d.next = ap (from_le_bytes w16) (part_of m at 14 2 _ h (omega arith) e) ∙ from_le_bytes-to_le_bytes_2 d.next f.next in
    let first : from_le_bytes w64 (take 8 (drop at m)) ≡ d.addr = ap (λ k. from_le_bytes w64 (take 8 (drop k m))) (sym here) ∙ addr in
    ap (λ x. record { addr = x; len = u32_at m (at + 8); flags = u16_at m (at + 12); next = u16_at m (at + 14) }) first
    ∙ ap (λ x. record { addr = d.addr; len = x; flags = u16_at m (at + 12); next = u16_at m (at + 14) }) len
    ∙ ap (λ x. record { addr = d.addr; len = d.len; flags = x; next = u16_at m (at + 14) }) flags
    ∙ ap (λ x. record { addr = d.addr; len = d.len; flags = d.flags; next = x }) next

u16_behind : (m : List ℕ) (at : ℕ) (bytes : List ℕ) (j : ℕ) → at + length bytes ≤ length m → at + length bytes ≤ j → u16_at (put_at m at bytes) j ≡ u16_at m j
unfolding u16_at
u16_behind m at bytes j h b = ap (from_le_bytes w16) (read_behind m at bytes j 2 h b)

u16_inside : (m : List ℕ) (at n : ℕ) → at + 2 ≤ length m → n < 2 ^ 16 → u16_at (put_at m at (to_le_bytes w16 n)) at ≡ n
unfolding u16_at
u16_inside m at n h b = ap (from_le_bytes w16) (read_inside m at (to_le_bytes w16 n) 2 h refl) ∙ from_le_bytes-to_le_bytes_2 n b

first_length : (d : Descriptor) → length (descriptor_bytes d) ≡ 16
unfolding descriptor_bytes
first_length d = refl

-- the offered bytes stand where the device reads them
pub offer_read : (v : DriverView) (mem bytes : List ℕ) (room : ℕ) → IsOffer v.size v.part v.offered (length bytes) room → length mem ≡ 28 * v.size + 16 + 2 * v.part → IsOffered (offered_in v mem bytes room) v.size v.part v.offered (length bytes) room
unfolding offered_in
offer_read v mem bytes room o h =
    let size = v.size in
    let part = v.part in
    let from = readable_at size in
    let first = first_descriptor size (length bytes) in
    let second = second_descriptor size part room in
    let entry = 16 * size + 4 + 2 * (v.offered % size) in
    let place : v.offered % size < size = omega (arith, o.size_is.least) in
    let a = put_at mem from bytes in
    let b = put_at a 0 (descriptor_bytes first) in
    let c = put_at b 16 (descriptor_bytes second) in
    let d = put_at c entry (to_le_bytes w16 0) in
    let e = put_at d (16 * size + 2) (to_le_bytes w16 (next_index v.offered)) in
    let bound = o.size_is.least in
    let top = o.size_is.most in
    let largest = o.part_is in
    let a_len : length a ≡ length mem = length-put_at mem from bytes (omega (arith, o.len_is)) in
    let b_len : length b ≡ length a = length-put_at a 0 (descriptor_bytes first) (omega (arith, first_length first)) in
    let c_len : length c ≡ length b = length-put_at b 16 (descriptor_bytes second) (omega (arith, first_length second)) in
    let d_len : length d ≡ length c = length-put_at c entry (to_le_bytes w16 0) (omega arith) in
    let e_len : length e ≡ length d = length-put_at d (16 * size + 2) (to_le_bytes w16 (next_index v.offered)) (omega arith) in
    let first_reads : take 16 (drop 0 e) ≡ descriptor_bytes first =
    read_before d (16 * size + 2) _ 0 16 (omega arith) (omega arith) ∙ read_before c entry _ 0 16 (omega arith) (omega arith)
    ∙ read_before b 16 (descriptor_bytes second) 0 16 (omega (arith, first_length second)) (omega arith)
    ∙ read_inside a 0 (descriptor_bytes first) 16 (omega (arith, first_length first)) (sym (first_length first)) in
    let second_reads : take 16 (drop 16 e) ≡ descriptor_bytes second =
    read_before d (16 * size + 2) _ 16 16 (omega arith) (omega arith) ∙ read_before c entry _ 16 16 (omega arith) (omega arith)
    ∙ read_inside b 16 (descriptor_bytes second) 16 (omega (arith, first_length second)) (sym (first_length second)) in
    record {
      index = u16_inside d (16 * size + 2) (next_index v.offered) (omega arith) (omega arith);
      head = u16_behind d (16 * size + 2) _ entry (omega arith) (omega arith) ∙ u16_inside c entry 0 (omega arith) (lit< tt);
      first = descriptor_read e (driver_layout size part) 0 first (omega arith) (record { addr = omega arith; len = omega (arith, o.len_is, o.part_is); flags = lit< tt; next = lit< tt }) first_reads;
      second = descriptor_read e (driver_layout size part) 1 second (omega arith) (record { addr = omega arith; len = omega (arith, o.room_is, o.part_is); flags = lit< tt; next = lit< tt }) second_reads;
      length_is = omega arith;
    }

-- the device finds what the driver offers
pub offer_found : (v : DriverView) (mem bytes : List ℕ) (room : ℕ) → IsOffer v.size v.part v.offered (length bytes) room → length mem ≡ 28 * v.size + 16 + 2 * v.part → chain_at (offered_in v mem bytes room) (driver_layout v.size v.part) v.offered ≡ Ok (Some (offered_chain v.size v.part (length bytes) room))
offer_found v mem bytes room o h = offered_found (offered_in v mem bytes room) v.size v.part v.offered (length bytes) room o (offer_read v mem bytes room o h)

-- the offered bytes are read in the piece
pub offer_bytes : (v : DriverView) (mem bytes : List ℕ) (room : ℕ) → IsOffer v.size v.part v.offered (length bytes) room → length mem ≡ 28 * v.size + 16 + 2 * v.part → bytes_of (offered_in v mem bytes room) (record { addr = readable_at v.size; len = length bytes }) ≡ bytes
unfolding offered_in
offer_bytes v mem bytes room o h =
    let size = v.size in
    let part = v.part in
    let from = readable_at size in
    let first = first_descriptor size (length bytes) in
    let second = second_descriptor size part room in
    let entry = 16 * size + 4 + 2 * (v.offered % size) in
    let place : v.offered % size < size = omega (arith, o.size_is.least) in
    let a = put_at mem from bytes in
    let b = put_at a 0 (descriptor_bytes first) in
    let c = put_at b 16 (descriptor_bytes second) in
    let d = put_at c entry (to_le_bytes w16 0) in
    let bound = o.size_is.least in
    let a_len : length a ≡ length mem = length-put_at mem from bytes (omega (arith, o.len_is)) in
    let b_len : length b ≡ length a = length-put_at a 0 (descriptor_bytes first) (omega (arith, first_length first)) in
    let c_len : length c ≡ length b = length-put_at b 16 (descriptor_bytes second) (omega (arith, first_length second)) in
    let d_len : length d ≡ length c = length-put_at c entry (to_le_bytes w16 0) (omega arith) in
    read_behind d (16 * size + 2) _ from (length bytes) (omega arith) (omega arith)
    ∙ read_behind c entry _ from (length bytes) (omega arith) (omega arith)
    ∙ read_behind b 16 (descriptor_bytes second) from (length bytes) (omega (arith, first_length second)) (omega (arith, first_length second))
    ∙ read_behind a 0 (descriptor_bytes first) from (length bytes) (omega (arith, first_length first)) (omega (arith, first_length first))
    ∙ read_inside mem from bytes (length bytes) (omega (arith, o.len_is)) refl

u32_behind : (m : List ℕ) (at : ℕ) (bytes : List ℕ) (j : ℕ) → at + length bytes ≤ length m → at + length bytes ≤ j → u32_at (put_at m at bytes) j ≡ u32_at m j
unfolding u32_at
u32_behind m at bytes j h b = ap (from_le_bytes w32) (read_behind m at bytes j 4 h b)

-- the entry's two numbers
u32_first : (m : List ℕ) (at a b : ℕ) → at + 8 ≤ length m → a < 2 ^ 32 → u32_at (put_at m at (to_le_bytes w32 a ++ to_le_bytes w32 b)) at ≡ a
unfolding u32_at
u32_first m at a b h f =
    let s = to_le_bytes w32 a ++ to_le_bytes w32 b in
    let whole : length (put_at m at s) ≡ length m = length-put_at m at s h in
    let all : take 8 (drop at (put_at m at s)) ≡ s = read_inside m at s 8 h refl in
    let long : 8 ≤ length (drop at (put_at m at s)) = grind (arith, common_steps) in
    ap (from_le_bytes w32) (sym (take_less 0 4 8 (drop at (put_at m at s)) (lit≤ tt) long) ∙ ap (take 4) all) ∙ from_le_bytes-to_le_bytes_4 a f

u32_second : (m : List ℕ) (at a b : ℕ) → at + 8 ≤ length m → b < 2 ^ 32 → u32_at (put_at m at (to_le_bytes w32 a ++ to_le_bytes w32 b)) (at + 4) ≡ b
unfolding u32_at
u32_second m at a b h f =
    let s = to_le_bytes w32 a ++ to_le_bytes w32 b in
    let whole : length (put_at m at s) ≡ length m = length-put_at m at s h in
    let all : take 8 (drop at (put_at m at s)) ≡ s = read_inside m at s 8 h refl in
    let long : 8 ≤ length (drop at (put_at m at s)) = grind (arith, common_steps) in
    ap (λ x. from_le_bytes w32 (take 4 x)) (sym (drop-drop 4 at (put_at m at s))) ∙ ap (from_le_bytes w32) (sym (take_less 4 4 8 (drop at (put_at m at s)) (lit≤ tt) long) ∙ ap (λ x. take 4 (drop 4 x)) all) ∙ from_le_bytes-to_le_bytes_4 b f

next_other : (n : ℕ) → n < 2 ^ 16 → (next_index n == n) ≡ false
next_other n h = let other : next_index n ≢ n = omega arith in grind (arith, nat_tests, other)

-- what the device hands back is what the driver takes
pub back_taken : (mem : List ℕ) (r : RingView) (size part room len : ℕ) → IsQueueSize size → r.layout ≡ driver_layout size part → r.used_index < 2 ^ 16 → len ≤ room → room ≤ max_part → length mem ≡ 28 * size + 16 + 2 * part → used_at (used_pushed r mem 0 len) size r.used_index (Some room) ≡ Ok (Some (record { head = 0; len = len }))
unfolding used_at
back_taken mem r size part room len s layout fits small top h =
    let at = 20 * size + 8 + 4 + 8 * (r.used_index % size) in
    let place : r.used_index % size < size = omega (arith, s.least) in
    let bound = s.least in
    let most = s.most in
    let entry = to_le_bytes w32 0 ++ to_le_bytes w32 len in
    let a = put_at mem at entry in
    let index = 20 * size + 8 + 2 in
    let a_len : length a ≡ length mem = length-put_at mem at entry (omega arith) in
    let id : u32_at (put_at a index (to_le_bytes w16 (next_index r.used_index))) at ≡ 0 = u32_behind a index _ at (omega arith) (omega arith) ∙ u32_first mem at 0 len (omega arith) (lit< tt) in
    let length_is : u32_at (put_at a index (to_le_bytes w16 (next_index r.used_index))) (at + 4) ≡ len = u32_behind a index _ (at + 4) (omega arith) (omega arith) ∙ u32_second mem at 0 len (omega arith) (omega arith) in
    let moved : u16_at (put_at a index (to_le_bytes w16 (next_index r.used_index))) index ≡ next_index r.used_index = u16_inside a index (next_index r.used_index) (omega arith) (omega arith) in
    let other : (next_index r.used_index == r.used_index) ≡ false = next_other r.used_index fits in
    let within : nat_le len room ≡ true = grind (arith, nat_tests) in
    rw (layout, moved, other, id, length_is, within) refl

-- .. and gathered of the offered chain
pub offer_gathered : (v : DriverView) (mem bytes : List ℕ) (room : ℕ) → IsOffer v.size v.part v.offered (length bytes) room → length mem ≡ 28 * v.size + 16 + 2 * v.part → gathered (offered_in v mem bytes room) (offered_chain v.size v.part (length bytes) room).readable ≡ bytes
offer_gathered v mem bytes room o h = append-nil (bytes_of (offered_in v mem bytes room) (record { addr = readable_at v.size; len = length bytes })) ∙ offer_bytes v mem bytes room o h

scattered_one : (mem bytes : List ℕ) (addr room : ℕ) → length bytes ≤ room → scattered mem (record { addr = addr; len = room } ∷ []) bytes ≡ put_at mem addr bytes
unfolding scattered
scattered_one mem bytes addr room h = ap (put_at mem addr) (take_all room bytes h)

-- what the device scatters into the room stands there after it pushed the chain
pub back_written : (mem bytes : List ℕ) (pieces : List Piece) (r : RingView) (size part room head count len : ℕ) → IsQueueSize size → r.layout ≡ driver_layout size part → pieces ≡ offered_room size part room → len ≡ length bytes → len ≤ room → room ≤ part → length mem ≡ 28 * size + 16 + 2 * part → written_in (used_pushed r (scattered mem pieces bytes) head count) size part len ≡ bytes
back_written mem bytes pieces r size part room head count len s layout pieces_is len_is small top h =
    let from = writable_at size part in
    let at = 20 * size + 8 + 4 + 8 * (r.used_index % size) in
    let index = 20 * size + 8 + 2 in
    let place : r.used_index % size < size = omega (arith, s.least) in
    let bound = s.least in
    let entry = to_le_bytes w32 head ++ to_le_bytes w32 count in
    let a = put_at mem from bytes in
    let b = put_at a at entry in
    let a_len : length a ≡ length mem = length-put_at mem from bytes (omega arith) in
    let b_len : length b ≡ length a = length-put_at a at entry (omega arith) in
    rw (layout, pieces_is, scattered_one mem bytes from room (omega arith), len_is) (
    read_behind b index (to_le_bytes w16 (next_index r.used_index)) from (length bytes) (omega arith) (omega arith)
    ∙ read_behind a at entry from (length bytes) (omega arith) (omega arith)
    ∙ read_inside mem from bytes (length bytes) (omega arith) refl)

-- the room's pieces take as many bytes as were offered
pub room_offered : (pieces : List Piece) (size part room : ℕ) → pieces ≡ offered_room size part room → total pieces ≡ room
room_offered pieces size part room e = rw e (total_one (writable_at size part) room)
