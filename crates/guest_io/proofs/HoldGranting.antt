-- A hold that is asked for: what is had of a chunk under a lease, and what is left where it was refused.
use Rattle.std.proofs.Common.{◌≡◌, ◌∙◌, ap, sym, refl, subst, ℕ, ◌+◌, ◌*◌, ◌<◌, ◌≤◌, true, List, length, Some, None, Result, Ok, Err, inl, arith}
use Rattle.std.specs.Prelude.{◌≢◌, min, sum, IsSome, is_some, slice_get, slice_index_or, slice_set}
use Rattle.std.proofs.lemmas.List.{length-set, get_or-set_same, get_or-set_other}
use mathlib.Core.Logic.{dite}
use native.Mathlib.Decide.{ℕ_discrete}
use Rattle.plain_file.specs.Board.{Note, FileView, FileHands, BoardView, file_at, size_of}
use Rattle.plain_file.specs.Turns.{leased_file, leased, unleased, Leases}
use Rattle.plain_file.proofs.OneFile.{file_at-with_file}
use Rattle.page_map.specs.declared.pages.Mode.{Mode}
use Rattle.page_map.specs.Window.{range_size}
use Rattle.page_map.specs.Board.{MapView, Hands}
use Rattle.range_tree.specs.Ranges.{range_count}
use Rattle.guest_wire.specs.Wires.{WireView}
use Rattle.guest_dax.specs.Stands.{Stand, stand, StaysFile, Keeps}
use Rattle.guest_dax.specs.Pinning.{IsPin, with_one}
use Rattle.guest_dax.specs.declared.pins.Pinned.{Pinned}
use Rattle.guest_dax.specs.declared.refusals.DaxRefusal.{DaxRefusal}
use Rattle.guest_dax.specs.declared.refusals.DaxRefusal.TheVariants as dax
use Rattle.guest_io.specs.declared.calls.Refusal.{Refusal}
use Rattle.guest_io.specs.declared.guest.Granted.{Granted}
use Rattle.guest_io.specs.declared.guest.Holds.{Holds}
use Rattle.guest_io.specs.Calls.{first_chunk}
use Rattle.guest_io.specs.Notes.{IsOpenNote}
use Rattle.guest_io.specs.Chunks.{Gets, IsUnplaced}
use Rattle.guest_io.specs.Windows.{IsOfDax}
use Rattle.guest_io.specs.Going.{LeavesAll}
use Rattle.guest_io.specs.Holds.{max_holds, granted_at, IsHold, HasHolds, LeavesRest, refused_one, granted_one, IsNoted, IsNotGranted, AsksHold}
use Rattle.guest_io.proofs.Staying.{firsts-by, StaysBoard-files}
use Rattle.guest_io.proofs.Leasing.{alone-leased, alone-unleased, hands-unleased, LeavesAll-between, note-leased}
use Rattle.guest_io.proofs.HoldLaws.{one_at, more-at, sum-more, count-more, leases-more, pins-more, pin-had, Rests, Rests-map, IsHold-rests, HasHolds-leaves}

-- the stand with one lease more
abbrev pub lent : Stand → ℕ → ℕ → Stand
lent s file z = record s { files = leased s.files file z }

-- what was done under a lease of a file whose size was noted
pub record UnderLease (s : Stand) (file z : ℕ) (t : Stand) : Type 0 where
  pub within : file < length s.files.files
  pub counted : file < length s.files.hands.leases
  pub plain : s.files.plain ≡ true → z ≡ size_of (file_at s.files file)
  pub keeps : Keeps (lent s file z) t

pub under-by : (wire : WireView) (v l : BoardView) (map : MapView) (t : Stand) (file z : ℕ) → file < length v.files → length v.hands.leases ≡ length v.files → Leases v file z l → Keeps (stand wire l map) t → UnderLease (stand wire v map) file z t
under-by wire v l map t file z within counted (plain, is) k = record {
  within = within;
  counted = subst (λ n. file < n) (sym counted) within;
  plain = plain;
  keeps = subst (λ (b : BoardView). Keeps (stand wire b map) t) is k;
}

pub gets-lent : (wire : WireView) (v l : BoardView) (map : MapView) (t : Stand) (file z chunk : ℕ) (mode : Mode) (r : Result Pinned DaxRefusal) → l ≡ leased v file z → Gets (stand wire l map) file chunk mode r t → Gets (lent (stand wire v map) file z) file chunk mode r t
gets-lent wire v l map t file z chunk mode r is x = subst (λ (b : BoardView). Gets (stand wire b map) file chunk mode r t) is x

-- ---- what is left while the lease is had

module _ (s t : Stand) (file z : ℕ) (u : UnderLease s file z t) where
  files-count : length t.files.files ≡ length s.files.files
  files-count = u.keeps.files.count ∙ (alone-leased s.files file z u.within).count

  within-after : file < length t.files.files
  within-after = subst (λ n. file < n) (sym files-count) u.within

  hands-lent : t.files.hands ≡ (leased s.files file z).hands
  hands-lent = u.keeps.files.hands

  rests : Rests s t
  rests = Rests-map s t files-count u.keeps.map

  pub rest-after : (range : ℕ) → s.map.hands.moves ≡ None → t.map.hands ≡ with_one s.map range None → LeavesRest s t
  rest-after range none hands =
      let k = u.keeps.files in
      let m = u.keeps.map in
      let a = alone-leased s.files file z u.within in
      let b = StaysBoard-files (leased s.files file z) t.files k in
      record {
        wire = u.keeps.wire;
        files = record {
          guest = k.guest;
          plain = k.plain;
          over = k.over;
          may_lease = k.may_lease;
          others = k.others;
          turn = ap (λ (f : FileHands). f.turn) k.hands;
          bar = ap (λ (f : FileHands). f.bar) k.hands;
          count = files-count;
          firsts = λ f. b.firsts f ∙ firsts-by s.files (leased s.files file z) file a.first a.stay f;
        };
        map = record {
          plain = m.plain;
          over = m.over;
          guest = m.guest;
          may_take = m.may_take;
          others = m.others;
          tree = ap (λ (h : Hands). h.tree) hands;
          moves = ap (λ (h : Hands). h.moves) hands ∙ sym none;
          pages = m.pages;
          count = m.count;
          files = m.files;
          logs = m.logs;
        };
      }

-- ---- a hold is granted

granted-hold : (t : Stand) (file chunk end : ℕ) (mode : Mode) (p : Pinned) → file < length t.files.files → chunk < 32 → end ≤ range_size * (chunk + 1) → IsPin t.map file chunk mode p → IsHold t (record { file = file; chunk = chunk; mode = mode; pinned = p; end = end })
granted-hold t file chunk end mode p within small low pin = record {
  file = within;
  chunk = small;
  through = pin.live;
  upto = let a = pin.upto in omega (arith, a);
  entry = pin.entry;
  range = pin.range;
  pinned = pin.pinned.same_file;
  shown = pin.pinned.same_chunk;
  end = low;
}

slot-other : (h : Holds) (g : Granted) (n : ℕ) → n ≢ h.asked → granted_at (granted_one h g) n ≡ granted_at h n
slot-other h g n apart = get_or-set_other h.slots h.asked n (Some g) None apart

slot-new : (h : Holds) (g : Granted) → h.asked < length h.slots → granted_at (granted_one h g) h.asked ≡ Some g
slot-new h g within = get_or-set_same h.slots h.asked (Some g) None within

module _ (s t : Stand) (h : Holds) (file z : ℕ) (g : Granted) (u : UnderLease s file z t) (x : HasHolds s h) (asked : h.asked < max_holds) (hands : t.map.hands ≡ with_one s.map g.pinned.range None) (of_file : g.file ≡ file) (is : IsHold t g) where
  asked-within : h.asked < length h.slots
  asked-within = subst (λ n. h.asked < n) (sym x.slots) asked

  asked-free : slice_index_or h.slots h.asked None ≡ None
  asked-free = x.behind h.asked (omega arith)

  range-within : g.pinned.range < length s.map.hands.pins
  range-within = let a = is.range in let b = u.keeps.map.count in omega (arith, a, b)

  leases-are : t.files.hands.leases ≡ slice_set s.files.hands.leases file (slice_index_or s.files.hands.leases file 0 + 1)
  leases-are = ap (λ (f : FileHands). f.leases) u.keeps.files.hands

  pins-are : t.map.hands.pins ≡ slice_set s.map.hands.pins g.pinned.range (slice_index_or s.map.hands.pins g.pinned.range 0 + 1)
  pins-are = ap (λ (f : Hands). f.pins) hands

  HasHolds-granted : HasHolds t (granted_one h g)
  HasHolds-granted = record {
    asked = omega (arith, asked);
    slots = length-set h.slots h.asked (Some g) ∙ x.slots;
    behind = λ n le. slot-other h g n (λ e. absurd (omega (arith, e, le))) ∙ x.behind n (omega (arith, le));
    each = λ n f e.
        dite (ℕ_discrete n h.asked)
        (λ same.
        let here : granted_at (granted_one h g) h.asked ≡ Some f = subst (λ m. granted_at (granted_one h g) m ≡ Some f) same e in
        let both : Some g ≡ Some f = sym (slot-new h g asked-within) ∙ here in
        let eq : g ≡ f = cc in
        subst (λ (y : Granted). IsHold t y) eq is)
        (λ apart.
        let was : granted_at h n ≡ Some f = sym (slot-other h g n apart) ∙ e in
        IsHold-rests s t f (rests s t file z u) (pin-had s h n f x was) (x.each n f was));
    leases = λ j.
        let a = ap (λ (l : List ℕ). slice_index_or l j 0) leases-are in
        let b = more-at s.files.hands.leases file j u.counted in
        let c = x.leases j in
        let d = leases-more j h.slots h.asked g asked-within asked-free in
        let e = ap (λ n. one_at n j) of_file in
        omega (arith, a, b, c, d, e);
    pins = λ j.
        let a = ap (λ (l : List ℕ). slice_index_or l j 0) pins-are in
        let b = more-at s.map.hands.pins g.pinned.range j range-within in
        let c = x.pins j in
        let d = pins-more j h.slots h.asked g asked-within asked-free in
        omega (arith, a, b, c, d);
    all_leases =
        let a = ap (λ (l : List ℕ). sum l) leases-are in
        let b = sum-more s.files.hands.leases file u.counted in
        let c = x.all_leases in
        let d = count-more h.slots h.asked g asked-within asked-free in
        omega (arith, a, b, c, d);
    all_pins =
        let a = ap (λ (l : List ℕ). sum l) pins-are in
        let b = sum-more s.map.hands.pins g.pinned.range range-within in
        let c = x.all_pins in
        let d = count-more h.slots h.asked g asked-within asked-free in
        omega (arith, a, b, c, d);
  }

-- ---- the size that was noted

file-lent : (v : BoardView) (file z : ℕ) → file < length v.files → file_at (leased v file z) file ≡ leased_file (is_some v.over) z (file_at v file)
file-lent v file z within = file_at-with_file v file (leased_file (is_some v.over) z (file_at v file)) within

module _ (s t : Stand) (file z : ℕ) (u : UnderLease s file z t) where
  file-stays : StaysFile (file_at (leased s.files file z) file) (file_at t.files file)
  file-stays = u.keeps.files.each file (subst (λ n. file < n) (sym (alone-leased s.files file z u.within).count) u.within)

  floor-noted : (file_at t.files file).floor ≡ Some z
  floor-noted = file-stays.floor ∙ ap (λ (f : FileView). f.floor) (file-lent s.files file z u.within)

  kept-noted : IsSome s.files.over → IsNoted s.files file z t.files
  kept-noted over =
      let f = file_at s.files file in
      let n : Note = record { size = z; lower = length f.history; upper = None } in
      let stays = file-stays.notes (length f.notes) n (note-leased s.files file z u.within over) in
      (length f.notes, stays.note, stays.at, stays.size, stays.lower)

  -- over an honest wire nothing of the files has changed since the lease
  open-noted : s.wire.honest ≡ true → IsSome s.files.over → IsOpenNote s.files file z t.files
  open-noted honest over = (
    length (file_at s.files file).notes,
    subst (λ (b : BoardView). slice_get (file_at b file).notes (length (file_at s.files file).notes) ≡ Some (record { size = z; lower = length (file_at s.files file).history; upper = None })) (sym (u.keeps.still honest).files) (note-leased s.files file z u.within over),
  )

  pub asks-granted : (h k : Holds) (chunk end : ℕ) (mode : Mode) (p : Pinned) → k ≡ granted_one h (record { file = file; chunk = chunk; mode = mode; pinned = p; end = end }) → end ≡ min (range_size * (chunk + 1)) z → Gets (lent s file z) file chunk mode (Ok p) t → AsksHold s h file chunk mode (Ok (record { end = end; through = p.through })) t k
  asks-granted h k chunk end mode p is lesser (hands, pin, looks) = (
    looks,
    record {
      granted = record { file = file; chunk = chunk; mode = mode; pinned = p; end = end };
      holds = is;
      file = refl;
      chunk = refl;
      mode = refl;
      through = refl;
      end = refl;
      live = pin.live;
      noted = z;
      lesser = lesser;
      floor = floor-noted;
      plain = u.plain;
      kept = kept-noted;
      open_note = open-noted;
    },
  )

pub holds-granted : (s t : Stand) (h k : Holds) (file z chunk end : ℕ) (mode : Mode) (p : Pinned) → UnderLease s file z t → HasHolds s h → h.asked < max_holds → chunk < 32 → end ≡ min (range_size * (chunk + 1)) z → k ≡ granted_one h (record { file = file; chunk = chunk; mode = mode; pinned = p; end = end }) → Gets (lent s file z) file chunk mode (Ok p) t → HasHolds t k
holds-granted s t h k file z chunk end mode p u x asked small lesser is (hands, pin, looks) =
    let g : Granted = record { file = file; chunk = chunk; mode = mode; pinned = p; end = end } in
    subst (λ (j : Holds). HasHolds t j) (sym is) (
    HasHolds-granted s t h file z g u x asked hands refl (granted-hold t file chunk end mode p (within-after s t file z u) small (omega (arith, lesser)) pin))

-- ---- a hold is refused

hands-got : (s : Stand) (file chunk : ℕ) (mode : Mode) (e : DaxRefusal) (t : Stand) → Gets s file chunk mode (Err e) t → t.map.hands ≡ s.map.hands
hands-got s file chunk mode (dax.Busy looked) t x = x.0
hands-got s file chunk mode (dax.Errno number) t x = x.0
hands-got s file chunk mode (dax.BadReply bytes) t x = x.0
hands-got s file chunk mode dax.WireFault t x = x.0
hands-got s file chunk mode dax.Memory t x = x.0

-- the stand without the lease
abbrev pub unlent : Stand → ℕ → Stand
unlent t file = record t { files = unleased t.files file }

HasHolds-refused : (t : Stand) (h : Holds) → h.asked < max_holds → HasHolds t h → HasHolds t (refused_one h)
HasHolds-refused t h asked x = record {
  asked = omega (arith, asked);
  slots = x.slots;
  behind = λ n le. x.behind n (omega (arith, le));
  each = x.each;
  leases = x.leases;
  pins = x.pins;
  all_leases = x.all_leases;
  all_pins = x.all_pins;
}

chunk-first : (chunk : ℕ) → first_chunk (range_size * chunk) ≡ chunk
chunk-first chunk = omega arith

module _ (s t : Stand) (file z : ℕ) (u : UnderLease s file z t) where
  hands-back : (unleased t.files file).hands ≡ s.files.hands
  hands-back = hands-unleased s.files t.files file z (hands-lent s t file z u)

  leaves-refused : (chunk : ℕ) (mode : Mode) (e : DaxRefusal) → Gets (lent s file z) file chunk mode (Err e) t → LeavesAll s (unlent t file)
  leaves-refused chunk mode e x =
      LeavesAll-between s.wire t.wire s.map t.map s.files (leased s.files file z) t.files (unleased t.files file) file
      (alone-leased s.files file z u.within) (alone-unleased t.files file (within-after s t file z u)) hands-back
      (record { wire = u.keeps.wire; files = StaysBoard-files (leased s.files file z) t.files u.keeps.files; map = u.keeps.map; hands = hands-got (lent s file z) file chunk mode e t x })

  pub holds-refused : (h : Holds) (chunk : ℕ) (mode : Mode) (e : DaxRefusal) → HasHolds s h → h.asked < max_holds → Gets (lent s file z) file chunk mode (Err e) t → HasHolds (unlent t file) (refused_one h)
  holds-refused h chunk mode e x asked gets = HasHolds-refused (unlent t file) h asked (HasHolds-leaves s (unlent t file) h (leaves-refused chunk mode e gets) x)

  not-granted : (h : Holds) (chunk : ℕ) (mode : Mode) (e : DaxRefusal) → Gets (lent s file z) file chunk mode (Err e) t → IsNotGranted s h (unlent t file) (refused_one h)
  not-granted h chunk mode e x = record { holds = refl; leases = hands-back; pins = hands-got (lent s file z) file chunk mode e t x }

  pub asks-refused : (h : Holds) (chunk : ℕ) (mode : Mode) (e : DaxRefusal) (r : Refusal) → 0 < range_count s.map → Gets (lent s file z) file chunk mode (Err e) t → IsOfDax e r → AsksHold s h file chunk mode (Err r) (unlent t file) (refused_one h)
  asks-refused h chunk mode (dax.Busy looked) r some x is =
      let (hands, blocked, looks, unplaced) = x in
      rw is (not-granted h chunk mode (dax.Busy looked) x, (some, looks, inl (blocked, subst (λ n. IsUnplaced s.map file n t.map) (sym (chunk-first chunk)) unplaced)))
  asks-refused h chunk mode (dax.Errno number) r some x is = rw is (not-granted h chunk mode (dax.Errno number) x, x.1, x.2)
  asks-refused h chunk mode (dax.BadReply bytes) r some x is = rw is (not-granted h chunk mode (dax.BadReply bytes) x, x.1, x.2)
  asks-refused h chunk mode dax.WireFault r some x is = rw is (not-granted h chunk mode dax.WireFault x, x.1, x.2.0, x.2.1)
  asks-refused h chunk mode dax.Memory r some x is = rw is (not-granted h chunk mode dax.Memory x, x.1)
