-- What SETUPMAPPING maps, and what is seen of it.
use Rattle.std.proofs.Common.{◌≡◌, ◌∙◌, ap, sym, refl, subst, ℕ, ◌+◌, ◌-◌, ◌*◌, ◌/◌, ◌<◌, ◌≤◌, true, false, List, length, get_or, Option, None, Some, Result, Ok, inr, arith}
use Rattle.std.specs.Option.{option_map}
use Rattle.page_map.specs.declared.pages.Mode.{Mode}
use Rattle.page_map.specs.declared.pages.Page.{Page}
use Rattle.page_map.specs.declared.pages.Span.{Span}
use Rattle.page_map.specs.declared.ranges.Target.{Target}
use Rattle.page_map.specs.Plain.{range_pages}
use Rattle.page_map.specs.Window.{page_of, page_size, range_size}
use Rattle.page_map.specs.Board.{MapView, Hands, RangesView, painted, replaced}
use Rattle.page_map.proofs.Replacing.{get_or-replaced}
use Rattle.range_tree.specs.Ranges.{range_count, IsMapped, HoldsRange, IsInHand, target_page, Targets, targeted}
use Rattle.fuse_codec.specs.declared.messages.Message.{Message}
use Rattle.fuse_device.specs.State.{World}
use Rattle.guest_wire.specs.Keeps.{KeepsPages}
use Rattle.guest_wire.specs.Wires.{WireView, Boards, Sent}
use Rattle.guest_wire.specs.declared.wires.WireError.{WireError}
use Rattle.guest_dax.specs.declared.refusals.DaxRefusal.{DaxRefusal}
use Rattle.guest_dax.specs.declared.refusals.DaxRefusal.TheVariants as refusals
use Rattle.guest_dax.specs.Stands.{Stand, KeepsMap, chunk_span}
use Rattle.guest_dax.specs.Reclaims.{Caused}
use Rattle.guest_dax.specs.Causes.{IsCause, IsUndone, IsAnswered}
use Rattle.guest_dax.specs.Pinning.{MapsRest}
use Rattle.guest_dax.proofs.Keeping.{KeepsMap-same}
use Rattle.guest_dax.proofs.Walking.{Asks, asked}

-- ---- what SETUPMAPPING maps

painted-mapped : (v : MapView) (file chunk range : ℕ) (mode : Mode) → range_pages * (range + 1) ≤ length v.table → IsMapped (painted v (chunk_span file chunk range mode)) range (Some (record { file = file; chunk = chunk; mode = mode }))
painted-mapped v file chunk range mode within i below =
    let s : Span = chunk_span file chunk range mode in
    let first : s.moffset / page_size ≡ range_pages * range = omega arith in
    let count : s.len / page_size ≡ range_pages = omega arith in
    let f : ℕ → Option (Option Page) = λ page. Some (Some (page_of s page)) in
    let e : get_or (replaced f v.table (range_pages * range) range_pages) (range_pages * range + i) None ≡ f (range_pages * range + i) = get_or-replaced f v.table (range_pages * range) range_pages (range_pages * range + i) None (omega arith) (omega arith) (omega arith) in
    let place : range_size * chunk + (page_size * (range_pages * range + i) - range_size * range) ≡ range_size * chunk + page_size * i = omega arith in
    ap (λ n. get_or (replaced f v.table n (s.len / page_size)) (range_pages * range + i) None) first ∙ ap (λ n. get_or (replaced f v.table (range_pages * range) n) (range_pages * range + i) None) count ∙ e
    ∙ ap (λ n. Some (Some (record { node = file + 2; foffset = n; mode = mode }))) place

-- a range is mapped in one way
mapped-one : (a : Target) (t : Option Target) → option_map (target_page 0) t ≡ Some (target_page 0 a) → t ≡ Some a
mapped-one a None e = cc
mapped-one a (Some b) e =
    let p : target_page 0 b ≡ target_page 0 a = cc in
    let node : b.file + 2 ≡ a.file + 2 = ap (λ (p : Page). p.node) p in
    let place : range_size * b.chunk + page_size * 0 ≡ range_size * a.chunk + page_size * 0 = ap (λ (p : Page). p.foffset) p in
    let mode : b.mode ≡ a.mode = ap (λ (p : Page). p.mode) p in
    let f : b.file ≡ a.file = omega arith in
    let c : b.chunk ≡ a.chunk = omega arith in
    ap (λ f. Some (record { file = f; chunk = b.chunk; mode = b.mode })) f ∙ ap (λ c. Some (record { file = a.file; chunk = c; mode = b.mode })) c ∙ ap (λ m. Some (record { file = a.file; chunk = a.chunk; mode = m })) mode

pub IsMapped-one : (v : MapView) (range : ℕ) (a : Target) (t : Option Target) → IsMapped v range (Some a) → IsMapped v range t → t ≡ Some a
IsMapped-one v range a t h k =
    let e : Some (option_map (target_page 0) t) ≡ Some (Some (target_page 0 a)) = sym (k 0 (omega arith)) ∙ h 0 (omega arith) in
    mapped-one a t cc

-- ---- the board afterwards

pub MapsRest-pages : (v w : MapView) → KeepsPages v w → MapsRest v w
MapsRest-pages v w k = record { hands = k.hands; logs = ap (λ (r : RangesView). r.logs) k.ranges; pinned = ap (λ (r : RangesView). r.pinned) k.ranges; looks = ap (λ (r : RangesView). r.looks) k.ranges; sweeps = ap (λ (r : RangesView). r.sweeps) k.ranges; rounds = ap (λ (r : RangesView). r.rounds) k.ranges }

pub MapsRest-target : (u v : MapView) (range : ℕ) (t : Option Target) (w : MapView) → MapsRest u v → w ≡ targeted v range t → MapsRest u w
MapsRest-target u v range t w k e = subst (λ (m : MapView). MapsRest u m) (sym e) (record { hands = k.hands; logs = k.logs; pinned = k.pinned; looks = k.looks; sweeps = k.sweeps; rounds = k.rounds })

pub KeepsMap-target : (v : MapView) (range : ℕ) (t : Option Target) (w : MapView) → w ≡ targeted v range t → KeepsMap v w
KeepsMap-target v range t w e =
    let same = KeepsMap-same v in
    subst (λ (m : MapView). KeepsMap v m) (sym e) (record { plain = refl; over = refl; guest = refl; may_take = refl; others = refl; pages = refl; count = refl; files = refl; logs = same.logs; pins = same.pins; pinned = same.pinned })

pub IsInHand-pages : (v w : MapView) (range : ℕ) → KeepsPages v w → IsInHand v range → IsInHand w range
IsInHand-pages v w range k h =
    subst (λ (r : RangesView). IsInHand (record w { ranges = r }) range) (sym k.ranges) (subst (λ (x : Hands). IsInHand (record w { hands = x; ranges = v.ranges }) range) (sym k.hands) h)

pub count-pages : (v w : MapView) (range : ℕ) → KeepsPages v w → range < range_count v → range < range_count w
count-pages v w range k h = subst (λ (x : Hands). range < length x.pins) (sym k.hands) h

pub mapped-seen : (v : MapView) (range : ℕ) (t : Option Target) (w : MapView) (a : Target) → HoldsRange v range → Targets v range t w → t ≡ Some a → IsMapped w range (Some a)
mapped-seen v range t w a held seen is = subst (λ (m : MapView). IsMapped m range (Some a)) (sym seen.counted) (subst (λ (o : Option Target). IsMapped v range o) is (seen.held held))

-- where the map is the wanted one, it is seen so
pub unseen-unmapped : (v : MapView) (range : ℕ) (t : Option Target) (w : MapView) (a : Target) → HoldsRange v range → Targets v range t w → (t ≡ Some a → ⊥) → IsMapped v range (Some a) → ⊥
unseen-unmapped v range t w a held seen not mapped = not (IsMapped-one v range a t mapped (seen.held held))

-- over an honest wire the range is mapped after a success
pub setup-mapped : {S : Type 0} (wire : S → WireView) (gives : S → Boards → Sent → Result (List ℕ) WireError → S → Boards → Type 0) (before : S) (old : Boards) (m : Message) (file chunk range : ℕ) (mode : Mode) (after : S) (new : Boards)
    → Asks wire gives before old m (painted old.map (chunk_span file chunk range mode)) (Ok tt) after new → range < range_count old.map → length old.map.table ≡ range_pages * range_count old.map → (wire before).honest ≡ true → IsMapped new.map range (Some (record { file = file; chunk = chunk; mode = mode }))
setup-mapped wire gives before old m file chunk range mode after new a low long honest =
    let k = asked wire gives before old m (painted old.map (chunk_span file chunk range mode)) (Ok tt) after new a honest in
    subst (λ (v : MapView). IsMapped v range (Some (record { file = file; chunk = chunk; mode = mode }))) (sym (ap (λ (w : World). w.map) k)) (painted-mapped old.map file chunk range mode (omega (arith, low, long)))

-- ---- a success after which the window hasn't what was asked for

pub Caused-undone : (unique : ℕ) (e : DaxRefusal) (s t : Stand) → IsUndone unique e → s.wire.honest ≡ false → Caused s e t
Caused-undone unique (refusals.Busy looked) s t u h = absurd u
Caused-undone unique (refusals.Errno number) s t u h = absurd u
Caused-undone unique (refusals.BadReply bytes) s t u h = h
Caused-undone unique refusals.WireFault s t u h = absurd u
Caused-undone unique refusals.Memory s t u h = tt

pub cause-undone : {S : Type 0} (wire : S → WireView) (gives : S → Boards → Sent → Result (List ℕ) WireError → S → Boards → Type 0) (before : S) (unique : ℕ) (e : DaxRefusal) (after : S) (now : ℕ) → IsAnswered wire gives before unique (Ok tt) after now → IsUndone now e → IsCause wire gives before unique e after now
cause-undone wire gives before unique (refusals.Busy looked) after now a u = absurd u
cause-undone wire gives before unique (refusals.Errno number) after now a u = absurd u
cause-undone wire gives before unique (refusals.BadReply bytes) after now a u = inr (record { answered = a; bytes_are = u })
cause-undone wire gives before unique refusals.WireFault after now a u = absurd u
cause-undone wire gives before unique refusals.Memory after now a u = tt
