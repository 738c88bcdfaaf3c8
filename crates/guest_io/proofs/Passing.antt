-- An operation on an interval of a file through the window: its chunks, and what comes of it.
use Rattle.std.proofs.Common.{◌≡◌, ◌∙◌, ap, sym, refl, subst, ℕ, ◌+◌, ◌-◌, ◌<◌, ◌≤◌, true, List, [], length, take, get_or, slice_set, Option, Some, None, Result, Ok, Err, inl, inr, arith}
use Rattle.std.specs.Prelude.{◌≢◌}
use Rattle.std.proofs.lemmas.Grind.{common_steps}
use Rattle.plain_file.specs.Board.{BoardView}
use Rattle.plain_file.specs.declared.operations.Op.{Op}
use Rattle.plain_file.specs.declared.refusals.Memory.{Memory}
use Rattle.plain_file.specs.Limits.{max_transfer}
use Rattle.page_map.specs.declared.pages.Mode.{Mode}
use Rattle.page_map.specs.declared.ranges.LogEntry.{LogEntry}
use Rattle.page_map.specs.declared.ranges.RangeWord.{RangeWord}
use Rattle.page_map.specs.declared.ranges.RangeWord.TheVariants as words
use Rattle.page_map.specs.Board.{MapView, Hands, Noted, log_at}
use Rattle.page_map.specs.Logs.{placed_at}
use Rattle.range_tree.specs.Ranges.{range_count, unpinned}
use Rattle.guest_wire.specs.Wires.{WireView, KeepsWire}
use Rattle.guest_wire.specs.Keeps.{Begins}
use Rattle.guest_dax.specs.Stands.{Stand, Keeps, KeepsMap}
use Rattle.guest_dax.specs.Looks.{NoLooks, Blocks, AllBlocked, looks_from}
use Rattle.guest_dax.specs.Pinning.{with_one}
use Rattle.guest_dax.specs.Reclaims.{Caused}
use Rattle.guest_dax.specs.declared.pins.Pinned.{Pinned}
use Rattle.guest_dax.specs.declared.refusals.DaxRefusal.{DaxRefusal}
use Rattle.guest_dax.specs.declared.refusals.DaxRefusal.TheVariants as dax
use Rattle.guest_dax.proofs.Walking.{Keeps-same, Keeps-both}
use Rattle.guest_dax.proofs.Rounds.{Caused-keeps}
use Rattle.guest_io.specs.declared.calls.Done.{Done}
use Rattle.guest_io.specs.declared.calls.Refusal.{Refusal}
use Rattle.guest_io.specs.declared.calls.Refusal.TheVariants as refusals
use Rattle.guest_io.specs.declared.pins.Pins.{Pins}
use Rattle.guest_io.specs.Calls.{Directs, KeepsFloor, first_chunk, last_chunk}
use Rattle.guest_io.specs.Chunks.{AppliesDirect, Gets, StaysRounds, IsUnplaced, IsUnpinned, way_of, with_all, without_all, more_on, IsGivenBack}
use Rattle.guest_io.specs.Windows.{GetsSecond, GetsAll, HasAll, CoversBy, GoesThrough, IsOfDax}
use Rattle.guest_io.specs.Requests.{IsUndone}
use Rattle.guest_io.specs.Going.{StaysBoard, LeavesAll, KeepsRounds, one_more_pin}
use Rattle.guest_io.proofs.Entered.{undone-same}
use Rattle.guest_io.proofs.Staying.{StaysBoard-files, StaysBoard-both}
use Rattle.guest_io.proofs.Holding.{given-all, held-pin, held-two, but-given, IsButHands, KeepsMap-but, NoLooks-but}
use Rattle.guest_io.proofs.Growing.{IsThrough-grown}

-- ---- chunks

pub two-chunks : (off len : ℕ) → 0 < len → len ≤ max_transfer → last_chunk off len ≢ first_chunk off → last_chunk off len ≡ first_chunk off + 1
two-chunks off len some most ne = omega (arith, some, most, ne)

-- ---- what shows that no range can be taken

blocks-as : (u v : MapView) (own : ℕ) (word : RangeWord) → v.ranges.guest ≡ u.ranges.guest → v.ranges.others ≡ u.ranges.others → Blocks v own word → Blocks u own word
blocks-as u v own words.Free g o b = b
blocks-as u v own (words.Moving guest) g o (ne, alone) = (λ e. ne (e ∙ sym g), sym o ∙ alone)
blocks-as u v own (words.Mapped file chunk mode pins) g o (some, low, alone) = (some, low, λ none. alone (o ∙ none))

all-blocked : (u v w x : MapView) → v.hands ≡ u.hands → v.ranges.guest ≡ u.ranges.guest → v.ranges.others ≡ u.ranges.others → x.ranges.looks ≡ w.ranges.looks → AllBlocked v w → AllBlocked u x
all-blocked u v w x e g o looks h range within =
    let b = h range (subst (λ (k : Hands). range < length k.pins) (sym e) within) in
    record {
      noted = b.noted;
      at = ap (λ (l : List (Option Noted)). get_or l range None) looks ∙ b.at;
      own = b.own ∙ ap (λ (k : Hands). get_or k.pins range 0) e;
      blocks = blocks-as u v b.noted.own b.noted.word g o b.blocks;
    }

begins-longer : (xs ys : List LogEntry) → Begins xs ys → length xs ≤ length ys
begins-longer xs ys (more, e) = let n : length ys ≡ length xs + length more = ap length e ∙ grind (arith, common_steps) in omega (arith, n)

unpinned-before : (s t : MapView) (file chunk : ℕ) → KeepsMap s t → IsUnpinned t file chunk → IsUnpinned s file chunk
unpinned-before s t file chunk k none range had on shows =
    let more = k.pins range in
    let same = k.pinned range had in
    none range (omega (arith, had, more)) (same.same_file ∙ on) (same.same_chunk ∙ shows)

unplaced-after : (s t u w : MapView) (file chunk : ℕ) → KeepsMap s t → w.ranges.logs ≡ u.ranges.logs → IsUnplaced t file chunk u → IsUnplaced s file chunk w
unplaced-after s t u w file chunk k logs (n, low, high, none, unpinned) =
    let longer = begins-longer (log_at s file) (log_at t file) (k.logs file) in
    let same : log_at w file ≡ log_at u file = ap (λ (ls : List (List LogEntry)). get_or ls file []) logs in
    (n, omega (arith, low, longer), subst (λ (l : List LogEntry). n ≤ length l) (sym same) high, ap (λ (l : List LogEntry). placed_at (take n l) chunk) same ∙ none, unpinned-before s t file chunk k unpinned)

-- ---- one chunk

pub GetsAll-one : (s t : Stand) (file off len : ℕ) (mode : Mode) (p : Pinned) → last_chunk off len ≡ first_chunk off → Gets s file (first_chunk off) mode (Ok p) t → GetsAll s file off len mode (Ok (record { first = p; second = None })) t
GetsAll-one s t file off len mode p one (hands, pin, looks) = (hands, (one, pin.live), held-pin t.map file (first_chunk off) mode p pin, looks)

pub GetsAll-refused : (s t : Stand) (file off len : ℕ) (mode : Mode) (e : DaxRefusal) → 0 < range_count s.map → Gets s file (first_chunk off) mode (Err e) t → GetsAll s file off len mode (Err e) t
GetsAll-refused s t file off len mode (dax.Busy looked) some (hands, blocked, looks, unplaced) = (hands, (some, looks, inl (blocked, unplaced)))
GetsAll-refused s t file off len mode (dax.Errno number) some g = g
GetsAll-refused s t file off len mode (dax.BadReply bytes) some g = g
GetsAll-refused s t file off len mode dax.WireFault some g = g
GetsAll-refused s t file off len mode dax.Memory some g = g

-- ---- two chunks

HasAll-two : (s t u : Stand) (file off len : ℕ) (mode : Mode) (p q : Pinned) → last_chunk off len ≡ first_chunk off + 1 → Gets s file (first_chunk off) mode (Ok p) t → Keeps t u → Gets t file (first_chunk off + 1) mode (Ok q) u → HasAll s file off len mode p (Some q) u
HasAll-two s t u file off len mode p q two (hands, pin, looks) k (hands', pin', looks') =
    let upto = pin.upto in (
      hands' ∙ ap (λ (h : Hands). record h { moves = None; pins = more_on h.pins q.range }) hands,
      (two, IsThrough-grown (log_at t.map file) (log_at u.map file) (first_chunk off) mode p.through (k.map.logs file) (omega (arith, upto)) pin.live, pin'.live),
      held-two t.map u.map file (first_chunk off + 1) mode p q k.map (held-pin t.map file (first_chunk off) mode p pin) hands' pin',
      looks',
    )

hands-less : (s t m u : MapView) (p : Pinned) → s.hands.moves ≡ None → t.hands ≡ with_one s p.range None → m.hands ≡ t.hands → u ≡ unpinned m p.range → u.hands ≡ s.hands
hands-less s t m u p none h k e =
    ap (λ (x : MapView). x.hands) e ∙ ap (λ (x : Hands). record x { pins = slice_set x.pins p.range (get_or x.pins p.range 0 - 1) }) (k ∙ h) ∙ given-all s.hands p None none

but-unpinned : (m u : MapView) (range : ℕ) → u ≡ unpinned m range → IsButHands m u
but-unpinned m u range e = subst (λ (x : MapView). IsButHands m x) (sym e) refl

unpinned-looks : (m u : MapView) (range : ℕ) → u ≡ unpinned m range → u.ranges.looks ≡ m.ranges.looks
unpinned-looks m u range e = ap (λ (x : MapView). x.ranges.looks) e

refused-second : (s t u : Stand) (m : MapView) (p : Pinned) → s.map.hands.moves ≡ None → t.map.hands ≡ with_one s.map p.range None → m.hands ≡ t.map.hands → u.map ≡ unpinned m p.range → Keeps s t → Keeps t (record u { map = m }) → Keeps s u
refused-second s t u m p none h k e a b =
    let c = Keeps-both s t (record u { map = m }) a b in
    record { wire = c.wire; files = c.files; still = λ honest. let x = c.still honest in record { files = x.files; state = x.state }; map = KeepsMap-but s.map m u.map c.map (but-unpinned m u.map p.range e) (hands-less s.map t.map m u.map p none h k e) }

hands-kept : (t : Stand) (file chunk : ℕ) (mode : Mode) (e : DaxRefusal) (u : Stand) → Gets t file chunk mode (Err e) u → u.map.hands ≡ t.map.hands
hands-kept t file chunk mode (dax.Busy looked) u g = g.0
hands-kept t file chunk mode (dax.Errno number) u g = g.0
hands-kept t file chunk mode (dax.BadReply bytes) u g = g.0
hands-kept t file chunk mode dax.WireFault u g = g.0
hands-kept t file chunk mode dax.Memory u g = g.0

pub Keeps-second : (s t u : Stand) (file chunk : ℕ) (mode : Mode) (p : Pinned) (r : Result Pins DaxRefusal) → s.map.hands.moves ≡ None → Keeps s t → t.map.hands ≡ with_one s.map p.range None → GetsSecond t file chunk mode p r u → Keeps s u
Keeps-second s t u file chunk mode p (Ok pins) none k h (is, l, g) = Keeps-both s t u k l
Keeps-second s t u file chunk mode p (Err e) none k h (m, l, g, un) = refused-second s t u m p none h (hands-kept t file chunk mode e (record u { map = m }) g) un k l

-- a refusal that isn't Busy
second-caused : (s t u : Stand) (m : MapView) (p : Pinned) (e : DaxRefusal) → s.map.hands.moves ≡ None → Keeps s t → t.map.hands ≡ with_one s.map p.range None → Keeps t (record u { map = m }) → u.map ≡ unpinned m p.range → (m.hands ≡ t.map.hands) → NoLooks m → Caused t e (record u { map = m }) → (u.map.hands ≡ s.map.hands) × NoLooks u.map × Caused s e (record u { map = m })
second-caused s t u m p e none k h l un hands looks caused =
    let same = hands-less s.map t.map m u.map p none h hands un in
    let c = Keeps-both s t (record u { map = m }) k l in
    (same, NoLooks-but s.map m u.map c.map.count looks (unpinned-looks m u.map p.range un) same, Caused-keeps s t (record u { map = m }) e k caused)

pub GetsAll-second : (s t u : Stand) (file off len chunk : ℕ) (mode : Mode) (p : Pinned) (r : Result Pins DaxRefusal) → 0 < range_count s.map → chunk ≡ first_chunk off + 1 → last_chunk off len ≡ first_chunk off + 1 → s.map.hands.moves ≡ None → Keeps s t → Gets s file (first_chunk off) mode (Ok p) t → GetsSecond t file chunk mode p r u → GetsAll s file off len mode r u
GetsAll-second s t u file off len chunk mode p (Ok pins) some is two none k g (first, l, (q, second, g')) =
    subst (λ (f : Pinned). HasAll s file off len mode f pins.second u) (sym first) (
    subst (λ (o : Option Pinned). HasAll s file off len mode p o u) (sym second) (
    HasAll-two s t u file off len mode p q two g l (subst (λ c. Gets t file c mode (Ok q) u) is g')))
GetsAll-second s t u file off len chunk mode p (Err (dax.Busy looked)) some is two none k (hands, pin, looks) (m, l, (h, blocked, looked_is, unplaced), un) =
    let same = unpinned-looks m u.map p.range un in
    let more : t.map.hands ≡ (one_more_pin s.map p.range).hands = hands ∙ ap (λ (x : Option ℕ). with_one s.map p.range x) (sym none) in (
      hands-less s.map t.map m u.map p none hands h un,
      (
        some,
        looked_is ∙ ap (λ (x : List (Option Noted)). looks_from 0 x) (sym same),
        inr (
          two,
          (p.range, all-blocked (one_more_pin s.map p.range) t.map m u.map more k.map.guest k.map.others same blocked),
          subst (λ c. IsUnplaced s.map file c u.map) is (unplaced-after s.map t.map m u.map file chunk k.map (ap (λ (x : MapView). x.ranges.logs) un) unplaced),
        ),
      ),
    )
GetsAll-second s t u file off len chunk mode p (Err (dax.Errno number)) some is two none k (hands, pin, looks) (m, l, (h, nolooks, caused), un) = second-caused s t u m p (dax.Errno number) none k hands l un h nolooks caused
GetsAll-second s t u file off len chunk mode p (Err (dax.BadReply bytes)) some is two none k (hands, pin, looks) (m, l, (h, nolooks, caused), un) = second-caused s t u m p (dax.BadReply bytes) none k hands l un h nolooks caused
GetsAll-second s t u file off len chunk mode p (Err dax.WireFault) some is two none k (hands, pin, looks) (m, l, (h, nolooks, caused), un) = second-caused s t u m p dax.WireFault none k hands l un h nolooks caused
GetsAll-second s t u file off len chunk mode p (Err dax.Memory) some is two none k (hands, pin, looks) (m, l, (h, nolooks, caused), un) = second-caused s t u m p dax.Memory none k hands l un h nolooks caused

pub rounds-second : {T : Type 0} (s t u : MapView) (r : Result T DaxRefusal) → t.ranges.rounds ≡ s.ranges.rounds → StaysRounds t r u → StaysRounds s r u
rounds-second s t u (Ok p) k h = h ∙ k
rounds-second s t u (Err (dax.Busy looked)) k h = h ∙ k
rounds-second s t u (Err (dax.Errno number)) k h = h ∙ k
rounds-second s t u (Err (dax.BadReply bytes)) k h = h ∙ k
rounds-second s t u (Err dax.WireFault) k h = h ∙ k
rounds-second s t u (Err dax.Memory) k h = tt

pub rounds-given : (T U : Type 0) (s t u : MapView) (e : DaxRefusal) → u.ranges.rounds ≡ t.ranges.rounds → StaysRounds {T = T} s (Err e) t → StaysRounds {T = U} s (Err e) u
rounds-given T U s t u (dax.Busy looked) k h = k ∙ h
rounds-given T U s t u (dax.Errno number) k h = k ∙ h
rounds-given T U s t u (dax.BadReply bytes) k h = k ∙ h
rounds-given T U s t u dax.WireFault k h = k ∙ h
rounds-given T U s t u dax.Memory k h = tt

-- ---- what is left

hands-given : (s t u : MapView) (first : Pinned) (second : Option Pinned) → s.hands.moves ≡ None → t.hands ≡ with_all s.hands first second → IsGivenBack t first second u → u.hands ≡ s.hands
hands-given s t u first second none h e = ap (λ (m : MapView). m.hands) e ∙ ap (λ (k : Hands). without_all k first second) h ∙ given-all s.hands first second none

pub LeavesAll-through : (s t u : Stand) (first : Pinned) (second : Option Pinned) → s.map.hands.moves ≡ None → Keeps s t → t.map.hands ≡ with_all s.map.hands first second → IsGivenBack t.map first second u.map → u.wire ≡ t.wire → StaysBoard t.files u.files → LeavesAll s u
LeavesAll-through s t u first second none k h back wire board =
    let hands = hands-given s.map t.map u.map first second none h back in
    record {
      wire = subst (λ (w : WireView). KeepsWire s.wire w) (sym wire) k.wire;
      files = StaysBoard-both s.files t.files u.files (StaysBoard-files s.files t.files k.files) board;
      map = KeepsMap-but s.map t.map u.map k.map (but-given t.map first second u.map back) hands;
      hands = hands;
    }

pub LeavesAll-same : (s : Stand) → LeavesAll s s
LeavesAll-same s = let k = Keeps-same s in record { wire = k.wire; files = StaysBoard-files s.files s.files k.files; map = k.map; hands = refl }

all-kept : (s t : Stand) (file off len : ℕ) (mode : Mode) (e : DaxRefusal) → GetsAll s file off len mode (Err e) t → t.map.hands ≡ s.map.hands
all-kept s t file off len mode (dax.Busy looked) g = g.0
all-kept s t file off len mode (dax.Errno number) g = g.0
all-kept s t file off len mode (dax.BadReply bytes) g = g.0
all-kept s t file off len mode dax.WireFault g = g.0
all-kept s t file off len mode dax.Memory g = g.0

pub LeavesAll-refused : (s t : Stand) (file off len : ℕ) (mode : Mode) (e : DaxRefusal) → Keeps s t → GetsAll s file off len mode (Err e) t → LeavesAll s t
LeavesAll-refused s t file off len mode e k g = record { wire = k.wire; files = StaysBoard-files s.files t.files k.files; map = k.map; hands = all-kept s t file off len mode e g }

-- ---- what is answered

logs-given : (t u : MapView) (first : Pinned) (second : Option Pinned) → IsGivenBack t first second u → u.ranges.logs ≡ t.ranges.logs
logs-given t u first second e = ap (λ (m : MapView). m.ranges.logs) e

looks-given : (s t u : MapView) (first : Pinned) (second : Option Pinned) → s.hands.moves ≡ None → range_count t ≡ range_count s → t.hands ≡ with_all s.hands first second → NoLooks t → IsGivenBack t first second u → NoLooks u
looks-given s t u first second none count h looks e = NoLooks-but s t u count looks (ap (λ (m : MapView). m.ranges.looks) e) (hands-given s t u first second none h e)

goes-by : (s t u : Stand) (file call : ℕ) (op : Op) (off len : ℕ) (mode : Mode) (first : Pinned) (second : Option Pinned) (d : Done) → NoLooks u.map → CoversBy (log_at u.map file) off len mode first second → (s.wire.honest ≡ true → Directs s.files file call (way_of first second) op d u.files × KeepsFloor s.files file d u.files) → GoesThrough s file call op off len mode (Ok d) u
goes-by s t u file call op off len mode first None d looks covers does = (looks, (first.through, None, covers, does))
goes-by s t u file call op off len mode first (Some q) d looks covers does = (looks, (first.through, Some q.through, covers, does))

pub GoesThrough-ok : (s t u : Stand) (file call : ℕ) (op : Op) (off len : ℕ) (mode : Mode) (pins : Pins) (d : Done) → s.map.hands.moves ≡ None → Keeps s t → GetsAll s file off len mode (Ok pins) t → IsGivenBack t.map pins.first pins.second u.map → AppliesDirect t.files file call (way_of pins.first pins.second) op (Ok d) u.files → GoesThrough s file call op off len mode (Ok d) u
GoesThrough-ok s t u file call op off len mode pins d none k (hands, covers, held, looks) back a =
    goes-by s t u file call op off len mode pins.first pins.second d
    (looks-given s.map t.map u.map pins.first pins.second none k.map.count hands looks back)
    (subst (λ (ls : List (List LogEntry)). CoversBy (get_or ls file []) off len mode pins.first pins.second) (sym (logs-given t.map u.map pins.first pins.second back)) covers)
    (λ honest. subst (λ (b : BoardView). Directs b file call (way_of pins.first pins.second) op d u.files × KeepsFloor b file d u.files) ((k.still honest).files) a)

pub GoesThrough-memory : (s t u : Stand) (file call : ℕ) (op : Op) (off len : ℕ) (mode : Mode) (pins : Pins) (e : Memory) → s.map.hands.moves ≡ None → Keeps s t → GetsAll s file off len mode (Ok pins) t → IsGivenBack t.map pins.first pins.second u.map → AppliesDirect t.files file call (way_of pins.first pins.second) op (Err e) u.files → GoesThrough s file call op off len mode (Err refusals.Memory) u
GoesThrough-memory s t u file call op off len mode pins e none k (hands, covers, held, looks) back a = (
  looks-given s.map t.map u.map pins.first pins.second none k.map.count hands looks back,
  λ honest. inl (subst (λ (b : BoardView). IsUndone b file u.files) ((k.still honest).files) a),
)

undone-still : (s t : Stand) (file : ℕ) → Keeps s t → s.wire.honest ≡ true → IsUndone s.files file t.files
undone-still s t file k honest = subst (λ (b : BoardView). IsUndone s.files file b) (sym (k.still honest).files) (undone-same s.files file)

pub GoesThrough-refused : (s t : Stand) (file call : ℕ) (op : Op) (off len : ℕ) (mode : Mode) (e : DaxRefusal) (r : Refusal) → Keeps s t → GetsAll s file off len mode (Err e) t → IsOfDax e r → GoesThrough s file call op off len mode (Err r) t
GoesThrough-refused s t file call op off len mode (dax.Busy looked) r k (hands, busy) is = rw is (busy, λ honest. undone-still s t file k honest)
GoesThrough-refused s t file call op off len mode (dax.Errno number) r k (hands, looks, caused) is = rw is (looks, caused)
GoesThrough-refused s t file call op off len mode (dax.BadReply bytes) r k (hands, looks, caused) is = rw is (looks, caused)
GoesThrough-refused s t file call op off len mode dax.WireFault r k (hands, looks, (not_honest, rose)) is = rw is (looks, not_honest, rose)
GoesThrough-refused s t file call op off len mode dax.Memory r k (hands, looks, caused) is = rw is (looks, λ honest. inl (undone-still s t file k honest))

pub KeepsRounds-refused : (T U : Type 0) (s t : MapView) (e : DaxRefusal) (r : Refusal) → StaysRounds {T = T} s (Err e) t → IsOfDax e r → KeepsRounds {T = U} s (Err r) t
KeepsRounds-refused T U s t (dax.Busy looked) r h is = rw is h
KeepsRounds-refused T U s t (dax.Errno number) r h is = rw is h
KeepsRounds-refused T U s t (dax.BadReply bytes) r h is = rw is h
KeepsRounds-refused T U s t dax.WireFault r h is = rw is h
KeepsRounds-refused T U s t dax.Memory r h is = rw is tt
