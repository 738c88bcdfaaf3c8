-- What steps of the boards and requests of the window keep of a wire and two boards.
use Rattle.std.proofs.Common.{◌≡◌, ◌∙◌, ap, sym, refl, subst, ℕ, ◌+◌, ◌<◌, Bool, true, false, List, length, Option, None, Some, Result, Ok, Err, inl, inr, arith}
use Rattle.std.specs.Prelude.{slice_get}
use Rattle.plain_file.specs.Board.{Note, FileView, BoardView, FileHands, IsReady, file_at}
use Rattle.page_map.specs.declared.pages.Mode.{Mode}
use Rattle.page_map.specs.Board.{MapView, Hands, RangesView}
use Rattle.range_tree.specs.Ranges.{Leaves, Becomes, with_moves}
use Rattle.fuse_codec.specs.declared.messages.Message.{Message}
use Rattle.fuse_codec.specs.declared.messages.Request.{Request}
use Rattle.fuse_codec.specs.declared.replies.Reply.TheVariants as replies
use Rattle.fuse_device.specs.State.{State, World}
use Rattle.fuse_device.specs.OpenFiles.{HasOpenFile, Succeeds}
use Rattle.fuse_device.specs.Promises.{Needs}
use Rattle.guest_wire.specs.Wires.{WireView, Boards, Sent, boards, world_at, KeepsWire}
use Rattle.guest_wire.specs.Keeps.{KeepsFile, KeepsFiles, KeepsPages, KeepsNote, KeepsBoards}
use Rattle.guest_wire.specs.Requests.{CanAsk, ServesRequest, message, next_number, setup_request, remove_request}
use Rattle.guest_wire.specs.Answers.{Answers}
use Rattle.guest_wire.specs.declared.driver.FileRef.{FileRef}
use Rattle.guest_wire.specs.declared.wires.WireError.{WireError}
use Rattle.guest_wire.specs.declared.wires.WireRefusal.{WireRefusal}
use Rattle.guest_wire.specs.declared.wires.WireRefusal.TheVariants as wires
use Rattle.guest_dax.specs.declared.refusals.DaxRefusal.{DaxRefusal}
use Rattle.guest_dax.specs.Stands.{Stand, stand, KeepsMap, Keeps, IsStill, Stands, IsServing, StaysNoted, StaysFile, StaysFiles, ref_at}
use Rattle.guest_dax.specs.Reclaims.{Walks, Searches, Caused, IsRefusalOf}
use Rattle.guest_dax.specs.Causes.{SaysDone, IsCause}
use Rattle.guest_dax.proofs.Asking.{IsOfWindow, Succeeded, succeeded}
use Rattle.guest_dax.proofs.Keeping.{Begins-same, Begins-both, KeepsMap-same, KeepsMap-both, KeepsMap-moves}
use Rattle.guest_dax.proofs.Searching.{Searches-kept, Searches-leave}

-- ---- the files

StaysNoted-same : (n : Note) (kept : Option Note) → kept ≡ Some n → StaysNoted n kept
StaysNoted-same n kept e = record { note = n; at = e; size = refl; lower = refl; upper = inl refl }

StaysNoted-both : (n : Note) (a b : Option Note) → StaysNoted n a → ((m : Note) → a ≡ Some m → StaysNoted m b) → StaysNoted n b
StaysNoted-both n a b h k =
    let l = k h.note h.at in
    record {
      note = l.note;
      at = l.at;
      size = l.size ∙ h.size;
      lower = l.lower ∙ h.lower;
      upper = elim h.upper [
        | inl same ↦ elim l.upper [ inl again ↦ inl (again ∙ same) | inr none ↦ inr (sym same ∙ none) ]
        | inr none ↦ inr none
      ];
    }

StaysFile-same : (f : FileView) → StaysFile f f
StaysFile-same f = record { first = refl; history = Begins-same f.history; own = Begins-same f.own; floor = refl; refusals = refl; refused = refl; notes = λ k n e. StaysNoted-same n (slice_get f.notes k) e }

StaysFile-both : (f g h : FileView) → StaysFile f g → StaysFile g h → StaysFile f h
StaysFile-both f g h a b = record {
  first = b.first ∙ a.first;
  history = Begins-both f.history g.history h.history a.history b.history;
  own = Begins-both f.own g.own h.own a.own b.own;
  floor = b.floor ∙ a.floor;
  refusals = b.refusals ∙ a.refusals;
  refused = b.refused ∙ a.refused;
  notes = λ k n e. StaysNoted-both n (slice_get g.notes k) (slice_get h.notes k) (a.notes k n e) (λ m d. b.notes k m d);
}

StaysFiles-same : (v : BoardView) → StaysFiles v v
StaysFiles-same v = record { guest = refl; mark = refl; plain = refl; over = refl; may_lease = refl; others = refl; hands = refl; count = refl; each = λ file within. StaysFile-same (file_at v file) }

StaysFiles-both : (u v w : BoardView) → StaysFiles u v → StaysFiles v w → StaysFiles u w
StaysFiles-both u v w a b = record {
  guest = b.guest ∙ a.guest;
  mark = b.mark ∙ a.mark;
  plain = b.plain ∙ a.plain;
  over = b.over ∙ a.over;
  may_lease = b.may_lease ∙ a.may_lease;
  others = b.others ∙ a.others;
  hands = b.hands ∙ a.hands;
  count = b.count ∙ a.count;
  each = λ file within. StaysFile-both (file_at u file) (file_at v file) (file_at w file) (a.each file within) (b.each file (subst (λ n. file < n) (sym a.count) within));
}

noted-kept : (made : List ℕ) (end : ℕ) (n : Note) (kept : Option Note) → KeepsNote made end n kept → StaysNoted n kept
noted-kept made end n kept (m, at, size, lower, upper) = record { note = m; at = at; size = size; lower = lower; upper = elim upper [ inl same ↦ inl same | inr got ↦ inr got.0 ] }

StaysFile-kept : (f g : FileView) → KeepsFile f g → StaysFile f g
StaysFile-kept f g k = record { first = k.first; history = k.history; own = k.own; floor = k.floor; refusals = k.refusals; refused = k.refused; notes = λ i n e. noted-kept _ _ n (slice_get g.notes i) (k.notes i n e) }

StaysFiles-kept : (v w : BoardView) → KeepsFiles v w → StaysFiles v w
StaysFiles-kept v w k = record { guest = k.guest; mark = k.mark; plain = k.plain; over = k.over; may_lease = k.may_lease; others = k.others; hands = k.hands; count = k.count; each = λ file within. StaysFile-kept (file_at v file) (file_at w file) (k.each file within) }

-- ---- the wire with both boards

KeepsWire-same : (w : WireView) → KeepsWire w w
KeepsWire-same w = record { honest = refl; over = refl; stays = refl; later = omega arith }

KeepsWire-both : (u v w : WireView) → KeepsWire u v → KeepsWire v w → KeepsWire u w
KeepsWire-both u v w a b = record {
  honest = b.honest ∙ a.honest;
  over = b.over ∙ a.over;
  stays = b.stays ∙ a.stays;
  later = let x = a.later in let y = b.later in omega arith;
}

IsStill-both : (s t u : Stand) → IsStill s t → IsStill t u → IsStill s u
IsStill-both s t u a b = record { files = b.files ∙ a.files; state = b.state ∙ a.state }

pub Keeps-same : (s : Stand) → Keeps s s
Keeps-same s = record { wire = KeepsWire-same s.wire; files = StaysFiles-same s.files; still = λ h. record { files = refl; state = refl }; map = KeepsMap-same s.map }

pub Keeps-both : (s t u : Stand) → Keeps s t → Keeps t u → Keeps s u
Keeps-both s t u a b = record {
  wire = KeepsWire-both s.wire t.wire u.wire a.wire b.wire;
  files = StaysFiles-both s.files t.files u.files a.files b.files;
  still = λ h. IsStill-both s t u (a.still h) (b.still (a.wire.honest ∙ h));
  map = KeepsMap-both s.map t.map u.map a.map b.map;
}

-- a step of the board of ranges alone
pub Keeps-map : (s : Stand) (m : MapView) → KeepsMap s.map m → Keeps s (record s { map = m })
Keeps-map s m k = record { wire = KeepsWire-same s.wire; files = StaysFiles-same s.files; still = λ h. record { files = refl; state = refl }; map = k }

pub Walks-same : (s : Stand) → Walks s s
Walks-same s = record { keeps = Keeps-same s; looks = refl; sweeps = refl; rounds = refl }

pub Walks-both : (s t u : Stand) → Walks s t → Walks t u → Walks s u
Walks-both s t u a b = record { keeps = Keeps-both s t u a.keeps b.keeps; looks = b.looks ∙ a.looks; sweeps = b.sweeps ∙ a.sweeps; rounds = b.rounds ∙ a.rounds }

pub Walks-searches : (s : Stand) (range : ℕ) (m : MapView) → Searches s.map range m → Walks s (record s { map = m })
Walks-searches s range m k = record { keeps = Keeps-map s m k.keeps; looks = k.looks; sweeps = k.sweeps; rounds = k.rounds }

-- the board of ranges moves nothing any more, and leaves a tree
pub Walks-free : (s : Stand) (m : MapView) → Becomes s.map (with_moves s.map None) m → Walks s (record s { map = m })
Walks-free s m h = Walks-searches s 0 m (Searches-kept s.map 0 m (KeepsMap-moves s.map None m h) (ap (λ (m : MapView). m.ranges.looks) h.rest) (ap (λ (m : MapView). m.ranges.sweeps) h.rest) (ap (λ (m : MapView). m.ranges.rounds) h.rest))

pub Walks-leave : (s : Stand) (m : MapView) → Leaves s.map m → Walks s (record s { map = m })
Walks-leave s m l = Walks-searches s 0 m (Searches-leave s.map 0 m l)

-- ---- requests of the window

-- a request keeps a board of ranges
pub KeepsMap-pages : (v w : MapView) → KeepsPages v w → KeepsMap v w
KeepsMap-pages v w k =
    let same = KeepsMap-same v in
    subst (λ (r : RangesView). KeepsMap v (record w { ranges = r })) (sym k.ranges) (
    subst (λ (h : Hands). KeepsMap v (record w { hands = h; ranges = v.ranges })) (sym k.hands)
    record { plain = k.plain; over = k.over; guest = refl; may_take = refl; others = refl; pages = k.count; count = refl; files = refl; logs = same.logs; pins = same.pins; pinned = same.pinned })

-- a request was asked over a wire, and it succeeds where the wire is honest
pub record Asks {S : Type 0} (wire : S → WireView) (gives : S → Boards → Sent → Result (List ℕ) WireError → S → Boards → Type 0) (before : S) (old : Boards) (m : Message) (map : MapView) (result : Result (Unit {0}) WireRefusal) (after : S) (new : Boards) : Type 0 where
  pub answer : Answers wire gives SaysDone before old m result after new
  pub of_window : IsOfWindow m
  pub succeeds : (wire before).honest ≡ true → Succeeds (world_at (wire before) old) m.head.nodeid m.body replies.Done (record (world_at (wire before) old) { map = map })

pub asked : {S : Type 0} (wire : S → WireView) (gives : S → Boards → Sent → Result (List ℕ) WireError → S → Boards → Type 0) (before : S) (old : Boards) (m : Message) (map : MapView) (result : Result (Unit {0}) WireRefusal) (after : S) (new : Boards)
    → Asks wire gives before old m map result after new → (wire before).honest ≡ true → Succeeded result (world_at (wire before) old) (world_at (wire after) new) (record (world_at (wire before) old) { map = map })
asked wire gives before old m map result after new a honest = succeeded wire gives before old m (record (world_at (wire before) old) { map = map }) result after new a.answer honest a.of_window (a.succeeds honest)

still-by : (result : Result (Unit {0}) WireRefusal) (old new : World) (map : MapView) → Succeeded result old new (record old { map = map }) → (new.files ≡ old.files) × (new.state ≡ old.state)
still-by (Ok u) old new map e = (ap (λ (w : World). w.files) e, ap (λ (w : World). w.state) e)
still-by (Err (wires.Errno number)) old new map e = absurd e
still-by (Err (wires.BadReply bytes)) old new map e = absurd e
still-by (Err wires.WireFault) old new map e = absurd e
still-by (Err wires.Memory) old new map e = elim e [
  | inl same ↦ (ap (λ (w : World). w.files) same, ap (λ (w : World). w.state) same)
  | inr done ↦ (ap (λ (w : World). w.files) done, ap (λ (w : World). w.state) done)
]

pub Walks-asked : {S : Type 0} (wire : S → WireView) (gives : S → Boards → Sent → Result (List ℕ) WireError → S → Boards → Type 0) (before : S) (old : Boards) (m : Message) (map : MapView) (result : Result (Unit {0}) WireRefusal) (after : S) (new : Boards)
    → Asks wire gives before old m map result after new → KeepsWire (wire before) (wire after) → KeepsBoards old new → Walks (stand (wire before) old.files old.map) (stand (wire after) new.files new.map)
Walks-asked wire gives before old m map result after new a keeps both = record {
  keeps = record {
    wire = keeps;
    files = StaysFiles-kept old.files new.files both.files;
    still = λ honest.
        let k = still-by result (world_at (wire before) old) (world_at (wire after) new) map (asked wire gives before old m map result after new a honest) in
        record { files = k.0; state = k.1 };
    map = KeepsMap-pages old.map new.map both.map;
  };
  looks = ap (λ (r : RangesView). length r.looks) both.map.ranges;
  sweeps = ap (λ (r : RangesView). r.sweeps) both.map.ranges;
  rounds = ap (λ (r : RangesView). r.rounds) both.map.ranges;
}

pub not-true : (b : Bool) → (b ≡ true → ⊥) → b ≡ false
not-true true h = absurd (h refl)
not-true false h = refl

-- why it was refused
pub Caused-asked : {S : Type 0} (wire : S → WireView) (gives : S → Boards → Sent → Result (List ℕ) WireError → S → Boards → Type 0) (before : S) (old : Boards) (m : Message) (map : MapView) (refusal : WireRefusal) (after : S) (new : Boards) (e : DaxRefusal) (s t : Stand)
    → s.wire ≡ wire before → t.wire ≡ wire after → Asks wire gives before old m map (Err refusal) after new → IsRefusalOf refusal e → Caused s e t
Caused-asked wire gives before old m map (wires.Errno number) after new e s t b d a is = rw (is, b) (not-true (wire before).honest (λ honest. asked wire gives before old m map (Err (wires.Errno number)) after new a honest))
Caused-asked wire gives before old m map (wires.BadReply bytes) after new e s t b d a is = rw (is, b) a.answer.0
Caused-asked wire gives before old m map wires.WireFault after new e s t b d a is = rw (is, b, d) (a.answer.0, a.answer.1)
Caused-asked wire gives before old m map wires.Memory after new e s t b d a is = rw is tt

-- and by which request
pub cause-asked : {S : Type 0} (wire : S → WireView) (gives : S → Boards → Sent → Result (List ℕ) WireError → S → Boards → Type 0) (before : S) (unique node : ℕ) (body : Request) (old : Boards) (refusal : WireRefusal) (after : S) (now : ℕ) (new : Boards) (e : DaxRefusal)
    → Answers wire gives SaysDone before old (message (next_number unique) node body) (Err refusal) after new → now ≡ next_number unique → IsRefusalOf refusal e → IsCause wire gives before unique e after now
cause-asked wire gives before unique node body old (wires.Errno number) after now new e a n is = rw is (record { node = node; body = body; old = old; new = new; answer = a; number = n })
cause-asked wire gives before unique node body old (wires.BadReply bytes) after now new e a n is = rw is (inl (record { node = node; body = body; old = old; new = new; answer = a; number = n }))
cause-asked wire gives before unique node body old wires.WireFault after now new e a n is = rw is (record { node = node; body = body; old = old; new = new; answer = a; number = n })
cause-asked wire gives before unique node body old wires.Memory after now new e a n is = rw is tt

-- ---- what is asked of wire and boards

ready-kept : (s t : Stand) → IsStill s t → (s.wire.stays ≡ false → (file : ℕ) → file < length s.wire.state.made → IsReady s.files file) → t.wire.stays ≡ s.wire.stays → t.wire.stays ≡ false → (file : ℕ) → file < length t.wire.state.made → IsReady t.files file
ready-kept s t still ready same whole file within =
    subst (λ (v : BoardView). IsReady v file) (sym still.files) (ready (sym same ∙ whole) file (subst (λ (d : State). file < length d.made) still.state within))

IsServing-kept : (s t : Stand) (refs : List FileRef) → KeepsWire s.wire t.wire → IsStill s t → KeepsMap s.map t.map → IsServing s refs → IsServing t refs
IsServing-kept s t refs wire still map h = record {
  there = rw (still.files, still.state) h.there;
  pages = map.pages ∙ h.pages ∙ ap (λ (d : State). d.pages) (sym still.state);
  started = ap (λ (d : State). d.started) still.state ∙ h.started;
  ready = ready-kept s t still h.ready wire.stays;
  nodes = h.nodes;
  handles = λ file within. subst (λ (d : State). HasOpenFile d (file + 2) (ref_at refs file).fh) (sym still.state) (h.handles file within);
}

-- that holds after what keeps them
pub Stands-keeps : (s t : Stand) (refs : List FileRef) → Keeps s t → Stands s refs → Stands t refs
Stands-keeps s t refs k h = record {
  refs_of = h.refs_of ∙ sym k.files.count;
  logs = k.map.files ∙ h.logs ∙ sym k.files.count;
  may_take = k.map.may_take ∙ h.may_take;
  turn = ap (λ (a : FileHands). a.turn) k.files.hands ∙ h.turn;
  serving = λ honest. let before = sym k.wire.honest ∙ honest in IsServing-kept s t refs k.wire (k.still before) k.map (h.serving before);
}

serves-by : (stays : Bool) (s : Stand) (refs : List FileRef) (q : Request) → s.wire.stays ≡ stays → Needs s.wire.state s.files s.map q → s.files.hands.turn ≡ None → IsServing s refs → ServesRequest stays s.wire.state (boards s.files s.map) q
serves-by true s refs q stays needs turn h = record { there = h.there; pages = h.pages; free = turn }
serves-by false s refs q stays needs turn h = record { made = record { there = h.there; ready = h.ready stays }; pages = h.pages; needs = needs }

-- a request can be asked that needs nothing more
pub CanAsk-stands : (s : Stand) (refs : List FileRef) (q : Request) → Needs s.wire.state s.files s.map q → Stands s refs → CanAsk s.wire (boards s.files s.map) q
CanAsk-stands s refs q needs h honest = serves-by s.wire.stays s refs q refl needs h.turn (h.serving honest)

pub CanAsk-setup : (s : Stand) (refs : List FileRef) (chunk range : ℕ) (mode : Mode) → Stands s refs → CanAsk s.wire (boards s.files s.map) (setup_request chunk range mode)
unfolding Needs
CanAsk-setup s refs chunk range mode h = CanAsk-stands s refs (setup_request chunk range mode) tt h

pub CanAsk-remove : (s : Stand) (refs : List FileRef) (range : ℕ) → Stands s refs → CanAsk s.wire (boards s.files s.map) (remove_request range)
unfolding Needs
CanAsk-remove s refs range h = CanAsk-stands s refs (remove_request range) tt h
