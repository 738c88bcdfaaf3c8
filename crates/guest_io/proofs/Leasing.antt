-- A lease around an operation, or before a request.
use Rattle.std.proofs.Common.{◌≡◌, ◌∙◌, ap, sym, refl, subst, ℕ, zero, suc, ◌+◌, ◌<◌, ◌≤◌, ◌==◌, Bool, true, false, List, [], ◌∷◌, ◌++◌, length, take, slice_get, slice_set, Option, Some, None, Result, Ok, Err, inl, inr, arith, append_assoc}
use Rattle.std.specs.Prelude.{◌≢◌, All, IsSome, IfSome, is_some, slice_index_or, if◌then◌else◌}
use Rattle.std.proofs.lemmas.Grind.{common_steps}
use mathlib.Core.Logic.{dite}
use native.Mathlib.Decide.{ℕ_discrete}
use Rattle.plain_file.specs.declared.operations.Entry.{Entry}
use Rattle.plain_file.specs.declared.operations.First.{First}
use Rattle.plain_file.specs.declared.operations.Op.{Op}
use Rattle.plain_file.specs.declared.operations.Op.TheVariants as ops
use Rattle.plain_file.specs.declared.operations.Way.{Way}
use Rattle.plain_file.specs.declared.operations.Way.TheVariants as ways
use Rattle.plain_file.specs.File.{answer}
use Rattle.plain_file.specs.History.{bytes, size}
use Rattle.plain_file.specs.Board.{Note, FileView, FileHands, BoardView, IsReady, file_at, with_note, bytes_now, size_of}
use Rattle.plain_file.specs.Turns.{leases_on, leased, leased_file, unleased}
use Rattle.plain_file.specs.Sound.{IsFresh}
use Rattle.plain_file.proofs.OneFile.{file_at-with_file, file_at-with_other}
use Rattle.page_map.specs.declared.pages.Mode.TheVariants as modes
use Rattle.page_map.specs.Board.{MapView}
use Rattle.range_tree.specs.Ranges.{range_count}
use Rattle.guest_wire.specs.Wires.{WireView}
use Rattle.guest_wire.specs.declared.driver.FileRef.{FileRef}
use Rattle.guest_dax.specs.Stands.{Stand, stand}
use Rattle.guest_dax.specs.Looks.{NoLooks}
use Rattle.guest_io.specs.declared.calls.Done.{Done}
use Rattle.guest_io.specs.declared.calls.Refusal.{Refusal}
use Rattle.guest_io.specs.declared.calls.Refusal.TheVariants as refusals
use Rattle.guest_io.specs.Calls.{Directs, KeepsFloor, OthersStay}
use Rattle.guest_io.specs.Chunks.{less_on}
use Rattle.guest_io.specs.Notes.{ClosesNotes, SameNotes}
use Rattle.guest_io.specs.Requests.{IsHome, IsUndone, SendsRest, Sends}
use Rattle.guest_io.specs.Windows.{GoesThrough}
use Rattle.guest_io.specs.Going.{StaysBoard, LeavesAll, IsRefused, Writes}
use Rattle.guest_io.proofs.Noting.{last-note, same-leased, closes-between, keeps-between}
use Rattle.guest_io.proofs.DirectLaws.{long-set}
use Rattle.guest_io.proofs.Staying.{firsts-by}
use Rattle.guest_io.proofs.Holding.{back}
use Rattle.guest_io.proofs.Homing.{RestsAs, IsHome-rests}
use Rattle.guest_io.proofs.Reading.{IsRefused-sent, NoLooks-sent, LeavesAll-sent}

-- ---- the file

-- the floor that is left when a lease is given back
abbrev floor_left : BoardView → ℕ → Option ℕ
floor_left v file = if leases_on v file == 1 then None else (file_at v file).floor

leased-file : (v : BoardView) (file z : ℕ) → file < length v.files → file_at (leased v file z) file ≡ leased_file (is_some v.over) z (file_at v file)
leased-file v file z within = file_at-with_file v file (leased_file (is_some v.over) z (file_at v file)) within

leased-other : (v : BoardView) (file z f : ℕ) → (f ≡ file → ⊥) → file_at (leased v file z) f ≡ file_at v f
leased-other v file z f apart = file_at-with_other v file f (leased_file (is_some v.over) z (file_at v file)) apart

some-over : (o : Option (List ℕ)) → IsSome o → is_some o ≡ true
some-over o h = h

-- over a board that stands over a table, the noted size is the last of the notes
pub note-leased : (v : BoardView) (file z : ℕ) → file < length v.files → IsSome v.over → slice_get (file_at (leased v file z) file).notes (length (file_at v file).notes) ≡ Some (record { size = z; lower = length (file_at v file).history; upper = None })
note-leased v file z within over =
    let f = file_at v file in
    let n : Note = record { size = z; lower = length f.history; upper = None } in
    let notes : (file_at (leased v file z) file).notes ≡ f.notes ++ n ∷ [] = ap (λ (x : FileView). x.notes) (leased-file v file z within) ∙ ap (λ (k : Bool). if k then (with_note z f).notes else f.notes) (some-over v.over over) in
    ap (λ (ns : List Note). slice_get ns (length f.notes)) notes ∙ last-note f.notes n

unleased-file : (v : BoardView) (file : ℕ) → file < length v.files → file_at (unleased v file) file ≡ record (file_at v file) { floor = floor_left v file }
unleased-file v file within = file_at-with_file v file (record (file_at v file) { floor = floor_left v file }) within

unleased-other : (v : BoardView) (file f : ℕ) → (f ≡ file → ⊥) → file_at (unleased v file) f ≡ file_at v f
unleased-other v file f apart = file_at-with_other v file f (record (file_at v file) { floor = floor_left v file }) apart

long-leased : (v : BoardView) (file z : ℕ) → length (leased v file z).files ≡ length v.files
long-leased v file z = long-set v file (leased_file (is_some v.over) z (file_at v file))

long-unleased : (v : BoardView) (file : ℕ) → length (unleased v file).files ≡ length v.files
long-unleased v file = long-set v file (record (file_at v file) { floor = floor_left v file })

-- boards that differ in leases alone
pub record LeasesAlone (v w : BoardView) (file : ℕ) : Type 0 where
  pub guest : w.guest ≡ v.guest
  pub plain : w.plain ≡ v.plain
  pub over : w.over ≡ v.over
  pub may_lease : w.may_lease ≡ v.may_lease
  pub others : w.others ≡ v.others
  pub turn : w.hands.turn ≡ v.hands.turn
  pub count : length w.files ≡ length v.files
  pub first : (file_at w file).first ≡ (file_at v file).first
  pub history : (file_at w file).history ≡ (file_at v file).history
  pub own : (file_at w file).own ≡ (file_at v file).own
  pub ready : (file_at w file).ready ≡ (file_at v file).ready
  pub refusals : (file_at w file).refusals ≡ (file_at v file).refusals
  pub notes : SameNotes (file_at v file) (file_at w file)
  pub stay : OthersStay v file w

pub alone-leased : (v : BoardView) (file z : ℕ) → file < length v.files → LeasesAlone v (leased v file z) file
alone-leased v file z within =
    let e = leased-file v file z within in
    record {
      guest = refl;
      plain = refl;
      over = refl;
      may_lease = refl;
      others = refl;
      turn = refl;
      count = long-leased v file z;
      first = ap (λ (x : FileView). x.first) e;
      history = ap (λ (x : FileView). x.history) e;
      own = ap (λ (x : FileView). x.own) e;
      ready = ap (λ (x : FileView). x.ready) e;
      refusals = ap (λ (x : FileView). x.refusals) e;
      notes = subst (λ (x : FileView). SameNotes (file_at v file) x) (sym e) (same-leased (is_some v.over) z (file_at v file));
      stay = λ f apart. leased-other v file z f apart;
    }

pub alone-unleased : (v : BoardView) (file : ℕ) → file < length v.files → LeasesAlone v (unleased v file) file
alone-unleased v file within =
    let e = unleased-file v file within in
    record {
      guest = refl;
      plain = refl;
      over = refl;
      may_lease = refl;
      others = refl;
      turn = refl;
      count = long-unleased v file;
      first = ap (λ (x : FileView). x.first) e;
      history = ap (λ (x : FileView). x.history) e;
      own = ap (λ (x : FileView). x.own) e;
      ready = ap (λ (x : FileView). x.ready) e;
      refusals = ap (λ (x : FileView). x.refusals) e;
      notes = subst (λ (x : FileView). SameNotes (file_at v file) x) (sym e) (λ k n at. at);
      stay = λ f apart. unleased-other v file f apart;
    }

alone-both : (u v w : BoardView) (file : ℕ) → LeasesAlone u v file → LeasesAlone v w file → LeasesAlone u w file
alone-both u v w file a b = record {
  guest = b.guest ∙ a.guest;
  plain = b.plain ∙ a.plain;
  over = b.over ∙ a.over;
  may_lease = b.may_lease ∙ a.may_lease;
  others = b.others ∙ a.others;
  turn = b.turn ∙ a.turn;
  count = b.count ∙ a.count;
  first = b.first ∙ a.first;
  history = b.history ∙ a.history;
  own = b.own ∙ a.own;
  ready = b.ready ∙ a.ready;
  refusals = b.refusals ∙ a.refusals;
  notes = λ k n at. b.notes k n (a.notes k n at);
  stay = λ f apart. b.stay f apart ∙ a.stay f apart;
}

alone-same : (v : BoardView) (file : ℕ) → LeasesAlone v v file
alone-same v file = record { guest = refl; plain = refl; over = refl; may_lease = refl; others = refl; turn = refl; count = refl; first = refl; history = refl; own = refl; ready = refl; refusals = refl; notes = λ k n at. at; stay = λ f apart. refl }

pub RestsAs-alone : (v w : BoardView) (file : ℕ) → LeasesAlone v w file → RestsAs v w
RestsAs-alone v w file k = record {
  plain = k.plain;
  count = k.count;
  turn = k.turn;
  ready = λ f plain ready.
      dite (ℕ_discrete f file)
      (λ e. subst (λ n. IsReady w n) (sym e) (k.ready ∙ subst (λ n. IsReady v n) e ready))
      (λ apart. ap (λ (x : FileView). x.ready) (k.stay f apart) ∙ ready);
}

-- ---- what is in hand

pub hands-unleased : (v w : BoardView) (file z : ℕ) → w.hands ≡ (leased v file z).hands → (unleased w file).hands ≡ v.hands
hands-unleased v w file z e =
    ap (λ (h : FileHands). record h { leases = less_on h.leases file }) e ∙ ap (λ (l : List ℕ). record v.hands { leases = l }) (back v.hands.leases file)

more-at : (xs : List ℕ) (i : ℕ) → i < length xs → slice_index_or (slice_set xs i (slice_index_or xs i 0 + 1)) i 0 ≡ slice_index_or xs i 0 + 1
more-at [] i h = absurd (omega (arith, h))
more-at (x ∷ xs) zero h = refl
more-at (x ∷ xs) (suc i) h = more-at xs i (omega (arith, h))

-- the lease can be given back
pub lease-had : (v w : BoardView) (file z : ℕ) → file < length v.hands.leases → w.hands ≡ (leased v file z).hands → 0 < leases_on w file
lease-had v w file z within e =
    let n : leases_on w file ≡ leases_on v file + 1 = ap (λ (h : FileHands). slice_index_or h.leases file 0) e ∙ more-at v.hands.leases file within in
    omega (arith, n)

-- ---- what is left

pub StaysBoard-between : (v v' w w' : BoardView) (file : ℕ) → LeasesAlone v v' file → StaysBoard v' w → LeasesAlone w w' file → w'.hands ≡ v.hands → StaysBoard v w'
StaysBoard-between v v' w w' file a k b hands = record {
  guest = b.guest ∙ k.guest ∙ a.guest;
  plain = b.plain ∙ k.plain ∙ a.plain;
  over = b.over ∙ k.over ∙ a.over;
  may_lease = b.may_lease ∙ k.may_lease ∙ a.may_lease;
  others = b.others ∙ k.others ∙ a.others;
  hands = hands;
  count = b.count ∙ k.count ∙ a.count;
  firsts = λ f. firsts-by w w' file b.first b.stay f ∙ k.firsts f ∙ firsts-by v v' file a.first a.stay f;
}

pub Directs-between : (v v' w w' : BoardView) (file call : ℕ) (way : Way) (op : Op) (d : Done) → LeasesAlone v v' file → Directs v' file call way op d w → LeasesAlone w w' file → w'.hands ≡ v.hands → Directs v file call way op d w'
Directs-between v v' w w' file call way op d a k b hands =
    let m = k.done in
    let h = a.history in
    record {
      done = record {
        more = m.more;
        others = subst (λ n. All (λ (e : Entry). e.guest ≢ n) m.more) a.guest m.others;
        first = b.first ∙ m.first ∙ a.first;
        history = b.history ∙ m.history ∙ ap (λ (l : List Entry). (l ++ m.more) ++ record { guest = v'.guest; call = call; op = op; way = way } ∷ []) h ∙ ap (λ n. ((file_at v file).history ++ m.more) ++ record { guest = n; call = call; op = op; way = way } ∷ []) a.guest;
        place = m.place ∙ ap (λ (l : List Entry). length (l ++ m.more)) h;
        own = b.own ∙ m.own ∙ ap (λ (l : List ℕ). l ++ d.place ∷ []) a.own;
        answered = m.answered ∙ ap (λ (l : List Entry). answer (bytes (file_at v' file).first (l ++ m.more) (length (l ++ m.more))) op) h ∙ ap (λ (x : First). answer (bytes x ((file_at v file).history ++ m.more) (length ((file_at v file).history ++ m.more))) op) a.first;
      };
      others = λ f apart. b.stay f apart ∙ k.others f apart ∙ a.stay f apart;
      hands = hands;
      guest = b.guest ∙ k.guest ∙ a.guest;
      count = b.count ∙ k.count ∙ a.count;
      closes = λ shared. closes-between (file_at v file) (file_at v' file) (file_at w file) (file_at w' file) a.notes (k.closes (a.plain ∙ shared)) b.first b.history;
    }

pub IsUndone-between : (v v' w w' : BoardView) (file : ℕ) → LeasesAlone v v' file → IsUndone v' file w → LeasesAlone w w' file → IsUndone v file w'
IsUndone-between v v' w w' file a k b = record {
  more = k.more;
  others = subst (λ n. All (λ (e : Entry). e.guest ≢ n) k.more) a.guest k.others;
  history = b.history ∙ k.history ∙ ap (λ (l : List Entry). l ++ k.more) a.history;
  own = b.own ∙ k.own ∙ a.own;
  stay = λ f apart. b.stay f apart ∙ k.stay f apart ∙ a.stay f apart;
  notes = keeps-between (file_at v file) (file_at v' file) (file_at w file) (file_at w' file) a.notes k.notes b.notes b.first b.history;
}

-- a call was refused between
pub IsRefused-between : (wire wire' : WireView) (map map' : MapView) (v v' w w' : BoardView) (file call : ℕ) (op : Op) (off len : ℕ) (e : Refusal) → LeasesAlone v v' file → LeasesAlone w w' file → w'.hands ≡ v.hands → IsRefused (stand wire v' map) file call op off len e (stand wire' w map') → IsRefused (stand wire v map) file call op off len e (stand wire' w' map')
IsRefused-between wire wire' map map' v v' w w' file call op off len (refusals.Busy looked) a b hands (busy, undone) = (busy, λ honest. IsUndone-between v v' w w' file a (undone honest) b)
IsRefused-between wire wire' map map' v v' w w' file call op off len (refusals.Errno number) a b hands h = h
IsRefused-between wire wire' map map' v v' w w' file call op off len (refusals.Leased count) a b hands h = h
IsRefused-between wire wire' map map' v v' w w' file call op off len (refusals.NoHold hold) a b hands h = h
IsRefused-between wire wire' map map' v v' w w' file call op off len (refusals.Past end) a b hands h = h
IsRefused-between wire wire' map map' v v' w w' file call op off len (refusals.BadReply received) a b hands h = h
IsRefused-between wire wire' map map' v v' w w' file call op off len refusals.WireFault a b hands h = h
IsRefused-between wire wire' map map' v v' w w' file call op off len refusals.Memory a b hands (looks, may) = (
  looks,
  λ honest. elim (may honest) [
    | inl undone ↦ inl (IsUndone-between v v' w w' file a undone b)
    | inr made ↦ inr (made.0, made.1, Directs-between v v' w w' file call made.1 op made.0 a made.2 b hands)
  ],
)

pub LeavesAll-between : (wire wire' : WireView) (map map' : MapView) (v v' w w' : BoardView) (file : ℕ) → LeasesAlone v v' file → LeasesAlone w w' file → w'.hands ≡ v.hands → LeavesAll (stand wire v' map) (stand wire' w map') → LeavesAll (stand wire v map) (stand wire' w' map')
LeavesAll-between wire wire' map map' v v' w w' file a b hands k = record { wire = k.wire; files = StaysBoard-between v v' w w' file a k.files b hands; map = k.map; hands = k.hands }

-- ---- a write through the window, under the lease

-- the size before its place isn't below the one that was noted
floor-kept : (v : BoardView) (file z : ℕ) (d : Done) (w : BoardView) → file < length v.files → (v.plain ≡ true → z ≡ size_of (file_at v file)) → KeepsFloor (leased v file z) file d w → z ≤ size (file_at w file).first (file_at w file).history d.place
unfolding bytes_now
floor-kept v file z d w within plain k =
    let h = subst (λ (f : FileView). (v.plain ≡ true → IfSome f.floor (λ x. x ≤ size_of f)) → IfSome f.floor (λ x. x ≤ size (file_at w file).first (file_at w file).history d.place)) (leased-file v file z within) k in
    h (λ p. let e = plain p in omega (arith, e))

pub Writes-through : (wire wire' : WireView) (map map' : MapView) (v w : BoardView) (file call off : ℕ) (written : List ℕ) (z : ℕ) (r : Result Done Refusal) → 0 < range_count map → file < length v.files → file < length w.files → off + length written ≤ z → (v.plain ≡ true → z ≡ size_of (file_at v file)) → w.hands ≡ (leased v file z).hands
    → GoesThrough (stand wire (leased v file z) map) file call (ops.Write off written) off (length written) modes.W r (stand wire' w map') → Writes (stand wire v map) file call off written r (stand wire' (unleased w file) map')
Writes-through wire wire' map map' v w file call off written z (Ok d) some in_v in_w end plain hands (looks, (first, second, covers, does)) = (
  looks,
  (
    ways.Via first second,
    λ honest.
        let b = alone-unleased w file in_w in
        let both = does honest in
        let low = floor-kept v file z d w in_v plain both.1 in
        let same : size (file_at (unleased w file) file).first (file_at (unleased w file) file).history d.place ≡ size (file_at w file).first (file_at w file).history d.place =
        ap (λ (x : First). size x (file_at (unleased w file) file).history d.place) b.first ∙ ap (λ (l : List Entry). size (file_at w file).first l d.place) b.history in (
          Directs-between v (leased v file z) w (unleased w file) file call (ways.Via first second) (ops.Write off written) d (alone-leased v file z in_v) both.0 b (hands-unleased v w file z hands),
          (some, covers, omega (arith, end, low, same)),
        ),
  ),
)
Writes-through wire wire' map map' v w file call off written z (Err e) some in_v in_w end plain hands h =
    IsRefused-between wire wire' map map' v (leased v file z) w (unleased w file) file call (ops.Write off written) off (length written) e (alone-leased v file z in_v) (alone-unleased w file in_w) (hands-unleased v w file z hands) h

-- ---- a write by a request, after the lease

abbrev pub after_lease : BoardView → ℕ → ℕ → BoardView
after_lease v file z = unleased (leased v file z) file

pub alone-lease : (v : BoardView) (file z : ℕ) → file < length v.files → LeasesAlone v (after_lease v file z) file
alone-lease v file z within =
    alone-both v (leased v file z) (after_lease v file z) file (alone-leased v file z within) (alone-unleased (leased v file z) file (subst (λ n. file < n) (sym (long-leased v file z)) within))

pub hands-lease : (v : BoardView) (file z : ℕ) → (after_lease v file z).hands ≡ v.hands
hands-lease v file z = hands-unleased v (leased v file z) file z refl

note-kept : (v : BoardView) (file z : ℕ) → file < length v.files → IsSome v.over → slice_get (file_at (after_lease v file z) file).notes (length (file_at v file).notes) ≡ Some (record { size = z; lower = length (file_at v file).history; upper = None })
note-kept v file z within over =
    (alone-unleased (leased v file z) file (subst (λ n. file < n) (sym (long-leased v file z)) within)).notes (length (file_at v file).notes) (record { size = z; lower = length (file_at v file).history; upper = None }) (note-leased v file z within over)

-- the file after the entries that were seen before
front-size : (first : First) (h more : List Entry) → size first (h ++ more) (length h) ≡ size first h (length h)
unfolding bytes
front-size first h more =
    let t : take (length h) (h ++ more) ≡ take (length h) h = grind (arith, common_steps) in
    rw t refl

fresh-plain : (v : BoardView) (file z : ℕ) (d : Done) (call : ℕ) (way : Way) (op : Op) (w : BoardView) → z ≡ size_of (file_at v file) → Directs v file call way op d w → IsFresh (file_at w file).first (file_at w file).history (length (file_at v file).history) d.place z
unfolding bytes_now
fresh-plain v file z d call way op w is k =
    let f = file_at v file in
    let g = file_at w file in
    let m = k.done in
    let e : Entry = record { guest = v.guest; call = call; op = op; way = way } in
    let h : g.history ≡ f.history ++ (m.more ++ e ∷ []) = m.history ∙ append_assoc f.history m.more (e ∷ []) in
    let long : length g.history ≡ length (f.history ++ m.more) + 1 = ap (λ (l : List Entry). length l) m.history ∙ grind (arith, common_steps) in
    let place : d.place ≡ length f.history + length m.more = m.place ∙ grind (arith, common_steps) in
    let at = m.place in
    let same : size g.first g.history (length f.history) ≡ size_of f = ap (λ (x : First). size x g.history (length f.history)) m.first ∙ ap (λ (l : List Entry). size f.first l (length f.history)) h ∙ front-size f.first f.history (m.more ++ e ∷ []) in
    (length f.history, omega arith, omega (arith, place), omega (arith, at, long), is ∙ sym same)

fresh-noted : (v : BoardView) (file z : ℕ) (d : Done) (call : ℕ) (way : Way) (op : Op) (w : BoardView) → file < length v.files → IsSome v.over → Directs v file call way op d w → ClosesNotes (file_at (after_lease v file z) file) (file_at w file) → IsFresh (file_at w file).first (file_at w file).history (length (file_at v file).history) d.place z
fresh-noted v file z d call way op w within over k closes =
    let f = file_at v file in
    let g = file_at w file in
    let m = k.done in
    let (place, last, fresh) = closes (length f.notes) (record { size = z; lower = length f.history; upper = None }) (note-kept v file z within over) refl in
    let long : length g.history ≡ length (f.history ++ m.more) + 1 = ap (λ (l : List Entry). length l) m.history ∙ grind (arith, common_steps) in
    let at = m.place in
    let same : place ≡ d.place = omega (arith, at, long, last) in
    subst (λ n. IsFresh g.first g.history (length f.history) n z) same fresh

fresh-by : (plain : Bool) (v : BoardView) (file z : ℕ) (d : Done) (call : ℕ) (way : Way) (op : Op) (w : BoardView) → v.plain ≡ plain → file < length v.files → (v.plain ≡ true → z ≡ size_of (file_at v file)) → (v.plain ≡ false → IsSome v.over) → Directs v file call way op d w → (v.plain ≡ false → ClosesNotes (file_at (after_lease v file z) file) (file_at w file)) → IsFresh (file_at w file).first (file_at w file).history (length (file_at v file).history) d.place z
fresh-by true v file z d call way op w plain within is noting k closes = fresh-plain v file z d call way op w (is plain) k
fresh-by false v file z d call way op w plain within is noting k closes = fresh-noted v file z d call way op w within (noting plain) k (closes plain)

pub Writes-request : (wire : WireView) (map : MapView) (v : BoardView) (t : Stand) (file call off : ℕ) (written : List ℕ) (z : ℕ) (r : Result Done Refusal) → 0 < range_count map → file < length v.files → z < off + length written → NoLooks map → (v.plain ≡ true → z ≡ size_of (file_at v file))
    → SendsRest (stand wire (after_lease v file z) map) call (ways.ReqSaw z) t → Sends (stand wire (after_lease v file z) map) file call (ops.Write off written) (ways.ReqSaw z) r t → Writes (stand wire v map) file call off written r t
Writes-request wire map v t file call off written z (Ok d) some within below looks plain k (newest, does) = (
  NoLooks-sent (stand wire (after_lease v file z) map) t call (ways.ReqSaw z) k looks,
  (
    ways.ReqSaw z,
    λ honest.
        let a = alone-lease v file z within in
        let x = does honest in
        let y = Directs-between v (after_lease v file z) t.files t.files file call (ways.ReqSaw z) (ops.Write off written) d a x (alone-same t.files file) (x.hands ∙ hands-lease v file z) in
        (y, (some, below, λ noting. fresh-by v.plain v file z d call (ways.ReqSaw z) (ops.Write off written) t.files refl within plain noting y x.closes)),
  ),
)
Writes-request wire map v t file call off written z (Err e) some within below looks plain k h =
    IsRefused-between wire t.wire map t.map v (after_lease v file z) t.files t.files file call (ops.Write off written) off (length written) e (alone-lease v file z within) (alone-same t.files file) (ap (λ (x : FileHands). x) k.files.hands ∙ hands-lease v file z)
    (IsRefused-sent (stand wire (after_lease v file z) map) t file call (ops.Write off written) (ways.ReqSaw z) off (length written) e k looks h)

-- ---- as a call goes

pub home-leased : (wire : WireView) (map : MapView) (refs : List FileRef) (v l : BoardView) (file z : ℕ) → file < length v.files → l ≡ leased v file z → IsHome (stand wire v map) refs → IsHome (stand wire l map) refs
home-leased wire map refs v l file z within is h =
    subst (λ (b : BoardView). IsHome (stand wire b map) refs) (sym is) (IsHome-rests wire v map refs (leased v file z) (RestsAs-alone v (leased v file z) file (alone-leased v file z within)) h)

pub home-unleased : (wire : WireView) (map : MapView) (refs : List FileRef) (w n : BoardView) (file : ℕ) → file < length w.files → n ≡ unleased w file → IsHome (stand wire w map) refs → IsHome (stand wire n map) refs
home-unleased wire map refs w n file within is h =
    subst (λ (b : BoardView). IsHome (stand wire b map) refs) (sym is) (IsHome-rests wire w map refs (unleased w file) (RestsAs-alone w (unleased w file) file (alone-unleased w file within)) h)

pub leaves-request : (wire : WireView) (map : MapView) (v n : BoardView) (t : Stand) (file call z : ℕ) (way : Way) → file < length v.files → n ≡ after_lease v file z → SendsRest (stand wire n map) call way t → LeavesAll (stand wire v map) t
leaves-request wire map v n t file call z way within is rest =
    let k = subst (λ (b : BoardView). SendsRest (stand wire b map) call way t) is rest in
    LeavesAll-between wire t.wire map t.map v (after_lease v file z) t.files t.files file (alone-lease v file z within) (alone-same t.files file) (k.files.hands ∙ hands-lease v file z) (LeavesAll-sent (stand wire (after_lease v file z) map) t call way k)

pub writes-request : (wire : WireView) (map : MapView) (v n : BoardView) (t : Stand) (file call off : ℕ) (written : List ℕ) (z : ℕ) (r : Result Done Refusal) → 0 < range_count map → file < length v.files → z < off + length written → NoLooks map → (v.plain ≡ true → z ≡ size_of (file_at v file)) → n ≡ after_lease v file z
    → SendsRest (stand wire n map) call (ways.ReqSaw z) t → Sends (stand wire n map) file call (ops.Write off written) (ways.ReqSaw z) r t → Writes (stand wire v map) file call off written r t
writes-request wire map v n t file call off written z r some within below looks plain is k h =
    Writes-request wire map v t file call off written z r some within below looks plain
    (subst (λ (b : BoardView). SendsRest (stand wire b map) call (ways.ReqSaw z) t) is k)
    (subst (λ (b : BoardView). Sends (stand wire b map) file call (ops.Write off written) (ways.ReqSaw z) r t) is h)

pub leaves-through : (wire wire' : WireView) (map map' : MapView) (v l w n : BoardView) (file z : ℕ) → file < length v.files → file < length w.files → l ≡ leased v file z → n ≡ unleased w file → LeavesAll (stand wire l map) (stand wire' w map') → LeavesAll (stand wire v map) (stand wire' n map')
leaves-through wire wire' map map' v l w n file z in_v in_w is last h =
    let k = subst (λ (b : BoardView). LeavesAll (stand wire b map) (stand wire' w map')) is h in
    subst (λ (b : BoardView). LeavesAll (stand wire v map) (stand wire' b map')) (sym last) (
    LeavesAll-between wire wire' map map' v (leased v file z) w (unleased w file) file (alone-leased v file z in_v) (alone-unleased w file in_w) (hands-unleased v w file z k.files.hands) k)

pub writes-through : (wire wire' : WireView) (map map' : MapView) (v l w n : BoardView) (file call off : ℕ) (written : List ℕ) (z : ℕ) (r : Result Done Refusal) → 0 < range_count map → file < length v.files → file < length w.files → off + length written ≤ z → (v.plain ≡ true → z ≡ size_of (file_at v file)) → l ≡ leased v file z → n ≡ unleased w file → w.hands ≡ l.hands
    → GoesThrough (stand wire l map) file call (ops.Write off written) off (length written) modes.W r (stand wire' w map') → Writes (stand wire v map) file call off written r (stand wire' n map')
writes-through wire wire' map map' v l w n file call off written z r some in_v in_w end plain is last hands h =
    subst (λ (b : BoardView). Writes (stand wire v map) file call off written r (stand wire' b map')) (sym last) (
    Writes-through wire wire' map map' v w file call off written z r some in_v in_w end plain (hands ∙ ap (λ (b : BoardView). b.hands) is)
    (subst (λ (b : BoardView). GoesThrough (stand wire b map) file call (ops.Write off written) off (length written) modes.W r (stand wire' w map')) is h))
