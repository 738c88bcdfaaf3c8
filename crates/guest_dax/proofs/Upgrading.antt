-- What a board lets be set, upgrades, and places.
use Rattle.std.proofs.Common.{◌≡◌, ◌∙◌, ap, sym, refl, subst, ℕ, ◌+◌, ◌*◌, ◌<◌, ◌==◌, Bool, true, false, List, [], ◌∷◌, ◌++◌, zero, suc, length, map, get_or, slice_set, Option, None, Some, Result, Ok, Err, arith}
use Rattle.std.specs.Prelude.{IsSome, IfOk, unwrap_or}
use Rattle.std.specs.List.{list_any, find}
use Rattle.std.proofs.lemmas.Grind.{common_steps}
use Rattle.page_map.specs.declared.pages.Mode.{Mode}
use Rattle.page_map.specs.declared.pages.Mode.TheVariants as modes
use Rattle.page_map.specs.declared.ranges.LogEntry.{LogEntry}
use Rattle.page_map.specs.declared.ranges.LogEntry.TheVariants as entries
use Rattle.page_map.specs.declared.ranges.Placed.{Placed}
use Rattle.page_map.specs.Logs.{Slot, is_in, is_of, upgraded, next_slots, slots_from, slots_of, slot_in, placed_of, placed_at, is_writable}
use Rattle.std.specs.Option.{option_map}
use Rattle.page_map.specs.Board.{MapView, Hands, may_set, is_moved, is_range, is_at_chunk, is_chunk_of, placed_in, chunk_in, log_at}
use Rattle.range_tree.specs.Ranges.{Enters, is_enough, tree_of, upgraded_in, upgrade_of, with_more, CanSettle, IsMapped, IsRaisable, settled, moved_of, Becomes, Settles, IsSettled, Leaves}
use Rattle.page_map.specs.Window.{range_size}
use Rattle.plain_file.specs.declared.refusals.Memory.{Memory}
use Rattle.guest_dax.specs.Stands.{Stand, KeepsMap, chunk_span}
use Rattle.guest_dax.specs.Pinning.{MapsRest, IsEnoughPlaced, IsPlacedIn, IsPlacedMoved, IsThrough, IsReadOnly, IsSomeReadOnly, UpgradesChunk, MakesEnough}
use Rattle.guest_dax.specs.declared.pins.Pinned.{Pinned}
use Rattle.guest_dax.specs.declared.refusals.DaxRefusal.{DaxRefusal}
use Rattle.guest_wire.specs.Keeps.{Begins}
use Rattle.guest_dax.proofs.Keeping.{KeepsMap-same, Begins-log, length-log, KeepsMap-more}
use Rattle.guest_dax.proofs.Searching.{had-tree}
use Rattle.guest_dax.proofs.PinLaws.{tree-of}
use Rattle.guest_dax.proofs.Placing.{placed-last}
use Rattle.std.proofs.lemmas.List.{append-nil}

at-chunk : (files file chunk range : ℕ) (mode : Mode) → file < files → chunk < 32 → is_at_chunk files (chunk_span file chunk range mode) ≡ true
at-chunk files file chunk range mode within small = grind (arith, common_steps, within, small)

range-is : (range : ℕ) → is_range range (range_size * range) range_size ≡ true
range-is range = grind (arith, common_steps)

pub may-set-moved : (v : MapView) (file chunk range : ℕ) (mode : Mode) → v.hands.moves ≡ Some range → file < length v.ranges.logs → chunk < 32 → may_set v (chunk_span file chunk range mode) ≡ true
unfolding may_set is_moved
may-set-moved v file chunk range mode moves within small = rw (at-chunk (length v.ranges.logs) file chunk range mode within small, moves, range-is range) (grind (arith, common_steps))

chunk-by : (b : Bool) (x : Slot) (xs : List Slot) (file chunk range : ℕ) (s : Slot) → (x.range == range) ≡ b → find (is_in range) (x ∷ xs) ≡ Some s → s.chunk ≡ chunk → (find (is_in range) xs ≡ Some s → list_any (is_chunk_of (chunk_span file chunk range modes.W)) (map (chunk_in file) xs) ≡ true) → list_any (is_chunk_of (chunk_span file chunk range modes.W)) (map (chunk_in file) (x ∷ xs)) ≡ true
chunk-by true x xs file chunk range s is e same rest =
    let k : Some x ≡ Some s = rw is at e in
    let x_is : x ≡ s = cc in
    let r : x.range ≡ range = grind (arith, common_steps, is) in
    let c : x.chunk ≡ chunk = ap (λ (s : Slot). s.chunk) x_is ∙ same in
    let a : is_chunk_of (chunk_span file chunk range modes.W) (chunk_in file x) ≡ true = rw (r, c) (grind (arith, common_steps)) in
    rw a refl
chunk-by false x xs file chunk range s is e same rest = rw (rest (rw is at e)) (grind (arith, common_steps))

chunk-any : (slots : List Slot) (file chunk range : ℕ) (s : Slot) → find (is_in range) slots ≡ Some s → s.chunk ≡ chunk → list_any (is_chunk_of (chunk_span file chunk range modes.W)) (map (chunk_in file) slots) ≡ true
chunk-any [] file chunk range s e same = cc
chunk-any (x ∷ xs) file chunk range s e same = chunk-by (x.range == range) x xs file chunk range s refl e same (λ k. chunk-any xs file chunk range s k same)

pub may-set-placed : (v : MapView) (file chunk range : ℕ) (s : Slot) → v.hands.tree ≡ Some file → file < length v.ranges.logs → chunk < 32 → slot_in (log_at v file) range ≡ Some s → s.chunk ≡ chunk → may_set v (chunk_span file chunk range modes.W) ≡ true
unfolding may_set placed_in slot_in is_writable
may-set-placed v file chunk range s tree within small there same =
    rw (at-chunk (length v.ranges.logs) file chunk range modes.W within small, tree, chunk-any (slots_of (log_at v file)) file chunk range s there same) (grind (arith, common_steps))

-- ---- upgrades

upgrade-of : (o : Option Placed) (p : Placed) → o ≡ Some p → upgrade_of o ≡ entries.Upgrade p.range ∷ []
unfolding upgrade_of
upgrade-of o p e = rw e refl

pub KeepsMap-more-log : (v : MapView) (file : ℕ) (more : List LogEntry) (w : MapView) → w ≡ with_more v file more → KeepsMap v w
KeepsMap-more-log v file more w e =
    let same = KeepsMap-same v in
    subst (λ (m : MapView). KeepsMap v m) (sym e) (record { plain = refl; over = refl; guest = refl; may_take = refl; others = refl; pages = refl; count = refl; files = length-log v.ranges.logs file (log_at v file ++ more); logs = λ j. Begins-log v.ranges.logs file j more; pins = same.pins; pinned = same.pinned })

pub upgraded-is : (v : MapView) (file chunk : ℕ) (p : Placed) (w : MapView) → v.hands.tree ≡ Some file → placed_at (log_at v file) chunk ≡ Some p → w ≡ upgraded_in v chunk → w ≡ with_more v file (entries.Upgrade p.range ∷ [])
upgraded-is v file chunk p w tree e is =
    is ∙ ap (λ f. with_more v f (upgrade_of (placed_at (log_at v f) chunk))) (tree-of v file tree) ∙ ap (λ more. with_more v file more) (upgrade-of (placed_at (log_at v file) chunk) p e)

pub placed-kept : (v w : MapView) (file chunk : ℕ) (p : Placed) → w.ranges.logs ≡ v.ranges.logs → placed_at (log_at v file) chunk ≡ Some p → placed_at (log_at w file) chunk ≡ Some p
placed-kept v w file chunk p logs e = ap (λ (ls : List (List LogEntry)). placed_at (get_or ls file []) chunk) logs ∙ e

log-here : (logs : List (List LogEntry)) (file : ℕ) (l : List LogEntry) → file < length logs → get_or (slice_set logs file l) file [] ≡ l
log-here [] file l h = absurd (omega arith)
log-here (x ∷ xs) zero l h = refl
log-here (x ∷ xs) (suc file) l h = log-here xs file l (omega arith)

-- one log has grown
pub log-grown : (v w : MapView) (file : ℕ) (more : List LogEntry) (x : MapView) → file < length v.ranges.logs → w.ranges.logs ≡ v.ranges.logs → x ≡ with_more w file more → log_at x file ≡ log_at v file ++ more
log-grown v w file more x within logs e =
    ap (λ (m : MapView). log_at m file) e ∙ log-here w.ranges.logs file (log_at w file ++ more) (subst (λ (ls : List (List LogEntry)). file < length ls) (sym logs) within)
    ∙ ap (λ (ls : List (List LogEntry)). get_or ls file [] ++ more) logs

-- ---- what is placed after an upgrade

slots_from-append : (n : ℕ) (slots : List Slot) (xs ys : List LogEntry) → slots_from n slots (xs ++ ys) ≡ slots_from (n + length xs) (slots_from n slots xs) ys
unfolding slots_from
slots_from-append n slots [] ys = ap (λ k. slots_from k slots ys) (omega arith)
slots_from-append n slots (x ∷ xs) ys = slots_from-append (n + 1) (next_slots n slots x) xs ys ∙ ap (λ k. slots_from k (slots_from (n + 1) (next_slots n slots x) xs) ys) (omega arith)

slots-upgraded : (log : List LogEntry) (range : ℕ) → slots_of (log ++ entries.Upgrade range ∷ []) ≡ map (upgraded range) (slots_of log)
unfolding slots_of slots_from next_slots
slots-upgraded log range = slots_from-append 0 [] log (entries.Upgrade range ∷ [])

upgraded-by : (b : Bool) (x : Slot) (xs : List Slot) (range chunk : ℕ) → (x.chunk == chunk) ≡ b → find (is_of chunk) (map (upgraded range) xs) ≡ option_map (upgraded range) (find (is_of chunk) xs) → find (is_of chunk) (map (upgraded range) (x ∷ xs)) ≡ option_map (upgraded range) (find (is_of chunk) (x ∷ xs))
upgraded-by true x xs range chunk is rest = rw is refl
upgraded-by false x xs range chunk is rest = rw is rest

find-upgraded : (slots : List Slot) (range chunk : ℕ) → find (is_of chunk) (map (upgraded range) slots) ≡ option_map (upgraded range) (find (is_of chunk) slots)
find-upgraded [] range chunk = refl
find-upgraded (x ∷ xs) range chunk = upgraded-by (x.chunk == chunk) x xs range chunk refl (find-upgraded xs range chunk)

placed-some : (o : Option Slot) (range entry : ℕ) → option_map placed_of o ≡ Some (record { range = range; mode = modes.R; entry = entry }) → option_map placed_of (option_map (upgraded range) o) ≡ Some (record { range = range; mode = modes.W; entry = entry })
placed-some None range entry e = cc
placed-some (Some s) range entry e =
    let p : placed_of s ≡ record { range = range; mode = modes.R; entry = entry } = cc in
    let r : s.range ≡ range = ap (λ (p : Placed). p.range) p in
    let n : s.entry ≡ entry = ap (λ (p : Placed). p.entry) p in
    let t : (range == range) ≡ true = grind (arith, common_steps) in
    rw (r, n, t) refl

pub placed-upgraded : (log : List LogEntry) (chunk range entry : ℕ) → placed_at log chunk ≡ Some (record { range = range; mode = modes.R; entry = entry }) → placed_at (log ++ entries.Upgrade range ∷ []) chunk ≡ Some (record { range = range; mode = modes.W; entry = entry })
unfolding placed_at
placed-upgraded log chunk range entry e =
    ap (λ slots. option_map placed_of (find (is_of chunk) slots)) (slots-upgraded log range) ∙ ap (λ (o : Option Slot). option_map placed_of o) (find-upgraded (slots_of log) range chunk)
    ∙ placed-some (find (is_of chunk) (slots_of log)) range entry e

pub enough-upgraded : (mode : Mode) (o : Option Placed) (range entry : ℕ) → o ≡ Some (record { range = range; mode = modes.W; entry = entry }) → IsEnoughPlaced mode o
unfolding IsEnoughPlaced is_enough
enough-upgraded modes.R o range entry e = rw e refl
enough-upgraded modes.W o range entry e = rw e refl

-- what needs an upgrade is placed for reading
pub needs-placed : (v : MapView) (file chunk : ℕ) (found : Option Placed) (range entry : ℕ) → v.hands.tree ≡ Some file → found ≡ placed_at (log_at v (tree_of v)) chunk → found ≡ Some (record { range = range; mode = modes.R; entry = entry }) → IsReadOnly (log_at v file) chunk range
needs-placed v file chunk found range entry tree is e = record { entry = entry; placed = ap (λ f. placed_at (log_at v f) chunk) (sym (tree-of v file tree)) ∙ sym is ∙ e }

pub found-at : (v : MapView) (file chunk : ℕ) (found : Option Placed) → v.hands.tree ≡ Some file → found ≡ placed_at (log_at v (tree_of v)) chunk → found ≡ placed_at (log_at v file) chunk
found-at v file chunk found tree is = is ∙ ap (λ f. placed_at (log_at v f) chunk) (tree-of v file tree)

pub enough-none : (v : MapView) (file chunk : ℕ) (mode : Mode) (found : Option Placed) → v.hands.tree ≡ Some file → found ≡ placed_at (log_at v (tree_of v)) chunk → IsEnoughPlaced mode found → IsEnoughPlaced mode (placed_at (log_at v file) chunk)
enough-none v file chunk mode found tree is h = subst (λ (o : Option Placed). IsEnoughPlaced mode o) (found-at v file chunk found tree is) h

-- what is placed for reading isn't enough for writing
pub needs-not-enough : (mode : Mode) (found : Option Placed) (range entry : ℕ) → mode ≡ modes.W → found ≡ Some (record { range = range; mode = modes.R; entry = entry }) → IsEnoughPlaced mode found → ⊥
unfolding IsEnoughPlaced is_enough
needs-not-enough mode found range entry m e h = let k : false ≡ true = (rw (m, e) at h) in cc

some-none : (o : Option Placed) (p : Placed) → o ≡ Some p → o ≡ None → ⊥
some-none o p e h = cc

pub enough-after : (s : Stand) (file chunk : ℕ) (mode : Mode) (result : Result (Unit {0}) DaxRefusal) (t : Stand) → UpgradesChunk s file chunk result t → MakesEnough s file chunk mode result t
enough-after s file chunk mode (Ok u) t (h, up) =
    let e : placed_at (log_at t.map file) chunk ≡ Some (record { range = up.range; mode = modes.W; entry = up.read_only.entry }) = ap (λ (l : List LogEntry). placed_at l chunk) up.grown ∙ placed-upgraded (log_at s.map file) chunk up.range up.read_only.entry up.read_only.placed in
    (h, enough-upgraded mode (placed_at (log_at t.map file) chunk) up.range up.read_only.entry e, λ none. absurd (some-none (placed_at (log_at t.map file) chunk) (record { range = up.range; mode = modes.W; entry = up.read_only.entry }) e none))
enough-after s file chunk mode (Err e) t (h, logs, caused) = (h, caused)

pub raisable : (v : MapView) (file chunk range entry : ℕ) → v.hands.tree ≡ Some file → placed_at (log_at v file) chunk ≡ Some (record { range = range; mode = modes.R; entry = entry }) → IsMapped v range (Some (record { file = file; chunk = chunk; mode = modes.W })) → IsRaisable v chunk (placed_at (log_at v (tree_of v)) chunk)
unfolding IsRaisable
raisable v file chunk range entry tree e mapped =
    let t : tree_of v ≡ file = tree-of v file tree in
    let p : Placed = record { range = range; mode = modes.R; entry = entry } in
    let here : placed_at (log_at v (tree_of v)) chunk ≡ Some p = ap (λ f. placed_at (log_at v f) chunk) t ∙ e in
    subst (λ (o : Option Placed). IsRaisable v chunk o) (sym here) (refl, subst (λ f. IsMapped v range (Some (record { file = f; chunk = chunk; mode = modes.W }))) (sym t) mapped)

pub KeepsMap-settled : (v : MapView) (chunk : ℕ) (mode : Mode) (w : MapView) → Becomes v (settled v chunk mode) w → KeepsMap v w
KeepsMap-settled v chunk mode w h = KeepsMap-more v v.hands.tree None (tree_of v) (entries.Place chunk (moved_of v) mode ∷ []) w h.pages h.rest

pub settled-ok : (v : MapView) (chunk : ℕ) (mode : Mode) (place : ℕ) (w : MapView) → Settles v chunk mode (Ok place) w → IsSettled v chunk mode place w
unfolding Settles
settled-ok v chunk mode place w h = h

pub settled-err : (v : MapView) (chunk : ℕ) (mode : Mode) (e : Memory) (w : MapView) → Settles v chunk mode (Err e) w → w ≡ v
unfolding Settles
settled-err v chunk mode e w h = h

pub had-tree-kept : (v : MapView) (file : ℕ) → v.hands.tree ≡ Some file → IsSome v.hands.tree
had-tree-kept v file e = subst (λ (t : Option ℕ). IsSome t) (sym e) refl

pub not-enough-at : (v : MapView) (file chunk : ℕ) (mode : Mode) (found : Option Placed) (range entry : ℕ) → v.hands.tree ≡ Some file → found ≡ placed_at (log_at v (tree_of v)) chunk → mode ≡ modes.W → found ≡ Some (record { range = range; mode = modes.R; entry = entry }) → IsEnoughPlaced mode (placed_at (log_at v file) chunk) → ⊥
not-enough-at v file chunk mode found range entry tree is m e enough = needs-not-enough mode found range entry m e (subst (λ (o : Option Placed). IsEnoughPlaced mode o) (sym (found-at v file chunk found tree is)) enough)

-- what is placed for reading is found, in its range
pub read-only-some : (v : MapView) (file chunk : ℕ) (found : Option Placed) → v.hands.tree ≡ Some file → found ≡ placed_at (log_at v (tree_of v)) chunk → IsSomeReadOnly (log_at v file) chunk → IsSome found
read-only-some v file chunk found tree is (range, r) = subst (λ (o : Option Placed). IsSome o) (sym (found-at v file chunk found tree is ∙ r.placed)) refl

same-range : (p q : Placed) → Some p ≡ Some q → q.range ≡ p.range
same-range p q e = let k : p ≡ q = cc in ap (λ (x : Placed). x.range) (sym k)

pub read-only-at : (v : MapView) (file chunk : ℕ) (found : Option Placed) (p : Placed) → v.hands.tree ≡ Some file → found ≡ placed_at (log_at v (tree_of v)) chunk → found ≡ Some p → IsSomeReadOnly (log_at v file) chunk → IsReadOnly (log_at v file) chunk p.range
read-only-at v file chunk found p tree is e (range, r) =
    let same : range ≡ p.range = same-range p (record { range = range; mode = modes.R; entry = r.entry }) (sym e ∙ found-at v file chunk found tree is ∙ r.placed) in
    subst (λ (n : ℕ). IsReadOnly (log_at v file) chunk n) same r

-- ---- placing

-- where no other board moves ranges, the log is seen whole before
log-set : (logs : List (List LogEntry)) (file : ℕ) → get_or (slice_set logs file (get_or logs file [] ++ [])) file [] ≡ get_or logs file []
log-set [] file = refl
log-set (l ∷ ls) zero = append-nil l
log-set (l ∷ ls) (suc file) = log-set ls file

pub enter-alone : (v : MapView) (file chunk : ℕ) (mode : Mode) (w : MapView) → Enters v file w → v.ranges.others ≡ false → IsEnoughPlaced mode (placed_at (log_at v file) chunk) → IsEnoughPlaced mode (placed_at (log_at w file) chunk)
enter-alone v file chunk mode w h others enough =
    let e : log_at w file ≡ log_at v file = ap (λ (m : MapView). log_at m file) h.becomes.rest ∙ ap (λ (more : List LogEntry). get_or (slice_set v.ranges.logs file (log_at v file ++ more)) file []) (h.alone others) ∙ log-set v.ranges.logs file in
    subst (λ (l : List LogEntry). IsEnoughPlaced mode (placed_at l chunk)) (sym e) enough

logs-set : (logs : List (List LogEntry)) (file : ℕ) → slice_set logs file (get_or logs file [] ++ []) ≡ logs
logs-set [] file = refl
logs-set (l ∷ ls) zero = ap (λ (x : List LogEntry). x ∷ ls) (append-nil l)
logs-set (l ∷ ls) (suc file) = ap (λ (xs : List (List LogEntry)). l ∷ xs) (logs-set ls file)

pub enter-logs : (v : MapView) (file : ℕ) (w : MapView) → Enters v file w → v.ranges.others ≡ false → w.ranges.logs ≡ v.ranges.logs
enter-logs v file w h others = ap (λ (m : MapView). m.ranges.logs) h.becomes.rest ∙ ap (λ (more : List LogEntry). slice_set v.ranges.logs file (log_at v file ++ more)) (h.alone others) ∙ logs-set v.ranges.logs file

moved-is : (v : MapView) (range : ℕ) → v.hands.moves ≡ Some range → moved_of v ≡ range
moved-is v range e = ap (λ (m : Option ℕ). unwrap_or m 0) e

pub can-settle : (v : MapView) (file chunk range : ℕ) (mode : Mode) (w : MapView) → MapsRest v w → IsMapped w range (Some (record { file = file; chunk = chunk; mode = mode })) → v.hands.tree ≡ Some file → v.hands.moves ≡ Some range → chunk < 32 → placed_at (log_at v file) chunk ≡ None → CanSettle w chunk mode
can-settle v file chunk range mode w rest mapped tree moves small free =
    let tree' : w.hands.tree ≡ Some file = ap (λ (h : Hands). h.tree) rest.hands ∙ tree in
    let moves' : w.hands.moves ≡ Some range = ap (λ (h : Hands). h.moves) rest.hands ∙ moves in
    let t : tree_of w ≡ file = tree-of w file tree' in
    record {
      moves = had-tree w.hands.moves range moves';
      tree = had-tree w.hands.tree file tree';
      small = small;
      free = ap (λ f. placed_at (log_at w f) chunk) t ∙ ap (λ (ls : List (List LogEntry)). placed_at (get_or ls file []) chunk) rest.logs ∙ free;
      mapped = subst (λ r. IsMapped w r (Some (record { file = tree_of w; chunk = chunk; mode = mode }))) (sym (moved-is w range moves')) (subst (λ f. IsMapped w range (Some (record { file = f; chunk = chunk; mode = mode }))) (sym t) mapped);
    }

enough-here : (mode : Mode) → is_enough mode mode ≡ true
unfolding is_enough
enough-here modes.R = refl
enough-here modes.W = refl

enough-is : (mode : Mode) (o : Option Placed) (p : Placed) → o ≡ Some p → p.mode ≡ mode → IsEnoughPlaced mode o
unfolding IsEnoughPlaced
enough-is mode o p e m = rw e (ap (λ (x : Mode). is_enough mode x) m ∙ enough-here mode)

some-placed : (o : Option Placed) (p : Placed) → o ≡ Some p → IsSome o
some-placed o p e = subst (λ (o : Option Placed). IsSome o) (sym e) refl

pub filled : (v : MapView) (file chunk range : ℕ) (mode : Mode) (w : MapView) (place : ℕ) (x : MapView) → MapsRest v w → v.hands.tree ≡ Some file → file < length v.ranges.logs → placed_at (log_at v file) chunk ≡ None → IsSettled w chunk mode place x →
    (x.hands ≡ record v.hands { moves = None }) × IsSome (placed_at (log_at x file) chunk) × IsEnoughPlaced mode (placed_at (log_at x file) chunk)
filled v file chunk range mode w place x rest tree within free h =
    let t : tree_of w ≡ file = tree-of w file (ap (λ (k : Hands). k.tree) rest.hands ∙ tree) in
    let more : List LogEntry = entries.Place chunk (moved_of w) mode ∷ [] in
    let log : log_at x file ≡ log_at v file ++ more =
    ap (λ (m : MapView). log_at m file) h.becomes.rest ∙ ap (λ f. get_or (slice_set w.ranges.logs f (log_at w f ++ more)) file []) t
    ∙ log-here w.ranges.logs file (log_at w file ++ more) (subst (λ (ls : List (List LogEntry)). file < length ls) (sym rest.logs) within)
    ∙ ap (λ (ls : List (List LogEntry)). get_or ls file [] ++ more) rest.logs in
    let p : Placed = record { range = moved_of w; mode = mode; entry = length (log_at v file) } in
    let e : placed_at (log_at x file) chunk ≡ Some p = ap (λ (l : List LogEntry). placed_at l chunk) log ∙ placed-last (log_at v file) chunk (moved_of w) mode free in (
      ap (λ (m : MapView). m.hands) h.becomes.rest ∙ ap (λ (k : Hands). record k { moves = None }) rest.hands,
      some-placed (placed_at (log_at x file) chunk) p e,
      enough-is mode (placed_at (log_at x file) chunk) p e refl,
    )

pub some-found : (v : MapView) (file chunk : ℕ) (found : Option Placed) → v.hands.tree ≡ Some file → found ≡ placed_at (log_at v (tree_of v)) chunk → IsSome (placed_at (log_at v file) chunk) → IsSome found
some-found v file chunk found tree is some = subst (λ (o : Option Placed). IsSome o) (sym (found-at v file chunk found tree is)) some

-- the log has the placement at its end
pub filled-log : (v : MapView) (file chunk : ℕ) (mode : Mode) (w : MapView) (place : ℕ) (x : MapView) → MapsRest v w → v.hands.tree ≡ Some file → file < length v.ranges.logs → IsSettled w chunk mode place x → log_at x file ≡ log_at v file ++ entries.Place chunk (moved_of v) mode ∷ []
filled-log v file chunk mode w place x rest tree within h =
    let t : tree_of w ≡ file = tree-of w file (ap (λ (k : Hands). k.tree) rest.hands ∙ tree) in
    let more : List LogEntry = entries.Place chunk (moved_of w) mode ∷ [] in
    ap (λ (m : MapView). log_at m file) h.becomes.rest ∙ ap (λ f. get_or (slice_set w.ranges.logs f (log_at w f ++ more)) file []) t
    ∙ log-here w.ranges.logs file (log_at w file ++ more) (subst (λ (ls : List (List LogEntry)). file < length ls) (sym rest.logs) within)
    ∙ ap (λ (ls : List (List LogEntry)). get_or ls file [] ++ more) rest.logs
    ∙ ap (λ (k : Hands). log_at v file ++ entries.Place chunk (unwrap_or k.moves 0) mode ∷ []) rest.hands

pub placed-in : (old mid new : List LogEntry) (chunk range : ℕ) (mode : Mode) (p : Pinned) → placed_at old chunk ≡ None → mid ≡ old ++ entries.Place chunk range mode ∷ [] → new ≡ mid → IsThrough mid chunk p → p.through.upto ≡ length new → IsPlacedIn old chunk range mode p new
placed-in old mid new chunk range mode p none grown same through upto =
    let first : Placed = record { range = range; mode = mode; entry = length old } in
    let second : Placed = record { range = p.range; mode = through.mode; entry = p.through.entry } in
    let both : Some first ≡ Some second = sym (placed-last old chunk range mode none) ∙ ap (λ (l : List LogEntry). placed_at l chunk) (sym grown) ∙ through.placed in
    let is : second ≡ first = cc in
    record { grown = same ∙ grown; in_range = ap (λ (q : Placed). q.range) is; entry = ap (λ (q : Placed). q.entry) is; upto = upto }

-- the same from before the tree was entered until after it was left
pub placed-moved : (v w x y : MapView) (file chunk : ℕ) (mode : Mode) (result : Result Pinned DaxRefusal) → Enters v file w → file < length v.ranges.logs → KeepsMap w x → Leaves x y → (placed_at (log_at w file) chunk ≡ None → IfOk result (λ p. IsPlacedIn (log_at w file) chunk (moved_of w) mode p (log_at x file))) → IfOk result (λ p. IsPlacedMoved v y file chunk mode p)
placed-moved v w x y file chunk mode (Ok p) enters within keeps leaves placed =
    let seen : log_at w file ≡ log_at v file ++ enters.more = ap (λ (m : MapView). log_at m file) enters.becomes.rest ∙ log-here v.ranges.logs file (log_at v file ++ enters.more) within in
    let moved : moved_of w ≡ moved_of v = ap (λ (m : MapView). moved_of m) enters.becomes.rest in
    let after : log_at y file ≡ log_at x file = ap (λ (m : MapView). log_at m file) leaves.rest in
    record {
      more = enters.more;
      alone = enters.alone;
      seen = subst (λ (l : List LogEntry). Begins l (log_at y file)) seen (subst (λ (l : List LogEntry). Begins (log_at w file) l) (sym after) (keeps.logs file));
      placed = λ none. subst (λ (l : List LogEntry). IsPlacedIn l chunk (moved_of v) mode p (log_at y file)) seen (
          subst (λ (n : ℕ). IsPlacedIn (log_at w file) chunk n mode p (log_at y file)) moved (
          subst (λ (l : List LogEntry). IsPlacedIn (log_at w file) chunk (moved_of w) mode p l) (sym after) (placed (ap (λ (l : List LogEntry). placed_at l chunk) seen ∙ none))));
    }
placed-moved v w x y file chunk mode (Err e) enters within keeps leaves placed = tt
