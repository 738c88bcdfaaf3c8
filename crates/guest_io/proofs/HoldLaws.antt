-- What holds have in hand, and what of it calls leave.
use Rattle.std.proofs.Common.{◌≡◌, ◌∙◌, ap, sym, refl, subst, ℕ, zero, suc, ◌+◌, ◌-◌, ◌<◌, ◌≤◌, ◌==◌, Bool, List, [], ◌∷◌, ◌++◌, length, Option, Some, None, arith, eq-eqb}
use Rattle.std.specs.Prelude.{◌≢◌, sum, slice_get, slice_index_or, slice_set, if◌then◌else◌}
use Rattle.std.proofs.lemmas.Bool.{ne_eqb}
use Rattle.std.proofs.lemmas.Grind.{common_steps}
use Rattle.std.proofs.lemmas.List.{get_or-set_same, get_or-set_other}
use Rattle.std.proofs.lemmas.List.Sums.{sum_by-set}
use mathlib.Core.Logic.{dite}
use native.Mathlib.Decide.{ℕ_discrete}
use Rattle.plain_file.specs.Board.{FileHands, BoardView}
use Rattle.plain_file.specs.Turns.{leases_on}
use Rattle.page_map.specs.declared.ranges.LogEntry.{LogEntry}
use Rattle.page_map.specs.declared.ranges.LogEntry.TheVariants as entries
use Rattle.page_map.specs.Board.{Hands, log_at}
use Rattle.range_tree.specs.Ranges.{range_count, pins_on, pinned_in, max_pins}
use Rattle.guest_wire.specs.Keeps.{Begins}
use Rattle.guest_dax.specs.Stands.{Stand, KeepsMap}
use Rattle.guest_dax.specs.Pinning.{PlacesIn}
use Rattle.guest_dax.proofs.Keeping.{Begins-same, Begins-both}
use Rattle.guest_io.specs.declared.guest.Granted.{Granted}
use Rattle.guest_io.specs.declared.guest.Holds.{Holds}
use Rattle.guest_io.specs.Going.{LeavesAll}
use Rattle.guest_io.specs.Holds.{max_holds, granted_at, count_of, leases_of, pins_of, IsHold, HasHolds, LeavesRest, SameEntries}
use Rattle.guest_io.proofs.Growing.{IsThrough-grown}

-- ---- numbers

-- one where two numbers are the same, and else nothing
abbrev pub one_at : ℕ → ℕ → ℕ
one_at i j = if i == j then 1 else 0

pub one-same : (i j : ℕ) → i ≡ j → one_at i j ≡ 1
one-same i j e = ap (λ (b : Bool). if b then 1 else 0) (eq-eqb i j e)

pub one-other : (i j : ℕ) → i ≢ j → one_at i j ≡ 0
one-other i j ne = ap (λ (b : Bool). if b then 1 else 0) (ne_eqb i j ne)

index-within : (xs : List ℕ) (i : ℕ) → 0 < slice_index_or xs i 0 → i < length xs
index-within [] i h = absurd (omega (arith, h))
index-within (x ∷ xs) zero h = omega arith
index-within (x ∷ xs) (suc i) h = let k = index-within xs i h in omega (arith, k)

-- one element is one more
pub more-at : (xs : List ℕ) (i j : ℕ) → i < length xs → slice_index_or (slice_set xs i (slice_index_or xs i 0 + 1)) j 0 ≡ one_at i j + slice_index_or xs j 0
more-at xs i j h =
    dite (ℕ_discrete i j)
    (λ e. subst (λ n. slice_index_or (slice_set xs i (slice_index_or xs i 0 + 1)) n 0 ≡ one_at i n + slice_index_or xs n 0) e
    (let a = get_or-set_same xs i (slice_index_or xs i 0 + 1) 0 h in let b = one-same i i refl in omega (arith, a, b)))
    (λ ne. let a = get_or-set_other xs i j (slice_index_or xs i 0 + 1) 0 (λ e. ne (sym e)) in let b = one-other i j ne in omega (arith, a, b))

pub sum-more : (xs : List ℕ) (i : ℕ) → i < length xs → sum (slice_set xs i (slice_index_or xs i 0 + 1)) ≡ 1 + sum xs
sum-more xs i h = let k = sum_by-set (λ x. x) xs i (slice_index_or xs i 0 + 1) 0 h in omega (arith, k)

-- one element is one less
pub less-at : (xs : List ℕ) (i j : ℕ) → 0 < slice_index_or xs i 0 → slice_index_or xs j 0 ≡ one_at i j + slice_index_or (slice_set xs i (slice_index_or xs i 0 - 1)) j 0
less-at xs i j h =
    dite (ℕ_discrete i j)
    (λ e. subst (λ n. slice_index_or xs n 0 ≡ one_at i n + slice_index_or (slice_set xs i (slice_index_or xs i 0 - 1)) n 0) e
    (let a = get_or-set_same xs i (slice_index_or xs i 0 - 1) 0 (index-within xs i h) in let b = one-same i i refl in omega (arith, a, b, h)))
    (λ ne. let a = get_or-set_other xs i j (slice_index_or xs i 0 - 1) 0 (λ e. ne (sym e)) in let b = one-other i j ne in omega (arith, a, b))

pub sum-less : (xs : List ℕ) (i : ℕ) → 0 < slice_index_or xs i 0 → sum xs ≡ 1 + sum (slice_set xs i (slice_index_or xs i 0 - 1))
sum-less xs i h = let k = sum_by-set (λ x. x) xs i (slice_index_or xs i 0 - 1) 0 (index-within xs i h) in omega (arith, k, h)

-- ---- one hold more

pub count-more : (gs : List (Option Granted)) (i : ℕ) (g : Granted) → i < length gs → slice_index_or gs i None ≡ None → count_of (slice_set gs i (Some g)) ≡ 1 + count_of gs
unfolding count_of
count-more [] i g h e = absurd (omega (arith, h))
count-more (None ∷ gs) zero g h e = refl
count-more (Some x ∷ gs) zero g h e = absurd cc
count-more (None ∷ gs) (suc i) g h e = count-more gs i g (omega (arith, h)) e
count-more (Some x ∷ gs) (suc i) g h e = let k = count-more gs i g (omega (arith, h)) e in omega (arith, k)

pub leases-more : (file : ℕ) (gs : List (Option Granted)) (i : ℕ) (g : Granted) → i < length gs → slice_index_or gs i None ≡ None → leases_of file (slice_set gs i (Some g)) ≡ one_at g.file file + leases_of file gs
unfolding leases_of
leases-more file [] i g h e = absurd (omega (arith, h))
leases-more file (None ∷ gs) zero g h e = refl
leases-more file (Some x ∷ gs) zero g h e = absurd cc
leases-more file (None ∷ gs) (suc i) g h e = leases-more file gs i g (omega (arith, h)) e
leases-more file (Some x ∷ gs) (suc i) g h e = let k = leases-more file gs i g (omega (arith, h)) e in omega (arith, k)

pub pins-more : (range : ℕ) (gs : List (Option Granted)) (i : ℕ) (g : Granted) → i < length gs → slice_index_or gs i None ≡ None → pins_of range (slice_set gs i (Some g)) ≡ one_at g.pinned.range range + pins_of range gs
unfolding pins_of
pins-more range [] i g h e = absurd (omega (arith, h))
pins-more range (None ∷ gs) zero g h e = refl
pins-more range (Some x ∷ gs) zero g h e = absurd cc
pins-more range (None ∷ gs) (suc i) g h e = pins-more range gs i g (omega (arith, h)) e
pins-more range (Some x ∷ gs) (suc i) g h e = let k = pins-more range gs i g (omega (arith, h)) e in omega (arith, k)

-- ---- one hold less

pub count-less : (gs : List (Option Granted)) (i : ℕ) (g : Granted) → slice_index_or gs i None ≡ Some g → count_of gs ≡ 1 + count_of (slice_set gs i None)
unfolding count_of
count-less [] i g e = absurd cc
count-less (None ∷ gs) zero g e = absurd cc
count-less (Some x ∷ gs) zero g e = refl
count-less (None ∷ gs) (suc i) g e = count-less gs i g e
count-less (Some x ∷ gs) (suc i) g e = let k = count-less gs i g e in omega (arith, k)

pub leases-less : (file : ℕ) (gs : List (Option Granted)) (i : ℕ) (g : Granted) → slice_index_or gs i None ≡ Some g → leases_of file gs ≡ one_at g.file file + leases_of file (slice_set gs i None)
unfolding leases_of
leases-less file [] i g e = absurd cc
leases-less file (None ∷ gs) zero g e = absurd cc
leases-less file (Some x ∷ gs) zero g e = let d : x ≡ g = cc in ap (λ (y : Granted). one_at y.file file + leases_of file gs) d
leases-less file (None ∷ gs) (suc i) g e = leases-less file gs i g e
leases-less file (Some x ∷ gs) (suc i) g e = let k = leases-less file gs i g e in omega (arith, k)

pub pins-less : (range : ℕ) (gs : List (Option Granted)) (i : ℕ) (g : Granted) → slice_index_or gs i None ≡ Some g → pins_of range gs ≡ one_at g.pinned.range range + pins_of range (slice_set gs i None)
unfolding pins_of
pins-less range [] i g e = absurd cc
pins-less range (None ∷ gs) zero g e = absurd cc
pins-less range (Some x ∷ gs) zero g e = let d : x ≡ g = cc in ap (λ (y : Granted). one_at y.pinned.range range + pins_of range gs) d
pins-less range (None ∷ gs) (suc i) g e = pins-less range gs i g e
pins-less range (Some x ∷ gs) (suc i) g e = let k = pins-less range gs i g e in omega (arith, k)

-- ---- how many there are

count-most : (gs : List (Option Granted)) → count_of gs ≤ length gs
unfolding count_of
count-most [] = omega arith
count-most (None ∷ gs) = let k = count-most gs in omega (arith, k)
count-most (Some g ∷ gs) = let k = count-most gs in omega (arith, k)

-- there are few holds, and so few pins and leases
pub few : (s : Stand) (h : Holds) → HasHolds s h → count_of h.slots ≤ max_holds
few s h x = let k = count-most h.slots in let e = x.slots in omega (arith, k, e)

pub pins-few : (s : Stand) (h : Holds) → HasHolds s h → sum s.map.hands.pins + 1 < max_pins
pins-few s h x = let k = few s h x in let e = x.all_pins in omega (arith, k, e)

pub leases-few : (s : Stand) (h : Holds) → HasHolds s h → sum s.files.hands.leases < 64
leases-few s h x = let k = few s h x in let e = x.all_leases in omega (arith, k, e)

-- a granted hold has its pin and its lease
pub pin-had : (s : Stand) (h : Holds) (n : ℕ) (g : Granted) → HasHolds s h → granted_at h n ≡ Some g → 0 < pins_on s.map g.pinned.range
pin-had s h n g x e =
    let a = x.pins g.pinned.range in
    let b = pins-less g.pinned.range h.slots n g e in
    let c = one-same g.pinned.range g.pinned.range refl in
    omega (arith, a, b, c)

pub lease-held : (s : Stand) (h : Holds) (n : ℕ) (g : Granted) → HasHolds s h → granted_at h n ≡ Some g → 0 < leases_on s.files g.file
lease-held s h n g x e =
    let a = x.leases g.file in
    let b = leases-less g.file h.slots n g e in
    let c = one-same g.file g.file refl in
    omega (arith, a, b, c)

-- ---- as logs grow

begins-longer : (xs ys : List LogEntry) → Begins xs ys → length xs ≤ length ys
begins-longer xs ys (more, e) = let n : length ys ≡ length xs + length more = ap (λ (l : List LogEntry). length l) e ∙ grind (arith, common_steps) in omega (arith, n)

get-front : (xs ys : List LogEntry) (i : ℕ) (e : LogEntry) → slice_get xs i ≡ Some e → slice_get (xs ++ ys) i ≡ Some e
get-front [] ys i e h = absurd cc
get-front (x ∷ xs) ys zero e h = h
get-front (x ∷ xs) ys (suc i) e h = get-front xs ys i e h

places-grown : (xs ys : List LogEntry) (entry chunk range : ℕ) → Begins xs ys → PlacesIn xs entry chunk range → PlacesIn ys entry chunk range
places-grown xs ys entry chunk range (more, e) (mode, h) = (mode, subst (λ (l : List LogEntry). slice_get l entry ≡ Some (entries.Place chunk range mode)) (sym e) (get-front xs more entry (entries.Place chunk range mode) h))

-- what holds rest on: as many files and ranges, what was seen of logs, and which chunks the pinned ranges show
pub record Rests (s t : Stand) : Type 0 where
  pub files : length t.files.files ≡ length s.files.files
  pub count : range_count t.map ≡ range_count s.map
  pub logs : (file : ℕ) → Begins (log_at s.map file) (log_at t.map file)
  pub pinned : (range : ℕ) → 0 < pins_on s.map range → (pinned_in t.map range).file ≡ (pinned_in s.map range).file
  pub shown : (range : ℕ) → 0 < pins_on s.map range → (pinned_in t.map range).chunk ≡ (pinned_in s.map range).chunk

pub IsHold-rests : (s t : Stand) (g : Granted) → Rests s t → 0 < pins_on s.map g.pinned.range → IsHold s g → IsHold t g
IsHold-rests s t g k had x = record {
  file = subst (λ n. g.file < n) (sym k.files) x.file;
  chunk = x.chunk;
  through = IsThrough-grown (log_at s.map g.file) (log_at t.map g.file) g.chunk g.mode g.pinned.through (k.logs g.file) x.upto x.through;
  upto = let a = begins-longer (log_at s.map g.file) (log_at t.map g.file) (k.logs g.file) in let b = x.upto in omega (arith, a, b);
  entry = places-grown (log_at s.map g.file) (log_at t.map g.file) g.pinned.through.entry g.chunk g.pinned.range (k.logs g.file) x.entry;
  range = subst (λ n. g.pinned.range < n) (sym k.count) x.range;
  pinned = k.pinned g.pinned.range had ∙ x.pinned;
  shown = k.shown g.pinned.range had ∙ x.shown;
  end = x.end;
}

pub Rests-map : (s t : Stand) → length t.files.files ≡ length s.files.files → KeepsMap s.map t.map → Rests s t
Rests-map s t files k = record { files = files; count = k.count; logs = k.logs; pinned = λ range had. (k.pinned range had).same_file; shown = λ range had. (k.pinned range had).same_chunk }

-- the same is in hand, and what holds rest on stays
pub HasHolds-rests : (s t : Stand) (h : Holds) → Rests s t → t.files.hands.leases ≡ s.files.hands.leases → t.map.hands.pins ≡ s.map.hands.pins → HasHolds s h → HasHolds t h
HasHolds-rests s t h k leases pins x = record {
  asked = x.asked;
  slots = x.slots;
  behind = x.behind;
  each = λ n g e. IsHold-rests s t g k (pin-had s h n g x e) (x.each n g e);
  leases = λ file. ap (λ (l : List ℕ). slice_index_or l file 0) leases ∙ x.leases file;
  pins = λ range. ap (λ (l : List ℕ). slice_index_or l range 0) pins ∙ x.pins range;
  all_leases = ap (λ (l : List ℕ). sum l) leases ∙ x.all_leases;
  all_pins = ap (λ (l : List ℕ). sum l) pins ∙ x.all_pins;
}

pub HasHolds-leaves : (s t : Stand) (h : Holds) → LeavesAll s t → HasHolds s h → HasHolds t h
HasHolds-leaves s t h k x = HasHolds-rests s t h (Rests-map s t k.files.count k.map) (ap (λ (f : FileHands). f.leases) k.files.hands) (ap (λ (m : Hands). m.pins) k.hands) x

-- ---- what calls on holds leave

pub LeavesRest-leaves : (s t : Stand) → LeavesAll s t → LeavesRest s t
LeavesRest-leaves s t k = record {
  wire = k.wire;
  files = record {
    guest = k.files.guest;
    plain = k.files.plain;
    over = k.files.over;
    may_lease = k.files.may_lease;
    others = k.files.others;
    turn = ap (λ (f : FileHands). f.turn) k.files.hands;
    bar = ap (λ (f : FileHands). f.bar) k.files.hands;
    count = k.files.count;
    firsts = k.files.firsts;
  };
  map = record {
    plain = k.map.plain;
    over = k.map.over;
    guest = k.map.guest;
    may_take = k.map.may_take;
    others = k.map.others;
    tree = ap (λ (m : Hands). m.tree) k.hands;
    moves = ap (λ (m : Hands). m.moves) k.hands;
    pages = k.map.pages;
    count = k.map.count;
    files = k.map.files;
    logs = k.map.logs;
  };
}

pub LeavesRest-same : (s : Stand) → LeavesRest s s
LeavesRest-same s = record {
  wire = record { honest = refl; over = refl; stays = refl; later = omega arith };
  files = record { guest = refl; plain = refl; over = refl; may_lease = refl; others = refl; turn = refl; bar = refl; count = refl; firsts = λ file. refl };
  map = record { plain = refl; over = refl; guest = refl; may_take = refl; others = refl; tree = refl; moves = refl; pages = refl; count = refl; files = refl; logs = λ file. Begins-same (log_at s.map file) };
}

pub LeavesRest-both : (s t u : Stand) → LeavesRest s t → LeavesRest t u → LeavesRest s u
LeavesRest-both s t u a b = record {
  wire = record { honest = b.wire.honest ∙ a.wire.honest; over = b.wire.over ∙ a.wire.over; stays = b.wire.stays ∙ a.wire.stays; later = let m = a.wire.later in let n = b.wire.later in omega (arith, m, n) };
  files = record {
    guest = b.files.guest ∙ a.files.guest;
    plain = b.files.plain ∙ a.files.plain;
    over = b.files.over ∙ a.files.over;
    may_lease = b.files.may_lease ∙ a.files.may_lease;
    others = b.files.others ∙ a.files.others;
    turn = b.files.turn ∙ a.files.turn;
    bar = b.files.bar ∙ a.files.bar;
    count = b.files.count ∙ a.files.count;
    firsts = λ file. b.files.firsts file ∙ a.files.firsts file;
  };
  map = record {
    plain = b.map.plain ∙ a.map.plain;
    over = b.map.over ∙ a.map.over;
    guest = b.map.guest ∙ a.map.guest;
    may_take = b.map.may_take ∙ a.map.may_take;
    others = b.map.others ∙ a.map.others;
    tree = b.map.tree ∙ a.map.tree;
    moves = b.map.moves ∙ a.map.moves;
    pages = b.map.pages ∙ a.map.pages;
    count = b.map.count ∙ a.map.count;
    files = b.map.files ∙ a.map.files;
    logs = λ file. Begins-both (log_at s.map file) (log_at t.map file) (log_at u.map file) (a.map.logs file) (b.map.logs file);
  };
}

pub SameEntries-same : (v : BoardView) → SameEntries v v
SameEntries-same v = record { history = λ file. refl; own = λ file. refl; notes = λ file k n at. at }

pub SameEntries-both : (u v w : BoardView) → SameEntries u v → SameEntries v w → SameEntries u w
SameEntries-both u v w a b = record { history = λ file. b.history file ∙ a.history file; own = λ file. b.own file ∙ a.own file; notes = λ file k n at. b.notes file k n (a.notes file k n at) }
