-- What an answer of a guest tells: its line, after which no look is noted.
use Rattle.std.proofs.Common.{◌≡◌, ◌⊎◌, ◌∙◌, sym, subst, inl, inr, ℕ, ◌<◌, true, List, [], ◌∷◌, length, Result, Ok, Err, arith}
use Rattle.std.specs.Prelude.{IfOk, IsSome}
use Rattle.std.specs.List.{list_all}
use Rattle.std.proofs.lemmas.Bool.{ne_eqb}
use Rattle.plain_file.specs.declared.refusals.Memory.{Memory}
use Rattle.page_map.specs.Board.{MapView}
use Rattle.range_tree.specs.Ranges.{forgot, IsSoundRanges}
use Rattle.transcript_text.specs.declared.transcripts.Line.{Line}
use Rattle.transcript_text.specs.declared.transcripts.Line.TheVariants as lines
use Rattle.transcript_text.specs.TranscriptReading.{IsPrintableLine, is_letter, is_letters}
use Rattle.dax_script.specs.declared.scripts.Call.{Call}
use Rattle.guest_wire.specs.declared.driver.FileRef.{FileRef}
use Rattle.guest_dax.specs.Stands.{Stand, stand}
use Rattle.guest_dax.specs.Looks.{NoLooks}
use Rattle.guest_dax.proofs.Forgetting.{NoLooks-forgot}
use Rattle.guest_io.specs.declared.calls.Refusal.{Refusal}
use Rattle.guest_io.specs.declared.calls.Refusal.TheVariants as refusals
use Rattle.guest_io.specs.declared.guest.Granted.{Granted}
use Rattle.guest_io.specs.declared.guest.Holds.{Holds}
use Rattle.guest_io.specs.Requests.{IsHome}
use Rattle.guest_io.specs.Holds.{HasHolds, IsHold, LeavesRest}
use Rattle.guest_run.specs.Telling.{letters_of, IsHonestAnswer, LineOf, HasFields}
use Rattle.guest_run.specs.Working.{IsIdle, IsStuck, Comes, Tells}

-- ---- a stand whose looks are forgotten

abbrev pub forgets : Stand → Stand
forgets t = record t { map = forgot t.map }

-- the stand after a line was told
moved : (t u : Stand) (w : MapView) → u.wire ≡ t.wire → u.files ≡ t.files → u.map ≡ w → u ≡ stand t.wire t.files w
moved t u w wire files map = λ i. stand (wire i) (files i) (map i)

line_stand : (t u : Stand) (answer : Result Line Refusal) (told : Result Line Memory) → LineOf t.map answer told u.map → u.wire ≡ t.wire → u.files ≡ t.files → (u ≡ t) ⊎ (u ≡ forgets t)
line_stand t u (Ok l) (Ok m) h wire files = inl (moved t u t.map wire files h.1)
line_stand t u (Ok l) (Err e) h wire files = absurd h
line_stand t u (Err (refusals.Busy looked)) (Ok l) h wire files = inr (moved t u (forgot t.map) wire files h.1)
line_stand t u (Err (refusals.Busy looked)) (Err e) h wire files = inr (moved t u (forgot t.map) wire files h)
line_stand t u (Err (refusals.Leased count)) (Ok l) h wire files = inl (moved t u t.map wire files h.1)
line_stand t u (Err (refusals.Leased count)) (Err e) h wire files = absurd h
line_stand t u (Err (refusals.NoHold hold)) (Ok l) h wire files = inl (moved t u t.map wire files h.1)
line_stand t u (Err (refusals.NoHold hold)) (Err e) h wire files = absurd h
line_stand t u (Err (refusals.Past end)) (Ok l) h wire files = inl (moved t u t.map wire files h.1)
line_stand t u (Err (refusals.Past end)) (Err e) h wire files = absurd h
line_stand t u (Err refusals.Memory) (Ok l) h wire files = absurd h
line_stand t u (Err refusals.Memory) (Err e) h wire files = inl (moved t u t.map wire files h)
line_stand t u (Err (refusals.Errno n)) told h wire files = absurd h
line_stand t u (Err (refusals.BadReply b)) told h wire files = absurd h
line_stand t u (Err refusals.WireFault) told h wire files = absurd h

-- what holds of a stand, and where its looks are forgotten, holds after a line was told
after : (P : Stand → Type 0) (t u : Stand) → P t → P (forgets t) → (u ≡ t) ⊎ (u ≡ forgets t) → P u
after P t u here there (inl e) = subst P (sym e) here
after P t u here there (inr e) = subst P (sym e) there

IsHome-forgets : (t : Stand) (refs : List FileRef) → IsHome t refs → IsHome (forgets t) refs
IsHome-forgets t refs home = record {
  stands = record {
    refs_of = home.stands.refs_of;
    logs = home.stands.logs;
    may_take = home.stands.may_take;
    turn = home.stands.turn;
    serving = λ honest. let v = home.stands.serving honest in record {
      there = v.there;
      pages = v.pages;
      started = v.started;
      ready = v.ready;
      nodes = v.nodes;
      handles = v.handles;
    };
  };
  plain = home.plain;
}

IsHold-forgets : (t : Stand) (g : Granted) → IsHold t g → IsHold (forgets t) g
IsHold-forgets t g x = record { file = x.file; chunk = x.chunk; through = x.through; upto = x.upto; entry = x.entry; range = x.range; pinned = x.pinned; shown = x.shown; end = x.end }

HasHolds-forgets : (t : Stand) (k : Holds) → HasHolds t k → HasHolds (forgets t) k
HasHolds-forgets t k x = record {
  asked = x.asked;
  slots = x.slots;
  behind = x.behind;
  each = λ n g e. IsHold-forgets t g (x.each n g e);
  leases = x.leases;
  pins = x.pins;
  all_leases = x.all_leases;
  all_pins = x.all_pins;
}

LeavesRest-forgets : (s t : Stand) → LeavesRest s t → LeavesRest s (forgets t)
LeavesRest-forgets s t x = record {
  wire = x.wire;
  files = x.files;
  map = record {
    plain = x.map.plain;
    over = x.map.over;
    guest = x.map.guest;
    may_take = x.map.may_take;
    others = x.map.others;
    tree = x.map.tree;
    moves = x.map.moves;
    pages = x.map.pages;
    count = x.map.count;
    files = x.map.files;
    logs = x.map.logs;
  };
}

-- ---- what is left

pub LeavesRest-line : (s t u : Stand) (answer : Result Line Refusal) (told : Result Line Memory) → LeavesRest s t → LineOf t.map answer told u.map → u.wire ≡ t.wire → u.files ≡ t.files → LeavesRest s u
LeavesRest-line s t u answer told k h wire files = after (λ (x : Stand). LeavesRest s x) t u k (LeavesRest-forgets s t k) (line_stand t u answer told h wire files)

pub IsHome-line : (t u : Stand) (refs : List FileRef) (answer : Result Line Refusal) (told : Result Line Memory) → LineOf t.map answer told u.map → u.wire ≡ t.wire → u.files ≡ t.files → IsHome t refs → IsHome u refs
IsHome-line t u refs answer told h wire files home = after (λ (x : Stand). IsHome x refs) t u home (IsHome-forgets t refs home) (line_stand t u answer told h wire files)

pub HasHolds-line : (t u : Stand) (k : Holds) (answer : Result Line Refusal) (told : Result Line Memory) → LineOf t.map answer told u.map → u.wire ≡ t.wire → u.files ≡ t.files → HasHolds t k → HasHolds u k
HasHolds-line t u k answer told h wire files has = after (λ (x : Stand). HasHolds x k) t u has (HasHolds-forgets t k has) (line_stand t u answer told h wire files)

-- no look is noted any more
pub NoLooks-line : (s t u : Stand) (h k : Holds) (n : ℕ) (c : Call) (answer : Result Line Refusal) (told : Result Line Memory) → Comes s h n c answer t k → LineOf t.map answer told u.map → NoLooks u.map
NoLooks-line s t u h k n c (Ok l) (Ok m) x y = subst NoLooks (sym y.1) x.0
NoLooks-line s t u h k n c (Ok l) (Err e) x y = absurd y
NoLooks-line s t u h k n c (Err (refusals.Busy looked)) (Ok l) x y = NoLooks-forgot t.map u.map y.1
NoLooks-line s t u h k n c (Err (refusals.Busy looked)) (Err e) x y = NoLooks-forgot t.map u.map y
NoLooks-line s t u h k n c (Err (refusals.Leased count)) (Ok l) x y = subst NoLooks (sym y.1) x.0
NoLooks-line s t u h k n c (Err (refusals.Leased count)) (Err e) x y = absurd y
NoLooks-line s t u h k n c (Err (refusals.NoHold hold)) (Ok l) x y = subst NoLooks (sym y.1) x.0
NoLooks-line s t u h k n c (Err (refusals.NoHold hold)) (Err e) x y = absurd y
NoLooks-line s t u h k n c (Err (refusals.Past end)) (Ok l) x y = subst NoLooks (sym y.1) x.0
NoLooks-line s t u h k n c (Err (refusals.Past end)) (Err e) x y = absurd y
NoLooks-line s t u h k n c (Err refusals.Memory) (Ok l) x y = absurd y
NoLooks-line s t u h k n c (Err refusals.Memory) (Err e) x y = subst NoLooks (sym y) x
NoLooks-line s t u h k n c (Err (refusals.Errno z)) told x y = absurd y
NoLooks-line s t u h k n c (Err (refusals.BadReply z)) told x y = absurd y
NoLooks-line s t u h k n c (Err refusals.WireFault) told x y = absurd y

pub IsIdle-after : (s u : Stand) (refs : List FileRef) (h k : Holds) → LeavesRest s u → IsHome u refs → HasHolds u k → NoLooks u.map → IsIdle s refs h → IsIdle u refs k
IsIdle-after s u refs h k x home holds looks i = record {
  home = home;
  honest = x.wire.honest ∙ i.honest;
  tree = x.map.tree ∙ i.tree;
  moves = x.map.moves ∙ i.moves;
  looks = looks;
  may_lease = λ some. x.files.may_lease ∙ i.may_lease (subst (λ (n : ℕ). 0 < n) x.map.count some);
  unbarred = x.files.bar ∙ i.unbarred;
  holds = holds;
  sizes = λ shared. subst IsSome (sym x.files.over) (i.sizes (sym x.files.plain ∙ shared));
}

-- ---- what the line tells

-- the answers of calls are those of an honest wire
pub honest_answer : (s t : Stand) (h k : Holds) (n : ℕ) (c : Call) (answer : Result Line Refusal) → Comes s h n c answer t k → IsHonestAnswer answer
unfolding IsHonestAnswer
honest_answer s t h k n c (Ok l) x = tt
honest_answer s t h k n c (Err (refusals.Busy looked)) x = tt
honest_answer s t h k n c (Err (refusals.Leased count)) x = tt
honest_answer s t h k n c (Err (refusals.NoHold hold)) x = tt
honest_answer s t h k n c (Err (refusals.Past end)) x = tt
honest_answer s t h k n c (Err refusals.Memory) x = tt
honest_answer s t h k n c (Err (refusals.Errno z)) x = x
honest_answer s t h k n c (Err (refusals.BadReply z)) x = x
honest_answer s t h k n c (Err refusals.WireFault) x = x

-- the same is told of the same
still_tells : (s t u : Stand) (h k j : Holds) (n : ℕ) (c : Call) (l m : Line) → u ≡ t → j ≡ k → m ≡ l → Tells s h n c l t k → Tells s h n c m u j
still_tells s t u h k j n c l m stands holds line x = subst (λ (z : Line × Stand × Holds). Tells s h n c z.0 z.1 z.2) (λ i. (sym line i, sym stands i, sym holds i)) x

still_stuck : (s t u : Stand) (h k j : Holds) (c : Call) (letters : List ℕ) → u.files ≡ t.files → j ≡ k → IsStuck s h c letters t k → IsStuck s h c letters u j
still_stuck s t u h k j c letters files holds x = record { takes = x.takes; some = x.some; each = x.each; others = rw files x.others; holds = holds ∙ x.holds; full = x.full }

pub Tells-line : (s t u : Stand) (h k j : Holds) (n : ℕ) (c : Call) (answer : Result Line Refusal) (told : Result Line Memory) → IsSoundRanges t.map → Comes s h n c answer t k → LineOf t.map answer told u.map → u.wire ≡ t.wire → u.files ≡ t.files → j ≡ k → IfOk told (λ l. Tells s h n c l u j)
unfolding Tells
Tells-line s t u h k j n c (Ok l) (Ok m) sound x y wire files holds = still_tells s t u h k j n c l m (moved t u t.map wire files y.1) holds y.0 x.1
Tells-line s t u h k j n c (Ok l) (Err e) sound x y wire files holds = tt
Tells-line s t u h k j n c (Err (refusals.Busy looked)) (Ok l) sound x y wire files holds = subst (λ (z : Line). Tells s h n c z u j) (sym y.0) (still_stuck s t u h k j c (letters_of looked) files holds (x.1 sound))
Tells-line s t u h k j n c (Err (refusals.Busy looked)) (Err e) sound x y wire files holds = tt
Tells-line s t u h k j n c (Err (refusals.Leased count)) (Ok l) sound x y wire files holds = still_tells s t u h k j n c (lines.Leased count) l (moved t u t.map wire files y.1) holds y.0 x.1
Tells-line s t u h k j n c (Err (refusals.Leased count)) (Err e) sound x y wire files holds = tt
Tells-line s t u h k j n c (Err (refusals.NoHold hold)) (Ok l) sound x y wire files holds = still_tells s t u h k j n c lines.NoHold l (moved t u t.map wire files y.1) holds y.0 x.1
Tells-line s t u h k j n c (Err (refusals.NoHold hold)) (Err e) sound x y wire files holds = tt
Tells-line s t u h k j n c (Err (refusals.Past end)) (Ok l) sound x y wire files holds = still_tells s t u h k j n c (lines.Past end) l (moved t u t.map wire files y.1) holds y.0 x.1
Tells-line s t u h k j n c (Err (refusals.Past end)) (Err e) sound x y wire files holds = tt
Tells-line s t u h k j n c (Err refusals.Memory) (Ok l) sound x y wire files holds = absurd y
Tells-line s t u h k j n c (Err refusals.Memory) (Err e) sound x y wire files holds = tt
Tells-line s t u h k j n c (Err (refusals.Errno z)) told sound x y wire files holds = absurd x
Tells-line s t u h k j n c (Err (refusals.BadReply z)) told sound x y wire files holds = absurd x
Tells-line s t u h k j n c (Err refusals.WireFault) told sound x y wire files holds = absurd x

-- what is told can be printed
some_letters : (letters : List ℕ) → 0 < length letters → list_all is_letter letters ≡ true → is_letters letters ≡ true
some_letters [] some all = absurd (omega (arith, some))
some_letters (x ∷ xs) some all = rw (ne_eqb (length (x ∷ xs)) 0 (λ none. absurd (omega (arith, none)))) all

printable_line : (s u : Stand) (h j : Holds) (n : ℕ) (c : Call) (l : Line) → Tells s h n c l u j → HasFields l → IsPrintableLine l
unfolding Tells HasFields IsPrintableLine
printable_line s u h j n c (lines.Done place answer) x fields = fields
printable_line s u h j n c (lines.Held end through) x fields = fields
printable_line s u h j n c lines.Released x fields = fields
printable_line s u h j n c (lines.Busy letters) x fields = some_letters letters (let e = x.each in let some = x.some in omega (arith, e, some)) fields
printable_line s u h j n c (lines.Leased count) x fields = fields
printable_line s u h j n c lines.NoHold x fields = fields
printable_line s u h j n c (lines.Past end) x fields = fields

pub printable_told : (s u : Stand) (h j : Holds) (n : ℕ) (c : Call) (told : Result Line Memory) → IfOk told (λ l. Tells s h n c l u j) → IfOk told HasFields → IfOk told IsPrintableLine
printable_told s u h j n c (Ok l) x fields = printable_line s u h j n c l x fields
printable_told s u h j n c (Err e) x fields = tt
