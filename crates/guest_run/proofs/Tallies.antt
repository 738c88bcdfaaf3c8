-- What a guest's calls count: blocked rounds of all ranges, and refused bars.
use Rattle.std.proofs.Common.{◌≡◌, ⊎_elim, ◌∙◌, ap, sym, refl, subst, ℕ, suc, ◌+◌, ◌<◌, ◌≤◌, ◌==◌, ◌&&◌, Bool, true, false, List, [], ◌∷◌, ◌++◌, length, get_or, slice_get, nat_lt, Option, Some, None, Result, Ok, Err, arith, if◌then◌else◌, lt-ltb, eq-eqb, ne_eqb}
use Rattle.std.specs.Prelude.{IfOk}
use Rattle.std.specs.List.{list_all}
use Rattle.std.proofs.lemmas.Bool.{and_from, and_right}
use mathlib.Core.Logic.{dite}
use native.Mathlib.Decide.{ℕ_discrete}
use Rattle.plain_file.specs.declared.operations.Op.{Op}
use Rattle.plain_file.specs.declared.operations.Way.{Way}
use Rattle.plain_file.specs.declared.refusals.Memory.{Memory}
use Rattle.plain_file.specs.Counts.{more_by_one}
use Rattle.plain_file.specs.Board.{FileView, BoardView, file_at}
use Rattle.plain_file.specs.Turns.{refused_bar}
use Rattle.plain_file.proofs.OneFile.{file_at-with_file, file_at-with_other}
use Rattle.page_map.specs.declared.pages.Mode.{Mode}
use Rattle.page_map.specs.declared.ranges.RangeWord.{RangeWord}
use Rattle.page_map.specs.declared.ranges.RangeWord.TheVariants as words
use Rattle.page_map.specs.declared.ranges.Look.{Look}
use Rattle.page_map.specs.Board.{MapView, Noted}
use Rattle.range_tree.specs.Ranges.{range_count, look_at, is_blocked, is_noted_blocked, has_swept, forgot, IsSoundRanges}
use Rattle.dax_script.specs.declared.scripts.Call.{Call}
use Rattle.dax_script.specs.declared.scripts.Call.TheVariants as calls
use Rattle.transcript_text.specs.declared.transcripts.Line.{Line}
use Rattle.transcript_text.specs.declared.transcripts.Line.TheVariants as lines
use Rattle.transcript_text.specs.declared.transcripts.Numbered.{Numbered}
use Rattle.guest_wire.specs.declared.driver.FileRef.{FileRef}
use Rattle.guest_dax.specs.Stands.{Stand}
use Rattle.guest_dax.specs.Looks.{Blocks, IsBlocked, AllBlocked}
use Rattle.guest_io.specs.declared.calls.Done.{Done}
use Rattle.guest_io.specs.declared.calls.Held.{Held}
use Rattle.guest_io.specs.declared.calls.Refusal.{Refusal}
use Rattle.guest_io.specs.declared.calls.Refusal.TheVariants as refusals
use Rattle.guest_io.specs.declared.guest.Holds.{Holds}
use Rattle.guest_io.specs.Calls.{first_chunk, last_chunk}
use Rattle.guest_io.specs.Requests.{IsHome, Sends}
use Rattle.guest_io.specs.Going.{one_more_pin, IsBusy, IsRefused, Reads, Writes, KeepsRounds, KeepsRefusals}
use Rattle.guest_io.specs.Truncates.{IsBarred, Truncates, CountsRefusal}
use Rattle.guest_io.specs.Holds.{loads, stores, AsksHold, AccessesHold, ReleasesHold}
use Rattle.guest_run.specs.Telling.{letters_of, LineOf}
use Rattle.guest_run.specs.Working.{CanMake, IsToldOf, max_calls, is_busy_line, busy_lines, is_leased_line, truncates, leased_lines, HasCounted, ShowsBlocked, KeepsCounts, CountsBar, Counts, HasCountedOne}
use Rattle.guest_run.proofs.Places.{none_is, some_is, within}
use Rattle.guest_run.proofs.Letters.{count_pinned}

-- ---- looks that show all ranges blocked

blocks_blocked : (v : MapView) (own : ℕ) (word : RangeWord) → Blocks v own word → is_blocked word ≡ true
unfolding is_blocked
blocks_blocked v own words.Free b = absurd b
blocks_blocked v own (words.Moving guest) b = refl
blocks_blocked v own (words.Mapped file chunk mode pins) b = lt-ltb 0 pins b.0

-- a blocked range's noted look shows it
blocked_noted : (v now : MapView) (range : ℕ) → IsBlocked v now range → is_noted_blocked (look_at now range) ≡ true
unfolding is_noted_blocked
blocked_noted v now range b = ap is_noted_blocked b.at ∙ blocks_blocked v b.noted.own b.noted.word b.blocks

busy_shows : (old : MapView) (file off len : ℕ) (looked : List Look) (new : MapView) → range_count new ≡ range_count old → IsBusy old file off len looked new → ShowsBlocked new
busy_shows old file off len looked new count (some, is, how) = (
  subst (λ (n : ℕ). 0 < n) (sym count) some,
  λ r within. let inside = subst (λ (n : ℕ). r < n) count within in ⊎_elim
      (λ (h : AllBlocked old new × _). blocked_noted old new r (h.0 r inside))
      (λ (h : (last_chunk off len ≡ first_chunk off + 1) × ((range : ℕ) × AllBlocked (one_more_pin old range) new) × _). blocked_noted (one_more_pin old h.1.0) new r (h.1.1 r (subst (λ (n : ℕ). r < n) (sym (count_pinned old h.1.0)) inside)))
      how,
)

-- ---- a round is counted where such looks are forgotten

all_shown : (looks : List (Option Noted)) → ((r : ℕ) → r < length looks → is_noted_blocked (get_or looks r None) ≡ true) → list_all is_noted_blocked looks ≡ true
all_shown [] each = refl
all_shown (x ∷ looks) each = rw (each 0 (omega arith)) (all_shown looks (λ r k. each (suc r) (omega arith)))

round_counted : (v : MapView) → IsSoundRanges v → ShowsBlocked v → (forgot v).ranges.rounds ≡ more_by_one v.ranges.rounds
round_counted v sound (some, each) =
    let all : list_all is_noted_blocked v.ranges.looks ≡ true = all_shown v.ranges.looks (λ r k. each r (subst (λ (n : ℕ). r < n) sound.looks k)) in
    let has : has_swept is_noted_blocked v ≡ true = and_from (nat_lt 0 (range_count v)) (list_all is_noted_blocked v.ranges.looks) (lt-ltb 0 (range_count v) some) all in
    ap (λ (b : Bool). if b then more_by_one v.ranges.rounds else v.ranges.rounds) has

-- ---- what the line of an answer counts

-- a count that the test lets rise, and one that it doesn't
risen : (b : Bool) (n : ℕ) → b ≡ true → more_by_one n ≡ (if b then more_by_one n else n)
risen b n e = sym (ap (λ (x : Bool). if x then more_by_one n else n) e)

stayed : (b : Bool) (n : ℕ) → b ≡ false → n ≡ (if b then more_by_one n else n)
stayed b n e = sym (ap (λ (x : Bool). if x then more_by_one n else n) e)

kept_files : (s t u : Stand) → u.files ≡ t.files → KeepsRefusals s.files t.files → KeepsRefusals s.files u.files
kept_files s t u files kept f = ap (λ (v : BoardView). (file_at v f).refusals) files ∙ kept f

refusals_kept : (s u : Stand) (c : Call) (l : Line) → is_leased_line l ≡ false → KeepsRefusals s.files u.files → (f : ℕ) → (file_at u.files f).refusals ≡ (if truncates f c && is_leased_line l then more_by_one (file_at s.files f).refusals else (file_at s.files f).refusals)
refusals_kept s u c l leased kept f = kept f ∙ stayed (truncates f c && is_leased_line l) (file_at s.files f).refusals (and_right (truncates f c) (is_leased_line l) leased)

-- nothing is counted of a line that is neither
one_kept : (s t u : Stand) (c : Call) (l : Line) → is_busy_line l ≡ false → is_leased_line l ≡ false → u.map ≡ t.map → u.files ≡ t.files → KeepsCounts s t → HasCountedOne s u c l
one_kept s t u c l busy leased map files (rounds, kept) = record {
  rounds = ap (λ (v : MapView). v.ranges.rounds) map ∙ rounds ∙ stayed (is_busy_line l) s.map.ranges.rounds busy;
  refusals = refusals_kept s u c l leased (kept_files s t u files kept);
}

one_round : (s t u : Stand) (c : Call) (letters : List ℕ) (l : Line) → IsSoundRanges t.map → ShowsBlocked t.map → l ≡ lines.Busy letters → u.map ≡ forgot t.map → u.files ≡ t.files → KeepsCounts s t → HasCountedOne s u c l
unfolding is_busy_line is_leased_line
one_round s t u c letters l sound shows is map files (rounds, kept) = record {
  rounds = ap (λ (v : MapView). v.ranges.rounds) map ∙ round_counted t.map sound shows ∙ ap more_by_one rounds ∙ risen (is_busy_line l) s.map.ranges.rounds (ap is_busy_line is);
  refusals = refusals_kept s u c l (ap is_leased_line is) (kept_files s t u files kept);
}

and_leased : (a b : Bool) → b ≡ true → (a && b) ≡ a
and_leased true b e = e
and_leased false b e = refl

one_bar : (s t u : Stand) (c : Call) (count : ℕ) (l : Line) → l ≡ lines.Leased count → u.map ≡ t.map → u.files ≡ t.files → t.map.ranges.rounds ≡ s.map.ranges.rounds → CountsBar s c t → HasCountedOne s u c l
unfolding is_busy_line is_leased_line
one_bar s t u c count l is map files rounds bar = record {
  rounds = ap (λ (v : MapView). v.ranges.rounds) map ∙ rounds ∙ stayed (is_busy_line l) s.map.ranges.rounds (ap is_busy_line is);
  refusals = λ f. ap (λ (v : BoardView). (file_at v f).refusals) files ∙ bar f ∙ sym (ap (λ (b : Bool). if b then more_by_one (file_at s.files f).refusals else (file_at s.files f).refusals) (and_leased (truncates f c) (is_leased_line l) (ap is_leased_line is)));
}

pub line_counts : (s t u : Stand) (c : Call) (answer : Result Line Refusal) (told : Result Line Memory) → IsSoundRanges t.map → Counts s c answer t → LineOf t.map answer told u.map → u.files ≡ t.files → IfOk told (λ l. HasCountedOne s u c l)
unfolding is_busy_line is_leased_line
line_counts s t u c (Ok l) (Ok m) sound x y files = one_kept s t u c m (ap is_busy_line y.0 ∙ x.0) (ap is_leased_line y.0 ∙ x.1) y.1 files x.2
line_counts s t u c (Ok l) (Err e) sound x y files = tt
line_counts s t u c (Err (refusals.Busy looked)) (Ok l) sound x y files = one_round s t u c (letters_of looked) l sound x.0 y.0 y.1 files x.1
line_counts s t u c (Err (refusals.Busy looked)) (Err e) sound x y files = tt
line_counts s t u c (Err (refusals.Leased count)) (Ok l) sound x y files = one_bar s t u c count l y.0 y.1 files x.0 x.1
line_counts s t u c (Err (refusals.Leased count)) (Err e) sound x y files = tt
line_counts s t u c (Err (refusals.NoHold hold)) (Ok l) sound x y files = one_kept s t u c l (ap is_busy_line y.0) (ap is_leased_line y.0) y.1 files x
line_counts s t u c (Err (refusals.NoHold hold)) (Err e) sound x y files = tt
line_counts s t u c (Err (refusals.Past end)) (Ok l) sound x y files = one_kept s t u c l (ap is_busy_line y.0) (ap is_leased_line y.0) y.1 files x
line_counts s t u c (Err (refusals.Past end)) (Err e) sound x y files = tt
line_counts s t u c (Err refusals.Memory) (Ok l) sound x y files = absurd y
line_counts s t u c (Err refusals.Memory) (Err e) sound x y files = tt
line_counts s t u c (Err (refusals.Errno n)) (Ok l) sound x y files = absurd y
line_counts s t u c (Err (refusals.Errno n)) (Err e) sound x y files = tt
line_counts s t u c (Err (refusals.BadReply b)) (Ok l) sound x y files = absurd y
line_counts s t u c (Err (refusals.BadReply b)) (Err e) sound x y files = tt
line_counts s t u c (Err refusals.WireFault) (Ok l) sound x y files = absurd y
line_counts s t u c (Err refusals.WireFault) (Err e) sound x y files = tt

-- ---- one line more

at_most_one : (b : Bool) → (if b then 1 else 0) ≤ 1
at_most_one true = omega arith
at_most_one false = omega arith

busy_more : (ls : List Numbered) (l : Numbered) → busy_lines (ls ++ l ∷ []) ≡ busy_lines ls + (if is_busy_line l.line then 1 else 0)
unfolding busy_lines
busy_more [] l = omega arith
busy_more (x ∷ ls) l = let k = busy_more ls l in omega (arith, k)

busy_most : (ls : List Numbered) → busy_lines ls ≤ length ls
unfolding busy_lines
busy_most [] = omega arith
busy_most (x ∷ ls) = let k = busy_most ls in let one = at_most_one (is_busy_line x.line) in omega (arith, k, one)

leased_none : (cs : List Call) (f : ℕ) → leased_lines cs [] f ≡ 0
unfolding leased_lines
leased_none [] f = refl
leased_none (c ∷ cs) f = refl

leased_more : (cs : List Call) (ls : List Numbered) (c : Call) (l : Numbered) (f : ℕ) → slice_get cs (length ls) ≡ Some c → leased_lines cs (ls ++ l ∷ []) f ≡ leased_lines cs ls f + (if truncates f c && is_leased_line l.line then 1 else 0)
unfolding leased_lines
leased_more [] ls c l f e = absurd (none_is c e)
leased_more (x ∷ cs) [] c l f e =
    let none = leased_none cs f in
    let same : ◌≡◌ {A = ℕ} (if truncates f x && is_leased_line l.line then 1 else 0) (if truncates f c && is_leased_line l.line then 1 else 0) = ap (λ (y : Call). if truncates f y && is_leased_line l.line then 1 else 0) (some_is x c e) in
    omega (arith, none, same)
leased_more (x ∷ cs) (y ∷ ls) c l f e = let k = leased_more cs ls c l f e in omega (arith, k)

leased_most : (cs : List Call) (ls : List Numbered) (f : ℕ) → leased_lines cs ls f ≤ length ls
unfolding leased_lines
leased_most [] ls f = omega arith
leased_most (c ∷ cs) [] f = omega arith
leased_most (c ∷ cs) (l ∷ ls) f = let k = leased_most cs ls f in let one = at_most_one (truncates f c && is_leased_line l.line) in omega (arith, k, one)

-- a count of so few lines isn't at its last value
exact : (b : Bool) (n k : ℕ) → n ≡ k → k ≤ max_calls → (if b then more_by_one n else n) ≡ k + (if b then 1 else 0)
exact true n k e few = omega (arith, e, few)
exact false n k e few = omega (arith, e)

pub counted_none : (u : Stand) (cs : List Call) → HasCounted u u cs []
unfolding busy_lines
counted_none u cs = record { rounds = λ none. none; refusals = λ f none. none ∙ sym (leased_none cs f) }

pub step_counted : (u s t : Stand) (cs : List Call) (ls : List Numbered) (n : ℕ) (c : Call) (l : Line) → length cs ≤ max_calls → n ≡ length ls → slice_get cs n ≡ Some c → HasCountedOne s t c l → HasCounted u s cs ls → HasCounted u t cs (ls ++ record { call = n; line = l } ∷ [])
step_counted u s t cs ls n c l few number at one so_far =
    let made : slice_get cs (length ls) ≡ Some c = ap (λ (m : ℕ). slice_get cs m) (sym number) ∙ at in
    let inside : length ls < length cs = within cs (length ls) c made in
    let line : Numbered = record { call = n; line = l } in
    record {
      rounds = λ none.
          let most = busy_most ls in
          one.rounds ∙ exact (is_busy_line l) s.map.ranges.rounds (busy_lines ls) (so_far.rounds none) (omega (arith, most, inside, few)) ∙ sym (busy_more ls line);
      refusals = λ f none.
          let most = leased_most cs ls f in
          one.refusals f ∙ exact (truncates f c && is_leased_line l) (file_at s.files f).refusals (leased_lines cs ls f) (so_far.refusals f none) (omega (arith, most, inside, few)) ∙ sym (leased_more cs ls c line f made);
    }

-- ---- what the answers of calls count

-- an answer that no range could be taken shows each of them blocked, and none says that a file is leased
abbrev Shows : {T : Type 0} → Result T Refusal → MapView → Type 0
Shows (Ok d) v = Unit {0}
Shows (Err (refusals.Busy looked)) v = ShowsBlocked v
Shows (Err (refusals.Leased count)) v = ⊥
Shows (Err e) v = Unit {0}

shows_refused : (T : Type 0) (s t : Stand) (file call : ℕ) (op : Op) (off len : ℕ) (e : Refusal) → range_count t.map ≡ range_count s.map → IsRefused s file call op off len e t → Shows {T = T} (Err e) t.map
shows_refused T s t file call op off len (refusals.Busy looked) count r = busy_shows s.map file off len looked t.map count r.0
shows_refused T s t file call op off len (refusals.Leased n) count r = absurd r
shows_refused T s t file call op off len (refusals.NoHold hold) count r = tt
shows_refused T s t file call op off len (refusals.Past end) count r = tt
shows_refused T s t file call op off len refusals.Memory count r = tt
shows_refused T s t file call op off len (refusals.Errno x) count r = tt
shows_refused T s t file call op off len (refusals.BadReply x) count r = tt
shows_refused T s t file call op off len refusals.WireFault count r = tt

shows_read : (s t : Stand) (file call off len : ℕ) (answer : Result Done Refusal) → range_count t.map ≡ range_count s.map → Reads s file call off len answer t → Shows answer t.map
shows_read s t file call off len (Ok d) count r = tt
shows_read s t file call off len (Err e) count r = shows_refused Done s t file call _ off len e count r

shows_written : (s t : Stand) (file call off : ℕ) (bytes : List ℕ) (answer : Result Done Refusal) → range_count t.map ≡ range_count s.map → Writes s file call off bytes answer t → Shows answer t.map
shows_written s t file call off bytes (Ok d) count r = tt
shows_written s t file call off bytes (Err e) count r = shows_refused Done s t file call _ off (length bytes) e count r

shows_sent : (s t : Stand) (file call : ℕ) (op : Op) (way : Way) (answer : Result Done Refusal) → Sends s file call op way answer t → Shows answer t.map
shows_sent s t file call op way (Ok d) r = tt
shows_sent s t file call op way (Err (refusals.Busy looked)) r = absurd r
shows_sent s t file call op way (Err (refusals.Leased n)) r = absurd r
shows_sent s t file call op way (Err (refusals.NoHold hold)) r = tt
shows_sent s t file call op way (Err (refusals.Past end)) r = tt
shows_sent s t file call op way (Err refusals.Memory) r = tt
shows_sent s t file call op way (Err (refusals.Errno x)) r = tt
shows_sent s t file call op way (Err (refusals.BadReply x)) r = tt
shows_sent s t file call op way (Err refusals.WireFault) r = tt

shows_accessed : (s t : Stand) (h : Holds) (call hold off len : ℕ) (op : ℕ → Op) (answer : Result Done Refusal) → AccessesHold s h call hold off len op answer t → Shows answer t.map
shows_accessed s t h call hold off len op (Ok d) r = tt
shows_accessed s t h call hold off len op (Err (refusals.Busy looked)) r = absurd r
shows_accessed s t h call hold off len op (Err (refusals.Leased n)) r = absurd r
shows_accessed s t h call hold off len op (Err (refusals.NoHold number)) r = tt
shows_accessed s t h call hold off len op (Err (refusals.Past end)) r = tt
shows_accessed s t h call hold off len op (Err refusals.Memory) r = tt
shows_accessed s t h call hold off len op (Err (refusals.Errno x)) r = tt
shows_accessed s t h call hold off len op (Err (refusals.BadReply x)) r = tt
shows_accessed s t h call hold off len op (Err refusals.WireFault) r = tt

shows_unheld : (s t : Stand) (h k : Holds) (file chunk : ℕ) (mode : Mode) (e : Refusal) → range_count t.map ≡ range_count s.map → AsksHold s h file chunk mode (Err e) t k → Shows {T = Held} (Err e) t.map
shows_unheld s t h k file chunk mode (refusals.Busy looked) count r = busy_shows s.map file _ _ looked t.map count r.1
shows_unheld s t h k file chunk mode (refusals.Leased n) count r = absurd r
shows_unheld s t h k file chunk mode (refusals.NoHold hold) count r = tt
shows_unheld s t h k file chunk mode (refusals.Past end) count r = tt
shows_unheld s t h k file chunk mode refusals.Memory count r = tt
shows_unheld s t h k file chunk mode (refusals.Errno x) count r = tt
shows_unheld s t h k file chunk mode (refusals.BadReply x) count r = tt
shows_unheld s t h k file chunk mode refusals.WireFault count r = tt

shows_unreleased : (s t : Stand) (h k : Holds) (hold : ℕ) (e : Refusal) → ReleasesHold s h hold (Err e) t k → Shows {T = Unit {0}} (Err e) t.map
shows_unreleased s t h k hold (refusals.Busy looked) r = absurd r
shows_unreleased s t h k hold (refusals.Leased n) r = absurd r
shows_unreleased s t h k hold (refusals.NoHold number) r = tt
shows_unreleased s t h k hold (refusals.Past end) r = tt
shows_unreleased s t h k hold refusals.Memory r = tt
shows_unreleased s t h k hold (refusals.Errno x) r = tt
shows_unreleased s t h k hold (refusals.BadReply x) r = tt
shows_unreleased s t h k hold refusals.WireFault r = tt

-- ---- with the answer as a line

refused_counts : (T : Type 0) (s t : Stand) (c : Call) (e : Refusal) → KeepsRounds {T = T} s.map (Err e) t.map → KeepsRefusals s.files t.files → Shows {T = T} (Err e) t.map → Counts s c (Err e) t
refused_counts T s t c (refusals.Busy looked) rounds kept shows = (shows, (rounds, kept))
refused_counts T s t c (refusals.Leased n) rounds kept shows = absurd shows
refused_counts T s t c (refusals.NoHold hold) rounds kept shows = (rounds, kept)
refused_counts T s t c (refusals.Past end) rounds kept shows = (rounds, kept)
refused_counts T s t c refusals.Memory rounds kept shows = tt
refused_counts T s t c (refusals.Errno x) rounds kept shows = tt
refused_counts T s t c (refusals.BadReply x) rounds kept shows = tt
refused_counts T s t c refusals.WireFault rounds kept shows = tt

done_counts : (s t : Stand) (c : Call) (d : Done) (l : Line) → l ≡ lines.Done d.place d.answer → KeepsCounts s t → Counts s c (Ok l) t
unfolding is_busy_line is_leased_line
done_counts s t c d l is kept = (ap is_busy_line is, ap is_leased_line is, kept)

told_counts : (s t : Stand) (c : Call) (answer : Result Done Refusal) (told : Result Line Refusal) → KeepsRounds s.map answer t.map → KeepsRefusals s.files t.files → Shows answer t.map → IsToldOf answer told → Counts s c told t
told_counts s t c (Ok d) (Ok l) rounds kept shows is = done_counts s t c d l is (rounds, kept)
told_counts s t c (Ok d) (Err e) rounds kept shows is = absurd is
told_counts s t c (Err e) (Ok l) rounds kept shows is = absurd is
told_counts s t c (Err e) (Err f) rounds kept shows is = subst (λ (x : Refusal). Counts s c (Err x) t) (sym is) (refused_counts Done s t c e rounds kept shows)

pub read_counts : (s t : Stand) (c : Call) (file call off len : ℕ) (answer : Result Done Refusal) (told : Result Line Refusal) → range_count t.map ≡ range_count s.map → Reads s file call off len answer t → KeepsRounds s.map answer t.map → KeepsRefusals s.files t.files → IsToldOf answer told → Counts s c told t
read_counts s t c file call off len answer told count r rounds kept is = told_counts s t c answer told rounds kept (shows_read s t file call off len answer count r) is

pub written_counts : (s t : Stand) (c : Call) (file call off : ℕ) (bytes : List ℕ) (answer : Result Done Refusal) (told : Result Line Refusal) → range_count t.map ≡ range_count s.map → Writes s file call off bytes answer t → KeepsRounds s.map answer t.map → KeepsRefusals s.files t.files → IsToldOf answer told → Counts s c told t
written_counts s t c file call off bytes answer told count r rounds kept is = told_counts s t c answer told rounds kept (shows_written s t file call off bytes answer count r) is

pub sent_counts : (s t : Stand) (c : Call) (file call : ℕ) (op : Op) (way : Way) (answer : Result Done Refusal) (told : Result Line Refusal) → Sends s file call op way answer t → KeepsRounds s.map answer t.map → KeepsRefusals s.files t.files → IsToldOf answer told → Counts s c told t
sent_counts s t c file call op way answer told r rounds kept is = told_counts s t c answer told rounds kept (shows_sent s t file call op way answer r) is

rounds_same : (s t : MapView) (answer : Result Done Refusal) → t.ranges.rounds ≡ s.ranges.rounds → KeepsRounds s answer t
rounds_same s t (Ok d) e = e
rounds_same s t (Err (refusals.Busy looked)) e = e
rounds_same s t (Err (refusals.Leased n)) e = e
rounds_same s t (Err (refusals.NoHold hold)) e = e
rounds_same s t (Err (refusals.Past end)) e = e
rounds_same s t (Err refusals.Memory) e = tt
rounds_same s t (Err (refusals.Errno x)) e = e
rounds_same s t (Err (refusals.BadReply x)) e = e
rounds_same s t (Err refusals.WireFault) e = e

accessed_counts : (s t : Stand) (h : Holds) (c : Call) (call hold off len : ℕ) (op : ℕ → Op) (answer : Result Done Refusal) (told : Result Line Refusal) → AccessesHold s h call hold off len op answer t → t.map.ranges.rounds ≡ s.map.ranges.rounds → KeepsRefusals s.files t.files → IsToldOf answer told → Counts s c told t
accessed_counts s t h c call hold off len op answer told r rounds kept is = told_counts s t c answer told (rounds_same s.map t.map answer rounds) kept (shows_accessed s t h call hold off len op answer r) is

pub loaded_counts : (s t : Stand) (h : Holds) (n hold off len : ℕ) (answer : Result Done Refusal) (told : Result Line Refusal) → AccessesHold s h n hold off len (loads len) answer t → t.map.ranges.rounds ≡ s.map.ranges.rounds → KeepsRefusals s.files t.files → IsToldOf answer told → Counts s (calls.Load hold off len) told t
loaded_counts s t h n hold off len answer told r rounds kept is = accessed_counts s t h (calls.Load hold off len) n hold off len (loads len) answer told r rounds kept is

pub stored_counts : (s t : Stand) (h : Holds) (n hold off : ℕ) (bytes xs : List ℕ) (answer : Result Done Refusal) (told : Result Line Refusal) → xs ≡ bytes → AccessesHold s h n hold off (length xs) (stores xs) answer t → t.map.ranges.rounds ≡ s.map.ranges.rounds → KeepsRefusals s.files t.files → IsToldOf answer told → Counts s (calls.Store hold off bytes) told t
stored_counts s t h n hold off bytes xs answer told same r rounds kept is = accessed_counts s t h (calls.Store hold off bytes) n hold off (length xs) (stores xs) answer told r rounds kept is

pub held_counts : (s t : Stand) (c : Call) (held : Held) (l : Line) → l ≡ lines.Held held.end held.through → KeepsRounds s.map (Ok held) t.map → KeepsRefusals s.files t.files → Counts s c (Ok l) t
unfolding is_busy_line is_leased_line
held_counts s t c held l is rounds kept = (ap is_busy_line is, ap is_leased_line is, (rounds, kept))

pub unheld_counts : (s t : Stand) (h k : Holds) (c : Call) (file chunk : ℕ) (mode : Mode) (e : Refusal) → c ≡ calls.Hold file chunk mode → range_count t.map ≡ range_count s.map → AsksHold s h file chunk mode (Err e) t k → KeepsRounds {T = Held} s.map (Err e) t.map → KeepsRefusals s.files t.files → Counts s c (Err e) t
unheld_counts s t h k c file chunk mode e is count r rounds kept = refused_counts Held s t c e rounds kept (shows_unheld s t h k file chunk mode e count r)

pub released_counts : (s t : Stand) (c : Call) → t.map.ranges.rounds ≡ s.map.ranges.rounds → KeepsRefusals s.files t.files → Counts s c (Ok lines.Released) t
unfolding is_busy_line is_leased_line
released_counts s t c rounds kept = (refl, refl, (rounds, kept))

released_same : (s t : MapView) (e : Refusal) → t.ranges.rounds ≡ s.ranges.rounds → KeepsRounds {T = Unit {0}} s (Err e) t
released_same s t (refusals.Busy looked) r = r
released_same s t (refusals.Leased n) r = r
released_same s t (refusals.NoHold hold) r = r
released_same s t (refusals.Past end) r = r
released_same s t refusals.Memory r = tt
released_same s t (refusals.Errno x) r = r
released_same s t (refusals.BadReply x) r = r
released_same s t refusals.WireFault r = r

pub unreleased_counts : (s t : Stand) (h k : Holds) (c : Call) (hold : ℕ) (e : Refusal) → ReleasesHold s h hold (Err e) t k → t.map.ranges.rounds ≡ s.map.ranges.rounds → KeepsRefusals s.files t.files → Counts s c (Err e) t
unreleased_counts s t h k c hold e r rounds kept = refused_counts (Unit {0}) s t c e (released_same s.map t.map e rounds) kept (shows_unreleased s t h k hold e r)

-- a refused bar is the file's alone
bar_counted : (v : BoardView) (file count size : ℕ) → file < length v.files → (f : ℕ) → (file_at (refused_bar v file count) f).refusals ≡ (if truncates f (calls.Truncate file size) then more_by_one (file_at v f).refusals else (file_at v f).refusals)
unfolding truncates
bar_counted v file count size inside f = dite (ℕ_discrete f file)
    (λ e. subst (λ (n : ℕ). (file_at (refused_bar v file count) n).refusals ≡ (if file == n then more_by_one (file_at v n).refusals else (file_at v n).refusals)) (sym e)
    (ap (λ (x : FileView). x.refusals) (file_at-with_file v file _ inside) ∙ risen (file == file) (file_at v file).refusals (eq-eqb file file refl)))
    (λ apart. ap (λ (x : FileView). x.refusals) (file_at-with_other v file f _ apart) ∙ stayed (file == f) (file_at v f).refusals (ne_eqb file f (λ e. apart (sym e))))

barred_counts : (s t : Stand) (file size count : ℕ) → file < length s.files.files → IsBarred s file count t → (t.map.ranges.rounds ≡ s.map.ranges.rounds) × CountsBar s (calls.Truncate file size) t
barred_counts s t file size count inside b = (
  ap (λ (x : Stand). x.map.ranges.rounds) b.changed,
  λ f. ap (λ (x : Stand). (file_at x.files f).refusals) b.changed ∙ bar_counted s.files file count size inside f,
)

truncate_counts : (s t : Stand) (file call size : ℕ) (answer : Result Done Refusal) (told : Result Line Refusal) → file < length s.files.files → Truncates s file call size answer t → KeepsRounds s.map answer t.map → CountsRefusal s.files answer t.files → IsToldOf answer told → Counts s (calls.Truncate file size) told t
truncate_counts s t file call size (Ok d) (Ok l) inside r rounds kept is = done_counts s t (calls.Truncate file size) d l is (rounds, kept)
truncate_counts s t file call size (Ok d) (Err e) inside r rounds kept is = absurd is
truncate_counts s t file call size (Err e) (Ok l) inside r rounds kept is = absurd is
truncate_counts s t file call size (Err (refusals.Leased count)) (Err f) inside r rounds kept is = subst (λ (x : Refusal). Counts s (calls.Truncate file size) (Err x) t) (sym is) (barred_counts s t file size count inside r)
truncate_counts s t file call size (Err (refusals.Busy looked)) told inside r rounds kept is = absurd r.1
truncate_counts s t file call size (Err (refusals.NoHold hold)) (Err f) inside r rounds kept is = subst (λ (x : Refusal). Counts s (calls.Truncate file size) (Err x) t) (sym is) (rounds, kept)
truncate_counts s t file call size (Err (refusals.Past end)) (Err f) inside r rounds kept is = subst (λ (x : Refusal). Counts s (calls.Truncate file size) (Err x) t) (sym is) (rounds, kept)
truncate_counts s t file call size (Err refusals.Memory) (Err f) inside r rounds kept is = subst (λ (x : Refusal). Counts s (calls.Truncate file size) (Err x) t) (sym is) tt
truncate_counts s t file call size (Err (refusals.Errno x)) (Err f) inside r rounds kept is = subst (λ (x : Refusal). Counts s (calls.Truncate file size) (Err x) t) (sym is) tt
truncate_counts s t file call size (Err (refusals.BadReply x)) (Err f) inside r rounds kept is = subst (λ (x : Refusal). Counts s (calls.Truncate file size) (Err x) t) (sym is) tt
truncate_counts s t file call size (Err refusals.WireFault) (Err f) inside r rounds kept is = subst (λ (x : Refusal). Counts s (calls.Truncate file size) (Err x) t) (sym is) tt

-- the same of a call that is a truncation, of one of the files
pub truncated_counts : (s t : Stand) (h : Holds) (refs : List FileRef) (c : Call) (file call size : ℕ) (answer : Result Done Refusal) (told : Result Line Refusal) → c ≡ calls.Truncate file size → CanMake s h (length refs) c → IsHome s refs → Truncates s file call size answer t → KeepsRounds s.map answer t.map → CountsRefusal s.files answer t.files → IsToldOf answer told → Counts s c told t
unfolding CanMake
truncated_counts s t h refs c file call size answer told is can home r rounds kept tells =
    let can_be : CanMake s h (length refs) (calls.Truncate file size) = subst (λ (x : Call). CanMake s h (length refs) x) is can in
    let inside : file < length s.files.files = subst (λ (n : ℕ). file < n) home.stands.refs_of can_be.0 in
    subst (λ (x : Call). Counts s x told t) (sym is) (truncate_counts s t file call size answer told inside r rounds kept tells)
