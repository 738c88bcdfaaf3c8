-- What comes of a guest's calls over an honest wire.
use Rattle.std.proofs.Common.{◌≡◌, ◌≢◌, ◌∙◌, ap, sym, subst, refl, ℕ, zero, suc, ◌+◌, ◌*◌, ◌<◌, true, true≢false, List, [], ◌∷◌, ◌++◌, length, get_or, slice_get, slice_set, replicate, Some, None, Result, Ok, Err, arith, ◌⊎◌, inl, ⊎_elim}
use Rattle.std.specs.Prelude.{All}
use Rattle.std.proofs.lemmas.List.{append-nil}
use Rattle.std.proofs.lemmas.Option.{slice_get-get_or}
use mathlib.Core.Logic.{dite}
use native.Mathlib.Decide.{ℕ_discrete}
use Rattle.plain_file.specs.declared.operations.Entry.{Entry}
use Rattle.plain_file.specs.declared.operations.Op.{Op}
use Rattle.plain_file.specs.declared.operations.Op.TheVariants as ops
use Rattle.plain_file.specs.declared.operations.Way.TheVariants as ways
use Rattle.plain_file.specs.Board.{Note, FileView, BoardView, no_file, file_at}
use Rattle.page_map.specs.declared.pages.Mode.{Mode}
use Rattle.page_map.specs.declared.ranges.Look.{Look}
use Rattle.page_map.specs.Window.{range_size}
use Rattle.page_map.specs.Board.{MapView, Hands, RangesView}
use Rattle.range_tree.specs.Ranges.{range_count, IsSoundRanges}
use Rattle.dax_script.specs.Asks.{hold_in}
use Rattle.dax_script.specs.declared.scripts.Call.{Call}
use Rattle.dax_script.specs.declared.scripts.Call.TheVariants as calls
use Rattle.transcript_text.specs.declared.transcripts.Line.{Line}
use Rattle.transcript_text.specs.declared.transcripts.Line.TheVariants as lines
use Rattle.dax_audit.specs.Rules.{is_taking, is_truncating}
use Rattle.dax_audit.specs.Tables.{end_of}
use Rattle.guest_wire.specs.Keeps.{KeepsPages}
use Rattle.guest_dax.specs.Stands.{Stand}
use Rattle.guest_dax.specs.Looks.{NoLooks}
use Rattle.guest_io.specs.declared.calls.Done.{Done}
use Rattle.guest_io.specs.declared.calls.Held.{Held}
use Rattle.guest_io.specs.declared.calls.Refusal.{Refusal}
use Rattle.guest_io.specs.declared.calls.Refusal.TheVariants as refusals
use Rattle.guest_io.specs.declared.guest.Granted.{Granted}
use Rattle.guest_io.specs.declared.guest.Holds.{Holds}
use Rattle.guest_io.specs.Calls.{first_chunk, last_chunk}
use Rattle.guest_io.specs.Notes.{SameNotes, KeepsNotes}
use Rattle.guest_io.specs.Requests.{IsUndone, Sends}
use Rattle.guest_io.specs.Going.{IsBusy, IsRefused, Reads, Writes}
use Rattle.guest_io.specs.Truncates.{IsBarred, Truncates}
use Rattle.guest_io.specs.Holds.{HasHolds, SameEntries, granted_at, start_of, loads, stores, AsksHold, AccessesHold, ReleasesHold}
use Rattle.guest_run.specs.Runs.{GoesOn}
use Rattle.guest_run.specs.Telling.{letters_of}
use Rattle.guest_run.specs.Working.{history_at, OnlyOthers, CameBy, CameFrom, Asks, MeetsTwo, NeedsChunk, after_refusal, IsMade, IsStuck, Tells, Comes, IsToldOf}
use Rattle.guest_run.proofs.Letters.{Meets, busy_count, full_of}

-- a request leaves the looks as they are
pub still_no_looks : (v w : MapView) → KeepsPages v w → NoLooks v → NoLooks w
still_no_looks v w k none = ap (λ (r : RangesView). r.looks) k.ranges ∙ none ∙ ap (λ (h : Hands). replicate (length h.pins) None) (sym k.hands)

-- ---- others' entries

at_within : (xs : List Entry) (p : ℕ) (e : Entry) → slice_get xs p ≡ Some e → p < length xs
at_within [] p e at = absurd cc
at_within (x ∷ xs) zero e at = omega arith
at_within (x ∷ xs) (suc p) e at = let k = at_within xs p e at in omega (arith, k)

other_at : (guest : ℕ) (xs : List Entry) (p : ℕ) (e : Entry) → All (λ e. e.guest ≢ guest) xs → slice_get xs p ≡ Some e → e.guest ≢ guest
other_at guest xs p e all at =
    let lt = at_within xs p e at in
    let same : Some (get_or xs p e) ≡ Some e = sym (slice_get-get_or xs p e lt) ∙ at in
    let is : get_or xs p e ≡ e = cc in
    subst (λ (x : Entry). x.guest ≢ guest) is (all p e lt)

ours_before : (guest : ℕ) (h more : List Entry) (p : ℕ) (e : Entry) → All (λ e. e.guest ≢ guest) more → slice_get (h ++ more) p ≡ Some e → e.guest ≡ guest → p < length h
ours_before guest [] more p e others at by = absurd (other_at guest more p e others at by)
ours_before guest (x ∷ h) more zero e others at by = omega arith
ours_before guest (x ∷ h) more (suc p) e others at by = let k = ours_before guest h more p e others at by in omega (arith, k)

goes_same : (guest : ℕ) (h : List Entry) → GoesOn guest h h
goes_same guest h = ([], sym (append-nil h), λ p e at by. at_within h p e at)

-- what is noted stays so
keeps_same : (f g : FileView) → SameNotes f g → KeepsNotes f g
keeps_same f g same k n at none = inl (same k n at)

same_notes : (f g : FileView) → g.notes ≡ f.notes → SameNotes f g
same_notes f g e k n at = ap (λ (ns : List Note). slice_get ns k) e ∙ at

pub others_same : (v w : BoardView) → ((f : ℕ) → history_at w f ≡ history_at v f) → ((f : ℕ) → SameNotes (file_at v f) (file_at w f)) → OnlyOthers v w
others_same v w same notes f = (subst (GoesOn v.guest (history_at v f)) (sym (same f)) (goes_same v.guest (history_at v f)), keeps_same (file_at v f) (file_at w f) (notes f))

others_stay : (v w : BoardView) (f : ℕ) → file_at w f ≡ file_at v f → GoesOn v.guest (history_at v f) (history_at w f) × KeepsNotes (file_at v f) (file_at w f)
others_stay v w f same = (
  subst (GoesOn v.guest (history_at v f)) (sym (ap (λ (x : FileView). x.history) same)) (goes_same v.guest (history_at v f)),
  keeps_same (file_at v f) (file_at w f) (same_notes (file_at v f) (file_at w f) (ap (λ (x : FileView). x.notes) same)),
)

others_undone : (v w : BoardView) (file : ℕ) → IsUndone v file w → OnlyOthers v w
others_undone v w file u f = dite (ℕ_discrete f file)
    (λ e. subst (λ (n : ℕ). GoesOn v.guest (history_at v n) (history_at w n) × KeepsNotes (file_at v n) (file_at w n)) (sym e)
    (subst (GoesOn v.guest (history_at v file)) (sym u.history) (u.more, refl, λ p e at by. ours_before v.guest (history_at v file) u.more p e u.others at by), u.notes))
    (λ apart. others_stay v w f (u.stay f apart))

-- one file is another one of the same history and notes
abbrev same_seen : FileView → FileView → Type 0
same_seen x y = (x.history ≡ y.history) × (x.notes ≡ y.notes)

seen_set : (files : List FileView) (file : ℕ) (x : FileView) → same_seen x (get_or files file no_file) → (f : ℕ) → same_seen (get_or (slice_set files file x) f no_file) (get_or files f no_file)
seen_set [] file x same f = (refl, refl)
seen_set (y ∷ files) zero x same zero = same
seen_set (y ∷ files) zero x same (suc f) = (refl, refl)
seen_set (y ∷ files) (suc file) x same zero = (refl, refl)
seen_set (y ∷ files) (suc file) x same (suc f) = seen_set files file x same f

others_barred : (s t : Stand) (file count : ℕ) → IsBarred s file count t → OnlyOthers s.files t.files
others_barred s t file count b =
    let seen : (f : ℕ) → same_seen (file_at t.files f) (file_at s.files f) = λ f. subst (λ (u : Stand). same_seen (file_at u.files f) (file_at s.files f)) (sym b.changed) (seen_set s.files.files file _ (refl, refl) f) in
    others_same s.files t.files (λ f. (seen f).0) (λ f. same_notes (file_at s.files f) (file_at t.files f) (seen f).1)

others_nothing : (s t : Stand) → t ≡ s → OnlyOthers s.files t.files
others_nothing s t same f = others_stay s.files t.files f (ap (λ (u : Stand). file_at u.files f) same)

-- ---- where no range could be taken

pub stuck : (s t : Stand) (h k : Holds) (c : Call) (file off len : ℕ) (looked : List Look) → HasHolds s h → k ≡ after_refusal c h → is_taking c ≡ true → Meets c file off len → range_count t.map ≡ range_count s.map → OnlyOthers s.files t.files → IsBusy s.map file off len looked t.map → IsSoundRanges t.map → IsStuck s h c (letters_of looked) t k
stuck s t h k c file off len looked has holds takes two count others busy sound = record {
  takes = takes;
  some = busy.0;
  each = busy_count s.map file off len looked t.map busy count sound;
  others = others;
  holds = holds;
  full = full_of s t h c file off len looked has two count sound busy;
}

-- ---- what comes of a call that may be done

-- the same, before the answer is a line
abbrev pub ComesOf : Stand → Holds → ℕ → Call → Result Done Refusal → Stand → Holds → Type 0
ComesOf s h n c (Ok d) t k = NoLooks t.map × IsMade s h n c d t × (k ≡ h)
ComesOf s h n c (Err e) t k = Comes s h n c (Err e) t k

pub comes_told : (s t : Stand) (h k : Holds) (n : ℕ) (c : Call) (answer : Result Done Refusal) (told : Result Line Refusal) → IsToldOf answer told → ComesOf s h n c answer t k → Comes s h n c told t k
unfolding Tells
comes_told s t h k n c (Ok d) (Ok l) is m = subst (λ (x : Line). Comes s h n c (Ok x) t k) (sym is) (m.0, (m.1, m.2))
comes_told s t h k n c (Ok d) (Err e) is m = absurd is
comes_told s t h k n c (Err e) (Ok l) is m = absurd is
comes_told s t h k n c (Err e) (Err f) is m = subst (λ (x : Refusal). Comes s h n c (Err x) t k) (sym is) m

-- a refusal of a read or a write
comes_refused : (s t : Stand) (h k : Holds) (n : ℕ) (c : Call) (file off len : ℕ) (op : Op) (e : Refusal) → s.wire.honest ≡ true → HasHolds s h → k ≡ after_refusal c h → is_taking c ≡ true → Meets c file off len → range_count t.map ≡ range_count s.map → IsRefused s file n op off len e t → Comes s h n c (Err e) t k
comes_refused s t h k n c file off len op (refusals.Busy looked) honest has holds takes two count (busy, undone) = (busy.1, stuck s t h k c file off len looked has holds takes two count (others_undone s.files t.files file (undone honest)) busy)
comes_refused s t h k n c file off len op (refusals.Leased count) honest has holds takes two same never = absurd never
comes_refused s t h k n c file off len op (refusals.NoHold hold) honest has holds takes two same never = absurd never
comes_refused s t h k n c file off len op (refusals.Past end) honest has holds takes two same never = absurd never
comes_refused s t h k n c file off len op (refusals.Errno x) honest has holds takes two same (looks, is) = true≢false (sym honest ∙ is)
comes_refused s t h k n c file off len op (refusals.BadReply x) honest has holds takes two same (looks, is) = true≢false (sym honest ∙ is)
comes_refused s t h k n c file off len op refusals.WireFault honest has holds takes two same m = true≢false (sym honest ∙ m.1)
comes_refused s t h k n c file off len op refusals.Memory honest has holds takes two same m = m.0

reads_comes : (s t : Stand) (h k : Holds) (n file off len : ℕ) (answer : Result Done Refusal) → s.wire.honest ≡ true → HasHolds s h → k ≡ h → range_count t.map ≡ range_count s.map → Reads s file n off len answer t → ComesOf s h n (calls.Read file off len) answer t k
unfolding is_taking is_truncating hold_in Asks CameBy CameFrom MeetsTwo NeedsChunk after_refusal
reads_comes s t h k n file off len (Ok d) honest has holds count (looks, (way, is, directs)) = (
  looks,
  record {
    to = record { file = file; op = ops.Read off len };
    way = way;
    asks = refl;
    directs = directs honest;
    came = is;
    unbarred = λ yes. absurd (true≢false (sym yes));
  },
  holds,
)
reads_comes s t h k n file off len (Err e) honest has holds count r = comes_refused s t h k n (calls.Read file off len) file off len (ops.Read off len) e honest has holds refl (record { two = λ two. two; needs = λ chunk e. (refl, e) }) count r

writes_comes : (s t : Stand) (h k : Holds) (n file off : ℕ) (bytes : List ℕ) (answer : Result Done Refusal) → s.wire.honest ≡ true → HasHolds s h → k ≡ h → range_count t.map ≡ range_count s.map → Writes s file n off bytes answer t → ComesOf s h n (calls.Write file off bytes) answer t k
unfolding is_taking is_truncating hold_in Asks CameBy CameFrom MeetsTwo NeedsChunk after_refusal
writes_comes s t h k n file off bytes (Ok d) honest has holds count (looks, (way, how)) = (
  looks,
  record {
    to = record { file = file; op = ops.Write off bytes };
    way = way;
    asks = refl;
    directs = (how honest).0;
    came = (how honest).1;
    unbarred = λ yes. absurd (true≢false (sym yes));
  },
  holds,
)
writes_comes s t h k n file off bytes (Err e) honest has holds count r = comes_refused s t h k n (calls.Write file off bytes) file off (length bytes) (ops.Write off bytes) e honest has holds refl (record { two = λ two. two; needs = λ chunk e. (refl, e) }) count r

fills_comes : (s t : Stand) (h k : Holds) (n file off len byte : ℕ) (answer : Result Done Refusal) → length (replicate len byte) ≡ len → s.wire.honest ≡ true → HasHolds s h → k ≡ h → range_count t.map ≡ range_count s.map → Writes s file n off (replicate len byte) answer t → ComesOf s h n (calls.Fill file off len byte) answer t k
unfolding is_taking is_truncating hold_in Asks CameBy CameFrom MeetsTwo NeedsChunk after_refusal
fills_comes s t h k n file off len byte (Ok d) long honest has holds count (looks, (way, how)) = (
  looks,
  record {
    to = record { file = file; op = ops.Write off (replicate len byte) };
    way = way;
    asks = refl;
    directs = (how honest).0;
    came = (how honest).1;
    unbarred = λ yes. absurd (true≢false (sym yes));
  },
  holds,
)
fills_comes s t h k n file off len byte (Err e) long honest has holds count r = comes_refused s t h k n (calls.Fill file off len byte) file off (length (replicate len byte)) (ops.Write off (replicate len byte)) e honest has holds refl (record { two = λ two. subst (λ m. last_chunk off m ≡ first_chunk off + 1) long two; needs = λ chunk e. (refl, subst (λ m. (chunk ≡ first_chunk off) ⊎ (chunk ≡ last_chunk off m)) long e) }) count r

sizes_comes : (s t : Stand) (h k : Holds) (n file : ℕ) (answer : Result Done Refusal) → NoLooks t.map → s.wire.honest ≡ true → k ≡ h → Sends s file n ops.Size ways.Req answer t → ComesOf s h n (calls.Size file) answer t k
unfolding is_truncating hold_in Asks CameBy CameFrom
sizes_comes s t h k n file (Ok d) looks honest holds (newest, directs) = (
  looks,
  record {
    to = record { file = file; op = ops.Size };
    way = ways.Req;
    asks = refl;
    directs = directs honest;
    came = refl;
    unbarred = λ yes. absurd (true≢false (sym yes));
  },
  holds,
)
sizes_comes s t h k n file (Err (refusals.Busy looked)) looks honest holds never = absurd never
sizes_comes s t h k n file (Err (refusals.Leased count)) looks honest holds never = absurd never
sizes_comes s t h k n file (Err (refusals.NoHold hold)) looks honest holds never = absurd never
sizes_comes s t h k n file (Err (refusals.Past end)) looks honest holds never = absurd never
sizes_comes s t h k n file (Err refusals.Memory) looks honest holds m = looks
sizes_comes s t h k n file (Err (refusals.Errno x)) looks honest holds is = true≢false (sym honest ∙ is)
sizes_comes s t h k n file (Err (refusals.BadReply x)) looks honest holds is = true≢false (sym honest ∙ is)
sizes_comes s t h k n file (Err refusals.WireFault) looks honest holds (is, rose) = true≢false (sym honest ∙ is)

truncates_comes : (s t : Stand) (h k : Holds) (n file size : ℕ) (answer : Result Done Refusal) → NoLooks t.map → s.wire.honest ≡ true → k ≡ h → Truncates s file n size answer t → ComesOf s h n (calls.Truncate file size) answer t k
unfolding is_truncating hold_in Asks CameBy CameFrom
truncates_comes s t h k n file size (Ok d) looks honest holds (none, (newest, directs)) = (
  looks,
  record {
    to = record { file = file; op = ops.Truncate size };
    way = ways.Req;
    asks = refl;
    directs = directs honest;
    came = refl;
    unbarred = λ yes. none;
  },
  holds,
)
truncates_comes s t h k n file size (Err (refusals.Busy looked)) looks honest holds never = absurd never.1
truncates_comes s t h k n file size (Err (refusals.Leased count)) looks honest holds b = (
  looks,
  record {
    file = file;
    size = size;
    asks = refl;
    some = b.some;
    own = b.alone;
    others = others_barred s t file count b;
    holds = holds;
  },
)
truncates_comes s t h k n file size (Err (refusals.NoHold hold)) looks honest holds never = absurd never.1
truncates_comes s t h k n file size (Err (refusals.Past end)) looks honest holds never = absurd never.1
truncates_comes s t h k n file size (Err refusals.Memory) looks honest holds m = looks
truncates_comes s t h k n file size (Err (refusals.Errno x)) looks honest holds is = true≢false (sym honest ∙ is.1)
truncates_comes s t h k n file size (Err (refusals.BadReply x)) looks honest holds is = true≢false (sym honest ∙ is.1)
truncates_comes s t h k n file size (Err refusals.WireFault) looks honest holds is = true≢false (sym honest ∙ is.1.0)

-- ---- what comes of a load and a store

loads_comes : (s t : Stand) (h k : Holds) (n hold off len : ℕ) (answer : Result Done Refusal) → NoLooks t.map → k ≡ h → AccessesHold s h n hold off len (loads len) answer t → ComesOf s h n (calls.Load hold off len) answer t k
unfolding is_truncating hold_in Asks CameFrom end_of
loads_comes s t h k n hold off len (Ok d) looks holds (g, within, directs, floor) = (
  looks,
  record {
    to = record { file = g.file; op = ops.Read (start_of g + off) len };
    way = ways.Via g.pinned.through None;
    asks = (g, within.granted, refl);
    directs = directs;
    came = record { granted = g; had = within.granted; way = refl; within = within.end };
    unbarred = λ yes. absurd (true≢false (sym yes));
  },
  holds,
)
loads_comes s t h k n hold off len (Err (refusals.Busy looked)) looks holds never = absurd never
loads_comes s t h k n hold off len (Err (refusals.Leased count)) looks holds never = absurd never
loads_comes s t h k n hold off len (Err (refusals.NoHold number)) looks holds (is, none, same) = (looks, record { hold = hold; uses = refl; none = none; others = others_nothing s t same; holds = holds })
loads_comes s t h k n hold off len (Err (refusals.Past end)) looks holds (p, same) = (
  looks,
  record {
    hold = hold;
    granted = p.hold_of;
    to = record { file = p.hold_of.file; op = ops.Read (start_of p.hold_of + off) len };
    uses = refl;
    had = p.granted;
    asks = (p.hold_of, p.granted, refl);
    end = p.end;
    past = p.past;
    others = others_nothing s t same;
    holds = holds;
  },
)
loads_comes s t h k n hold off len (Err refusals.Memory) looks holds m = looks
loads_comes s t h k n hold off len (Err (refusals.Errno x)) looks holds never = absurd never
loads_comes s t h k n hold off len (Err (refusals.BadReply x)) looks holds never = absurd never
loads_comes s t h k n hold off len (Err refusals.WireFault) looks holds never = absurd never

stores_comes : (s t : Stand) (h k : Holds) (n hold off : ℕ) (bytes : List ℕ) (answer : Result Done Refusal) → NoLooks t.map → k ≡ h → AccessesHold s h n hold off (length bytes) (stores bytes) answer t → ComesOf s h n (calls.Store hold off bytes) answer t k
unfolding is_truncating hold_in Asks CameFrom end_of
stores_comes s t h k n hold off bytes (Ok d) looks holds (g, within, directs, floor) = (
  looks,
  record {
    to = record { file = g.file; op = ops.Write (start_of g + off) bytes };
    way = ways.Via g.pinned.through None;
    asks = (g, within.granted, refl);
    directs = directs;
    came = record { granted = g; had = within.granted; way = refl; within = within.end };
    unbarred = λ yes. absurd (true≢false (sym yes));
  },
  holds,
)
stores_comes s t h k n hold off bytes (Err (refusals.Busy looked)) looks holds never = absurd never
stores_comes s t h k n hold off bytes (Err (refusals.Leased count)) looks holds never = absurd never
stores_comes s t h k n hold off bytes (Err (refusals.NoHold number)) looks holds (is, none, same) = (looks, record { hold = hold; uses = refl; none = none; others = others_nothing s t same; holds = holds })
stores_comes s t h k n hold off bytes (Err (refusals.Past end)) looks holds (p, same) = (
  looks,
  record {
    hold = hold;
    granted = p.hold_of;
    to = record { file = p.hold_of.file; op = ops.Write (start_of p.hold_of + off) bytes };
    uses = refl;
    had = p.granted;
    asks = (p.hold_of, p.granted, refl);
    end = p.end;
    past = p.past;
    others = others_nothing s t same;
    holds = holds;
  },
)
stores_comes s t h k n hold off bytes (Err refusals.Memory) looks holds m = looks
stores_comes s t h k n hold off bytes (Err (refusals.Errno x)) looks holds never = absurd never
stores_comes s t h k n hold off bytes (Err (refusals.BadReply x)) looks holds never = absurd never
stores_comes s t h k n hold off bytes (Err refusals.WireFault) looks holds never = absurd never

-- ---- what comes of a hold and a release

-- a chunk is one chunk
one_chunk : (chunk : ℕ) → last_chunk (range_size * chunk) range_size ≡ first_chunk (range_size * chunk) + 1 → ⊥
one_chunk chunk two = absurd (omega arith)

that_chunk : (chunk c : ℕ) → (c ≡ first_chunk (range_size * chunk)) ⊎ (c ≡ last_chunk (range_size * chunk) range_size) → c ≡ chunk
that_chunk chunk c e = ⊎_elim (λ (x : c ≡ first_chunk (range_size * chunk)). omega (arith, x)) (λ (x : c ≡ last_chunk (range_size * chunk) range_size). omega (arith, x)) e

pub comes_held : (s t : Stand) (h k : Holds) (n file chunk : ℕ) (mode : Mode) (held : Held) (l : Line) → SameEntries s.files t.files → AsksHold s h file chunk mode (Ok held) t k → l ≡ lines.Held held.end held.through → Comes s h n (calls.Hold file chunk mode) (Ok l) t k
unfolding Tells
comes_held s t h k n file chunk mode held l same (looks, granted) is =
    subst (λ (x : Line). Comes s h n (calls.Hold file chunk mode) (Ok x) t k) (sym is)
    (looks, record { file = file; chunk = chunk; mode = mode; asks = refl; granted = granted; others = others_same s.files t.files same.history same.notes })

comes_unheld : (s t : Stand) (h k : Holds) (n file chunk : ℕ) (mode : Mode) (e : Refusal) → s.wire.honest ≡ true → HasHolds s h → range_count t.map ≡ range_count s.map → SameEntries s.files t.files → AsksHold s h file chunk mode (Err e) t k → Comes s h n (calls.Hold file chunk mode) (Err e) t k
unfolding is_taking MeetsTwo NeedsChunk after_refusal
comes_unheld s t h k n file chunk mode (refusals.Busy looked) honest has count same (not, busy) = (busy.1, stuck s t h k (calls.Hold file chunk mode) file (range_size * chunk) range_size looked has not.holds refl (record { two = one_chunk chunk; needs = λ c e. (refl, that_chunk chunk c e) }) count (others_same s.files t.files same.history same.notes) busy)
comes_unheld s t h k n file chunk mode (refusals.Leased count) honest has c same never = absurd never
comes_unheld s t h k n file chunk mode (refusals.NoHold hold) honest has c same never = absurd never
comes_unheld s t h k n file chunk mode (refusals.Past end) honest has c same never = absurd never
comes_unheld s t h k n file chunk mode refusals.Memory honest has c same m = m.1
comes_unheld s t h k n file chunk mode (refusals.Errno x) honest has c same m = true≢false (sym honest ∙ m.2)
comes_unheld s t h k n file chunk mode (refusals.BadReply x) honest has c same m = true≢false (sym honest ∙ m.2)
comes_unheld s t h k n file chunk mode refusals.WireFault honest has c same m = true≢false (sym honest ∙ m.2)

pub comes_released : (s t : Stand) (h k : Holds) (n hold : ℕ) → NoLooks t.map → SameEntries s.files t.files → (g : Granted) → granted_at h hold ≡ Some g → k ≡ record h { slots = slice_set h.slots hold None } → Comes s h n (calls.Release hold) (Ok lines.Released) t k
unfolding Tells
comes_released s t h k n hold looks same g had holds = (looks, record { hold = hold; granted = g; asks = refl; had = had; holds = holds; others = others_same s.files t.files same.history same.notes })

comes_unreleased : (s t : Stand) (h k : Holds) (n hold : ℕ) (e : Refusal) → NoLooks t.map → SameEntries s.files t.files → ReleasesHold s h hold (Err e) t k → Comes s h n (calls.Release hold) (Err e) t k
unfolding hold_in
comes_unreleased s t h k n hold (refusals.Busy looked) looks same never = absurd never
comes_unreleased s t h k n hold (refusals.Leased count) looks same never = absurd never
comes_unreleased s t h k n hold (refusals.NoHold number) looks same (is, none, stays, holds) = (looks, record { hold = hold; uses = refl; none = none; others = others_same s.files t.files same.history same.notes; holds = holds })
comes_unreleased s t h k n hold (refusals.Past end) looks same never = absurd never
comes_unreleased s t h k n hold refusals.Memory looks same never = absurd never
comes_unreleased s t h k n hold (refusals.Errno x) looks same never = absurd never
comes_unreleased s t h k n hold (refusals.BadReply x) looks same never = absurd never
comes_unreleased s t h k n hold refusals.WireFault looks same never = absurd never

-- the same of a call that is one of these
pub comes_unheld_by : (s t : Stand) (h k : Holds) (n file chunk : ℕ) (mode : Mode) (e : Refusal) (c : Call) → c ≡ calls.Hold file chunk mode → s.wire.honest ≡ true → HasHolds s h → range_count t.map ≡ range_count s.map → SameEntries s.files t.files → AsksHold s h file chunk mode (Err e) t k → Comes s h n c (Err e) t k
comes_unheld_by s t h k n file chunk mode e c is honest has count same r = subst (λ (x : Call). Comes s h n x (Err e) t k) (sym is) (comes_unheld s t h k n file chunk mode e honest has count same r)

pub comes_unreleased_by : (s t : Stand) (h k : Holds) (n hold : ℕ) (e : Refusal) (c : Call) → c ≡ calls.Release hold → NoLooks t.map → SameEntries s.files t.files → ReleasesHold s h hold (Err e) t k → Comes s h n c (Err e) t k
comes_unreleased_by s t h k n hold e c is looks same r = subst (λ (x : Call). Comes s h n x (Err e) t k) (sym is) (comes_unreleased s t h k n hold e looks same r)

-- ---- with the answer as a line

pub comes_read : (s t : Stand) (h k : Holds) (n file off len : ℕ) (answer : Result Done Refusal) (told : Result Line Refusal) → s.wire.honest ≡ true → HasHolds s h → k ≡ h → range_count t.map ≡ range_count s.map → Reads s file n off len answer t → IsToldOf answer told → Comes s h n (calls.Read file off len) told t k
comes_read s t h k n file off len answer told honest has holds count r is = comes_told s t h k n (calls.Read file off len) answer told is (reads_comes s t h k n file off len answer honest has holds count r)

pub comes_written : (s t : Stand) (h k : Holds) (n file off : ℕ) (bytes xs : List ℕ) (answer : Result Done Refusal) (told : Result Line Refusal) → xs ≡ bytes → s.wire.honest ≡ true → HasHolds s h → k ≡ h → range_count t.map ≡ range_count s.map → Writes s file n off xs answer t → IsToldOf answer told → Comes s h n (calls.Write file off bytes) told t k
comes_written s t h k n file off bytes xs answer told same honest has holds count r is = comes_told s t h k n (calls.Write file off bytes) answer told is (writes_comes s t h k n file off bytes answer honest has holds count (subst (λ (b : List ℕ). Writes s file n off b answer t) same r))

length_fill : (len byte : ℕ) → length (replicate len byte) ≡ len
length_fill zero byte = refl
length_fill (suc len) byte = ap suc (length_fill len byte)

pub comes_filled : (s t : Stand) (h k : Holds) (n file off len byte : ℕ) (xs : List ℕ) (answer : Result Done Refusal) (told : Result Line Refusal) → xs ≡ replicate len byte → s.wire.honest ≡ true → HasHolds s h → k ≡ h → range_count t.map ≡ range_count s.map → Writes s file n off xs answer t → IsToldOf answer told → Comes s h n (calls.Fill file off len byte) told t k
comes_filled s t h k n file off len byte xs answer told same honest has holds count r is = comes_told s t h k n (calls.Fill file off len byte) answer told is (fills_comes s t h k n file off len byte answer (length_fill len byte) honest has holds count (subst (λ (b : List ℕ). Writes s file n off b answer t) same r))

pub comes_size : (s t : Stand) (h k : Holds) (n file : ℕ) (answer : Result Done Refusal) (told : Result Line Refusal) → NoLooks t.map → s.wire.honest ≡ true → k ≡ h → Sends s file n ops.Size ways.Req answer t → IsToldOf answer told → Comes s h n (calls.Size file) told t k
comes_size s t h k n file answer told looks honest holds r is = comes_told s t h k n (calls.Size file) answer told is (sizes_comes s t h k n file answer looks honest holds r)

pub comes_truncated : (s t : Stand) (h k : Holds) (n file size : ℕ) (answer : Result Done Refusal) (told : Result Line Refusal) → NoLooks t.map → s.wire.honest ≡ true → k ≡ h → Truncates s file n size answer t → IsToldOf answer told → Comes s h n (calls.Truncate file size) told t k
comes_truncated s t h k n file size answer told looks honest holds r is = comes_told s t h k n (calls.Truncate file size) answer told is (truncates_comes s t h k n file size answer looks honest holds r)

pub comes_loaded : (s t : Stand) (h k : Holds) (n hold off len : ℕ) (answer : Result Done Refusal) (told : Result Line Refusal) → NoLooks t.map → k ≡ h → AccessesHold s h n hold off len (loads len) answer t → IsToldOf answer told → Comes s h n (calls.Load hold off len) told t k
comes_loaded s t h k n hold off len answer told looks holds r is = comes_told s t h k n (calls.Load hold off len) answer told is (loads_comes s t h k n hold off len answer looks holds r)

pub comes_stored : (s t : Stand) (h k : Holds) (n hold off : ℕ) (bytes xs : List ℕ) (answer : Result Done Refusal) (told : Result Line Refusal) → xs ≡ bytes → NoLooks t.map → k ≡ h → AccessesHold s h n hold off (length xs) (stores xs) answer t → IsToldOf answer told → Comes s h n (calls.Store hold off bytes) told t k
comes_stored s t h k n hold off bytes xs answer told same looks holds r is = comes_told s t h k n (calls.Store hold off bytes) answer told is (stores_comes s t h k n hold off bytes answer looks holds (subst (λ (b : List ℕ). AccessesHold s h n hold off (length b) (stores b) answer t) same r))
