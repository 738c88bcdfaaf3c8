-- What the tables of a file's entries have at a place.
use Rattle.std.proofs.Common.{◌≡◌, ◌∙◌, ap, sym, refl, ℕ, zero, suc, ◌+◌, ◌≤◌, ◌<◌, Bool, true, eqb, List, [], ◌∷◌, map, take, drop, length, slice_get, Option, Some, None, option_map, arith}
use Rattle.std.proofs.lemmas.Option.{none-some, slice_get-map}
use Rattle.std.proofs.lemmas.Bool.{and_parts, eqb-true}
use Rattle.plain_file.specs.declared.operations.Answer.{Answer}
use Rattle.plain_file.specs.File.{after, first_bytes}
use Rattle.plain_file.specs.History.{after_all, bytes, size}
use Rattle.dax_script.specs.declared.scripts.Script.{Script}
use Rattle.dax_audit.specs.declared.replays.Replay.{Replay}
use Rattle.transcript_text.specs.declared.transcripts.EntryLine.{EntryLine}
use Rattle.transcript_text.specs.declared.transcripts.FilePart.{FilePart}
use Rattle.transcript_text.specs.declared.transcripts.Line.{Line}
use Rattle.transcript_text.specs.declared.transcripts.Line.TheVariants as lines
use Rattle.transcript_text.specs.declared.transcripts.Transcript.{Transcript}
use Rattle.dax_audit.specs.Rules.{entry_in, op_in, past_of, pasts, past_at, line_at, entry_at, names_line, has_entry, replies_at, replies, replies_right}
use Rattle.dax_audit.specs.Guests.{place_of}
use Rattle.dax_script.specs.declared.scripts.Call.{Call}
use Rattle.dax_script.specs.Asks.{target, calls_of, call_at}
use Rattle.dax_audit.specs.Tables.{sizes_from, rights_from, right_on, told_by, AreReplays, HaveEntries, right_in, sizes_in}
use Rattle.std.specs.List.{list_any, range_with_len}
use Rattle.dax_script.specs.declared.asks.Target.{Target}
use Rattle.dax_audit.proofs.Lines.{at_entry}
use Rattle.dax_audit.proofs.Singles.{has_entry_is}

-- the size after a front of the history
pub sizes_at : (s : Script) (b : List ℕ) (es : List EntryLine) (n : ℕ) → n ≤ length es → slice_get (sizes_from s b es) n ≡ Some (length (after_all b (take n (map (entry_in s) es))))
unfolding sizes_from after_all
sizes_at s b [] zero h = refl
sizes_at s b [] (suc n) h = absurd (omega arith)
sizes_at s b (e ∷ es) zero h = refl
sizes_at s b (e ∷ es) (suc n) h = sizes_at s (after b (op_in s e)) es n (omega arith)

pub rights_at : (s : Script) (t : Transcript) (b : List ℕ) (es : List EntryLine) (p : ℕ) (e : EntryLine) → slice_get es p ≡ Some e →
    slice_get (rights_from s t b es) p ≡ Some (right_on s t (after_all b (take p (map (entry_in s) es))) e)
unfolding rights_from after_all
rights_at s t b [] p e h = absurd (none-some e h)
rights_at s t b (x ∷ es) zero e h = let k : x ≡ e = cc in ap (λ y. Some (right_on s t b y)) k
rights_at s t b (x ∷ es) (suc p) e h = rights_at s t (after b (op_in s x)) es p e h

drop_at_get : (xs : List ℕ) (i x : ℕ) → slice_get xs i ≡ Some x → drop i xs ≡ x ∷ drop (i + 1) xs
drop_at_get [] i x h = absurd (none-some x h)
drop_at_get (y ∷ ys) zero x h = let e : y ≡ x = cc in ap (λ z. z ∷ ys) e
drop_at_get (y ∷ ys) (suc i) x h = let k : suc i + 1 ≡ suc (i + 1) = omega arith in rw k (drop_at_get ys i x h)

-- ---- from the tables of all files

table_at : {X : Type 0} (f : Replay → X) (g : FilePart → X) (rs : List Replay) (ps : List FilePart) (i : ℕ) (part : FilePart) → map f rs ≡ map g ps → slice_get ps i ≡ Some part →
    (r : Replay) × (slice_get rs i ≡ Some r) × (f r ≡ g part)
table_at f g [] [] i part h at = absurd (none-some part at)
table_at f g [] (p ∷ ps) i part h at = absurd cc
table_at f g (r ∷ rs) [] i part h at = absurd cc
table_at f g (r ∷ rs) (p ∷ ps) zero part h at = let k : p ≡ part = cc in let e : f r ≡ g p = cc in (r, refl, e ∙ ap g k)
table_at f g (r ∷ rs) (p ∷ ps) (suc i) part h at = let e : map f rs ≡ map g ps = cc in table_at f g rs ps i part e at

pub past_is : (s : Script) (t : Transcript) (file : ℕ) (part : FilePart) → slice_get t.files file ≡ Some part → past_at (pasts s t) file ≡ past_of s part
past_is s t file part at = rw (slice_get-map (past_of s) t.files file, at) refl

named : (guest call : ℕ) (o : Option EntryLine) → names_line guest call o ≡ true → (e : EntryLine) × (o ≡ Some e) × (e.guest ≡ guest) × (e.call ≡ call)
named guest call None h = absurd cc
named guest call (Some e) h =
    let both = and_parts (eqb e.guest guest) (eqb e.call call) h in
    (e, refl, eqb-true e.guest guest both.0, eqb-true e.call call both.1)

-- a line that is done and has its entry: the table tells whether its answer is the plain file's
pub right_told : (s : Script) (t : Transcript) (rs : List Replay) → AreReplays s t rs → (guest call place : ℕ) (a : Answer) (to : Target) → line_at t guest call ≡ Some (lines.Done place a) →
    has_entry (pasts s t) guest call (Some to) (Some place) ≡ true → replies_at (pasts s t) (Some to) place a ≡ right_in rs to.file place
unfolding right_in right_on told_by bytes
right_told s t rs tables guest call place a to line has =
    let entry = named guest call (entry_at t to.file place) (sym (has_entry_is s t guest call to place) ∙ has) in
    let e = entry.0 in
    let there = at_entry t to.file place e entry.1 in
    let part = there.0 in
    let row = table_at (λ (r : Replay). r.right.items) (λ (p : FilePart). rights_from s t (first_bytes p.first) p.entries) rs t.files to.file part tables.right there.1 in
    let told_there : slice_get row.0.right.items place ≡ Some (right_on s t (after_all (first_bytes part.first) (take place (map (entry_in s) part.entries))) e) =
    ap (λ (xs : List Bool). slice_get xs place) row.2 ∙ rights_at s t (first_bytes part.first) part.entries place e there.2 in
    let same_line : line_at t e.guest e.call ≡ Some (lines.Done place a) = rw (entry.2, entry.3) line in
    let history : slice_get (map (entry_in s) part.entries) place ≡ Some (entry_in s e) = slice_get-map (entry_in s) part.entries place ∙ ap (option_map (entry_in s)) there.2 in
    rw (past_is s t to.file part there.1, history, row.1, told_there, same_line) refl

pub sizes_there : (s : Script) (t : Transcript) (rs : List Replay) → AreReplays s t rs → (file : ℕ) (part : FilePart) → slice_get t.files file ≡ Some part → (n : ℕ) → n ≤ length part.entries →
    slice_get (sizes_in rs file) n ≡ Some (size (past_at (pasts s t) file).first (past_at (pasts s t) file).history n)
unfolding sizes_in bytes
sizes_there s t rs tables file part at n within =
    let row = table_at (λ (r : Replay). r.sizes.items) (λ (p : FilePart). sizes_from s (first_bytes p.first) p.entries) rs t.files file part tables.sizes at in
    rw (past_is s t file part at, row.1) (ap (λ (xs : List ℕ). slice_get xs n) row.2 ∙ sizes_at s (first_bytes part.first) part.entries n within)

length_sizes : (s : Script) (b : List ℕ) (es : List EntryLine) → length (sizes_from s b es) ≡ suc (length es)
unfolding sizes_from
length_sizes s b [] = refl
length_sizes s b (e ∷ es) = ap suc (length_sizes s (after b (op_in s e)) es)

pub sizes_many : (s : Script) (t : Transcript) (rs : List Replay) → AreReplays s t rs → (file : ℕ) (part : FilePart) → slice_get t.files file ≡ Some part → length (sizes_in rs file) ≡ length part.entries + 1
unfolding sizes_in
sizes_many s t rs tables file part at =
    let row = table_at (λ (r : Replay). r.sizes.items) (λ (p : FilePart). sizes_from s (first_bytes p.first) p.entries) rs t.files file part tables.sizes at in
    rw row.1 (ap length row.2 ∙ length_sizes s (first_bytes part.first) part.entries ∙ omega arith)

-- a search over places is one over the table
pub any_range : (f : ℕ → ℕ) (test : ℕ → Bool) (xs : List ℕ) (n : ℕ) (low : ℕ) → ((k : ℕ) → k < length xs → slice_get xs k ≡ Some (f k)) → low + n ≤ length xs →
    list_any (λ k. test (f k)) (range_with_len low n) ≡ list_any test (take n (drop low xs))
any_range f test xs zero low h within = refl
any_range f test xs (suc n) low h within =
    let e : drop low xs ≡ f low ∷ drop (low + 1) xs = drop_at_get xs low (f low) (h low (omega arith)) in
    rw (any_range f test xs n (low + 1) h (omega arith), e) refl

pub right_reply : (s : Script) (t : Transcript) (rs : List Replay) → AreReplays s t rs → HaveEntries s t → (guest call place : ℕ) (a : Answer) (l : Line) (cs : List Call) (c : Call) (to : Target) →
    line_at t guest call ≡ Some l → l ≡ lines.Done place a → cs ≡ calls_of s guest → slice_get cs call ≡ Some c → target cs c ≡ Some to → replies_right s t guest call l ≡ right_in rs to.file place
unfolding replies place_of
right_reply s t rs tables have guest call place a l cs c to there is own at on =
    let line : line_at t guest call ≡ Some (lines.Done place a) = there ∙ ap Some is in
    let called : call_at s guest call ≡ Some c = rw own at at in
    let aims : target (calls_of s guest) c ≡ Some to = rw own at on in
    let entry = have.each guest call (lines.Done place a) line in
    let has : has_entry (pasts s t) guest call (Some to) (Some place) ≡ true = rw aims at (rw called at entry) in
    rw (is, called, aims) (right_told s t rs tables guest call place a to line has)
