-- From the run of all guests to the whole transcript.
use Rattle.std.proofs.Common.{◌≡◌, ◌∙◌, inl, inr, ap, sym, subst, refl, ℕ, zero, suc, ◌+◌, ◌*◌, ◌<◌, ◌≤◌, ◌&&◌, Bool, true, false, true≢false, List, [], ◌∷◌, ◌++◌, length, map, replicate, take, slice_get, Option, Some, None, arith}
use Rattle.std.proofs.lemmas.Bool.{cases_lt}
use Rattle.std.proofs.lemmas.List.{length-replicate}
use Rattle.plain_file.specs.declared.operations.Entry.{Entry}
use Rattle.plain_file.specs.declared.operations.First.{First}
use Rattle.plain_file.specs.declared.operations.Op.{Op}
use Rattle.plain_file.specs.Limits.{max_files}
use Rattle.plain_file.specs.Plain.{new_board}
use Rattle.plain_file.specs.Board.{BoardView}
use Rattle.page_map.specs.declared.pages.Page.{Page}
use Rattle.page_map.specs.declared.ranges.LogEntry.{LogEntry}
use Rattle.page_map.specs.Board.{MapView}
use Rattle.page_map.specs.Plain.{new_map, range_pages}
use Rattle.page_map.specs.Logs.{Slot, sound, sound_from, may_follow, next_slots}
use Rattle.range_tree.specs.Logs.{first_unsound, unsound_at}
use Rattle.file_share.specs.Table.{first_in}
use Rattle.file_share.specs.Known.{mark_of}
use Rattle.fuse_device.specs.State.{State, new_state}
use Rattle.fuse_device.specs.OpenFiles.{HasOpenFile}
use Rattle.fuse_device.specs.Promises.{IsServable, world}
use Rattle.fuse_device.proofs.Servable.{servable_at_start}
use Rattle.guest_wire.specs.declared.driver.FileRef.{FileRef}
use Rattle.guest_dax.specs.Stands.{ref_at}
use Rattle.plain_text.specs.Options.{◌>>=◌}
use Rattle.dax_script.specs.Asks.{held_of, held_by, place_of_hold}
use Rattle.dax_script.specs.declared.asks.Held.{Held as Wanted}
use Rattle.dax_script.specs.declared.scripts.Call.{Call}
use Rattle.dax_script.specs.declared.scripts.Call.TheVariants as calls
use Rattle.dax_script.specs.declared.scripts.FileLine.{FileLine}
use Rattle.dax_script.specs.declared.scripts.Script.{Script}
use Rattle.transcript_text.specs.declared.transcripts.EntryLine.{EntryLine}
use Rattle.transcript_text.specs.declared.transcripts.FilePart.{FilePart}
use Rattle.transcript_text.specs.declared.transcripts.Numbered.{Numbered}
use Rattle.transcript_text.specs.declared.transcripts.Transcript.{Transcript}
use Rattle.dax_audit.specs.Legal.{IsLegal}
use Rattle.dax_audit.specs.Tables.{no_log, log_in}
use Rattle.guest_run.specs.Runs.{Asked, asked, through_hold, entry_line, part_of, parts_from}
use Rattle.guest_run.specs.Working.{IsCall, AreCalls, IsFair}
use Rattle.guest_run.proofs.Places.{none_is, some_is, bound, map_len, take_more}
use Rattle.guest_run.proofs.AllGuests.{legal}
use Rattle.guest_run.proofs.Unheld.{unheld_done}
use Rattle.guest_threads.specs.Jobs.{IsServed}
use Rattle.guest_threads.specs.declared.tellings.FileTold.{FileTold}
use Rattle.guest_threads.specs.Ran.{HasRun, IsFileTold}
use Rattle.daxrun.specs.Carried.{names_of, IsPlayable}
use Rattle.daxrun.specs.Plays.{line_of, told_part}
use Rattle.daxrun.specs.Run.{IsFairAlone, AreLinesDone}
use Rattle.daxrun.specs.Session.{IsOpenAt, empty_firsts, firsts_of, opening_boards}

-- ---- a session over empty files

pub servable_new : (pages : ℕ) (fs : List FileLine) (s : State) (v : BoardView) (m : MapView) → s ≡ new_state pages (names_of fs) → v ≡ new_board 0 empty_firsts → m ≡ new_map pages → length fs ≤ max_files → IsServable (world s v m)
servable_new pages fs s v m state files window few =
    let names : length (names_of fs) ≤ 16 = omega (arith, map_len (λ (f : FileLine). f.name) fs) in
    let enough : 16 ≤ length empty_firsts = omega (arith, length-replicate {A = First} max_files (record { size = 0; fill = 0 })) in
    rw (state, files, window) (servable_at_start 0 pages (names_of fs) empty_firsts names enough)

-- ---- a daemon whose files are open

pub ref_is : (ats : List FileRef) (i : ℕ) → i < length ats → slice_get ats i ≡ Some (ref_at ats i)
ref_is [] i lt = absurd (omega arith)
ref_is (a ∷ ats) zero lt = refl
ref_is (a ∷ ats) (suc i) lt = ref_is ats i (omega arith)

pub served_open : (fs : List FileLine) (ranges : ℕ) (ats : List FileRef) (s : State) → length ats ≡ length fs → IsOpenAt fs ranges ats s → IsServed s ats (length fs) ranges
served_open fs ranges ats s count o =
    let made : length s.made ≡ length fs = sym (map_len (λ f. f.name) s.made) ∙ ap length o.session.named ∙ map_len Some (names_of fs) ∙ map_len (λ (f : FileLine). f.name) fs in
    let table : length (opening_boards ranges).map.table ≡ range_pages * ranges = map_len {A = Option Page} Some (replicate (range_pages * ranges) None) ∙ length-replicate {A = Option Page} (range_pages * ranges) None in
    let pages : length (opening_boards ranges).map.table ≡ s.pages = o.live.servable.pages in
    record {
      refs_of = count;
      there = omega (arith, made);
      pages = sym pages ∙ table;
      started = o.session.started;
      nodes = λ file lt. (o.handles.each file (ref_at ats file) (ref_is ats file (omega (arith, lt, count)))).0;
      handles = λ file lt.
          let h = o.handles.each file (ref_at ats file) (ref_is ats file (omega (arith, lt, count))) in
          subst (λ (n : ℕ). HasOpenFile s n (ref_at ats file).fh) h.0 h.1;
    }

-- ---- the files' parts

pub parts_more : (h : ℕ → List Entry) (logs : ℕ → List LogEntry) (n : ℕ) (fs : List FileLine) (f : FileLine) → parts_from h logs n (fs ++ f ∷ []) ≡ parts_from h logs n fs ++ part_of h logs (n + length fs) f ∷ []
parts_more h logs n [] f = let z : n ≡ n + 0 = omega arith in ap (λ (k : ℕ). part_of h logs k f ∷ []) z
parts_more h logs n (x ∷ fs) f = let z : n + 1 + length fs ≡ n + suc (length fs) = omega arith in ap (λ (ps : List FilePart). part_of h logs n x ∷ ps) (parts_more h logs (n + 1) fs f ∙ ap (λ (k : ℕ). parts_from h logs (n + 1) fs ++ part_of h logs k f ∷ []) z)

-- ---- the whole transcript

both_true : (a b : Bool) → (a && b) ≡ true → (a ≡ true) × (b ≡ true)
both_true true b h = (refl, h)
both_true false b h = absurd (true≢false (sym h))

none_unsound : (ranges n : ℕ) (slots : List Slot) (log : List LogEntry) → sound_from ranges n slots log ≡ true → first_unsound ranges n slots log ≡ None
unfolding sound_from first_unsound
none_unsound ranges n slots [] h = refl
none_unsound ranges n slots (e ∷ es) h = let k = both_true (may_follow ranges slots e) (sound_from ranges (n + 1) (next_slots n slots e) es) h in rw k.0 (none_unsound ranges (n + 1) (next_slots n slots e) es k.1)

-- a sound log is one without an unsound entry
pub sound_log : (ranges : ℕ) (log : List LogEntry) → sound ranges log ≡ true → unsound_at ranges log ≡ None
unfolding sound
sound_log ranges log h = none_unsound ranges 0 [] log h

-- a hold is asked for on a file of the script
held_within : (files ranges : ℕ) (cs : List Call) (n : ℕ) (c : Call) (held : Wanted) → IsCall files ranges cs n c → held_of c ≡ Some held → held.file < files
unfolding IsCall held_of
held_within files ranges cs n (calls.Hold file chunk mode) held is e = subst (λ (k : ℕ). k < files) (ap (λ (x : Wanted). x.file) (some_is _ held e)) is.0
held_within files ranges cs n (calls.Read file off len) held is e = absurd (none_is held e)
held_within files ranges cs n (calls.Write file off xs) held is e = absurd (none_is held e)
held_within files ranges cs n (calls.Fill file off len byte) held is e = absurd (none_is held e)
held_within files ranges cs n (calls.Size file) held is e = absurd (none_is held e)
held_within files ranges cs n (calls.Truncate file size) held is e = absurd (none_is held e)
held_within files ranges cs n (calls.Load hold off len) held is e = absurd (none_is held e)
held_within files ranges cs n (calls.Store hold off xs) held is e = absurd (none_is held e)
held_within files ranges cs n (calls.Release hold) held is e = absurd (none_is held e)

by_within : (files ranges : ℕ) (cs : List Call) (hold : ℕ) (held : Wanted) → AreCalls files ranges cs → held_by cs hold ≡ Some held → held.file < files
by_within files ranges cs hold held all e =
    let a = bound (place_of_hold cs hold) (λ at. slice_get cs at >>= held_of) held e in
    let b = bound (slice_get cs a.0) held_of held a.2 in
    held_within files ranges cs a.0 b.0 held (all a.0 b.0 b.1) b.2

through_within : (files ranges : ℕ) (cs : List Call) (hold : ℕ) (o : Option Wanted) (op : ℕ → Op) (a : Asked) → AreCalls files ranges cs → held_by cs hold ≡ o → through_hold o op ≡ Some a → a.file < files
unfolding through_hold
through_within files ranges cs hold None op a all is e = absurd (none_is a e)
through_within files ranges cs hold (Some held) op a all is e = subst (λ (k : ℕ). k < files) (ap (λ (x : Asked). x.file) (some_is _ a e)) (by_within files ranges cs hold held all is)

-- what a call is on is a file of the script
asked_within : (files ranges : ℕ) (cs : List Call) (n : ℕ) (c : Call) (a : Asked) → AreCalls files ranges cs → IsCall files ranges cs n c → asked cs c ≡ Some a → a.file < files
unfolding IsCall asked
asked_within files ranges cs n (calls.Read file off len) a all is e = subst (λ (k : ℕ). k < files) (ap (λ (x : Asked). x.file) (some_is _ a e)) is.0
asked_within files ranges cs n (calls.Write file off xs) a all is e = subst (λ (k : ℕ). k < files) (ap (λ (x : Asked). x.file) (some_is _ a e)) is.0
asked_within files ranges cs n (calls.Fill file off len byte) a all is e = subst (λ (k : ℕ). k < files) (ap (λ (x : Asked). x.file) (some_is _ a e)) is.0
asked_within files ranges cs n (calls.Size file) a all is e = subst (λ (k : ℕ). k < files) (ap (λ (x : Asked). x.file) (some_is _ a e)) is
asked_within files ranges cs n (calls.Truncate file size) a all is e = subst (λ (k : ℕ). k < files) (ap (λ (x : Asked). x.file) (some_is _ a e)) is.0
asked_within files ranges cs n (calls.Hold file chunk mode) a all is e = absurd (none_is a e)
asked_within files ranges cs n (calls.Load hold off len) a all is e = through_within files ranges cs hold (held_by cs hold) _ a all refl e
asked_within files ranges cs n (calls.Store hold off xs) a all is e = through_within files ranges cs hold (held_by cs hold) _ a all refl e
asked_within files ranges cs n (calls.Release hold) a all is e = absurd (none_is a e)

first_told : (fs : List FileLine) (f : ℕ) (l : FileLine) → slice_get fs f ≡ Some l → l.first ≡ first_in (firsts_of fs) f
first_told [] f l at = absurd (none_is l at)
first_told (x ∷ fs) zero l at = ap (λ (y : FileLine). y.first) (sym (some_is x l at))
first_told (x ∷ fs) (suc f) l at = first_told fs f l at

pub played_legal : (s : Script) (t : Transcript) (h : ℕ → List Entry) (logs : ℕ → List LogEntry) → IsPlayable s → t.ranges ≡ s.ranges → t.files ≡ parts_from h logs 0 s.files → HasRun (firsts_of s.files) s.ranges s.background s.guests h logs t.guests → IsLegal s t
played_legal s t h logs may ranges parts ran = legal (first_in (firsts_of s.files)) h logs s t (record {
  ranges = ranges;
  firsts = first_told s.files;
  files = parts;
  count = ran.count;
  guests = ran.runs;
  in_files = λ g n cs c a at at' asks. asked_within (length s.files) s.ranges cs n c a (may.guests.calls g cs at) (may.guests.calls g cs at n c at') asks;
  held_files = λ g n cs c held at at' asks. held_within (length s.files) s.ranges cs n c held (may.guests.calls g cs at n c at') asks;
  known = ran.known;
  sound = λ f lt. sound_log s.ranges (logs f) (ran.sound_logs f (omega (arith, lt, map_len (λ (l : FileLine). l.first) s.files)));
})

-- ---- the logs that are told

log_of_part : (h : ℕ → List Entry) (logs : ℕ → List LogEntry) (n : ℕ) (fs : List FileLine) (f : ℕ) → f < length fs → no_log (slice_get (parts_from h logs n fs) f) ≡ logs (n + f)
log_of_part h logs n [] f lt = absurd (omega (arith, lt))
log_of_part h logs n (x ∷ fs) zero lt = let z : n ≡ n + 0 = omega arith in ap logs z
log_of_part h logs n (x ∷ fs) (suc f) lt = let z : n + 1 + f ≡ n + suc f = omega arith in log_of_part h logs (n + 1) fs f (omega (arith, lt)) ∙ ap logs z

log_of_none : (h : ℕ → List Entry) (logs : ℕ → List LogEntry) (n : ℕ) (fs : List FileLine) (f : ℕ) → length fs ≤ f → no_log (slice_get (parts_from h logs n fs) f) ≡ []
log_of_none h logs n [] f past = refl
log_of_none h logs n (x ∷ fs) zero past = absurd (omega (arith, past))
log_of_none h logs n (x ∷ fs) (suc f) past = log_of_none h logs (n + 1) fs f (omega (arith, past))

-- they are those that were seen, where there are no more than those of the files
pub logs_told : (t : Transcript) (h : ℕ → List Entry) (logs : ℕ → List LogEntry) (fs : List FileLine) → t.files ≡ parts_from h logs 0 fs → ((f : ℕ) → length fs ≤ f → logs f ≡ []) → (f : ℕ) → logs f ≡ log_in t f
unfolding log_in
logs_told t h logs fs files no_more f = elim (cases_lt f (length fs)) [
  | inl lo ↦ (let z : 0 + f ≡ f = omega arith in sym (ap (λ (ps : List FilePart). no_log (slice_get ps f)) files ∙ log_of_part h logs 0 fs f lo ∙ ap logs z))
  | inr past ↦ no_more f past ∙ sym (ap (λ (ps : List FilePart). no_log (slice_get ps f)) files ∙ log_of_none h logs 0 fs f past)
]

-- lines that are fair in some logs are so in the same logs
pub fair_in : (ranges : ℕ) (logs logs' : ℕ → List LogEntry) (cs : List Call) (ls : List Numbered) → ((f : ℕ) → logs f ≡ logs' f) → IsFair ranges logs cs ls → IsFair ranges logs' cs ls
fair_in ranges logs logs' cs ls same fair = subst (λ (l : ℕ → List LogEntry). IsFair ranges l cs ls) (λ i f. same f i) fair

map_last : {A B : Type 0} (F : A → B) (xs : List A) (x : A) → map F (xs ++ x ∷ []) ≡ map F xs ++ F x ∷ []
map_last F [] x = refl
map_last F (y ∷ xs) x = ap (λ (zs : List _). F y ∷ zs) (map_last F xs x)

pub mapped_more : {A B : Type 0} (F : A → B) (xs : List A) (i : ℕ) (x : A) → slice_get xs i ≡ Some x → map F (take (i + 1) xs) ≡ map F (take i xs) ++ F x ∷ []
mapped_more F xs i x at = ap (map F) (take_more xs i x at) ∙ map_last F (take i xs) x

-- ---- what is told of guests that are alone, or have no ranges

pub fair_told : (s : Script) (t : Transcript) (h : ℕ → List Entry) (logs : ℕ → List LogEntry) → t.files ≡ parts_from h logs 0 s.files → HasRun (firsts_of s.files) s.ranges s.background s.guests h logs t.guests → IsFairAlone s t
fair_told s t h logs parts ran = record {
  each = λ none one g cs part at at'.
      fair_in s.ranges logs (log_in t) cs part.lines (logs_told t h logs s.files parts (λ f far. ran.no_more f (omega (arith, far, map_len (λ (l : FileLine). l.first) s.files)))) (ran.fair none one g cs part at at');
}

pub done_told : (s : Script) (t : Transcript) (h : ℕ → List Entry) (logs : ℕ → List LogEntry) → IsPlayable s → HasRun (firsts_of s.files) s.ranges s.background s.guests h logs t.guests → AreLinesDone s t
done_told s t h logs may ran = record {
  without = ran.done;
  alone = λ no_background one g cs part at at' none.
      let r = ran.runs g cs part at at' in
      unheld_done g s.ranges (first_in (firsts_of s.files)) (λ f. 0) h logs (λ f. []) cs part.lines r.run r.count (ran.fair no_background one g cs part at at') may.ranges.not_one none;
}

-- ---- what is told of files

lines_told : (es : List Entry) → map line_of (map mark_of es) ≡ map entry_line es
lines_told [] = refl
lines_told (e ∷ es) = ap (λ (ls : List EntryLine). entry_line e ∷ ls) (lines_told es)

pub part_told : (h : ℕ → List Entry) (logs : ℕ → List LogEntry) (n : ℕ) (line : FileLine) (one : FileTold) → IsFileTold h logs n one → told_part line one ≡ part_of h logs n line
part_told h logs n line one is =
    let entries = ap (map line_of) is.0 ∙ lines_told (h n) in
    λ i. record { name = line.name; first = line.first; entries = entries i; log = is.1 i }
