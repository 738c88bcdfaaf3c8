-- What calls leave of the counts of refused bars.
use Rattle.std.proofs.Common.{◌≡◌, ◌∙◌, ap, sym, refl, subst, ℕ, ◌<◌, List, length, Some, None, Result, Ok, Err, inl, inr, arith}
use Rattle.std.specs.Prelude.{slice_index_or}
use Rattle.std.proofs.lemmas.Bool.{cases_lt}
use mathlib.Core.Logic.{dite}
use native.Mathlib.Decide.{ℕ_discrete}
use Rattle.plain_file.specs.declared.operations.Op.{Op}
use Rattle.plain_file.specs.declared.operations.Way.{Way}
use Rattle.plain_file.specs.declared.operations.Entry.{Entry}
use Rattle.plain_file.specs.declared.operations.Applied.{Applied}
use Rattle.plain_file.specs.declared.refusals.BoardRefusal.{BoardRefusal}
use Rattle.plain_file.specs.declared.refusals.BoardRefusal.TheVariants as boards
use Rattle.plain_file.specs.Board.{FileView, BoardView, no_file, file_at, applied, marked}
use Rattle.plain_file.specs.Turns.{AppliesAs, entered, seen_file, left, leased, unleased, with_bar}
use Rattle.plain_file.proofs.OneFile.{file_at-with_file, file_at-with_other}
use Rattle.guest_wire.specs.Keeps.{KeepsFiles}
use Rattle.guest_dax.specs.Stands.{Stand, StaysFiles}
use Rattle.guest_io.specs.declared.calls.Done.{Done}
use Rattle.guest_io.specs.declared.calls.Refusal.{Refusal}
use Rattle.guest_io.specs.declared.calls.Refusal.TheVariants as refusals
use Rattle.guest_io.specs.Calls.{OthersStay}
use Rattle.guest_io.specs.Requests.{SendsRest}
use Rattle.guest_io.specs.Truncates.{CountsRefusal}
use Rattle.guest_io.specs.Going.{KeepsRefusals}
use Rattle.guest_io.proofs.DirectLaws.{long-set, file-after, others-after}
use Rattle.guest_io.proofs.Staying.{no-more}
use Rattle.guest_io.proofs.Leasing.{LeasesAlone, alone-leased, alone-unleased, alone-lease, after_lease}

-- ---- boards of files

pub KeepsRefusals-both : (u v w : BoardView) → KeepsRefusals u v → KeepsRefusals v w → KeepsRefusals u w
KeepsRefusals-both u v w a b f = b f ∙ a f

-- where one file has the same count, and the others are as before, each has
refusals-by : (v w : BoardView) (file : ℕ) → (file_at w file).refusals ≡ (file_at v file).refusals → OthersStay v file w → KeepsRefusals v w
refusals-by v w file here others f =
    dite (ℕ_discrete f file)
    (λ e. ap (λ n. (file_at w n).refusals) e ∙ here ∙ ap (λ n. (file_at v n).refusals) (sym e))
    (λ else. ap (λ (x : FileView). x.refusals) (others f else))

-- where each of the files has, every number has
refusals-each : (v w : BoardView) → length w.files ≡ length v.files → ((f : ℕ) → f < length v.files → (file_at w f).refusals ≡ (file_at v f).refusals) → KeepsRefusals v w
refusals-each v w count each f = elim (cases_lt f (length v.files)) [
  | inl lo ↦ each f lo
  | inr past ↦ ap (λ (x : FileView). x.refusals) (no-more w.files f (omega (arith, past, count)) ∙ sym (no-more v.files f past))
]

pub KeepsRefusals-stay : (v w : BoardView) → StaysFiles v w → KeepsRefusals v w
KeepsRefusals-stay v w k = refusals-each v w k.count (λ f within. (k.each f within).refusals)

pub KeepsRefusals-kept : (v w : BoardView) (call : ℕ) (way : Way) → KeepsFiles (marked v call way) w → KeepsRefusals v w
KeepsRefusals-kept v w call way k = refusals-each v w k.count (λ f within. (k.each f within).refusals)

-- ---- by a request

pub KeepsRefusals-sent : (s t : Stand) (call : ℕ) (way : Way) → SendsRest s call way t → KeepsRefusals s.files t.files
KeepsRefusals-sent s t call way k = KeepsRefusals-kept s.files t.files call way k.files

-- what is sent from a board with a mark
pub KeepsRefusals-marked : (v m w : BoardView) (call : ℕ) (way : Way) → m ≡ marked v call way → KeepsFiles m w → KeepsRefusals v w
KeepsRefusals-marked v m w call way is k = KeepsRefusals-kept v w call way (subst (λ (b : BoardView). KeepsFiles b w) is k)

-- ---- under the turn

refusals-applied : (v : BoardView) (file call : ℕ) (way : Way) (more : List Entry) (op : Op) → file < length v.files → KeepsRefusals v (left (applied (entered (marked v call way) file more) file op) file)
refusals-applied v file call way more op within =
    let m = marked v call way in
    refusals-by v (left (applied (entered m file more) file op) file) file (ap (λ (x : FileView). x.refusals) (file-after m file more op within)) (others-after m file more op)

refusals-seen : (v : BoardView) (file call : ℕ) (way : Way) (more : List Entry) → file < length v.files → KeepsRefusals v (left (entered (marked v call way) file more) file)
refusals-seen v file call way more within =
    let m = marked v call way in
    let seen = seen_file (file_at m file) more in
    let e = entered m file more in
    let last : FileView = record (file_at e file) { ready = v.plain } in
    let here : file_at e file ≡ seen = file_at-with_file m file seen within in
    let in_e : file < length e.files = subst (λ n. file < n) (sym (long-set m file seen)) within in
    let there : file_at (left e file) file ≡ last = file_at-with_file e file last in_e in
    refusals-by v (left e file) file (ap (λ (x : FileView). x.refusals) there ∙ ap (λ (x : FileView). x.refusals) here) (λ j else. file_at-with_other e file j last else ∙ file_at-with_other m file j seen else)

refusals-at : (v w mid x : BoardView) (file : ℕ) → w ≡ left mid file → mid ≡ x → KeepsRefusals v (left x file) → KeepsRefusals v w
refusals-at v w mid x file last is k = subst (λ (b : BoardView). KeepsRefusals v b) (sym (last ∙ ap (λ (b : BoardView). left b file) is)) k

pub KeepsRefusals-as : (v : BoardView) (file call : ℕ) (way : Way) (op : Op) (result : Result Applied BoardRefusal) (w : BoardView) → file < length v.files → AppliesAs (marked v call way) file op result w → KeepsRefusals v w
KeepsRefusals-as v file call way op (Ok a) w within (more, mid, others, sound, (may, is, d), last) = refusals-at v w mid (applied (entered (marked v call way) file more) file op) file last d (refusals-applied v file call way more op within)
KeepsRefusals-as v file call way op (Err (boards.Unbarred size)) w within (more, mid, others, sound, (may, is, d), last) = refusals-at v w mid (entered (marked v call way) file more) file last d (refusals-seen v file call way more within)
KeepsRefusals-as v file call way op (Err boards.Memory) w within (more, mid, others, sound, d, last) = refusals-at v w mid (entered (marked v call way) file more) file last d (refusals-seen v file call way more within)

-- ---- leases

refusals-alone : (v w : BoardView) (file : ℕ) → LeasesAlone v w file → KeepsRefusals v w
refusals-alone v w file k = refusals-by v w file k.refusals k.stay

pub KeepsRefusals-leased : (v l : BoardView) (file z : ℕ) → file < length v.files → l ≡ leased v file z → KeepsRefusals v l
KeepsRefusals-leased v l file z within is = subst (λ (b : BoardView). KeepsRefusals v b) (sym is) (refusals-alone v (leased v file z) file (alone-leased v file z within))

pub KeepsRefusals-unleased : (v w : BoardView) (file : ℕ) → file < length v.files → w ≡ unleased v file → KeepsRefusals v w
KeepsRefusals-unleased v w file within is = subst (λ (b : BoardView). KeepsRefusals v b) (sym is) (refusals-alone v (unleased v file) file (alone-unleased v file within))

-- after a lease that is given back a request is sent
pub refusals-request : (v n w : BoardView) (file call z : ℕ) (way : Way) → file < length v.files → n ≡ after_lease v file z → KeepsFiles (marked n call way) w → KeepsRefusals v w
refusals-request v n w file call z way within is k =
    KeepsRefusals-both v n w (subst (λ (b : BoardView). KeepsRefusals v b) (sym is) (refusals-alone v (after_lease v file z) file (alone-lease v file z within))) (KeepsRefusals-kept n w call way k)

-- what is done under a lease
pub refusals-under : (v l w n : BoardView) (file z : ℕ) → file < length v.files → file < length w.files → l ≡ leased v file z → n ≡ unleased w file → KeepsRefusals l w → KeepsRefusals v n
refusals-under v l w n file z in_v in_w is last k =
    KeepsRefusals-both v w n (KeepsRefusals-both v l w (KeepsRefusals-leased v l file z in_v is) k) (KeepsRefusals-unleased w n file in_w last)

-- a chunk is got under a lease
pub refusals-got : (v l w : BoardView) (file z : ℕ) → file < length v.files → l ≡ leased v file z → StaysFiles l w → KeepsRefusals v w
refusals-got v l w file z within is k = KeepsRefusals-both v l w (KeepsRefusals-leased v l file z within is) (KeepsRefusals-stay l w k)

-- none is got, and the lease is given back
pub refusals-refused : (v l w n : BoardView) (file z : ℕ) → file < length v.files → l ≡ leased v file z → n ≡ unleased w file → StaysFiles l w → KeepsRefusals v n
refusals-refused v l w n file z within is last k =
    let long : length l.files ≡ length v.files = ap (λ (b : BoardView). length b.files) is ∙ (alone-leased v file z within).count in
    let count = k.count in
    refusals-under v l w n file z within (omega (arith, within, long, count)) is last (KeepsRefusals-stay l w k)

-- ---- the bar

refusals-files : (v w : BoardView) → w.files ≡ v.files → KeepsRefusals v w
refusals-files v w e f = ap (λ (l : List FileView). (slice_index_or l f no_file).refusals) e

CountsRefusal-kept : (v w : BoardView) (r : Result Done Refusal) → KeepsRefusals v w → CountsRefusal v r w
CountsRefusal-kept v w (Ok d) k = k
CountsRefusal-kept v w (Err (refusals.Busy looked)) k = k
CountsRefusal-kept v w (Err (refusals.Leased count)) k = tt
CountsRefusal-kept v w (Err (refusals.NoHold hold)) k = k
CountsRefusal-kept v w (Err (refusals.Past end)) k = k
CountsRefusal-kept v w (Err (refusals.Errno number)) k = k
CountsRefusal-kept v w (Err (refusals.BadReply bytes)) k = k
CountsRefusal-kept v w (Err refusals.WireFault) k = k
CountsRefusal-kept v w (Err refusals.Memory) k = k

-- a request under the bar, which is given back
pub CountsRefusal-barred : (v m n w : BoardView) (file call : ℕ) (way : Way) (r : Result Done Refusal) → m ≡ with_bar v (Some file) → w ≡ with_bar n None → KeepsFiles (marked m call way) n → CountsRefusal v r w
CountsRefusal-barred v m n w file call way r is back k =
    CountsRefusal-kept v w r (
    KeepsRefusals-both v n w (KeepsRefusals-both v m n (refusals-files v m (ap (λ (b : BoardView). b.files) is)) (KeepsRefusals-kept m n call way k)) (refusals-files n w (ap (λ (b : BoardView). b.files) back)))
