-- What an operation under a file's turn leaves of a board, whatever it answers.
use Rattle.std.proofs.Common.{◌≡◌, ◌∙◌, ap, sym, refl, subst, ℕ, zero, suc, ◌<◌, ◌≤◌, List, [], ◌∷◌, length, get_or, None, Result, Ok, Err, true, inl, inr, arith}
use Rattle.std.proofs.lemmas.Bool.{cases_lt}
use mathlib.Core.Logic.{dite}
use native.Mathlib.Decide.{ℕ_discrete}
use Rattle.plain_file.specs.declared.operations.Op.{Op}
use Rattle.plain_file.specs.declared.operations.Way.{Way}
use Rattle.plain_file.specs.declared.operations.Entry.{Entry}
use Rattle.plain_file.specs.declared.operations.Applied.{Applied}
use Rattle.plain_file.specs.declared.refusals.BoardRefusal.{BoardRefusal}
use Rattle.plain_file.specs.declared.refusals.BoardRefusal.TheVariants as refusals
use Rattle.plain_file.specs.Board.{FileView, BoardView, no_file, file_at, applied, marked}
use Rattle.plain_file.specs.Sound.{IsSoundBoard}
use Rattle.plain_file.specs.Turns.{AppliesAs, AreOthers, entered, seen_file, left}
use Rattle.plain_file.proofs.OneFile.{file_at-with_file, file_at-with_other}
use Rattle.guest_wire.specs.Keeps.{KeepsFiles}
use Rattle.guest_dax.specs.Stands.{StaysFiles}
use Rattle.guest_io.specs.Calls.{OthersStay}
use Rattle.guest_io.specs.Requests.{IsUndone}
use Rattle.guest_io.specs.Going.{StaysBoard}
use Rattle.guest_io.proofs.DirectLaws.{long-set, file-after, others-after, count-after, no-turn}
use Rattle.guest_io.proofs.Entered.{undone-by, undone-unmarked}

-- ---- first contents

-- where one file has the same first contents, and the others are as before, each has
pub firsts-by : (v w : BoardView) (file : ℕ) → (file_at w file).first ≡ (file_at v file).first → OthersStay v file w → (f : ℕ) → (file_at w f).first ≡ (file_at v f).first
firsts-by v w file here others f =
    dite (ℕ_discrete f file)
    (λ e. ap (λ n. (file_at w n).first) e ∙ here ∙ ap (λ n. (file_at v n).first) (sym e))
    (λ else. ap (λ (x : FileView). x.first) (others f else))

pub no-more : (fs : List FileView) (f : ℕ) → length fs ≤ f → get_or fs f no_file ≡ no_file
no-more [] f h = refl
no-more (x ∷ fs) zero h = absurd (omega (arith, h))
no-more (x ∷ fs) (suc f) h = no-more fs f (omega (arith, h))

-- where each of the files has, every number has
pub firsts-each : (v w : BoardView) → length w.files ≡ length v.files → ((f : ℕ) → f < length v.files → (file_at w f).first ≡ (file_at v f).first) → (f : ℕ) → (file_at w f).first ≡ (file_at v f).first
firsts-each v w count each f = elim (cases_lt f (length v.files)) [
  | inl lo ↦ each f lo
  | inr past ↦ ap (λ (x : FileView). x.first) (no-more w.files f (omega (arith, past, count)) ∙ sym (no-more v.files f past))
]

pub StaysBoard-files : (v w : BoardView) → StaysFiles v w → StaysBoard v w
StaysBoard-files v w k = record { guest = k.guest; plain = k.plain; over = k.over; may_lease = k.may_lease; others = k.others; hands = k.hands; count = k.count; firsts = firsts-each v w k.count (λ f within. (k.each f within).first) }

pub StaysBoard-kept : (v w : BoardView) (call : ℕ) (way : Way) → KeepsFiles (marked v call way) w → StaysBoard v w
StaysBoard-kept v w call way k = record { guest = k.guest; plain = k.plain; over = k.over; may_lease = k.may_lease; others = k.others; hands = k.hands; count = k.count; firsts = firsts-each v w k.count (λ f within. (k.each f within).first) }

pub StaysBoard-both : (u v w : BoardView) → StaysBoard u v → StaysBoard v w → StaysBoard u w
StaysBoard-both u v w a b = record { guest = b.guest ∙ a.guest; plain = b.plain ∙ a.plain; over = b.over ∙ a.over; may_lease = b.may_lease ∙ a.may_lease; others = b.others ∙ a.others; hands = b.hands ∙ a.hands; count = b.count ∙ a.count; firsts = λ f. b.firsts f ∙ a.firsts f }

-- ---- under the turn

stays-applied : (v : BoardView) (file call : ℕ) (way : Way) (more : List Entry) (op : Op) → file < length v.files → v.hands.turn ≡ None → StaysBoard v (left (applied (entered (marked v call way) file more) file op) file)
stays-applied v file call way more op within free =
    let m = marked v call way in
    let w = left (applied (entered m file more) file op) file in
    record { guest = refl; plain = refl; over = refl; may_lease = refl; others = refl; hands = no-turn v.hands free; count = count-after m file more op; firsts = firsts-by v w file (ap (λ (x : FileView). x.first) (file-after m file more op within)) (others-after m file more op) }

stays-seen : (v : BoardView) (file call : ℕ) (way : Way) (more : List Entry) → file < length v.files → v.hands.turn ≡ None → StaysBoard v (left (entered (marked v call way) file more) file)
stays-seen v file call way more within free =
    let m = marked v call way in
    let seen = seen_file (file_at m file) more in
    let e = entered m file more in
    let last : FileView = record (file_at e file) { ready = v.plain } in
    let here : file_at e file ≡ seen = file_at-with_file m file seen within in
    let in_e : file < length e.files = subst (λ n. file < n) (sym (long-set m file seen)) within in
    let there : file_at (left e file) file ≡ last = file_at-with_file e file last in_e in
    record {
      guest = refl;
      plain = refl;
      over = refl;
      may_lease = refl;
      others = refl;
      hands = no-turn v.hands free;
      count = long-set e file last ∙ long-set m file seen;
      firsts = firsts-by v (left e file) file (ap (λ (x : FileView). x.first) there ∙ ap (λ (x : FileView). x.first) here) (λ j else. file_at-with_other e file j last else ∙ file_at-with_other m file j seen else);
    }

stays-at : (v w mid x : BoardView) (file : ℕ) → w ≡ left mid file → mid ≡ x → StaysBoard v (left x file) → StaysBoard v w
stays-at v w mid x file last is k = subst (λ (b : BoardView). StaysBoard v b) (sym (last ∙ ap (λ (b : BoardView). left b file) is)) k

pub StaysBoard-as : (v : BoardView) (file call : ℕ) (way : Way) (op : Op) (result : Result Applied BoardRefusal) (w : BoardView) → file < length v.files → v.hands.turn ≡ None → AppliesAs (marked v call way) file op result w → StaysBoard v w
StaysBoard-as v file call way op (Ok a) w within free (more, mid, others, sound, (may, is, d), last) = stays-at v w mid (applied (entered (marked v call way) file more) file op) file last d (stays-applied v file call way more op within free)
StaysBoard-as v file call way op (Err (refusals.Unbarred size)) w within free (more, mid, others, sound, (may, is, d), last) = stays-at v w mid (entered (marked v call way) file more) file last d (stays-seen v file call way more within free)
StaysBoard-as v file call way op (Err refusals.Memory) w within free (more, mid, others, sound, d, last) = stays-at v w mid (entered (marked v call way) file more) file last d (stays-seen v file call way more within free)

undone-at : (v w mid : BoardView) (file call : ℕ) (way : Way) (more : List Entry) → file < length v.files → AreOthers (marked v call way) more → w ≡ left mid file → mid ≡ entered (marked v call way) file more → IsSoundBoard w file → IsUndone v file w
undone-at v w mid file call way more within others last is sound =
    let e = last ∙ ap (λ (b : BoardView). left b file) is in
    subst (λ (b : BoardView). IsUndone v file b) (sym e) (undone-unmarked v call way file (left (entered (marked v call way) file more) file) (undone-by true (marked v call way) file more within others (subst (λ (b : BoardView). IsSoundBoard b file) e sound)))

pub IsUndone-as : (v : BoardView) (file call : ℕ) (way : Way) (op : Op) (result : Result Applied BoardRefusal) (e : BoardRefusal) (w : BoardView) → file < length v.files → result ≡ Err e → AppliesAs (marked v call way) file op result w → IsSoundBoard w file → IsUndone v file w
IsUndone-as v file call way op (Ok a) e w within is h now = absurd cc
IsUndone-as v file call way op (Err (refusals.Unbarred size)) e w within is (more, mid, others, sound, (may, by, d), last) now = undone-at v w mid file call way more within others last d now
IsUndone-as v file call way op (Err refusals.Memory) e w within is (more, mid, others, sound, d, last) now = undone-at v w mid file call way more within others last d now
