-- What a request about a file leaves of the board of files, as one entry of its history.
use Rattle.std.proofs.Common.{◌≡◌, ◌∙◌, ap, sym, refl, subst, arith, ℕ, zero, suc, ◌-◌, ◌<◌, Bool, true, false, true≢false, List, [], ◌∷◌, ◌++◌, length, get_or, Some, None, inl}
use Rattle.std.specs.Prelude.{slice_get, All, ◌≢◌}
use Rattle.std.proofs.lemmas.Grind.{common_steps}
use Rattle.std.proofs.lemmas.List.{append-nil}
use mathlib.Core.Logic.{dite}
use native.Mathlib.Decide.{ℕ_discrete}
use Rattle.plain_file.specs.declared.operations.Op.{Op}
use Rattle.plain_file.specs.declared.operations.Op.TheVariants as ops
use Rattle.plain_file.specs.declared.operations.Way.{Way}
use Rattle.plain_file.specs.declared.operations.Applied.{Applied}
use Rattle.plain_file.specs.declared.operations.Entry.{Entry}
use Rattle.plain_file.specs.File.{after}
use Rattle.plain_file.specs.History.{bytes}
use Rattle.plain_file.specs.Board.{FileView, BoardView, IsReady, file_at, with_own, entry_of, applied, marked, file_answer, bytes_now, size_of, last_of}
use Rattle.plain_file.specs.Turns.{AreOthers, entered, seen_file, left}
use Rattle.plain_file.specs.Sound.{IsPlaceOf, IsSoundBoard}
use Rattle.plain_file.proofs.Grows.{bytes-grown}
use Rattle.plain_file.proofs.OneFile.{file_at-with_file, file_at-with_other}
use Rattle.guest_io.specs.Calls.{IsDone, Directs}
use Rattle.guest_io.specs.Requests.{IsUndone}
use Rattle.guest_io.proofs.Asked.{mid, back}
use Rattle.guest_io.proofs.Noting.{keeps-by}
use Rattle.guest_io.proofs.DirectLaws.{directs, file-after, long-set}

-- ---- the one entry

none-more : (g : ℕ) → All (λ (e : Entry). e.guest ≢ g) []
none-more g k d within = absurd (omega arith)

-- on a plain board
directs-whole : (v : BoardView) (file : ℕ) (op : Op) (a : Applied) → file < length v.files → v.plain ≡ true → a ≡ file_answer (file_at v file) op → Directs v file v.mark.call v.mark.way op (record { place = a.place; answer = a.answer }) (applied v file op)
unfolding file_answer bytes_now
directs-whole v file op a within plain is =
    let f = file_at v file in
    let own : FileView = with_own v.plain (entry_of v op) f in
    let here : file_at (applied v file op) file ≡ own = file_at-with_file v file own within in
    let nil : f.history ++ [] ≡ f.history = append-nil f.history in
    let place : a.place ≡ length f.history = ap (λ (x : Applied). x.place) is in
    record {
      done = subst (λ (g : FileView). IsDone v.guest v.mark.call op v.mark.way f g (record { place = a.place; answer = a.answer })) (sym here) (record {
        more = [];
        others = none-more v.guest;
        first = refl;
        history = ap (λ (h : List Entry). h ++ entry_of v op ∷ []) (sym nil);
        place = place ∙ ap (λ (h : List Entry). length h) (sym nil);
        own = ap (λ n. f.own ++ n ∷ []) (sym place);
        answered = rw nil (ap (λ (x : Applied). x.answer) is);
      });
      others = λ j else. file_at-with_other v file j own else;
      hands = refl;
      guest = refl;
      count = long-set v file own;
      closes = λ shared. absurd (true≢false (sym plain ∙ shared));
    }

pub directs-by : (stays : Bool) (v : BoardView) (file : ℕ) (more : List Entry) (op : Op) (a : Applied) → file < length v.files → v.hands.turn ≡ None → AreOthers v more → a ≡ file_answer (file_at (mid stays v file more) file) op
    → (stays ≡ false → v.plain ≡ true) → IsSoundBoard (back stays (applied (mid stays v file more) file op) file) file → Directs v file v.mark.call v.mark.way op (record { place = a.place; answer = a.answer }) (back stays (applied (mid stays v file more) file op) file)
directs-by true v file more op a within free others is whole sound = directs v file more op a within free others is sound
directs-by false v file more op a within free others is whole sound = directs-whole v file op a within (whole refl) is

-- ---- no entry

undone-seen : (v : BoardView) (file : ℕ) (more : List Entry) → file < length v.files → AreOthers v more → IsSoundBoard (left (entered v file more) file) file → IsUndone v file (left (entered v file more) file)
undone-seen v file more within others sound =
    let e = entered v file more in
    let seen = seen_file (file_at v file) more in
    let here : file_at e file ≡ seen = file_at-with_file v file seen within in
    let in_e : file < length e.files = rw (long-set v file seen) within in
    let after_it : file_at (left e file) file ≡ record seen { ready = v.plain } = file_at-with_file e file (record (file_at e file) { ready = v.plain }) in_e ∙ ap (λ (x : FileView). record x { ready = v.plain }) here in
    record {
      more = more;
      others = others.others;
      history = ap (λ (x : FileView). x.history) after_it;
      own = ap (λ (x : FileView). x.own) after_it;
      notes = keeps-by v.guest v.plain (file_at v file) (file_at (left e file) file) more (ap (λ (x : FileView). x.notes) after_it) (ap (λ (x : FileView). x.history) after_it) sound.sound;
      stay = λ j else. file_at-with_other e file j (record (file_at e file) { ready = v.plain }) else ∙ file_at-with_other v file j seen else;
    }

pub undone-same : (v : BoardView) (file : ℕ) → IsUndone v file v
undone-same v file = record { more = []; others = none-more v.guest; history = sym (append-nil (file_at v file).history); own = refl; notes = λ k n at none. inl at; stay = λ j else. refl }

pub undone-by : (stays : Bool) (v : BoardView) (file : ℕ) (more : List Entry) → file < length v.files → AreOthers v more → IsSoundBoard (back stays (mid stays v file more) file) file → IsUndone v file (back stays (mid stays v file more) file)
undone-by true v file more within others sound = undone-seen v file more within others sound
undone-by false v file more within others sound = undone-same v file

-- the board without its mark
pub undone-unmarked : (v : BoardView) (call : ℕ) (way : Way) (file : ℕ) (w : BoardView) → IsUndone (marked v call way) file w → IsUndone v file w
undone-unmarked v call way file w h = record { more = h.more; others = h.others; history = h.history; own = h.own; stay = h.stay; notes = h.notes }

-- ---- a size that is asked for changes no bytes

grown-size : (f g : FileView) (e : Entry) → e.op ≡ ops.Size → g.first ≡ f.first → g.history ≡ f.history ++ e ∷ [] → size_of g ≡ size_of f
unfolding bytes_now after
grown-size f g e is first history =
    ap length (ap (λ p. bytes p g.history (length g.history)) first ∙ ap (λ (h : List Entry). bytes f.first h (length h)) history ∙ bytes-grown f.first f.history e ∙ ap (after (bytes f.first f.history (length f.history))) is)

pub size-kept : (stays : Bool) (v : BoardView) (file : ℕ) (more : List Entry) (op : Op) → file < length v.files → op ≡ ops.Size → size_of (file_at (back stays (applied (mid stays v file more) file op) file) file) ≡ size_of (file_at (mid stays v file more) file)
size-kept true v file more op within is =
    let seen = seen_file (file_at v file) more in
    let here : file_at (entered v file more) file ≡ seen = file_at-with_file v file seen within in
    let there = file-after v file more op within in
    grown-size (file_at (entered v file more) file) (file_at (left (applied (entered v file more) file op) file) file) (entry_of v op) is
    (ap (λ (x : FileView). x.first) there ∙ sym (ap (λ (x : FileView). x.first) here))
    (ap (λ (x : FileView). x.history) there ∙ sym (ap (λ (x : FileView). x.history ++ entry_of v op ∷ []) here))
size-kept false v file more op within is =
    let own : FileView = with_own v.plain (entry_of v op) (file_at v file) in
    let here : file_at (applied v file op) file ≡ own = file_at-with_file v file own within in
    grown-size (file_at v file) (file_at (applied v file op) file) (entry_of v op) is (ap (λ (x : FileView). x.first) here) (ap (λ (x : FileView). x.history) here)

-- ---- the files of a plain board stay ready

pub ready-applied : (v : BoardView) (file : ℕ) (op : Op) (f : ℕ) → v.plain ≡ true → f < length v.files → IsReady v f → IsReady (applied v file op) f
ready-applied v file op f plain within ready =
    let own : FileView = with_own v.plain (entry_of v op) (file_at v file) in
    dite (ℕ_discrete f file)
    (λ e. ap (λ (x : FileView). x.ready) (ap (file_at (applied v file op)) e ∙ file_at-with_file v file own (subst (λ n. n < length v.files) e within)) ∙ plain)
    (λ else. ap (λ (x : FileView). x.ready) (file_at-with_other v file f own else) ∙ ready)

-- ---- the newest own entry

at-end : (xs : List ℕ) (x : ℕ) → slice_get (xs ++ x ∷ []) (length xs) ≡ Some x
at-end [] x = refl
at-end (y ∷ ys) x = at-end ys x

pub last-one : (xs : List ℕ) (x : ℕ) → last_of (xs ++ x ∷ []) ≡ Some x
last-one xs x =
    let n : length (xs ++ x ∷ []) - 1 ≡ length xs = grind (arith, common_steps) in
    ap (slice_get (xs ++ x ∷ [])) n ∙ at-end xs x

get-within : (xs : List Entry) (n : ℕ) (e : Entry) → slice_get xs n ≡ Some e → n < length xs
get-within [] n e h = absurd cc
get-within (x ∷ xs) zero e h = omega arith
get-within (x ∷ xs) (suc n) e h = let k = get-within xs n e h in omega arith

get-own : (xs : List ℕ) (n p : ℕ) → slice_get xs n ≡ Some p → (n < length xs) × (get_or xs n 0 ≡ p)
get-own [] n p h = absurd cc
get-own (x ∷ xs) zero p h = (omega arith, cc)
get-own (x ∷ xs) (suc n) p h = let k = get-own xs n p h in (omega (arith, k.0), k.1)

-- an own entry from before lies in the history from before
pub own-within : (guest : ℕ) (f : FileView) (p : ℕ) → All (IsPlaceOf guest f.history) f.own → last_of f.own ≡ Some p → p < length f.history
own-within guest f p all last =
    let k = get-own f.own (length f.own - 1) p last in
    let at = all (length f.own - 1) 0 k.0 in
    subst (λ n. n < length f.history) k.1 (get-within f.history (get_or f.own (length f.own - 1) 0) at.0 at.1)
