-- One operation under a file's turn.
use Rattle.std.proofs.Common.{◌≡◌, ◌∙◌, ap, sym, refl, subst, ℕ, ◌<◌, ◌≤◌, Bool, true, false, List, [], ◌∷◌, ◌++◌, length, take, Option, None, Ok, arith}
use Rattle.std.specs.Prelude.{IfSome}
use Rattle.std.proofs.lemmas.Grind.{common_steps}
use Rattle.std.proofs.lemmas.List.{append-nil}
use Rattle.plain_file.specs.declared.operations.Op.{Op}
use Rattle.plain_file.specs.declared.operations.Way.{Way}
use Rattle.plain_file.specs.declared.operations.Entry.{Entry}
use Rattle.plain_file.specs.declared.operations.First.{First}
use Rattle.plain_file.specs.declared.operations.Applied.{Applied}
use Rattle.plain_file.specs.History.{bytes, size}
use Rattle.plain_file.specs.Board.{FileView, FileHands, BoardView, file_at, with_file, with_own, entry_of, applied, marked, file_answer, bytes_now, size_of}
use Rattle.plain_file.specs.Turns.{AppliesAs, AreOthers, entered, seen_file, left}
use Rattle.plain_file.specs.Sound.{IsSoundBoard}
use Rattle.plain_file.proofs.OneFile.{file_at-with_file, file_at-with_other}
use Rattle.guest_io.specs.declared.calls.Done.{Done}
use Rattle.guest_io.specs.Calls.{IsDone, Directs, KeepsFloor, OthersStay}
use Rattle.guest_io.specs.Chunks.{AppliesDirect}
use Rattle.guest_io.proofs.Noting.{closes-by}

-- the bytes before the last entry
pub bytes-before : (first : First) (h : List Entry) (e : Entry) → bytes first (h ++ e ∷ []) (length h) ≡ bytes first h (length h)
unfolding bytes
bytes-before first h e =
    let t : take (length h) (h ++ e ∷ []) ≡ take (length h) h = grind (arith, common_steps) in
    rw t refl

pub long-set : (v : BoardView) (i : ℕ) (f : FileView) → length (with_file v i f).files ≡ length v.files
long-set v i f = grind (arith, common_steps)

-- the file afterwards
pub file-after : (v : BoardView) (file : ℕ) (more : List Entry) (op : Op) → file < length v.files → file_at (left (applied (entered v file more) file op) file) file ≡ record (with_own v.plain (entry_of v op) (seen_file (file_at v file) more)) { ready = v.plain }
file-after v file more op within =
    let f = seen_file (file_at v file) more in
    let e = entered v file more in
    let m = applied e file op in
    let in_e : file < length e.files = rw (long-set v file f) within in
    let here : file_at e file ≡ f = file_at-with_file v file f within in
    let own : FileView = with_own v.plain (entry_of v op) (file_at e file) in
    let in_m : file < length m.files = rw (long-set e file own) in_e in
    let there : file_at m file ≡ own = file_at-with_file e file own in_e in
    file_at-with_file m file (record (file_at m file) { ready = v.plain }) in_m
    ∙ ap (λ (x : FileView). record x { ready = v.plain }) (there ∙ ap (λ (x : FileView). with_own v.plain (entry_of v op) x) here)

pub others-after : (v : BoardView) (file : ℕ) (more : List Entry) (op : Op) → OthersStay v file (left (applied (entered v file more) file op) file)
others-after v file more op j else =
    let f = seen_file (file_at v file) more in
    let e = entered v file more in
    let own : FileView = with_own v.plain (entry_of v op) (file_at e file) in
    let m = applied e file op in
    file_at-with_other m file j (record (file_at m file) { ready = v.plain }) else ∙ file_at-with_other e file j own else ∙ file_at-with_other v file j f else

pub count-after : (v : BoardView) (file : ℕ) (more : List Entry) (op : Op) → length (left (applied (entered v file more) file op) file).files ≡ length v.files
count-after v file more op =
    let f = seen_file (file_at v file) more in
    let e = entered v file more in
    let own : FileView = with_own v.plain (entry_of v op) (file_at e file) in
    let m = applied e file op in
    long-set m file (record (file_at m file) { ready = v.plain }) ∙ long-set e file own ∙ long-set v file f

pub no-turn : (h : FileHands) → h.turn ≡ None → record h { turn = None } ≡ h
no-turn h e = ap (λ (t : Option ℕ). record h { turn = t }) (sym e)

floor-seen : (plain : Bool) (v : BoardView) (file : ℕ) (more : List Entry) → v.plain ≡ plain → file < length v.files → AreOthers v more → IsSoundBoard (entered v file more) file → (v.plain ≡ true → IfSome (file_at v file).floor (λ z. z ≤ size_of (file_at v file))) → IfSome (file_at v file).floor (λ z. z ≤ size_of (seen_file (file_at v file) more))
unfolding bytes_now
floor-seen true v file more plain within others sound h =
    let none : more ≡ [] = others.plain plain in
    subst (λ (m : List Entry). IfSome (file_at v file).floor (λ z. z ≤ size_of (seen_file (file_at v file) m))) (sym none)
    (subst (λ (l : List Entry). IfSome (file_at v file).floor (λ z. z ≤ length (bytes (file_at v file).first l (length l)))) (sym (append-nil (file_at v file).history)) (h plain))
floor-seen false v file more plain within others sound h =
    let here : file_at (entered v file more) file ≡ seen_file (file_at v file) more = file_at-with_file v file (seen_file (file_at v file) more) within in
    let known = sound.sound.floor plain (ap (λ (f : FileView). f.ready) here) in
    subst (λ (f : FileView). IfSome f.floor (λ z. z ≤ size_of f)) here known

pub directs : (v : BoardView) (file : ℕ) (more : List Entry) (op : Op) (a : Applied) → file < length v.files → v.hands.turn ≡ None → AreOthers v more → a ≡ file_answer (file_at (entered v file more) file) op → IsSoundBoard (left (applied (entered v file more) file op) file) file →
    Directs v file v.mark.call v.mark.way op (record { place = a.place; answer = a.answer }) (left (applied (entered v file more) file op) file)
unfolding file_answer bytes_now
directs v file more op a within free others is sound =
    let f = file_at v file in
    let here : file_at (entered v file more) file ≡ seen_file f more = file_at-with_file v file (seen_file f more) within in
    let answers : a ≡ file_answer (seen_file f more) op = is ∙ ap (λ (x : FileView). file_answer x op) here in
    let place : a.place ≡ length (f.history ++ more) = ap (λ (x : Applied). x.place) answers in
    let after = file-after v file more op within in
    record {
      done = subst (λ (g : FileView). IsDone v.guest v.mark.call op v.mark.way f g (record { place = a.place; answer = a.answer })) (sym after) (record {
        more = more;
        others = others.others;
        first = refl;
        history = refl;
        place = place;
        own = ap (λ n. f.own ++ n ∷ []) (sym place);
        answered = ap (λ (x : Applied). x.answer) answers;
      });
      others = others-after v file more op;
      hands = no-turn v.hands free;
      guest = refl;
      count = count-after v file more op;
      closes = λ shared. closes-by v.guest v.plain f (file_at (left (applied (entered v file more) file op) file) file) more (entry_of v op) (ap (λ (x : FileView). x.notes) after) (ap (λ (x : FileView). x.history) after) sound.sound;
    }

floor-after : (v : BoardView) (file : ℕ) (more : List Entry) (op : Op) (a : Applied) → file < length v.files → AreOthers v more → IsSoundBoard (entered v file more) file → a ≡ file_answer (file_at (entered v file more) file) op →
    KeepsFloor v file (record { place = a.place; answer = a.answer }) (left (applied (entered v file more) file op) file)
unfolding file_answer bytes_now
floor-after v file more op a within others sound is h =
    let f = file_at v file in
    let e = entry_of v op in
    let here : file_at (entered v file more) file ≡ seen_file f more = file_at-with_file v file (seen_file f more) within in
    let place : a.place ≡ length (f.history ++ more) = ap (λ (x : Applied). x.place) (is ∙ ap (λ (x : FileView). file_answer x op) here) in
    subst (λ (g : FileView). IfSome f.floor (λ z. z ≤ size g.first g.history a.place)) (sym (file-after v file more op within)) (
    subst (λ n. IfSome f.floor (λ z. z ≤ size f.first ((f.history ++ more) ++ e ∷ []) n)) (sym place) (
    subst (λ (b : List ℕ). IfSome f.floor (λ z. z ≤ length b)) (sym (bytes-before f.first (f.history ++ more) e)) (floor-seen v.plain v file more refl within others sound h)))

-- the board without its mark
pub Directs-unmarked : (v : BoardView) (file call : ℕ) (way : Way) (op : Op) (d : Done) (w : BoardView) → Directs (marked v call way) file call way op d w → Directs v file call way op d w
Directs-unmarked v file call way op d w t = record { done = t.done; others = t.others; hands = t.hands; guest = t.guest; count = t.count; closes = t.closes }

pub Directs-as : (v : BoardView) (file call : ℕ) (way : Way) (op : Op) (a : Applied) (w : BoardView) → file < length v.files → v.hands.turn ≡ None → AppliesAs (marked v call way) file op (Ok a) w → IsSoundBoard w file → AppliesDirect v file call way op (Ok (record { place = a.place; answer = a.answer })) w
Directs-as v file call way op a w within free (more, mid, others, sound, (may, is, d), last) now =
    let m = marked v call way in
    let e : w ≡ left (applied (entered m file more) file op) file = last ∙ ap (λ (x : BoardView). left x file) d in (
      Directs-unmarked v file call way op (record { place = a.place; answer = a.answer }) w (subst (λ (x : BoardView). Directs m file call way op (record { place = a.place; answer = a.answer }) x) (sym e) (directs m file more op a within free others is (subst (λ (x : BoardView). IsSoundBoard x file) e now))),
      subst (λ (x : BoardView). KeepsFloor v file (record { place = a.place; answer = a.answer }) x) (sym e) (floor-after m file more op a within others sound is),
    )
