-- What a small board of the tests keeps.
use Rattle.std.proofs.Common.{◌≡◌, ◌≢◌, ◌∙◌, ap, sym, subst, refl, ℕ, zero, suc, ◌+◌, ◌-◌, ◌<◌, ◌≤◌, ◌==◌, Bool, true, false, true≢false, not, ◌&&◌, nat_lt, arith, List, [], ◌∷◌, ◌++◌, append_assoc, length, slice_get, get_or, Option, Some, None, Ok, if◌then◌else◌}
use Rattle.std.proofs.Common.{inl, inr}
use Rattle.std.specs.Prelude.{All, IfSome}
use Rattle.std.proofs.lemmas.Bool.{cases_Bool}
use Rattle.std.proofs.lemmas.List.{append-nil, length-append}
use Rattle.std.proofs.lemmas.List.Elements.{All-nil, All-cons, All-append}
use Rattle.std.proofs.lemmas.Option.{slice_get_within, get_or_from_slice_get}
use Rattle.plain_file.specs.declared.operations.Applied.{Applied}
use Rattle.plain_file.specs.declared.operations.Entry.{Entry}
use Rattle.plain_file.specs.declared.operations.Mark.{Mark}
use Rattle.plain_file.specs.declared.operations.Op.{Op}
use Rattle.plain_file.specs.declared.refusals.RefusedBar.{RefusedBar}
use Rattle.plain_file.specs.File.{max_file, written, after}
use Rattle.plain_file.specs.History.{Past, whole_bytes, next_answer, grown}
use Rattle.plain_file.specs.Board.{FileView, BoardView, file_at, bytes_now, is_file, file_may_apply, may_apply, file_answer, Applies}
use Rattle.plain_file.specs.Sound.{IsPlaceOf, IsSoundBoard}
use Rattle.plain_file.proofs.Grows.{bytes-grown}
use Rattle.plain_file.proofs.Places.{length-written}
use Rattle.plain_file.specs.Turns.{Enters}
use Rattle.dax_host.specs.SharedBoards.{turn_file, had, turn_hands, turn_board, IsComing, Sees, IsTurnFile, falls}

-- a write lowers no size
written_longer : (b : List ℕ) (off : ℕ) (piece : List ℕ) → length b ≤ length (written b off piece)
written_longer b off [] = omega arith
written_longer b off (x ∷ xs) =
    let e = length-written b off (x ∷ xs) (λ h. cc) in omega (arith, e)

pub none_falls : (b : List ℕ) (off : ℕ) (piece : List ℕ) → false ≡ nat_lt (length (written b off piece)) (length b)
none_falls b off piece = grind (arith, written_longer b off piece)

-- ---- what was seen in parts was seen

pub sees_none : (guest : ℕ) (p : Past) → Sees guest p p
sees_none guest p = ([], All-nil (λ (e : Entry). e.guest ≢ guest), ap (λ (h : List Entry). record p { history = h }) (sym (append-nil p.history)))

pub sees_both : (guest : ℕ) (p q r : Past) → Sees guest p q → Sees guest q r → Sees guest p r
sees_both guest p q r (more, others, e) (again, too, h) = (
  more ++ again,
  All-append (λ (e : Entry). e.guest ≢ guest) more again others too,
  h ∙ ap (λ (x : Past). record x { history = x.history ++ again }) e ∙ ap (λ (x : List Entry). record p { history = x }) (append_assoc p.history more again),
)

-- ---- the one file

turn_at : (v : BoardView) (f : FileView) (file : ℕ) → v.files ≡ f ∷ [] → file < length v.files → file_at v file ≡ f
turn_at v f zero e within = rw e refl
turn_at v f (suc n) e within = absurd (let k : suc n < 1 = rw e at within in omega (arith, k))

pub turn_bytes : (v : BoardView) (past : Past) (own : List ℕ) (ready : Bool) (floor : Option ℕ) (refusals : ℕ) (refused : Option RefusedBar) (file : ℕ)
    → v.files ≡ turn_file past own ready floor refusals refused ∷ [] → file < length v.files → bytes_now (file_at v file) ≡ whole_bytes past
unfolding bytes_now
turn_bytes v past own ready floor refusals refused file e within = ap (λ (f : FileView). bytes_now f) (turn_at v (turn_file past own ready floor refusals refused) file e within)

pub turn_sound : (guest : ℕ) (mark : Mark) (turn bar : Bool) (leases : ℕ) (past : Past) (own : List ℕ) (ready : Bool) (floor : Option ℕ) (refusals : ℕ) (refused : Option RefusedBar) (coming : List Entry) (file : ℕ)
    → file < 1 → IsTurnFile guest bar leases floor past own coming → length (whole_bytes past) ≤ max_file
    → IsSoundBoard (turn_board guest mark (turn_hands turn bar leases) (turn_file past own ready floor refusals refused)) file
unfolding bytes_now
turn_sound guest mark turn bar leases past own ready floor refusals refused coming (suc n) within h small = absurd (omega (arith, within))
turn_sound guest mark turn bar leases past own ready floor refusals refused coming zero within h small = record {
  alone = λ e. refl;
  counted = refl;
  sound = record {
    ready = λ e. absurd (true≢false (sym e));
    own = h.places;
    rising = h.rising;
    notes = All-nil _;
    floor = λ e r. h.noted;
    small = small;
  };
}

-- ---- an operation

may_turn : (bar : Bool) (f : FileView) (op : Op) → (not bar && nat_lt (length (after (bytes_now f) op)) (length (bytes_now f))) ≡ false → file_may_apply false (is_file (had bar) 0) f op ≡ true
unfolding file_may_apply is_file
may_turn true f op h = refl
may_turn false f op h = ap not h

may_not_turn : (bar : Bool) (f : FileView) (op : Op) → (not bar && nat_lt (length (after (bytes_now f) op)) (length (bytes_now f))) ≡ true → file_may_apply false (is_file (had bar) 0) f op ≡ false
unfolding file_may_apply is_file
may_not_turn true f op h = absurd (true≢false (sym h))
may_not_turn false f op h = ap not h

pub turn_refuses : (guest : ℕ) (mark : Mark) (turn bar : Bool) (leases : ℕ) (past : Past) (own : List ℕ) (ready : Bool) (floor : Option ℕ) (refusals : ℕ) (refused : Option RefusedBar) (file : ℕ) (op : Op)
    → file < 1 → (not bar && falls past op) ≡ true → may_apply (turn_board guest mark (turn_hands turn bar leases) (turn_file past own ready floor refusals refused)) file op ≡ false
unfolding bytes_now
turn_refuses guest mark turn bar leases past own ready floor refusals refused (suc n) op within h = absurd (omega (arith, within))
turn_refuses guest mark turn bar leases past own ready floor refusals refused zero op within h = may_not_turn bar (turn_file past own ready floor refusals refused) op h

-- the entry that the board makes
abbrev pub own_entry : ℕ → Mark → Op → Entry
own_entry guest mark op = record { guest = guest; call = mark.call; op = op; way = mark.way }

pub turn_applies : (guest : ℕ) (mark : Mark) (turn bar : Bool) (leases : ℕ) (past : Past) (own : List ℕ) (ready : Bool) (floor : Option ℕ) (refusals : ℕ) (refused : Option RefusedBar) (file : ℕ) (op : Op) (a : Applied)
    → file < 1 → (not bar && falls past op) ≡ false → a ≡ next_answer past op
    → Applies (turn_board guest mark (turn_hands turn bar leases) (turn_file past own ready floor refusals refused)) file op (Ok a)
    (turn_board guest mark (turn_hands turn bar leases) (turn_file (grown past (own_entry guest mark op)) (own ++ length past.history ∷ []) false floor refusals refused))
unfolding bytes_now file_answer
turn_applies guest mark turn bar leases past own ready floor refusals refused (suc n) op a within may answer = absurd (omega (arith, within))
turn_applies guest mark turn bar leases past own ready floor refusals refused zero op a within may answer = (may_turn bar (turn_file past own ready floor refusals refused) op may, answer, refl)

-- ---- what holds of the file

-- places of a front
slice_get_front : {X : Type 0} (xs ys : List X) (i : ℕ) (x : X) → slice_get xs i ≡ Some x → slice_get (xs ++ ys) i ≡ Some x
slice_get_front [] ys i x e = absurd cc
slice_get_front (y ∷ xs) ys zero x e = e
slice_get_front (y ∷ xs) ys (suc i) x e = slice_get_front xs ys i x e

slice_get_less : {X : Type 0} (xs ys : List X) (i : ℕ) (x : X) → slice_get (xs ++ ys) i ≡ Some x → i < length xs → slice_get xs i ≡ Some x
slice_get_less [] ys i x e within = absurd (omega (arith, within))
slice_get_less (y ∷ xs) ys zero x e within = e
slice_get_less (y ∷ xs) ys (suc i) x e within = slice_get_less xs ys i x e (omega (arith, within))

slice_get_end : {X : Type 0} (xs : List X) (x : X) → slice_get (xs ++ x ∷ []) (length xs) ≡ Some x
slice_get_end [] x = refl
slice_get_end (y ∷ xs) x = slice_get_end xs x

-- places of a history are places of a longer one
place_grown : (guest : ℕ) (history more : List Entry) (place : ℕ) → IsPlaceOf guest history place → IsPlaceOf guest (history ++ more) place
place_grown guest history more place (e, at, own) = (e, slice_get_front history more place e at, own)

places_grown : (guest : ℕ) (history more : List Entry) (own : List ℕ) → All (IsPlaceOf guest history) own → All (IsPlaceOf guest (history ++ more)) own
places_grown guest history more own h k d within = place_grown guest history more _ (h k d within)

none_noted : (floor : Option ℕ) (n : ℕ) → floor ≡ None → IfSome floor (λ z. z ≤ n)
none_noted None n e = tt
none_noted (Some z) n e = absurd cc

longer_noted : (floor : Option ℕ) (m n : ℕ) → m ≤ n → IfSome floor (λ z. z ≤ m) → IfSome floor (λ z. z ≤ n)
longer_noted None m n h k = tt
longer_noted (Some z) m n h k = omega (arith, h, k)

seen_noted : (leases : ℕ) (floor : Option ℕ) (past new : Past) → (leases ≡ 0 → floor ≡ None) → (nat_lt 0 leases ≡ true → new ≡ past) → IfSome floor (λ z. z ≤ length (whole_bytes past)) → IfSome floor (λ z. z ≤ length (whole_bytes new))
seen_noted zero floor past new leased same h = none_noted floor (length (whole_bytes new)) (leased refl)
seen_noted (suc n) floor past new leased same h =
    let some : nat_lt 0 (suc n) ≡ true = grind arith in
    subst (λ (p : Past). IfSome floor (λ z. z ≤ length (whole_bytes p))) (sym (same some)) h

-- others' entries were seen while nothing is leased
pub seen_turn_file : (guest : ℕ) (bar : Bool) (leases : ℕ) (floor : Option ℕ) (past new : Past) (own : List ℕ) (coming rest : List Entry)
    → IsTurnFile guest bar leases floor past own coming → (nat_lt 0 leases ≡ true → new ≡ past) → Sees guest past new → All (IsComing guest) rest → IsTurnFile guest bar leases floor new own rest
seen_turn_file guest bar leases floor past new own coming rest h same (more, others, e) later = record {
  places = rw e (places_grown guest past.history more own h.places);
  rising = h.rising;
  noted = seen_noted leases floor past new h.leased same h.noted;
  leased = h.leased;
  barred = h.barred;
  others = later;
}

had_none : (bar : Bool) → had bar ≡ None → bar ≡ true → ⊥
had_none true h e = absurd cc
had_none false h e = absurd (true≢false (sym e))

pub leased_turn_file : (guest : ℕ) (bar : Bool) (leases : ℕ) (floor : Option ℕ) (past : Past) (own : List ℕ) (coming : List Entry) (size : ℕ)
    → IsTurnFile guest bar leases floor past own coming → had bar ≡ None → size ≡ length (whole_bytes past) → IsTurnFile guest bar (leases + 1) (Some size) past own coming
leased_turn_file guest bar leases floor past own coming size h unbarred e = record {
  places = h.places;
  rising = h.rising;
  noted = omega (arith, e);
  leased = λ k. absurd (omega (arith, k));
  barred = λ k. absurd (had_none bar unbarred k);
  others = h.others;
}

kept_noted : (one : Bool) (floor : Option ℕ) (n : ℕ) → IfSome floor (λ z. z ≤ n) → IfSome (if one then None else floor) (λ z. z ≤ n)
kept_noted true floor n h = tt
kept_noted false floor n h = h

one_less : (n : ℕ) (floor : Option ℕ) → 0 < n → n - 1 ≡ 0 → (if n == 1 then None else floor) ≡ None
one_less n floor some none = let e : n ≡ 1 = omega (arith, some, none) in rw e refl

pub unleased_turn_file : (guest : ℕ) (bar : Bool) (leases : ℕ) (floor : Option ℕ) (past : Past) (own : List ℕ) (coming : List Entry)
    → IsTurnFile guest bar leases floor past own coming → 0 < leases → IsTurnFile guest bar (leases - 1) (if leases == 1 then None else floor) past own coming
unleased_turn_file guest bar leases floor past own coming h some = record {
  places = h.places;
  rising = h.rising;
  noted = kept_noted (leases == 1) floor _ h.noted;
  leased = one_less leases floor some;
  barred = λ e. omega (arith, h.barred e);
  others = h.others;
}

pub barred_turn_file : (guest : ℕ) (bar now : Bool) (leases : ℕ) (floor : Option ℕ) (past : Past) (own : List ℕ) (coming : List Entry)
    → IsTurnFile guest bar leases floor past own coming → (now ≡ true → leases ≡ 0) → IsTurnFile guest now leases floor past own coming
barred_turn_file guest bar now leases floor past own coming h barred = record {
  places = h.places;
  rising = h.rising;
  noted = h.noted;
  leased = h.leased;
  barred = barred;
  others = h.others;
}

-- ---- one entry more

own_place : (guest : ℕ) (history : List Entry) (e : Entry) → e.guest ≡ guest → IsPlaceOf guest (history ++ e ∷ []) (length history)
own_place guest history e own = (e, slice_get_end history e, own)

-- each own place is below the history's length
place_below : (guest : ℕ) (history : List Entry) (own : List ℕ) (i p : ℕ) → All (IsPlaceOf guest history) own → slice_get own i ≡ Some p → p < length history
place_below guest history own i p h at =
    let within = slice_get_within own i p at in
    let (e, found, is) = h i p within in
    let same : get_or own i p ≡ p = get_or_from_slice_get own i p p at in
    rw same at (slice_get_within history (get_or own i p) e found)

same_number : (o : Option ℕ) (m n : ℕ) → o ≡ Some m → o ≡ Some n → m ≡ n
same_number o m n e h = cc

rising_more : (own : List ℕ) (end : ℕ) → ((i j p q : ℕ) → i < j → slice_get own i ≡ Some p → slice_get own j ≡ Some q → p < q) → ((i p : ℕ) → slice_get own i ≡ Some p → p < end)
    → (i j p q : ℕ) → i < j → slice_get (own ++ end ∷ []) i ≡ Some p → slice_get (own ++ end ∷ []) j ≡ Some q → p < q
rising_more own end rising below i j p q before at_i at_j =
    let inside : j < length own + 1 = rw length-append at (slice_get_within (own ++ end ∷ []) j q at_j) in
    let first : slice_get own i ≡ Some p = slice_get_less own (end ∷ []) i p at_i (omega (arith, before, inside)) in
    elim (cases_Bool (nat_lt j (length own))) [
      | inl low ↦ rising i j p q before first (slice_get_less own (end ∷ []) j q at_j (grind (arith, low)))
      | inr high ↦
          let at : j ≡ length own = grind (arith, high, inside) in
          let found : slice_get (own ++ end ∷ []) j ≡ Some end = rw at (slice_get_end own end) in
          let last : q ≡ end = same_number (slice_get (own ++ end ∷ []) j) q end at_j found in
          rw last (below i p first)
    ]

grown_noted : (bar : Bool) (leases : ℕ) (floor : Option ℕ) (m n : ℕ) → (bar ≡ true → leases ≡ 0) → (leases ≡ 0 → floor ≡ None) → (not bar && nat_lt n m) ≡ false → IfSome floor (λ z. z ≤ m) → IfSome floor (λ z. z ≤ n)
grown_noted true leases floor m n barred leased may h = none_noted floor n (leased (barred refl))
grown_noted false leases floor m n barred leased may h =
    let below : nat_lt n m ≡ false = may in
    longer_noted floor m n (grind (arith, below)) h

pub grown_turn_file : (guest : ℕ) (bar : Bool) (leases : ℕ) (floor : Option ℕ) (past : Past) (own : List ℕ) (coming : List Entry) (e : Entry)
    → IsTurnFile guest bar leases floor past own coming → e.guest ≡ guest → (not bar && falls past e.op) ≡ false → IsTurnFile guest bar leases floor (grown past e) (own ++ length past.history ∷ []) coming
grown_turn_file guest bar leases floor past own coming e h is may = record {
  places = All-append (IsPlaceOf guest (past.history ++ e ∷ [])) own (length past.history ∷ []) (places_grown guest past.history (e ∷ []) own h.places)
      (All-cons (IsPlaceOf guest (past.history ++ e ∷ [])) (length past.history) [] (own_place guest past.history e is) (All-nil (IsPlaceOf guest (past.history ++ e ∷ []))));
  rising = rising_more own (length past.history) h.rising (λ i p at. place_below guest past.history own i p h.places at);
  noted = rw (bytes-grown past.first past.history e) (grown_noted bar leases floor (length (whole_bytes past)) (length (after (whole_bytes past) e.op)) h.barred h.leased may h.noted);
  leased = h.leased;
  barred = h.barred;
  others = h.others;
}

-- ---- the turn

pub turn_enters : (guest : ℕ) (mark : Mark) (turn bar : Bool) (leases : ℕ) (past new : Past) (own : List ℕ) (ready : Bool) (floor : Option ℕ) (refusals : ℕ) (refused : Option RefusedBar) (file : ℕ)
    → file < 1 → Sees guest past new
    → Enters (turn_board guest mark (turn_hands turn bar leases) (turn_file past own ready floor refusals refused)) file (turn_board guest mark (turn_hands true bar leases) (turn_file new own true floor refusals refused))
turn_enters guest mark turn bar leases past new own ready floor refusals refused (suc n) within sees = absurd (omega (arith, within))
turn_enters guest mark turn bar leases past new own ready floor refusals refused zero within (more, others, e) =
    (more, record { others = others; plain = λ k. absurd (true≢false (sym k)) }, rw e refl)
