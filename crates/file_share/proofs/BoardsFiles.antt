-- What a deed makes of a file as a board shows it, and of what was noted.
use Rattle.std.proofs.Common.{◌≡◌, ◌≢◌, ◌∙◌, ap, sym, subst, refl, ℕ, zero, suc, ◌+◌, ◌-◌, ◌<◌, ◌≤◌, ◌==◌, ◌&&◌, arith, Bool, true, false, List, [], ◌∷◌, ◌++◌, map, length, slice_get, Option, Some, None, is_none, is_some, true≢false, option_map, if◌then◌else◌, eq-eqb, ne_eqb}
use Rattle.std.specs.Prelude.{All, IfSome}
use Rattle.std.proofs.lemmas.Option.{same_Some, slice_get-map, slice_get_within}
use Rattle.std.proofs.lemmas.List.{length-append, length-map, map-append}
use mathlib.Core.Logic.{dite}
use native.Mathlib.Decide.{ℕ_discrete}
use Rattle.plain_file.specs.declared.operations.Entry.{Entry}
use Rattle.plain_file.specs.declared.operations.First.{First}
use Rattle.plain_file.specs.declared.refusals.RefusedBar.{RefusedBar}
use Rattle.plain_file.specs.Board.{with_own, with_note}
use Rattle.plain_file.specs.Counts.{more_by_one}
use Rattle.plain_file.specs.Turns.{closed, seen_file, leased_file}
use Rattle.files_core.specs.declared.rows.Note.{Note as CoreNote}
use Rattle.files_core.specs.Files.{ended_at, with_entry, note, noted_left}
use Rattle.files_core.specs.Shown.{Shown}
use Rattle.file_share.specs.Table.{Refusal}
use Rattle.file_share.specs.Known.{whole_of, taken_part, applied_part, given_part, noted_part, leased_part, unleased_part}
use Rattle.file_share.specs.Places.{places_of}
use Rattle.file_share.specs.Boards.{note_of, size_noted, floor_after, file_of, refusals_of, refused_of, IsFloored}
use Rattle.file_share.proofs.BoardsCore.{noted_under}
use Rattle.file_share.proofs.Listing.{places_others, places_own, front_get, end_get}

-- ---- what is known of the notes

got : (ns : List CoreNote) (k : ℕ) → k < length ns → (n : CoreNote) × (slice_get ns k ≡ Some n)
got [] k near = absurd (omega (arith, near))
got (n ∷ ns) zero near = (n, refl)
got (n ∷ ns) (suc k) near = got ns k (omega (arith, near))

had : (o : Option ℕ) → is_some o ≡ true → (z : ℕ) × (o ≡ Some z)
had None e = absurd (true≢false (sym e))
had (Some z) e = (z, refl)

module _ (made k : ℕ) (m : Shown) (was : IsFloored made k m) (some : 0 < m.leases) where
  -- under a lease there are its note and a noted end
  pub floor_note : (n : CoreNote) × (z : ℕ) × (slice_get m.notes k ≡ Some n) × (m.noted ≡ Some z) × (n.size ≤ z)
  floor_note =
      let (n, at) = got m.notes k (was.there some) in
      let (z, end) = had m.noted (was.ended some) in
      (n, z, at, end, was.under some n z at end)

-- ---- notes

closed_one : (n size lower : ℕ) (upper : Option ℕ) → note_of (ended_at n (record { size = size; lower = lower; upper = upper })) ≡ closed n (note_of (record { size = size; lower = lower; upper = upper }))
closed_one n size lower None = refl
closed_one n size lower (Some u) = refl

notes_closed : (n : ℕ) (xs : List CoreNote) → map note_of (map (ended_at n) xs) ≡ map (closed n) (map note_of xs)
notes_closed n [] = refl
notes_closed n (x ∷ xs) = let one = closed_one n x.size x.lower x.upper in let rest = notes_closed n xs in λ i. one i ∷ rest i

sizes_kept : (n : ℕ) (xs : List CoreNote) (k : ℕ) → option_map size_noted (slice_get (map (ended_at n) xs) k) ≡ option_map size_noted (slice_get xs k)
sizes_kept n [] k = refl
sizes_kept n (x ∷ xs) zero = refl
sizes_kept n (x ∷ xs) (suc k) = sizes_kept n xs k

-- ---- floors

none_where : (n : ℕ) (o : Option ℕ) → n ≡ 0 → (if n == 0 then None else o) ≡ None
none_where n o z = ap (λ b. if b then None else o) (eq-eqb n 0 z)

some_where : (n : ℕ) (o : Option ℕ) → 0 < n → (if n == 0 then None else o) ≡ o
some_where n o some = ap (λ b. if b then None else o) (ne_eqb n 0 (λ e. absurd (omega (arith, some, e))))

one_fewer : (n : ℕ) (o : Option ℕ) → 0 < n → (if n - 1 == 0 then None else o) ≡ (if n == 1 then None else (if n == 0 then None else o))
one_fewer n o some = dite (ℕ_discrete n 1)
    (λ e. none_where (n - 1) o (omega (arith, e)) ∙ sym (ap (λ b. if b then None else (if n == 0 then None else o)) (eq-eqb n 1 e)))
    (λ ne. some_where (n - 1) o (omega (arith, some, ne)) ∙ sym (ap (λ b. if b then None else (if n == 0 then None else o)) (ne_eqb n 1 ne) ∙ some_where n o some))

-- a floor is as it was where a note is added
floor_kept : (made k z : ℕ) (m : Shown) → IsFloored made k m → floor_after k (noted_part z m) ≡ floor_after k m
floor_kept made k z m was = dite (ℕ_discrete m.leases 0)
    (λ e. none_where m.leases (option_map size_noted (slice_get (noted_part z m).notes k)) e ∙ sym (none_where m.leases (option_map size_noted (slice_get m.notes k)) e))
    (λ ne. let (n, y, at, end, low) = floor_note made k m was (omega (arith, ne)) in
    ap (λ o. if m.leases == 0 then None else option_map size_noted o) (front_get m.notes (note z (length (whole_of m)) ∷ []) k n at ∙ sym at))

module _ (g : ℕ) (first : First) (f : ℕ) (noted : List Refusal) where
  -- the turn was taken, and more was seen
  pub file_entered : (k : ℕ) (m : Shown) (more : List Entry) → m.applied ≡ None → All (λ e. e.guest ≢ g) more → file_of g first (taken_part more m) k f noted ≡ seen_file (file_of g first m k f noted) more
  file_entered k m more bare others =
      let seen : m.seen ≡ whole_of m = sym (ap (with_entry m.seen) bare) in
      let history : m.seen ++ more ≡ whole_of m ++ more = ap (λ (h : List Entry). h ++ more) seen in
      let own : places_of g (m.seen ++ more) ≡ places_of g (whole_of m) = places_others g 0 m.seen more others ∙ ap (places_of g) seen in
      let floor = ap (λ o. if m.leases == 0 then None else o) (sizes_kept (length (m.seen ++ more)) m.notes k) in
      let notes = notes_closed (length (m.seen ++ more)) m.notes ∙ ap (λ (h : List Entry). map (closed (length h)) (map note_of m.notes)) history in
      λ i. record {
        first = first;
        history = history i;
        own = own i;
        ready = true;
        floor = floor i;
        notes = notes i;
        refusals = refusals_of f noted;
        refused = refused_of f noted;
      }

  -- it was given back
  pub file_left : (k : ℕ) (m : Shown) → file_of g first (given_part m) k f noted ≡ record (file_of g first m k f noted) { ready = false }
  file_left k m = refl

  and_off : (b : Bool) → (b && false) ≡ false
  and_off true = refl
  and_off false = refl

  -- an operation was applied
  pub file_applied : (k : ℕ) (m : Shown) (e : Entry) → m.applied ≡ None → e.guest ≡ g → file_of g first (applied_part e m) k f noted ≡ with_own false e (file_of g first m k f noted)
  file_applied k m e bare is =
      let seen : m.seen ≡ whole_of m = sym (ap (with_entry m.seen) bare) in
      let history : m.seen ++ e ∷ [] ≡ whole_of m ++ e ∷ [] = ap (λ (h : List Entry). h ++ e ∷ []) seen in
      let near : 0 + length m.seen ≡ length m.seen = omega arith in
      let own : places_of g (m.seen ++ e ∷ []) ≡ places_of g (whole_of m) ++ length (whole_of m) ∷ [] =
      places_own g 0 m.seen e is ∙ (ap (λ n. places_of g m.seen ++ n ∷ []) near ∙ ap (λ (h : List Entry). places_of g h ++ length h ∷ []) seen) in
      let ready = and_off m.turn in
      λ i. record {
        first = first;
        history = history i;
        own = own i;
        ready = ready i;
        floor = floor_after k m;
        notes = map note_of m.notes;
        refusals = refusals_of f noted;
        refused = refused_of f noted;
      }

  notes_more : (z : ℕ) (m : Shown) → map note_of (noted_part z m).notes ≡ map note_of m.notes ++ record { size = z; lower = length (whole_of m); upper = None } ∷ []
  notes_more z m = map-append note_of m.notes (note z (length (whole_of m)) ∷ [])

  -- the size was noted
  pub file_noted : (made k z : ℕ) (m : Shown) → IsFloored made k m → file_of g first (noted_part z m) k f noted ≡ with_note z (file_of g first m k f noted)
  file_noted made k z m was =
      let floor = floor_kept made k z m was in
      let notes = notes_more z m in
      λ i. record {
        first = first;
        history = whole_of m;
        own = places_of g (whole_of m);
        ready = m.turn && is_none m.applied;
        floor = floor i;
        notes = notes i;
        refusals = refusals_of f noted;
        refused = refused_of f noted;
      }

  -- and under a new lease
  pub file_leased : (k n z : ℕ) (m : Shown) → n ≡ length m.notes → file_of g first (noted_part z (leased_part m)) n f noted ≡ leased_file true z (file_of g first m k f noted)
  file_leased k n z m is =
      let note_now : CoreNote = note z (length (whole_of m)) in
      let floor : floor_after n (noted_part z (leased_part m)) ≡ Some z =
      some_where (m.leases + 1) (option_map size_noted (slice_get (m.notes ++ note_now ∷ []) n)) (omega arith)
      ∙ ap (λ o. option_map size_noted o) (ap (slice_get (m.notes ++ note_now ∷ [])) is ∙ end_get m.notes note_now) in
      let notes = notes_more z m in
      λ i. record {
        first = first;
        history = whole_of m;
        own = places_of g (whole_of m);
        ready = m.turn && is_none m.applied;
        floor = floor i;
        notes = notes i;
        refusals = refusals_of f noted;
        refused = refused_of f noted;
      }

  -- a lease was given back
  pub file_unleased : (k : ℕ) (m : Shown) → 0 < m.leases → file_of g first (unleased_part m) k f noted ≡ record (file_of g first m k f noted) { floor = if m.leases == 1 then None else floor_after k m }
  file_unleased k m some =
      let floor = one_fewer m.leases (option_map size_noted (slice_get m.notes k)) some in
      λ i. record (file_of g first m k f noted) { floor = floor i }

  -- a bar was refused
  pub file_refused : (k count : ℕ) (m : Shown) → file_of g first m k f (record { file = f; count = count; own = m.leases } ∷ noted)
      ≡ record (file_of g first m k f noted) { refusals = more_by_one (refusals_of f noted); refused = Some (record { count = count; own = m.leases }) }
  file_refused k count m =
      let now : RefusedBar = record { count = count; own = m.leases } in
      let refusals = ap (λ b. if b then more_by_one (refusals_of f noted) else refusals_of f noted) (eq-eqb f f refl) in
      let refused = ap (λ b. if b then Some now else refused_of f noted) (eq-eqb f f refl) in
      λ i. record (file_of g first m k f noted) { refusals = refusals i; refused = refused i }

  -- on another file
  pub file_unrefused : (k n count own : ℕ) (m : Shown) → n ≢ f → file_of g first m k f (record { file = n; count = count; own = own } ∷ noted) ≡ file_of g first m k f noted
  file_unrefused k n count own m ne =
      let now : RefusedBar = record { count = count; own = own } in
      let refusals = ap (λ b. if b then more_by_one (refusals_of f noted) else refusals_of f noted) (ne_eqb n f ne) in
      let refused = ap (λ b. if b then Some now else refused_of f noted) (ne_eqb n f ne) in
      λ i. record (file_of g first m k f noted) { refusals = refusals i; refused = refused i }

-- ---- what stays of the notes

left_same : (n : ℕ) (o : Option ℕ) → 0 < n → noted_left n o ≡ o
left_same zero o some = absurd (omega (arith, some))
left_same (suc n) o some = refl

-- the note after so many, and what was noted last
floored_by : (made k : ℕ) (m : Shown) → made ≡ length m.notes → (0 < m.leases → (n : CoreNote) × (z : ℕ) × (slice_get m.notes k ≡ Some n) × (m.noted ≡ Some z) × (n.size ≤ z)) → IsFloored made k m
floored_by made k m counted under = record {
  counted = counted;
  there = λ some. let (n, z, at, end, low) = under some in slice_get_within m.notes k n at;
  ended = λ some. let (n, z, at, end, low) = under some in ap (λ (o : Option ℕ). is_some o) end;
  under = λ some x y at_x end_y. let (n, z, at, end, low) = under some in
      let size : n.size ≡ x.size = ap size_noted (same_Some n x (sym at ∙ at_x)) in
      let last : z ≡ y = same_Some z y (sym end ∙ end_y) in
      omega (arith, low, size, last);
}

module _ (made k : ℕ) (m : Shown) (was : IsFloored made k m) where
  -- where leases, the noted end and notes are as they were
  pub floored_same : (x : Shown) → x.leases ≡ m.leases → x.noted ≡ m.noted → x.notes ≡ m.notes → IsFloored made k x
  floored_same x leases noted notes = floored_by made k x
      (was.counted ∙ sym (ap (λ (ns : List CoreNote). length ns) notes))
      (λ some. let (n, z, at, end, low) = floor_note made k m was (subst (λ j. 0 < j) leases some) in (n, z, ap (λ (ns : List CoreNote). slice_get ns k) notes ∙ at, noted ∙ end, low))

  pub floored_entered : (more : List Entry) → IsFloored made k (taken_part more m)
  floored_entered more = let far = length (m.seen ++ more) in floored_by made k (taken_part more m)
      (was.counted ∙ sym (length-map m.notes (ended_at far)))
      (λ some. let (n, z, at, end, low) = floor_note made k m was some in (ended_at far n, z, slice_get-map (ended_at far) m.notes k ∙ ap (option_map (ended_at far)) at, end, low))

  pub floored_noted : (z : ℕ) → (0 < m.leases → IfSome m.noted (λ y. y ≤ z)) → IsFloored (made + 1) k (noted_part z m)
  floored_noted z rises = let now : CoreNote = note z (length (whole_of m)) in floored_by (made + 1) k (noted_part z m)
      (ap (λ n. n + 1) was.counted ∙ sym (length-append m.notes (now ∷ [])))
      (λ some. let (n, y, at, end, low) = floor_note made k m was some in
      let above : y ≤ z = subst (λ (o : Option ℕ). IfSome o (λ x. x ≤ z)) end (rises some) in
      (n, z, front_get m.notes (now ∷ []) k n at, noted_under m.leases z m.noted some, omega (arith, low, above)))

  pub floored_leased : (z : ℕ) → IsFloored (made + 1) made (noted_part z (leased_part m))
  floored_leased z = let now : CoreNote = note z (length (whole_of m)) in floored_by (made + 1) made (noted_part z (leased_part m))
      (ap (λ n. n + 1) was.counted ∙ sym (length-append m.notes (now ∷ [])))
      (λ some. (now, z, ap (slice_get (m.notes ++ now ∷ [])) was.counted ∙ end_get m.notes now, noted_under (m.leases + 1) z m.noted some, omega arith))

  pub floored_unleased : IsFloored made k (unleased_part m)
  floored_unleased = floored_by made k (unleased_part m) was.counted
      (λ some. let (n, z, at, end, low) = floor_note made k m was (omega (arith, some)) in (n, z, at, left_same (m.leases - 1) m.noted some ∙ end, low))
