-- One call more of a guest: what it has seen then, and which holds it gave up.
use Rattle.std.proofs.Common.{◌≡◌, ◌∙◌, ap, sym, refl, ℕ, zero, suc, ◌+◌, ◌<◌, min, Bool, true, false, if◌then◌else◌, ◌&&◌, ◌||◌, eqb, List, [], ◌∷◌, ◌++◌, take, length, set, get_or, zip, slice_get, Option, Some, None, IfSome, option_map, inl, inr, length-set, get_or-set_same, get_or-set_other, arith}
use Rattle.std.proofs.lemmas.Option.{none-some, slice_get-map}
use Rattle.std.proofs.lemmas.Bool.{cases_Bool, eqb-true, eqb-false}
use Rattle.std.specs.List.{list_any}
use Rattle.dax_script.specs.declared.scripts.Call.{Call}
use Rattle.dax_script.specs.declared.scripts.Call.TheVariants as calls
use Rattle.dax_script.specs.declared.asks.Target.{Target}
use Rattle.dax_script.specs.Asks.{target, hold_in}
use Rattle.transcript_text.specs.declared.transcripts.Line.{Line}
use Rattle.transcript_text.specs.declared.transcripts.Numbered.{Numbered}
use Rattle.dax_audit.specs.Guests.{place_of, is_file, place_on, places_on, after_places, seen_before, is_released, is_release, releases, is_given_up, seen_at, given_at, seen_now, given_now, noted, given_back}
use Rattle.dax_audit.proofs.Singles.{zip_some}

pub take_get : {X : Type 0} (xs : List X) (i : ℕ) (x : X) → slice_get xs i ≡ Some x → take (i + 1) xs ≡ take i xs ++ x ∷ []
take_get [] i x h = absurd (none-some x h)
take_get (y ∷ ys) zero x h = let e : y ≡ x = cc in ap (λ z. z ∷ []) e
take_get (y ∷ ys) (suc i) x h = let k : suc i + 1 ≡ suc (i + 1) = omega arith in rw k (ap (λ zs. y ∷ zs) (take_get ys i x h))

pub length_zip : {A B : Type 0} (xs : List A) (ys : List B) → length (zip xs ys) ≡ min (length xs) (length ys)
length_zip [] ys = omega arith
length_zip (x ∷ xs) [] = omega arith
length_zip (x ∷ xs) (y ∷ ys) = omega (arith, length_zip xs ys)

abbrev after_one : ℕ → Option ℕ → ℕ
after_one seen None = seen
after_one seen (Some p) = p + 1

after_more : (seen : ℕ) (ps : List (Option ℕ)) (p : Option ℕ) → after_places seen (ps ++ p ∷ []) ≡ after_one (after_places seen ps) p
unfolding after_places
after_more seen [] None = refl
after_more seen [] (Some q) = refl
after_more seen (None ∷ ps) p = after_more seen ps p
after_more seen (Some q ∷ ps) p = after_more (q + 1) ps p

seen_more : (cs : List Call) (ls : List Numbered) (file call : ℕ) (c : Call) (n : Numbered) → slice_get cs call ≡ Some c → slice_get ls call ≡ Some n →
    seen_before cs ls file (call + 1) ≡ after_one (seen_before cs ls file call) (place_on cs file (c, n))
seen_more cs ls file call c n at there =
    let here : slice_get (places_on cs ls file) call ≡ Some (place_on cs file (c, n)) = slice_get-map (place_on cs file) (zip cs ls) call ∙ ap (option_map (place_on cs file)) (zip_some cs ls call c n at there) in
    ap (after_places 0) (take_get (places_on cs ls file) call (place_on cs file (c, n)) here) ∙ after_more 0 (take call (places_on cs ls file)) (place_on cs file (c, n))

noted_at : (last : List ℕ) (to : Option Target) (place : Option ℕ) (f : ℕ) → IfSome to (λ x. x.file < length last) → get_or (noted last to place) f 0 ≡ after_one (get_or last f 0) (if is_file f to then place else None)
unfolding noted
noted_at last None place f small = refl
noted_at last (Some to) None f small = elim (cases_Bool (eqb to.file f)) [ inl e ↦ rw e refl | inr e ↦ rw e refl ]
noted_at last (Some to) (Some p) f small = elim (cases_Bool (eqb to.file f)) [
  | inl e ↦ let same : to.file ≡ f = eqb-true to.file f e in rw e (ap (λ k. get_or (set last to.file (p + 1)) k 0) (sym same) ∙ get_or-set_same last to.file (p + 1) 0 small)
  | inr e ↦ rw e (get_or-set_other last to.file f (p + 1) 0 (λ (h : f ≡ to.file). eqb-false to.file f e (sym h)))
]

pub noted_length : (last : List ℕ) (to : Option Target) (place : Option ℕ) → length (noted last to place) ≡ length last
unfolding noted
noted_length last None place = refl
noted_length last (Some to) None = refl
noted_length last (Some to) (Some p) = length-set last to.file (p + 1)

pub seen_on : (cs : List Call) (ls : List Numbered) (call : ℕ) (c : Call) (n : Numbered) (last : List ℕ) (to : Option Target) (place : Option ℕ) (f : ℕ) → slice_get cs call ≡ Some c → slice_get ls call ≡ Some n →
    to ≡ target cs c → place ≡ place_of n.line → IfSome to (λ x. x.file < length last) → get_or last f 0 ≡ seen_before cs ls f call → get_or (noted last to place) f 0 ≡ seen_before cs ls f (call + 1)
seen_on cs ls call c n last to place f at there e p small before =
    noted_at last to place f small
    ∙ ap (λ m. after_one m (if is_file f to then place else None)) before
    ∙ ap (λ (o : Option Target). after_one (seen_before cs ls f call) (if is_file f o then place else None)) e
    ∙ ap (λ q. after_one (seen_before cs ls f call) (if is_file f (target cs c) then q else None)) p
    ∙ sym (seen_more cs ls f call c n at there)

pub seen_found : (cs : List Call) (ls : List Numbered) (call : ℕ) (c : Call) (last : List ℕ) (to : Option Target) → slice_get cs call ≡ Some c → to ≡ target cs c → IfSome to (λ x. x.file < length last) →
    ((f : ℕ) → f < length last → get_or last f 0 ≡ seen_before cs ls f call) → seen_now last to ≡ seen_at cs ls call
unfolding seen_at seen_now
seen_found cs ls call c last None at e small before = rw (at, ← e) refl
seen_found cs ls call c last (Some to) at e small before = rw (at, ← e) (before to.file small)

any_more : {X : Type 0} (test : X → Bool) (xs : List X) (x : X) → list_any test (xs ++ x ∷ []) ≡ (list_any test xs || test x)
any_more test [] x = elim (test x) as (λ b. (b || false) ≡ b) [ true ↦ refl | false ↦ refl ]
any_more test (y ∷ ys) x = elim (cases_Bool (test y)) [ inl e ↦ rw e refl | inr e ↦ rw e (any_more test ys x) ]

or_true : (b : Bool) → (b || true) ≡ true
or_true true = refl
or_true false = refl

or_false : (b : Bool) → (b || false) ≡ b
or_false true = refl
or_false false = refl

back_at : (rel : List Bool) (c : Call) (l : Line) (h : ℕ) → h < length rel → get_or (given_back rel c l) h false ≡ (get_or rel h false || (is_release h c && is_released l))
unfolding given_back is_release
back_at rel (calls.Release hold) l h small = elim (cases_Bool (is_released l)) [
  | inl e ↦ elim (cases_Bool (eqb hold h)) [
    | inl k ↦ let same : hold ≡ h = eqb-true hold h k in rw (e, k) (ap (λ i. get_or (set rel i true) h false) same ∙ get_or-set_same rel h true false small ∙ sym (or_true (get_or rel h false)))
    | inr k ↦ rw (e, k) (get_or-set_other rel hold h true false (λ (q : h ≡ hold). eqb-false hold h k (sym q)) ∙ sym (or_false (get_or rel h false)))
  ]
  | inr e ↦ rw e (elim (eqb hold h) as (λ b. get_or rel h false ≡ (get_or rel h false || (b && false))) [ true ↦ sym (or_false (get_or rel h false)) | false ↦ sym (or_false (get_or rel h false)) ])
]
back_at rel (calls.Read file off len) l h small = sym (or_false (get_or rel h false))
back_at rel (calls.Write file off bytes) l h small = sym (or_false (get_or rel h false))
back_at rel (calls.Fill file off len byte) l h small = sym (or_false (get_or rel h false))
back_at rel (calls.Size file) l h small = sym (or_false (get_or rel h false))
back_at rel (calls.Truncate file size) l h small = sym (or_false (get_or rel h false))
back_at rel (calls.Hold file chunk mode) l h small = sym (or_false (get_or rel h false))
back_at rel (calls.Load hold off len) l h small = sym (or_false (get_or rel h false))
back_at rel (calls.Store hold off bytes) l h small = sym (or_false (get_or rel h false))

pub back_length : (rel : List Bool) (c : Call) (l : Line) → length (given_back rel c l) ≡ length rel
unfolding given_back
back_length rel (calls.Release hold) l = elim (cases_Bool (is_released l)) [ inl e ↦ rw e (length-set rel hold true) | inr e ↦ rw e refl ]
back_length rel (calls.Read file off len) l = refl
back_length rel (calls.Write file off bytes) l = refl
back_length rel (calls.Fill file off len byte) l = refl
back_length rel (calls.Size file) l = refl
back_length rel (calls.Truncate file size) l = refl
back_length rel (calls.Hold file chunk mode) l = refl
back_length rel (calls.Load hold off len) l = refl
back_length rel (calls.Store hold off bytes) l = refl

pub given_on : (cs : List Call) (ls : List Numbered) (call : ℕ) (c : Call) (n : Numbered) (rel : List Bool) (h : ℕ) → slice_get cs call ≡ Some c → slice_get ls call ≡ Some n → h < length rel →
    get_or rel h false ≡ is_given_up cs ls h call → get_or (given_back rel c n.line) h false ≡ is_given_up cs ls h (call + 1)
given_on cs ls call c n rel h at there small before =
    back_at rel c n.line h small
    ∙ ap (λ b. b || (is_release h c && is_released n.line)) before
    ∙ sym (any_more (releases h) (take call (zip cs ls)) (c, n))
    ∙ ap (list_any (releases h)) (sym (take_get (zip cs ls) call (c, n) (zip_some cs ls call c n at there)))

pub given_found : (cs : List Call) (ls : List Numbered) (call : ℕ) (c : Call) (rel : List Bool) (hold : Option ℕ) → slice_get cs call ≡ Some c → hold ≡ hold_in c → IfSome hold (λ h. h < length rel) →
    ((h : ℕ) → h < length rel → get_or rel h false ≡ is_given_up cs ls h call) → given_now rel hold ≡ given_at cs ls call
unfolding given_at given_now
given_found cs ls call c rel None at e small before = rw (at, ← e) refl
given_found cs ls call c rel (Some h) at e small before = rw (at, ← e) (before h small)
