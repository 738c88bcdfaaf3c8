-- Forgetting the noted looks, and listing them.
use Rattle.std.proofs.Common.{◌≡◌, ◌∙◌, ap, sym, refl, subst, ℕ, zero, suc, ◌+◌, ◌<◌, Bool, true, false, ◌&&◌, nat_lt, List, [], ◌∷◌, ◌++◌, length, take, get_or, Option, None, Some, arith, ◌-◌, ◌^◌, is_some, ◌≤◌}
use Rattle.std.specs.Prelude.{if◌then◌else◌}
use Rattle.std.specs.List.{list_all}
use Rattle.std.proofs.lemmas.Grind.{common_steps}
use Rattle.plain_file.specs.Counts.{more_by_one}
use Rattle.page_map.specs.declared.ranges.Look.{Look}
use Rattle.page_map.specs.Board.{MapView, Noted}
use Rattle.range_tree.specs.Ranges.{range_count, is_noted_blocked, has_swept, forgot}
use Rattle.guest_dax.specs.Looks.{SomeUnblocked, NoLooks, looks_from, look_of}
use Rattle.guest_dax.specs.Stands.{KeepsMap}
use Rattle.guest_dax.specs.Reclaims.{Forgets}
use Rattle.std.specs.Option.{option_map}
use Rattle.page_map.specs.declared.ranges.RangeWord.{RangeWord}
use Rattle.guest_dax.proofs.Keeping.{KeepsMap-same}

and-false : (b : Bool) → (b && false) ≡ false
and-false true = refl
and-false false = refl

not-all : {X : Type 0} (p : X → Bool) (xs : List X) (i : ℕ) (d : X) → i < length xs → p (get_or xs i d) ≡ false → list_all p xs ≡ false
not-all p [] i d h e = absurd (omega arith)
not-all p (x ∷ xs) zero d h e = rw e refl
not-all p (x ∷ xs) (suc i) d h e = rw (not-all p xs i d (omega arith) e) (and-false (p x))

pub KeepsMap-forgot : (v w : MapView) → w ≡ forgot v → KeepsMap v w
KeepsMap-forgot v w e =
    let same = KeepsMap-same v in
    subst (λ (m : MapView). KeepsMap v m) (sym e) (record { plain = refl; over = refl; guest = refl; may_take = refl; others = refl; pages = refl; count = refl; files = refl; logs = same.logs; pins = same.pins; pinned = same.pinned })

pub hands-forgot : (v w : MapView) → w ≡ forgot v → w.hands ≡ v.hands
hands-forgot v w e = ap (λ (m : MapView). m.hands) e

pub NoLooks-forgot : (v w : MapView) → w ≡ forgot v → NoLooks w
NoLooks-forgot v w e = subst (λ (m : MapView). NoLooks m) (sym e) refl

later-by : (b : Bool) (n m : ℕ) → n ≤ 2 ^ 64 - 1 → m ≡ (if b then more_by_one n else n) → n ≤ m
later-by true n m most e = omega (arith, most, e)
later-by false n m most e = omega (arith, e)

pub later-forgot : (v w : MapView) → w ≡ forgot v → v.ranges.sweeps ≤ 2 ^ 64 - 1 → v.ranges.sweeps ≤ w.ranges.sweeps
later-forgot v w e most = later-by (has_swept is_some v) v.ranges.sweeps w.ranges.sweeps most (ap (λ (m : MapView). m.ranges.sweeps) e)

pub Forgets-some : (v w : MapView) → length v.ranges.looks ≡ range_count v → SomeUnblocked v → w ≡ forgot v → Forgets v w
Forgets-some v w long (range, within, seen) e =
    let none : list_all is_noted_blocked v.ranges.looks ≡ false = not-all is_noted_blocked v.ranges.looks range None (omega (arith, within, long)) seen in
    let stays : (forgot v).ranges.rounds ≡ v.ranges.rounds = rw none (rw (and-false (nat_lt 0 (range_count v))) refl) in
    record { keeps = KeepsMap-forgot v w e; hands = hands-forgot v w e; later = later-forgot v w e; logs = ap (λ (m : MapView). m.ranges.logs) e; looks = NoLooks-forgot v w e; rounds = ap (λ (m : MapView). m.ranges.rounds) e ∙ stays }

-- ---- the list of the looks

looks_from-append : (n : ℕ) (xs ys : List (Option Noted)) → looks_from n (xs ++ ys) ≡ looks_from n xs ++ looks_from (n + length xs) ys
unfolding looks_from
looks_from-append n [] ys = ap (λ k. looks_from k ys) (omega arith)
looks_from-append n (None ∷ xs) ys = looks_from-append (n + 1) xs ys ∙ ap (λ k. looks_from (n + 1) xs ++ looks_from k ys) (omega arith)
looks_from-append n (Some a ∷ xs) ys = ap (λ l. record { range = n; word = a.word } ∷ l) (looks_from-append (n + 1) xs ys ∙ ap (λ k. looks_from (n + 1) xs ++ looks_from k ys) (omega arith))

take-more : (xs : List (Option Noted)) (k : ℕ) → k < length xs → take (k + 1) xs ≡ take k xs ++ get_or xs k None ∷ []
take-more xs k within = grind (arith, common_steps)

looks-more : (xs : List (Option Noted)) (k : ℕ) → k < length xs → looks_from 0 (take (k + 1) xs) ≡ looks_from 0 (take k xs) ++ looks_from k (get_or xs k None ∷ [])
looks-more xs k within =
    let long : 0 + length (take k xs) ≡ k = grind (arith, common_steps) in
    ap (looks_from 0) (take-more xs k within) ∙ looks_from-append 0 (take k xs) (get_or xs k None ∷ []) ∙ ap (λ n. looks_from 0 (take k xs) ++ looks_from n (get_or xs k None ∷ [])) long

look-one : (k : ℕ) (o : Option Noted) → looks_from k (o ∷ []) ≡ look_of k (option_map (λ (n : Noted). n.word) o)
unfolding looks_from look_of
look-one k None = refl
look-one k (Some n) = refl

pub looks-next : (xs : List (Option Noted)) (k : ℕ) (word : Option RangeWord) (before after : List Look) → k < length xs → word ≡ option_map (λ (n : Noted). n.word) (get_or xs k None) → before ≡ looks_from 0 (take k xs) → after ≡ before ++ look_of k word → after ≡ looks_from 0 (take (k + 1) xs)
looks-next xs k word before after within w b a = a ∙ ap (λ l. l ++ look_of k word) b ∙ ap (λ o. looks_from 0 (take k xs) ++ look_of k o) w ∙ ap (λ l. looks_from 0 (take k xs) ++ l) (sym (look-one k (get_or xs k None))) ∙ sym (looks-more xs k within)
