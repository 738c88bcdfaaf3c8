-- The numbers of a guest's holds, and what it has of them after one more line.
use Rattle.std.proofs.Common.{◌≡◌, ◌≢◌, ◌∙◌, ap, sym, refl, ℕ, zero, suc, ◌+◌, ◌||◌, Bool, true, false, true≢false, List, [], ◌∷◌, ◌++◌, length, take, zip, slice_get, Option, Some, None, option_map, arith, if◌then◌else◌}
use Rattle.std.proofs.Math.Bool.{or-false}
use Rattle.std.proofs.lemmas.List.Folds.{list_any_more}
use Rattle.std.proofs.lemmas.Option.{get_or_from_slice_get}
use mathlib.Core.Logic.{dite}
use native.Mathlib.Decide.{ℕ_discrete}
use Rattle.plain_text.specs.Options.{◌>>=◌}
use Rattle.dax_script.specs.declared.scripts.Call.{Call}
use Rattle.dax_script.specs.Asks.{is_hold, hold_places, place_of_hold}
use Rattle.transcript_text.specs.declared.transcripts.Numbered.{Numbered}
use Rattle.dax_audit.specs.declared.verdicts.Grant.{Grant}
use Rattle.dax_audit.specs.Guests.{grant_of, line_in, grant_in, releases, is_given_up, had_grant}
use Rattle.guest_run.proofs.Places.{none_is, some_is, within, last_at, in_zip}
use Rattle.guest_run.proofs.Granting.{given_up_front}

-- ---- the numbers of holds

-- one more call
more_if : (b : Bool) (a k : ℕ) (xs ys : List ℕ) → length xs ≡ length ys + k → length (if b then a ∷ xs else xs) ≡ length (if b then a ∷ ys else ys) + k
more_if true a k xs ys e = omega (arith, e)
more_if false a k xs ys e = e

one_more_if : (b : Bool) (a : ℕ) → length (if b then a ∷ [] else []) ≡ (if b then 1 else 0)
one_more_if true a = refl
one_more_if false a = refl

-- one more call counts where it is a hold
pub asked_more : (a : ℕ) (xs : List Call) (c : Call) → length (hold_places a (xs ++ c ∷ [])) ≡ length (hold_places a xs) + (if is_hold c then 1 else 0)
unfolding hold_places
asked_more a [] c = one_more_if (is_hold c) a ∙ omega arith
asked_more a (x ∷ xs) c = more_if (is_hold x) a (if is_hold c then 1 else 0) (hold_places (a + 1) (xs ++ c ∷ [])) (hold_places (a + 1) xs) (asked_more (a + 1) xs c)

at_if : (b : Bool) (a p : ℕ) (xs ys : List ℕ) → slice_get xs (length ys) ≡ Some p → slice_get (if b then a ∷ xs else xs) (length (if b then a ∷ ys else ys)) ≡ Some p
at_if true a p xs ys e = e
at_if false a p xs ys e = e

first_if : (b : Bool) (a : ℕ) (xs : List ℕ) → b ≡ true → slice_get (if b then a ∷ xs else xs) 0 ≡ Some a
first_if true a xs e = refl
first_if false a xs e = absurd (true≢false (sym e))

-- a hold's number is how many were asked for before it
pub number_of : (a p at : ℕ) (xs : List Call) (c : Call) → p ≡ a + at → slice_get xs at ≡ Some c → is_hold c ≡ true → slice_get (hold_places a xs) (length (hold_places a (take at xs))) ≡ Some p
unfolding hold_places
number_of a p at [] c e made is = absurd (none_is c made)
number_of a p zero (x ∷ xs) c e made is = first_if (is_hold x) a (hold_places (a + 1) xs) (ap is_hold (some_is x c made) ∙ is) ∙ ap Some (omega (arith, e))
number_of a p (suc at) (x ∷ xs) c e made is = at_if (is_hold x) a p (hold_places (a + 1) xs) (hold_places (a + 1) (take at xs)) (number_of (a + 1) p at xs c (omega (arith, e)) made is)

-- the call of a hold, of calls counted from this number on
pub record IsHoldAt (a hold p : ℕ) (xs : List Call) : Type 0 where
  pub at : ℕ
  pub call : Call
  pub place : p ≡ a + at
  pub made : slice_get xs at ≡ Some call
  pub holds : is_hold call ≡ true
  pub number : hold ≡ length (hold_places a (take at xs))

hold_in_front : (a hold p : ℕ) (x : Call) (xs : List Call) (b : Bool) → is_hold x ≡ b → ((k : ℕ) → slice_get (hold_places (a + 1) xs) k ≡ Some p → IsHoldAt (a + 1) k p xs)
    → slice_get (if b then a ∷ hold_places (a + 1) xs else hold_places (a + 1) xs) hold ≡ Some p → IsHoldAt a hold p (x ∷ xs)
unfolding hold_places
hold_in_front a zero p x xs true is later e = record { at = 0; call = x; place = (let z : a ≡ p = some_is a p e in omega (arith, z)); made = refl; holds = is; number = refl }
hold_in_front a (suc hold) p x xs true is later e =
    let k = later hold e in
    let z = k.place in
    record { at = suc k.at; call = k.call; place = omega (arith, z); made = k.made; holds = k.holds; number = ap suc k.number ∙ (λ i. length (if sym is i then a ∷ hold_places (a + 1) (take k.at xs) else hold_places (a + 1) (take k.at xs))) }
hold_in_front a hold p x xs false is later e =
    let k = later hold e in
    let z = k.place in
    record { at = suc k.at; call = k.call; place = omega (arith, z); made = k.made; holds = k.holds; number = k.number ∙ (λ i. length (if sym is i then a ∷ hold_places (a + 1) (take k.at xs) else hold_places (a + 1) (take k.at xs))) }

pub hold_at : (a hold p : ℕ) (xs : List Call) → slice_get (hold_places a xs) hold ≡ Some p → IsHoldAt a hold p xs
unfolding hold_places
hold_at a hold p [] e = absurd (none_is p e)
hold_at a hold p (x ∷ xs) e = hold_in_front a hold p x xs (is_hold x) refl (λ k f. hold_at (a + 1) k p xs f) e

-- ---- one more line

get_else : {A : Type 0} (xs : List A) (x : A) (i : ℕ) → i ≢ length xs → slice_get (xs ++ x ∷ []) i ≡ slice_get xs i
get_else [] x zero apart = absurd (apart refl)
get_else [] x (suc i) apart = refl
get_else (y ∷ xs) x zero apart = refl
get_else (y ∷ xs) x (suc i) apart = get_else xs x i (λ e. apart (ap suc e))

get_past : {A : Type 0} (xs : List A) → slice_get xs (length xs) ≡ None
get_past [] = refl
get_past (y ∷ xs) = get_past xs

or_no : (a b : Bool) → b ≡ false → (a || b) ≡ a
or_no a b e = ap (λ (x : Bool). a || x) e ∙ or-false a

or_yes : (a b : Bool) → b ≡ true → (a || b) ≡ true
or_yes true b e = refl
or_yes false b e = e

module _ (cs : List Call) (ls : List Numbered) (c : Call) (l : Numbered) (made : slice_get cs (length ls) ≡ Some c) where
  -- what the line at this place grants
  abbrev told_at : List Numbered → ℕ → Option Grant
  told_at ks at = line_in ks at >>= grant_of

  told_else : (at : ℕ) → at ≢ length ls → told_at (ls ++ l ∷ []) at ≡ told_at ls at
  told_else at apart = ap (λ (o : Option Numbered). option_map (λ k. k.line) o >>= grant_of) (get_else ls l at apart)

  told_new : told_at (ls ++ l ∷ []) (length ls) ≡ grant_of l.line
  told_new = ap (λ (o : Option Numbered). option_map (λ k. k.line) o >>= grant_of) (last_at ls l)

  told_not : told_at ls (length ls) ≡ None
  told_not = ap (λ (o : Option Numbered). option_map (λ k. k.line) o >>= grant_of) (get_past ls)

  grant_from : (o : Option ℕ) → (o ≡ Some (length ls) → grant_of l.line ≡ None) → (o >>= told_at (ls ++ l ∷ [])) ≡ (o >>= told_at ls)
  grant_from None none = refl
  grant_from (Some at) none = dite (ℕ_discrete at (length ls))
      (λ e. ap (told_at (ls ++ l ∷ [])) e ∙ (told_new ∙ (none (ap Some e) ∙ (sym told_not ∙ ap (told_at ls) (sym e)))))
      (λ apart. told_else at apart)

  -- a line grants no hold but its call's
  pub grant_kept : (hold : ℕ) → (place_of_hold cs hold ≡ Some (length ls) → grant_of l.line ≡ None) → grant_in cs (ls ++ l ∷ []) hold ≡ grant_in cs ls hold
  grant_kept hold none = grant_from (place_of_hold cs hold) none

  pub grant_new : (hold : ℕ) → place_of_hold cs hold ≡ Some (length ls) → grant_in cs (ls ++ l ∷ []) hold ≡ grant_of l.line
  grant_new hold place = ap (λ (o : Option ℕ). o >>= told_at (ls ++ l ∷ [])) place ∙ told_new

  -- what is given up by it and the lines before
  given_more : (hold : ℕ) → is_given_up cs (ls ++ l ∷ []) hold (length ls + 1) ≡ (is_given_up cs ls hold (length ls) || releases hold (c, l))
  given_more hold =
      let here = in_zip cs (ls ++ l ∷ []) (length ls) c l made (last_at ls l) in
      let lt = within (zip cs (ls ++ l ∷ [])) (length ls) (c, l) here in
      list_any_more (releases hold) (zip cs (ls ++ l ∷ [])) (length ls) (c, l) lt
      ∙ (λ i. given_up_front cs ls (l ∷ []) hold (length ls) (omega arith) i || releases hold (get_or_from_slice_get (zip cs (ls ++ l ∷ [])) (length ls) (c, l) (c, l) here i))

  -- the guest has the same of a hold that the line neither grants nor gives up
  pub had_kept : (hold : ℕ) → (place_of_hold cs hold ≡ Some (length ls) → grant_of l.line ≡ None) → releases hold (c, l) ≡ false → had_grant cs (ls ++ l ∷ []) hold (length ls + 1) ≡ had_grant cs ls hold (length ls)
  had_kept hold none keeps = λ i. if (given_more hold ∙ or_no (is_given_up cs ls hold (length ls)) (releases hold (c, l)) keeps) i then None else grant_kept hold none i

  -- and nothing of one that it gives up
  pub had_released : (hold : ℕ) → releases hold (c, l) ≡ true → had_grant cs (ls ++ l ∷ []) hold (length ls + 1) ≡ None
  had_released hold gives = λ i. if (given_more hold ∙ or_yes (is_given_up cs ls hold (length ls)) (releases hold (c, l)) gives) i then None else grant_in cs (ls ++ l ∷ []) hold

  -- and what it grants, of a hold that wasn't given up
  pub had_new : (hold : ℕ) (g : Grant) → place_of_hold cs hold ≡ Some (length ls) → is_given_up cs ls hold (length ls) ≡ false → releases hold (c, l) ≡ false → grant_of l.line ≡ Some g → had_grant cs (ls ++ l ∷ []) hold (length ls + 1) ≡ Some g
  had_new hold g place kept keeps grants = λ i. if (given_more hold ∙ (or_no (is_given_up cs ls hold (length ls)) (releases hold (c, l)) keeps ∙ kept)) i then None else (grant_new hold place ∙ grants) i
