-- What a guest has of a hold, as more lines are told.
use Rattle.std.proofs.Common.{◌≡◌, ◌∙◌, ap, sym, refl, ℕ, zero, suc, ◌≤◌, Bool, true, false, List, [], ◌∷◌, ◌++◌, length, take, zip, slice_get, Option, Some, None, option_map, arith, if◌then◌else◌}
use Rattle.std.specs.List.{list_any}
use Rattle.plain_text.specs.Options.{◌>>=◌}
use Rattle.dax_script.specs.declared.scripts.Call.{Call}
use Rattle.dax_script.specs.Asks.{place_of_hold}
use Rattle.transcript_text.specs.declared.transcripts.Numbered.{Numbered}
use Rattle.dax_audit.specs.declared.verdicts.Grant.{Grant}
use Rattle.dax_audit.specs.Guests.{grant_of, line_in, grant_in, releases, is_given_up, had_grant}
use Rattle.guest_run.specs.Runs.{Had, IsAskedBefore}
use Rattle.guest_run.proofs.Places.{none_is, front, front_same, bound, mapped}

there_else : {A : Type 0} (b : Bool) (o : Option A) (x : A) → (if b then None else o) ≡ Some x → (b ≡ false) × (o ≡ Some x)
there_else true o x e = absurd (none_is x e)
there_else false o x e = (refl, e)

-- the pairs before the end of the shorter list
zip_front : {A B : Type 0} (n : ℕ) (xs : List A) (ys more : List B) → n ≤ length ys → take n (zip xs (ys ++ more)) ≡ take n (zip xs ys)
zip_front zero xs ys more l = refl
zip_front (suc n) [] ys more l = refl
zip_front (suc n) (x ∷ xs) [] more l = absurd (omega arith)
zip_front (suc n) (x ∷ xs) (y ∷ ys) more l = ap (λ (zs : List _). (x, y) ∷ zs) (zip_front n xs ys more (omega arith))

-- what was given up before a line is so by the lines before it alone
pub given_up_front : (cs : List Call) (ls more : List Numbered) (hold n : ℕ) → n ≤ length ls → is_given_up cs (ls ++ more) hold n ≡ is_given_up cs ls hold n
given_up_front cs ls more hold n low = ap (λ (ps : List (Call × Numbered)). list_any (releases hold) ps) (zip_front n cs ls more low)

-- what a hold was granted stays so
granted_front : (cs : List Call) (ls more : List Numbered) (hold : ℕ) (g : Grant) → grant_in cs ls hold ≡ Some g → grant_in cs (ls ++ more) hold ≡ Some g
granted_front cs ls more hold g e =
    let a = bound (place_of_hold cs hold) (λ at. line_in ls at >>= grant_of) g e in
    let b = bound (line_in ls a.0) grant_of g a.2 in
    let c = mapped (λ (k : Numbered). k.line) (slice_get ls a.0) b.0 b.1 in
    ap (λ (o : Option ℕ). o >>= λ at. line_in (ls ++ more) at >>= grant_of) a.1
    ∙ (ap (λ (o : Option Numbered). option_map (λ (k : Numbered). k.line) o >>= grant_of) (front ls more a.0 c.0 c.1)
    ∙ (ap grant_of c.2 ∙ b.2))

-- a hold that was asked for before a line has the grant that the lines before tell
granted_before : (cs : List Call) (ls more : List Numbered) (hold n : ℕ) → IsAskedBefore cs n hold → n ≤ length ls → grant_in cs (ls ++ more) hold ≡ grant_in cs ls hold
granted_before cs ls more hold n a low =
    let lt = a.before in
    ap (λ (o : Option ℕ). o >>= λ at. line_in (ls ++ more) at >>= grant_of) a.place
    ∙ (ap (λ (o : Option Numbered). option_map (λ (k : Numbered). k.line) o >>= grant_of) (front_same ls more a.at (omega (arith, lt, low)))
    ∙ sym (ap (λ (o : Option ℕ). o >>= λ at. line_in ls at >>= grant_of) a.place))

-- a hold that the guest has was granted
pub had_granted : (cs : List Call) (ls : List Numbered) (n hold : ℕ) (g : Grant) → Had cs ls n hold g → grant_in cs ls hold ≡ Some g
had_granted cs ls n hold g e = (there_else (is_given_up cs ls hold n) (grant_in cs ls hold) g e).1

-- the guest had the hold before a line, whatever is told from it on
pub had_front : (cs : List Call) (ls more : List Numbered) (n hold : ℕ) (g : Grant) → n ≤ length ls → Had cs ls n hold g → Had cs (ls ++ more) n hold g
had_front cs ls more n hold g low e =
    let p = there_else (is_given_up cs ls hold n) (grant_in cs ls hold) g e in
    let kept : is_given_up cs (ls ++ more) hold n ≡ false = given_up_front cs ls more hold n low ∙ p.0 in
    let granted : grant_in cs (ls ++ more) hold ≡ Some g = granted_front cs ls more hold g p.1 in
    (λ i. if kept i then None else granted i)

-- or it hadn't
pub none_front : (cs : List Call) (ls more : List Numbered) (n hold : ℕ) → n ≤ length ls → IsAskedBefore cs n hold → had_grant cs ls hold n ≡ None → had_grant cs (ls ++ more) hold n ≡ None
none_front cs ls more n hold low asked none =
    (λ i. if given_up_front cs ls more hold n low i then None else granted_before cs ls more hold n asked low i) ∙ none
